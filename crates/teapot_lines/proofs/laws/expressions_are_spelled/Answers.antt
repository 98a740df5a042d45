use Rattle.std.proofs.Common.{[], refl}
use Rattle.teapot_lines.specs.declared.reader.Next.TheVariants.{Expr as Begin}
use Rattle.teapot_lines.proofs.Sound.{from-fronts}
use Rattle.teapot_lines.proofs.Spells.{read_spelled}
use Rattle.teapot_lines.proofs.laws.expressions_are_spelled.Goals as goal

pub returns : goal.returns
returns c = record { found = λ ts. from-fronts ts [] Begin [] refl; again = read_spelled }
