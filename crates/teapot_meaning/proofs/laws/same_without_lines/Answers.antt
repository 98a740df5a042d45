use Rattle.teapot_meaning.proofs.Lines.{does-bare}
use Rattle.teapot_meaning.proofs.laws.same_without_lines.Goals as goal

pub returns : goal.returns
returns c = does-bare
