use Rattle.std.proofs.Common.{◌≡◌, length, map}
use Rattle.teapot_lines.specs.Seen.{seen}
use Rattle.teapot_lines.specs.Reading.{read_from, read}
use Rattle.teapot_lines.proofs.reader.read_expr.Given as goal

abbrev pub invariant-tokens : goal.invariant-tokens
invariant-tokens l = read_from l.held l.next (map (seen l.profile) l.rest) ≡ read (map (seen l.profile) l.tokens)

abbrev pub decreases-tokens : goal.decreases-tokens
decreases-tokens l = length l.rest
