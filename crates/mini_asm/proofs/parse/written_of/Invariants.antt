use Rattle.std.proofs.Common.{◌≡◌, drop}
use Rattle.std.specs.Prelude.{All}
use Rattle.mini_asm.specs.Assembled.{IsForm, written_of}
use Rattle.mini_asm.proofs.Fronts.{with_front}
use Rattle.mini_asm.proofs.parse.written_of.Given as goal

abbrev pub invariant-loop-line : goal.invariant-loop-line
invariant-loop-line l =
    (with_front l.written.items (written_of l.version (drop l.line-index l.lines)) ≡ written_of l.version l.lines)
    × All (λ w. IsForm w.form) l.written.items
