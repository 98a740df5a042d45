use Rattle.std.proofs.Common.{◌≡◌, drop}
use Rattle.mini_asm.specs.Assembled.{code_line}
use Rattle.mini_asm.proofs.labels.code_line.Given as goal

abbrev pub invariant-loop-w : goal.invariant-loop-w
invariant-loop-w l = code_line l.left (drop l.w-index l.written) ≡ code_line l.number l.written
