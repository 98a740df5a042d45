use Rattle.std.proofs.Common.{◌≡◌, ◌++◌, take}
use Rattle.code_text.specs.Texts.{ops_text}
use Rattle.code_text.proofs.ops.add_ops.Given as goal

abbrev pub invariant-loop-i : goal.invariant-loop-i
invariant-loop-i l = l.out ≡ l.initial.out ++ ops_text l.names.protocol.now l.at (take l.i l.ops)
