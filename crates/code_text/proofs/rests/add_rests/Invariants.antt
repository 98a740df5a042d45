use Rattle.std.proofs.Common.{◌≡◌, ◌++◌, take}
use Rattle.code_text.specs.Texts.{rests_text}
use Rattle.code_text.proofs.rests.add_rests.Given as goal

abbrev pub invariant-loop-number : goal.invariant-loop-number
invariant-loop-number l = l.out ≡ l.initial.out ++ rests_text l.door (take l.number l.rests)
