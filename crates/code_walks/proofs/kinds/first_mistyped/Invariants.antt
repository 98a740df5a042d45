use Rattle.std.proofs.Common.{◌≡◌, ◌-◌, true}
use Rattle.code_walks.specs.Kinds.{is_mistyped, types_before}
use Rattle.code_walks.proofs.Leasts.{NoneBefore}
use Rattle.code_walks.proofs.kinds.first_mistyped.Given as goal

abbrev pub invariant-loop-at : goal.invariant-loop-at
invariant-loop-at l = record {
  stack : l.stack ≡ types_before l.p l.code l.slots l.fn.part.door.at (l.at - l.fn.part.door.at);
  none : NoneBefore l.fn.part.door.at l.at (λ k. is_mistyped l.p l.code l.slots l.fn.part.door.at k ≡ true);
}
