use Rattle.std.proofs.Common.{◌≡◌, ◌-◌, ◌≤◌, true}
use Rattle.code_walks.specs.Stacks.{depth_at, is_unserved}
use Rattle.code_walks.proofs.Leasts.{NoneBefore}
use Rattle.code_walks.proofs.stacks.first_unserved.Given as goal

abbrev pub invariant-loop-at : goal.invariant-loop-at
invariant-loop-at l = record {
  depth : l.depth ≡ depth_at l.p l.code l.fn.part.door.at (l.at - l.fn.part.door.at);
  small : l.depth ≤ l.at - l.fn.part.door.at;
  none : NoneBefore l.fn.part.door.at l.at (λ k. is_unserved l.p l.code l.fn.part k ≡ true);
}
