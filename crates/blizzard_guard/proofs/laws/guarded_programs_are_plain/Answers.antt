use Rattle.std.proofs.Common.{add-one}
use Rattle.blizzard_guard.proofs.Ops.{plain_first, plain_of-guarded}
use Rattle.blizzard_guard.proofs.Standing.{ops_from}
use Rattle.blizzard_guard.proofs.laws.guarded_programs_are_plain.Goals as goal

pub returns-clause-plain : goal.returns-clause-plain
returns-clause-plain c = plain_of-guarded

pub returns-clause-places : goal.returns-clause-places
returns-clause-places c = plain_first

pub returns-clause-checked : goal.returns-clause-checked
returns-clause-checked c = λ p k i e. rw (add-one k) (ops_from p k i e)
