use Rattle.stache_l_inv.proofs.FewCopies.{copies_are_few}
use Rattle.stache_l_inv.proofs.laws.copies_are_few.Goals as goal

pub returns : goal.returns
returns c = copies_are_few
