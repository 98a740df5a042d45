use Rattle.std.proofs.Common.{arith}
use Rattle.std.proofs.lemmas.Nat.{ones-le}
use Rattle.event_masks.proofs.words.ones_of.Goals as goal

pub returns-clause-small : goal.returns-clause-small
returns-clause-small c = ones-le 32 c.args.word (omega arith)
