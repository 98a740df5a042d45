use Rattle.std.proofs.Common.{◌*◌, arith}
use Rattle.std.proofs.lemmas.Nat.{one_shl}
use Rattle.node_parts.proofs.Masking.{tests_are, tests_small}
use Rattle.node_parts.proofs.masks.tests_word.Goals as goal

pub returns-clause-tests : goal.returns-clause-tests
returns-clause-tests c = tests_are (2 * c.args.nodes) c.args.early _ _ _ c.args.instruction c.args.redelivery
    (omega (arith, c.requires)) c.from.ensures c.from-2.ensures (one_shl (2 * c.args.nodes) 32 (omega (arith, c.requires)))

pub returns-clause-small : goal.returns-clause-small
returns-clause-small c = tests_small (2 * c.args.nodes) c.args.early _ _ _ c.args.instruction c.args.redelivery c.from.ensures
    c.from-2.ensures (one_shl (2 * c.args.nodes) 32 (omega (arith, c.requires)))
