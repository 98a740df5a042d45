use Rattle.std.proofs.Common.{rules, ◌≡◌}
use Rattle.tw_wire_tests.proofs.Tying.{tied-at, tied-set}
use Rattle.tw_wire_tests.proofs.passing.push.Goals as goal

pub push_to-requires-clause-ends : goal.push_to-requires-clause-ends
push_to-requires-clause-ends g c =
    let same : c.from.result ≡ c.args.message.now.from = search rules in
    tied-at c.args.wires.now c.args.ends.now.items c.args.message.now.from c.from.result c.index_mut.result.now c.requires.tied
    same c.requires.from c.index_mut.ensures.value

pub returns : goal.returns
returns g c =
    let same : c.from.result ≡ c.args.message.now.from = search rules in
    tied-set c.args.wires.now c.args.ends.now.items c.args.message.now.from c.from.result c.push_to.new.ends c.requires.tied
    same c.push_to.ensures
