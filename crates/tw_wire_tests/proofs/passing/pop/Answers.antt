use Rattle.std.proofs.Common.{rules, ◌≡◌}
use Rattle.tw_wire_tests.proofs.Tying.{tied-at, tied-set}
use Rattle.tw_wire_tests.proofs.passing.pop.Goals as goal

pub pop_from-requires-clause-ends : goal.pop_from-requires-clause-ends
pop_from-requires-clause-ends g c =
    let same : c.from.result ≡ c.args.route.now.to = search rules in
    tied-at c.args.wires.now c.args.ends.now.items c.args.route.now.to c.from.result c.index_mut.result.now c.requires.tied
    same c.requires.to c.index_mut.ensures.value

pub returns : goal.returns
returns g c =
    let same : c.from.result ≡ c.args.route.now.to = search rules in
    tied-set c.args.wires.now c.args.ends.now.items c.args.route.now.to c.from.result c.pop_from.new.ends c.requires.tied
    same c.pop_from.ensures
