use Rattle.std.proofs.Common.{◌∙◌, ◌+◌, length, refl, sym, ap, arith}
use Rattle.handler_vm.proofs.Finding.{doors_there, found_none, found_place, place_few}
use Rattle.handler_vm.proofs.search.place_of.Goals as goal

pub doors_from-doors-requires : goal.doors_from-doors-requires
doors_from-doors-requires c =
    let there = doors_there c.args.p.now c.args.code.now c.args.state c.first_door-first.result c.requires.order
    c.requires.declared c.first_door-first.ensures in
    omega (arith, there, ap length c.handlers_at.ensures, ap length c.items.ensures)

pub overflow_cast-result : goal.overflow_cast-result
overflow_cast-result c =
    let few = place_few c.args.p.now c.args.code.now c.args.state c.first_door-first.result
    (length c.handlers_at.result.now) c.requires.order c.requires.declared c.first_door-first.ensures
    (ap length c.handlers_at.ensures) c.doors_from-doors.result.now c.items.result.now c.items.ensures
    c.doors_from-doors.ensures
    c.args.kind c.in-Some.place c.protocol-protocol.ensures.accepted (sym c.place_for.ensures ∙ c.in-Some.is) in
    omega (arith, few)

pub overflow_cast-result-in-Some : goal.overflow_cast-result-in-Some
overflow_cast-result-in-Some c =
    let few = place_few c.args.p.now c.args.code.now c.args.state c.first_door-first.result
    (length c.handlers_at.result.now) c.requires.order c.requires.declared c.first_door-first.ensures
    (ap length c.handlers_at.ensures) c.doors_from-doors.result.now c.items.result.now c.items.ensures
    c.doors_from-doors.ensures
    c.args.kind c.in-Some.place c.protocol-protocol.ensures.accepted (sym c.place_for.ensures ∙ c.in-Some.is) in
    omega (arith, few)

pub returns-in-Some : goal.returns-in-Some
returns-in-Some c =
    found_place c.args.p.now c.args.code.now c.args.state c.first_door-first.result
    (length c.handlers_at.result.now) c.requires.order c.requires.declared c.first_door-first.ensures
    (ap length c.handlers_at.ensures) c.doors_from-doors.result.now c.items.result.now c.items.ensures
    c.doors_from-doors.ensures
    c.args.kind (record { door = c.first_door-first.result + c.in-Some.place; handler = c.in-Some.place }) c.in-Some.place
    (sym c.place_for.ensures ∙ c.in-Some.is) refl refl

pub returns-in-None : goal.returns-in-None
returns-in-None c =
    found_none c.args.p.now c.args.code.now c.args.state c.first_door-first.result
    (length c.handlers_at.result.now) c.requires.order c.requires.declared c.first_door-first.ensures
    (ap length c.handlers_at.ensures) c.doors_from-doors.result.now c.items.result.now c.items.ensures
    c.doors_from-doors.ensures
    c.args.kind (sym c.place_for.ensures ∙ c.in-None.is)
