use Rattle.std.proofs.Common.{◌≡◌, ◌∙◌, Some, length, sym, ap, arith}
use Rattle.std.specs.Prelude.{slice_get}
use Rattle.std.proofs.lemmas.Option.{slice_get_within}
use Rattle.teapot_tree.specs.declared.protocol.Handler.{Handler}
use Rattle.handler_code.specs.Doors.{handlers_at, locals_of}
use Rattle.handler_vm.proofs.Finding.{state_there}
use Rattle.handler_vm.proofs.Tabling.{item_is, place_is, place_some, place_there}
use Rattle.handler_vm.proofs.doors.entry_for.Goals as goal

pub place-requires : goal.place-requires
place-requires c =
    place_there c.args.p.now c.args.code.now c.args.doors.now c.requires.doors c.args.state c.args.kind c.requires.known
    (state_there c.args.p.now c.args.code.now c.args.state c.args.kind c.requires.order c.requires.opens)

pub bounds-items-from : goal.bounds-items-from
bounds-items-from c =
    let at = place_is c.args.p.now c.args.code.now c.args.doors.now c.requires.doors c.args.state c.args.kind c.requires.known
    c.place.result c.in-Some.place c.place.ensures c.in-Some.is in
    omega (
      arith,
      slice_get_within c.args.code.now.doors c.in-Some.place.door at.door at.is_door,
      ap length c.items.ensures,
      c.from.ensures,
    )

pub handlers_at-requires : goal.handlers_at-requires
handlers_at-requires c = state_there c.args.p.now c.args.code.now c.args.state c.args.kind c.requires.order c.requires.opens

pub bounds-handlers_at-from : goal.bounds-handlers_at-from
bounds-handlers_at-from c =
    let at = place_is c.args.p.now c.args.code.now c.args.doors.now c.requires.doors c.args.state c.args.kind c.requires.known
    c.place.result c.in-Some.place c.place.ensures c.in-Some.is in
    omega (
      arith,
      slice_get_within (handlers_at (slice_get c.args.p.now.states c.args.state)) c.in-Some.place.handler
          at.handler at.is_handler,
      ap length c.handlers_at.ensures,
      c.from-in-Some.ensures,
    )

pub unreachable-requires : goal.unreachable-requires
unreachable-requires c =
    place_some c.args.p.now c.args.code.now c.args.doors.now c.requires.doors c.args.state c.args.kind c.requires.known
    c.place.result c.place.ensures c.requires.opens c.in-None.is

pub returns-clause-door : goal.returns-clause-door
returns-clause-door c =
    let at = place_is c.args.p.now c.args.code.now c.args.doors.now c.requires.doors c.args.state c.args.kind c.requires.known
    c.place.result c.in-Some.place c.place.ensures c.in-Some.is in
    at.leads.door
    ∙ ap Some (sym (item_is c.items.result.now c.args.code.now.doors c.from.result c.in-Some.place.door at.door _
    c.items.ensures c.from.ensures at.is_door))

pub returns-clause-locals : goal.returns-clause-locals
returns-clause-locals c =
    let at = place_is c.args.p.now c.args.code.now c.args.doors.now c.requires.doors c.args.state c.args.kind c.requires.known
    c.place.result c.in-Some.place c.place.ensures c.in-Some.is in
    let door = item_is c.items.result.now c.args.code.now.doors c.from.result c.in-Some.place.door at.door _ c.items.ensures
    c.from.ensures at.is_door in
    let handler : c.index-handlers_at-from.result ≡ at.handler =
    c.index-handlers_at-from.is ∙ item_is c.handlers_at.result.now
    (handlers_at (slice_get c.args.p.now.states c.args.state)) c.from-in-Some.result c.in-Some.place.handler at.handler _
    c.handlers_at.ensures c.from-in-Some.ensures at.is_handler in
    ap (λ (h : Handler). h.locals) handler ∙ at.leads.locals ∙ ap (locals_of c.args.p.now) (sym door)

pub returns-clause-declared : goal.returns-clause-declared
returns-clause-declared c = state_there c.args.p.now c.args.code.now c.args.state c.args.kind c.requires.order c.requires.opens
