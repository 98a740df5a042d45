use Rattle.std.proofs.Common.{◌∙◌, length, sym, ap, arith}
use Rattle.std.proofs.lemmas.List.{length-take-le}
use Rattle.handler_vm.proofs.Finding.{few_handlers}
use Rattle.handler_vm.proofs.search.first_door.Goals as goal

pub slice_bounds-handlers_in-end : goal.slice_bounds-handlers_in-end
slice_bounds-handlers_in-end c =
    let all = ap (λ q. q.states) c.protocol.ensures.value in
    sym (length-take-le c.from.result c.items-states.result.now
    (omega (arith, c.requires, ap length c.items-states.ensures, ap length all, c.from.ensures)))

pub handlers_in-requires : goal.handlers_in-requires
handlers_in-requires c =
    few_handlers c.args.p.now c.from.result c.items-states.result.now c.protocol.ensures.accepted
    (c.items-states.ensures ∙ ap (λ q. q.states) c.protocol.ensures.value)
