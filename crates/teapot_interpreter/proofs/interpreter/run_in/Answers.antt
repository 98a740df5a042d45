use Rattle.std.proofs.Common.{◌≡◌, None, sym}
use Rattle.teapot_meaning.specs.Does.{state_of}
use Rattle.teapot_meaning.specs.Handlers.{HasDefault}
use Rattle.teapot_meaning.proofs.Handling.{all_at, handler_found, not_both}
use Rattle.teapot_interpreter.proofs.interpreter.run_in.Goals as goal

pub unreachable-requires : goal.unreachable-requires
unreachable-requires c =
    let has = all_at HasDefault c.args.p.now.states c.from.result c.in-Some.state.now c.requires.served.defaults
    (sym c.in-Some.ensures.value) in
    handler_found _ _ c.in-Some.state.now has (sym c.in-None-handler.ensures)

pub unreachable-requires-in-None : goal.unreachable-requires-in-None
unreachable-requires-in-None c =
    let none : state_of c.args.p.now c.args.here.now ≡ None = rw c.from.ensures at (sym c.in-None.ensures.value) in
    not_both (state_of c.args.p.now c.args.here.now) c.requires.state none
