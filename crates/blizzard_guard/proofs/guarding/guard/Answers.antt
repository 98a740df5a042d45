use Rattle.blizzard_guard.proofs.Ops.{guarded_is}
use Rattle.blizzard_guard.proofs.guarding.guard.Goals as goal

pub returns : goal.returns
returns c =
    guarded_is c.args.program.now c.instrs-instrs.result.now c.deref.result.now c.in_ok-starts.starts.items
    c.in_ok-ops_of.field-0 c.in_ok-places_of.field-0
    c.instrs-instrs.ensures.valid c.instrs-instrs.ensures.value c.in_ok-starts.ensures c.deref.ensures.value
    c.in_ok-ops_of.ensures c.in_ok-places_of.ensures
