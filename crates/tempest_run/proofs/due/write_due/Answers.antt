use Rattle.tempest_run.proofs.Calling.{wrote_all, wrote_front}
use Rattle.tempest_run.proofs.due.write_due.Goals as goal

pub returns-in-Ok : goal.returns-in-Ok
returns-in-Ok g c = wrote_all _ _ _ _ _ _ c.status.ensures c.text.ensures c.in-Ok.ensures.all c.in-Ok.ensures.cause.later

pub returns-in-Err : goal.returns-in-Err
returns-in-Err g c = wrote_front _ _ _ _ _ c.text.ensures c.in-Err.ensures.prefix c.in-Err.ensures.cause.later
    c.in-Err.ensures.cause.failed
