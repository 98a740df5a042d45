use Rattle.tempest_run.proofs.Calling.{answer_starved, read_starved, read_stopped, written}
use Rattle.tempest_run.proofs.threads.threaded_call.Goals as goal

pub returns-in-Err-ReadFault : goal.returns-in-Err-ReadFault
returns-in-Err-ReadFault g c = read_stopped _ _ _ _ (rw c.in-Err-ReadFault.field-0-is at c.in-Err-ReadFault.ensures)

pub returns-in-Err-Memory : goal.returns-in-Err-Memory
returns-in-Err-Memory g c = read_starved _ _ _ _ (rw c.in-Err-Memory.field-0-is at c.in-Err-Memory.ensures)

pub returns-in_default : goal.returns-in_default
returns-in_default g c = answer_starved _ _ _ _ _ c.in-Ok.ensures c.in_default.ensures.wants

pub returns : goal.returns
returns g c = written _ _ _ _ _ _ _ _ c.in-Ok.ensures c.in-Ok-due_for.ensures.value c.write_due.ensures
