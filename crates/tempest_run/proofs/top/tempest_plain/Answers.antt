use Rattle.tempest_run.proofs.Calling.{answer_starved, call_along, read_starved, read_stopped, words_starved, written}
use Rattle.tempest_run.proofs.top.tempest_plain.Goals as goal

pub returns-in_default : goal.returns-in_default
returns-in_default g c = words_starved _ _ _

pub returns-in-Err-ReadFault : goal.returns-in-Err-ReadFault
returns-in-Err-ReadFault g c =
    call_along _ _ _ _ _ _ _ c.in-Ok.ensures (read_stopped _ _ _ _
    (rw c.in-Err-ReadFault.field-0-is at c.in-Err-ReadFault.ensures))

pub returns-in-Err-Memory : goal.returns-in-Err-Memory
returns-in-Err-Memory g c =
    call_along _ _ _ _ _ _ _ c.in-Ok.ensures (read_starved _ _ _ _ (rw c.in-Err-Memory.field-0-is at c.in-Err-Memory.ensures))

pub returns-in_default-answer_given : goal.returns-in_default-answer_given
returns-in_default-answer_given g c =
    call_along _ _ _ _ _ _ _ c.in-Ok.ensures
    (answer_starved _ _ _ _ _ c.in-Ok-read_given.ensures c.in_default-answer_given.ensures.wants)

pub returns : goal.returns
returns g c =
    call_along _ _ _ _ _ _ _ c.in-Ok.ensures
    (written _ _ _ _ _ _ _ _ c.in-Ok-read_given.ensures c.in-Ok-answer_given.ensures.value c.write_due.ensures)
