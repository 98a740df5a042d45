use Rattle.printed_lines.proofs.entry.past_act.Goals as goal

pub returns-in-Delivered : goal.returns-in-Delivered
returns-in-Delivered c = rw c.in-Delivered.is c.past_delivered.ensures
