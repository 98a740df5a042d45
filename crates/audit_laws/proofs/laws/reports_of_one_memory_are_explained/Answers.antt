use Rattle.audit_laws.proofs.Whole.{explained}
use Rattle.audit_laws.proofs.laws.reports_of_one_memory_are_explained.Goals as goal

pub returns : goal.returns
returns c = explained c.runs_are_told.ensures c.due_steps_are_flat.ensures.start c.followed_journals_have_no_break.ensures
