use Rattle.report_audit.proofs.nodes.says_mode.Goals as goal

pub returns-in-Trapped : goal.returns-in-Trapped
returns-in-Trapped c = rw c.in-Trapped.is (cc (c.says_so-in-Trapped.ensures, c.as_bytes.ensures.value, c.trap_text.ensures))
