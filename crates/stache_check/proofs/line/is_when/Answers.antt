use Rattle.std.proofs.Common.{ap, sym, ◌∙◌}
use Rattle.teapot_tree.specs.Bare.{bare_all}
use Rattle.stache_check.proofs.Bares.{told-If}
use Rattle.stache_check.specs.Words.{plains, term_expr}
use Rattle.stache_check.proofs.line.is_when.Goals as goal

pub returns-else-not-is_term : goal.returns-else-not-is_term
returns-else-not-is_term c =
    let k = told-If c.args.s.now _ (term_expr c.args.term) _ (plains c.args.lines.now) _ c.in-If.is in
    let e = c.is_term.ensures.0 (cc) in
    let n = c.is_absent.ensures.0 (cc) in (
      λ r. k.1 (e, sym (ap bare_all c.items.ensures) ∙ c.are_plain.ensures.0 r, n),
      λ h. c.are_plain.ensures.1 (ap bare_all c.items.ensures ∙ (k.0 h).1),
    )
