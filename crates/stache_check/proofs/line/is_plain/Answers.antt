use Rattle.std.proofs.Common.{◌≡◌, IsTrue, sym, subst}
use Rattle.std.specs.Prelude.{◌↔◌}
use Rattle.teapot_tree.specs.Bare.{bare}
use Rattle.stache_check.specs.declared.line.Plain.{Plain}
use Rattle.stache_check.specs.Words.{plain_of, term_expr, word_of}
use Rattle.stache_check.proofs.Bares.{told-ForEach}
use Rattle.stache_check.proofs.line.is_plain.Goals as goal

pub returns-else-not-is_term : goal.returns-else-not-is_term
returns-else-not-is_term c =
    let at = c.in-ForEach-Last in
    let k = told-ForEach c.args.s.now at.name (word_of at.word) at.e (term_expr at.term) at.body at.is-0 in
    let name = c.is-in-ForEach-Last.ensures.0 (cc) in
    let set = c.is_term-else-not-is.ensures.0 (cc) in
    subst (λ (p : Plain). IsTrue c.is_empty.result ↔ (bare c.args.s.now ≡ plain_of p)) (sym at.is-1) (
      λ r. k.1 (name, set, c.is_empty.ensures.0 r),
      λ h. c.is_empty.ensures.1 (k.0 h).2,
    )
