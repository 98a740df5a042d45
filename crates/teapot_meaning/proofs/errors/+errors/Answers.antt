use Rattle.std.proofs.Common.{◌≡◌, ◌∙◌, ◌++◌, ap, sym, List, Option}
use Rattle.teapot_tree.specs.declared.stmt.Do.{out-Do}
use Rattle.teapot_tree.specs.declared.stmt.Do.TheOpen.{Do-F}
use Rattle.teapot_tree.specs.declared.stmt.Do.TheVariants.{outs-If, outs-ForEach, outs-Each}
use Rattle.teapot_tree.specs.declared.stmt.Stmt.{Stmt}
use Rattle.teapot_meaning.specs.Names.{errors_in, errors_of}
use Rattle.teapot_meaning.proofs.JoinedErrors.{errors-is, layer_errors}
use Rattle.teapot_meaning.proofs.errors.+errors.Goals as goal

pub errors_of-returns-in_ok-append-in-Some : goal.errors_of-returns-in_ok-append-in-Some
errors_of-returns-in_ok-append-in-Some t c =
    let e : errors_of c.args.s.now ≡ errors_in c.in-If.first ++ errors_in c.in-Some.second = errors-is c.args.s.now
    ∙ ap layer_errors (ap out-Do c.in-If.is ∙ outs-If _ _ _
    ∙ ap (λ (o : Option (List Stmt)). Do-F.If c.in-If.field-0 c.in-If.first o) c.in-Some.is) in
    c.in_ok-append-in-Some.ensures ∙ rw (
      c.in_ok-names-in-If.ensures,
      c.items.ensures,
      c.in_ok-errors_in-in-Some.ensures,
      c.items-in-Some.ensures,
    ) (sym e)

pub errors_of-returns-in-None : goal.errors_of-returns-in-None
errors_of-returns-in-None t c =
    let e : errors_of c.args.s.now ≡ errors_in c.in-If.first = errors-is c.args.s.now
    ∙ ap layer_errors (ap out-Do c.in-If.is ∙ outs-If _ _ _
    ∙ ap (λ (o : Option (List Stmt)). Do-F.If c.in-If.field-0 c.in-If.first o) c.in-None.is) in
    rw (c.in_ok-names-in-If.ensures, c.items.ensures) (sym e)

pub errors_of-returns-in-ForEach : goal.errors_of-returns-in-ForEach
errors_of-returns-in-ForEach t c =
    let e : errors_of c.args.s.now ≡ errors_in c.in-ForEach.body = errors-is c.args.s.now
    ∙ ap layer_errors (ap out-Do c.in-ForEach.is ∙ outs-ForEach _ _ _) in
    rw (e, ← c.items-in-ForEach.ensures) c.errors_in-in-ForEach.ensures

pub errors_of-returns-in-Each : goal.errors_of-returns-in-Each
errors_of-returns-in-Each t c =
    let e : errors_of c.args.s.now ≡ errors_in c.in-Each.body = errors-is c.args.s.now
    ∙ ap layer_errors (ap out-Do c.in-Each.is ∙ outs-Each _ _ _) in
    rw (e, ← c.items-in-Each.ensures) c.errors_in-in-Each.ensures
