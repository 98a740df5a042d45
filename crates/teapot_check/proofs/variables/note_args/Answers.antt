use Rattle.std.proofs.Common.{◌++◌, ◌∷◌, [], ap, append_assoc, slice_get, take, sym, ◌∙◌}
use Rattle.teapot_tree.specs.Scopes.{typed}
use Rattle.teapot_check.specs.Variables.{variables_of}
use Rattle.teapot_check.proofs.Tables.{entry, typed_more}
use Rattle.teapot_check.proofs.variables.note_args.Goals as goal

pub loop-at-preserved : goal.loop-at-preserved
loop-at-preserved c =
    let ns = c.args.args.now in
    let ts = c.args.types.now in
    let i = c.loop-at.at in
    let n = c.index-args-at.result in
    let before = variables_of c.args.variables.now in
    c.in_ok-note.ensures
    ∙ ap (λ ty. variables_of c.loop-at.variables ++ entry n ty ∷ []) c.type_at.ensures
    ∙ ap (λ z. z ++ entry n (slice_get ts i) ∷ []) c.loop-at.invariant
    ∙ append_assoc before (typed (take i ns) ts) (entry n (slice_get ts i) ∷ [])
    ∙ ap (λ z. before ++ z) (sym (typed_more ns i n ts c.loop-at-test.true c.index-args-at.is))
