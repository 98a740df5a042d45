use Rattle.std.proofs.Common.{◌++◌, ◌∷◌, [], List, ap, sym, ◌∙◌, arith}
use Rattle.std.proofs.lemmas.List.FromFn.{map-range_with_len_more}
use Rattle.teapot_meaning.specs.declared.state.Here.{Here}
use Rattle.dsm_runs.specs.Setups.{first_here}
use Rattle.dsm_model.proofs.first.first_blocks.Goals as goal

pub loop-number-preserved : goal.loop-number-preserved
loop-number-preserved c =
    let f = first_here c.args.setup.now c.args.me in
    let n = c.loop-number.number in
    let at = rw c.unwrap-block.ensures at c.new.ensures in
    c.in_ok-push.ensures.ok
    ∙ ap (λ (x : Here). c.loop-number.blocks ++ x ∷ []) (c.in_ok-first_here.ensures ∙ ap f at.1)
    ∙ ap (λ (xs : List Here). xs ++ f n ∷ []) c.loop-number.invariant
    ∙ sym (map-range_with_len_more f 0 n n (omega arith))
