use Rattle.std.proofs.Common.{ℕ, ◌++◌, ◌∷◌, [], List, ap, sym, ◌∙◌, arith}
use Rattle.std.proofs.lemmas.List.FromFn.{map-range_with_len_more}
use Rattle.journal.specs.declared.finals.Final.{Final}
use Rattle.journal.proofs.finals.finals_of.Goals as goal

pub loop-number-preserved : goal.loop-number-preserved
loop-number-preserved g c =
    let f : ℕ → Final = g.N.Nodes.ended c.args.nodes.now in
    let n = c.loop-number.number in
    let at = rw c.unwrap-node.ensures at c.new.ensures in
    c.in_ok-push.ensures.ok
    ∙ ap (λ (x : Final). c.loop-number.finals ++ x ∷ []) (c.ended.ensures ∙ ap f at.1)
    ∙ ap (λ (xs : List Final). xs ++ f n ∷ []) c.loop-number.invariant
    ∙ sym (map-range_with_len_more f 0 n n (omega arith))
