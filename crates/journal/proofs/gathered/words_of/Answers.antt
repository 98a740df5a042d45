use Rattle.std.proofs.Common.{ℕ, ◌++◌, ◌∷◌, [], List, ap, sym, ◌∙◌, arith}
use Rattle.std.proofs.lemmas.List.FromFn.{map-range_with_len_more}
use Rattle.journal.specs.Gathered.{told_by}
use Rattle.journal.proofs.gathered.words_of.Goals as goal

pub loop-address-preserved : goal.loop-address-preserved
loop-address-preserved g c =
    let nodes = c.args.nodes.now in
    let f : ℕ → ℕ = told_by (g.N.Nodes.shape nodes) (g.N.Nodes.tag nodes) (g.N.Nodes.word nodes) in
    let n = c.loop-address.address in
    c.in_ok-push.ensures.ok
    ∙ ap (λ (x : ℕ). c.loop-address.words ++ x ∷ []) c.told_word.ensures
    ∙ ap (λ (xs : List ℕ). xs ++ f n ∷ []) c.loop-address.invariant
    ∙ sym (map-range_with_len_more f 0 n n (omega arith))
