-- Words of tests, a word a node.
use Rattle.std.proofs.Common.{◌≡◌, ◌∙◌, ℕ, ◌+◌, ◌*◌, ◌^◌, ◌<◌, ◌≤◌, List, [], ◌∷◌, ◌++◌, Some, length, get_or, length-append}
use Rattle.std.proofs.Common.{refl, ap, sym, subst, arith, inl, inr}
use Rattle.std.specs.Prelude.{slice_get, slice_index}
use Rattle.std.proofs.lemmas.Bool.{cases_eq}
use Rattle.std.proofs.lemmas.List.{get_or_append_left, get_or_push}
use Rattle.std.proofs.lemmas.List.Elements.{All-from_get_or}
use Rattle.std.proofs.lemmas.Option.{same_Some, slice_get_read, slice_get_within}
use Rattle.dsm_runs.specs.Setups.{Setup}
use Rattle.dsm_runs.specs.Worlds.{World}
use Rattle.node_parts.specs.Truths.{truths}
use Rattle.node_meaning.specs.Nodes.{Shown, node_tests}
use Rattle.still_meaning.specs.Stills.{IsStill, AreWhole, StillShown}
use Rattle.still_nodes.proofs.Lists.{present}
use Rattle.still_nodes.specs.Telling.{AreWordsOf, IsWordOf, Tells}

-- ---- node after node

pub one_word_more : (nodes : List Shown) (words : List ℕ) (i : ℕ) (n : Shown) (w : ℕ) → AreWordsOf nodes words i →
    i < length nodes → n ≡ get_or nodes i n → IsWordOf n w → AreWordsOf nodes (words ++ w ∷ []) (i + 1)
one_word_more nodes words i n w are l is word = record {
  count = omega (arith, length-append words (w ∷ []), are.count);
  each = λ k m lk there. elim (cases_eq k i) [
    | inl q ↦
        let same : n ≡ m =
        same_Some n m (sym (slice_get_read nodes (length nodes) i n refl l is) ∙ ap (λ j. slice_get nodes j) (sym q)
        ∙ there) in
        let at : slice_index (words ++ w ∷ []) k ≡ w = get_or_push words w 0 k (are.count ∙ sym q) in
        subst (λ v. IsWordOf m v) (sym at) (subst (λ (x : Shown). IsWordOf x w) same word)
    | inr d ↦
        let low : k < i = omega (arith, lk, d) in
        let at : slice_index (words ++ w ∷ []) k ≡ slice_index words k =
        get_or_append_left words (w ∷ []) 0 k (omega (arith, low, are.count)) in
        subst (λ v. IsWordOf m v) (sym at) (are.each k m low there)
  ];
}

-- ---- all nodes

-- There are few words.
pub few_words : (s : StillShown) → AreWhole s → (nodes : List Shown) (words : List ℕ) → nodes ≡ s.nodes →
    AreWordsOf nodes words (length nodes) → length words ≤ 8
few_words s w nodes words same are =
    let most = w.setup.limits.nodes in
    let size : length nodes ≡ length s.nodes = ap (λ (ns : List Shown). length ns) same in
    omega (arith, most, are.count, size, w.still.count)

-- The words of all nodes tell their tests.
pub words_tell : (s : StillShown) (g : World) (words : List ℕ) → IsStill s g → AreWordsOf s.nodes words (length s.nodes) →
    Tells s words
words_tell s g words still are = record {
  words = (
    are.count ∙ still.count,
    All-from_get_or (λ w. w < 2 ^ (2 + 2 * length words)) words 0
        (λ i l. small i l (present s.nodes i (omega (arith, l, are.count)))),
  );
  tests =
      λ i n there. subst (λ (u : Setup). truths (2 + 2 * u.shape.nodes) (slice_index words i) ≡ node_tests n)
      (still.nodes i n there).setup (are.each i n (slice_get_within s.nodes i n there) there).0;
}
  where
    small : (i : ℕ) → i < length words → (n : Shown) × (slice_get s.nodes i ≡ Some n) →
        get_or words i 0 < 2 ^ (2 + 2 * length words)
    small i l (n, there) =
        let size : n.setup.shape.nodes ≡ length words = ap (λ (u : Setup). u.shape.nodes) (still.nodes i n there).setup
        ∙ sym (are.count ∙ still.count) in
        subst (λ k. get_or words i 0 < 2 ^ (2 + 2 * k)) size (are.each i n (slice_get_within s.nodes i n there) there).1

-- the same words tell them
pub words_kept : (s : StillShown) → AreWhole s → (nodes : List Shown) (old new : List ℕ) → nodes ≡ s.nodes →
    AreWordsOf nodes old (length nodes) → new ≡ old → Tells s new
words_kept s w nodes old new same are is =
    subst (λ (ws : List ℕ). Tells s ws) (sym is)
    (words_tell s w.state old w.still (subst (λ (ns : List Shown). AreWordsOf ns old (length ns)) same are))
