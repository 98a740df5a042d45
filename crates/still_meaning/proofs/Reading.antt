-- What is read of the nodes is what the state that they stand for has.
use Rattle.std.proofs.Common.{◌≡◌, ◌∙◌, ℕ, ◌/◌, ◌%◌, ◌<◌, ◌⊎◌, ◌≤◌, List, Some, None, length, refl, ap, sym, subst, arith, inl}
use Rattle.std.proofs.Common.{inr, mul_comm, get_or}
use Rattle.std.specs.Prelude.{slice_get, slice_index}
use Rattle.std.proofs.Math.Nat.{div-lt_iff_lt-mul}
use Rattle.std.proofs.lemmas.Option.{slice_get_cases}
use Rattle.tw_base.specs.Shape.{IsWithinLimits}
use Rattle.block_tags.specs.Copies.{block_words, tag_of}
use Rattle.journal.specs.Finals.{counted_final}
use Rattle.journal.specs.Standing.{StandsAs}
use Rattle.dsm_runs.specs.Events.{word_here}
use Rattle.dsm_runs.specs.Locals.{Local}
use Rattle.dsm_runs.specs.Replays.{Course}
use Rattle.dsm_runs.specs.Setups.{block_of, offset_of, size_of}
use Rattle.dsm_runs.specs.Worlds.{World}
use Rattle.node_meaning.specs.Nodes.{Shown, tested}
use Rattle.still_meaning.specs.Reading.{end_at, end_of_node, tag_at, tag_of_node, word_at, word_of_node}
use Rattle.still_meaning.specs.Stills.{IsNodeAt, IsStill, StillShown, tallies, tally_in}

present : {X : Type 0} (xs : List X) (i : ℕ) → i < length xs → (x : X) × (slice_get xs i ≡ Some x)
present {X} xs i l = here (slice_get_cases xs i).1
  where
    here : ((x : X) × (i < length xs) × (slice_get xs i ≡ Some x) × (get_or xs i x ≡ x))
        ⊎ ((length xs ≤ i) × (slice_get xs i ≡ None)) → (x : X) × (slice_get xs i ≡ Some x)
    here (inl f) = (f.0, f.2)
    here (inr past) = let far = past.0 in absurd (omega (arith, l, far))

-- ---- one node, and a course that it stands for

module _ (s : StillShown) (i : ℕ) (n : Shown) (c : Course) (at : IsNodeAt s i n c) where
  block_is : (b : ℕ) → b < s.setup.shape.blocks → (c.local.blocks b).block ≡ b
  block_is b l = (at.stands.sound.blocks b (subst (λ z. b < z.shape.blocks) (sym at.setup) l)).block

  node_tag : (b : ℕ) → b < s.setup.shape.blocks → tag_of n.copies b ≡ (c.local.blocks b).tag
  node_tag b l =
      let stands = at.stands.blocks b (subst (λ z. b < z.shape.blocks) (sym at.setup) l) in
      ap (tag_of n.copies) (sym (block_is b l)) ∙ stands.tag

  node_words : (b : ℕ) → b < s.setup.shape.blocks → block_words n.copies b ≡ (c.local.blocks b).words
  node_words b l =
      let stands = at.stands.blocks b (subst (λ z. b < z.shape.blocks) (sym at.setup) l) in
      ap (block_words n.copies) (sym (block_is b l)) ∙ stands.words

  node_word : (address : ℕ) → block_of s.setup address < s.setup.shape.blocks →
      word_of_node (Some n) address ≡ word_here s.setup c.local.blocks address
  node_word address l =
      ap (λ z. slice_index (block_words n.copies (address / z.shape.words)) (address % z.shape.words)) at.setup
      ∙ ap (λ ws. slice_index ws (offset_of s.setup address)) (node_words (block_of s.setup address) l)

  node_end : end_of_node (Some n) ≡ counted_final s.setup c.local n.ops n.records
  node_end =
      ap (λ z. counted_final z (tested n) n.ops n.records) at.setup
      ∙ ap (λ (l : Local). counted_final s.setup l n.ops n.records) (sym at.stands.parts)

-- ---- all nodes

module _ (s : StillShown) (g : World) (is : IsStill s g) (limits : IsWithinLimits s.setup.shape) where
  node_at : (i : ℕ) → i < s.setup.shape.nodes → (n : Shown) × (slice_get s.nodes i ≡ Some n)
  node_at i l = present s.nodes i (subst (λ k. i < k) (sym is.count) l)

  block_within : (address : ℕ) → address < size_of s.setup → block_of s.setup address < s.setup.shape.blocks
  block_within address l =
      (div-lt_iff_lt-mul limits.some_word).1 (subst (λ k. address < k) (mul_comm s.setup.shape.words s.setup.shape.blocks) l)

  pub stands_as : StandsAs s.setup g (λ i. (tallies s i).ops) (λ i. (tallies s i).records) s.setup.shape (tag_at s) (word_at s)
      (end_at s)
  stands_as = record {
    sizes = refl;
    tags = λ i b li lb. (let n = node_at i li in let at = is.nodes i n.0 n.1 in
        ap (λ o. tag_of_node o b) n.1 ∙ node_tag s i n.0 (is.ends i) at b lb
        ∙ ap (λ (x : Local). (x.blocks b).tag) (sym (is.joined.locals i li)));
    words = λ i address li la. (let n = node_at i li in let at = is.nodes i n.0 n.1 in
        ap (λ o. word_of_node o address) n.1 ∙ node_word s i n.0 (is.ends i) at address (block_within address la)
        ∙ ap (λ (x : Local). word_here s.setup x.blocks address) (sym (is.joined.locals i li)));
    ends = λ i li. (let n = node_at i li in let at = is.nodes i n.0 n.1 in
        ap end_of_node n.1 ∙ node_end s i n.0 (is.ends i) at
        ∙ ap (λ t. counted_final s.setup (is.ends i).local t.ops t.records) (sym (ap (tally_in s.setup i) n.1))
        ∙ ap (λ (x : Local). counted_final s.setup x (tallies s i).ops (tallies s i).records) (sym (is.joined.locals i li)));
  }
