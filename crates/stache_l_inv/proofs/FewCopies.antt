-- At most two caches hold a block read-only.
use Rattle.std.proofs.Common.{◌≡◌, ◌≢◌, ℕ, ◌+◌, ◌<◌, ◌≤◌, Bool, true, false, List, arith, refl, inl, inr, ◌⊎◌}
use Rattle.std.specs.Prelude.{nat_eq, if◌then◌else◌}
use Rattle.std.proofs.lemmas.Bool.{cases_eq}
use Rattle.std.proofs.lemmas.Bool.Decides.{nat_tests}
use Rattle.tw_base.specs.Lists.{one_if, sum_below}
use Rattle.block_spots.specs.Cases.{State, HomeRw, HomeRo, HomeExcl, HomeAcks, HomePut, Rest, OfRo, Here, members}
use Rattle.block_spots.specs.Notes.{Spot, owes}
use Rattle.coherence_frame.proofs.Loads.{sum_below_add, sum_below_const, sum_below_le}
use Rattle.block_spots.specs.Sketches.{home_at, spot_at}
use Rattle.dsm_runs.specs.Setups.{home_of}
use Rattle.coherence_frame.specs.Parts.{seen}
use Rattle.coherence_frame.proofs.Seen.{kept_coherent}
use Rattle.stache_l_inv.specs.Laws.{CopiesAreFew}
use Rattle.stache_l_inv.specs.Parts.{wording}
use Rattle.stache_l_inv.proofs.Scheme.{scheme}
use Rattle.stache_l_inv.proofs.Directory.{none_of}
use Rattle.stache_l_inv.specs.Coherent.{AtBlock, AtCache}
use Rattle.stache_l_inv.specs.Copies.{copies, is_copy}

-- a copy is a sharer's, or its INV is on the way
module _ (n h : ℕ) (home : Here) (j : ℕ) (s : Spot) (a : AtCache n h home j s) where
  shared : home.state ≡ HomeRo → (is_copy s.tag ≤ one_if (home.sharers j)) × (owes s ≡ 0)
  shared p = go (home.sharers j) refl
    where
      go : (b : Bool) → home.sharers j ≡ b → (is_copy s.tag ≤ one_if (home.sharers j)) × (owes s ≡ 0)
      go true y = grind (arith, nat_tests)
      go false y = grind (arith, nat_tests)

  owed : home.state ≡ HomeAcks → is_copy s.tag ≤ one_if (home.sharers j) + owes s
  owed p = go home.rest refl (home.sharers j) refl
    where
      go : (r : Rest) → home.rest ≡ r → (b : Bool) → home.sharers j ≡ b → is_copy s.tag ≤ one_if (home.sharers j) + owes s
      go (OfRo i) r true y = grind (arith, nat_tests)
      go (OfRo i) r false y = grind (arith, nat_tests)
      go _ r b y = grind (arith, nat_tests)

  no_copy : (home.state ≡ HomeRw) ⊎ (home.state ≡ HomeExcl) ⊎ (home.state ≡ HomePut) → is_copy s.tag ≡ 0
  no_copy (inl p) = grind (arith, nat_tests)
  no_copy (inr (inl p)) = grind (arith, nat_tests)
  no_copy (inr (inr p)) = grind (arith, nat_tests)

module _ (n h : ℕ) (cur : List ℕ) (home : Here) (spots : ℕ → Spot) (a : AtBlock n h cur home spots) where
  abbrev counted : ℕ → ℕ
  counted i = if nat_eq i h then 0 else is_copy (spots i).tag

  beside : (k : ℕ → ℕ) → ((i : ℕ) → i < n → i ≢ h → is_copy (spots i).tag ≤ k i) → (i : ℕ) → i < n → counted i ≤ k i
  beside k f i l =
      elim (cases_eq i h) [
        | inl e ↦ grind (arith, nat_tests)
        | inr d ↦
            (let g : is_copy (spots i).tag ≤ k i = f i l d in grind (arith, nat_tests))
      ]

  while_shared : home.state ≡ HomeRo → sum_below n counted ≤ 2
  unfolding members
  while_shared p =
      let few : members n home.sharers ≤ 2 = grind arith in
      omega (
        arith,
        sum_below_le n counted (λ i. one_if (home.sharers i))
            (beside (λ i. one_if (home.sharers i)) (λ i l d. (shared n h home i (spots i) (a.caches i l d) p).0)),
        few,
      )

  -- the sharers that stay, and the acknowledgements to come, are two
  two_in_acks : home.state ≡ HomeAcks → members n home.sharers + home.acks ≤ 2
  two_in_acks p = go home.rest refl
    where
      go : (r : Rest) → home.rest ≡ r → members n home.sharers + home.acks ≤ 2
      go (OfRo i) r =
          let one : members n home.sharers ≡ 1 = grind arith in
          let last : home.acks ≡ 1 = grind arith in
          omega (arith, one, last)
      go _ r =
          let none : (k : ℕ) → home.sharers k ≡ false = grind arith in
          let few : home.acks ≤ 2 = grind arith in
          omega (arith, none_of n home.sharers none, few)

  while_asked : home.state ≡ HomeAcks → sum_below n counted ≤ 2
  unfolding members
  while_asked p =
      omega (
        arith,
        sum_below_le n counted (λ i. one_if (home.sharers i) + owes (spots i))
            (beside (λ i. one_if (home.sharers i) + owes (spots i)) (λ i l d. owed n h home i (spots i) (a.caches i l d) p)),
        sum_below_add n (λ i. one_if (home.sharers i) + owes (spots i)) (λ i. one_if (home.sharers i)) (λ i. owes (spots i))
            (λ i l. refl),
        two_in_acks p,
        a.acks p,
      )

  while_none : (home.state ≡ HomeRw) ⊎ (home.state ≡ HomeExcl) ⊎ (home.state ≡ HomePut) → sum_below n counted ≤ 2
  while_none p =
      omega (
        arith,
        sum_below_le n counted (λ i. 0) (beside (λ i. 0)
            (λ i l d. omega (arith, no_copy n h home i (spots i) (a.caches i l d) p))),
        sum_below_const n 0,
      )

  pub few_copies : copies n h (λ i. (spots i).tag) ≤ 2
  unfolding copies
  few_copies = go home.state refl
    where
      go : (x : State) → home.state ≡ x → sum_below n counted ≤ 2
      go HomeRw p = while_none (inl p)
      go HomeRo p = while_shared p
      go HomeExcl p = while_none (inr (inl p))
      go HomeAcks p = while_asked p
      go HomePut p = while_none (inr (inr p))
      go x p = absurd (let i = a.at_home.infos in grind arith)

pub copies_are_few : CopiesAreFew
unfolding spot_at
copies_are_few s g m b setup kept lb =
    few_copies s.shape.nodes (home_of s b) _ (home_at (seen wording s g) b (home_of s b))
    (spot_at (seen wording s g) b (home_of s b)) ((kept_coherent scheme s g m setup kept).block b lb)
