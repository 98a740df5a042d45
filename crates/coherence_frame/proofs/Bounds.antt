-- Beside a rest the deferred messages of a block are fewer than the nodes.
use Rattle.coherence_frame.proofs.Rows.{SomeInfos, SomeRest, Plan}
use Rattle.std.proofs.Common.{◌≡◌, ◌≢◌, ℕ, ◌+◌, ◌<◌, ◌≤◌, List, [], length, arith, refl, sym, ap, ◌∙◌, inl, inr, ◌⊎◌}
use Rattle.std.proofs.lemmas.Bool.{cases_eq}
use Rattle.std.proofs.lemmas.Bool.Decides.{nat_tests}
use Rattle.tw_base.specs.Lists.{sum_below}
use Rattle.block_spots.specs.Cases.{State, HomeRw, HomeRo, HomeExcl, HomeAcks, HomePut, Here}
use Rattle.block_spots.specs.Notes.{Spot, kept_notes, gets_ro, gets_rw, held_ro, held_rw, held_home}
use Rattle.block_spots.specs.Sketches.{Sketch, home_at, spot_at}
use Rattle.coherence_frame.specs.Words.{AllEligible, IsSettled}
use Rattle.coherence_frame.specs.Coherent.{AtBlock, AtCache, AtHome}
use Rattle.coherence_frame.proofs.Loads.{sum_below_add, sum_below_le, sum_below_ones, if_at, if_at_other, if_at_is, sum_if_at}
use Rattle.coherence_frame.proofs.Stales.{stale_in, stale_settled, kept_from, stale_counted, gets_long, faults_long, asker}
use Rattle.coherence_frame.proofs.Stales.{IsInRest}

module _ (plan : Plan) where
  -- a cache's requests in all are at most one
  at_most_one : (n h : ℕ) (home : Here) (i : ℕ) (s : Spot) → AtCache plan.words n h home i s →
      gets_ro s + held_ro home.rest i + (gets_rw s + held_rw home.rest i) ≤ 1
  at_most_one n h home i s a = grind arith

  cache_keeps : (n h : ℕ) (home : Here) (i : ℕ) (s : Spot) → AtCache plan.words n h home i s →
      length s.kept + (held_ro home.rest i + held_rw home.rest i) ≤ 1
  cache_keeps n h home i s a = omega (arith, at_most_one n h home i s a, gets_long s.kept a.keeps)

  home_keeps : (n h : ℕ) (home : Here) (s : Spot) → AtHome plan.words n h home s → length s.kept + held_home home.rest ≤ 1
  home_keeps n h home s a = omega (arith, a.one, faults_long s.kept a.faults)

  asker_within : (n h : ℕ) (home : Here) (s : Spot) → h < n → AtHome plan.words n h home s → IsInRest home.state →
      asker h home.rest < n
  asker_within n h home s l a r = let k : SomeRest n h home.state home.rest =
      plan.says.rests n h home.state home.rest a.rest in grind arith

  asker_keeps : (n h : ℕ) (home : Here) (i : ℕ) (s : Spot) → AtHome plan.words n h home s → IsInRest home.state →
      asker h home.rest ≡ i → i ≢ h → 1 ≤ held_ro home.rest i + held_rw home.rest i
  asker_keeps n h home i s a r q d = let k : SomeRest n h home.state home.rest =
      plan.says.rests n h home.state home.rest a.rest in grind (arith, nat_tests)

  asker_home : (n h : ℕ) (home : Here) (s : Spot) → AtHome plan.words n h home s → IsInRest home.state →
      asker h home.rest ≡ h → held_home home.rest ≡ 1
  asker_home n h home s a r q = let k : SomeRest n h home.state home.rest =
      plan.says.rests n h home.state home.rest a.rest in grind arith

  -- beside a rest at most n - 1 messages of b are deferred
  pub kept_bound : (n h b : ℕ) (cur : List ℕ) (g : Sketch) → h < n →
      AtBlock plan.words n h cur (home_at g b h) (spot_at g b h) → IsInRest (home_at g b h).state →
      sum_below n (kept_from b (g.locals h).deferred) + 1 ≤ n
  unfolding spot_at
  kept_bound n h b cur g l a r =
      omega (
        arith,
        sum_below_add n (λ j. kept_from b (g.locals h).deferred j + if_at (asker h (home_at g b h).rest) 1 j)
            (kept_from b (g.locals h).deferred) (if_at (asker h (home_at g b h).rest) 1) (λ j k. refl),
        sum_if_at n (asker h (home_at g b h).rest) 1 (asker_within n h (home_at g b h) (spot_at g b h h) l a.at_home r),
        sum_below_le n (λ j. kept_from b (g.locals h).deferred j + if_at (asker h (home_at g b h).rest) 1 j) (λ j. 1) one,
        sum_below_ones n,
      )
    where
      home : Here
      home = home_at g b h

      mine : kept_from b (g.locals h).deferred h + held_home home.rest ≤ 1
      mine = home_keeps n h home (spot_at g b h h) a.at_home

      one : (j : ℕ) → j < n → kept_from b (g.locals h).deferred j + if_at (asker h home.rest) 1 j ≤ 1
      one j k = go (cases_eq j h) (cases_eq (asker h home.rest) j)
        where
          go : (j ≡ h) ⊎ (j ≢ h) → (asker h home.rest ≡ j) ⊎ (asker h home.rest ≢ j) →
              kept_from b (g.locals h).deferred j + if_at (asker h home.rest) 1 j ≤ 1
          go (inl p) (inl q) =
              rw p (omega (
                arith,
                mine,
                asker_home n h home (spot_at g b h h) a.at_home r (q ∙ p),
                if_at_is (asker h home.rest) 1 h (q ∙ p),
              ))
          go (inl p) (inr q) = rw p (omega (arith, mine, if_at_other (asker h home.rest) 1 h (λ x. q (x ∙ sym p))))
          go (inr p) (inl q) = let c : kept_from b (g.locals h).deferred j + (held_ro home.rest j + held_rw home.rest j) ≤ 1 =
              cache_keeps n h home j (spot_at g b h j) (a.caches j k p) in omega
              (arith, c, asker_keeps n h home j (spot_at g b h h) a.at_home r q p, if_at_is (asker h home.rest) 1 j q)
          go (inr p) (inr q) = let c : kept_from b (g.locals h).deferred j + (held_ro home.rest j + held_rw home.rest j) ≤ 1 =
              cache_keeps n h home j (spot_at g b h j) (a.caches j k p) in omega
              (arith, c, if_at_other (asker h home.rest) 1 j q)

  -- so the stale ones are always fewer than the nodes
  pub stale_bound : (n h b : ℕ) (cur : List ℕ) (g : Sketch) → h < n → AtBlock plan.words n h cur (home_at g b h) (spot_at g b h) →
      ((j : ℕ) → n ≤ j → kept_notes b j (g.locals h).deferred ≡ []) →
      (IsSettled (home_at g b h).state → AllEligible b (g.locals h).deferred) →
      stale_in b (g.locals h).deferred + 1 ≤ n
  stale_bound n h b cur g l a none settled = go (home_at g b h).state refl
    where
      calm : IsSettled (home_at g b h).state → stale_in b (g.locals h).deferred + 1 ≤ n
      calm k = omega (arith, stale_settled b (g.locals h).deferred (settled k))

      rest : IsInRest (home_at g b h).state → stale_in b (g.locals h).deferred + 1 ≤ n
      rest r = omega (arith, kept_bound n h b cur g l a r, stale_counted b n (g.locals h).deferred (λ j k. ap length (none j k)))

      go : (x : State) → (home_at g b h).state ≡ x → stale_in b (g.locals h).deferred + 1 ≤ n
      go HomeRw p = calm (rw p tt)
      go HomeRo p = calm (rw p tt)
      go HomeExcl p = calm (rw p tt)
      go HomeAcks p = rest (rw p tt)
      go HomePut p = rest (rw p tt)
      go x p =
          absurd (let i : SomeInfos n h (home_at g b h).state (home_at g b h) = plan.says.infos n h (home_at g b h)
          (home_at g b h).state a.at_home.infos in grind arith)
