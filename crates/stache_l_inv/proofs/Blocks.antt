-- What a row does to the whole of a block.
use Rattle.std.proofs.Common.{◌≡◌, ◌≢◌, ℕ, ◌+◌, ◌-◌, ◌<◌, ◌≤◌, Bool, true, false, List, [], ◌∷◌, ◌++◌, arith, refl, sym, ap}
use Rattle.std.proofs.Common.{◌∙◌, inl, inr, ◌⊎◌}
use Rattle.std.proofs.lemmas.Bool.{cases_eq}
use Rattle.std.proofs.lemmas.List.{append-nil}
use Rattle.std.proofs.lemmas.Bool.Decides.{nat_tests}
use Rattle.block_spots.specs.Cases.{State, HomeRw, HomeRo, HomeExcl, HomeAcks, HomePut, Rest, NoRest, OfHome, OfRo, OfRw, Here}
use Rattle.block_spots.specs.Cases.{nobody, with_node, without_node, members}
use Rattle.block_spots.specs.Notes.{gets_ro, Note, NInv, NAck, NRecall, NDataRo, NDataRw, NPut, Spot, is_rd_fault, is_wr_fault}
use Rattle.block_spots.specs.Notes.{held_home, owes}
use Rattle.stache_l_inv.specs.Coherent.{AtCache, AtBlock, AtHome, Infos, IsCacheNode, IsFault, current_in, owner_words}
use Rattle.tw_base.specs.Lists.{one_if, sum_below, how_many, Each}
use Rattle.tw_base.specs.declared.value.Tag.TheVariants.{Invalid, ReadOnly, ReadWrite}
use Rattle.block_spots.proofs.Sums.{sum_below_same, sum_below_one, sum_below_two, members_has, members_none}
use Rattle.stache_l_inv.proofs.Homes.{answers_no_sharer, asker_has_none, held_for_copy, gives_up, stays_sharer, beside_gives_up}
use Rattle.stache_l_inv.proofs.Homes.{shares_asker, shares_stayed, shares_beside, given_ro, given_ro_more, beside_given_ro}
use Rattle.stache_l_inv.proofs.Homes.{beside_given_ro_more, given_rw, beside_given_rw, held_back, sent_inv, sent_none}
use Rattle.stache_l_inv.proofs.Homes.{sent_inv_home, sent_none_home, given_rw_alone, beside_given_rw_alone, recalled}
use Rattle.stache_l_inv.proofs.Homes.{held_for_ro, held_for_rw, beside_recall, took_ack, beside_ack, all_home, gives_asker}
use Rattle.stache_l_inv.proofs.Homes.{beside_gives_asker, put_is_owners, took_put_home, beside_put_home, took_put_ro}
use Rattle.stache_l_inv.proofs.Homes.{asker_put_ro, beside_put_ro, took_put_rw, asker_put_rw, beside_put_rw, moved, home_stores}
use Rattle.stache_l_inv.proofs.Homes.{given_words, recall_words, asker_words, put_words, owner_words_same}
use Rattle.stache_l_inv.proofs.Directory.{one_member, with_at_most, without_at_most, without_less}
use Rattle.coherence_frame.proofs.Loads.{sum_below_const}
use Rattle.coherence_frame.proofs.Counts.{no_faults}
use Rattle.coherence_frame.proofs.Turning.{Asked, OwnSame, current_same}

module _ (n h : ℕ) (cur : List ℕ) (home home2 : Here) (spots spots2 : ℕ → Spot) (a : AtBlock n h cur home spots) where
  -- where the owner is the home itself, the words are the home's
  home_words : home.owner ≡ h → current_in home.state home.words (spots2 home.owner) ≡ cur
  home_words o = go home.state refl a.at_home.infos a.tie
    where
      go : (x : State) → home.state ≡ x → Infos n h home.state home →
          current_in home.state home.words (spots home.owner) ≡ cur → current_in home.state home.words (spots2 home.owner) ≡ cur
      go HomeExcl p f t = absurd (grind arith)
      go HomePut p f t = absurd (grind arith)
      go x p f t = grind arith

  module _ (i : ℕ) (l : i < n) (d : i ≢ h) (own : OwnSame (spots h) (spots2 h))
      (o : (j : ℕ) → j ≢ h → j ≢ i → spots2 j ≡ spots j) where
    -- row 0
    pub row_0 : home.state ≡ HomeRw → home2 ≡ record home { state = HomeRo; sharers = with_node nobody i; tag = ReadOnly } →
        Asked (spots i) (spots2 i) 1 0 (NDataRo home.words ∷ []) → AtBlock n h cur home2 spots2
    row_0 p q t =
        let r : home.rest ≡ NoRest = grind arith in
        let mem : 1 ≤ members n home2.sharers = members_has n _ i l (grind (arith, nat_tests)) in
        let few : members n home2.sharers ≤ 2 = rw q (omega (arith, one_member n i l)) in
        record {
          caches = λ j lj dj. elim (cases_eq j i) [
            | inl e ↦ rw e (given_ro n h home home2 i (spots i) (spots2 i) (a.caches i l d) p r q t.loses t.down t.up)
            | inr e ↦ beside_given_ro n h home home2 j (spots j) (spots2 j) (a.caches j lj dj) i e p r q (o j dj e)
          ];
          at_home = grind (arith, nat_tests);
          acks = grind arith;
          tie = grind arith;
        }

    -- row 4
    pub row_4 : home.state ≡ HomeRo → members n home.sharers ≢ 2 → home2 ≡ record home { sharers = with_node home.sharers i } →
        Asked (spots i) (spots2 i) 1 0 (NDataRo home.words ∷ []) → AtBlock n h cur home2 spots2
    row_4 p room q t =
        let r : home.rest ≡ NoRest = grind arith in
        let mem : 1 ≤ members n home2.sharers = members_has n _ i l (grind (arith, nat_tests)) in
        let had : members n home.sharers ≤ 2 = grind arith in
        let few : members n home2.sharers ≤ 2 = rw q (omega (arith, with_at_most n home.sharers i l, had, room)) in
        record {
          caches = λ j lj dj. elim (cases_eq j i) [
            | inl e ↦ rw e (given_ro_more n h home home2 i (spots i) (spots2 i) (a.caches i l d) p r q t.loses t.down t.up)
            | inr e ↦ beside_given_ro_more n h home home2 j (spots j) (spots2 j) (a.caches j lj dj) i e p r q (o j dj e)
          ];
          at_home = grind (arith, nat_tests);
          acks = grind arith;
          tie = grind arith;
        }

    -- row 1
    pub row_1 : home.state ≡ HomeRw → home2 ≡ record home { state = HomeExcl; owner = i; tag = Invalid } →
        Asked (spots i) (spots2 i) 0 1 (NDataRw home.words ∷ []) → AtBlock n h cur home2 spots2
    row_1 p q t =
        let r : home.rest ≡ NoRest = grind arith in
        record {
          caches = λ j lj dj. elim (cases_eq j i) [
            | inl e ↦ rw e (given_rw n h home home2 i (spots i) (spots2 i) (a.caches i l d) p r q t.loses t.down t.up)
            | inr e ↦ beside_given_rw n h home home2 j (spots j) (spots2 j) (a.caches j lj dj) i e p r q (o j dj e)
          ];
          at_home = grind (arith, nat_tests);
          acks = grind arith;
          tie = (let words : home.words ≡ cur = let f : current_in home.state home.words (spots home.owner)
              ≡ cur = a.tie in grind arith in rw q (given_words n h home home i (spots i) (spots2 i)
              (a.caches i l d) home.words 0 1 (inl p) r t.loses (omega arith) t.down t.up ∙ words));
        }

    -- row 6: the asker is the only sharer, or there is none but it
    pub row_6 : (z : ℕ → Bool) → ((k : ℕ) → z k ≡ false) → home.state ≡ HomeRo → members n (without_node home.sharers i) < 1 →
        home2 ≡ record home { state = HomeExcl; rest = NoRest; owner = i; sharers = z; acks = 0; tag = Invalid } →
        Asked (spots i) (spots2 i) 0 1 (NDataRw home.words ∷ []) → AtBlock n h cur home2 spots2
    row_6 z zn p m q t =
        let r : home.rest ≡ NoRest = grind arith in
        let none : (j : ℕ) → j < n → j ≢ i → home.sharers j ≡ false = λ j lj e. let x =
        members_none n (without_node home.sharers i) j lj m in grind (arith, nat_tests) in
        record {
          caches = λ j lj dj. elim (cases_eq j i) [
            | inl e ↦ rw e (given_rw_alone n h home home2 i (spots i) (spots2 i) (a.caches i l d) z p r q t.loses t.down t.up)
            | inr e ↦ beside_given_rw_alone n h home home2 j (spots j) (spots2 j) (a.caches j lj dj) i z e (none j lj e) p r q
                (o j dj e)
          ];
          at_home = (let f : (k : ℕ) → home2.sharers k ≡ false = λ k. ap (λ x. x.sharers k) q
              ∙ zn k in let ow : home2.owner ≡ i = ap (λ x. x.owner) q in grind (arith, nat_tests, f));
          acks = grind arith;
          tie = (let words : home.words ≡ cur = let f : current_in home.state home.words (spots home.owner)
              ≡ cur = a.tie in grind arith in rw q (given_words n h home home i (spots i) (spots2 i)
              (a.caches i l d) home.words 0 1 (inr p) r t.loses (omega arith) t.down t.up ∙ words));
        }

  -- row 5
  pub row_5 : (i : ℕ) → i < n → i ≢ h → OwnSame (spots h) (spots2 h) →
      ((j : ℕ) → j < n → j ≢ h → j ≢ i → home.sharers j ≡ true →
      spots2 j ≡ record (spots j) { down = (spots j).down ++ NInv ∷ [] }) →
      ((j : ℕ) → j < n → j ≢ h → j ≢ i → home.sharers j ≡ false → spots2 j ≡ spots j) →
      home.state ≡ HomeRo → 1 ≤ members n (without_node home.sharers i) →
      home2 ≡ record home { state = HomeAcks; rest = OfRw i; sharers = nobody; acks = members n (without_node home.sharers i) } →
      Asked (spots i) (spots2 i) 0 1 [] → AtBlock n h cur home2 spots2
  unfolding members
  row_5 i l d own o1 o0 p m q t =
      record {
        caches = λ j lj dj. (at j lj dj (home.sharers j) refl (cases_eq j i)).0;
        at_home =
            (let had : members n home.sharers ≤ 2 = grind arith in let few : members n
            (without_node home.sharers i) ≤ 2 = omega (arith, without_at_most n home.sharers i l, had) in grind
            (arith, nat_tests));
        acks = λ _. ap (λ z. z.acks) q ∙ same;
        tie = grind arith;
      }
    where
      k : ℕ
      k = members n (without_node home.sharers i)

      r : home.rest ≡ NoRest
      r = grind arith

      at : (j : ℕ) → j < n → j ≢ h → (x : Bool) → home.sharers j ≡ x → (j ≡ i) ⊎ (j ≢ i) →
          AtCache n h home2 j (spots2 j) × (owes (spots2 j) ≡ one_if (without_node home.sharers i j))
      at j lj dj x y (inl z) =
          let w : AtCache n h home2 i (spots2 i) × (owes (spots2 i) ≡ 0) =
          held_back n h home home2 i (spots i) (spots2 i) (a.caches i l d) k p r q t.loses (t.down ∙ append-nil _) t.up in
          rw z (w.0, grind (arith, nat_tests))
      at j lj dj true y (inr z) =
          let w : AtCache n h home2 j (spots2 j) × (owes (spots2 j) ≡ 1) =
          sent_inv n h home home2 j (spots j) (spots2 j) (a.caches j lj dj) i k z y p r q (o1 j lj dj z y) in
          (w.0, grind (arith, nat_tests))
      at j lj dj false y (inr z) =
          let w : AtCache n h home2 j (spots2 j) × (owes (spots2 j) ≡ 0) =
          sent_none n h home home2 j (spots j) (spots2 j) (a.caches j lj dj) i k z y p r q (o0 j lj dj z y) in
          (w.0, grind (arith, nat_tests))

      none_at_home : home.sharers h ≡ false
      none_at_home = grind arith

      owed_at_home : owes (spots2 h) ≡ one_if (without_node home.sharers i h)
      owed_at_home = grind (arith, nat_tests)

      same : k ≡ sum_below n (λ j. owes (spots2 j))
      same = sym
          (sum_below_same n _ _ (λ j lj. elim (cases_eq j h)
          [ inl e ↦ rw e owed_at_home | inr e ↦ (at j lj e (home.sharers j) refl (cases_eq j i)).1 ]))

  -- row 3, with the home's fault no longer deferred
  pub row_3 : (spots2 h).ask ≡ [] → (spots2 h).down ≡ [] → (spots2 h).up ≡ [] → (spots2 h).kept ≡ [] →
      ((j : ℕ) → j < n → j ≢ h → home.sharers j ≡ true → spots2 j ≡ record (spots j) { down = (spots j).down ++ NInv ∷ [] }) →
      ((j : ℕ) → j < n → j ≢ h → home.sharers j ≡ false → spots2 j ≡ spots j) →
      home.state ≡ HomeRo →
      home2 ≡ record home { state = HomeAcks; rest = OfHome; sharers = nobody; acks = members n home.sharers } →
      AtBlock n h cur home2 spots2
  unfolding members
  row_3 ask down up kept o1 o0 p q =
      record {
        caches = λ j lj dj. (at j lj dj (home.sharers j) refl).0;
        at_home = grind (arith, nat_tests);
        acks = λ _. ap (λ z. z.acks) q ∙ same;
        tie = grind arith;
      }
    where
      r : home.rest ≡ NoRest
      r = grind arith

      at : (j : ℕ) → j < n → j ≢ h → (x : Bool) → home.sharers j ≡ x →
          AtCache n h home2 j (spots2 j) × (owes (spots2 j) ≡ one_if (home.sharers j))
      at j lj dj true y =
          let w : AtCache n h home2 j (spots2 j) × (owes (spots2 j) ≡ 1) =
          sent_inv_home n h home home2 j (spots j) (spots2 j) (a.caches j lj dj) (members n home.sharers) y p r q
          (o1 j lj dj y) in
          (w.0, grind arith)
      at j lj dj false y =
          let w : AtCache n h home2 j (spots2 j) × (owes (spots2 j) ≡ 0) =
          sent_none_home n h home home2 j (spots j) (spots2 j) (a.caches j lj dj) (members n home.sharers) y p r q
          (o0 j lj dj y) in
          (w.0, grind arith)

      none_at_home : home.sharers h ≡ false
      none_at_home = grind arith

      owed_at_home : owes (spots2 h) ≡ one_if (home.sharers h)
      owed_at_home = grind (arith, nat_tests)

      same : members n home.sharers ≡ sum_below n (λ j. owes (spots2 j))
      same = sym
          (sum_below_same n _ _ (λ j lj. elim (cases_eq j h)
          [ inl e ↦ rw e owed_at_home | inr e ↦ (at j lj e (home.sharers j) refl).1 ]))

  -- rows 7 and 8
  pub row_78 : (spots2 h).ask ≡ [] → (spots2 h).down ≡ [] → (spots2 h).up ≡ [] → (spots2 h).kept ≡ [] →
      spots2 home.owner ≡ record (spots home.owner) { down = (spots home.owner).down ++ NRecall ∷ [] } →
      ((j : ℕ) → j ≢ h → j ≢ home.owner → spots2 j ≡ spots j) →
      home.state ≡ HomeExcl → home2 ≡ record home { state = HomePut; rest = OfHome } → AtBlock n h cur home2 spots2
  row_78 ask down up kept oo o p q =
      let r : home.rest ≡ NoRest = grind arith in
      record {
        caches = λ j lj dj. elim (cases_eq j home.owner) [
          | inl e ↦ recalled n h home home2 j (spots j) (spots2 j) (a.caches j lj dj) OfHome e refl p r q (rw e oo)
          | inr e ↦ beside_recall n h home home2 j (spots j) (spots2 j) (a.caches j lj dj) OfHome refl e p r q (o j dj e)
        ];
        at_home = grind (arith, nat_tests);
        acks = grind arith;
        tie = (let words : owner_words (spots home.owner) ≡ cur = (let f : current_in home.state home.words (spots home.owner)
            ≡ cur = a.tie in rw p at f) in let owner : IsCacheNode n h home.owner = grind arith in rw q
            (recall_words n h home home home.owner (spots home.owner) (spots2 home.owner)
            (a.caches home.owner owner.0 owner.1) p refl oo ∙ words));
      }

  -- rows 9 and 10
  pub row_9 : (i : ℕ) → i < n → i ≢ h → OwnSame (spots h) (spots2 h) → i ≢ home.owner →
      spots2 home.owner ≡ record (spots home.owner) { down = (spots home.owner).down ++ NRecall ∷ [] } →
      ((j : ℕ) → j ≢ h → j ≢ i → j ≢ home.owner → spots2 j ≡ spots j) →
      home.state ≡ HomeExcl → home2 ≡ record home { state = HomePut; rest = OfRo i } → Asked (spots i) (spots2 i) 1 0 [] →
      AtBlock n h cur home2 spots2
  row_9 i l d own io oo o p q t =
      let r : home.rest ≡ NoRest = grind arith in
      record {
        caches = λ j lj dj. at j lj dj (cases_eq j i) (cases_eq j home.owner);
        at_home = grind (arith, nat_tests);
        acks = grind arith;
        tie = (let words : owner_words (spots home.owner) ≡ cur = (let f : current_in home.state home.words (spots home.owner)
            ≡ cur = a.tie in rw p at f) in let owner : IsCacheNode n h home.owner = grind arith in rw q
            (recall_words n h home home home.owner (spots home.owner) (spots2 home.owner)
            (a.caches home.owner owner.0 owner.1) p refl oo ∙ words));
      }
    where
      r : home.rest ≡ NoRest
      r = grind arith

      at : (j : ℕ) → j < n → j ≢ h → (j ≡ i) ⊎ (j ≢ i) → (j ≡ home.owner) ⊎ (j ≢ home.owner) → AtCache n h home2 j (spots2 j)
      at j lj dj (inl e) x =
          rw e (held_for_ro n h home home2 i (spots i) (spots2 i) (a.caches i l d) p r q io t.loses
          (t.down ∙ append-nil _) t.up)
      at j lj dj (inr e) (inl x) = recalled n h home home2 j (spots j) (spots2 j) (a.caches j lj dj) (OfRo i) x
          (grind (arith, nat_tests)) p r q (rw x oo)
      at j lj dj (inr e) (inr x) = beside_recall n h home home2 j (spots j) (spots2 j) (a.caches j lj dj) (OfRo i)
          (grind (arith, nat_tests)) x p r q (o j dj e x)

  pub row_10 : (i : ℕ) → i < n → i ≢ h → OwnSame (spots h) (spots2 h) → i ≢ home.owner →
      spots2 home.owner ≡ record (spots home.owner) { down = (spots home.owner).down ++ NRecall ∷ [] } →
      ((j : ℕ) → j ≢ h → j ≢ i → j ≢ home.owner → spots2 j ≡ spots j) →
      home.state ≡ HomeExcl → home2 ≡ record home { state = HomePut; rest = OfRw i } → Asked (spots i) (spots2 i) 0 1 [] →
      AtBlock n h cur home2 spots2
  row_10 i l d own io oo o p q t =
      record {
        caches = λ j lj dj. at j lj dj (cases_eq j i) (cases_eq j home.owner);
        at_home = grind (arith, nat_tests);
        acks = grind arith;
        tie = (let words : owner_words (spots home.owner) ≡ cur = (let f : current_in home.state home.words (spots home.owner)
            ≡ cur = a.tie in rw p at f) in let owner : IsCacheNode n h home.owner = grind arith in rw q
            (recall_words n h home home home.owner (spots home.owner) (spots2 home.owner)
            (a.caches home.owner owner.0 owner.1) p refl oo ∙ words));
      }
    where
      r : home.rest ≡ NoRest
      r = grind arith

      at : (j : ℕ) → j < n → j ≢ h → (j ≡ i) ⊎ (j ≢ i) → (j ≡ home.owner) ⊎ (j ≢ home.owner) → AtCache n h home2 j (spots2 j)
      at j lj dj (inl e) x =
          rw e (held_for_rw n h home home2 i (spots i) (spots2 i) (a.caches i l d) p r q io t.loses
          (t.down ∙ append-nil _) t.up)
      at j lj dj (inr e) (inl x) = recalled n h home home2 j (spots j) (spots2 j) (a.caches j lj dj) (OfRw i) x
          (grind (arith, nat_tests)) p r q (rw x oo)
      at j lj dj (inr e) (inr x) = beside_recall n h home home2 j (spots j) (spots2 j) (a.caches j lj dj) (OfRw i)
          (grind (arith, nat_tests)) x p r q (o j dj e x)

  -- row 11
  pub row_11 : (i : ℕ) → i < n → i ≢ h → OwnSame (spots h) (spots2 h) → ((j : ℕ) → j ≢ h → j ≢ i → spots2 j ≡ spots j) →
      (rest : List Note) → home.state ≡ HomeAcks → 1 < home.acks → home2 ≡ record home { acks = home.acks - 1 } →
      (spots i).up ≡ NAck ∷ rest → spots2 i ≡ record (spots i) { up = rest } → AtBlock n h cur home2 spots2
  row_11 i l d own o rest p m q u e =
      record {
        caches = λ j lj dj. elim (cases_eq j i) [
          | inl x ↦ rw x at_i.0
          | inr x ↦ beside_ack n h home home2 j (spots j) (spots2 j) (a.caches j lj dj) _ p q (o j dj x)
        ];
        at_home = at_home home.rest refl;
        acks = λ _. omega (arith, ap (λ z. z.acks) q, a.acks p, at_i.1, at_i.2, sums);
        tie = grind arith;
      }
    where
      at_home : (r : Rest) → home.rest ≡ r → AtHome n h home2 (spots2 h)
      at_home (OfRo x) w = absurd (grind (arith, nat_tests))
      at_home r w = grind (arith, nat_tests)

      at_i : AtCache n h home2 i (spots2 i) × (owes (spots i) ≡ 1) × (owes (spots2 i) ≡ 0)
      at_i = took_ack n h home home2 i (spots i) (spots2 i) (a.caches i l d) _ rest p q u e

      other : (j : ℕ) → j ≢ i → owes (spots j) ≡ owes (spots2 j)
      other j x = elim (cases_eq j h) [ inl y ↦ grind arith | inr y ↦ rw (o j y x) refl ]

      sums : sum_below n (λ j. owes (spots j)) + owes (spots2 i) ≡ sum_below n (λ j. owes (spots2 j)) + owes (spots i)
      sums = sum_below_one n (λ j. owes (spots j)) (λ j. owes (spots2 j)) i l (λ j lj x. other j x)

  -- once the last ACK is in, no cache owes anything, so long as all but its sender owe what they owed
  pub none_owes : (i : ℕ) → i < n → home.state ≡ HomeAcks → home.acks < 2 → owes (spots i) ≡ 1 → (j : ℕ) → j < n → j ≢ i →
      owes (spots j) ≡ 0
  none_owes i l p m e j lj d =
      let first : sum_below n (λ k. owes (spots k)) ≡ home.acks = sym (a.acks p) in
      let pair : owes (spots i) + owes (spots j) ≤ sum_below n (λ k. owes (spots k)) =
      sum_below_two n (λ k. owes (spots k)) i j l lj d in
      omega arith

  -- row 12
  pub row_12 : (i : ℕ) → i < n → i ≢ h → OwnSame (spots h) (spots2 h) → ((j : ℕ) → j ≢ h → j ≢ i → spots2 j ≡ spots j) →
      (rest : List Note) → home.state ≡ HomeAcks → home.acks < 2 → home.rest ≡ OfHome →
      home2 ≡ record home { state = HomeRw; rest = NoRest; acks = 0; tag = ReadWrite } →
      (spots i).up ≡ NAck ∷ rest → spots2 i ≡ record (spots i) { up = rest } → AtBlock n h cur home2 spots2
  row_12 i l d own o rest p m r q u e =
      record {
        caches = λ j lj dj. elim (cases_eq j i) [
          | inl x ↦ rw x (all_home n h mid home2 i (spots2 i) (spots2 i) at_i.0 0 p r q at_i.2 refl)
          | inr x ↦ all_home n h home home2 j (spots j) (spots2 j) (a.caches j lj dj) 0 p r q (none_owes i l p m at_i.1 j lj x)
              (o j dj x)
        ];
        at_home =
            (let none : (spots h).kept ≡ [] = no_faults (spots h).kept a.at_home.faults
            (let one : how_many is_rd_fault (spots h).kept + how_many is_wr_fault
            (spots h).kept + held_home home.rest ≤ 1 = a.at_home.one in let held : held_home home.rest ≡ 1 =
            rw r refl in omega arith) in grind (arith, nat_tests));
        acks = grind arith;
        tie = grind arith;
      }
    where
      mid : Here
      mid = record home { acks = 0 }

      at_i : AtCache n h mid i (spots2 i) × (owes (spots i) ≡ 1) × (owes (spots2 i) ≡ 0)
      at_i = took_ack n h home mid i (spots i) (spots2 i) (a.caches i l d) 0 rest p refl u e

  -- row 13
  pub row_13 : (i b : ℕ) → i < n → i ≢ h → b < n → b ≢ h → OwnSame (spots h) (spots2 h) →
      ((j : ℕ) → j ≢ h → j ≢ i → j ≢ b → spots2 j ≡ spots j) →
      spots2 b ≡ record (spots b) { down = (spots b).down ++ NDataRw home.words ∷ [] } →
      (rest : List Note) → home.state ≡ HomeAcks → home.acks < 2 → home.rest ≡ OfRw b →
      home2 ≡ record home { state = HomeExcl; rest = NoRest; owner = b; acks = 0; tag = Invalid } →
      (spots i).up ≡ NAck ∷ rest → (i ≢ b → spots2 i ≡ record (spots i) { up = rest }) → AtBlock n h cur home2 spots2
  row_13 i b l d lb db own o ob rest p m r q u e =
      record {
        caches = λ j lj dj. at j lj dj (cases_eq j b) (cases_eq j i);
        at_home = grind (arith, nat_tests);
        acks = grind arith;
        tie = (let words : home.words ≡ cur = let f : current_in home.state home.words (spots home.owner)
            ≡ cur = a.tie in grind arith in rw q (asker_words n h home home b (spots b) (spots2 b)
            (a.caches b lb db) home.words (inl p) r ob ∙ words));
      }
    where
      mid : Here
      mid = record home { acks = 0 }

      at_i : (i ≢ b) × AtCache n h mid i (record (spots i) { up = rest }) × (owes (spots i) ≡ 1)
          × (owes (record (spots i) { up = rest }) ≡ 0)
      at_i =
          let w : AtCache n h mid i (record (spots i) { up = rest }) × (owes (spots i) ≡ 1)
          × (owes (record (spots i) { up = rest }) ≡ 0)
          = took_ack n h home mid i (spots i) (record (spots i) { up = rest }) (a.caches i l d) 0 rest p refl u refl in
          ((λ x. let c : AtCache n h home i (spots i) = a.caches i l d in grind (arith, nat_tests)), w.0, w.1, w.2)

      at : (j : ℕ) → j < n → j ≢ h → (j ≡ b) ⊎ (j ≢ b) → (j ≡ i) ⊎ (j ≢ i) → AtCache n h home2 j (spots2 j)
      at j lj dj (inl x) y = rw x (gives_asker n h home home2 b (spots b) (spots2 b) (a.caches b lb db) 0 p r q ob)
      at j lj dj (inr x) (inl y) =
          rw y (beside_gives_asker n h mid home2 i (record (spots i) { up = rest }) (spots2 i) at_i.1 0 b at_i.0 p r q at_i.3
          (e at_i.0))
      at j lj dj (inr x) (inr y) = beside_gives_asker n h home home2 j (spots j) (spots2 j) (a.caches j lj dj) 0 b x p r q
          (none_owes i l p m at_i.2 j lj y) (o j dj y x)

  -- GET_RO that meets two sharers: k gives its copy up
  pub row_full : (i k : ℕ) → i < n → i ≢ h → k < n → home.sharers k ≡ true → OwnSame (spots h) (spots2 h) →
      spots2 k ≡ record (spots k) { down = (spots k).down ++ NInv ∷ [] } →
      ((j : ℕ) → j ≢ h → j ≢ i → j ≢ k → spots2 j ≡ spots j) →
      home.state ≡ HomeRo → members n home.sharers ≡ 2 → home2
      ≡ record home { state = HomeAcks; rest = OfRo i; sharers = without_node home.sharers k; acks = 1 } →
      Asked (spots i) (spots2 i) 1 0 [] → AtBlock n h cur home2 spots2
  row_full i k l d lk sk own ok o p two q t =
      record {
        caches = λ j lj dj. (at j lj dj (cases_eq j i) (cases_eq j k) (home.sharers j) refl).0;
        at_home = (let one : members n (without_node home.sharers k)
            ≡ 1 = omega (arith, without_less n home.sharers k lk sk, two) in grind (arith, nat_tests));
        acks = λ _. ap (λ z. z.acks) q ∙ sym same;
        tie = grind arith;
      }
    where
      r : home.rest ≡ NoRest
      r = grind arith

      asks : 1 ≤ gets_ro (spots i)
      asks = omega (arith, t.loses.ro_less)

      si : home.sharers i ≡ false
      si = asker_has_none n h home home i (spots i) (spots i) (a.caches i l d) p r asks

      ki : k ≢ i
      ki e = let z : home.sharers k ≡ false = rw e si in cc

      kh : k ≢ h
      kh = grind arith

      at : (j : ℕ) → j < n → j ≢ h → (j ≡ i) ⊎ (j ≢ i) → (j ≡ k) ⊎ (j ≢ k) → (x : Bool) → home.sharers j ≡ x →
          AtCache n h home2 j (spots2 j) × (j ≢ k → owes (spots2 j) ≡ 0) × (j ≡ k → owes (spots2 j) ≡ 1)
      at j lj dj (inl e) y x z =
          let w : AtCache n h home2 i (spots2 i) × (owes (spots2 i) ≡ 0) =
          held_for_copy n h home home2 i (spots i) (spots2 i) (a.caches i l d) k si p r q t.loses
          (t.down ∙ append-nil _) t.up in
          rw e (w.0, (λ v. w.1), (λ v. absurd (ki (sym v))))
      at j lj dj (inr e) (inl y) x z =
          let w : AtCache n h home2 k (spots2 k) × (owes (spots2 k) ≡ 1) =
          gives_up n h home home2 k (spots k) (spots2 k) (a.caches k lk kh) i ki sk p r q ok in
          rw y (w.0, (λ v. absurd (v refl)), (λ v. w.1))
      at j lj dj (inr e) (inr y) true z =
          let w : AtCache n h home2 j (spots2 j) × (owes (spots2 j) ≡ 0) =
          stays_sharer n h home home2 j (spots j) (spots2 j) (a.caches j lj dj) i k e y z p r q (o j dj e y) in
          (w.0, (λ v. w.1), (λ v. absurd (y v)))
      at j lj dj (inr e) (inr y) false z =
          let w : AtCache n h home2 j (spots2 j) × (owes (spots2 j) ≡ 0) =
          beside_gives_up n h home home2 j (spots j) (spots2 j) (a.caches j lj dj) i k e y z p r q (o j dj e y) in
          (w.0, (λ v. w.1), (λ v. absurd (y v)))

      owed : (j : ℕ) → j < n → j ≢ k → owes (spots2 j) ≡ 0
      owed j lj y =
          elim (cases_eq j h) [
            | inl e ↦ rw e (grind (arith, nat_tests))
            | inr e ↦
                (at j lj e (cases_eq j i) (inr y) (home.sharers j) refl).1 y
          ]

      same : sum_below n (λ j. owes (spots2 j)) ≡ 1
      same = omega (
        arith,
        sum_below_one n (λ j. owes (spots2 j)) (λ j. 0) k lk owed,
        sum_below_const n 0,
        (at k lk kh (inr ki) (inl refl) (home.sharers k) refl).2 refl,
      )

  -- the ACK that a reader b waited for
  pub row_shared : (i b : ℕ) → i < n → i ≢ h → b < n → b ≢ h → OwnSame (spots h) (spots2 h) →
      ((j : ℕ) → j ≢ h → j ≢ i → j ≢ b → spots2 j ≡ spots j) →
      spots2 b ≡ record (spots b) { down = (spots b).down ++ NDataRo home.words ∷ [] } →
      (rest : List Note) → home.state ≡ HomeAcks → home.rest ≡ OfRo b →
      home2 ≡ record home { state = HomeRo; rest = NoRest; sharers = with_node home.sharers b; acks = 0 } →
      (spots i).up ≡ NAck ∷ rest → (i ≢ b → spots2 i ≡ record (spots i) { up = rest }) → AtBlock n h cur home2 spots2
  row_shared i b l d lb db own o ob rest p r q u e =
      record {
        caches = λ j lj dj. at j lj dj (cases_eq j b) (cases_eq j i) (home.sharers j) refl;
        at_home =
            (let mem : 1 ≤ members n home2.sharers = members_has n _ b lb
            (grind (arith, nat_tests)) in let had : members n home.sharers ≡ 1 =
            grind arith in let few : members n home2.sharers ≤ 2 =
            rw q (omega (arith, with_at_most n home.sharers b lb, had)) in grind (arith, nat_tests));
        acks = grind arith;
        tie = grind arith;
      }
    where
      mid : Here
      mid = record home { acks = 0 }

      sb : home.sharers b ≡ false
      sb = grind arith

      last : home.acks < 2
      last = let one : home.acks ≡ 1 = grind arith in omega (arith, one)

      si : (home.sharers i ≡ false) × (i ≢ b)
      si = answers_no_sharer n h home home i (spots i) (spots i) (a.caches i l d) b rest p r u

      at_i : AtCache n h mid i (record (spots i) { up = rest }) × (owes (spots i) ≡ 1)
          × (owes (record (spots i) { up = rest }) ≡ 0)
      at_i = took_ack n h home mid i (spots i) (record (spots i) { up = rest }) (a.caches i l d) 0 rest p refl u refl

      at : (j : ℕ) → j < n → j ≢ h → (j ≡ b) ⊎ (j ≢ b) → (j ≡ i) ⊎ (j ≢ i) → (x : Bool) → home.sharers j ≡ x →
          AtCache n h home2 j (spots2 j)
      at j lj dj (inl x) y z w = rw x (shares_asker n h home home2 b (spots b) (spots2 b) (a.caches b lb db) sb p r q ob)
      at j lj dj (inr x) (inl y) z w =
          rw y (shares_beside n h mid home2 i (record (spots i) { up = rest }) (spots2 i) at_i.0 b si.1 si.0 at_i.2 p r q
          (e si.1))
      at j lj dj (inr x) (inr y) true w = shares_stayed n h home home2 j (spots j) (spots2 j) (a.caches j lj dj) b x w p r q
          (o j dj y x)
      at j lj dj (inr x) (inr y) false w = shares_beside n h home home2 j (spots j) (spots2 j) (a.caches j lj dj) b x w
          (none_owes i l p last at_i.1 j lj y) p r q (o j dj y x)

  -- row 15
  pub row_15 : (i : ℕ) → i < n → i ≢ h → OwnSame (spots h) (spots2 h) → ((j : ℕ) → j ≢ h → j ≢ i → spots2 j ≡ spots j) →
      (vs : List ℕ) (rest : List Note) → home.state ≡ HomePut → home.rest ≡ OfHome →
      home2 ≡ record home { state = HomeRw; rest = NoRest; tag = ReadWrite; words = vs } →
      (spots i).up ≡ NPut vs ∷ rest → spots2 i ≡ record (spots i) { up = rest } → AtBlock n h cur home2 spots2
  row_15 i l d own o vs rest p r q u e =
      let w : (i ≡ home.owner) × (rest ≡ []) = put_is_owners n h home home2 i (spots i) (spots2 i) (a.caches i l d) vs rest p u in
      record {
        caches = λ j lj dj. elim (cases_eq j i) [
          | inl x ↦ rw x (took_put_home n h home home2 i (spots i) (spots2 i) (a.caches i l d) vs rest p r q u e)
          | inr x ↦ beside_put_home n h home home2 j (spots j) (spots2 j) (a.caches j lj dj) vs p r q (λ y. x (y ∙ sym w.0))
              (o j dj x)
        ];
        at_home =
            (let none : (spots h).kept ≡ [] = no_faults (spots h).kept a.at_home.faults
            (let one : how_many is_rd_fault (spots h).kept + how_many is_wr_fault
            (spots h).kept + held_home home.rest ≤ 1 = a.at_home.one in let held : held_home home.rest ≡ 1 =
            rw r refl in omega arith) in grind (arith, nat_tests));
        acks = grind arith;
        tie = (let put_tie : i ≡ home.owner → owner_words (spots i)
            ≡ cur = (λ o2. (let f : current_in home.state home.words (spots home.owner)
            ≡ cur = a.tie in rw (ap (λ z. owner_words (spots z)) o2) (rw p at f))) in rw q
            (sym (put_words n h home home i (spots i) (spots i) (a.caches i l d) vs rest p u) ∙ put_tie w.0));
      }

  -- rows 16 and 17: the asker b gets the words
  pub row_16 : (i b : ℕ) → i < n → i ≢ h → b < n → b ≢ h → i ≢ b → OwnSame (spots h) (spots2 h) →
      ((j : ℕ) → j ≢ h → j ≢ i → j ≢ b → spots2 j ≡ spots j) →
      (vs : List ℕ) (rest : List Note) → home.state ≡ HomePut → home.rest ≡ OfRo b →
      home2 ≡ record home { state = HomeRo; rest = NoRest; sharers = with_node nobody b; tag = ReadOnly; words = vs } →
      spots2 b ≡ record (spots b) { down = (spots b).down ++ NDataRo vs ∷ [] } →
      (spots i).up ≡ NPut vs ∷ rest → spots2 i ≡ record (spots i) { up = rest } → AtBlock n h cur home2 spots2
  row_16 i b l d lb db ib own o vs rest p r q ob u e =
      record {
        caches = λ j lj dj. at j lj dj (cases_eq j b) (cases_eq j i);
        at_home =
            (let mem : 1 ≤ members n home2.sharers = members_has n _ b lb
            (grind (arith, nat_tests)) in let few : members n home2.sharers ≤ 2 =
            rw q (omega (arith, one_member n b lb)) in grind (arith, nat_tests));
        acks = grind arith;
        tie = (let put_tie : i ≡ home.owner → owner_words (spots i)
            ≡ cur = (λ o2. (let f : current_in home.state home.words (spots home.owner)
            ≡ cur = a.tie in rw (ap (λ z. owner_words (spots z)) o2) (rw p at f))) in rw q
            (sym (put_words n h home home i (spots i) (spots i) (a.caches i l d) vs rest p u) ∙ put_tie w.0));
      }
    where
      w : (i ≡ home.owner) × (rest ≡ [])
      w = put_is_owners n h home home2 i (spots i) (spots2 i) (a.caches i l d) vs rest p u

      at : (j : ℕ) → j < n → j ≢ h → (j ≡ b) ⊎ (j ≢ b) → (j ≡ i) ⊎ (j ≢ i) → AtCache n h home2 j (spots2 j)
      at j lj dj (inl x) y = rw x (asker_put_ro n h home home2 b (spots b) (spots2 b) (a.caches b lb db) vs p r q ob)
      at j lj dj (inr x) (inl y) = rw y (took_put_ro n h home home2 i (spots i) (spots2 i) (a.caches i l d) vs rest b p r q u e)
      at j lj dj (inr x) (inr y) = beside_put_ro n h home home2 j (spots j) (spots2 j) (a.caches j lj dj) vs b p r q x
          (λ z. y (z ∙ sym w.0)) (o j dj y x)

  pub row_17 : (i b : ℕ) → i < n → i ≢ h → b < n → b ≢ h → i ≢ b → OwnSame (spots h) (spots2 h) →
      ((j : ℕ) → j ≢ h → j ≢ i → j ≢ b → spots2 j ≡ spots j) →
      (vs : List ℕ) (rest : List Note) → home.state ≡ HomePut → home.rest ≡ OfRw b →
      home2 ≡ record home { state = HomeExcl; rest = NoRest; owner = b; tag = Invalid; words = vs } →
      spots2 b ≡ record (spots b) { down = (spots b).down ++ NDataRw vs ∷ [] } →
      (spots i).up ≡ NPut vs ∷ rest → spots2 i ≡ record (spots i) { up = rest } → AtBlock n h cur home2 spots2
  row_17 i b l d lb db ib own o vs rest p r q ob u e =
      record {
        caches = λ j lj dj. at j lj dj (cases_eq j b) (cases_eq j i);
        at_home = grind (arith, nat_tests);
        acks = grind arith;
        tie = (let put_tie : i ≡ home.owner → owner_words (spots i)
            ≡ cur = (λ o2. (let f : current_in home.state home.words (spots home.owner)
            ≡ cur = a.tie in rw (ap (λ z. owner_words (spots z)) o2) (rw p at f))) in rw q
            (asker_words n h home home b (spots b) (spots2 b) (a.caches b lb db) vs (inr p) r ob
            ∙ sym (put_words n h home home i (spots i) (spots i) (a.caches i l d) vs rest p u) ∙ put_tie w.0));
      }
    where
      w : (i ≡ home.owner) × (rest ≡ [])
      w = put_is_owners n h home home2 i (spots i) (spots2 i) (a.caches i l d) vs rest p u

      at : (j : ℕ) → j < n → j ≢ h → (j ≡ b) ⊎ (j ≢ b) → (j ≡ i) ⊎ (j ≢ i) → AtCache n h home2 j (spots2 j)
      at j lj dj (inl x) y = rw x (asker_put_rw n h home home2 b (spots b) (spots2 b) (a.caches b lb db) vs p r q ob)
      at j lj dj (inr x) (inl y) = rw y (took_put_rw n h home home2 i (spots i) (spots2 i) (a.caches i l d) vs rest b p r q u e)
      at j lj dj (inr x) (inr y) = beside_put_rw n h home home2 j (spots j) (spots2 j) (a.caches j lj dj) vs b p r q x
          (λ z. y (z ∙ sym w.0)) (o j dj y x)

  -- rows 14 and 18 at a GET: the request moves
  pub row_defer : (i : ℕ) → i < n → i ≢ h → OwnSame (spots h) (spots2 h) → ((j : ℕ) → j ≢ h → j ≢ i → spots2 j ≡ spots j) →
      home2 ≡ home → Asked (spots i) (spots2 i) 0 0 [] → AtBlock n h cur home2 spots2
  row_defer i l d own o q t =
      record {
        caches = λ j lj dj. elim (cases_eq j i) [
          | inl x ↦ rw x (moved n h home home2 i (spots i) (spots2 i) (a.caches i l d) q t.loses (t.down ∙ append-nil _) t.up)
          | inr x ↦ rw (o j dj x, q) (a.caches j lj dj)
        ];
        at_home = grind (arith, nat_tests);
        acks = λ p. ap (λ z. z.acks) q ∙ a.acks (sym (ap (λ z. z.state) q) ∙ p) ∙ sum_below_same n _ _ (λ j lj. sym (other j));
        tie = rw q (defer_tie (cases_eq home.owner i) (cases_eq home.owner h));
      }
    where
      defer_tie : (home.owner ≡ i) ⊎ (home.owner ≢ i) → (home.owner ≡ h) ⊎ (home.owner ≢ h) →
          current_in home.state home.words (spots2 home.owner) ≡ cur
      defer_tie x (inl y) = home_words y
      defer_tie (inr x) (inr y) = ap (λ z. current_in home.state home.words z) (o home.owner y x) ∙ a.tie
      defer_tie (inl x) (inr y) = current_same home.state home.words _ _
          (rw x (owner_words_same (spots i) (spots2 i) t.loses.state t.loses.words (t.down ∙ append-nil _) t.up)) ∙ a.tie

      other : (j : ℕ) → owes (spots2 j) ≡ owes (spots j)
      other j =
          elim (cases_eq j h) [
            | inl y ↦ grind arith
            | inr y ↦ elim
                (cases_eq j i) [
                  | inl x ↦ rw x (let e : (spots2 i).down ≡ (spots i).down = t.down ∙ append-nil _ in grind arith)
                  | inr
                      x ↦ ap owes (o j y x)
                ]
          ]

  -- the home's own fault is deferred, or taken with nothing else changed: row 2, and rows 14 and 18 at a fault
  pub row_own : home2 ≡ home → ((j : ℕ) → j ≢ h → spots2 j ≡ spots j) → (spots2 h).ask ≡ [] → (spots2 h).down ≡ [] →
      (spots2 h).up ≡ [] →
      Each IsFault (spots2 h).kept → how_many is_rd_fault (spots2 h).kept + how_many is_wr_fault
      (spots2 h).kept + held_home home.rest ≤ 1 → (home.state ≡ HomeRw → (spots2 h).kept ≡ []) →
      AtBlock n h cur home2 spots2
  row_own q o ask down up each one none =
      record {
        caches = λ j lj dj. rw (o j dj, q) (a.caches j lj dj);
        at_home = grind (arith, nat_tests);
        acks = λ p. ap (λ z. z.acks) q ∙ a.acks (sym (ap (λ z. z.state) q) ∙ p) ∙ sum_below_same n _ _ (λ j lj. sym (other j));
        tie = rw q (own_tie (cases_eq home.owner h));
      }
    where
      own_tie : (home.owner ≡ h) ⊎ (home.owner ≢ h) → current_in home.state home.words (spots2 home.owner) ≡ cur
      own_tie (inl y) = home_words y
      own_tie (inr y) = ap (λ z. current_in home.state home.words z) (o home.owner y) ∙ a.tie

      other : (j : ℕ) → owes (spots2 j) ≡ owes (spots j)
      other j = elim (cases_eq j h) [ inl y ↦ grind arith | inr y ↦ ap owes (o j y) ]

  -- a store at the home
  pub home_store : (vs : List ℕ) → home.tag ≡ ReadWrite → home2 ≡ record home { words = vs } →
      ((j : ℕ) → j ≢ h → spots2 j ≡ spots j) → OwnSame (spots h) (spots2 h) → AtBlock n h vs home2 spots2
  home_store vs p q o own =
      let r : home.state ≡ HomeRw = grind arith in
      record {
        caches = λ j lj dj. home_stores n h home home2 j (spots j) (spots2 j) (a.caches j lj dj) vs r q (o j dj);
        at_home = grind (arith, nat_tests);
        acks = grind arith;
        tie = grind arith;
      }
