-- The turn of a home at an ACK or a PUT, and at a fault of its own.
use Rattle.std.proofs.Common.{◌≡◌, ◌≢◌, ℕ, ◌+◌, ◌-◌, ◌<◌, ◌≤◌, Bool, true, false, List, [], ◌∷◌, ◌++◌, Some, arith, refl, sym}
use Rattle.std.proofs.Common.{ap, ◌∙◌, inl, inr, ◌⊎◌}
use Rattle.std.proofs.lemmas.Bool.{cases_lt}
use Rattle.std.proofs.lemmas.Bool.Decides.{nat_tests}
use Rattle.block_spots.specs.Cases.{Kind, RdFault, WrFault, DataRo, DataRw, Put, Ack, Recall, RecallRo, PutRo, State, HomeRw}
use Rattle.block_spots.specs.Cases.{HomeRo, HomeExcl, HomeAcks, HomePut, Rest, NoRest, OfHome, OfLoad, OfRo, OfRw, Message}
use Rattle.block_spots.specs.Cases.{Here, No, Stale, Effect, nobody, with_node, members}
use Rattle.block_spots.specs.Notes.{NAck, NPut, NPutRo, Spot, note, is_rd_fault, is_wr_fault, held_home}
use Rattle.stache_d_inv.specs.Coherent.{AtCache, AtBlock, IsFault}
use Rattle.stache_table.specs.Handling.{carrying, plain, inv_all}
use Rattle.stache_d_table.specs.Handling.{handle_by}
use Rattle.tw_base.specs.Lists.{Each, how_many}
use Rattle.tw_base.specs.declared.message.Chan.TheVariants.{One}
use Rattle.tw_base.specs.declared.value.Tag.TheVariants.{Invalid, ReadOnly, ReadWrite}
use Rattle.stache_d_inv.proofs.Blocks.{row_11, row_12, row_13, row_15, row_16, row_17, row_load, row_own, row_3, row_7, row_8}
use Rattle.stache_d_inv.proofs.Homes.{IsOfRo, IsOfRw}
use Rattle.coherence_frame.proofs.Views.{sent, sent_nil, sent_one, sent_one_past, sent_inv_all, inv_if}
use Rattle.coherence_frame.proofs.Turning.{stays, AnswerTurn, OwnTurn, kept_if, only_sender, and_asker}

module _ (n h i : ℕ) (cur : List ℕ) (home : Here) (m : Message) (e : Effect) (spots spots2 : ℕ → Spot)
    (a : AtBlock n h cur home spots) (l : i < n) (d : i ≢ h) (does : handle_by home.state n h h home m ≡ Some e)
    (t : AnswerTurn h i m e spots spots2) where
  -- an answer comes only where it is waited for
  waited_for : (home.state ≡ HomeAcks) × (m.kind ≡ Ack) ⊎ (home.state ≡ HomePut) × (m.kind ≡ Put) ⊎ (home.state ≡ HomePut)
      × (m.kind ≡ PutRo)
  waited_for = let c : AtCache n h home i (spots i) = a.caches i l d in let u : (spots i).up ≡ note m ∷ t.rest =
      t.came in go home.state refl m.kind refl c u
    where
      go : (st : State) → home.state ≡ st → (k : Kind) → m.kind ≡ k → AtCache n h home i (spots i) →
          (spots i).up ≡ note m ∷ t.rest → (home.state ≡ HomeAcks) × (m.kind ≡ Ack) ⊎ (home.state ≡ HomePut) × (m.kind ≡ Put)
          ⊎ (home.state ≡ HomePut) × (m.kind ≡ PutRo)
      go HomeAcks p Ack q c u = inl (p, q)
      go HomePut p Put q c u = inr (inl (p, q))
      go HomePut p PutRo q c u = inr (inr (p, q))
      go st p k q c u = absurd (grind arith)

  is_ack_more : home.state ≡ HomeAcks → m.kind ≡ Ack → 1 < home.acks →
      e ≡ record { here = record home { acks = home.acks - 1 }; sends = []; kept = No; freed = false; woke = false }
  is_ack_more p k o = grind (arith, nat_tests)

  is_ack_home : home.state ≡ HomeAcks → m.kind ≡ Ack → home.acks < 2 → home.rest ≡ OfHome →
      e ≡ record {
        here = record home { state = HomeRw; rest = NoRest; acks = 0; tag = ReadWrite };
        sends = [];
        kept = No;
        freed = true;
        woke = true;
      }
  is_ack_home p k o r = grind (arith, nat_tests)

  is_ack_rw : (b : ℕ) → home.state ≡ HomeAcks → m.kind ≡ Ack → home.acks < 2 → home.rest ≡ OfRw b →
      e ≡ record {
        here = record home { state = HomeExcl; rest = NoRest; owner = b; acks = 0; tag = Invalid };
        sends = carrying DataRw m.block h b home.words ∷ [];
        kept = No;
        freed = true;
        woke = false;
      }
  is_ack_rw b p k o r = grind (arith, nat_tests)

  is_put_home : home.state ≡ HomePut → m.kind ≡ Put → home.rest ≡ OfHome →
      e ≡ record {
        here = record home { state = HomeRw; rest = NoRest; tag = ReadWrite; words = m.payload };
        sends = [];
        kept = No;
        freed = true;
        woke = true;
      }
  is_put_home p k r = grind (arith, nat_tests)

  is_put_load : home.state ≡ HomePut → m.kind ≡ PutRo → home.rest ≡ OfLoad →
      e ≡ record {
        here = record home {
          state = HomeRo;
          rest = NoRest;
          sharers = with_node nobody home.owner;
          tag = ReadOnly;
          words = m.payload;
        };
        sends = [];
        kept = No;
        freed = true;
        woke = true;
      }
  is_put_load p k r = grind (arith, nat_tests)

  is_put_ro : (b : ℕ) → home.state ≡ HomePut → m.kind ≡ PutRo → home.rest ≡ OfRo b →
      e ≡ record {
        here = record home {
          state = HomeRo;
          rest = NoRest;
          sharers = with_node (with_node nobody home.owner) b;
          tag = ReadOnly;
          words = m.payload;
        };
        sends = carrying DataRo m.block h b m.payload ∷ [];
        kept = No;
        freed = true;
        woke = false;
      }
  is_put_ro b p k r = grind (arith, nat_tests)

  is_put_rw : (b : ℕ) → home.state ≡ HomePut → m.kind ≡ Put → home.rest ≡ OfRw b →
      e ≡ record {
        here = record home { state = HomeExcl; rest = NoRest; owner = b; tag = Invalid; words = m.payload };
        sends = carrying DataRw m.block h b m.payload ∷ [];
        kept = No;
        freed = true;
        woke = false;
      }
  is_put_rw b p k r = grind (arith, nat_tests)

  -- the sender of an answer is not the asker
  sender_no_asker : (b : ℕ) → (home.state ≡ HomeAcks) × (home.rest ≡ OfRw b) ⊎ (home.state ≡ HomePut) × (home.rest ≡ OfRo b)
      ⊎ (home.state ≡ HomePut) × (home.rest ≡ OfRw b) → i ≢ b
  sender_no_asker b w x = let c : AtCache n h home i (spots i) = a.caches i l d in let u : (spots i).up ≡ note m ∷ t.rest =
      t.came in go w c u
    where
      go : (home.state ≡ HomeAcks) × (home.rest ≡ OfRw b) ⊎ (home.state ≡ HomePut) × (home.rest ≡ OfRo b)
          ⊎ (home.state ≡ HomePut) × (home.rest ≡ OfRw b) → AtCache n h home i (spots i) → (spots i).up ≡ note m ∷ t.rest → ⊥
      go w c u = grind (arith, nat_tests)

  came_ack : m.kind ≡ Ack → (spots i).up ≡ NAck ∷ t.rest
  came_ack k = let u : (spots i).up ≡ note m ∷ t.rest = t.came in grind arith

  came_put : m.kind ≡ Put → (spots i).up ≡ NPut m.payload ∷ t.rest
  came_put k = let u : (spots i).up ≡ note m ∷ t.rest = t.came in grind arith

  came_put_ro : m.kind ≡ PutRo → (spots i).up ≡ NPutRo m.payload ∷ t.rest
  came_put_ro k = let u : (spots i).up ≡ note m ∷ t.rest = t.came in grind arith

  acks_turn : home.state ≡ HomeAcks → m.kind ≡ Ack → AtBlock n h cur e.here spots2
  acks_turn p k = elim (cases_lt 1 home.acks) [ inl o ↦ more o | inr o ↦ go home.rest refl (omega arith) ]
    where
      more : 1 < home.acks → AtBlock n h cur e.here spots2
      more o =
          let q = is_ack_more p k o in
          let w = only_sender h i m e spots spots2 t (ap (λ z. z.kept) q) (ap (λ z. z.sends) q) in
          row_11 n h cur home e.here spots spots2 a i l d t.own w.0 t.rest p o (ap (λ z. z.here) q) (came_ack k) w.1

      go : (r : Rest) → home.rest ≡ r → home.acks < 2 → AtBlock n h cur e.here spots2
      go OfHome r o =
          let q = is_ack_home p k o r in
          let w = only_sender h i m e spots spots2 t (ap (λ z. z.kept) q) (ap (λ z. z.sends) q) in
          row_12 n h cur home e.here spots spots2 a i l d t.own w.0 t.rest p o r (ap (λ z. z.here) q) (came_ack k) w.1
      go (OfRw b) r o =
          let q = is_ack_rw b p k o r in
          let nb : (b < n) × (b ≢ h) = grind arith in
          let ib : i ≢ b = sender_no_asker b (inl (p, r)) in
          let w = and_asker h i m e spots spots2 t (carrying DataRw m.block h b home.words) (ap (λ z. z.kept) q)
          (ap (λ z. z.sends) q) refl refl nb.1 refl in
          row_13 n h cur home e.here spots spots2 a i b l d nb.0 nb.1 t.own w.0 (w.2 ib) t.rest p o r (ap (λ z. z.here) q)
          (came_ack k) w.1
      go _ r o = absurd (grind arith)

  -- a PUT answers a write's recall, a PUT_RO a read's
  put_is_of : home.state ≡ HomePut → m.kind ≡ Put → (r : Rest) → home.rest ≡ r → (r ≡ OfHome) ⊎ IsOfRw r
  put_is_of p k r x = let c : AtCache n h home i (spots i) = a.caches i l d in let u = came_put k in go r x c u
    where
      go : (r : Rest) → home.rest ≡ r → AtCache n h home i (spots i) → (spots i).up ≡ NPut m.payload ∷ t.rest →
          (r ≡ OfHome) ⊎ IsOfRw r
      go OfHome x c u = inl refl
      go (OfRw b) x c u = inr tt
      go (OfRo b) x c u = absurd (grind (arith, nat_tests))
      go OfLoad x c u = absurd (grind (arith, nat_tests))
      go r x c u = absurd (grind arith)

  put_ro_is_of : home.state ≡ HomePut → m.kind ≡ PutRo → (r : Rest) → home.rest ≡ r → (r ≡ OfLoad) ⊎ IsOfRo r
  put_ro_is_of p k r x = let c : AtCache n h home i (spots i) = a.caches i l d in let u = came_put_ro k in go r x c u
    where
      go : (r : Rest) → home.rest ≡ r → AtCache n h home i (spots i) → (spots i).up ≡ NPutRo m.payload ∷ t.rest →
          (r ≡ OfLoad) ⊎ IsOfRo r
      go OfLoad x c u = inl refl
      go (OfRo b) x c u = inr tt
      go OfHome x c u = absurd (grind (arith, nat_tests))
      go (OfRw b) x c u = absurd (grind (arith, nat_tests))
      go r x c u = absurd (grind arith)

  put_turn : home.state ≡ HomePut → m.kind ≡ Put → AtBlock n h cur e.here spots2
  put_turn p k = go home.rest refl (put_is_of p k home.rest refl)
    where
      go : (r : Rest) → home.rest ≡ r → (r ≡ OfHome) ⊎ IsOfRw r → AtBlock n h cur e.here spots2
      go OfHome r x =
          let q = is_put_home p k r in
          let w = only_sender h i m e spots spots2 t (ap (λ z. z.kept) q) (ap (λ z. z.sends) q) in
          row_15 n h cur home e.here spots spots2 a i l d t.own w.0 m.payload t.rest p r (ap (λ z. z.here) q) (came_put k) w.1
      go (OfRw b) r x =
          let q = is_put_rw b p k r in
          let nb : (b < n) × (b ≢ h) = grind arith in
          let ib : i ≢ b = sender_no_asker b (inr (inr (p, r))) in
          let w = and_asker h i m e spots spots2 t (carrying DataRw m.block h b m.payload) (ap (λ z. z.kept) q)
          (ap (λ z. z.sends) q) refl refl nb.1 refl in
          row_17 n h cur home e.here spots spots2 a i b l d nb.0 nb.1 ib t.own w.0 m.payload t.rest p r (ap (λ z. z.here) q)
          (w.2 ib) (came_put k) (w.1 ib)
      go _ r x = absurd (grind arith)

  put_ro_turn : home.state ≡ HomePut → m.kind ≡ PutRo → AtBlock n h cur e.here spots2
  put_ro_turn p k = go home.rest refl (put_ro_is_of p k home.rest refl)
    where
      go : (r : Rest) → home.rest ≡ r → (r ≡ OfLoad) ⊎ IsOfRo r → AtBlock n h cur e.here spots2
      go OfLoad r x =
          let q = is_put_load p k r in
          let w = only_sender h i m e spots spots2 t (ap (λ z. z.kept) q) (ap (λ z. z.sends) q) in
          row_load n h cur home e.here spots spots2 a i l d t.own w.0 m.payload t.rest p r (ap (λ z. z.here) q)
          (came_put_ro k) w.1
      go (OfRo b) r x =
          let q = is_put_ro b p k r in
          let nb : (b < n) × (b ≢ h) = grind arith in
          let ib : i ≢ b = sender_no_asker b (inr (inl (p, r))) in
          let w = and_asker h i m e spots spots2 t (carrying DataRo m.block h b m.payload) (ap (λ z. z.kept) q)
          (ap (λ z. z.sends) q) refl refl nb.1 refl in
          row_16 n h cur home e.here spots spots2 a i b l d nb.0 nb.1 ib t.own w.0 m.payload t.rest p r (ap (λ z. z.here) q)
          (w.2 ib) (came_put_ro k) (w.1 ib)
      go _ r x = absurd (grind arith)

  pub answer_turn : AtBlock n h cur e.here spots2
  answer_turn =
      elim waited_for [ inl w ↦ acks_turn w.0 w.1 | inr v ↦ elim v [ inl w ↦ put_turn w.0 w.1 | inr w ↦ put_ro_turn w.0 w.1 ] ]

module _ (n h : ℕ) (cur : List ℕ) (home : Here) (m : Message) (e : Effect) (spots spots2 : ℕ → Spot)
    (a : AtBlock n h cur home spots) (does : handle_by home.state n h h home m ≡ Some e)
    (t : OwnTurn h home m e spots spots2) where
  none_to : e.sends ≡ [] → (j : ℕ) → j ≢ h → spots2 j ≡ spots j
  none_to p j u = stays (spots j) (spots2 j) _ (t.others j u) (ap (λ z. sent m.block z h j One) p ∙ sent_nil m.block h j One)

  is_ro_rd : home.state ≡ HomeRo → m.kind ≡ RdFault → e ≡ record
      { here = home; sends = []; kept = No; freed = false; woke = true }
  is_ro_rd p k = grind arith

  is_ro_wr : home.state ≡ HomeRo → m.kind ≡ WrFault →
      e ≡ record {
        here = record home { state = HomeAcks; rest = OfHome; sharers = nobody; acks = members n home.sharers };
        sends = inv_all n home.sharers m.block h;
        kept = No;
        freed = false;
        woke = false;
      }
  is_ro_wr p k = grind arith

  is_excl_rd : home.state ≡ HomeExcl → m.kind ≡ RdFault →
      e ≡ record {
        here = record home { state = HomePut; rest = OfLoad };
        sends = plain RecallRo m.block h home.owner ∷ [];
        kept = No;
        freed = false;
        woke = false;
      }
  is_excl_rd p k = grind arith

  is_excl_wr : home.state ≡ HomeExcl → m.kind ≡ WrFault →
      e ≡ record {
        here = record home { state = HomePut; rest = OfHome };
        sends = plain Recall m.block h home.owner ∷ [];
        kept = No;
        freed = false;
        woke = false;
      }
  is_excl_wr p k = grind arith

  is_kept : (home.state ≡ HomeAcks) ⊎ (home.state ≡ HomePut) → (m.kind ≡ RdFault) ⊎ (m.kind ≡ WrFault) →
      e ≡ record { here = home; sends = []; kept = Stale; freed = false; woke = false }
  is_kept p k = grind arith

  own_kept : (home.state ≡ HomeAcks) ⊎ (home.state ≡ HomePut) → (m.kind ≡ RdFault) ⊎ (m.kind ≡ WrFault) →
      AtBlock n h cur e.here spots2
  own_kept p k =
      let q = is_kept p k in
      let kept : (spots2 h).kept ≡ note m ∷ [] = t.kept ∙ ap (λ z. kept_if z.kept (note m)) q in
      row_own n h cur home e.here spots spots2 a (ap (λ z. z.here) q) (none_to (ap (λ z. z.sends) q)) t.ask t.down t.up
      (each k kept) (one k kept) (λ x. absurd (t.not_all x))
    where
      each : (m.kind ≡ RdFault) ⊎ (m.kind ≡ WrFault) → (spots2 h).kept ≡ note m ∷ [] → Each IsFault (spots2 h).kept
      each k kept = grind arith

      one : (m.kind ≡ RdFault) ⊎ (m.kind ≡ WrFault) → (spots2 h).kept ≡ note m ∷ [] →
          how_many is_rd_fault (spots2 h).kept + how_many is_wr_fault (spots2 h).kept + held_home home.rest ≤ 1
      one k kept = let u : held_home home.rest ≡ 0 = t.unheld in grind arith

  own_rd : home.state ≡ HomeRo → m.kind ≡ RdFault → AtBlock n h cur e.here spots2
  own_rd p k =
      let q = is_ro_rd p k in
      let kept : (spots2 h).kept ≡ [] = t.kept ∙ ap (λ z. kept_if z.kept (note m)) q in
      let u : held_home home.rest ≡ 0 = t.unheld in
      row_own n h cur home e.here spots spots2 a (ap (λ z. z.here) q) (none_to (ap (λ z. z.sends) q)) t.ask t.down t.up
      (grind arith) (grind arith) (λ x. kept)

  own_wr : home.state ≡ HomeRo → m.kind ≡ WrFault → AtBlock n h cur e.here spots2
  own_wr p k =
      row_3 n h cur home e.here spots spots2 a t.ask t.down t.up (t.kept ∙ ap (λ z. kept_if z.kept (note m)) q)
      (λ j lj dj x. t.others j dj ∙ ap (λ z. record (spots j) { down = (spots j).down ++ z }) (to j true lj x))
      (λ j lj dj x. stays (spots j) (spots2 j) _ (t.others j dj) (to j false lj x))
      p (ap (λ z. z.here) q)
    where
      q : e ≡ record {
        here = record home { state = HomeAcks; rest = OfHome; sharers = nobody; acks = members n home.sharers };
        sends = inv_all n home.sharers m.block h;
        kept = No;
        freed = false;
        woke = false;
      }
      q = is_ro_wr p k

      to : (j : ℕ) (x : Bool) → j < n → home.sharers j ≡ x → sent m.block e.sends h j One ≡ inv_if x
      to j x lj y = ap (λ z. sent m.block z.sends h j One) q ∙ sent_inv_all n home.sharers m.block h j lj ∙ ap inv_if y

  own_excl_rd : home.state ≡ HomeExcl → m.kind ≡ RdFault → AtBlock n h cur e.here spots2
  own_excl_rd p k =
      row_7 n h cur home e.here spots spots2 a t.ask t.down t.up (t.kept ∙ ap (λ z. kept_if z.kept (note m)) q)
      (t.others home.owner oh ∙ ap (λ z. record (spots home.owner) { down = (spots home.owner).down ++ z })
      (ap (λ z. sent m.block z.sends h home.owner One) q ∙ sent_one m.block h home.owner One _ refl refl refl refl))
      (λ j jh jo. stays (spots j) (spots2 j) _ (t.others j jh)
      (ap (λ z. sent m.block z.sends h j One) q ∙ sent_one_past m.block h j One _ (λ y. jo (sym y))))
      p (ap (λ z. z.here) q)
    where
      q : e ≡ record {
        here = record home { state = HomePut; rest = OfLoad };
        sends = plain RecallRo m.block h home.owner ∷ [];
        kept = No;
        freed = false;
        woke = false;
      }
      q = is_excl_rd p k

      oh : home.owner ≢ h
      oh = grind arith

  own_excl_wr : home.state ≡ HomeExcl → m.kind ≡ WrFault → AtBlock n h cur e.here spots2
  own_excl_wr p k =
      row_8 n h cur home e.here spots spots2 a t.ask t.down t.up (t.kept ∙ ap (λ z. kept_if z.kept (note m)) q)
      (t.others home.owner oh ∙ ap (λ z. record (spots home.owner) { down = (spots home.owner).down ++ z })
      (ap (λ z. sent m.block z.sends h home.owner One) q ∙ sent_one m.block h home.owner One _ refl refl refl refl))
      (λ j jh jo. stays (spots j) (spots2 j) _ (t.others j jh)
      (ap (λ z. sent m.block z.sends h j One) q ∙ sent_one_past m.block h j One _ (λ y. jo (sym y))))
      p (ap (λ z. z.here) q)
    where
      q : e ≡ record {
        here = record home { state = HomePut; rest = OfHome };
        sends = plain Recall m.block h home.owner ∷ [];
        kept = No;
        freed = false;
        woke = false;
      }
      q = is_excl_wr p k

      oh : home.owner ≢ h
      oh = grind arith

  pub own_turn : (m.kind ≡ RdFault) ⊎ (m.kind ≡ WrFault) → AtBlock n h cur e.here spots2
  own_turn k = go home.state refl k
    where
      go : (st : State) → home.state ≡ st → (m.kind ≡ RdFault) ⊎ (m.kind ≡ WrFault) → AtBlock n h cur e.here spots2
      go HomeRw p k = absurd (t.not_all p)
      go HomeRo p (inl x) = own_rd p x
      go HomeRo p (inr x) = own_wr p x
      go HomeExcl p (inl x) = own_excl_rd p x
      go HomeExcl p (inr x) = own_excl_wr p x
      go HomeAcks p k = own_kept (inl p) k
      go HomePut p k = own_kept (inr p) k
      go _ p k = absurd (grind arith)
