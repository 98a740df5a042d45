-- The turn of a home: the rows, by the home's state and the message.
use Rattle.std.proofs.Common.{◌≡◌, ◌≢◌, ℕ, ◌+◌, ◌<◌, ◌≤◌, Bool, true, false, List, [], ◌∷◌, ◌++◌, Some, arith, refl, sym, ap}
use Rattle.std.proofs.Common.{◌∙◌, inl, inr, ◌⊎◌}
use Rattle.std.proofs.lemmas.Bool.{cases_eq, cases_lt}
use Rattle.std.proofs.lemmas.Bool.Decides.{nat_tests}
use Rattle.block_spots.specs.Cases.{GetRo, GetRw, DataRo, DataRw, Inv, Put, Ack, Recall, State, HomeRw, HomeRo, HomeExcl}
use Rattle.block_spots.specs.Cases.{HomeAcks, HomePut, NoRest, OfRo, OfRw, Message, Here, No, Stale, Effect, nobody, with_node}
use Rattle.block_spots.specs.Cases.{without_node, members}
use Rattle.block_spots.specs.Notes.{Spot, note, is_get_ro, is_get_rw, gets_ro, gets_rw}
use Rattle.stache_l_inv.specs.Coherent.{AtBlock}
use Rattle.stache_l_table.specs.Handling.{greatest, handle_by}
use Rattle.stache_l_inv.proofs.Directory.{greatest_has}
use Rattle.stache_table.specs.Handling.{carrying, plain, inv_all}
use Rattle.tw_base.specs.declared.message.Chan.TheVariants.{One}
use Rattle.tw_base.specs.declared.value.Tag.TheVariants.{Invalid, ReadOnly}
use Rattle.stache_l_inv.proofs.Homes.{asker_has_none, owner_asks_nothing}
use Rattle.block_spots.proofs.Sums.{members_none}
use Rattle.stache_l_inv.proofs.Blocks.{row_0, row_1, row_4, row_full, row_5, row_6, row_9, row_10, row_defer}
use Rattle.coherence_frame.proofs.Views.{sent, sent_nil, sent_one, sent_one_past, sent_inv_all, inv_if}
use Rattle.coherence_frame.proofs.Turning.{RequestTurn, stays, taken, one_to, none_to, loses, asked_one, asked_none}

module _ (n h i : ℕ) (cur : List ℕ) (home : Here) (m : Message) (e : Effect) (spots spots2 : ℕ → Spot)
    (a : AtBlock n h cur home spots) (l : i < n) (d : i ≢ h) (does : handle_by home.state n h h home m ≡ Some e)
    (t : RequestTurn h i m e spots spots2) where
  is_rw_ro : home.state ≡ HomeRw → m.kind ≡ GetRo → e ≡ record {
    here = record home { state = HomeRo; sharers = with_node nobody i; tag = ReadOnly };
    sends = carrying DataRo m.block h i home.words ∷ [];
    kept = No;
    freed = true;
    woke = false;
  }
  is_rw_ro p k = let f : m.from ≡ i = t.from in grind arith

  rw_ro : home.state ≡ HomeRw → m.kind ≡ GetRo → AtBlock n h cur e.here spots2
  rw_ro p k =
      let q = is_rw_ro p k in
      row_0 n h cur home e.here spots spots2 a i l d t.own (one_to h i m e spots spots2 t _ (ap (λ z. z.sends) q) refl) p
      (ap (λ z. z.here) q)
      (asked_one h i m e spots spots2 t 1 0 (carrying DataRo m.block h i home.words) (grind arith) (grind arith)
      (ap (λ z. z.sends) q) refl refl refl refl)

  is_rw_rw : home.state ≡ HomeRw → m.kind ≡ GetRw → e ≡ record {
    here = record home { state = HomeExcl; owner = i; tag = Invalid };
    sends = carrying DataRw m.block h i home.words ∷ [];
    kept = No;
    freed = true;
    woke = false;
  }
  is_rw_rw p k = let f : m.from ≡ i = t.from in grind arith

  rw_rw : home.state ≡ HomeRw → m.kind ≡ GetRw → AtBlock n h cur e.here spots2
  rw_rw p k =
      let q = is_rw_rw p k in
      row_1 n h cur home e.here spots spots2 a i l d t.own (one_to h i m e spots spots2 t _ (ap (λ z. z.sends) q) refl) p
      (ap (λ z. z.here) q)
      (asked_one h i m e spots spots2 t 0 1 (carrying DataRw m.block h i home.words) (grind arith) (grind arith)
      (ap (λ z. z.sends) q) refl refl refl refl)

  is_ro_ro : home.state ≡ HomeRo → m.kind ≡ GetRo → members n home.sharers ≢ 2 →
      e ≡ record {
        here = record home { sharers = with_node home.sharers i };
        sends = carrying DataRo m.block h i home.words ∷ [];
        kept = No;
        freed = false;
        woke = false;
      }
  is_ro_ro p k room = let f : m.from ≡ i = t.from in grind (arith, nat_tests)

  ro_ro : home.state ≡ HomeRo → m.kind ≡ GetRo → members n home.sharers ≢ 2 → AtBlock n h cur e.here spots2
  ro_ro p k room =
      let q = is_ro_ro p k room in
      row_4 n h cur home e.here spots spots2 a i l d t.own (one_to h i m e spots spots2 t _ (ap (λ z. z.sends) q) refl) p room
      (ap (λ z. z.here) q)
      (asked_one h i m e spots spots2 t 1 0 (carrying DataRo m.block h i home.words) (grind arith) (grind arith)
      (ap (λ z. z.sends) q) refl refl refl refl)

  -- the sharer whose copy is to go
  abbrev victim : ℕ
  victim = greatest n home.sharers

  is_ro_full : home.state ≡ HomeRo → m.kind ≡ GetRo → members n home.sharers ≡ 2 →
      e ≡ record {
        here = record home {
          state = HomeAcks;
          rest = OfRo i;
          sharers = without_node home.sharers victim;
          acks = 1;
        };
        sends = plain Inv m.block h victim ∷ [];
        kept = No;
        freed = false;
        woke = false;
      }
  is_ro_full p k two = let f : m.from ≡ i = t.from in grind (arith, nat_tests)

  ro_full : home.state ≡ HomeRo → m.kind ≡ GetRo → members n home.sharers ≡ 2 → AtBlock n h cur e.here spots2
  ro_full p k two =
      row_full n h cur home e.here spots spots2 a i victim l d has.0 has.1 t.own
      (t.others victim vh vi ∙ ap (λ z. record (spots victim) { down = (spots victim).down ++ z })
      (ap (λ z. sent m.block z.sends h victim One) q ∙ sent_one m.block h victim One _ refl refl refl refl))
      (λ j jh ji jo. stays (spots j) (spots2 j) _ (t.others j jh ji) (to_other j jo))
      p two (ap (λ z. z.here) q) (asked_none h i m e spots spots2 t 1 0 (grind arith) (grind arith)
      (to_other i (λ y. vi (sym y))))
    where
      q : e ≡ record {
        here = record home {
          state = HomeAcks;
          rest = OfRo i;
          sharers = without_node home.sharers victim;
          acks = 1;
        };
        sends = plain Inv m.block h victim ∷ [];
        kept = No;
        freed = false;
        woke = false;
      }
      q = is_ro_full p k two

      has : (victim < n) × (home.sharers victim ≡ true)
      has = greatest_has n home.sharers (omega (arith, two))

      infos : (j : ℕ) → home.sharers j ≡ true → (j < n) × (j ≢ h)
      infos = grind arith

      vh : victim ≢ h
      vh = (infos victim has.1).1

      asks : gets_ro (spots i) ≡ gets_ro (spots2 i) + 1
      asks = (loses h i m e spots spots2 t 1 0 (grind arith) (grind arith)).ro_less

      vi : victim ≢ i
      vi y =
          let none : home.sharers i ≡ false = asker_has_none n h home home i (spots i) (spots i) (a.caches i l d) p
          (grind arith) (omega (arith, asks)) in
          let f : home.sharers victim ≡ true = has.1 in
          let g : home.sharers victim ≡ false = ap home.sharers y ∙ none in cc

      to_other : (j : ℕ) → j ≢ victim → sent m.block e.sends h j One ≡ []
      to_other j x = ap (λ z. sent m.block z.sends h j One) q ∙ sent_one_past m.block h j One _ (λ y. x (sym y))

  is_ro_rw : home.state ≡ HomeRo → m.kind ≡ GetRw → 1 ≤ members n (without_node home.sharers i) →
      e ≡ record {
        here = record home {
          state = HomeAcks;
          rest = OfRw i;
          sharers = nobody;
          acks = members n (without_node home.sharers i);
        };
        sends = inv_all n (without_node home.sharers i) m.block h;
        kept = No;
        freed = false;
        woke = false;
      }
  is_ro_rw p k o = let f : m.from ≡ i = t.from in grind (arith, nat_tests)

  ro_rw : home.state ≡ HomeRo → m.kind ≡ GetRw → 1 ≤ members n (without_node home.sharers i) → AtBlock n h cur e.here spots2
  ro_rw p k o =
      row_5 n h cur home e.here spots spots2 a i l d t.own
      (λ j lj dj di x. t.others j dj di ∙ ap (λ z. record (spots j) { down = (spots j).down ++ z })
      (to j true lj (grind (arith, nat_tests))))
      (λ j lj dj di x. stays (spots j) (spots2 j) _ (t.others j dj di) (to j false lj (grind (arith, nat_tests))))
      p o (ap (λ z. z.here) q) (asked_none h i m e spots spots2 t 0 1 (grind arith) (grind arith)
      (to i false l (grind (arith, nat_tests))))
    where
      q : e ≡ record {
        here = record home {
          state = HomeAcks;
          rest = OfRw i;
          sharers = nobody;
          acks = members n (without_node home.sharers i);
        };
        sends = inv_all n (without_node home.sharers i) m.block h;
        kept = No;
        freed = false;
        woke = false;
      }
      q = is_ro_rw p k o

      to : (j : ℕ) (x : Bool) → j < n → without_node home.sharers i j ≡ x → sent m.block e.sends h j One ≡ inv_if x
      to j x lj y = ap (λ z. sent m.block z.sends h j One) q ∙ sent_inv_all n (without_node home.sharers i) m.block h j lj
          ∙ ap inv_if y

  is_ro_rw_alone : home.state ≡ HomeRo → m.kind ≡ GetRw → members n (without_node home.sharers i) < 1 →
      e ≡ record {
        here = record home {
          state = HomeExcl;
          rest = NoRest;
          owner = i;
          sharers = without_node home.sharers i;
          acks = 0;
          tag = Invalid;
        };
        sends = carrying DataRw m.block h i home.words ∷ [];
        kept = No;
        freed = true;
        woke = false;
      }
  is_ro_rw_alone p k o = let f : m.from ≡ i = t.from in grind (arith, nat_tests)

  ro_rw_alone : home.state ≡ HomeRo → m.kind ≡ GetRw → members n (without_node home.sharers i) < 1 → AtBlock n h cur e.here spots2
  ro_rw_alone p k o =
      let q = is_ro_rw_alone p k o in
      row_6 n h cur home e.here spots spots2 a i l d t.own (one_to h i m e spots spots2 t _ (ap (λ z. z.sends) q) refl)
      (without_node home.sharers i) none p o (ap (λ z. z.here) q)
      (asked_one h i m e spots spots2 t 0 1 (carrying DataRw m.block h i home.words) (grind arith) (grind arith)
      (ap (λ z. z.sends) q) refl refl refl refl)
    where
      infos : (k : ℕ) → home.sharers k ≡ true → (k < n) × (k ≢ h)
      infos = grind arith

      in_range : (j : ℕ) (x : Bool) → without_node home.sharers i j ≡ x → without_node home.sharers i j ≡ false
      in_range j true y = let f : home.sharers j ≡ true = grind (arith, nat_tests) in members_none n
          (without_node home.sharers i) j (infos j f).0 o
      in_range j false y = y

      none : (j : ℕ) → without_node home.sharers i j ≡ false
      none j = in_range j _ refl

  is_excl_ro : home.state ≡ HomeExcl → m.kind ≡ GetRo → e ≡ record {
    here = record home { state = HomePut; rest = OfRo i };
    sends = plain Recall m.block h home.owner ∷ [];
    kept = No;
    freed = false;
    woke = false;
  }
  is_excl_ro p k = let f : m.from ≡ i = t.from in grind arith

  is_excl_rw : home.state ≡ HomeExcl → m.kind ≡ GetRw → e ≡ record {
    here = record home { state = HomePut; rest = OfRw i };
    sends = plain Recall m.block h home.owner ∷ [];
    kept = No;
    freed = false;
    woke = false;
  }
  is_excl_rw p k = let f : m.from ≡ i = t.from in grind arith

  asker_no_owner : home.state ≡ HomeExcl → 1 ≤ gets_ro (spots i) + gets_rw (spots i) → i ≢ home.owner
  asker_no_owner p x y =
      let w : (gets_ro (spots i) ≡ 0) × (gets_rw (spots i) ≡ 0) =
      owner_asks_nothing n h home home i (spots i) (spots i) (a.caches i l d) p (grind arith) y in omega arith

  excl_ro : home.state ≡ HomeExcl → m.kind ≡ GetRo → AtBlock n h cur e.here spots2
  excl_ro p k =
      row_9 n h cur home e.here spots spots2 a i l d t.own io
      (t.others home.owner oh (λ y. io (sym y)) ∙ ap (λ z. record (spots home.owner) { down = (spots home.owner).down ++ z })
      (ap (λ z. sent m.block z.sends h home.owner One) q ∙ sent_one m.block h home.owner One _ refl refl refl refl))
      (λ j jh ji jo. stays (spots j) (spots2 j) _ (t.others j jh ji) (to_other j jo))
      p (ap (λ z. z.here) q) (asked_none h i m e spots spots2 t 1 0 (grind arith) (grind arith) (to_other i io))
    where
      q : e ≡ record {
        here = record home { state = HomePut; rest = OfRo i };
        sends = plain Recall m.block h home.owner ∷ [];
        kept = No;
        freed = false;
        woke = false;
      }
      q = is_excl_ro p k

      asks : gets_ro (spots i) ≡ gets_ro (spots2 i) + 1
      asks = (loses h i m e spots spots2 t 1 0 (grind arith) (grind arith)).ro_less

      io : i ≢ home.owner
      io = asker_no_owner p (omega (arith, asks))

      oh : home.owner ≢ h
      oh = grind arith

      to_other : (j : ℕ) → j ≢ home.owner → sent m.block e.sends h j One ≡ []
      to_other j x = ap (λ z. sent m.block z.sends h j One) q ∙ sent_one_past m.block h j One _ (λ y. x (sym y))

  excl_rw : home.state ≡ HomeExcl → m.kind ≡ GetRw → AtBlock n h cur e.here spots2
  excl_rw p k =
      row_10 n h cur home e.here spots spots2 a i l d t.own io
      (t.others home.owner oh (λ y. io (sym y)) ∙ ap (λ z. record (spots home.owner) { down = (spots home.owner).down ++ z })
      (ap (λ z. sent m.block z.sends h home.owner One) q ∙ sent_one m.block h home.owner One _ refl refl refl refl))
      (λ j jh ji jo. stays (spots j) (spots2 j) _ (t.others j jh ji) (to_other j jo))
      p (ap (λ z. z.here) q) (asked_none h i m e spots spots2 t 0 1 (grind arith) (grind arith) (to_other i io))
    where
      q : e ≡ record {
        here = record home { state = HomePut; rest = OfRw i };
        sends = plain Recall m.block h home.owner ∷ [];
        kept = No;
        freed = false;
        woke = false;
      }
      q = is_excl_rw p k

      asks : gets_rw (spots i) ≡ gets_rw (spots2 i) + 1
      asks = (loses h i m e spots spots2 t 0 1 (grind arith) (grind arith)).rw_less

      io : i ≢ home.owner
      io = asker_no_owner p (omega (arith, asks))

      oh : home.owner ≢ h
      oh = grind arith

      to_other : (j : ℕ) → j ≢ home.owner → sent m.block e.sends h j One ≡ []
      to_other j x = ap (λ z. sent m.block z.sends h j One) q ∙ sent_one_past m.block h j One _ (λ y. x (sym y))

  is_deferred_acks : home.state ≡ HomeAcks → m.kind ≢ Ack → e
      ≡ record { here = home; sends = []; kept = Stale; freed = false; woke = false }
  is_deferred_acks p k = grind arith

  is_deferred_put : home.state ≡ HomePut → m.kind ≢ Put → e ≡ record
      { here = home; sends = []; kept = Stale; freed = false; woke = false }
  is_deferred_put p k = grind arith

  deferred : e ≡ record { here = home; sends = []; kept = Stale; freed = false; woke = false } → AtBlock n h cur e.here spots2
  deferred q =
      row_defer n h cur home e.here spots spots2 a i l d t.own (none_to h i m e spots spots2 t (ap (λ z. z.sends) q))
      (ap (λ z. z.here) q)
      (asked_none h i m e spots spots2 t 0 0 (ap (λ z. taken z.kept (is_get_ro (note m))) q)
      (ap (λ z. taken z.kept (is_get_rw (note m))) q) (ap (λ z. sent m.block z.sends h i One) q ∙ sent_nil m.block h i One))

  -- the whole turn
  pub request_turn : (m.kind ≡ GetRo) ⊎ (m.kind ≡ GetRw) → AtBlock n h cur e.here spots2
  request_turn k = go home.state refl k
    where
      go : (st : State) → home.state ≡ st → (m.kind ≡ GetRo) ⊎ (m.kind ≡ GetRw) → AtBlock n h cur e.here spots2
      go HomeRw p (inl x) = rw_ro p x
      go HomeRw p (inr x) = rw_rw p x
      go HomeRo p (inl x) = elim (cases_eq (members n home.sharers) 2) [ inl y ↦ ro_full p x y | inr y ↦ ro_ro p x y ]
      go HomeRo p (inr x) = elim (cases_lt (members n (without_node home.sharers i)) 1)
          [ inl y ↦ ro_rw_alone p x y | inr y ↦ ro_rw p x y ]
      go HomeExcl p (inl x) = excl_ro p x
      go HomeExcl p (inr x) = excl_rw p x
      go HomeAcks p (inl x) = deferred (is_deferred_acks p (grind arith))
      go HomeAcks p (inr x) = deferred (is_deferred_acks p (grind arith))
      go HomePut p (inl x) = deferred (is_deferred_put p (grind arith))
      go HomePut p (inr x) = deferred (is_deferred_put p (grind arith))
      go _ p x = absurd (grind arith)
