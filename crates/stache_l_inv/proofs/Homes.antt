-- What a row at the home does to one cache j; i is the node that the message came from.
use Rattle.std.proofs.Common.{sym, subst, ◌∙◌, ◌≡◌, ◌≢◌, ℕ, ◌+◌, ◌≤◌, Bool, true, false, List, [], ◌∷◌, ◌++◌, arith, refl, inl}
use Rattle.std.proofs.Common.{inr, ◌⊎◌}
use Rattle.stache_l_inv.specs.Coherent.{HasWords, Answers, AtCache, Stands, owner_words}
use Rattle.tw_base.specs.Lists.{Each}
use Rattle.std.proofs.lemmas.Bool.Decides.{nat_tests}
use Rattle.block_spots.specs.Cases.{State, HomeRw, HomeRo, HomeExcl, HomeAcks, HomePut, Rest, NoRest, OfHome, OfRo, OfRw, Ack}
use Rattle.block_spots.specs.Cases.{Put, Here, Message, nobody, with_node, without_node}
use Rattle.block_spots.specs.Notes.{Note, NInv, NAck, NRecall, NDataRo, NDataRw, NPut, Spot, note, gets_ro, gets_rw, held_ro}
use Rattle.block_spots.specs.Notes.{held_rw, owes}
use Rattle.tw_base.specs.declared.value.Tag.TheVariants.{Invalid, ReadOnly, ReadWrite}
use Rattle.coherence_frame.proofs.Counts.{how_many-append}
use Rattle.coherence_frame.proofs.Turning.{Loses}

module _ (n h : ℕ) (home home2 : Here) (j : ℕ) (s t : Spot) (a : AtCache n h home j s) where
  -- the sender's GET_RO at Home_RW, row 0, and at Home_RO, row 4
  pub given_ro : home.state ≡ HomeRw → home.rest ≡ NoRest → home2
      ≡ record home { state = HomeRo; sharers = with_node nobody j; tag = ReadOnly } →
      Loses s t 1 0 → t.down ≡ s.down ++ NDataRo home.words ∷ [] → t.up ≡ s.up → AtCache n h home2 j t
  given_ro p r q l d u = grind (arith, nat_tests)

  pub given_ro_more : home.state ≡ HomeRo → home.rest ≡ NoRest → home2 ≡ record home { sharers = with_node home.sharers j } →
      Loses s t 1 0 → t.down ≡ s.down ++ NDataRo home.words ∷ [] → t.up ≡ s.up → AtCache n h home2 j t
  given_ro_more p r q l d u = grind (arith, nat_tests)

  -- another cache then
  pub beside_given_ro : (i : ℕ) → j ≢ i → home.state ≡ HomeRw → home.rest ≡ NoRest →
      home2 ≡ record home { state = HomeRo; sharers = with_node nobody i; tag = ReadOnly } →
      t ≡ s → AtCache n h home2 j t
  beside_given_ro i o p r q e = grind (arith, nat_tests)

  pub beside_given_ro_more : (i : ℕ) → j ≢ i → home.state ≡ HomeRo → home.rest ≡ NoRest →
      home2 ≡ record home { sharers = with_node home.sharers i } →
      t ≡ s → AtCache n h home2 j t
  beside_given_ro_more i o p r q e = grind (arith, nat_tests)

  -- GET_RW at Home_RW, row 1
  pub given_rw : home.state ≡ HomeRw → home.rest ≡ NoRest → home2 ≡ record home { state = HomeExcl; owner = j; tag = Invalid } →
      Loses s t 0 1 → t.down ≡ s.down ++ NDataRw home.words ∷ [] → t.up ≡ s.up → AtCache n h home2 j t
  given_rw p r q l d u = grind (arith, nat_tests)

  pub beside_given_rw : (i : ℕ) → j ≢ i → home.state ≡ HomeRw → home.rest ≡ NoRest →
      home2 ≡ record home { state = HomeExcl; owner = i; tag = Invalid } →
      t ≡ s → AtCache n h home2 j t
  beside_given_rw i o p r q e = grind (arith, nat_tests)

  -- GET_RW at Home_RO with others, row 5: the asker, another sharer, and a cache that shares nothing
  pub held_back : (k : ℕ) → home.state ≡ HomeRo → home.rest ≡ NoRest →
      home2 ≡ record home { state = HomeAcks; rest = OfRw j; sharers = nobody; acks = k } →
      Loses s t 0 1 → t.down ≡ s.down → t.up ≡ s.up → AtCache n h home2 j t × (owes t ≡ 0)
  held_back k p r q l d u = grind (arith, nat_tests)

  pub sent_inv : (i k : ℕ) → j ≢ i → home.sharers j ≡ true → home.state ≡ HomeRo → home.rest ≡ NoRest →
      home2 ≡ record home { state = HomeAcks; rest = OfRw i; sharers = nobody; acks = k } →
      t ≡ record s { down = s.down ++ NInv ∷ [] } → AtCache n h home2 j t × (owes t ≡ 1)
  sent_inv i k o x p r q e = grind (arith, nat_tests)

  pub sent_none : (i k : ℕ) → j ≢ i → home.sharers j ≡ false → home.state ≡ HomeRo → home.rest ≡ NoRest →
      home2 ≡ record home { state = HomeAcks; rest = OfRw i; sharers = nobody; acks = k } →
      t ≡ s → AtCache n h home2 j t × (owes t ≡ 0)
  sent_none i k o x p r q e = grind (arith, nat_tests)

  -- the home's own WR_FAULT at Home_RO, row 3
  pub sent_inv_home : (k : ℕ) → home.sharers j ≡ true → home.state ≡ HomeRo → home.rest ≡ NoRest →
      home2 ≡ record home { state = HomeAcks; rest = OfHome; sharers = nobody; acks = k } →
      t ≡ record s { down = s.down ++ NInv ∷ [] } → AtCache n h home2 j t × (owes t ≡ 1)
  sent_inv_home k x p r q e = grind (arith, nat_tests)

  pub sent_none_home : (k : ℕ) → home.sharers j ≡ false → home.state ≡ HomeRo → home.rest ≡ NoRest →
      home2 ≡ record home { state = HomeAcks; rest = OfHome; sharers = nobody; acks = k } →
      t ≡ s → AtCache n h home2 j t × (owes t ≡ 0)
  sent_none_home k x p r q e = grind (arith, nat_tests)

  -- GET_RW at Home_RO alone, row 6
  pub given_rw_alone : (z : ℕ → Bool) → home.state ≡ HomeRo → home.rest ≡ NoRest →
      home2 ≡ record home { state = HomeExcl; rest = NoRest; owner = j; sharers = z; acks = 0; tag = Invalid } →
      Loses s t 0 1 → t.down ≡ s.down ++ NDataRw home.words ∷ [] → t.up ≡ s.up → AtCache n h home2 j t
  given_rw_alone z p r q l d u = grind (arith, nat_tests)

  pub beside_given_rw_alone : (i : ℕ) (z : ℕ → Bool) → j ≢ i → home.sharers j ≡ false → home.state ≡ HomeRo →
      home.rest ≡ NoRest → home2 ≡ record home {
        state = HomeExcl;
        rest = NoRest;
        owner = i;
        sharers = z;
        acks = 0;
        tag = Invalid;
      } →
      t ≡ s → AtCache n h home2 j t
  beside_given_rw_alone i z o x p r q e = grind (arith, nat_tests)

  -- a recall, rows 7 to 10: the owner; the asker; another cache
  pub recalled : (r2 : Rest) → j ≡ home.owner → held_ro r2 j + held_rw r2 j ≡ 0 → home.state ≡ HomeExcl → home.rest ≡ NoRest →
      home2 ≡ record home { state = HomePut; rest = r2 } →
      t ≡ record s { down = s.down ++ NRecall ∷ [] } → AtCache n h home2 j t
  recalled r2 o x p r q e = grind (arith, nat_tests, how_many-append)

  pub held_for_ro : home.state ≡ HomeExcl → home.rest ≡ NoRest → home2 ≡ record home { state = HomePut; rest = OfRo j } →
      j ≢ home.owner →
      Loses s t 1 0 → t.down ≡ s.down → t.up ≡ s.up → AtCache n h home2 j t
  held_for_ro p r q o l d u = grind (arith, nat_tests)

  pub held_for_rw : home.state ≡ HomeExcl → home.rest ≡ NoRest → home2 ≡ record home { state = HomePut; rest = OfRw j } →
      j ≢ home.owner →
      Loses s t 0 1 → t.down ≡ s.down → t.up ≡ s.up → AtCache n h home2 j t
  held_for_rw p r q o l d u = grind (arith, nat_tests)

  pub beside_recall : (r2 : Rest) → held_ro r2 j + held_rw r2 j ≡ 0 → j ≢ home.owner → home.state ≡ HomeExcl →
      home.rest ≡ NoRest → home2 ≡ record home { state = HomePut; rest = r2 } →
      t ≡ s → AtCache n h home2 j t
  beside_recall r2 x o p r q e = grind (arith, nat_tests)

  -- the owner cannot ask
  pub owner_asks_nothing : home.state ≡ HomeExcl → home.rest ≡ NoRest → j ≡ home.owner → (gets_ro s ≡ 0) × (gets_rw s ≡ 0)
  owner_asks_nothing p r o = grind (arith, nat_tests)

  -- an ACK, rows 11 to 13: at its sender, with t.up one shorter
  pub took_ack : (k : ℕ) (rest : List Note) → home.state ≡ HomeAcks → home2 ≡ record home { acks = k } → s.up ≡ NAck ∷ rest →
      t ≡ record s { up = rest } → AtCache n h home2 j t × (owes s ≡ 1) × (owes t ≡ 0)
  took_ack k rest p q u e = go home.rest refl (home.sharers j) refl
    where
      go : (w : Rest) → home.rest ≡ w → (b : Bool) → home.sharers j ≡ b → AtCache n h home2 j t × (owes s ≡ 1) × (owes t ≡ 0)
      go (OfRo x) w true y = absurd (grind (arith, nat_tests))
      go (OfRo x) w false y = grind (arith, nat_tests, how_many-append)
      go _ w b y = grind (arith, nat_tests, how_many-append)

  pub beside_ack : (k : ℕ) → home.state ≡ HomeAcks → home2 ≡ record home { acks = k } → t ≡ s → AtCache n h home2 j t
  beside_ack k p q e = grind (arith, nat_tests)

  -- GET_RO at Home_RO that meets two sharers: who asks for a copy is none; then the asker, the sharer k that gives its copy up,
  -- the one that stays, and another cache
  pub asker_has_none : home.state ≡ HomeRo → home.rest ≡ NoRest → 1 ≤ gets_ro s → home.sharers j ≡ false
  asker_has_none p r asks = go (home.sharers j) refl
    where
      go : (b : Bool) → home.sharers j ≡ b → home.sharers j ≡ false
      go false y = y
      go true y = absurd (grind (arith, nat_tests))

  pub held_for_copy : (k : ℕ) → home.sharers j ≡ false → home.state ≡ HomeRo → home.rest ≡ NoRest →
      home2 ≡ record home { state = HomeAcks; rest = OfRo j; sharers = without_node home.sharers k; acks = 1 } →
      Loses s t 1 0 → t.down ≡ s.down → t.up ≡ s.up → AtCache n h home2 j t × (owes t ≡ 0)
  held_for_copy k x p r q l d u = grind (arith, nat_tests)

  pub gives_up : (i : ℕ) → j ≢ i → home.sharers j ≡ true → home.state ≡ HomeRo → home.rest ≡ NoRest →
      home2 ≡ record home { state = HomeAcks; rest = OfRo i; sharers = without_node home.sharers j; acks = 1 } →
      t ≡ record s { down = s.down ++ NInv ∷ [] } → AtCache n h home2 j t × (owes t ≡ 1)
  gives_up i o x p r q e = grind (arith, nat_tests)

  pub stays_sharer : (i k : ℕ) → j ≢ i → j ≢ k → home.sharers j ≡ true → home.state ≡ HomeRo → home.rest ≡ NoRest →
      home2 ≡ record home { state = HomeAcks; rest = OfRo i; sharers = without_node home.sharers k; acks = 1 } →
      t ≡ s → AtCache n h home2 j t × (owes t ≡ 0)
  stays_sharer i k o v x p r q e = grind (arith, nat_tests)

  pub beside_gives_up : (i k : ℕ) → j ≢ i → j ≢ k → home.sharers j ≡ false → home.state ≡ HomeRo → home.rest ≡ NoRest →
      home2 ≡ record home { state = HomeAcks; rest = OfRo i; sharers = without_node home.sharers k; acks = 1 } →
      t ≡ s → AtCache n h home2 j t × (owes t ≡ 0)
  beside_gives_up i k o v x p r q e = grind (arith, nat_tests)

  -- who sends an ACK is no sharer that stays, and not the asker
  pub answers_no_sharer : (i : ℕ) (rest : List Note) → home.state ≡ HomeAcks → home.rest ≡ OfRo i → s.up ≡ NAck ∷ rest →
      (home.sharers j ≡ false) × (j ≢ i)
  answers_no_sharer i rest p r u = go (home.sharers j) refl
    where
      go : (b : Bool) → home.sharers j ≡ b → (home.sharers j ≡ false) × (j ≢ i)
      go true y = absurd (grind (arith, nat_tests))
      go false y = (y, λ e. grind (arith, nat_tests))

  -- its ACK: the asker, the sharer that stayed, and another cache, which owes nothing
  pub shares_asker : home.sharers j ≡ false → home.state ≡ HomeAcks → home.rest ≡ OfRo j →
      home2 ≡ record home { state = HomeRo; rest = NoRest; sharers = with_node home.sharers j; acks = 0 } →
      t ≡ record s { down = s.down ++ NDataRo home.words ∷ [] } → AtCache n h home2 j t
  shares_asker x p r q e = grind (arith, nat_tests)

  pub shares_stayed : (i : ℕ) → j ≢ i → home.sharers j ≡ true → home.state ≡ HomeAcks → home.rest ≡ OfRo i →
      home2 ≡ record home { state = HomeRo; rest = NoRest; sharers = with_node home.sharers i; acks = 0 } →
      t ≡ s → AtCache n h home2 j t
  shares_stayed i o x p r q e = grind (arith, nat_tests)

  pub shares_beside : (i : ℕ) → j ≢ i → home.sharers j ≡ false → owes s ≡ 0 → home.state ≡ HomeAcks → home.rest ≡ OfRo i →
      home2 ≡ record home { state = HomeRo; rest = NoRest; sharers = with_node home.sharers i; acks = 0 } →
      t ≡ s → AtCache n h home2 j t
  shares_beside i o x z p r q e = grind (arith, nat_tests)

  -- the last ACK of the home's own fault, row 12, once j owes nothing
  pub all_home : (k : ℕ) → home.state ≡ HomeAcks → home.rest ≡ OfHome →
      home2 ≡ record home { state = HomeRw; rest = NoRest; acks = k; tag = ReadWrite } →
      owes s ≡ 0 → t ≡ s → AtCache n h home2 j t
  all_home k p r q o e = grind (arith, nat_tests)

  -- of a GET_RW, row 13: the asker, and another cache
  pub gives_asker : (k : ℕ) → home.state ≡ HomeAcks → home.rest ≡ OfRw j →
      home2 ≡ record home { state = HomeExcl; rest = NoRest; owner = j; acks = k; tag = Invalid } →
      t ≡ record s { down = s.down ++ NDataRw home.words ∷ [] } → AtCache n h home2 j t
  gives_asker k p r q e = grind (arith, nat_tests)

  pub beside_gives_asker : (k i : ℕ) → j ≢ i → home.state ≡ HomeAcks → home.rest ≡ OfRw i →
      home2 ≡ record home { state = HomeExcl; rest = NoRest; owner = i; acks = k; tag = Invalid } →
      owes s ≡ 0 → t ≡ s → AtCache n h home2 j t
  beside_gives_asker k i d p r q o e = grind (arith, nat_tests)

  -- a PUT, rows 15 to 17: at its sender
  pub put_is_owners : (vs : List ℕ) (rest : List Note) → home.state ≡ HomePut → s.up ≡ NPut vs ∷ rest →
      (j ≡ home.owner) × (rest ≡ [])
  put_is_owners vs rest p u = grind (arith, nat_tests)

  pub took_put_home : (vs : List ℕ) (rest : List Note) → home.state ≡ HomePut → home.rest ≡ OfHome →
      home2 ≡ record home { state = HomeRw; rest = NoRest; tag = ReadWrite; words = vs } →
      s.up ≡ NPut vs ∷ rest → t ≡ record s { up = rest } → AtCache n h home2 j t
  took_put_home vs rest p r q u e = grind (arith, nat_tests)

  pub beside_put_home : (vs : List ℕ) → home.state ≡ HomePut → home.rest ≡ OfHome →
      home2 ≡ record home { state = HomeRw; rest = NoRest; tag = ReadWrite; words = vs } →
      j ≢ home.owner → t ≡ s → AtCache n h home2 j t
  beside_put_home vs p r q o e = grind (arith, nat_tests)

  pub took_put_ro : (vs : List ℕ) (rest : List Note) (i : ℕ) → home.state ≡ HomePut → home.rest ≡ OfRo i →
      home2 ≡ record home { state = HomeRo; rest = NoRest; sharers = with_node nobody i; tag = ReadOnly; words = vs } →
      s.up ≡ NPut vs ∷ rest → t ≡ record s { up = rest } → AtCache n h home2 j t
  took_put_ro vs rest i p r q u e = grind (arith, nat_tests)

  pub asker_put_ro : (vs : List ℕ) → home.state ≡ HomePut → home.rest ≡ OfRo j →
      home2 ≡ record home { state = HomeRo; rest = NoRest; sharers = with_node nobody j; tag = ReadOnly; words = vs } →
      t ≡ record s { down = s.down ++ NDataRo vs ∷ [] } → AtCache n h home2 j t
  asker_put_ro vs p r q e = grind (arith, nat_tests)

  pub beside_put_ro : (vs : List ℕ) (i : ℕ) → home.state ≡ HomePut → home.rest ≡ OfRo i →
      home2 ≡ record home { state = HomeRo; rest = NoRest; sharers = with_node nobody i; tag = ReadOnly; words = vs } →
      j ≢ i → j ≢ home.owner → t ≡ s → AtCache n h home2 j t
  beside_put_ro vs i p r q d o e = grind (arith, nat_tests)

  pub took_put_rw : (vs : List ℕ) (rest : List Note) (i : ℕ) → home.state ≡ HomePut → home.rest ≡ OfRw i →
      home2 ≡ record home { state = HomeExcl; rest = NoRest; owner = i; tag = Invalid; words = vs } →
      s.up ≡ NPut vs ∷ rest → t ≡ record s { up = rest } → AtCache n h home2 j t
  took_put_rw vs rest i p r q u e = grind (arith, nat_tests)

  pub asker_put_rw : (vs : List ℕ) → home.state ≡ HomePut → home.rest ≡ OfRw j →
      home2 ≡ record home { state = HomeExcl; rest = NoRest; owner = j; tag = Invalid; words = vs } →
      t ≡ record s { down = s.down ++ NDataRw vs ∷ [] } → AtCache n h home2 j t
  asker_put_rw vs p r q e = grind (arith, nat_tests)

  pub beside_put_rw : (vs : List ℕ) (i : ℕ) → home.state ≡ HomePut → home.rest ≡ OfRw i →
      home2 ≡ record home { state = HomeExcl; rest = NoRest; owner = i; tag = Invalid; words = vs } →
      j ≢ i → j ≢ home.owner → t ≡ s → AtCache n h home2 j t
  beside_put_rw vs i p r q d o e = grind (arith, nat_tests)

  -- deferral, rows 14 and 18, and everything that leaves the home as it is: requests move, their counts stay
  pub moved : home2 ≡ home → Loses s t 0 0 → t.down ≡ s.down → t.up ≡ s.up → AtCache n h home2 j t
  moved q l d u = subst (λ (z : Here). AtCache n h z j t) (sym q) (record {
    state = grind arith;
    tag = grind arith;
    rest = grind arith;
    asks = l.asks;
    keeps = l.keeps;
    one = grind (arith, nat_tests);
    stands = stands home.state refl home.rest refl;
    copies = record {
      copies = λ m e. l.words ∙ a.copies.copies m (sym l.state ∙ e);
      comes = λ m. subst (λ z. Each (HasWords home.words) z) (sym d) (a.copies.comes m);
    };
  })
    where
      stands : (x : State) → home.state ≡ x → (w : Rest) → home.rest ≡ w →
          Stands home.state home j t (gets_ro t + held_ro home.rest j) (gets_rw t + held_rw home.rest j)
      stands HomeAcks p (OfRo i) w = grind (arith, nat_tests)
      stands HomeAcks p r w = grind (arith, nat_tests)
      stands x p r w = grind (arith, nat_tests)

  -- a store at the home
  pub home_stores : (vs : List ℕ) → home.state ≡ HomeRw → home2 ≡ record home { words = vs } → t ≡ s → AtCache n h home2 j t
  home_stores vs p q e = grind (arith, nat_tests)

  -- where the block's words are after a row
  pub given_words : (ws : List ℕ) (ro wr : ℕ) → (home.state ≡ HomeRw) ⊎ (home.state ≡ HomeRo) → home.rest ≡ NoRest →
      Loses s t ro wr → 1 ≤ wr → t.down ≡ s.down ++ NDataRw ws ∷ [] → t.up ≡ s.up → owner_words t ≡ ws
  given_words ws ro wr p r l o d u = grind (arith, nat_tests)

  pub recall_words : home.state ≡ HomeExcl → j ≡ home.owner → t ≡ record s { down = s.down ++ NRecall ∷ [] } →
      owner_words t ≡ owner_words s
  recall_words p o e = grind (arith, nat_tests)

  pub asker_words : (ws : List ℕ) → (home.state ≡ HomeAcks) ⊎ (home.state ≡ HomePut) → home.rest ≡ OfRw j →
      t ≡ record s { down = s.down ++ NDataRw ws ∷ [] } → owner_words t ≡ ws
  asker_words ws p r e = grind (arith, nat_tests)

  pub put_words : (vs : List ℕ) (rest : List Note) → home.state ≡ HomePut → s.up ≡ NPut vs ∷ rest → owner_words s ≡ vs
  put_words vs rest p u = grind (arith, nat_tests)

-- ---- what comes up

only_acks : (st : State) (ro wr gets : ℕ) (down : List Note) (x : Note) (rest : List Note) →
    Answers st ro wr gets down (x ∷ rest) → x ≡ NAck
only_acks st ro wr gets down x rest a = grind arith

is_ack : (m : Message) → note m ≡ NAck → m.kind ≡ Ack
is_ack m e = grind arith

is_put : (m : Message) (vs : List ℕ) → note m ≡ NPut vs → m.kind ≡ Put
is_put m vs e = grind arith

module _ (n h : ℕ) (home : Here) (j : ℕ) (s : Spot) (m : Message) (rest : List Note) (a : AtCache n h home j s)
    (u : s.up ≡ note m ∷ rest) where
  answers : home.state ≡ HomeAcks → Answers s.state (gets_ro s + held_ro home.rest j) (gets_rw s + held_rw home.rest j)
      (gets_rw s) s.down s.up
  answers p = go home.rest refl (home.sharers j) refl
    where
      go : (w : Rest) → home.rest ≡ w → (b : Bool) → home.sharers j ≡ b →
          Answers s.state (gets_ro s + held_ro home.rest j) (gets_rw s + held_rw home.rest j) (gets_rw s) s.down s.up
      go (OfRo i) w true y = absurd (grind arith)
      go (OfRo i) w false y = grind arith
      go _ w b y = grind arith

  put_note : home.state ≡ HomePut → (vs : List ℕ) × (note m ≡ NPut vs)
  put_note p = go (note m) refl
    where
      go : (x : Note) → note m ≡ x → (vs : List ℕ) × (note m ≡ NPut vs)
      go (NPut vs) e = (vs, e)
      go x e = absurd (grind arith)

  -- an answer comes only where it is waited for
  pub waited_for : (home.state ≡ HomeAcks) × (m.kind ≡ Ack) ⊎ (home.state ≡ HomePut) × (m.kind ≡ Put)
  waited_for = go home.state refl
    where
      go : (st : State) → home.state ≡ st → (home.state ≡ HomeAcks) × (m.kind ≡ Ack) ⊎ (home.state ≡ HomePut) × (m.kind ≡ Put)
      go HomeAcks p = inl (p, is_ack m (only_acks s.state _ _ (gets_rw s) s.down (note m) rest (rw u at (answers p))))
      go HomePut p = inr (p, is_put m (put_note p).0 (put_note p).1)
      go HomeRo p = absurd (shares p (home.sharers j) refl)
        where
          shares : home.state ≡ HomeRo → (b : Bool) → home.sharers j ≡ b → ⊥
          shares p true y = grind arith
          shares p false y = grind arith
      go st p = absurd (grind arith)

pub owner_words_same : (s t : Spot) → t.state ≡ s.state → t.words ≡ s.words → t.down ≡ s.down → t.up ≡ s.up →
    owner_words t ≡ owner_words s
owner_words_same s t a b c d = cc
