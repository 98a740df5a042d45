-- What a row at the home does to one cache j; i is the node that the message came from.
use Rattle.std.proofs.Common.{◌≡◌, ◌≢◌, ℕ, ◌+◌, ◌≤◌, Bool, true, false, List, [], ◌∷◌, ◌++◌, arith, ap, subst, sym, ◌∙◌, ◌⊎◌}
use Rattle.std.proofs.lemmas.Bool.Decides.{nat_tests}
use Rattle.block_spots.specs.Cases.{State, HomeRw, HomeRo, HomeExcl, HomeAcks, HomePut, Rest, NoRest, OfHome, OfLoad, OfRo}
use Rattle.block_spots.specs.Cases.{OfRw, Here, nobody, with_node}
use Rattle.block_spots.specs.Notes.{Note, is_data_ro, is_data_rw, NInv, NAck, NRecall, NRecallRo, NDataRo, NDataRw, NPut}
use Rattle.block_spots.specs.Notes.{NPutRo, Spot, gets_ro, gets_rw, held_ro, held_rw, owes}
use Rattle.stache_d_inv.specs.Coherent.{Answers, Apart, AtCache, HasAnswered, HasWords, IsAway, IsCacheState, IsSharer}
use Rattle.stache_d_inv.specs.Coherent.{OneRequest, Owns, Recalled, RestFits, Stands, owner_words, tag_of}
use Rattle.tw_base.specs.Lists.{Each, how_many}
use Rattle.tw_base.specs.declared.value.Tag.TheVariants.{Invalid, ReadOnly, ReadWrite}
use Rattle.coherence_frame.proofs.Counts.{how_many-append}
use Rattle.coherence_frame.proofs.Turning.{Loses}

abbrev pub IsOfRw : Rest → Type 0
IsOfRw (OfRw a) = Unit {0}
IsOfRw _ = ⊥

abbrev pub IsOfRo : Rest → Type 0
IsOfRo (OfRo a) = Unit {0}
IsOfRo _ = ⊥

-- what is said of a spot's state, requests and channel 1 is said of another with the same
along : (P : State → ℕ → ℕ → ℕ → List Note → List Note → Type 0) (s t : Spot) (ro wr ro2 wr2 : ℕ) → ro2 ≡ ro → wr2 ≡ wr →
    t.state ≡ s.state → gets_rw t ≡ gets_rw s → t.down ≡ s.down → t.up ≡ s.up →
    P s.state ro wr (gets_rw s) s.down s.up → P t.state ro2 wr2 (gets_rw t) t.down t.up
along P s t ro wr ro2 wr2 x y a g b c h =
    subst (λ z. P z ro2 wr2 (gets_rw t) t.down t.up) (sym a)
    (subst (λ z. P s.state z wr2 (gets_rw t) t.down t.up) (sym x)
    (subst (λ z. P s.state ro z (gets_rw t) t.down t.up) (sym y)
    (subst (λ z. P s.state ro wr z t.down t.up) (sym g)
    (subst (λ z. P s.state ro wr (gets_rw s) z t.up) (sym b)
    (subst (λ z. P s.state ro wr (gets_rw s) s.down z) (sym c) h)))))

apart_along : (s t : Spot) (ro wr ro2 wr2 : ℕ) → ro2 ≡ ro → wr2 ≡ wr → t.state ≡ s.state → gets_rw t ≡ gets_rw s →
    t.down ≡ s.down → t.up ≡ s.up → Apart s ro wr → Apart t ro2 wr2
apart_along s t ro wr ro2 wr2 x y a g b c h = record {
  away = along (λ st m k gets down up. IsAway st m k) s t ro wr ro2 wr2 x y a g b c h.away;
  down = b ∙ h.down;
  up = c ∙ h.up;
}

stands_along : (st : State) (home : Here) (j : ℕ) (s t : Spot) (ro wr ro2 wr2 : ℕ) → ro2 ≡ ro → wr2 ≡ wr → t.state ≡ s.state →
    gets_rw t ≡ gets_rw s → t.down ≡ s.down → t.up ≡ s.up →
    Stands st home j s ro wr → Stands st home j t ro2 wr2
stands_along HomeRw home j s t ro wr ro2 wr2 x y a g b c h = apart_along s t ro wr ro2 wr2 x y a g b c h
stands_along HomeRo home j s t ro wr ro2 wr2 x y a g b c h = (
  λ m. (along (λ st n k gets down up. IsSharer st gets down) s t ro wr ro2 wr2 x y a g b c (h.0 m).0, c ∙ (h.0 m).1),
  λ m. apart_along s t ro wr ro2 wr2 x y a g b c (h.1 m),
)
stands_along HomeAcks home j s t ro wr ro2 wr2 x y a g b c h = (
  along (λ st n k gets down up. Answers st n k gets down up) s t ro wr ro2 wr2 x y a g b c h.0,
  λ m. (b ∙ (h.1 m).0, c ∙ (h.1 m).1),
)
stands_along HomeExcl home j s t ro wr ro2 wr2 x y a g b c h = (
  λ m. (along (λ st n k gets down up. Owns st down) s t ro wr ro2 wr2 x y a g b c (h.0 m).0, c ∙ (h.0 m).1),
  λ m. apart_along s t ro wr ro2 wr2 x y a g b c (h.1 m),
)
stands_along HomePut home j s t ro wr ro2 wr2 x y a g b c h = (
  λ m. (along (λ st n k gets down up. Recalled home.rest st n k gets down up) s t ro wr ro2 wr2 x y a g b c (h.0 m).0, (h.0 m).1),
  λ m. apart_along s t ro wr ro2 wr2 x y a g b c (h.1 m),
)
stands_along _ home j s t ro wr ro2 wr2 x y a g b c h = absurd h

module _ (n h : ℕ) (home home2 : Here) (j : ℕ) (s t : Spot) (a : AtCache n h home j s) where
  -- the sender's GET_RO at Home_RW, row 0, and at Home_RO, row 4
  pub given_ro : home.state ≡ HomeRw → home.rest ≡ NoRest → home2
      ≡ record home { state = HomeRo; sharers = with_node nobody j; tag = ReadOnly } →
      Loses s t 1 0 → t.down ≡ s.down ++ NDataRo home.words ∷ [] → t.up ≡ s.up → AtCache n h home2 j t
  given_ro p r q l d u = grind (arith, nat_tests)

  pub given_ro_more : home.state ≡ HomeRo → home.rest ≡ NoRest → home2 ≡ record home { sharers = with_node home.sharers j } →
      Loses s t 1 0 → t.down ≡ s.down ++ NDataRo home.words ∷ [] → t.up ≡ s.up → AtCache n h home2 j t
  given_ro_more p r q l d u = grind (arith, nat_tests)

  -- another cache then
  pub beside_given_ro : (i : ℕ) → j ≢ i → home.state ≡ HomeRw → home.rest ≡ NoRest →
      home2 ≡ record home { state = HomeRo; sharers = with_node nobody i; tag = ReadOnly } →
      t ≡ s → AtCache n h home2 j t
  beside_given_ro i o p r q e = grind (arith, nat_tests)

  pub beside_given_ro_more : (i : ℕ) → j ≢ i → home.state ≡ HomeRo → home.rest ≡ NoRest →
      home2 ≡ record home { sharers = with_node home.sharers i } →
      t ≡ s → AtCache n h home2 j t
  beside_given_ro_more i o p r q e = grind (arith, nat_tests)

  -- GET_RW at Home_RW, row 1
  pub given_rw : home.state ≡ HomeRw → home.rest ≡ NoRest → home2 ≡ record home { state = HomeExcl; owner = j; tag = Invalid } →
      Loses s t 0 1 → t.down ≡ s.down ++ NDataRw home.words ∷ [] → t.up ≡ s.up → AtCache n h home2 j t
  given_rw p r q l d u = grind (arith, nat_tests)

  pub beside_given_rw : (i : ℕ) → j ≢ i → home.state ≡ HomeRw → home.rest ≡ NoRest →
      home2 ≡ record home { state = HomeExcl; owner = i; tag = Invalid } →
      t ≡ s → AtCache n h home2 j t
  beside_given_rw i o p r q e = grind (arith, nat_tests)

  -- GET_RW at Home_RO with others, row 5: the asker, another sharer, and a cache that shares nothing
  pub held_back : (k : ℕ) → home.state ≡ HomeRo → home.rest ≡ NoRest →
      home2 ≡ record home { state = HomeAcks; rest = OfRw j; sharers = nobody; acks = k } →
      Loses s t 0 1 → t.down ≡ s.down → t.up ≡ s.up → AtCache n h home2 j t × (owes t ≡ 0)
  held_back k p r q l d u = grind (arith, nat_tests)

  pub sent_inv : (i k : ℕ) → j ≢ i → home.sharers j ≡ true → home.state ≡ HomeRo → home.rest ≡ NoRest →
      home2 ≡ record home { state = HomeAcks; rest = OfRw i; sharers = nobody; acks = k } →
      t ≡ record s { down = s.down ++ NInv ∷ [] } → AtCache n h home2 j t × (owes t ≡ 1)
  sent_inv i k o x p r q e = grind (arith, nat_tests)

  pub sent_none : (i k : ℕ) → j ≢ i → home.sharers j ≡ false → home.state ≡ HomeRo → home.rest ≡ NoRest →
      home2 ≡ record home { state = HomeAcks; rest = OfRw i; sharers = nobody; acks = k } →
      t ≡ s → AtCache n h home2 j t × (owes t ≡ 0)
  sent_none i k o x p r q e = grind (arith, nat_tests)

  -- the home's own WR_FAULT at Home_RO, row 3
  pub sent_inv_home : (k : ℕ) → home.sharers j ≡ true → home.state ≡ HomeRo → home.rest ≡ NoRest →
      home2 ≡ record home { state = HomeAcks; rest = OfHome; sharers = nobody; acks = k } →
      t ≡ record s { down = s.down ++ NInv ∷ [] } → AtCache n h home2 j t × (owes t ≡ 1)
  sent_inv_home k x p r q e = grind (arith, nat_tests)

  pub sent_none_home : (k : ℕ) → home.sharers j ≡ false → home.state ≡ HomeRo → home.rest ≡ NoRest →
      home2 ≡ record home { state = HomeAcks; rest = OfHome; sharers = nobody; acks = k } →
      t ≡ s → AtCache n h home2 j t × (owes t ≡ 0)
  sent_none_home k x p r q e = grind (arith, nat_tests)

  -- GET_RW at Home_RO alone, row 6
  pub given_rw_alone : (z : ℕ → Bool) → home.state ≡ HomeRo → home.rest ≡ NoRest →
      home2 ≡ record home { state = HomeExcl; rest = NoRest; owner = j; sharers = z; acks = 0; tag = Invalid } →
      Loses s t 0 1 → t.down ≡ s.down ++ NDataRw home.words ∷ [] → t.up ≡ s.up → AtCache n h home2 j t
  given_rw_alone z p r q l d u = grind (arith, nat_tests)

  pub beside_given_rw_alone : (i : ℕ) (z : ℕ → Bool) → j ≢ i → home.sharers j ≡ false → home.state ≡ HomeRo →
      home.rest ≡ NoRest → home2 ≡ record home {
        state = HomeExcl;
        rest = NoRest;
        owner = i;
        sharers = z;
        acks = 0;
        tag = Invalid;
      } →
      t ≡ s → AtCache n h home2 j t
  beside_given_rw_alone i z o x p r q e = grind (arith, nat_tests)

  -- a recall: the owner, by whose request it is; the asker; another cache
  pub recalled_home : j ≡ home.owner → home.state ≡ HomeExcl → home.rest ≡ NoRest →
      home2 ≡ record home { state = HomePut; rest = OfHome } →
      t ≡ record s { down = s.down ++ NRecall ∷ [] } → AtCache n h home2 j t
  recalled_home o p r q e = grind (arith, nat_tests, how_many-append)

  pub recalled_rw : (i : ℕ) → j ≢ i → j ≡ home.owner → home.state ≡ HomeExcl → home.rest ≡ NoRest →
      home2 ≡ record home { state = HomePut; rest = OfRw i } →
      t ≡ record s { down = s.down ++ NRecall ∷ [] } → AtCache n h home2 j t
  recalled_rw i d o p r q e = grind (arith, nat_tests, how_many-append)

  pub recalled_load : j ≡ home.owner → home.state ≡ HomeExcl → home.rest ≡ NoRest →
      home2 ≡ record home { state = HomePut; rest = OfLoad } →
      t ≡ record s { down = s.down ++ NRecallRo ∷ [] } → AtCache n h home2 j t
  recalled_load o p r q e = grind (arith, nat_tests, how_many-append)

  pub recalled_ro : (i : ℕ) → j ≢ i → j ≡ home.owner → home.state ≡ HomeExcl → home.rest ≡ NoRest →
      home2 ≡ record home { state = HomePut; rest = OfRo i } →
      t ≡ record s { down = s.down ++ NRecallRo ∷ [] } → AtCache n h home2 j t
  recalled_ro i d o p r q e = grind (arith, nat_tests, how_many-append)

  pub held_for_ro : home.state ≡ HomeExcl → home.rest ≡ NoRest → home2 ≡ record home { state = HomePut; rest = OfRo j } →
      j ≢ home.owner →
      Loses s t 1 0 → t.down ≡ s.down → t.up ≡ s.up → AtCache n h home2 j t
  held_for_ro p r q o l d u = grind (arith, nat_tests)

  pub held_for_rw : home.state ≡ HomeExcl → home.rest ≡ NoRest → home2 ≡ record home { state = HomePut; rest = OfRw j } →
      j ≢ home.owner →
      Loses s t 0 1 → t.down ≡ s.down → t.up ≡ s.up → AtCache n h home2 j t
  held_for_rw p r q o l d u = grind (arith, nat_tests)

  pub beside_recall : (r2 : Rest) → held_ro r2 j + held_rw r2 j ≡ 0 → j ≢ home.owner → home.state ≡ HomeExcl →
      home.rest ≡ NoRest → home2 ≡ record home { state = HomePut; rest = r2 } →
      t ≡ s → AtCache n h home2 j t
  beside_recall r2 x o p r q e = grind (arith, nat_tests)

  -- the owner cannot ask
  pub owner_asks_nothing : home.state ≡ HomeExcl → home.rest ≡ NoRest → j ≡ home.owner → (gets_ro s ≡ 0) × (gets_rw s ≡ 0)
  owner_asks_nothing p r o = grind (arith, nat_tests)

  -- an ACK, rows 11 to 13: at its sender, with t.up one shorter
  pub took_ack : (k : ℕ) (rest : List Note) → home.state ≡ HomeAcks → home2 ≡ record home { acks = k } → s.up ≡ NAck ∷ rest →
      t ≡ record s { up = rest } → AtCache n h home2 j t × (owes s ≡ 1) × (owes t ≡ 0)
  took_ack k rest p q u e = grind (arith, nat_tests, how_many-append)

  pub beside_ack : (k : ℕ) → home.state ≡ HomeAcks → home2 ≡ record home { acks = k } → t ≡ s → AtCache n h home2 j t
  beside_ack k p q e = grind (arith, nat_tests)

  -- the last ACK of the home's own fault, row 12, once j owes nothing
  pub all_home : (k : ℕ) → home.state ≡ HomeAcks → home.rest ≡ OfHome →
      home2 ≡ record home { state = HomeRw; rest = NoRest; acks = k; tag = ReadWrite } →
      owes s ≡ 0 → t ≡ s → AtCache n h home2 j t
  all_home k p r q o e = grind (arith, nat_tests)

  -- of a GET_RW, row 13: the asker, and another cache
  pub gives_asker : (k : ℕ) → home.state ≡ HomeAcks → home.rest ≡ OfRw j →
      home2 ≡ record home { state = HomeExcl; rest = NoRest; owner = j; acks = k; tag = Invalid } →
      t ≡ record s { down = s.down ++ NDataRw home.words ∷ [] } → AtCache n h home2 j t
  gives_asker k p r q e = grind (arith, nat_tests)

  pub beside_gives_asker : (k i : ℕ) → j ≢ i → home.state ≡ HomeAcks → home.rest ≡ OfRw i →
      home2 ≡ record home { state = HomeExcl; rest = NoRest; owner = i; acks = k; tag = Invalid } →
      owes s ≡ 0 → t ≡ s → AtCache n h home2 j t
  beside_gives_asker k i d p r q o e = grind (arith, nat_tests)

  -- a PUT of a write: at its sender
  pub put_is_owners : (vs : List ℕ) (rest : List Note) → home.state ≡ HomePut → (home.rest ≡ OfHome) ⊎ IsOfRw home.rest →
      s.up ≡ NPut vs ∷ rest → (j ≡ home.owner) × (rest ≡ [])
  put_is_owners vs rest p r u = grind (arith, nat_tests)

  pub took_put_home : (vs : List ℕ) (rest : List Note) → home.state ≡ HomePut → home.rest ≡ OfHome →
      home2 ≡ record home { state = HomeRw; rest = NoRest; tag = ReadWrite; words = vs } →
      s.up ≡ NPut vs ∷ rest → t ≡ record s { up = rest } → AtCache n h home2 j t
  took_put_home vs rest p r q u e = grind (arith, nat_tests)

  pub beside_put_home : (vs : List ℕ) → home.state ≡ HomePut → home.rest ≡ OfHome →
      home2 ≡ record home { state = HomeRw; rest = NoRest; tag = ReadWrite; words = vs } →
      j ≢ home.owner → t ≡ s → AtCache n h home2 j t
  beside_put_home vs p r q o e = grind (arith, nat_tests)

  pub took_put_rw : (vs : List ℕ) (rest : List Note) (i : ℕ) → home.state ≡ HomePut → home.rest ≡ OfRw i →
      home2 ≡ record home { state = HomeExcl; rest = NoRest; owner = i; tag = Invalid; words = vs } →
      s.up ≡ NPut vs ∷ rest → t ≡ record s { up = rest } → AtCache n h home2 j t
  took_put_rw vs rest i p r q u e = grind (arith, nat_tests)

  pub asker_put_rw : (vs : List ℕ) → home.state ≡ HomePut → home.rest ≡ OfRw j →
      home2 ≡ record home { state = HomeExcl; rest = NoRest; owner = j; tag = Invalid; words = vs } →
      t ≡ record s { down = s.down ++ NDataRw vs ∷ [] } → AtCache n h home2 j t
  asker_put_rw vs p r q e = grind (arith, nat_tests)

  pub beside_put_rw : (vs : List ℕ) (i : ℕ) → home.state ≡ HomePut → home.rest ≡ OfRw i →
      home2 ≡ record home { state = HomeExcl; rest = NoRest; owner = i; tag = Invalid; words = vs } →
      j ≢ i → j ≢ home.owner → t ≡ s → AtCache n h home2 j t
  beside_put_rw vs i p r q d o e = grind (arith, nat_tests)

  -- a PUT_RO: the owner stays a sharer
  pub put_ro_is_owners : (vs : List ℕ) (rest : List Note) → home.state ≡ HomePut → (home.rest ≡ OfLoad) ⊎ IsOfRo home.rest →
      s.up ≡ NPutRo vs ∷ rest → (j ≡ home.owner) × (rest ≡ [])
  put_ro_is_owners vs rest p r u = grind (arith, nat_tests)

  pub shares_load : (vs : List ℕ) (rest : List Note) → j ≡ home.owner → home.state ≡ HomePut → home.rest ≡ OfLoad →
      home2 ≡ record home { state = HomeRo; rest = NoRest; sharers = with_node nobody home.owner; tag = ReadOnly; words = vs } →
      s.up ≡ NPutRo vs ∷ rest → t ≡ record s { up = rest } → AtCache n h home2 j t
  shares_load vs rest o p r q u e = grind (arith, nat_tests)

  pub beside_load : (vs : List ℕ) → home.state ≡ HomePut → home.rest ≡ OfLoad →
      home2 ≡ record home { state = HomeRo; rest = NoRest; sharers = with_node nobody home.owner; tag = ReadOnly; words = vs } →
      j ≢ home.owner → t ≡ s → AtCache n h home2 j t
  beside_load vs p r q o e = grind (arith, nat_tests)

  pub shares_ro : (vs : List ℕ) (rest : List Note) (i : ℕ) → j ≡ home.owner → home.state ≡ HomePut → home.rest ≡ OfRo i →
      home2 ≡ record home {
        state = HomeRo;
        rest = NoRest;
        sharers = with_node (with_node nobody home.owner) i;
        tag = ReadOnly;
        words = vs;
      } →
      s.up ≡ NPutRo vs ∷ rest → t ≡ record s { up = rest } → AtCache n h home2 j t
  shares_ro vs rest i o p r q u e = grind (arith, nat_tests)

  pub asker_ro : (vs : List ℕ) → home.state ≡ HomePut → home.rest ≡ OfRo j →
      home2 ≡ record home {
        state = HomeRo;
        rest = NoRest;
        sharers = with_node (with_node nobody home.owner) j;
        tag = ReadOnly;
        words = vs;
      } →
      t ≡ record s { down = s.down ++ NDataRo vs ∷ [] } → AtCache n h home2 j t
  asker_ro vs p r q e = grind (arith, nat_tests)

  pub beside_ro : (vs : List ℕ) (i : ℕ) → home.state ≡ HomePut → home.rest ≡ OfRo i →
      home2 ≡ record home {
        state = HomeRo;
        rest = NoRest;
        sharers = with_node (with_node nobody home.owner) i;
        tag = ReadOnly;
        words = vs;
      } →
      j ≢ i → j ≢ home.owner → t ≡ s → AtCache n h home2 j t
  beside_ro vs i p r q d o e = grind (arith, nat_tests)

  -- deferral, rows 14 and 18, and everything that leaves the home as it is: requests move, their counts stay
  pub moved : home2 ≡ home → Loses s t 0 0 → t.down ≡ s.down → t.up ≡ s.up → AtCache n h home2 j t
  moved q l d u =
      let same_ro : gets_ro t ≡ gets_ro s = omega (arith, l.ro_less) in
      let same_rw : gets_rw t ≡ gets_rw s = omega (arith, l.rw_less) in
      let ro : gets_ro t + held_ro home.rest j ≡ gets_ro s + held_ro home.rest j = ap (λ k. k + held_ro home.rest j) same_ro in
      let wr : gets_rw t + held_rw home.rest j ≡ gets_rw s + held_rw home.rest j = ap (λ k. k + held_rw home.rest j) same_rw in
      subst (λ (z : Here). AtCache n h z j t) (sym q) (record {
        state = subst (λ z. IsCacheState z) (sym l.state) a.state;
        tag = l.tag ∙ a.tag ∙ ap tag_of (sym l.state);
        rest = subst (λ z. RestFits n h z t.rest) (sym l.state) (subst (λ z. RestFits n h s.state z) (sym l.rest) a.rest);
        asks = l.asks;
        keeps = l.keeps;
        one = along (λ st x y gets down up. OneRequest st x (how_many is_data_ro down) y (how_many is_data_rw down)) s t
            (gets_ro s + held_ro home.rest j) (gets_rw s + held_rw home.rest j) (gets_ro t + held_ro home.rest j)
            (gets_rw t + held_rw home.rest j) ro wr l.state same_rw d u a.one;
        stands = stands_along home.state home j s t (gets_ro s + held_ro home.rest j) (gets_rw s + held_rw home.rest j)
            (gets_ro t + held_ro home.rest j) (gets_rw t + held_rw home.rest j) ro wr l.state same_rw d u a.stands;
        copies = record {
          copies = λ m e. l.words ∙ a.copies.copies m (sym l.state ∙ e);
          comes = λ m. subst (λ z. Each (HasWords home.words) z) (sym d) (a.copies.comes m);
          answers = λ m e. subst (λ z. Each (HasAnswered z) t.up) (sym l.words)
              (subst (λ z. Each (HasAnswered s.words) z) (sym u) (a.copies.answers m (sym l.state ∙ e)));
        };
      })

  -- a store at the home
  pub home_stores : (vs : List ℕ) → home.state ≡ HomeRw → home2 ≡ record home { words = vs } → t ≡ s → AtCache n h home2 j t
  home_stores vs p q e = grind (arith, nat_tests)

  -- where the block's words are after a row
  pub given_words : (ws : List ℕ) (ro wr : ℕ) → (home.state ≡ HomeRw) ⊎ (home.state ≡ HomeRo) → home.rest ≡ NoRest →
      Loses s t ro wr → 1 ≤ wr → t.down ≡ s.down ++ NDataRw ws ∷ [] → t.up ≡ s.up → owner_words t ≡ ws
  given_words ws ro wr p r l o d u = grind (arith, nat_tests)

  pub recall_words : home.state ≡ HomeExcl → j ≡ home.owner → t ≡ record s { down = s.down ++ NRecall ∷ [] } →
      owner_words t ≡ owner_words s
  recall_words p o e = grind (arith, nat_tests)

  pub recall_ro_words : home.state ≡ HomeExcl → j ≡ home.owner → t ≡ record s { down = s.down ++ NRecallRo ∷ [] } →
      owner_words t ≡ owner_words s
  recall_ro_words p o e = grind (arith, nat_tests)

  pub asker_words : (ws : List ℕ) → (home.state ≡ HomeAcks) ⊎ (home.state ≡ HomePut) → home.rest ≡ OfRw j →
      t ≡ record s { down = s.down ++ NDataRw ws ∷ [] } → owner_words t ≡ ws
  asker_words ws p r e = grind (arith, nat_tests)

  pub put_words : (vs : List ℕ) (rest : List Note) → home.state ≡ HomePut → (home.rest ≡ OfHome) ⊎ IsOfRw home.rest →
      s.up ≡ NPut vs ∷ rest → owner_words s ≡ vs
  put_words vs rest p r u = grind (arith, nat_tests)

  pub put_ro_words : (vs : List ℕ) (rest : List Note) → home.state ≡ HomePut → (home.rest ≡ OfLoad) ⊎ IsOfRo home.rest →
      s.up ≡ NPutRo vs ∷ rest → owner_words s ≡ vs
  put_ro_words vs rest p r u = grind (arith, nat_tests)

pub owner_words_same : (s t : Spot) → t.state ≡ s.state → t.words ≡ s.words → t.down ≡ s.down → t.up ≡ s.up →
    owner_words t ≡ owner_words s
owner_words_same s t a b c d = cc
