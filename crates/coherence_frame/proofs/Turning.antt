-- What a turn of the home or of a cache does to the spots of a block.
use Rattle.std.proofs.Common.{◌≡◌, ◌≢◌, ℕ, ◌+◌, List, [], ◌∷◌, ◌++◌, refl, sym, ap, ◌∙◌}
use Rattle.std.proofs.lemmas.List.{append-nil}
use Rattle.block_spots.specs.Cases.{State, HomeRw, HomeExcl, HomePut, Message, Here, Kept, No, Stale, Effect}
use Rattle.block_spots.specs.Notes.{Note, Spot, note, held_home, gets_ro, gets_rw, is_get_ro, is_get_rw}
use Rattle.tw_base.specs.Lists.{Each}
use Rattle.tw_base.specs.declared.message.Chan.TheVariants.{One, Zero}
use Rattle.coherence_frame.proofs.Views.{sent, sent_nil, sent_one, sent_one_chan, sent_one_past}
use Rattle.coherence_frame.specs.Words.{current_in, owner_words, IsGet}

abbrev pub kept_if : Kept → Note → List Note
kept_if No x = []
kept_if Stale x = x ∷ []

-- what is kept of a message, as a count
abbrev pub taken : Kept → ℕ → ℕ
taken No k = k
taken Stale k = 0

-- t is s with this many requests fewer, whether they were on the way or deferred; channel 1 is left open
pub record Loses (s t : Spot) (ro rw : ℕ) : Type 0 where
  pub state : t.state ≡ s.state
  pub tag : t.tag ≡ s.tag
  pub rest : t.rest ≡ s.rest
  pub words : t.words ≡ s.words
  pub asks : Each IsGet t.ask
  pub keeps : Each IsGet t.kept
  pub ro_less : gets_ro s ≡ gets_ro t + ro
  pub rw_less : gets_rw s ≡ gets_rw t + rw

-- the home's own lists stay
pub record OwnSame (s t : Spot) : Type 0 where
  pub ask : t.ask ≡ s.ask
  pub kept : t.kept ≡ s.kept
  pub down : t.down ≡ s.down
  pub up : t.up ≡ s.up

-- a request of cache i is taken, and answered or held
pub record Asked (s t : Spot) (ro rw : ℕ) (sent : List Note) : Type 0 where
  pub loses : Loses s t ro rw
  pub down : t.down ≡ s.down ++ sent
  pub up : t.up ≡ s.up

pub current_same : (st : State) (ws : List ℕ) (x y : Spot) → owner_words x ≡ owner_words y →
    current_in st ws x ≡ current_in st ws y
current_same st ws x y e = go st
  where
    go : (st : State) → current_in st ws x ≡ current_in st ws y
    go HomeExcl = e
    go HomePut = e
    go _ = refl

-- what a home's turn at a request of cache i does to the spots
pub record RequestTurn (h i : ℕ) (m : Message) (e : Effect) (spots spots2 : ℕ → Spot) : Type 0 where
  pub from : m.from ≡ i
  pub own : OwnSame (spots h) (spots2 h)
  pub others : (j : ℕ) → j ≢ h → j ≢ i → spots2 j ≡ record (spots j) { down = (spots j).down ++ sent m.block e.sends h j One }
  pub loses : Loses (spots i) (spots2 i) (taken e.kept (is_get_ro (note m))) (taken e.kept (is_get_rw (note m)))
  pub down : (spots2 i).down ≡ (spots i).down ++ sent m.block e.sends h i One
  pub up : (spots2 i).up ≡ (spots i).up

pub stays : (s t : Spot) (z : List Note) → t ≡ record s { down = s.down ++ z } → z ≡ [] → t ≡ s
stays s t z e x = e ∙ rw x (ap (λ y. record s { down = y }) (append-nil s.down))

pub record AnswerTurn (h i : ℕ) (m : Message) (e : Effect) (spots spots2 : ℕ → Spot) : Type 0 where
  pub rest : List Note
  pub own : OwnSame (spots h) (spots2 h)
  pub others : (j : ℕ) → j ≢ h → j ≢ i → spots2 j ≡ record (spots j) { down = (spots j).down ++ sent m.block e.sends h j One }
  pub came : (spots i).up ≡ note m ∷ rest
  pub at_sender : spots2 i ≡ record (spots i) {
    up = rest;
    down = (spots i).down ++ sent m.block e.sends h i One;
    kept = (spots i).kept ++ kept_if e.kept (note m);
  }

pub lone : (s t : Spot) (r z : List Note) (k : Kept) (x : Note) →
    t ≡ record s { up = r; down = s.down ++ z; kept = s.kept ++ kept_if k x } → z ≡ [] → k ≡ No → t ≡ record s { up = r }
lone s t r z k x e p q = e ∙ rw (p, q) (ap (λ y. record s { up = r; down = y; kept = s.kept ++ [] }) (append-nil s.down)
    ∙ ap (λ y. record s { up = r; kept = y }) (append-nil s.kept))

-- the home's turn at its own fault, fresh or no longer deferred
pub record OwnTurn (h : ℕ) (home : Here) (m : Message) (e : Effect) (spots spots2 : ℕ → Spot) : Type 0 where
  pub others : (j : ℕ) → j ≢ h → spots2 j ≡ record (spots j) { down = (spots j).down ++ sent m.block e.sends h j One }
  pub ask : (spots2 h).ask ≡ []
  pub down : (spots2 h).down ≡ []
  pub up : (spots2 h).up ≡ []
  pub kept : (spots2 h).kept ≡ kept_if e.kept (note m)
  pub unheld : held_home home.rest ≡ 0
  pub not_all : home.state ≢ HomeRw

-- the cache's spot after its turn
pub record CacheTurn (h i : ℕ) (m : Message) (e : Effect) (s t : Spot) (left : List Note) : Type 0 where
  pub state : t.state ≡ e.here.state
  pub tag : t.tag ≡ e.here.tag
  pub rest : t.rest ≡ e.here.rest
  pub words : t.words ≡ e.here.words
  pub ask : t.ask ≡ s.ask ++ sent m.block e.sends i h Zero
  pub kept : t.kept ≡ s.kept
  pub down : t.down ≡ left
  pub up : t.up ≡ s.up ++ sent m.block e.sends i h One

-- ---- a request

module _ (h i : ℕ) (m : Message) (e : Effect) (spots spots2 : ℕ → Spot) (t : RequestTurn h i m e spots spots2) where
  -- the answer goes to the asker alone
  pub one_to : (x : Message) → e.sends ≡ x ∷ [] → x.to ≡ i → (j : ℕ) → j ≢ h → j ≢ i → spots2 j ≡ spots j
  one_to x p r j u v = stays (spots j) (spots2 j) _ (t.others j u v)
      (ap (λ z. sent m.block z h j One) p ∙ sent_one_past m.block h j One x (λ q. v (sym q ∙ r)))

  pub none_to : e.sends ≡ [] → (j : ℕ) → j ≢ h → j ≢ i → spots2 j ≡ spots j
  none_to p j u v = stays (spots j) (spots2 j) _ (t.others j u v) (ap (λ z. sent m.block z h j One) p ∙ sent_nil m.block h j One)

  pub loses : (ro wr : ℕ) → taken e.kept (is_get_ro (note m)) ≡ ro → taken e.kept (is_get_rw (note m)) ≡ wr →
      Loses (spots i) (spots2 i) ro wr
  loses ro wr p q =
      let f : Loses (spots i) (spots2 i) (taken e.kept (is_get_ro (note m))) (taken e.kept (is_get_rw (note m))) = t.loses in
      rw q at (rw p at f)

  pub asked_one : (ro wr : ℕ) (x : Message) → taken e.kept (is_get_ro (note m)) ≡ ro → taken e.kept (is_get_rw (note m)) ≡ wr →
      e.sends ≡ x ∷ [] →
      x.block ≡ m.block → x.from ≡ h → x.to ≡ i → x.chan ≡ One → Asked (spots i) (spots2 i) ro wr (note x ∷ [])
  asked_one ro wr x p q r xb xf xt xc =
      record {
        loses = loses ro wr p q;
        down = t.down ∙ ap (λ z. (spots i).down ++ z)
            (ap (λ z. sent m.block z h i One) r ∙ sent_one m.block h i One x xb xf xt xc);
        up = t.up;
      }

  pub asked_none : (ro wr : ℕ) → taken e.kept (is_get_ro (note m)) ≡ ro → taken e.kept (is_get_rw (note m)) ≡ wr →
      sent m.block e.sends h i One ≡ [] →
      Asked (spots i) (spots2 i) ro wr []
  asked_none ro wr p q r = record { loses = loses ro wr p q; down = t.down ∙ ap (λ z. (spots i).down ++ z) r; up = t.up }

-- ---- an answer

module _ (h i : ℕ) (m : Message) (e : Effect) (spots spots2 : ℕ → Spot) (t : AnswerTurn h i m e spots spots2) where
  pub only_sender : e.kept ≡ No → e.sends ≡ [] → ((j : ℕ) → j ≢ h → j ≢ i → spots2 j ≡ spots j)
      × (spots2 i ≡ record (spots i) { up = t.rest })
  only_sender k p = (
    (λ j x y. stays (spots j) (spots2 j) _ (t.others j x y) (ap (λ z. sent m.block z h j One) p ∙ sent_nil m.block h j One)),
    lone (spots i) (spots2 i) t.rest _ _ (note m) t.at_sender (ap (λ z. sent m.block z h i One) p ∙ sent_nil m.block h i One) k,
  )

  pub and_asker : (x : Message) → e.kept ≡ No → e.sends ≡ x ∷ [] → x.block ≡ m.block → x.from ≡ h → x.to ≢ h → x.chan ≡ One →
      ((j : ℕ) → j ≢ h → j ≢ i → j ≢ x.to → spots2 j ≡ spots j)
      × (i ≢ x.to → spots2 i ≡ record (spots i) { up = t.rest })
      × (i ≢ x.to → spots2 x.to ≡ record (spots x.to) { down = (spots x.to).down ++ note x ∷ [] })
  and_asker x k p xb xf xt xc = (
    (λ j u v w. stays (spots j) (spots2 j) _ (t.others j u v)
        (ap (λ z. sent m.block z h j One) p ∙ sent_one_past m.block h j One x (λ y. w (sym y)))),
    (λ u. lone (spots i) (spots2 i) t.rest _ _ (note m) t.at_sender
        (ap (λ z. sent m.block z h i One) p ∙ sent_one_past m.block h i One x (λ y. u (sym y))) k),
    (λ u. t.others x.to xt (λ y. u (sym y)) ∙ ap (λ z. record (spots x.to) { down = (spots x.to).down ++ z })
        (ap (λ z. sent m.block z h x.to One) p ∙ sent_one m.block h x.to One x xb xf refl xc)),
  )

-- ---- what a cache sends

module _ (h i : ℕ) (m : Message) (e : Effect) where
  pub sends_nothing : e.sends ≡ [] → (sent m.block e.sends i h Zero ≡ []) × (sent m.block e.sends i h One ≡ [])
  sends_nothing p = (
    ap (λ z. sent m.block z i h Zero) p ∙ sent_nil m.block i h Zero,
    ap (λ z. sent m.block z i h One) p
        ∙ sent_nil m.block i h One,
  )

  pub sends_on_zero : (x : Message) → e.sends ≡ x ∷ [] → x.block ≡ m.block → x.from ≡ i → x.to ≡ h → x.chan ≡ Zero →
      (sent m.block e.sends i h Zero ≡ note x ∷ []) × (sent m.block e.sends i h One ≡ [])
  sends_on_zero x p a b c d = (
    ap (λ z. sent m.block z i h Zero) p
        ∙ sent_one m.block i h Zero x a b c d,
    ap (λ z. sent m.block z i h One) p
        ∙ sent_one_chan m.block i h One x (λ q. (let z : Zero ≡ One = sym d ∙ q in cc)),
  )

  pub sends_on_one : (x : Message) → e.sends ≡ x ∷ [] → x.block ≡ m.block → x.from ≡ i → x.to ≡ h → x.chan ≡ One →
      (sent m.block e.sends i h Zero ≡ []) × (sent m.block e.sends i h One ≡ note x ∷ [])
  sends_on_one x p a b c d = (
    ap (λ z. sent m.block z i h Zero) p
        ∙ sent_one_chan m.block i h Zero x (λ q. (let z : One ≡ Zero = sym d ∙ q in cc)),
    ap (λ z. sent m.block z i h One) p
        ∙ sent_one m.block i h One x a b c d,
  )
