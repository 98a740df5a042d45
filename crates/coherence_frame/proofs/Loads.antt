-- Sums over the nodes, and the weight of all that a block has on the way and deferred.
use Rattle.std.proofs.Common.{◌≡◌, ◌≢◌, ℕ, zero, suc, ◌+◌, ◌<◌, ◌≤◌, nat_eq, List, [], ◌∷◌, ◌++◌, arith, refl, sym, ap, ◌∙◌}
use Rattle.std.proofs.Common.{inl, inr, cond}
use Rattle.std.proofs.lemmas.Bool.Decides.{nat_tests}
use Rattle.tw_base.specs.Lists.{how_many, sum_below}
use Rattle.tw_base.specs.declared.message.Chan.{Chan}
use Rattle.tw_base.specs.declared.message.Chan.TheVariants.{Zero, One}
use Rattle.block_spots.specs.Cases.{Message, Kept, No, Stale}
use Rattle.block_spots.specs.Notes.{Waiting, Note, note, notes, kept_notes}
use Rattle.block_spots.specs.Sketches.{Wires, Takes}
use Rattle.block_spots.proofs.Sums.{sum_below_one, sum_below_same}
use Rattle.coherence_frame.proofs.Counts.{how_many-append}
use Rattle.coherence_frame.proofs.Views.{sent, sent_nil, AllOf, AllFrom, kept_notes-append, kept_notes_same}
use Rattle.coherence_frame.proofs.Views.{kept_notes_from_other}
use Rattle.coherence_frame.proofs.Sends.{AllOn, front_note, AllBelow, AllTo}
use Rattle.coherence_frame.proofs.Turning.{kept_if}

-- ---- sums

pub sum_below_add : (n : ℕ) (f g k : ℕ → ℕ) → ((j : ℕ) → j < n → f j ≡ g j + k j) → sum_below n f ≡ sum_below n g + sum_below n k
sum_below_add zero f g k h = omega arith
sum_below_add (suc n) f g k h = omega (arith, sum_below_add n f g k (λ j l. h j (omega arith)), h n (omega arith))

pub sum_below_le : (n : ℕ) (f g : ℕ → ℕ) → ((j : ℕ) → j < n → f j ≤ g j) → sum_below n f ≤ sum_below n g
sum_below_le zero f g h = omega arith
sum_below_le (suc n) f g h = omega (arith, sum_below_le n f g (λ j l. h j (omega arith)), h n (omega arith))

pub sum_below_const : (n k : ℕ) → sum_below n (λ j. 0) ≡ 0
sum_below_const zero k = refl
sum_below_const (suc n) k = omega (arith, sum_below_const n k)

pub sum_below_ones : (n : ℕ) → sum_below n (λ j. 1) ≡ n
sum_below_ones zero = refl
sum_below_ones (suc n) = omega (arith, sum_below_ones n)

abbrev pub if_at : ℕ → ℕ → ℕ → ℕ
if_at a v j = cond (nat_eq a j) v 0

pub if_at_same : (a v : ℕ) → if_at a v a ≡ v
if_at_same a v = grind (arith, nat_tests)

pub if_at_is : (a v j : ℕ) → a ≡ j → if_at a v j ≡ v
if_at_is a v j q = grind (arith, nat_tests)

pub if_at_other : (a v j : ℕ) → a ≢ j → if_at a v j ≡ 0
if_at_other a v j d = grind (arith, nat_tests)

pub sum_if_at : (n a v : ℕ) → a < n → sum_below n (if_at a v) ≡ v
sum_if_at n a v l = omega (
  arith,
  sum_below_one n (if_at a v) (λ j. 0) a l (λ j k d. if_at_other a v j (λ q. d (sym q))),
  sum_below_const n 0,
  if_at_same a v,
)

-- the weight of what is sent
abbrev pub outgoing : (Note → ℕ) → List Message → ℕ
outgoing f ms = how_many (λ x. f (note x)) ms

sent_cons : (f : Note → ℕ) (b h j : ℕ) (m : Message) (ms : List Message) → m.block ≡ b → m.from ≡ h → m.chan ≡ One →
    how_many f (sent b (m ∷ ms) h j One) ≡ how_many f (sent b ms h j One) + if_at m.to (f (note m)) j
unfolding sent notes
sent_cons f b h j m ms p q r = grind (arith, nat_tests)

pub sum_sent : (f : Note → ℕ) (b h n : ℕ) (ms : List Message) → AllOf b ms → AllFrom h ms → AllOn One ms → AllBelow n ms →
    sum_below n (λ j. how_many f (sent b ms h j One)) ≡ outgoing f ms
sum_sent f b h n [] p q r l = sum_below_same n _ (λ j. 0) (λ j k. none j) ∙ sum_below_const n 0
  where
    none : (j : ℕ) → how_many f (sent b [] h j One) ≡ 0
    none j = ap (how_many f) (sent_nil b h j One)
sum_sent f b h n (m ∷ ms) p q r l =
    omega (
      arith,
      sum_below_add n (λ j. how_many f (sent b (m ∷ ms) h j One)) (λ j. how_many f (sent b ms h j One))
          (if_at m.to (f (note m))) (λ j k. sent_cons f b h j m ms p.0 q.0 r.0),
      sum_sent f b h n ms p.1 q.1 r.1 l.1,
      sum_if_at n m.to (f (note m)) l.0,
    )

sent_home_cons : (f : Note → ℕ) (b i h : ℕ) (m : Message) (ms : List Message) (c : Chan) → m.chan ≡ c → m.block ≡ b →
    m.from ≡ i → m.to ≡ h →
    how_many f (sent b (m ∷ ms) i h Zero) + how_many f (sent b (m ∷ ms) i h One)
    ≡ how_many f (sent b ms i h Zero) + how_many f (sent b ms i h One) + f (note m)
unfolding sent notes
sent_home_cons f b i h m ms Zero z p q r = grind (arith, nat_tests)
sent_home_cons f b i h m ms One z p q r = grind (arith, nat_tests)

pub sent_home : (f : Note → ℕ) (b i h : ℕ) (ms : List Message) → AllOf b ms → AllFrom i ms → AllTo h ms →
    how_many f (sent b ms i h Zero) + how_many f (sent b ms i h One) ≡ outgoing f ms
sent_home f b i h [] p q r = omega (arith, ap (how_many f) (sent_nil b i h Zero), ap (how_many f) (sent_nil b i h One))
sent_home f b i h (m ∷ ms) p q r = omega (
  arith,
  sent_home_cons f b i h m ms m.chan refl p.0 q.0 r.0,
  sent_home f b i h ms p.1 q.1 r.1,
)

-- ---- the weight of a block's notes

abbrev pub load : (Note → ℕ) → ℕ → ℕ → Wires → List Waiting → ℕ → ℕ
load f b h w ds i = how_many f (notes b (w i h Zero)) + how_many f (kept_notes b i ds) + how_many f
    (notes b (w h i One)) + how_many f (notes b (w i h One))

abbrev pub total : (Note → ℕ) → ℕ → ℕ → ℕ → Wires → List Waiting → ℕ
total f b h n w ds = sum_below n (load f b h w ds)

abbrev pub kept_weight : Kept → ℕ → ℕ
kept_weight No v = 0
kept_weight Stale v = v

pub kept_if_weight : (f : Note → ℕ) (k : Kept) (x : Note) → how_many f (kept_if k x) ≡ kept_weight k (f x)
kept_if_weight f No x = refl
kept_if_weight f Stale x = omega arith

-- a message is taken off its wire
module _ (f : Note → ℕ) (h n i : ℕ) (ds : List Waiting) (m : Message) (w w2 : Wires) where
  pub takes_ask : i < n → Takes i h Zero m w w2 → total f m.block h n w ds ≡ total f m.block h n w2 ds + f (note m)
  takes_ask l a = omega (arith, sum_below_one n (load f m.block h w ds) (load f m.block h w2 ds) i l same, at)
    where
      same : (j : ℕ) → j < n → j ≢ i → load f m.block h w ds j ≡ load f m.block h w2 ds j
      same j k d = simp (
        a.others j h Zero (inl d),
        a.others h j One (inr (inr (λ q. (let z : One ≡ Zero = q in cc)))),
        a.others j h One (inr (inr (λ q. (let z : One ≡ Zero = q in cc)))),
      )

      at : load f m.block h w ds i ≡ load f m.block h w2 ds i + f (note m)
      at = omega (
        arith,
        ap (how_many f) (front_note i h Zero m w w2 a),
        ap (λ z. how_many f (notes m.block z)) (a.others h i One (inr (inr (λ q. (let z : One ≡ Zero = q in cc))))),
        ap (λ z. how_many f (notes m.block z)) (a.others i h One (inr (inr (λ q. (let z : One ≡ Zero = q in cc))))),
      )

  pub takes_up : i < n → i ≢ h → Takes i h One m w w2 → total f m.block h n w ds ≡ total f m.block h n w2 ds + f (note m)
  takes_up l ih a = omega (arith, sum_below_one n (load f m.block h w ds) (load f m.block h w2 ds) i l same, at)
    where
      same : (j : ℕ) → j < n → j ≢ i → load f m.block h w ds j ≡ load f m.block h w2 ds j
      same j k d = simp (a.others j h Zero (inl d), a.others h j One (inl (λ q. ih (sym q))), a.others j h One (inl d))

      at : load f m.block h w ds i ≡ load f m.block h w2 ds i + f (note m)
      at = omega (
        arith,
        ap (how_many f) (front_note i h One m w w2 a),
        ap (λ z. how_many f (notes m.block z)) (a.others h i One (inl (λ q. ih (sym q)))),
        ap (λ z. how_many f (notes m.block z)) (a.others i h Zero (inr (inr (λ q. (let z : Zero ≡ One = q in cc))))),
      )

  pub takes_down : i < n → i ≢ h → Takes h i One m w w2 → total f m.block h n w ds ≡ total f m.block h n w2 ds + f (note m)
  takes_down l ih a = omega (arith, sum_below_one n (load f m.block h w ds) (load f m.block h w2 ds) i l same, at)
    where
      same : (j : ℕ) → j < n → j ≢ i → load f m.block h w ds j ≡ load f m.block h w2 ds j
      same j k d = simp (
        a.others j h Zero (inr (inl (λ q. ih (sym q)))),
        a.others h j One (inr (inl d)),
        a.others j h One (inr (inl (λ q. ih (sym q)))),
      )

      at : load f m.block h w ds i ≡ load f m.block h w2 ds i + f (note m)
      at = omega (
        arith,
        ap (how_many f) (front_note h i One m w w2 a),
        ap (λ z. how_many f (notes m.block z)) (a.others i h One (inr (inl (λ q. ih (sym q))))),
        ap (λ z. how_many f (notes m.block z)) (a.others i h Zero (inr (inl (λ q. ih (sym q))))),
      )

-- a message is taken out of the deferred ones
pub takes_kept : (f : Note → ℕ) (b h n : ℕ) (w : Wires) (x : Waiting) (xs ys : List Waiting) → x.message.block ≡ b →
    x.message.from < n →
    total f b h n w (xs ++ x ∷ ys) ≡ total f b h n w (xs ++ ys) + f (note x.message)
takes_kept f b h n w x xs ys p l =
    omega (
      arith,
      sum_below_one n (load f b h w (xs ++ x ∷ ys)) (load f b h w (xs ++ ys)) x.message.from l
          (λ j k d. same j (λ q. d (sym q))),
      at,
    )
  where
    counts : (j : ℕ) (zs : List Waiting) → how_many f (kept_notes b j (xs ++ zs))
        ≡ how_many f (kept_notes b j xs) + how_many f (kept_notes b j zs)
    counts j zs = ap (how_many f) (kept_notes-append b j xs zs) ∙ how_many-append f (kept_notes b j xs) (kept_notes b j zs)

    same : (j : ℕ) → x.message.from ≢ j → load f b h w (xs ++ x ∷ ys) j ≡ load f b h w (xs ++ ys) j
    same j d = omega (arith, counts j (x ∷ ys), counts j ys, ap (how_many f) (kept_notes_from_other b j x ys d))

    at : load f b h w (xs ++ x ∷ ys) x.message.from ≡ load f b h w (xs ++ ys) x.message.from + f (note x.message)
    at = omega (
      arith,
      counts x.message.from (x ∷ ys),
      counts x.message.from ys,
      ap (how_many f) (kept_notes_same b x.message.from x ys p refl),
    )
