-- The stale deferred messages of a block: what a step does to their number.
use Rattle.std.proofs.Common.{◌≡◌, ◌≢◌, ℕ, ◌+◌, ◌<◌, ◌≤◌, Bool, true, false, not, nat_eq, ◌&&◌, List, [], ◌∷◌, ◌++◌, map}
use Rattle.std.proofs.Common.{length, arith, refl, sym, ap, ◌∙◌, inl, inr, cond}
use Rattle.std.proofs.lemmas.Bool.{cases_eq, cases_lt}
use Rattle.std.proofs.lemmas.Bool.Decides.{nat_tests}
use Rattle.tw_base.specs.Lists.{Each, how_many, one_if, sum_below}
use Rattle.block_spots.specs.Cases.{State, HomeAcks, HomePut, Rest, OfRo, OfRw, Message, Kept, No, Stale}
use Rattle.block_spots.specs.Notes.{Waiting, Note, NRdFault, NWrFault, NGetRo, NGetRw, kept_notes, is_get_ro, is_get_rw}
use Rattle.block_spots.specs.Notes.{is_rd_fault, is_wr_fault}
use Rattle.block_spots.specs.Sketches.{free, freed_if, with_kept}
use Rattle.block_spots.proofs.Sums.{sum_below_same}
use Rattle.coherence_frame.specs.Words.{AllEligible, IsFault, IsGet}
use Rattle.coherence_frame.specs.Weights.{is_stale_of}
use Rattle.coherence_frame.proofs.Views.{kept_notes_from_other, kept_notes_other, kept_notes_same}
use Rattle.coherence_frame.proofs.Loads.{sum_below_add, if_at, if_at_other, if_at_is, sum_if_at}

-- how many stale ones of b there are
abbrev pub stale_in : ℕ → List Waiting → ℕ
stale_in b ws = how_many (is_stale_of b) ws

pub stale_in-append : (b : ℕ) (xs ys : List Waiting) → stale_in b (xs ++ ys) ≡ stale_in b xs + stale_in b ys
stale_in-append b [] ys = omega arith
stale_in-append b (x ∷ xs) ys = omega (arith, stale_in-append b xs ys)

-- ---- what a handler does to the number

free_one : (b : ℕ) (w : Waiting) → is_stale_of b (free b w) ≡ 0
free_one b w = go (nat_eq w.message.block b)
  where
    go : (t : Bool) → one_if (t && not (cond t true w.eligible)) ≡ 0
    go true = refl
    go false = refl

free_other : (b c : ℕ) (w : Waiting) → c ≢ b → is_stale_of b (free c w) ≡ is_stale_of b w
free_other b c w d = grind (arith, nat_tests)

pub stale_freed : (b : ℕ) (ws : List Waiting) → stale_in b (freed_if true b ws) ≡ 0
stale_freed b [] = refl
stale_freed b (w ∷ ws) = omega (arith, free_one b w, stale_freed b ws)

stale_free_other : (b c : ℕ) (ws : List Waiting) → c ≢ b → stale_in b (map (free c) ws) ≡ stale_in b ws
stale_free_other b c [] d = refl
stale_free_other b c (w ∷ ws) d = omega (arith, free_other b c w d, stale_free_other b c ws d)

pub stale_freed_other : (b c : ℕ) (t : Bool) (ws : List Waiting) → c ≢ b → stale_in b (freed_if t c ws) ≡ stale_in b ws
stale_freed_other b c true ws d = stale_free_other b c ws d
stale_freed_other b c false ws d = refl

abbrev pub one_more : Kept → ℕ
one_more No = 0
one_more Stale = 1

push_one : (m : Message) → is_stale_of m.block (record { message = m; eligible = false }) ≡ 1
push_one m = grind (arith, nat_tests)

push_other : (b : ℕ) (m : Message) (t : Bool) → m.block ≢ b → is_stale_of b (record { message = m; eligible = t }) ≡ 0
push_other b m t d = grind (arith, nat_tests)

pub stale_kept : (k : Kept) (m : Message) (ws : List Waiting) →
    stale_in m.block (with_kept k m ws) ≡ stale_in m.block ws + one_more k
stale_kept No m ws = omega arith
stale_kept Stale m ws = omega (arith, stale_in-append m.block ws (record { message = m; eligible = false } ∷ []), push_one m)

pub stale_kept_other : (b : ℕ) (k : Kept) (m : Message) (ws : List Waiting) → m.block ≢ b →
    stale_in b (with_kept k m ws) ≡ stale_in b ws
stale_kept_other b No m ws d = refl
stale_kept_other b Stale m ws d = omega (
  arith,
  stale_in-append b ws (record { message = m; eligible = false } ∷ []),
  push_other b m false d,
)

-- after a handler that freed and kept so
abbrev pub stale_after : Bool → Kept → ℕ → ℕ
stale_after true k v = 0
stale_after false k v = v + one_more k

pub stale_handled : (t : Bool) (k : Kept) (m : Message) (ws : List Waiting) →
    stale_in m.block (freed_if t m.block (with_kept k m ws)) ≡ stale_after t k (stale_in m.block ws)
stale_handled true k m ws = stale_freed m.block (with_kept k m ws)
stale_handled false k m ws = stale_kept k m ws

pub stale_handled_other : (b : ℕ) (t : Bool) (k : Kept) (m : Message) (ws : List Waiting) → m.block ≢ b →
    stale_in b (freed_if t m.block (with_kept k m ws)) ≡ stale_in b ws
stale_handled_other b t k m ws d = stale_freed_other b m.block t (with_kept k m ws) d ∙ stale_kept_other b k m ws d

eligible_none : (b : ℕ) (m : Message) → is_stale_of b (record { message = m; eligible = true }) ≡ 0
eligible_none b m = go (nat_eq m.block b)
  where
    go : (t : Bool) → one_if (t && not true) ≡ 0
    go true = refl
    go false = refl

-- an eligible message is taken out
pub stale_taken : (b : ℕ) (m : Message) (xs ys : List Waiting) →
    stale_in b (xs ++ record { message = m; eligible = true } ∷ ys) ≡ stale_in b (xs ++ ys)
stale_taken b m xs ys = omega (
  arith,
  stale_in-append b xs (record { message = m; eligible = true } ∷ ys),
  stale_in-append b xs ys,
  eligible_none b m,
)

settled_one : (b : ℕ) (w : Waiting) → (w.message.block ≡ b → w.eligible ≡ true) → is_stale_of b w ≡ 0
settled_one b w h =
    elim (cases_eq w.message.block b) [
      | inl p ↦ (let e : w.eligible ≡ true = h p in grind (arith, nat_tests))
      | inr d ↦ grind
          (arith, nat_tests)
    ]

pub stale_settled : (b : ℕ) (ws : List Waiting) → AllEligible b ws → stale_in b ws ≡ 0
stale_settled b [] h = refl
stale_settled b (w ∷ ws) h = omega (arith, settled_one b w h.0, stale_settled b ws h.1)

-- ---- the bound

-- how many deferred messages of b there are from node j
abbrev pub kept_from : ℕ → List Waiting → ℕ → ℕ
kept_from b ws j = length (kept_notes b j ws)

kept_cons : (b : ℕ) (w : Waiting) (ws : List Waiting) → w.message.block ≡ b → (j : ℕ) →
    kept_from b (w ∷ ws) j ≡ kept_from b ws j + if_at w.message.from 1 j
kept_cons b w ws p j = elim (cases_eq w.message.from j) [
  | inl q ↦ omega (arith, ap length (kept_notes_same b j w ws p q), if_at_is w.message.from 1 j q)
  | inr d ↦ omega (arith, ap length (kept_notes_from_other b j w ws d), if_at_other w.message.from 1 j d)
]

stale_less : (b : ℕ) (w : Waiting) → is_stale_of b w ≤ 1
stale_less b w = go (nat_eq w.message.block b && not w.eligible)
  where
    go : (t : Bool) → one_if t ≤ 1
    go true = omega arith
    go false = omega arith

stale_past : (b : ℕ) (w : Waiting) → w.message.block ≢ b → is_stale_of b w ≡ 0
stale_past b w d = grind (arith, nat_tests)

-- where none is from beyond the nodes, the stale ones are among those counted node by node
pub stale_counted : (b n : ℕ) (ws : List Waiting) → ((j : ℕ) → n ≤ j → kept_from b ws j ≡ 0) →
    stale_in b ws ≤ sum_below n (kept_from b ws)
stale_counted b n [] h = omega arith
stale_counted b n (w ∷ ws) h = elim (cases_eq w.message.block b) [
  | inl p ↦ omega (
    arith,
    stale_less b w,
    sum_below_add n (kept_from b (w ∷ ws)) (kept_from b ws) (if_at w.message.from 1)
        (λ j l. kept_cons b w ws p j),
    sum_if_at n w.message.from 1 (within p),
    stale_counted b n ws (λ j l. omega (arith, h j l, kept_cons b w ws p j)),
  )
  | inr d ↦ omega (
    arith,
    stale_past b w d,
    sum_below_same n (kept_from b (w ∷ ws)) (kept_from b ws)
        (λ j l. ap length (kept_notes_other b j w ws d)),
    stale_counted b n ws
        (λ j l. sym (ap length (kept_notes_other b j w ws d)) ∙ h j l),
  )
]
  where
    within : w.message.block ≡ b → w.message.from < n
    within p =
        elim (cases_lt w.message.from n) [
          | inl l ↦ l
          | inr l ↦ absurd
              (omega (arith, h w.message.from l, kept_cons b w ws p w.message.from, if_at_is w.message.from 1 w.message.from refl))
        ]

pub gets_long : (xs : List Note) → Each IsGet xs → length xs ≡ how_many is_get_ro xs + how_many is_get_rw xs
gets_long [] h = refl
gets_long (NGetRo ∷ xs) h = omega (arith, gets_long xs h.1)
gets_long (NGetRw ∷ xs) h = omega (arith, gets_long xs h.1)
gets_long (_ ∷ xs) h = absurd h.0

pub faults_long : (xs : List Note) → Each IsFault xs → length xs ≡ how_many is_rd_fault xs + how_many is_wr_fault xs
faults_long [] h = refl
faults_long (NRdFault ∷ xs) h = omega (arith, faults_long xs h.1)
faults_long (NWrFault ∷ xs) h = omega (arith, faults_long xs h.1)
faults_long (_ ∷ xs) h = absurd h.0

-- whose request the rest holds
abbrev pub asker : ℕ → Rest → ℕ
asker h (OfRo a) = a
asker h (OfRw a) = a
asker h _ = h

-- the home is in a rest
abbrev pub IsInRest : State → Type 0
IsInRest HomeAcks = Unit {0}
IsInRest HomePut = Unit {0}
IsInRest _ = ⊥
