-- What a handler sends, and to whom.
use Rattle.std.proofs.Common.{◌≡◌, ◌≢◌, ℕ, ◌<◌, Bool, true, false, List, [], ◌∷◌, ◌++◌, arith, refl, sym, ap, ◌∙◌, zero, suc}
use Rattle.std.proofs.Common.{cond, ◌≤◌}
use Rattle.std.proofs.lemmas.Bool.Decides.{nat_tests}
use Rattle.block_spots.specs.Cases.{Inv, Message, No, Effect}
use Rattle.block_spots.specs.Notes.{notes, note}
use Rattle.block_spots.specs.Sketches.{Wires, Takes}
use Rattle.stache_table.specs.Handling.{inv_all, plain}
use Rattle.tw_base.specs.declared.message.Chan.{Chan}
use Rattle.tw_base.specs.declared.message.Chan.TheVariants.{Zero, One}
use Rattle.coherence_frame.proofs.Views.{sent, notes_same}

-- a wire before its front is taken
pub front_note : (f t : ℕ) (c : Chan) (m : Message) (w w2 : Wires) → Takes f t c m w w2 →
    notes m.block (w f t c) ≡ note m ∷ notes m.block (w2 f t c)
front_note f t c m w w2 a = ap (notes m.block) a.front ∙ notes_same m.block m _ refl

-- all of these are for others than node h
abbrev pub AllPast : ℕ → List Message → Type 0
AllPast h [] = Unit {0}
AllPast h (x ∷ xs) = (x.to ≢ h) × AllPast h xs

pub sent_past_all : (b f t : ℕ) (c : Chan) (ms : List Message) → AllPast t ms → sent b ms f t c ≡ []
unfolding sent notes
sent_past_all b f t c [] h = refl
sent_past_all b f t c (m ∷ ms) h = grind (arith, nat_tests, sent_past_all b f t c ms h.1)

abbrev pub AllOn : Chan → List Message → Type 0
AllOn c [] = Unit {0}
AllOn c (x ∷ xs) = (x.chan ≡ c) × AllOn c xs

pub sent_on_other : (b f t : ℕ) (ms : List Message) → AllOn One ms → sent b ms f t Zero ≡ []
unfolding sent notes
sent_on_other b f t [] h = refl
sent_on_other b f t (m ∷ ms) h = grind (arith, nat_tests, sent_on_other b f t ms h.1)

pub AllOn-append : (c : Chan) (xs ys : List Message) → AllOn c xs → AllOn c ys → AllOn c (xs ++ ys)
AllOn-append c [] ys h k = k
AllOn-append c (x ∷ xs) ys h k = (h.0, AllOn-append c xs ys h.1 k)

pub AllOn-inv_all : (n : ℕ) (s : ℕ → Bool) (b me : ℕ) → AllOn One (inv_all n s b me)
AllOn-inv_all zero s b me = tt
AllOn-inv_all (suc n) s b me = AllOn-append One _ _ (AllOn-inv_all n s b me) (last (s n))
  where
    last : (t : Bool) → AllOn One (cond t (plain Inv b me n ∷ []) [])
    last true = (refl, tt)
    last false = tt

pub AllPast-append : (h : ℕ) (xs ys : List Message) → AllPast h xs → AllPast h ys → AllPast h (xs ++ ys)
AllPast-append h [] ys u v = v
AllPast-append h (x ∷ xs) ys u v = (u.0, AllPast-append h xs ys u.1 v)

pub AllPast-inv_all : (n : ℕ) (s : ℕ → Bool) (b h : ℕ) → s h ≡ false → AllPast h (inv_all n s b h)
AllPast-inv_all zero s b h e = tt
AllPast-inv_all (suc n) s b h e = AllPast-append h _ _ (AllPast-inv_all n s b h e) (last (s n) refl)
  where
    last : (t : Bool) → s n ≡ t → AllPast h (cond t (plain Inv b h n ∷ []) [])
    last true y = let d : n ≢ h = λ q. (let z : s h ≡ true = ap s (sym q) ∙ y in cc) in (d, tt)
    last false y = tt

-- what a cache sends goes to the home
abbrev pub AllTo : ℕ → List Message → Type 0
AllTo h [] = Unit {0}
AllTo h (x ∷ xs) = (x.to ≡ h) × AllTo h xs

pub sent_to_other : (b f t h : ℕ) (c : Chan) (ms : List Message) → AllTo h ms → t ≢ h → sent b ms f t c ≡ []
unfolding sent notes
sent_to_other b f t h c [] a d = refl
sent_to_other b f t h c (m ∷ ms) a d = grind (arith, nat_tests, sent_to_other b f t h c ms a.1 d)

pub record CacheSends (h : ℕ) (e : Effect) : Type 0 where
  pub to : AllTo h e.sends
  pub kept : e.kept ≡ No

-- ---- what is sent

abbrev pub AllBelow : ℕ → List Message → Type 0
AllBelow n [] = Unit {0}
AllBelow n (x ∷ xs) = (x.to < n) × AllBelow n xs

-- ---- what is sent stays between the home and its caches

AllBelow-append : (n : ℕ) (xs ys : List Message) → AllBelow n xs → AllBelow n ys → AllBelow n (xs ++ ys)
AllBelow-append n [] ys u v = v
AllBelow-append n (x ∷ xs) ys u v = (u.0, AllBelow-append n xs ys u.1 v)

pub inv_below : (n k : ℕ) (s : ℕ → Bool) (b me : ℕ) → n ≤ k → AllBelow k (inv_all n s b me)
inv_below zero k s b me l = tt
inv_below (suc n) k s b me l = AllBelow-append k (inv_all n s b me) _ (inv_below n k s b me (omega arith)) (last (s n))
  where
    last : (t : Bool) → AllBelow k (cond t (plain Inv b me n ∷ []) [])
    last true = (omega arith, tt)
    last false = tt
