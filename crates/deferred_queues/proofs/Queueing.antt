-- One queue that changes, and the list that all queues are.
use Rattle.std.proofs.Common.{◌≡◌, ◌≢◌, ℕ, zero, suc, ◌+◌, ◌<◌, ◌≤◌, Bool, true, false, if◌then◌else◌, nat_eq, nat_lt, Option}
use Rattle.std.proofs.Common.{Some, None, List, [], ◌∷◌, ◌++◌, map, set, arith, refl, ap, sym, ◌∙◌, subst, inl, inr, append-nil}
use Rattle.std.specs.Prelude.{slice_get, is_some, ◌||◌}
use Rattle.std.specs.List.{filter, list_any}
use Rattle.std.proofs.lemmas.Bool.{cases_eq, cases_lt}
use Rattle.std.proofs.lemmas.Bool.Decides.{Decides-ltb, nat_tests}
use Rattle.std.proofs.lemmas.List.{map-append}
use Rattle.std.proofs.lemmas.List.Elements.{filter-append}
use Rattle.tw_base.specs.Lists.{Each}
use Rattle.tw_base.specs.declared.message.Message.{Message}
use Rattle.dsm_runs.specs.declared.mode.Waiting.{Waiting}
use Rattle.dsm_runs.specs.Events.{free}
use Rattle.dsm_runs.specs.Locals.{IsStale}
use Rattle.dsm_runs.specs.Tests.{has_eligible}
use Rattle.dsm_runs.proofs.Lists.{Each-filter, Each-implied, nat_eq_refl}
use Rattle.dsm_runs.proofs.Turns.{nat_eq_other}
use Rattle.deferred_queues.specs.declared.held.Held.{Held}
use Rattle.deferred_queues.specs.Deferrals.{TakesFirst}
use Rattle.deferred_queues.specs.Queues.{AreOfBlocks, AreRising, AreSound, ComesAfter, ComesBefore, IsOfBlock, IsPast}
use Rattle.deferred_queues.specs.Queues.{BlockQueue, StartsFrom, all_at, before, by_arrival, came_at, first_before, first_of}
use Rattle.deferred_queues.specs.Queues.{freed, is_open, pushed, waiting}
use Rattle.deferred_queues.proofs.Lists.{each-at, first_true, flat-any, flat-each, flat-first, flat-last, flat-same, joined-any}
use Rattle.deferred_queues.proofs.Lists.{joined-cut, joined-each, joined-map, joined-same}

-- the message has this arrival number
abbrev came : ℕ → Held → Bool
came a h = nat_eq h.arrival a

is_below : (a b : ℕ) → a < b → nat_lt a b ≡ true
is_below a b l = (Decides-ltb a b).1 l

pub not_below : (a b : ℕ) → b ≤ a → nat_lt a b ≡ false
not_below a b l = grind (arith, nat_tests)

-- ---- which messages of a queue have an arrival number

one_came : (a : ℕ) (h : Held) (hs : List Held) → h.arrival ≡ a → filter (came a) (h ∷ hs) ≡ h ∷ filter (came a) hs
one_came a h hs e =
    let here : nat_eq h.arrival a ≡ true = ap (λ k. nat_eq k a) e ∙ nat_eq_refl a in
    ap (λ b. if b then h ∷ filter (came a) hs else filter (came a) hs) here

other_came : (a : ℕ) (h : Held) (hs : List Held) → h.arrival ≢ a → filter (came a) (h ∷ hs) ≡ filter (came a) hs
other_came a h hs d = ap (λ b. if b then h ∷ filter (came a) hs else filter (came a) hs) (nat_eq_other h.arrival a d)

none_came : (n : ℕ) (hs : List Held) → Each (ComesBefore n) hs → filter (came n) hs ≡ []
none_came n [] k = refl
none_came n (h ∷ hs) k = other_came n h hs (λ e. omega (arith, e, k.0)) ∙ none_came n hs k.1

pub none_at : (n : ℕ) (qs : List BlockQueue) → Each (IsPast n) qs → all_at qs n ≡ []
none_at n [] k = refl
none_at n (q ∷ qs) k =
    ap (λ (hs : List Held). map (waiting q.below) hs ++ all_at qs n) (none_came n q.held k.0.held) ∙ none_at n qs k.1

-- ---- a message is put behind the others

pub pushed_other : (a : ℕ) (q : BlockQueue) (h : Held) → h.arrival ≢ a → came_at a (pushed q h) ≡ came_at a q
pushed_other a q h d =
    ap (λ (hs : List Held). map (waiting q.below) hs)
    (filter-append (came a) q.held (h ∷ [])
    ∙ ap (λ (hs : List Held). filter (came a) q.held ++ hs) (other_came a h [] d) ∙ append-nil (filter (came a) q.held))

abbrev pub stale : Message → Waiting
stale m = record { message = m; eligible = false }

pushed_here : (n : ℕ) (q : BlockQueue) (h : Held) → IsPast n q → h.arrival ≡ n
    → came_at n (pushed q h) ≡ stale h.message ∷ []
pushed_here n q h past e =
    let only : filter (came n) (q.held ++ h ∷ []) ≡ h ∷ [] =
    filter-append (came n) q.held (h ∷ [])
    ∙ ap (λ (hs : List Held). hs ++ filter (came n) (h ∷ [])) (none_came n q.held past.held) ∙ one_came n h [] e in
    let old : nat_lt h.arrival q.below ≡ false = not_below h.arrival q.below (omega (arith, e, past.below)) in
    ap (λ (hs : List Held). map (waiting q.below) hs) only
    ∙ ap (λ (b : Bool). let w : Waiting = record { message = h.message; eligible = b } in w ∷ []) old

pub all_pushed_here : (n : ℕ) (qs : List BlockQueue) (b : ℕ) (q : BlockQueue) (h : Held) → AreSound n qs
    → slice_get qs b ≡ Some q → h.arrival ≡ n → all_at (set qs b (pushed q h)) n ≡ stale h.message ∷ []
all_pushed_here n qs b q h sound at e =
    flat-first (came_at n) qs b q (pushed q h) (stale h.message) at (none_at n qs sound.past)
    (ap (λ (hs : List Held). map (waiting q.below) hs) (none_came n q.held (each-at (IsPast n) qs b q sound.past at).held))
    (pushed_here n q h (each-at (IsPast n) qs b q sound.past at) e)

pub list_pushed : (n : ℕ) (qs : List BlockQueue) (b : ℕ) (q : BlockQueue) (h : Held) → AreSound n qs
    → slice_get qs b ≡ Some q → h.arrival ≡ n
    → by_arrival (n + 1) (set qs b (pushed q h)) ≡ by_arrival n qs ++ stale h.message ∷ []
list_pushed n qs b q h sound at e =
    let next : suc n ≡ n + 1 = omega arith in
    let before : by_arrival n (set qs b (pushed q h)) ≡ by_arrival n qs =
    joined-same n (all_at qs) (all_at (set qs b (pushed q h)))
    (λ a l. flat-same (came_at a) qs b q (pushed q h) at (pushed_other a q h (λ d. omega (arith, d, e, l)))) in
    subst (λ k. by_arrival k (set qs b (pushed q h)) ≡ by_arrival n qs ++ stale h.message ∷ []) next
    (ap (λ (xs : List Waiting). xs ++ all_at (set qs b (pushed q h)) n) before
    ∙ ap (λ (xs : List Waiting). by_arrival n qs ++ xs) (all_pushed_here n qs b q h sound at e))

-- ---- messages are made eligible

freed_held : (b n below : ℕ) (hs : List Held) → Each (IsOfBlock b) hs → Each (ComesBefore n) hs
    → map (waiting n) hs ≡ map (free b) (map (waiting below) hs)
freed_held b n below [] of l = refl
freed_held b n below (h ∷ hs) of l =
    let here : nat_eq h.message.block b ≡ true = ap (λ k. nat_eq k b) of.0 ∙ nat_eq_refl b in
    let now : nat_lt h.arrival n ≡ true = is_below h.arrival n l.0 in
    let one : waiting n h ≡ free b (waiting below h) =
    ap (λ (t : Bool). let w : Waiting = record { message = h.message; eligible = t } in w)
    (now ∙ sym (ap (λ t. if t then true else nat_lt h.arrival below) here)) in
    ap (λ (w : Waiting). w ∷ map (waiting n) hs) one
    ∙ ap (λ (ws : List Waiting). free b (waiting below h) ∷ ws) (freed_held b n below hs of.1 l.1)

unfreed_held : (b c below : ℕ) (hs : List Held) → c ≢ b → Each (IsOfBlock c) hs
    → map (waiting below) hs ≡ map (free b) (map (waiting below) hs)
unfreed_held b c below [] d of = refl
unfreed_held b c below (h ∷ hs) d of =
    let other : nat_eq h.message.block b ≡ false = ap (λ k. nat_eq k b) of.0 ∙ nat_eq_other c b d in
    let one : waiting below h ≡ free b (waiting below h) =
    ap (λ (t : Bool). let w : Waiting = record { message = h.message; eligible = t } in w)
    (sym (ap (λ t. if t then true else nat_lt h.arrival below) other)) in
    ap (λ (w : Waiting). w ∷ map (waiting below) hs) one
    ∙ ap (λ (ws : List Waiting). free b (waiting below h) ∷ ws) (unfreed_held b c below hs d of.1)

freed_here : (b n a : ℕ) (q : BlockQueue) → Each (IsOfBlock b) q.held → Each (ComesBefore n) q.held
    → came_at a (freed n q) ≡ map (free b) (came_at a q)
freed_here b n a q of l =
    freed_held b n q.below (filter (came a) q.held) (Each-filter (IsOfBlock b) (came a) q.held of)
    (Each-filter (ComesBefore n) (came a) q.held l)

unfreed_here : (b c a : ℕ) (q : BlockQueue) → c ≢ b → Each (IsOfBlock c) q.held → came_at a q ≡ map (free b) (came_at a q)
unfreed_here b c a q d of = unfreed_held b c q.below (filter (came a) q.held) d (Each-filter (IsOfBlock c) (came a) q.held of)

unfreed_all : (b c a : ℕ) (qs : List BlockQueue) → b < c → AreOfBlocks c qs → all_at qs a ≡ map (free b) (all_at qs a)
unfreed_all b c a [] l of = refl
unfreed_all b c a (q ∷ qs) l of =
    ap (λ (ws : List Waiting). ws ++ all_at qs a) (unfreed_here b c a q (λ e. omega (arith, e, l)) of.0)
    ∙ ap (λ (ws : List Waiting). map (free b) (came_at a q) ++ ws) (unfreed_all b (suc c) a qs (omega (arith, l)) of.1)
    ∙ sym (map-append (free b) (came_at a q) (all_at qs a))

freed_all : (k b n a : ℕ) (qs : List BlockQueue) (q : BlockQueue) → AreOfBlocks k qs → slice_get qs b ≡ Some q
    → Each (ComesBefore n) q.held → all_at (set qs b (freed n q)) a ≡ map (free (k + b)) (all_at qs a)
freed_all k b n a [] q of at l = absurd (cc)
freed_all k zero n a (x ∷ qs) q of at l =
    let same : x ≡ q = cc in
    let here : k ≡ k + zero = omega arith in
    let mine : Each (IsOfBlock k) q.held = subst (λ (y : BlockQueue). Each (IsOfBlock k) y.held) same of.0 in
    subst (λ c. came_at a (freed n q) ++ all_at qs a ≡ map (free c) (came_at a x ++ all_at qs a)) here
    (ap (λ (ws : List Waiting). ws ++ all_at qs a) (freed_here k n a q mine l)
    ∙ ap (λ (ws : List Waiting). map (free k) (came_at a q) ++ ws) (unfreed_all k (suc k) a qs (omega arith) of.1)
    ∙ sym (map-append (free k) (came_at a q) (all_at qs a))
    ∙ ap (λ (y : BlockQueue). map (free k) (came_at a y ++ all_at qs a)) (sym same))
freed_all k (suc b) n a (x ∷ qs) q of at l =
    let there : suc k + b ≡ k + suc b = omega arith in
    subst (λ c. came_at a x ++ all_at (set qs b (freed n q)) a ≡ map (free c) (came_at a x ++ all_at qs a)) there
    (ap (λ (ws : List Waiting). ws ++ all_at (set qs b (freed n q)) a)
    (unfreed_here (suc k + b) k a x (λ e. omega (arith, e)) of.0)
    ∙ ap (λ (ws : List Waiting). map (free (suc k + b)) (came_at a x) ++ ws) (freed_all (suc k) b n a qs q of.1 at l)
    ∙ sym (map-append (free (suc k + b)) (came_at a x) (all_at qs a)))

pub all_freed : (b n a : ℕ) (qs : List BlockQueue) (q : BlockQueue) → AreSound n qs → slice_get qs b ≡ Some q
    → all_at (set qs b (freed n q)) a ≡ map (free b) (all_at qs a)
all_freed b n a qs q sound at =
    let same : 0 + b ≡ b = omega arith in
    subst (λ c. all_at (set qs b (freed n q)) a ≡ map (free c) (all_at qs a)) same
    (freed_all 0 b n a qs q sound.blocks at (each-at (IsPast n) qs b q sound.past at).held)

pub list_freed : (b n : ℕ) (qs : List BlockQueue) (q : BlockQueue) → AreSound n qs → slice_get qs b ≡ Some q
    → by_arrival n (set qs b (freed n q)) ≡ map (free b) (by_arrival n qs)
list_freed b n qs q sound at =
    joined-same n (λ a. map (free b) (all_at qs a)) (all_at (set qs b (freed n q))) (λ a l. all_freed b n a qs q sound at)
    ∙ joined-map n (free b) (all_at qs)

-- ---- what is eligible

-- an eligible message came as the a-th or later
abbrev IsFrom : ℕ → ℕ → Held → Type 0
IsFrom a below h = h.arrival < a → below ≤ h.arrival

all_later : (a below : ℕ) (h : Held) (hs : List Held) → (a ≤ h.arrival → ⊥) → below ≤ h.arrival → Each (ComesAfter h) hs
    → Each (IsFrom a below) hs
all_later a below h hs d l rising =
    Each-implied (ComesAfter h) (IsFrom a below) hs (λ k (e : h.arrival < k.arrival) m. omega (arith, e, l)) rising

starts_from : (a below : ℕ) (hs : List Held) → AreRising hs → ((c : ℕ) → first_before below hs ≡ Some c → a ≤ c)
    → Each (IsFrom a below) hs
starts_from a below [] rising h = tt
starts_from a below (k ∷ hs) rising h = elim (cases_lt k.arrival below) [
  | inl l ↦
      let first : a ≤ k.arrival = h k.arrival (ap (λ b. if b then Some k.arrival else None) (is_below k.arrival below l)) in (
        λ m. absurd (omega (arith, m, first)),
        Each-implied (ComesAfter k) (IsFrom a below) hs
            (λ j (e : k.arrival < j.arrival) m. absurd (omega (arith, e, m, first))) rising.0,
      )
  | inr l ↦ (
    λ m. l,
    Each-implied (ComesAfter k) (IsFrom a below) hs
        (λ j (e : k.arrival < j.arrival) m. omega (arith, e, l)) rising.0,
  )
]

stale_held : (a c below : ℕ) (hs : List Held) → c < a → Each (IsFrom a below) hs
    → Each IsStale (map (waiting below) (filter (came c) hs))
stale_held a c below [] l h = tt
stale_held a c below (k ∷ hs) l h = elim (cases_eq k.arrival c) [
  | inl e ↦
      let now : nat_lt k.arrival below ≡ false = not_below k.arrival below (h.0 (omega (arith, e, l))) in
      subst (λ (ks : List Held). Each IsStale (map (waiting below) ks)) (sym (one_came c k hs e))
      (now, stale_held a c below hs l h.1)
  | inr d ↦ subst (λ (ks : List Held). Each IsStale (map (waiting below) ks)) (sym (other_came c k hs d))
      (stale_held a c below hs l h.1)
]

stale_queues : (n a c : ℕ) (qs : List BlockQueue) → c < a → Each (IsPast n) qs → Each (StartsFrom a) qs
    → Each (λ q. Each IsStale (came_at c q)) qs
stale_queues n a c [] l past h = tt
stale_queues n a c (q ∷ qs) l past h =
    (stale_held a c q.below q.held l (starts_from a q.below q.held past.0.rising h.0), stale_queues n a c qs l past.1 h.1)

pub stale_before : (n a : ℕ) (qs : List BlockQueue) → Each (IsPast n) qs → Each (StartsFrom a) qs
    → Each IsStale (by_arrival a qs)
stale_before n a qs past h = joined-each IsStale a (all_at qs)
    (λ c l. flat-each IsStale (came_at c) qs (stale_queues n a c qs l past h))

-- the first message of an open queue
pub record Opens (q : BlockQueue) (a : ℕ) : Type 0 where
  pub first : Held
  pub others : List Held
  pub held : q.held ≡ first ∷ others
  pub arrival : first.arrival ≡ a
  pub old : a < q.below

opens_with : (below a : ℕ) (h : Held) (b : Bool) → nat_lt h.arrival below ≡ b → (if b then Some h.arrival else None) ≡ Some a
    → (h.arrival ≡ a) × (h.arrival < below)
opens_with below a h true e f = (cc, (Decides-ltb h.arrival below).0 e)
opens_with below a h false e f = absurd (cc)

opens_held : (below a room : ℕ) (hs : List Held) → first_before below hs ≡ Some a
    → Opens (record { held = hs; below = below; room = room }) a
opens_held below a room [] e = absurd (cc)
opens_held below a room (h ∷ hs) e =
    let both = opens_with below a h (nat_lt h.arrival below) refl e in
    record { first = h; others = hs; held = refl; arrival = both.0; old = omega (arith, both.0, both.1) }

pub opens : (q : BlockQueue) (a : ℕ) → first_of q ≡ Some a → Opens q a
opens q a e = opens_held q.below a q.room q.held e

eligible_at : (q : BlockQueue) (a : ℕ) → Opens q a → list_any (λ w. w.eligible) (came_at a q) ≡ true
eligible_at q a o =
    let now : nat_lt o.first.arrival q.below ≡ true = is_below o.first.arrival q.below (omega (arith, o.arrival, o.old)) in
    let found : filter (came a) q.held ≡ o.first ∷ filter (came a) o.others =
    ap (λ (hs : List Held). filter (came a) hs) o.held ∙ one_came a o.first o.others o.arrival in
    ap (λ (hs : List Held). list_any (λ (w : Waiting). w.eligible) (map (waiting q.below) hs)) found
    ∙ first_true (nat_lt o.first.arrival q.below)
    (list_any (λ (w : Waiting). w.eligible) (map (waiting q.below) (filter (came a) o.others))) now

pub eligible_in : (n : ℕ) (qs : List BlockQueue) (b : ℕ) (q : BlockQueue) (a : ℕ) → AreSound n qs → slice_get qs b ≡ Some q
    → first_of q ≡ Some a → has_eligible (by_arrival n qs) ≡ true
eligible_in n qs b q a sound at e =
    let o = opens q a e in
    let past = each-at (IsPast n) qs b q sound.past at in
    joined-any (λ (w : Waiting). w.eligible) n a (all_at qs) (omega (arith, o.old, past.below))
    (flat-any (λ (w : Waiting). w.eligible) (came_at a) qs b q at (eligible_at q a o))

-- an open queue of a list that has one
pub record HasOpen (qs : List BlockQueue) : Type 0 where
  pub place : ℕ
  pub queue : BlockQueue
  pub arrival : ℕ
  pub at : slice_get qs place ≡ Some queue
  pub first : first_of queue ≡ Some arrival

some_first : (o : Option ℕ) → is_some o ≡ true → (a : ℕ) × (o ≡ Some a)
some_first None h = absurd (cc)
some_first (Some a) h = (a, refl)

no_first : (o : Option ℕ) (a : ℕ) → is_some o ≡ false → o ≡ Some a → ⊥
no_first None a h e = cc
no_first (Some b) a h e = cc

has_open_if : (q : BlockQueue) (qs : List BlockQueue) (b : Bool) → is_open q ≡ b → (b || list_any is_open qs) ≡ true
    → (list_any is_open qs ≡ true → HasOpen qs) → HasOpen (q ∷ qs)
has_open_if q qs true e k f = let one = some_first (first_of q) e in
    record { place = 0; queue = q; arrival = one.0; at = refl; first = one.1 }
has_open_if q qs false e k f = let rest = f k in
    record { place = suc rest.place; queue = rest.queue; arrival = rest.arrival; at = rest.at; first = rest.first }

pub has_open : (qs : List BlockQueue) → list_any is_open qs ≡ true → HasOpen qs
has_open [] h = absurd (cc)
has_open (q ∷ qs) h = has_open_if q qs (is_open q) refl h (has_open qs)

none_open_if : (a : ℕ) (q : BlockQueue) (qs : List BlockQueue) (b : Bool) → is_open q ≡ b
    → (b || list_any is_open qs) ≡ false → (list_any is_open qs ≡ false → Each (StartsFrom a) qs)
    → Each (StartsFrom a) (q ∷ qs)
none_open_if a q qs true e k f = absurd (cc)
none_open_if a q qs false e k f = (λ c g. absurd (no_first (first_of q) c e g), f k)

none_open : (a : ℕ) (qs : List BlockQueue) → list_any is_open qs ≡ false → Each (StartsFrom a) qs
none_open a [] h = tt
none_open a (q ∷ qs) h = none_open_if a q qs (is_open q) refl h (none_open a qs)

none_eligible : (ws : List Waiting) → Each IsStale ws → has_eligible ws ≡ false
none_eligible [] h = refl
none_eligible (w ∷ ws) h = ap (λ b. b || has_eligible ws) h.0 ∙ none_eligible ws h.1

pub any_open : (n : ℕ) (qs : List BlockQueue) → AreSound n qs → list_any is_open qs ≡ has_eligible (by_arrival n qs)
any_open n qs sound = go (list_any is_open qs) refl
  where
    go : (b : Bool) → list_any is_open qs ≡ b → list_any is_open qs ≡ has_eligible (by_arrival n qs)
    go true e = let o = has_open qs e in e ∙ sym (eligible_in n qs o.place o.queue o.arrival sound o.at o.first)
    go false e = e ∙ sym (none_eligible (by_arrival n qs) (stale_before n n qs sound.past (none_open n qs e)))

-- ---- the first eligible message is taken

pub popped_other : (c : ℕ) (p : BlockQueue) (h : Held) → h.arrival ≢ c → came_at c p ≡ came_at c (before p h)
popped_other c p h d = ap (λ (hs : List Held). map (waiting p.below) hs) (sym (other_came c h p.held d))

pub popped_here : (a : ℕ) (p : BlockQueue) (h : Held) → h.arrival ≡ a → a < p.below
    → came_at a (before p h) ≡ record { message = h.message; eligible = true } ∷ came_at a p
popped_here a p h e l =
    ap (λ (hs : List Held). map (waiting p.below) hs) (one_came a h p.held e)
    ∙ ap (λ (b : Bool). let w : Waiting = record { message = h.message; eligible = b } in w ∷ came_at a p)
    (is_below h.arrival p.below (omega (arith, e, l)))

pub first_arrival : (p : BlockQueue) (h : Held) (a : ℕ) → first_of (before p h) ≡ Some a
    → (h.arrival ≡ a) × (h.arrival < p.below)
first_arrival p h a e = opens_with p.below a h (nat_lt h.arrival p.below) refl e

pub list_popped : (n : ℕ) (qs : List BlockQueue) (b a : ℕ) (p : BlockQueue) (h : Held) → AreSound n qs
    → slice_get qs b ≡ Some (before p h) → first_of (before p h) ≡ Some a → Each (StartsFrom a) qs
    → TakesFirst h.message (by_arrival n qs) (by_arrival n (set qs b p))
list_popped n qs b a p h sound at first starts =
    let both = first_arrival p h a first in
    let past = each-at (IsPast n) qs b (before p h) sound.past at in
    let w : Waiting = record { message = h.message; eligible = true } in
    let last = flat-last (came_at a) qs b (before p h) p w at (sound.once a)
    (popped_here a p h both.0 (omega (arith, both.0, both.1))) in
    let cut = joined-cut n a (all_at qs) (all_at (set qs b p)) w (omega (arith, both.0, both.1, past.below)) last.0 last.1
    (λ c d. flat-same (came_at c) qs b (before p h) p at (popped_other c p h (λ e. d (sym e ∙ both.0)))) in
    record {
      earlier = by_arrival a qs;
      later = cut.later;
      takes = record { found = cut.before; stale = stale_before n a qs sound.past starts };
      rest = cut.after;
    }
