-- What the calls need: one queue, as it stands in the vector, becomes another.
use mir.Val.{bool_byte}
use Rattle.std.proofs.Common.{◌≡◌, ℕ, ◌+◌, ◌-◌, ◌^◌, ◌<◌, ◌≤◌, Bool, true, false, ◌||◌, nat_lt, Option, Some, None, length}
use Rattle.std.proofs.Common.{length-append, List, [], ◌∷◌, ◌++◌, map, take, drop, set, get_or, arith, refl, ap, sym, ◌∙◌}
use Rattle.std.proofs.Common.{subst}
use Rattle.std.specs.Prelude.{slice_get, is_some, not, OnErr, Result, Ok, Err}
use Rattle.std.specs.List.{count_by, list_any}
use Rattle.std.proofs.lemmas.Bool.Decides.{Decides-ltb, nat_tests}
use Rattle.std.proofs.lemmas.List.{take-append-drop, take_all, take_more}
use Rattle.std.proofs.lemmas.List.Sums.{get_or-le-sum_by, sum_by-cons, sum_by-drop_more}
use Rattle.std.proofs.lemmas.Option.{get_or_from_slice_get, slice_get_read}
use Rattle.tw_base.specs.Lists.{Each}
use Rattle.dsm_runs.specs.Events.{free}
use Rattle.dsm_runs.proofs.Lists.{Each-append, Each-implied}
use Rattle.deferred_queues.specs.declared.held.Held.{Held}
use Rattle.deferred_queues.specs.Deferrals.{AreKept, TakesFirst}
use Rattle.deferred_queues.specs.Queues.{AreEmpty, IsEarliest, IsEmptyQueue, IsPast, BlockQueue, StartsFrom, by_arrival}
use Rattle.deferred_queues.specs.Queues.{first_of, is_earlier, is_open, before, freed, pushed}
use Rattle.deferred_queues.proofs.Lists.{each-at}
use Rattle.deferred_queues.proofs.Queueing.{has_open, list_freed, list_popped, list_pushed, not_below, stale}
use Rattle.deferred_queues.proofs.Keeping.{kept_freed, kept_popped, kept_pushed, kept_roomy, kept_tight, list_wider, of_block}
use Rattle.deferred_queues.proofs.Keeping.{one_if, wider, wider_is}

pub not_some : {X : Type 0} (o : Option X) → not (is_some o) ≡ true → o ≡ None
not_some None h = refl
not_some (Some x) h = absurd (cc)

pub on_err : {T E : Type 0} (P : Type 0) (r : Result T E) → P → OnErr r P
on_err P (Ok x) p = tt
on_err P (Err e) p = p

-- the queue that was read stands at its place
pub stands_at : (qs : List BlockQueue) (i b : ℕ) (q : BlockQueue) → i ≡ b → i < length qs → q ≡ get_or qs i q
    → slice_get qs b ≡ Some q
stands_at qs i b q e l read = subst (λ k. slice_get qs k ≡ Some q) e (slice_get_read qs (length qs) i q refl l read)

byte_is : (b : Bool) → bool_byte b ≡ one_if b
byte_is true = refl
byte_is false = refl

-- what a call counts of a queue
pub counts_one : (n : ℕ) (b : Bool) (o : Option ℕ) (q : BlockQueue) → n ≡ bool_byte b → b ≡ is_some o → o ≡ first_of q
    → n ≡ one_if (is_open q)
counts_one n b o q e f g = e ∙ byte_is b ∙ ap one_if (f ∙ ap (λ (x : Option ℕ). is_some x) g)

-- ---- a message is put behind the others

pub push_kept : (qs : List BlockQueue) (n c b i : ℕ) (tight : Option ℕ) (q p : BlockQueue) (h : Held) → AreKept qs n c tight
    → tight ≡ None → i ≡ b → i < length qs → q ≡ get_or qs i q → p ≡ pushed q h → h.message.block ≡ b → h.arrival ≡ n
    → AreKept (set qs i p) (n + 1) c (Some b)
push_kept qs n c b i tight q p h kept none e l read is of arrival =
    let at = stands_at qs i b q e l read in
    let plain = subst (λ (t : Option ℕ). AreKept qs n c t) none kept in
    let past = each-at (IsPast n) qs b q kept.sound.past at in
    subst (λ (x : BlockQueue). AreKept (set qs i x) (n + 1) c (Some b)) (sym is)
    (subst (λ k. AreKept (set qs k (pushed q h)) (n + 1) c (Some b)) (sym e)
    (kept_pushed qs n c b q h plain at of arrival (not_below h.arrival q.below (omega (arith, past.below, arrival)))))

pub push_list : (qs : List BlockQueue) (n c i : ℕ) (tight : Option ℕ) (q p : BlockQueue) (h : Held) → AreKept qs n c tight
    → i < length qs → q ≡ get_or qs i q → p ≡ pushed q h → h.arrival ≡ n
    → by_arrival (n + 1) (set qs i p) ≡ by_arrival n qs ++ stale h.message ∷ []
push_list qs n c i tight q p h kept l read is arrival =
    subst (λ (x : BlockQueue). by_arrival (n + 1) (set qs i x) ≡ by_arrival n qs ++ stale h.message ∷ []) (sym is)
    (list_pushed n qs i q h kept.sound (stands_at qs i i q refl l read) arrival)

-- ---- messages are made eligible

pub one_counted : (qs : List BlockQueue) (i : ℕ) (q : BlockQueue) → i < length qs → q ≡ get_or qs i q
    → one_if (is_open q) ≤ count_by is_open qs
one_counted qs i q l read =
    subst (λ (x : BlockQueue). one_if (is_open x) ≤ count_by is_open qs) (sym read)
    (get_or-le-sum_by (λ (x : BlockQueue). one_if (is_open x)) qs i q l)

pub free_kept : (qs : List BlockQueue) (n c i fewer more : ℕ) (tight : Option ℕ) (q p : BlockQueue) → AreKept qs n c tight
    → i < length qs → q ≡ get_or qs i q → p ≡ freed n q → fewer ≡ one_if (is_open q) → more ≡ one_if (is_open p)
    → AreKept (set qs i p) n (c - fewer + more) tight
free_kept qs n c i fewer more tight q p kept l read is was now =
    let counts : c - fewer + more + one_if (is_open q) ≡ c + one_if (is_open (freed n q)) =
    omega (arith, was, now, ap (λ (x : BlockQueue). one_if (is_open x)) is, one_counted qs i q l read, kept.counted) in
    subst (λ (x : BlockQueue). AreKept (set qs i x) n (c - fewer + more) tight) (sym is)
    (kept_freed qs n c (c - fewer + more) i tight q kept (stands_at qs i i q refl l read) counts)

pub free_list : (qs : List BlockQueue) (n c b i : ℕ) (tight : Option ℕ) (q p : BlockQueue) → AreKept qs n c tight → i ≡ b
    → i < length qs → q ≡ get_or qs i q → p ≡ freed n q → by_arrival n (set qs i p) ≡ map (free b) (by_arrival n qs)
free_list qs n c b i tight q p kept e l read is =
    subst (λ (x : BlockQueue). by_arrival n (set qs i x) ≡ map (free b) (by_arrival n qs)) (sym is)
    (subst (λ k. by_arrival n (set qs i (freed n q)) ≡ map (free k) (by_arrival n qs)) e
    (list_freed i n qs q kept.sound (stands_at qs i i q refl l read)))

-- ---- the first eligible message is taken

-- the queue that was read is the one that the search found
same_queue : (qs : List BlockQueue) (i : ℕ) (q x : BlockQueue) → q ≡ get_or qs i q → slice_get qs i ≡ Some x → x ≡ q
same_queue qs i q x read at = sym (get_or_from_slice_get qs i x q at) ∙ sym read

pub record Popped (qs : List BlockQueue) (i a : ℕ) (p : BlockQueue) (h : Held) : Type 0 where
  pub at : slice_get qs i ≡ Some (before p h)
  pub first : first_of (before p h) ≡ Some a
  pub others : Each (StartsFrom a) qs

pub popped_from : (qs : List BlockQueue) (i : ℕ) (q p : BlockQueue) (h : Held) (e : IsEarliest qs i) → q ≡ get_or qs i q
    → q ≡ before p h → Popped qs i e.arrival p h
popped_from qs i q p h e read is =
    let same : e.queue ≡ before p h = same_queue qs i q e.queue read e.found ∙ is in
    record {
      at = e.found ∙ ap (λ (x : BlockQueue). Some x) same;
      first = ap (λ (x : BlockQueue). first_of x) (sym same) ∙ e.first;
      others = e.others;
    }

pub pop_kept : (qs : List BlockQueue) (n c i more : ℕ) (tight : Option ℕ) (q p : BlockQueue) (h : Held)
    → AreKept qs n c tight → IsEarliest qs i → q ≡ get_or qs i q → q ≡ before p h → more ≡ one_if (is_open p)
    → AreKept (set qs i p) n (c - 1 + more) tight
pop_kept qs n c i more tight q p h kept e read is now =
    let from = popped_from qs i q p h e read is in
    let was : one_if (is_open (before p h)) ≡ 1 = ap (λ (o : Option ℕ). one_if (is_some o)) from.first in
    let counts : c - 1 + more + one_if (is_open (before p h)) ≡ c + one_if (is_open p) =
    omega (arith, was, now, ap (λ (x : BlockQueue). one_if (is_open x)) is, one_counted qs i q e.within read, kept.counted) in
    kept_popped qs n c (c - 1 + more) i e.arrival tight p h kept from.at from.first counts

pub pop_list : (qs : List BlockQueue) (n c i : ℕ) (tight : Option ℕ) (q p : BlockQueue) (h : Held) → AreKept qs n c tight
    → IsEarliest qs i → q ≡ get_or qs i q → q ≡ before p h
    → TakesFirst h.message (by_arrival n qs) (by_arrival n (set qs i p))
pop_list qs n c i tight q p h kept e read is =
    let from = popped_from qs i q p h e read is in
    list_popped n qs i e.arrival p h kept.sound from.at from.first from.others

pub pop_may : (qs : List BlockQueue) (i : ℕ) (q : BlockQueue) → IsEarliest qs i → q ≡ get_or qs i q → is_open q ≡ true
pop_may qs i q e read = ap (λ (x : BlockQueue). is_open x) (sym (same_queue qs i q e.queue read e.found))
    ∙ ap (λ (o : Option ℕ). is_some o) e.first

pub pop_counted : (qs : List BlockQueue) (n c i : ℕ) (tight : Option ℕ) (q : BlockQueue) → AreKept qs n c tight
    → IsEarliest qs i → q ≡ get_or qs i q → 1 ≤ c
pop_counted qs n c i tight q kept e read =
    omega (arith, one_counted qs i q e.within read, ap one_if (pop_may qs i q e read), kept.counted)

pub pop_block : (qs : List BlockQueue) (n c i : ℕ) (tight : Option ℕ) (q p : BlockQueue) (h : Held) → AreKept qs n c tight
    → IsEarliest qs i → q ≡ get_or qs i q → q ≡ before p h → h.message.block < length qs
pop_block qs n c i tight q p h kept e read is =
    let from = popped_from qs i q p h e read is in
    let of = of_block n i qs (before p h) kept.sound from.at in
    omega (arith, of.0, e.within)

-- ---- room is made

pub ready_kept : (qs : List BlockQueue) (n c b i : ℕ) (tight : Option ℕ) (q p : BlockQueue) → AreKept qs n c tight
    → tight ≡ Some b → i ≡ b → i < length qs → q ≡ get_or qs i q → p.held ≡ q.held → p.below ≡ q.below
    → length p.held < p.room → n < 2 ^ 64 - 1 → AreKept (set qs i p) n c None
ready_kept qs n c b i tight q p kept full e l read held below room few =
    let was = subst (λ (t : Option ℕ). AreKept qs n c t) full kept in
    let more : length q.held < p.room = omega (arith, room, ap (λ (hs : List Held). length hs) held) in
    subst (λ (x : BlockQueue). AreKept (set qs i x) n c None) (sym (wider_is q p held below))
    (subst (λ k. AreKept (set qs k (wider q p.room)) n c None) (sym e)
    (kept_roomy qs n c b p.room q was (stands_at qs i b q e l read) more few))

pub unready_kept : (qs : List BlockQueue) (n c b i : ℕ) (tight : Option ℕ) (q p : BlockQueue) → AreKept qs n c tight
    → tight ≡ Some b → i ≡ b → i < length qs → q ≡ get_or qs i q → p.held ≡ q.held → p.below ≡ q.below
    → AreKept (set qs i p) n c tight
unready_kept qs n c b i tight q p kept full e l read held below =
    let was = subst (λ (t : Option ℕ). AreKept qs n c t) full kept in
    subst (λ (t : Option ℕ). AreKept (set qs i p) n c t) (sym full)
    (subst (λ (x : BlockQueue). AreKept (set qs i x) n c (Some b)) (sym (wider_is q p held below))
    (subst (λ k. AreKept (set qs k (wider q p.room)) n c (Some b)) (sym e)
    (kept_tight qs n c b p.room q was (stands_at qs i b q e l read))))

pub ready_list : (qs : List BlockQueue) (n i : ℕ) (q p : BlockQueue) → i < length qs → q ≡ get_or qs i q → p.held ≡ q.held
    → p.below ≡ q.below → by_arrival n (set qs i p) ≡ by_arrival n qs
ready_list qs n i q p l read held below =
    subst (λ (x : BlockQueue). by_arrival n (set qs i x) ≡ by_arrival n qs) (sym (wider_is q p held below))
    (list_wider qs n i p.room q (stands_at qs i i q refl l read))

-- ---- the queue with the first eligible message is sought

-- the queue has an eligible message that came no later than any of the other's
abbrev pub IsNoLater : BlockQueue → BlockQueue → Type 0
IsNoLater x q = (c : ℕ) → first_of q ≡ Some c → (a : ℕ) × (first_of x ≡ Some a) × (a ≤ c)

pub record IsFound (qs : List BlockQueue) (i found : ℕ) : Type 0 where
  pub within : found < length qs
  pub queue : BlockQueue
  pub at : slice_get qs found ≡ Some queue
  pub others : Each (IsNoLater queue) (take i qs)

pub found_first : (qs : List BlockQueue) → list_any is_open qs ≡ true → IsFound qs 0 0
found_first [] h = absurd (cc)
found_first (q ∷ qs) h = record { within = omega arith; queue = q; at = refl; others = tt }

pub tests_queues : (b : Bool) (o p : Option ℕ) (x y : BlockQueue) → b ≡ is_earlier o p → o ≡ first_of x → p ≡ first_of y
    → b ≡ is_earlier (first_of x) (first_of y)
tests_queues b o p x y e f g = e ∙ ap (λ (z : Option ℕ). is_earlier z p) f ∙ ap (λ (z : Option ℕ). is_earlier (first_of x) z) g

earlier_is : (x y : Option ℕ) → is_earlier x y ≡ true → (c : ℕ) (a : ℕ) → y ≡ Some a → a ≤ c
    → (d : ℕ) × (x ≡ Some d) × (d ≤ c)
earlier_is None y h c a e l = absurd (cc)
earlier_is (Some d) None h c a e l = absurd (cc)
earlier_is (Some d) (Some b) h c a e l =
    let same : b ≡ a = cc in
    let less = (Decides-ltb d b).0 h in
    (d, refl, omega (arith, same, less, l))

not_earlier : (x y : Option ℕ) → is_earlier x y ≡ false → (c : ℕ) → x ≡ Some c → (a : ℕ) × (y ≡ Some a) × (a ≤ c)
not_earlier None y h c e = absurd (cc)
not_earlier (Some d) None h c e = absurd (cc)
not_earlier (Some d) (Some b) h c e =
    let same : d ≡ c = cc in
    let no_less : b ≤ d = grind (arith, nat_tests) in
    (b, refl, omega (arith, same, no_less))

no_later_itself : (x : BlockQueue) → IsNoLater x x
no_later_itself x c e = (c, e, omega arith)

one_more : (P : BlockQueue → Type 0) (qs : List BlockQueue) (i : ℕ) (x : BlockQueue) → i < length qs → x ≡ get_or qs i x
    → Each P (take i qs) → P x → Each P (take (i + 1) qs)
one_more P qs i x l read h p =
    subst (λ (xs : List BlockQueue). Each P xs) (ap (λ (y : BlockQueue). take i qs ++ y ∷ []) read ∙ sym (take_more qs i x l))
    (Each-append P (take i qs) (x ∷ []) h (p, tt))

-- x at place i comes before what was found
pub found_here : (qs : List BlockQueue) (i found : ℕ) (x y : BlockQueue) → IsFound qs i found → i < length qs
    → x ≡ get_or qs i x → y ≡ get_or qs found y → is_earlier (first_of x) (first_of y) ≡ true → IsFound qs (i + 1) i
found_here qs i found x y old l readx ready h =
    let same : old.queue ≡ y = same_queue qs found y old.queue ready old.at in
    let better : (q : BlockQueue) → IsNoLater old.queue q → IsNoLater x q =
    λ q (k : IsNoLater old.queue q) c e. let was = k c e in
    earlier_is (first_of x) (first_of y) h c was.0 (ap (λ (z : BlockQueue). first_of z) (sym same) ∙ was.1) was.2 in
    record {
      within = l;
      queue = x;
      at = stands_at qs i i x refl l readx;
      others = one_more (IsNoLater x) qs i x l readx
          (Each-implied (IsNoLater old.queue) (IsNoLater x) (take i qs) better old.others) (no_later_itself x);
    }

pub found_there : (qs : List BlockQueue) (i found : ℕ) (x y : BlockQueue) → IsFound qs i found → i < length qs
    → x ≡ get_or qs i x → y ≡ get_or qs found y → is_earlier (first_of x) (first_of y) ≡ false → IsFound qs (i + 1) found
found_there qs i found x y old l readx ready h =
    let same : old.queue ≡ y = same_queue qs found y old.queue ready old.at in
    record {
      within = old.within;
      queue = old.queue;
      at = old.at;
      others = one_more (IsNoLater old.queue) qs i x l readx old.others
          (λ c e. let was = not_earlier (first_of x) (first_of y) h c e in
          (was.0, ap (λ (z : BlockQueue). first_of z) same ∙ was.1, was.2));
    }

pub found_earliest : (qs : List BlockQueue) (i found : ℕ) → IsFound qs i found → length qs ≤ i → list_any is_open qs ≡ true
    → IsEarliest qs found
found_earliest qs i found old all h =
    let o = has_open qs h in
    let others = subst (λ (xs : List BlockQueue). Each (IsNoLater old.queue) xs) (take_all i qs all) old.others in
    let least = each-at (IsNoLater old.queue) qs o.place o.queue others o.at o.arrival o.first in
    record {
      within = old.within;
      queue = old.queue;
      found = old.at;
      arrival = least.0;
      first = least.1;
      others = Each-implied (IsNoLater old.queue) (StartsFrom least.0) qs
          (λ q (k : IsNoLater old.queue q) c e. let it = k c e in
          let same : it.0 ≡ least.0 = one_number (first_of old.queue) it.0 least.0 it.1 least.1 in
          omega (arith, same, it.2)) others;
    }
  where
    one_number : (o : Option ℕ) (a b : ℕ) → o ≡ Some a → o ≡ Some b → a ≡ b
    one_number o a b e f = cc

-- the queues from place i on have none
none_open : (qs : List BlockQueue) (x : BlockQueue) → count_by is_open qs ≡ 0 → Each (IsNoLater x) qs
none_open [] x none = tt
none_open (q ∷ qs) x none =
    let sum : count_by is_open (q ∷ qs) ≡ one_if (is_open q) + count_by is_open qs =
    sum_by-cons (λ (y : BlockQueue). one_if (is_open y)) q qs in (
      λ c e. let one : one_if (is_open q) ≡ 1 = ap (λ (o : Option ℕ). one_if (is_some o)) e in absurd
          (omega (arith, sum, none, one)),
      none_open qs x (omega (arith, sum, none)),
    )

-- what was found, and how many of the queues from place i on have an eligible message
pub record IsSought (qs : List BlockQueue) (i found left : ℕ) : Type 0 where
  pub found_so : IsFound qs i found
  pub left_is : left ≡ count_by is_open (drop i qs)

pub count_next : (qs : List BlockQueue) (i : ℕ) (x : BlockQueue) → i < length qs → x ≡ get_or qs i x
    → count_by is_open (drop i qs) ≡ one_if (is_open x) + count_by is_open (drop (i + 1) qs)
count_next qs i x l read =
    sum_by-drop_more (λ (y : BlockQueue). one_if (is_open y)) qs i x l
    ∙ ap (λ (y : BlockQueue). one_if (is_open y) + count_by is_open (drop (i + 1) qs)) (sym read)

pub sought_next : (qs : List BlockQueue) (i found next left one : ℕ) (x : BlockQueue) → IsSought qs i found left → i < length qs
    → x ≡ get_or qs i x → one ≡ one_if (is_open x) → IsFound qs (i + 1) next → IsSought qs (i + 1) next (left - one)
sought_next qs i found next left one x old l read is found_next = record {
  found_so = found_next;
  left_is = omega (arith, old.left_is, count_next qs i x l read, is);
}

pub sought_fits : (qs : List BlockQueue) (i found left one : ℕ) (x : BlockQueue) → IsSought qs i found left → i < length qs
    → x ≡ get_or qs i x → one ≡ one_if (is_open x) → one ≤ left
sought_fits qs i found left one x old l read is = omega (arith, old.left_is, count_next qs i x l read, is)

pub sought_all : (qs : List BlockQueue) (i found left : ℕ) → IsSought qs i found left → left ≡ 0 → list_any is_open qs ≡ true
    → IsEarliest qs found
sought_all qs i found left old none any =
    let was = old.found_so in
    let none_left : count_by is_open (drop i qs) ≡ 0 = sym old.left_is ∙ none in
    found_earliest qs (length qs) found (record {
      within = was.within;
      queue = was.queue;
      at = was.at;
      others =
          subst (λ (xs : List BlockQueue). Each (IsNoLater was.queue) xs)
          (take-append-drop i qs ∙ sym (take_all (length qs) qs (omega arith)))
          (Each-append (IsNoLater was.queue) (take i qs) (drop i qs) was.others
          (none_open (drop i qs) was.queue none_left));
    }) (omega arith) any

-- ---- counts

some_more : (b : Bool) (n : ℕ) → nat_lt 0 (one_if b + n) ≡ (b || nat_lt 0 n)
some_more true n = (Decides-ltb 0 (1 + n)).1 (omega arith)
some_more false n = ap (λ k. nat_lt 0 k) (omega arith)

pub some_counted : (qs : List BlockQueue) → nat_lt 0 (count_by is_open qs) ≡ list_any is_open qs
some_counted [] = refl
some_counted (q ∷ qs) =
    ap (λ n. nat_lt 0 n) (sum_by-cons (λ (x : BlockQueue). one_if (is_open x)) q qs)
    ∙ some_more (is_open q) (count_by is_open qs)
    ∙ ap (λ b. is_open q || b) (some_counted qs)

-- ---- queues are made

pub one_empty : (n : ℕ) (qs : List BlockQueue) (q : BlockQueue) → AreEmpty n qs → IsEmptyQueue q
    → AreEmpty (n + 1) (qs ++ q ∷ [])
one_empty n qs q h e = (long n qs q h.0, Each-append IsEmptyQueue qs (q ∷ []) h.1 (e, tt))
  where
    long : (n : ℕ) (qs : List BlockQueue) (q : BlockQueue) → length qs ≡ n → length (qs ++ q ∷ []) ≡ n + 1
    long n qs q h = omega (arith, h, length-append qs (q ∷ []))
