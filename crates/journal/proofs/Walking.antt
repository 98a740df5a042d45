-- A walk that takes the first of the next entries of logs each time merges them.
use Rattle.std.proofs.Common.{◌≡◌, ◌≢◌, ℕ, zero, suc, ◌+◌, ◌<◌, ◌≤◌, ◌⊎◌, Bool, true, false, nat_lt, if◌then◌else◌, List, []}
use Rattle.std.proofs.Common.{◌∷◌, ◌++◌, Option, Some, None, length, drop, refl, sym, ap, subst, ◌∙◌, inl, inr, arith}
use Rattle.std.proofs.Common.{append_assoc, add-one}
use Rattle.std.specs.Prelude.{option_to_list, slice_get, slice_index}
use Rattle.std.specs.List.{filter}
use Rattle.std.proofs.lemmas.Bool.{cases_eq, cases_lt}
use Rattle.std.proofs.lemmas.Bool.Decides.{nat_tests}
use Rattle.std.proofs.lemmas.List.{append-nil, get_or-set_other, get_or-set_same, length-set}
use Rattle.tw_base.specs.declared.entry.Entry.{Entry}
use Rattle.tw_base.specs.Lists.{Each, sum_below}
use Rattle.dsm_runs.specs.Laws.{IsLog}
use Rattle.dsm_runs.specs.Merges.{Before, IsMerge, is_of}
use Rattle.dsm_runs.proofs.Lists.{Each-implied}
use Rattle.dsm_runs.proofs.Merging.{of_here, of_other}
use Rattle.journal.specs.Merging.{first_of, log_at, moved, next_stamp, sooner, stamps_of}

-- ---- the node whose next entry comes first

none_some : {X : Type 0} (o : Option X) (x : X) → o ≡ None → o ≡ Some x → ⊥
none_some o x h k = cc

same_some : {X : Type 0} (o : Option X) (x y : X) → o ≡ Some x → o ≡ Some y → x ≡ y
same_some o x y h k = cc

-- this node of n has this stamp, and no other an earlier one
pub record IsNext (n : ℕ) (stamps : ℕ → Option ℕ) (k stamp : ℕ) : Type 0 where
  pub below : k < n
  pub stamped : stamps k ≡ Some stamp
  pub least : (i other : ℕ) → i < n → stamps i ≡ Some other → (stamp < other) ⊎ (stamp ≡ other) × (k ≤ i)

next_stays : (n : ℕ) (stamps : ℕ → Option ℕ) (k stamp : ℕ) → IsNext n stamps k stamp →
    ((other : ℕ) → stamps n ≡ Some other → stamp ≤ other) → IsNext (suc n) stamps k stamp
next_stays n stamps k stamp h f = record { below = omega (arith, h.below); stamped = h.stamped; least = least }
  where
    order : (other : ℕ) → stamp ≤ other → k ≤ n → (stamp < other) ⊎ (stamp ≡ other) × (k ≤ n)
    order other l m = elim (cases_lt stamp other) [
      | inl lt ↦ inl lt
      | inr ge ↦ inr (omega arith, m)
    ]

    least : (i other : ℕ) → i < suc n → stamps i ≡ Some other → (stamp < other) ⊎ (stamp ≡ other) × (k ≤ i)
    least i other l e = elim (cases_lt i n) [
      | inl lt ↦ h.least i other lt e
      | inr ge ↦
          let same : n ≡ i = omega arith in
          let at : k < n = h.below in
          subst (λ m. (stamp < other) ⊎ (stamp ≡ other) × (k ≤ m)) same
          (order other (f other (subst (λ m. stamps m ≡ Some other) (sym same) e)) (omega arith))
    ]

next_comes : (n : ℕ) (stamps : ℕ → Option ℕ) (stamp : ℕ) → stamps n ≡ Some stamp →
    ((i other : ℕ) → i < n → stamps i ≡ Some other → stamp < other) → IsNext (suc n) stamps n stamp
next_comes n stamps stamp at f = record { below = omega arith; stamped = at; least = least }
  where
    least : (i other : ℕ) → i < suc n → stamps i ≡ Some other → (stamp < other) ⊎ (stamp ≡ other) × (n ≤ i)
    least i other l e = elim (cases_lt i n) [
      | inl lt ↦ inl (f i other lt e)
      | inr ge ↦
          let same : i ≡ n = omega arith in
          inr (same_some (stamps n) stamp other at (subst (λ m. stamps m ≡ Some other) same e), ge)
    ]

never_none : (b : Bool) (x y : ℕ × ℕ) → (if b then Some x else Some y) ≡ None → ⊥
never_none true x y h = cc
never_none false x y h = cc

pub none_left : (n : ℕ) (stamps : ℕ → Option ℕ) → first_of n stamps ≡ None → (i : ℕ) → i < n → stamps i ≡ None
none_left zero stamps h i l = absurd (omega (arith, l))
none_left (suc n) stamps h i l = go (first_of n stamps) (stamps n) refl refl h (none_left n stamps)
  where
    go : (first : Option (ℕ × ℕ)) (last : Option ℕ) → first_of n stamps ≡ first → stamps n ≡ last →
        sooner first n last ≡ None → (first_of n stamps ≡ None → (j : ℕ) → j < n → stamps j ≡ None) → stamps i ≡ None
    go None None p q e before = elim (cases_lt i n) [
      | inl lt ↦ before p i lt
      | inr ge ↦ let same : i ≡ n = omega arith in ap stamps same ∙ q
    ]
    go (Some f) None p q e before = absurd cc
    go None (Some s) p q e before = absurd cc
    go (Some f) (Some s) p q e before = absurd (never_none (nat_lt s f.1) (n, s) f e)

pub is_next : (n : ℕ) (stamps : ℕ → Option ℕ) (p : ℕ × ℕ) → first_of n stamps ≡ Some p → IsNext n stamps p.0 p.1
is_next zero stamps p h = absurd cc
is_next (suc n) stamps p h = go (first_of n stamps) (stamps n) refl refl h (is_next n stamps)
  where
    go : (first : Option (ℕ × ℕ)) (last : Option ℕ) → first_of n stamps ≡ first → stamps n ≡ last →
        sooner first n last ≡ Some p → ((q : ℕ × ℕ) → first_of n stamps ≡ Some q → IsNext n stamps q.0 q.1) →
        IsNext (suc n) stamps p.0 p.1
    go None None a b e before = absurd cc
    go (Some f) None a b e before =
        let stays : IsNext (suc n) stamps f.0 f.1 = next_stays n stamps f.0 f.1 (before f a)
        (λ other h. absurd (none_some (stamps n) other b h)) in
        subst (λ (q : ℕ × ℕ). IsNext (suc n) stamps q.0 q.1) (same_some (Some f) f p refl e) stays
    go None (Some s) a b e before =
        let comes : IsNext (suc n) stamps n s = next_comes n stamps s b
        (λ i other l h. absurd (none_some (stamps i) other (none_left n stamps a i l) h)) in
        subst (λ (q : ℕ × ℕ). IsNext (suc n) stamps q.0 q.1) (same_some (Some (n, s)) (n, s) p refl e) comes
    go (Some f) (Some s) a b e before = by (nat_lt s f.1) refl e
      where
        old : IsNext n stamps f.0 f.1
        old = before f a

        sooner_than : (i other : ℕ) → s < f.1 → i < n → stamps i ≡ Some other → s < other
        sooner_than i other lt l h = behind (old.least i other l h)
          where
            behind : (f.1 < other) ⊎ (f.1 ≡ other) × (f.0 ≤ i) → s < other
            behind (inl k) = omega arith
            behind (inr k) = omega arith

        by : (b2 : Bool) → nat_lt s f.1 ≡ b2 → (if b2 then Some (n, s) else Some f) ≡ Some p → IsNext (suc n) stamps p.0 p.1
        by true t e2 =
            let lt : s < f.1 = grind (arith, nat_tests) in
            subst (λ (q : ℕ × ℕ). IsNext (suc n) stamps q.0 q.1) (same_some (Some (n, s)) (n, s) p refl e2)
            (next_comes n stamps s b (λ i other l h. sooner_than i other lt l h))
        by false t e2 =
            let ge : f.1 ≤ s = grind (arith, nat_tests) in
            subst (λ (q : ℕ × ℕ). IsNext (suc n) stamps q.0 q.1) (same_some (Some f) f p refl e2)
            (next_stays n stamps f.0 f.1 old (λ other h. subst (λ m. f.1 ≤ m) (same_some (stamps n) s other b h) ge))

-- ---- what is left of a log

abbrev pub left_at : List (List Entry) → List ℕ → ℕ → List Entry
left_at logs places i = drop (slice_index places i) (log_at logs i)

nothing_left : (log : List Entry) (place : ℕ) → next_stamp log place ≡ None → drop place log ≡ []
nothing_left [] zero h = refl
nothing_left [] (suc k) h = refl
nothing_left (x ∷ xs) zero h = absurd cc
nothing_left (x ∷ xs) (suc k) h = nothing_left xs k h

-- the entry at a place of a log, with what is left before it and behind it
record Stands (log : List Entry) (place stamp : ℕ) : Type 0 where
  entry : Entry
  read : slice_get log place ≡ Some entry
  is_left : drop place log ≡ entry ∷ drop (suc place) log
  stamped : entry.stamp ≡ stamp

stands : (log : List Entry) (place stamp : ℕ) → next_stamp log place ≡ Some stamp → Stands log place stamp
stands [] zero stamp h = absurd cc
stands [] (suc k) stamp h = absurd cc
stands (x ∷ xs) zero stamp h = record { entry = x; read = refl; is_left = refl; stamped = cc }
stands (x ∷ xs) (suc k) stamp h =
    let rest : Stands xs k stamp = stands xs k stamp h in
    record { entry = rest.entry; read = rest.read; is_left = rest.is_left; stamped = rest.stamped }

within_log : (log : List Entry) (place stamp : ℕ) → next_stamp log place ≡ Some stamp → place < length log
within_log [] zero stamp h = absurd cc
within_log [] (suc k) stamp h = absurd cc
within_log (x ∷ xs) zero stamp h = omega arith
within_log (x ∷ xs) (suc k) stamp h = let l : k < length xs = within_log xs k stamp h in omega (arith, l)

stamp_left : (log : List Entry) (place : ℕ) (x : Entry) (xs : List Entry) → drop place log ≡ x ∷ xs →
    next_stamp log place ≡ Some x.stamp
stamp_left [] zero x xs h = absurd cc
stamp_left [] (suc k) x xs h = absurd cc
stamp_left (y ∷ ys) zero x xs h = ap (λ (e : Entry). Some e.stamp) (head_of y x ys xs h)
  where
    head_of : (a b : Entry) (ps qs : List Entry) → a ∷ ps ≡ b ∷ qs → a ≡ b
    head_of a b ps qs q = cc
stamp_left (y ∷ ys) (suc k) x xs h = stamp_left ys k x xs h

left_log : (i : ℕ) (log : List Entry) (place : ℕ) → IsLog i log → IsLog i (drop place log)
left_log i log zero h = h
left_log i [] (suc k) h = h
left_log i (e ∷ es) (suc k) h = left_log i es k (record { rising = h.rising.1; nodes = h.nodes.1 })

-- ---- an entry that comes first, before a merge of the others

-- of n nodes, k gives e, and no other has an earlier entry
pub record IsTaken (n : ℕ) (before after : ℕ → List Entry) (k : ℕ) (e : Entry) : Type 0 where
  pub below : k < n
  pub gives : before k ≡ e ∷ after k
  pub others : (i : ℕ) → i ≢ k → before i ≡ after i
  pub least : (i : ℕ) (x : Entry) (xs : List Entry) → i < n → before i ≡ x ∷ xs →
      (e.stamp < x.stamp) ⊎ (e.stamp ≡ x.stamp) × (k ≤ i)

each_tail : (P : Entry → Type 0) (p : Entry → Bool) (x : Entry) (xs : List Entry) (b : Bool) →
    Each P (if b then x ∷ filter p xs else filter p xs) → Each P (filter p xs)
each_tail P p x xs true h = h.1
each_tail P p x xs false h = h

each_by_node : (P : Entry → Type 0) (n : ℕ) (j : List Entry) → Each (λ e. e.node < n) j →
    ((i : ℕ) → i < n → Each P (filter (is_of i) j)) → Each P j
each_by_node P n [] w f = tt
each_by_node P n (x ∷ xs) w f =
    let mine : Each P (x ∷ filter (is_of x.node) xs) = subst (λ (l : List Entry). Each P l) (of_here x xs) (f x.node w.0) in
    (mine.0, each_by_node P n xs w.1 (λ i l. each_tail P (is_of i) x xs (is_of i x) (f i l)))

first_before : (e x : Entry) (k i : ℕ) → e.node ≡ k → x.node ≡ i → i ≢ k →
    (e.stamp < x.stamp) ⊎ (e.stamp ≡ x.stamp) × (k ≤ i) → Before e x
first_before e x k i a b d (inl h) = inl h
first_before e x k i a b d (inr h) = inr (h.0, omega arith)

later_before : (e x y : Entry) → Before e x → x.stamp < y.stamp → Before e y
later_before e x y (inl h) l = inl (omega arith)
later_before e x y (inr h) l = inl (omega arith)

before_others : (e : Entry) (k i : ℕ) (log : List Entry) → e.node ≡ k → i ≢ k → IsLog i log →
    ((x : Entry) (xs : List Entry) → log ≡ x ∷ xs → (e.stamp < x.stamp) ⊎ (e.stamp ≡ x.stamp) × (k ≤ i)) → Each (Before e) log
before_others e k i [] a d h f = tt
before_others e k i (x ∷ xs) a d h f =
    let first : Before e x = first_before e x k i a h.nodes.0 d (f x xs refl) in
    (first, Each-implied (λ y. x.stamp < y.stamp) (Before e) xs (λ y l. later_before e x y first l) h.rising.0)

part_here : (k : ℕ) (e : Entry) (j log : List Entry) → e.node ≡ k → filter (is_of k) j ≡ log →
    filter (is_of k) (e ∷ j) ≡ e ∷ log
part_here k e j log a h = subst (λ n. filter (is_of n) (e ∷ j) ≡ e ∷ filter (is_of n) j) a (of_here e j)
    ∙ ap (λ (l : List Entry). e ∷ l) h

pub first_goes : (n : ℕ) (before after : ℕ → List Entry) (k : ℕ) (e : Entry) (j : List Entry) →
    ((i : ℕ) → i < n → IsLog i (before i)) → IsTaken n before after k e → IsMerge n after j → IsMerge n before (e ∷ j)
first_goes n before after k e j logs t m = record {
  parts = parts;
  within = (subst (λ x. x < n) (sym at) t.below, m.within);
  sorted = (each_by_node (Before e) n j m.within part_before, m.sorted);
}
  where
    mine : IsLog k (e ∷ after k)
    mine = subst (λ (l : List Entry). IsLog k l) t.gives (logs k t.below)

    at : e.node ≡ k
    at = mine.nodes.0

    parts : (i : ℕ) → i < n → filter (is_of i) (e ∷ j) ≡ before i
    parts i l = elim (cases_eq i k) [
      | inl q ↦ subst (λ x. filter (is_of x) (e ∷ j) ≡ before x) (sym q)
          (part_here k e j (after k) at (m.parts k t.below) ∙ sym t.gives)
      | inr d ↦ of_other i e j (λ p. d (p ∙ at)) ∙ m.parts i l ∙ sym (t.others i d)
    ]

    all_before : (i : ℕ) → i < n → Each (Before e) (after i)
    all_before i l = elim (cases_eq i k) [
      | inl q ↦ subst (λ x. Each (Before e) (after x)) (sym q)
          (Each-implied (λ x. e.stamp < x.stamp) (Before e) (after k) (λ x lt. inl lt) mine.rising.0)
      | inr d ↦ before_others e k i (after i) at d (subst (λ (l : List Entry). IsLog i l) (t.others i d) (logs i l))
          (λ x xs q. t.least i x xs l (t.others i d ∙ q))
    ]

    part_before : (i : ℕ) → i < n → Each (Before e) (filter (is_of i) j)
    part_before i l = subst (λ (l : List Entry). Each (Before e) l) (sym (m.parts i l)) (all_before i l)

-- ---- the walk

-- what is left of the logs, merged, goes behind the journal
abbrev pub GoesOn : List (List Entry) → List ℕ → List Entry → Type 0
GoesOn logs places journal = (rest : List Entry) → IsMerge (length logs) (left_at logs places) rest →
    IsMerge (length logs) (log_at logs) (journal ++ rest)

ends_so : (logs : List (List Entry)) (places : List ℕ) (journal : List Entry) → GoesOn logs places journal →
    first_of (length logs) (stamps_of logs places) ≡ None → IsMerge (length logs) (log_at logs) journal
ends_so logs places journal h none =
    let all : IsMerge (length logs) (left_at logs places) [] = record {
      parts = λ i l. sym (nothing_left (log_at logs i) (slice_index places i)
          (none_left (length logs) (stamps_of logs places) none i l));
      within = tt;
      sorted = tt;
    } in
    subst (λ (l : List Entry). IsMerge (length logs) (log_at logs) l) (append-nil journal) (h [] all)

left_here : (logs : List (List Entry)) (places : List ℕ) (k : ℕ) → k < length places →
    left_at logs (moved places k) k ≡ drop (suc (slice_index places k)) (log_at logs k)
left_here logs places k l = ap (λ p. drop p (log_at logs k))
    (get_or-set_same places k (slice_index places k + 1) 0 l ∙ add-one (slice_index places k))

left_other : (logs : List (List Entry)) (places : List ℕ) (k i : ℕ) → i ≢ k →
    left_at logs (moved places k) i ≡ left_at logs places i
left_other logs places k i d = ap (λ p. drop p (log_at logs i)) (get_or-set_other places k i (slice_index places k + 1) 0 d)

pub ends : (logs : List (List Entry)) (places seen : List ℕ) (found : Option (ℕ × ℕ)) (journal : List Entry) →
    GoesOn logs places journal → seen ≡ places →
    found ≡ first_of (length logs) (stamps_of logs seen) → found ≡ None → IsMerge (length logs) (log_at logs) journal
ends logs places seen found journal h same is none =
    ends_so logs places journal h (ap (λ (l : List ℕ). first_of (length logs) (stamps_of logs l)) (sym same) ∙ sym is ∙ none)

-- the next entry of the first node: it is there, and is taken from its log alone
pub record Takes (logs : List (List Entry)) (places : List ℕ) (k : ℕ) : Type 0 where
  pub below : k < length logs
  pub within : slice_index places k < length (log_at logs k)
  pub entry : Entry
  pub read : slice_get (log_at logs k) (slice_index places k) ≡ Some entry
  pub taken : IsTaken (length logs) (left_at logs places) (left_at logs (moved places k)) k entry

pub takes : (logs : List (List Entry)) (places : List ℕ) (p : ℕ × ℕ) → length places ≡ length logs →
    first_of (length logs) (stamps_of logs places) ≡ Some p → Takes logs places p.0
takes logs places p long h =
    let n : ℕ = length logs in
    let next : IsNext n (stamps_of logs places) p.0 p.1 = is_next n (stamps_of logs places) p h in
    let here : Stands (log_at logs p.0) (slice_index places p.0) p.1 =
    stands (log_at logs p.0) (slice_index places p.0) p.1 next.stamped in
    let at : p.0 < length places = subst (λ m. p.0 < m) (sym long) next.below in
    record {
      below = next.below;
      within = within_log (log_at logs p.0) (slice_index places p.0) p.1 next.stamped;
      entry = here.entry;
      read = here.read;
      taken = record {
        below = next.below;
        gives = here.is_left ∙ ap (λ (l : List Entry). here.entry ∷ l) (sym (left_here logs places p.0 at));
        others = λ i d. sym (left_other logs places p.0 i d);
        least = λ i x xs l q. subst (λ m. (m < x.stamp) ⊎ (m ≡ x.stamp) × (p.0 ≤ i)) (sym here.stamped)
            (next.least i x.stamp l (stamp_left (log_at logs i) (slice_index places i) x xs q));
      };
    }

-- the same, of what was found
pub takes_found : (logs : List (List Entry)) (places seen : List ℕ) (found : Option (ℕ × ℕ)) (k stamp : ℕ) →
    length places ≡ length logs → seen ≡ places →
    found ≡ first_of (length logs) (stamps_of logs seen) → found ≡ Some (k, stamp) → Takes logs places k
takes_found logs places seen found k stamp long same is some =
    takes logs places (k, stamp) long
    (ap (λ (l : List ℕ). first_of (length logs) (stamps_of logs l)) (sym same) ∙ sym is ∙ some)

pub moved_long : (places after : List ℕ) (k n : ℕ) → after ≡ moved places k → length places ≡ n → length after ≡ n
moved_long places after k n e long = ap (λ (l : List ℕ). length l) e ∙ length-set places k (slice_index places k + 1) ∙ long

abbrev pub AreLogs : List (List Entry) → Type 0
AreLogs logs = (i : ℕ) → i < length logs → IsLog i (log_at logs i)

moves_on : (logs : List (List Entry)) (places : List ℕ) (journal after : List Entry) (k : ℕ) → AreLogs logs →
    Takes logs places k →
    after ≡ journal ++ option_to_list (slice_get (log_at logs k) (slice_index places k)) → GoesOn logs places journal →
    GoesOn logs (moved places k) after
moves_on logs places journal after k each t grows h rest m =
    let more : IsMerge (length logs) (left_at logs places) (t.entry ∷ rest) =
    first_goes (length logs) (left_at logs places) (left_at logs (moved places k)) k t.entry rest
    (λ i l. left_log i (log_at logs i) (slice_index places i) (each i l)) t.taken m in
    let put : after ≡ journal ++ t.entry ∷ [] = grows ∙ ap (λ (o : Option Entry). journal ++ option_to_list o) t.read in
    subst (λ (l : List Entry). IsMerge (length logs) (log_at logs) l)
    (sym (ap (λ (l : List Entry). l ++ rest) put ∙ append_assoc journal (t.entry ∷ []) rest)) (h (t.entry ∷ rest) more)

pub goes_on : (logs : List (List Entry)) (places next : List ℕ) (journal after : List Entry) (k : ℕ) → AreLogs logs →
    Takes logs places k →
    after ≡ journal ++ option_to_list (slice_get (log_at logs k) (slice_index places k)) → next ≡ moved places k →
    GoesOn logs places journal → GoesOn logs next after
goes_on logs places next journal after k each t grows e h =
    subst (λ (l : List ℕ). GoesOn logs l after) (sym e) (moves_on logs places journal after k each t grows h)

-- ---- the walk ends

-- how many entries are left
abbrev pub left_in : List (List Entry) → List ℕ → ℕ
left_in logs places = sum_below (length logs) (λ i. length (left_at logs places i))

sum_same : (n : ℕ) (f h : ℕ → ℕ) → ((i : ℕ) → i < n → f i ≡ h i) → sum_below n f ≡ sum_below n h
sum_same zero f h e = refl
sum_same (suc n) f h e =
    let before : sum_below n f ≡ sum_below n h = sum_same n f h (λ i l. e i (omega (arith, l))) in
    let last : f n ≡ h n = e n (omega arith) in
    omega (arith, before, last)

sum_less : (n : ℕ) (f h : ℕ → ℕ) (k : ℕ) → k < n → h k < f k → ((i : ℕ) → i ≢ k → h i ≡ f i) → sum_below n h < sum_below n f
sum_less zero f h k l lt e = absurd (omega (arith, l))
sum_less (suc n) f h k l lt e = elim (cases_eq k n) [
  | inl q ↦
      let before : sum_below n h ≡ sum_below n f = sum_same n h f (λ i li. e i (λ p. omega (arith, li, p, q))) in
      let last : h n < f n = subst (λ m. h m < f m) q lt in
      omega (arith, before, last)
  | inr d ↦
      let before : sum_below n h < sum_below n f = sum_less n f h k (omega arith) lt e in
      let last : h n ≡ f n = e n (λ p. d (sym p)) in
      omega (arith, before, last)
]

moved_fewer : (logs : List (List Entry)) (places : List ℕ) (k : ℕ) → Takes logs places k →
    left_in logs (moved places k) < left_in logs places
moved_fewer logs places k t =
    sum_less (length logs) (λ i. length (left_at logs places i)) (λ i. length (left_at logs (moved places k) i)) k t.below
    (subst (λ (l : List Entry). length (left_at logs (moved places k) k) < length l) (sym t.taken.gives) (omega arith))
    (λ i d. ap (λ (l : List Entry). length l) (sym (t.taken.others i d)))

pub fewer_left : (logs : List (List Entry)) (places next : List ℕ) (k : ℕ) → Takes logs places k → next ≡ moved places k →
    left_in logs next < left_in logs places
fewer_left logs places next k t e = subst (λ (l : List ℕ). left_in logs l < left_in logs places) (sym e)
    (moved_fewer logs places k t)
