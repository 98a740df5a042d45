-- The events that words tell, node after node.
use Rattle.std.proofs.Common.{◌≡◌, ◌≢◌, ◌∙◌, ℕ, zero, suc, ◌+◌, ◌-◌, ◌*◌, ◌/◌, ◌%◌, ◌^◌, ◌<◌, ◌≤◌, Bool, true, false, List, []}
use Rattle.std.proofs.Common.{◌∷◌, ◌++◌, Option, Some, None, length, length-append, refl, sym, ap, subst, arith, inl, inr}
use Rattle.std.proofs.Common.{count_ones}
use Rattle.std.specs.Prelude.{map, slice_get, slice_index}
use Rattle.std.specs.List.{All, filter}
use Rattle.std.specs.Option.{option_and_then}
use Rattle.std.proofs.lemmas.Bool.{cases_eq}
use Rattle.std.proofs.lemmas.List.Elements.{All-get_or, filter-append}
use Rattle.std.proofs.lemmas.Option.{slice_get_past}
use Rattle.tw_base.specs.declared.entry.Event.{Event}
use Rattle.tw_base.specs.declared.entry.Event.TheVariants as event
use Rattle.tw_base.specs.declared.message.Chan.TheVariants.{Zero, One}
use Rattle.dsm_runs.specs.Schedules.{deliveries, enabled_events, events_below, node_events}
use Rattle.dsm_runs.specs.Setups.{Setup}
use Rattle.dsm_runs.specs.Tests.{is_enabled}
use Rattle.dsm_runs.specs.Worlds.{World}
use Rattle.node_parts.specs.Truths.{truths}
use Rattle.event_masks.specs.Told.{told, told_at, told_below, told_events, true_at}
use Rattle.event_masks.proofs.Bits.{told_get, told_ones}

-- ---- parts of lists

get_left : {X : Type 0} (xs ys : List X) (k : ℕ) → k < length xs → slice_get (xs ++ ys) k ≡ slice_get xs k
get_left [] ys k l = absurd (omega arith)
get_left (x ∷ xs) ys zero l = refl
get_left (x ∷ xs) ys (suc k) l = get_left xs ys k (omega arith)

get_right : {X : Type 0} (xs ys : List X) (k : ℕ) → slice_get (xs ++ ys) (length xs + k) ≡ slice_get ys k
get_right [] ys k = let e : 0 + k ≡ k = omega arith in ap (λ j. slice_get ys j) e
get_right (x ∷ xs) ys k = let e : suc (length xs) + k ≡ suc (length xs + k) =
    omega arith in ap (λ j. slice_get (x ∷ (xs ++ ys)) j) e ∙ get_right xs ys k

-- ---- the events of a node

many_deliveries : (i n : ℕ) → length (deliveries i n) ≡ 2 * n
many_deliveries i zero = refl
many_deliveries i (suc n) = omega (
  arith,
  length-append (deliveries i n) (event.Deliver i n Zero ∷ event.Deliver i n One ∷ []),
  many_deliveries i n,
)

pub many_events : (n i : ℕ) → length (node_events n i) ≡ 2 + 2 * n
many_events n i = omega (arith, many_deliveries i n)

delivery_at : (i n f : ℕ) → f < n → (slice_get (deliveries i n) (2 * f) ≡ Some (event.Deliver i f Zero))
    × (slice_get (deliveries i n) (2 * f + 1) ≡ Some (event.Deliver i f One))
delivery_at i zero f l = absurd (omega arith)
delivery_at i (suc n) f l = elim (cases_eq f n) [
  | inl e ↦ rw e (last 0 (2 * n) (omega arith) ∙ refl, last 1 (2 * n + 1) (omega arith) ∙ refl)
  | inr d ↦
      let less : f < n = omega arith in
      let there = delivery_at i n f less in (
        get_left (deliveries i n) _ (2 * f) (omega (arith, many_deliveries i n))
            ∙ there.0,
        get_left (deliveries i n) _ (2 * f + 1) (omega (arith, many_deliveries i n)) ∙ there.1,
      )
]
  where
    two : List Event
    two = event.Deliver i n Zero ∷ event.Deliver i n One ∷ []

    last : (k at : ℕ) → at ≡ 2 * n + k → slice_get (deliveries i n ++ two) at ≡ slice_get two k
    last k at e = let here : at ≡ length (deliveries i n) + k =
        omega (arith, e, many_deliveries i n) in ap (λ j. slice_get (deliveries i n ++ two) j) here
        ∙ get_right (deliveries i n) two k

-- the event at a place of a node's
pub zero_there : (n i f place : ℕ) → place < 2 + 2 * n → place ≢ 0 → place ≢ 1 → f ≡ (place - 2) / 2 → place % 2 ≡ 0 →
    slice_get (node_events n i) place ≡ Some (event.Deliver i f Zero)
zero_there n i f place low no_first no_second is even =
    let at : place ≡ suc (suc (2 * f)) = omega arith in
    let less : f < n = omega arith in
    ap (λ k. slice_get (node_events n i) k) at ∙ (delivery_at i n f less).0

pub one_there : (n i f place : ℕ) → place < 2 + 2 * n → place ≢ 0 → place ≢ 1 → f ≡ (place - 2) / 2 → (place % 2 ≡ 0 → ⊥) →
    slice_get (node_events n i) place ≡ Some (event.Deliver i f One)
one_there n i f place low no_first no_second is odd =
    let at : place ≡ suc (suc (2 * f + 1)) = omega arith in
    let less : f < n = omega arith in
    ap (λ k. slice_get (node_events n i) k) at ∙ (delivery_at i n f less).1

pub past_there : (n i place : ℕ) → 2 + 2 * n ≤ place → slice_get (node_events n i) place ≡ None
past_there n i place high = slice_get_past (node_events n i) place (omega (arith, many_events n i))

pub told_at_get : (n i word k : ℕ) → slice_get (told_at n i word) k
    ≡ option_and_then (slice_get (node_events n i)) (true_at (truths (2 + 2 * n) word) k)
unfolding told_at
told_at_get n i word k = told_get (truths (2 + 2 * n) word) (node_events n i) k

pub told_at_ones : (n i word : ℕ) → word < 2 ^ (2 + 2 * n) → length (told_at n i word) ≡ count_ones word
unfolding told_at
told_at_ones n i word low =
    let many : 2 + 2 * n ≡ length (node_events n i) = sym (many_events n i) in
    ap (λ k. length (told (truths k word) (node_events n i))) many
    ∙ told_ones (node_events n i) word (subst (λ k. word < 2 ^ k) many low)

-- ---- the events of all nodes

pub told_one_more : (n i word : ℕ) (words : List ℕ) → word ≡ slice_index words i → word < 2 ^ (2 + 2 * n) →
    length (told_below n words (suc i)) ≡ length (told_below n words i) + count_ones word
told_one_more n i word words is low =
    length-append (told_below n words i) (told_at n i (slice_index words i))
    ∙ ap (λ w. length (told_below n words i) + length (told_at n i w)) (sym is)
    ∙ ap (λ k. length (told_below n words i) + k) (told_at_ones n i word low)

-- an event of the nodes below j is among those of more nodes, at the same place
pub told_among : (n j m k : ℕ) (words : List ℕ) → j ≤ m → k < length (told_below n words j) →
    slice_get (told_below n words m) k ≡ slice_get (told_below n words j) k
told_among n zero zero k words le l = refl
told_among n (suc j) zero k words le l = absurd (omega arith)
told_among n j (suc m) k words le l = elim (cases_eq j (suc m)) [
  | inl e ↦ rw e refl
  | inr d ↦ get_left (told_below n words m) (told_at n m (slice_index words m)) k (longer m (omega arith))
      ∙ told_among n j m k words (omega arith) l
]
  where
    longer : (i : ℕ) → j ≤ i → k < length (told_below n words i)
    longer zero le2 = let e : j ≡ 0 = omega arith in subst (λ i. k < length (told_below n words i)) e l
    longer (suc i) le2 = elim (cases_eq j (suc i)) [
      | inl e ↦ subst (λ i2. k < length (told_below n words i2)) e l
      | inr d ↦ omega (arith, longer i (omega arith), length-append (told_below n words i) (told_at n i (slice_index words i)))
    ]

pub told_here : (n i m k more word : ℕ) (words : List ℕ) → i < m → word ≡ slice_index words i → word < 2 ^ (2 + 2 * n) →
    k ≡ length (told_below n words i) + more → more < count_ones word →
    slice_get (told_below n words m) k ≡ slice_get (told_at n i word) more
told_here n i m k more word words l is low e few =
    let within : k < length (told_below n words (suc i)) = omega (arith, told_one_more n i word words is low) in
    told_among n (suc i) m k words (omega arith) within
    ∙ ap (λ j. slice_get (told_below n words (suc i)) j) e
    ∙ get_right (told_below n words i) (told_at n i (slice_index words i)) more
    ∙ ap (λ w. slice_get (told_at n i w) more) (sym is)

-- ---- the steps of the loops

pub small_at : (words : List ℕ) (i : ℕ) → i < length words → All (λ w. w < 2 ^ (2 + 2 * length words)) words →
    slice_index words i < 2 ^ (2 + 2 * length words)
small_at words i l h = All-get_or (λ w. w < 2 ^ (2 + 2 * length words)) words i 0 l h

pub told_found : (n i word k place : ℕ) (o : Option Event) → true_at (truths (2 + 2 * n) word) k ≡ Some place →
    o ≡ slice_get (node_events n i) place → o ≡ slice_get (told_at n i word) k
told_found n i word k place o at is = is ∙ sym (told_at_get n i word k
    ∙ ap (λ (p : Option ℕ). option_and_then (slice_get (node_events n i)) p) at)

pub told_none : (n i word k : ℕ) → true_at (truths (2 + 2 * n) word) k ≡ None → None ≡ slice_get (told_at n i word) k
told_none n i word k at = sym (told_at_get n i word k ∙ ap (λ (p : Option ℕ). option_and_then (slice_get (node_events n i)) p) at)

pub picked : (words : List ℕ) (number node from k more : ℕ) (o : Option Event) → number < length words → from ≡ number →
    node ≡ number → All (λ w. w < 2 ^ (2 + 2 * length words)) words → k ≡ length (told_below (length words) words number) + more
    → more < count_ones (slice_index words from) → o ≡ slice_get (told_at (length words) node (slice_index words from)) more →
    o ≡ slice_get (told_events words) k
picked words number node from k more o l same here small is few at =
    let word : slice_index words from ≡ slice_index words number = ap (λ j. slice_index words j) same in
    at
    ∙ ap (λ w. slice_get (told_at (length words) node w) more) word
    ∙ ap (λ j. slice_get (told_at (length words) j (slice_index words number)) more) here
    ∙ sym (told_here (length words) number (length words) k more (slice_index words number) words l refl
    (small_at words number l small) is (subst (λ w. more < count_ones w) word few))

pub passed_node : (words : List ℕ) (number from k more : ℕ) → number < length words → from ≡ number →
    All (λ w. w < 2 ^ (2 + 2 * length words)) words → k ≡ length (told_below (length words) words number) + more
    → count_ones (slice_index words from) ≤ more → k ≡ length
    (told_below (length words) words (number + 1)) + (more - count_ones (slice_index words from))
passed_node words number from k more l same small is many =
    let word : slice_index words from ≡ slice_index words number = ap (λ j. slice_index words j) same in
    let next : number + 1 ≡ suc number = omega arith in
    let one = told_one_more (length words) number (slice_index words number) words refl (small_at words number l small) in
    let ones : count_ones (slice_index words from) ≡ count_ones (slice_index words number) = ap (λ w. count_ones w) word in
    let all : length (told_below (length words) words (number + 1)) ≡ length (told_below (length words) words (suc number)) =
    ap (λ j. length (told_below (length words) words j)) next in
    omega (arith, is, one, ones, many, all)

pub none_picked : (words : List ℕ) (number k more : ℕ) → number ≡ length words →
    k ≡ length (told_below (length words) words number) + more → None ≡ slice_get (told_events words) k
none_picked words number k more end is =
    let all : length (told_below (length words) words number) ≡ length (told_events words) =
    ap (λ j. length (told_below (length words) words j)) end in
    sym (slice_get_past (told_events words) k (omega (arith, is, all)))

-- ---- what is enabled

told_filter : {X : Type 0} (p : X → Bool) (xs : List X) → told (map p xs) xs ≡ filter p xs
told_filter p [] = refl
told_filter p (x ∷ xs) = go (p x) refl (told_filter p xs)
  where
    go : (b : Bool) → p x ≡ b → told (map p xs) xs ≡ filter p xs → told (map p (x ∷ xs)) (x ∷ xs) ≡ filter p (x ∷ xs)
    go true e more = rw e (ap (λ ys. x ∷ ys) more)
    go false e more = rw e more

told_below_enabled : (n m : ℕ) (words : List ℕ) (p : Event → Bool) →
    ((i : ℕ) → i < m → truths (2 + 2 * n) (slice_index words i) ≡ map p (node_events n i)) →
    told_below n words m ≡ filter p (events_below n m)
unfolding told_at
told_below_enabled n zero words p tests = refl
told_below_enabled n (suc m) words p tests =
    ap (λ (es : List Event). es ++ told (truths (2 + 2 * n) (slice_index words m)) (node_events n m))
    (told_below_enabled n m words p (λ i l. tests i (omega (arith, l))))
    ∙ ap (λ (bs : List Bool). filter p (events_below n m) ++ told bs (node_events n m)) (tests m (omega arith))
    ∙ ap (λ (es : List Event). filter p (events_below n m) ++ es) (told_filter p (node_events n m))
    ∙ sym (filter-append p (events_below n m) (node_events n m))

-- Words whose bits are the tests of the nodes' events tell the events that are enabled.
pub told_enabled : (s : Setup) (g : World) (words : List ℕ) → length words ≡ s.shape.nodes →
    ((i : ℕ) → i < s.shape.nodes → truths (2 + 2 * s.shape.nodes) (slice_index words i)
    ≡ map (is_enabled s g) (node_events s.shape.nodes i))
    → told_events words ≡ enabled_events s g
told_enabled s g words size tests =
    ap (λ n. told_below n words n) size ∙ told_below_enabled s.shape.nodes s.shape.nodes words (is_enabled s g) tests
