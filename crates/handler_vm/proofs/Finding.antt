-- The doors of a state among those of the code, and the handler of a door.
use Rattle.std.proofs.Common.{◌≡◌, ◌≢◌, ℕ, zero, suc, ◌+◌, ◌<◌, ◌≤◌, Bool, true, false, List, [], ◌∷◌, ◌++◌, Option, Some, None}
use Rattle.std.proofs.Common.{length, take, drop, get_or, ltb, refl, sym, ap, subst, ◌∙◌, ⊎_elim, arith, append_assoc}
use Rattle.std.proofs.Common.{length-append}
use Rattle.std.specs.Prelude.{◌==◌, ◌&&◌, cond, find, map, position, slice_get, IsSome}
use Rattle.std.specs.List.{flat_map, position_or_len}
use Rattle.std.specs.Option.{option_map, option_or}
use Rattle.std.proofs.lemmas.Bool.{cases_lt}
use Rattle.std.proofs.lemmas.Bool.Decides.{nat_tests}
use Rattle.std.proofs.lemmas.List.{get_or-drop, get_or-take, length-drop, take_at, drop_at, take-map, drop-map, length-map}
use Rattle.std.proofs.lemmas.List.{length-take, take-append-drop}
use Rattle.std.proofs.lemmas.List.Concat.{flat_map-append}
use Rattle.std.proofs.lemmas.List.Folds.{find_at}
use Rattle.std.proofs.lemmas.List.Quantifiers.{position-Some}
use Rattle.std.proofs.lemmas.Option.{cond_some, get_or_from_slice_get, slice_get-get_or, slice_get-map, slice_get_past}
use Rattle.std.proofs.lemmas.Option.{slice_get_within}
use Rattle.tw_base.specs.Lists.{Each}
use Rattle.tw_base.specs.declared.message.Kind.{Kind}
use Rattle.teapot_tree.specs.declared.protocol.Handler.{Handler}
use Rattle.teapot_tree.specs.declared.protocol.Protocol.{Protocol}
use Rattle.teapot_tree.specs.declared.protocol.State.{State}
use Rattle.teapot_tree.specs.Rules.{IsAccepted}
use Rattle.handler_code.specs.declared.code.Code.{Code}
use Rattle.handler_code.specs.declared.code.Door.{Door}
use Rattle.handler_code.specs.declared.code.Kind2.{Kind2}
use Rattle.handler_code.specs.declared.code.Kind2.TheVariants as on
use Rattle.handler_code.specs.Doors.{door_for, door_or, handlers_at, is_for, is_for_all_else, kind_of, locals_at, locals_of}
use Rattle.handler_code.specs.Doors.{same_kind}
use Rattle.handler_vm.specs.Finding.{StateDoors, place_for}
use Rattle.handler_vm.specs.Order.{IsInOrder, Sign, sign_of, signs_from}
use Rattle.handler_vm.specs.Tables.{Leads, StandsAt}
use Rattle.handler_vm.specs.declared.doors.Place.{Place}

-- ---- the signs of one state among those of all

abbrev sign_in : Protocol → ℕ → Handler → Sign
sign_in p number h = record { state = number; on = kind_of p h.on }

abbrev signs_of : Protocol → ℕ → List Handler → List Sign
signs_of p number hs = map (sign_in p number) hs

cut : (p : Protocol) (n k m : ℕ) (ss : List State) (s : State) → m ≡ n + k → slice_get ss k ≡ Some s
    → signs_from p n ss ≡ signs_from p n (take k ss) ++ (signs_of p m s.handlers ++ signs_from p (m + 1) (drop (suc k) ss))
cut p n k m [] s number e = absurd (cc)
cut p n zero m (t ∷ ss) s number e =
    let same : t ≡ s = cc in
    let here : n ≡ m = omega arith in
    ap (λ (x : State). signs_of p n x.handlers ++ signs_from p (n + 1) ss) same
    ∙ ap (λ i. signs_of p i s.handlers ++ signs_from p (i + 1) ss) here
cut p n (suc k) m (t ∷ ss) s number e =
    ap (λ signs. signs_of p n t.handlers ++ signs) (cut p (n + 1) k m ss s (omega (arith, number)) e)
    ∙ sym (append_assoc (signs_of p n t.handlers) (signs_from p (n + 1) (take k ss))
    (signs_of p m s.handlers ++ signs_from p (m + 1) (drop (suc k) ss)))

abbrev handlers_of : List State → List Handler
handlers_of ss = flat_map (λ (s : State). s.handlers) ss

length-signs : (p : Protocol) (n : ℕ) (ss : List State) → length (signs_from p n ss) ≡ length (handlers_of ss)
length-signs p n [] = refl
length-signs p n (s ∷ ss) =
    omega (
      arith,
      length-append (signs_of p n s.handlers) (signs_from p (n + 1) ss),
      length-append s.handlers (handlers_of ss),
      length-signs p (n + 1) ss,
      length-map s.handlers (sign_in p n),
    )

-- ---- signs of other states

abbrev IsOff : ℕ → Sign → Type 0
IsOff state s = s.state ≢ state

each_both : (P : Sign → Type 0) (xs ys : List Sign) → Each P xs → Each P ys → Each P (xs ++ ys)
each_both P [] ys a b = b
each_both P (x ∷ xs) ys a b = (a.0, each_both P xs ys a.1 b)

all_off : (p : Protocol) (n state : ℕ) (hs : List Handler) → n ≢ state → Each (IsOff state) (signs_of p n hs)
all_off p n state [] off = tt
all_off p n state (h ∷ hs) off = (off, all_off p n state hs off)

off_before : (p : Protocol) (n state : ℕ) (ss : List State) → n + length ss ≤ state → Each (IsOff state) (signs_from p n ss)
off_before p n state [] low = tt
off_before p n state (s ∷ ss) low =
    let off : n ≢ state = omega (arith, low) in
    each_both (IsOff state) (signs_of p n s.handlers) (signs_from p (n + 1) ss) (all_off p n state s.handlers off)
    (off_before p (n + 1) state ss (omega (arith, low)))

off_after : (p : Protocol) (n state : ℕ) (ss : List State) → state < n → Each (IsOff state) (signs_from p n ss)
off_after p n state [] high = tt
off_after p n state (s ∷ ss) high =
    let off : n ≢ state = omega (arith, high) in
    each_both (IsOff state) (signs_of p n s.handlers) (signs_from p (n + 1) ss) (all_off p n state s.handlers off)
    (off_after p (n + 1) state ss (omega (arith, high)))

-- ---- what a search over doors finds

apart : (a b : ℕ) → a ≢ b → (a == b) ≡ false
apart a b h = grind (arith, nat_tests)

alike : (a b : ℕ) → a ≡ b → (a == b) ≡ true
alike a b h = grind (arith, nat_tests)

abbrev opens : ℕ → (Kind2 → Bool) → Door → Bool
opens state test d = (d.state == state) && test d.on

none_off : (test : Kind2 → Bool) (state : ℕ) (ds : List Door) → Each (IsOff state) (map sign_of ds) →
    find (opens state test) ds ≡ None
none_off test state [] off = refl
none_off test state (d ∷ ds) off =
    ap (λ b. cond (b && test d.on) (Some d) (find (opens state test) ds)) (apart d.state state off.0)
    ∙ none_off test state ds off.1

own_found : (test : Kind2 → Bool) (state : ℕ) (ds : List Door) → Each (λ (s : Sign). s.state ≡ state) (map sign_of ds) →
    find (opens state test) ds ≡ find (λ d. test d.on) ds
own_found test state [] own = refl
own_found test state (d ∷ ds) own =
    ap (λ b. cond (b && test d.on) (Some d) (find (opens state test) ds)) (alike d.state state own.0)
    ∙ ap (λ o. cond (test d.on) (Some d) o) (own_found test state ds own.1)

passes : (b : Bool) (d : Door) (o : Option Door) → cond b (Some d) o ≡ None → (b ≡ false) × (o ≡ None)
passes true d o e = absurd (cc)
passes false d o e = (refl, e)

past_none : (t : Door → Bool) (xs ys : List Door) → find t xs ≡ None → find t (xs ++ ys) ≡ find t ys
past_none t [] ys e = refl
past_none t (x ∷ xs) ys e =
    let both = passes (t x) x (find t xs) e in
    ap (λ b. cond b (Some x) (find t (xs ++ ys))) both.0 ∙ past_none t xs ys both.1

kept_found : (t : Door → Bool) (xs ys : List Door) → find t ys ≡ None → find t (xs ++ ys) ≡ find t xs
kept_found t [] ys e = e
kept_found t (x ∷ xs) ys e = ap (λ o. cond (t x) (Some x) o) (kept_found t xs ys e)

-- ---- the doors of one state

own_signs : (p : Protocol) (state : ℕ) (hs : List Handler) → Each (λ (s : Sign). s.state ≡ state) (signs_of p state hs)
own_signs p state [] = tt
own_signs p state (h ∷ hs) = (refl, own_signs p state hs)

module _ (p : Protocol) (code : Code) (order : IsInOrder p code) (state : ℕ) (s : State)
    (is : slice_get p.states state ≡ Some s) where
  abbrev before : List Sign
  before = signs_from p 0 (take state p.states)

  abbrev after : List Sign
  after = signs_from p (state + 1) (drop (suc state) p.states)

  abbrev here : List Sign
  here = signs_of p state s.handlers

  parts : map sign_of code.doors ≡ before ++ (here ++ after)
  parts = order ∙ cut p 0 state state p.states s (omega arith) is

  -- the state's doors end where the code's do, or before
  pub doors_within : (first : ℕ) → first ≡ length (flat_map (λ (x : State). x.handlers) (take state p.states)) →
      first + length s.handlers ≤ length code.doors
  doors_within first begins =
      omega (
        arith,
        begins,
        ap length parts,
        length-map code.doors sign_of,
        length-append before (here ++ after),
        length-append here after,
        length-map s.handlers (sign_in p state),
        length-signs p 0 (take state p.states),
      )

  pub own_doors : (first count : ℕ) → first ≡ length (flat_map (λ (x : State). x.handlers) (take state p.states)) →
      count ≡ length s.handlers
      → StateDoors p code state s.handlers (take count (drop first code.doors))
  own_doors first count begins many =
      let ds = code.doors in
      let a = take first ds in
      let b = take count (drop first ds) in
      let c = drop count (drop first ds) in
      let long : length before ≡ first = length-signs p 0 (take state p.states) ∙ sym begins in
      let wide : length here ≡ count = length-map s.handlers (sign_in p state) ∙ sym many in
      let in_a : map sign_of a ≡ before = sym (take-map sign_of first ds) ∙ ap (take first) parts
      ∙ take_at before (here ++ after) first long in
      let rest : map sign_of (drop first ds) ≡ here ++ after = sym (drop-map sign_of first ds) ∙ ap (drop first) parts
      ∙ drop_at before (here ++ after) first long in
      let in_b : map sign_of b ≡ here = sym (take-map sign_of count (drop first ds)) ∙ ap (take count) rest
      ∙ take_at here after count wide in
      let in_c : map sign_of c ≡ after = sym (drop-map sign_of count (drop first ds)) ∙ ap (drop count) rest
      ∙ drop_at here after count wide in
      let whole : ds ≡ a ++ (b ++ c) = sym (take-append-drop first ds)
      ∙ ap (λ xs. a ++ xs) (sym (take-append-drop count (drop first ds))) in
      let few : 0 + length (take state p.states) ≤ state = omega (arith, length-take state p.states) in
      let off_a : Each (IsOff state) (map sign_of a) = subst (Each (IsOff state)) (sym in_a)
      (off_before p 0 state (take state p.states) few) in
      let off_c : Each (IsOff state) (map sign_of c) = subst (Each (IsOff state)) (sym in_c)
      (off_after p (state + 1) state (drop (suc state) p.states) (omega arith)) in
      let own : Each (λ (x : Sign). x.state ≡ state) (map sign_of b) =
      subst (Each (λ (x : Sign). x.state ≡ state)) (sym in_b) (own_signs p state s.handlers) in
      record {
        signs = in_b;
        found = λ test.
            ap (find (opens state test)) whole ∙ past_none (opens state test) a (b ++ c) (none_off test state a off_a)
            ∙ kept_found (opens state test) b c (none_off test state c off_c) ∙ own_found test state b own;
      }

-- a state that a door is for is declared
pub state_there : (p : Protocol) (code : Code) (state : ℕ) (kind : Kind) → IsInOrder p code →
    IsSome (door_for code state kind) → state < length p.states
state_there p code state kind order some =
    ⊎_elim (λ low. low) (λ high.
    let off : Each (IsOff state) (map sign_of code.doors) = subst (Each (IsOff state)) (sym order)
    (off_before p 0 state p.states (omega (arith, high))) in
    let none : door_for code state kind ≡ None =
    ap (λ o. door_or o (find (opens state is_for_all_else) code.doors)) (none_off (is_for kind) state code.doors off)
    ∙ none_off is_for_all_else state code.doors off in
    let no : false ≡ true = subst (λ (o : Option Door). IsSome o) none some in
    absurd (cc)) (cases_lt state (length p.states))

few_before : (ss : List State) (n : ℕ) → length (handlers_of (take n ss)) ≤ length (handlers_of ss)
few_before ss n =
    omega (
      arith,
      ap (λ xs. length (handlers_of xs)) (take-append-drop n ss),
      ap length (flat_map-append (λ (s : State). s.handlers) (take n ss) (drop n ss)),
      length-append (handlers_of (take n ss)) (handlers_of (drop n ss)),
    )

pub few_handlers : (p : Protocol) (n : ℕ) (ss : List State) → IsAccepted p → ss ≡ p.states →
    length (flat_map (λ (s : State). s.handlers) (take n ss)) ≤ 1024
few_handlers p n ss a is = omega (arith, few_before ss n, ap (λ xs. length (handlers_of xs)) is, a.tree.few_handlers)

item_of : {X : Type 0} (xs : List X) (k : ℕ) → k < length xs → (x : X) × (slice_get xs k ≡ Some x)
item_of [] k low = absurd (omega (arith, low))
item_of (x ∷ xs) zero low = (x, refl)
item_of (x ∷ xs) (suc k) low = item_of xs k (omega (arith, low))

-- a protocol's code has few doors
pub doors_few : (p : Protocol) (code : Code) → IsAccepted p → IsInOrder p code → length code.doors ≤ 1024
doors_few p code a order =
    omega (arith, sym (length-map code.doors sign_of), ap length order, length-signs p 0 p.states, a.tree.few_handlers)

module _ (p : Protocol) (code : Code) (state first : ℕ) (order : IsInOrder p code) (low : state < length p.states)
    (begins : first ≡ length (flat_map (λ (s : State). s.handlers) (take state p.states))) where
  pub doors_there : first + length (handlers_at (slice_get p.states state)) ≤ length code.doors
  doors_there =
      let s = item_of p.states state low in
      omega (arith, doors_within p code order state s.0 s.1 first begins, ap (λ (o : Option State). length (handlers_at o)) s.1)

  pub state_doors : (count : ℕ) → count ≡ length (handlers_at (slice_get p.states state)) →
      StateDoors p code state (handlers_at (slice_get p.states state)) (take count (drop first code.doors))
  state_doors count many =
      let s = item_of p.states state low in
      subst (λ (o : Option State). StateDoors p code state (handlers_at o) (take count (drop first code.doors))) (sym s.1)
      (own_doors p code order state s.0 s.1 first count begins (many ∙ ap (λ (o : Option State). length (handlers_at o)) s.1))

-- ---- by place

at_place : (t : Door → Bool) (xs : List Door) (k : ℕ) (d : Door) → position t xs ≡ Some k → find t xs ≡ Some (get_or xs k d)
at_place t xs k d e =
    let both = cond_some (ltb (position_or_len t xs) (length xs)) (position_or_len t xs) k e in
    find_at t xs ∙ ap (slice_get xs) both.1 ∙ slice_get-get_or xs k d (position-Some t xs k d e).0

beyond : (k n : ℕ) → cond (ltb k n) (Some k) None ≡ None → n ≤ k
beyond k n e = ⊎_elim (λ low. let yes : ltb k n ≡ true = grind (arith, nat_tests) in absurd (cc)) (λ high. high) (cases_lt k n)

no_place : (t : Door → Bool) (xs : List Door) → position t xs ≡ None → find t xs ≡ None
no_place t xs e = find_at t xs ∙ slice_get_past xs (position_or_len t xs) (beyond (position_or_len t xs) (length xs) e)

-- ---- the handler of a door

kinds_apart : (test : Kind2 → Bool) (a b : Kind2) → test a ≡ false → test b ≡ true → same_kind a b ≡ false
kinds_apart test on.RdFault on.RdFault f t = absurd (cc)
kinds_apart test on.WrFault on.WrFault f t = absurd (cc)
kinds_apart test on.Default on.Default f t = absurd (cc)
kinds_apart test (on.Named m) (on.Named n) f t = apart m n (λ e. let h : test (on.Named m)
    ≡ test (on.Named n) = ap (λ k. test (on.Named k)) e in cc)
kinds_apart test _ _ f t = refl

same_self : (a : Kind2) → same_kind a a ≡ true
same_self on.RdFault = refl
same_self on.WrFault = refl
same_self on.Default = refl
same_self (on.Named m) = alike m m refl

first_found : (t : Handler → Bool) (hs : List Handler) (k : ℕ) (h : Handler) → slice_get hs k ≡ Some h → t h ≡ true
    → ((j : ℕ) (x : Handler) → j < k → slice_get hs j ≡ Some x → t x ≡ false) → find t hs ≡ Some h
first_found t [] k h e here less = absurd (cc)
first_found t (x ∷ hs) zero h e here less =
    let same : x ≡ h = cc in
    ap (λ b. cond b (Some x) (find t hs)) (ap t same ∙ here) ∙ e
first_found t (x ∷ hs) (suc k) h e here less =
    ap (λ b. cond b (Some x) (find t hs)) (less 0 x (omega arith) refl)
    ∙ first_found t hs k h e here (λ j y low f. less (suc j) y (omega (arith, low)) f)

module _ (p : Protocol) (state : ℕ) (hs : List Handler) (own : List Door) (signs : map sign_of own ≡ signs_of p state hs) where
  signed : (j : ℕ) (d : Door) (h : Handler) → slice_get own j ≡ Some d → slice_get hs j ≡ Some h → sign_of d ≡ sign_in p state h
  signed j d h a b =
      let both : Some (sign_of d) ≡ Some (sign_in p state h) =
      sym (ap (option_map sign_of) a) ∙ sym (slice_get-map sign_of own j) ∙ ap (λ xs. slice_get xs j) signs
      ∙ slice_get-map (sign_in p state) hs j ∙ ap (option_map (sign_in p state)) b in
      cc

  pub as_many : length own ≡ length hs
  as_many = sym (length-map own sign_of) ∙ ap length signs ∙ length-map hs (sign_in p state)

  -- the handler at the place of the first door that passes a test is the one that the door leads to
  leads : (test : Kind2 → Bool) (k : ℕ) (d : Door) (h : Handler) → position (λ (x : Door). test x.on) own ≡ Some k →
      d ≡ get_or own k d → slice_get hs k ≡ Some h
      → find (λ x. same_kind (kind_of p x.on) d.on) hs ≡ Some h
  leads test k d h e is there =
      let facts = position-Some (λ (x : Door). test x.on) own k d e in
      let passes_it : test d.on ≡ true = ap (λ (x : Door). test x.on) is ∙ facts.1 in
      let it : slice_get own k ≡ Some d = slice_get-get_or own k d facts.0 ∙ ap Some (sym is) in
      let same : d.on ≡ kind_of p h.on = ap (λ s. s.on) (signed k d h it there) in
      first_found (λ x. same_kind (kind_of p x.on) d.on) hs k h there (ap (λ x. same_kind x d.on) (sym same) ∙ same_self d.on)
      (λ j x low at.
      let one : slice_get own j ≡ Some (get_or own j d) = slice_get-get_or own j d (omega (arith, low, facts.0)) in
      let kind : (get_or own j d).on ≡ kind_of p x.on = ap (λ s. s.on) (signed j (get_or own j d) x one at) in
      kinds_apart test (kind_of p x.on) d.on (ap test (sym kind) ∙ facts.2 j low) passes_it)

no_door : Door
no_door = record { state = 0; on = on.Default; at = 0; slots = 0 }

within : (kind : Kind) (own : List Door) (own_place default_place : Option ℕ) →
    position (λ d. is_for kind d.on) own ≡ own_place → position (λ d. is_for_all_else d.on) own ≡ default_place
    → (k : ℕ) → option_or own_place default_place ≡ Some k → k < length own
within kind own (Some j) other a b k e = (position-Some (λ (x : Door). is_for kind x.on) own k no_door (a ∙ e)).0
within kind own None other a b k e = (position-Some (λ (x : Door). is_for_all_else x.on) own k no_door (b ∙ e)).0

pub place_within : (kind : Kind) (own : List Door) (k : ℕ) → place_for kind own ≡ Some k → k < length own
place_within kind own k e = within kind own _ _ refl refl k e

module _ (p : Protocol) (code : Code) (state : ℕ) (own : List Door)
    (doors : StateDoors p code state (handlers_at (slice_get p.states state)) own) (kind : Kind) where
  abbrev handlers : List Handler
  handlers = handlers_at (slice_get p.states state)

  found_for : door_for code state kind ≡ door_or (find (λ d. is_for kind d.on) own) (find (λ d. is_for_all_else d.on) own)
  found_for =
      ap (λ o. door_or o (find (opens state is_for_all_else) code.doors)) (doors.found (is_for kind))
      ∙ ap (door_or (find (λ d. is_for kind d.on) own)) (doors.found is_for_all_else)

  locals_are : (d : Door) (h : Handler) (k : ℕ) → d ≡ get_or own k d → k < length own → slice_get handlers k ≡ Some h
      → find (λ x. same_kind (kind_of p x.on) d.on) handlers ≡ Some h → h.locals ≡ locals_of p d
  locals_are d h k is_d low there e =
      let it : slice_get own k ≡ Some d = slice_get-get_or own k d low ∙ ap Some (sym is_d) in
      let number : d.state ≡ state = ap (λ x. x.state) (signed p state handlers own doors.signs k d h it there) in
      sym (ap (λ (hs : List Handler). locals_at (find (λ x. same_kind (kind_of p x.on) d.on) hs))
      (ap (λ n. handlers_at (slice_get p.states n)) number) ∙ ap locals_at e)

  by_place : (own_place default_place : Option ℕ) → position (λ d. is_for kind d.on) own ≡ own_place →
      position (λ d. is_for_all_else d.on) own ≡ default_place
      → (k : ℕ) → option_or own_place default_place ≡ Some k → (d : Door) (h : Handler) → d ≡ get_or own k d →
      slice_get handlers k ≡ Some h → Leads p code state kind d h
  by_place (Some j) other a b k e d h is_d there =
      let same : j ≡ k = cc in
      let place : position (λ (x : Door). is_for kind x.on) own ≡ Some k = a ∙ e in
      let low : k < length own = (position-Some (λ (x : Door). is_for kind x.on) own k d place).0 in
      record {
        door = found_for ∙ ap (λ o. door_or o (find (λ x. is_for_all_else x.on) own))
            (at_place (λ x. is_for kind x.on) own k d place ∙ ap Some (sym is_d));
        locals = locals_are d h k is_d low there (leads p state handlers own doors.signs (is_for kind) k d h place is_d there);
      }
  by_place None other a b k e d h is_d there =
      let place : position (λ (x : Door). is_for_all_else x.on) own ≡ Some k = b ∙ e in
      let low : k < length own = (position-Some (λ (x : Door). is_for_all_else x.on) own k d place).0 in
      record {
        door = found_for ∙ ap (λ o. door_or o (find (λ x. is_for_all_else x.on) own)) (no_place (λ x. is_for kind x.on) own a)
            ∙ at_place (λ x. is_for_all_else x.on) own k d place ∙ ap Some (sym is_d);
        locals = locals_are d h k is_d low there (leads p state handlers own doors.signs is_for_all_else k d h place is_d there);
      }

  nowhere : (own_place default_place : Option ℕ) → position (λ d. is_for kind d.on) own ≡ own_place →
      position (λ d. is_for_all_else d.on) own ≡ default_place
      → option_or own_place default_place ≡ None → door_for code state kind ≡ None
  nowhere (Some j) other a b e = absurd (cc)
  nowhere None other a b e =
      found_for ∙ ap (λ o. door_or o (find (λ x. is_for_all_else x.on) own)) (no_place (λ x. is_for kind x.on) own a)
      ∙ no_place (λ x. is_for_all_else x.on) own (b ∙ e)

  pub no_door_for : place_for kind own ≡ None → door_for code state kind ≡ None
  no_door_for e = nowhere _ _ refl refl e

inside : (ds : List Door) (first count k : ℕ) (d : Door) → slice_get (take count (drop first ds)) k ≡ Some d →
    slice_get ds (first + k) ≡ Some d
inside ds first count k d e =
    let low = slice_get_within (take count (drop first ds)) k d e in
    let few : k < count = omega (arith, low, length-take count (drop first ds)) in
    let there : first + k < length ds = omega (arith, low, length-take count (drop first ds), length-drop first ds) in
    slice_get-get_or ds (first + k) d there
    ∙ ap Some (sym (get_or-drop first ds k d) ∙ sym (get_or-take count (drop first ds) k d few)
    ∙ get_or_from_slice_get (take count (drop first ds)) k d d e)

-- the place that is found among a state's doors is the door's, behind those of the states before
pub stands_at :
    (p : Protocol) (code : Code) (state first count : ℕ) (kind : Kind) (place : Place) (k : ℕ)
    → StateDoors p code state (handlers_at (slice_get p.states state)) (take count (drop first code.doors))
    → place_for kind (take count (drop first code.doors)) ≡ Some k → place.door ≡ first + k → place.handler ≡ k →
    StandsAt p code state kind place
stands_at p code state first count kind place k doors e at same =
    let own = take count (drop first code.doors) in
    let handlers = handlers_at (slice_get p.states state) in
    let low : k < length own = place_within kind own k e in
    let d = item_of own k low in
    let h = item_of handlers k (omega (arith, low, as_many p state handlers own doors.signs)) in
    record {
      door = d.0;
      is_door = ap (slice_get code.doors) at ∙ inside code.doors first count k d.0 d.1;
      handler = h.0;
      is_handler = ap (slice_get handlers) same ∙ h.1;
      leads = by_place p code state own doors kind _ _ refl refl k e d.0 h.0 (sym (get_or_from_slice_get own k d.0 d.0 d.1)) h.1;
    }

module _ (p : Protocol) (code : Code) (state first count : ℕ) (order : IsInOrder p code) (low : state < length p.states)
    (begins : first ≡ length (flat_map (λ (s : State). s.handlers) (take state p.states)))
    (many : count ≡ length (handlers_at (slice_get p.states state))) (own doors : List Door) (all : doors ≡ code.doors)
    (is : own ≡ take count (drop first doors)) (kind : Kind) where
  own_is : own ≡ take count (drop first code.doors)
  own_is = is ∙ ap (λ (ds : List Door). take count (drop first ds)) all

  pub place_few : (k : ℕ) → IsAccepted p → place_for kind own ≡ Some k → first + k < 1024
  place_few k a e =
      omega (
        arith,
        doors_few p code a order,
        doors_there p code state first order low begins,
        place_within kind own k e,
        ap length own_is,
        length-take count (drop first code.doors),
        many,
      )

  pub found_place : (place : Place) (k : ℕ) → place_for kind own ≡ Some k → place.door ≡ first + k → place.handler ≡ k →
      StandsAt p code state kind place
  found_place place k e at same =
      stands_at p code state first count kind place k (state_doors p code state first order low begins count many)
      (ap (place_for kind) (sym own_is) ∙ e) at same

  pub found_none : place_for kind own ≡ None → door_for code state kind ≡ None
  found_none e =
      no_door_for p code state (take count (drop first code.doors))
      (state_doors p code state first order low begins count many) kind (ap (place_for kind) (sym own_is) ∙ e)
