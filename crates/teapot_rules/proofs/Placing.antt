-- The place of the first of a name.
use Rattle.std.proofs.Common.{◌≡◌, ℕ, suc, ◌+◌, ◌<◌, Bool, true, false, cond, not, nat_lt, List, [], ◌∷◌, ◌++◌, length, get_or}
use Rattle.std.proofs.Common.{take, Option, Some, None, is_some, refl, ap, sym, ◌∙◌, subst, arith, slice_get}
use Prim.Native.Nat.compare
use Rattle.std.specs.Prelude.{◌||◌, position}
use Rattle.std.specs.List.{position_or_len}
use Rattle.std.specs.Option.{option_map, option_or, option_and_then}
use Rattle.std.specs.Str.{bytes_eq}
use Rattle.std.proofs.lemmas.Bool.Decides.{nat_tests}
use Rattle.std.proofs.lemmas.List.{take_more, length-take}
use Rattle.std.proofs.lemmas.Slice.Eq.{bytes_eq-Decides}
use Rattle.tw_base.specs.declared.name.Name.{Name}
use Rattle.teapot_tree.specs.declared.protocol.ValType.{ValType}
use Rattle.teapot_tree.specs.Scopes.{typed, type_among}
use Rattle.teapot_rules.specs.Names.{among_names}
use Rattle.teapot_rules.proofs.Seeing.{type-cond}

abbrev pub place_of : List Name → Name → Option ℕ
place_of ns q = position (λ m. bytes_eq m q) ns

-- ---- the first place that passes a test, an item at a time

one_later : (k : ℕ) → 1 + k ≡ suc k
one_later k = omega arith

less_later : (k n : ℕ) → nat_lt (suc k) (suc n) ≡ nat_lt k n
less_later k n = rw compare.suc-suc refl

first_less : (n : ℕ) → nat_lt 0 (suc n) ≡ true
first_less n = grind (arith, nat_tests)

later : (b : Bool) (k : ℕ) → cond b (Some (suc k)) None ≡ option_map suc (cond b (Some k) None)
later true k = refl
later false k = refl

at_first : (b : Bool) (k n : ℕ) → cond (nat_lt (cond (not b) (1 + k) 0) (suc n)) (Some (cond (not b) (1 + k) 0)) None
    ≡ cond b (Some 0) (option_map suc (cond (nat_lt k n) (Some k) None))
at_first true k n = rw first_less refl
at_first false k n = rw (one_later, less_later) (later (nat_lt k n) k)

pub position-cons : (p : Name → Bool) (x : Name) (xs : List Name) →
    position p (x ∷ xs) ≡ cond (p x) (Some 0) (option_map suc (position p xs))
position-cons p x xs = at_first (p x) (position_or_len p xs) (length xs)

one_more : (a : Bool) (o : Option ℕ) (b : Bool) (n : ℕ) → cond a (Some 0) (option_map suc (option_or o (cond b (Some n) None)))
    ≡ option_or (cond a (Some 0) (option_map suc o)) (cond b (Some (suc n)) None)
one_more true o b n = refl
one_more false (Some k) b n = refl
one_more false None true n = refl
one_more false None false n = refl

pub position-push : (p : Name → Bool) (xs : List Name) (y : Name) →
    position p (xs ++ y ∷ []) ≡ option_or (position p xs) (cond (p y) (Some (length xs)) None)
position-push p [] y = position-cons p y []
position-push p (x ∷ xs) y =
    position-cons p x (xs ++ y ∷ [])
    ∙ ap (λ (o : Option ℕ). cond (p x) (Some 0) (option_map suc o)) (position-push p xs y)
    ∙ one_more (p x) (position p xs) (p y) (length xs)
    ∙ ap (λ (o : Option ℕ). option_or o (cond (p y) (Some (suc (length xs))) None)) (sym (position-cons p x xs))

-- ---- a table of places, a name at a time

-- a name that has a place keeps it
kept : (b : Bool) (at : ℕ) (old : Option ℕ) → (b ≡ true → is_some old ≡ true) → old ≡ option_or old (cond b (Some at) None)
kept b at (Some k) h = refl
kept false at None h = refl
kept true at None h = let e : false ≡ true = h refl in cc

pub known : (places : List ℕ → Option ℕ) (x q : List ℕ) (at : ℕ) → is_some (places x) ≡ true →
    places q ≡ option_or (places q) (cond (bytes_eq x q) (Some at) None)
known places x q at stands = kept (bytes_eq x q) at (places q)
    (λ e. subst (λ z. is_some (places z) ≡ true) ((bytes_eq-Decides x q).0 e) stands)

put : (b : Bool) (at : ℕ) (old : Option ℕ) → (b ≡ true → is_some old ≡ false) →
    cond b (Some at) old ≡ option_or old (cond b (Some at) None)
put false at None h = refl
put false at (Some k) h = refl
put true at None h = refl
put true at (Some k) h = let e : true ≡ false = h refl in cc

pub unknown : (places : List ℕ → Option ℕ) (x q : List ℕ) (at : ℕ) → is_some (places x) ≡ false →
    cond (bytes_eq x q) (Some at) (places q) ≡ option_or (places q) (cond (bytes_eq x q) (Some at) None)
unknown places x q at stands = put (bytes_eq x q) at (places q)
    (λ e. subst (λ z. is_some (places z) ≡ false) ((bytes_eq-Decides x q).0 e) stands)

pub placed_more : (ns : List Name) (i : ℕ) (x q : Name) (before after : Option ℕ) → i < length ns → x ≡ get_or ns i x
    → before ≡ place_of (take i ns) q → after ≡ option_or before (cond (bytes_eq x q) (Some i) None) →
    after ≡ place_of (take (i + 1) ns) q
placed_more ns i x q before after lt is so_far step =
    let long : length (take i ns) ≡ i = omega (arith, length-take i ns) in
    let more : take (i + 1) ns ≡ take i ns ++ x ∷ [] = take_more ns i x lt ∙ ap (λ z. take i ns ++ z ∷ []) (sym is) in
    step
    ∙ ap (λ o. option_or o (cond (bytes_eq x q) (Some i) None)) so_far
    ∙ ap (λ n. option_or (place_of (take i ns) q) (cond (bytes_eq x q) (Some n) None)) (sym long)
    ∙ sym (position-push (λ m. bytes_eq m q) (take i ns) x)
    ∙ ap (λ z. place_of z q) (sym more)

-- ---- arguments by their places

some-first : (b : Bool) (o : Option ℕ) → is_some (cond b (Some 0) (option_map suc o)) ≡ (b || is_some o)
some-first true o = refl
some-first false None = refl
some-first false (Some k) = refl

pub among_placed : (ns : List Name) (n : Name) → is_some (position (λ m. bytes_eq m n) ns) ≡ among_names ns n
among_placed [] n = refl
among_placed (m ∷ ns) n = ap is_some (position-cons (λ m. bytes_eq m n) m ns) ∙ some-first (bytes_eq m n) (place_of ns n)
    ∙ ap (λ z. bytes_eq m n || z) (among_placed ns n)

none_at : (o : Option ℕ) → None ≡ option_and_then (slice_get {X = ValType} []) o
none_at None = refl
none_at (Some k) = refl

type_at : (b : Bool) (t : ValType) (ts : List ValType) (o : Option ℕ) →
    cond b (Some t) (option_and_then (slice_get ts) o) ≡ option_and_then (slice_get (t ∷ ts))
    (cond b (Some 0) (option_map suc o))
type_at true t ts o = refl
type_at false t ts None = refl
type_at false t ts (Some k) = refl

none_either : (b : Bool) (o : Option ValType) → o ≡ None → cond b None o ≡ None
none_either true o e = refl
none_either false o e = e

untyped : (ns : List Name) (n : Name) → type_among (typed ns []) n ≡ None
untyped [] n = refl
untyped (m ∷ ns) n = type-cond (bytes_eq m n) (record { name = m; ty = None }) _
    ∙ none_either (bytes_eq m n) (type_among (typed ns []) n) (untyped ns n)

pub typed_placed : (ns : List Name) (ts : List ValType) (n : Name) →
    type_among (typed ns ts) n ≡ option_and_then (slice_get ts) (position (λ m. bytes_eq m n) ns)
typed_placed ns [] n = untyped ns n ∙ none_at (place_of ns n)
typed_placed [] (t ∷ ts) n = refl
typed_placed (m ∷ ns) (t ∷ ts) n =
    type-cond (bytes_eq m n) (record { name = m; ty = Some t }) _
    ∙ ap (λ (o : Option ValType). cond (bytes_eq m n) (Some t) o) (typed_placed ns ts n)
    ∙ type_at (bytes_eq m n) t ts (place_of ns n)
    ∙ ap (option_and_then (slice_get (t ∷ ts))) (sym (position-cons (λ m. bytes_eq m n) m ns))
