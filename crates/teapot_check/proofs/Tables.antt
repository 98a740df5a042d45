-- The table of a handler's variables, and its parts.
use Rattle.std.proofs.Common.{◌≡◌, ◌≢◌, ℕ, zero, suc, ◌+◌, ◌-◌, ◌<◌, ◌≤◌, Bool, true, false, cond, List, [], ◌∷◌, ◌++◌, map}
use Rattle.std.proofs.Common.{take, drop, length}
use Rattle.std.proofs.Common.{get_or, slice_get, Option, Some, None, is_some, refl, ap, sym, ◌∙◌, arith, append_assoc}
use Rattle.std.proofs.Common.{length-append, length-drop}
use Rattle.std.specs.Prelude.{◌||◌}
use Rattle.std.specs.Option.{option_and_then}
use Rattle.std.specs.Str.{bytes_eq}
use Rattle.std.specs.Bool.{Decides}
use Rattle.std.proofs.lemmas.Slice.Eq.{bytes_eq-Decides}
use Rattle.std.proofs.lemmas.List.{map-append, take_more, drop_more}
use Rattle.tw_base.specs.declared.name.Name.{Name}
use Rattle.teapot_tree.specs.declared.protocol.Param.{Param}
use Rattle.teapot_tree.specs.declared.protocol.ValType.{ValType}
use Rattle.teapot_tree.specs.Scopes.{Scope, Variable, args_of, assignable, infos_in, is_among, locals_in, of_param}
use Rattle.teapot_tree.specs.Scopes.{taken_message, type_among, typed, variable, visible}
use Rattle.teapot_rules.proofs.Seeing.{type_first, type_past}
use Rattle.teapot_check.specs.declared.noted.Noted.{Noted}
use Rattle.teapot_check.specs.Marks.{mark_of}
use Rattle.teapot_check.specs.Passing.{recurs}
use Rattle.teapot_check.specs.Variables.{variable_of, variables_of}

-- ---- arguments, an argument at a time

abbrev pub entry : Name → Option ValType → Variable
entry n ty = record { name = n; ty = ty }

at-none : (ts : List ValType) (k : ℕ) → ts ≡ [] → slice_get ts k ≡ None
at-none [] zero e = refl
at-none [] (suc k) e = refl
at-none (t ∷ ts) k e = absurd (cc)

typed-last : (ns : List Name) (n : Name) (ts : List ValType)
    → typed (ns ++ n ∷ []) ts ≡ typed ns ts ++ record { name = n; ty = slice_get ts (length ns) } ∷ []
typed-last [] n [] = refl
typed-last [] n (t ∷ ts) = refl
typed-last (m ∷ ns) n [] =
    ap (λ z. record { name = m; ty = None } ∷ z) (typed-last ns n []
    ∙ ap (λ z. typed ns [] ++ record { name = n; ty = z } ∷ []) (at-none [] (length ns) refl))
typed-last (m ∷ ns) n (t ∷ ts) = ap (λ z. record { name = m; ty = Some t } ∷ z) (typed-last ns n ts)

take-length : {X : Type 0} (i : ℕ) (xs : List X) → i ≤ length xs → length (take i xs) ≡ i
take-length zero xs le = refl
take-length (suc i) [] le = absurd (omega arith)
take-length (suc i) (x ∷ xs) le = ap suc (take-length i xs (omega arith))

pub typed_more : (ns : List Name) (i : ℕ) (n : Name) (ts : List ValType) → i < length ns → n ≡ get_or ns i n
    → typed (take (i + 1) ns) ts ≡ typed (take i ns) ts ++ record { name = n; ty = slice_get ts i } ∷ []
typed_more ns i n ts lt is =
    ap (λ z. typed z ts) (take_more ns i n lt ∙ ap (λ z. take i ns ++ z ∷ []) (sym is))
    ∙ typed-last (take i ns) n ts
    ∙ ap (λ k. typed (take i ns) ts ++ record { name = n; ty = slice_get ts k } ∷ []) (take-length i ns (omega arith))

-- ---- the variable of a name

differ : (b : Bool) (m n : ℕ) {P : Type 0} → Decides b P → (P → m ≡ n) → m ≢ n → b ≡ false
differ true m n dec same not = absurd (not (same (dec.0 refl)))
differ false m n dec same not = refl

-- names with two marks are two
pub unmarked : (a b : List ℕ) → mark_of a ≢ mark_of b → bytes_eq a b ≡ false
unmarked a b not = differ (bytes_eq a b) (mark_of a) (mark_of b) (bytes_eq-Decides a b) (λ e. ap mark_of e) not

pub variable_miss : (vs : List Noted) (i : ℕ) (v : Noted) (n : Name) → i < length vs → v ≡ get_or vs i v →
    bytes_eq v.name.now n ≡ false
    → variable (variables_of (drop i vs)) n ≡ variable (variables_of (drop (i + 1) vs)) n
variable_miss vs i v n lt is miss =
    ap (λ z. variable (variables_of z) n) (drop_more vs i v lt ∙ ap (λ z. z ∷ drop (i + 1) vs) (sym is))
    ∙ ap (λ z. cond z (Some (variable_of v)) (variable (variables_of (drop (i + 1) vs)) n)) miss

-- ---- the parts of a table

take-front : {X : Type 0} (xs ys : List X) → take (length xs) (xs ++ ys) ≡ xs
take-front [] [] = refl
take-front [] (y ∷ ys) = refl
take-front (x ∷ xs) ys = ap (λ z. x ∷ z) (take-front xs ys)

drop-front : {X : Type 0} (xs ys : List X) → drop (length xs) (xs ++ ys) ≡ ys
drop-front [] ys = refl
drop-front (x ∷ xs) ys = drop-front xs ys

take-all : {X : Type 0} (n : ℕ) (xs : List X) → length xs ≤ n → take n xs ≡ xs
take-all zero [] le = refl
take-all zero (x ∷ xs) le = absurd (omega arith)
take-all (suc n) [] le = refl
take-all (suc n) (x ∷ xs) le = ap (λ z. x ∷ z) (take-all n xs (omega arith))

-- a slice to the end
pub take_rest : {X : Type 0} (m : ℕ) (xs : List X) → take (length xs - m) (drop m xs) ≡ drop m xs
take_rest m xs = take-all (length xs - m) (drop m xs) (omega (arith, length-drop m xs))

map-take : {X Y : Type 0} (f : X → Y) (n : ℕ) (xs : List X) → map f (take n xs) ≡ take n (map f xs)
map-take f zero xs = refl
map-take f (suc n) [] = refl
map-take f (suc n) (x ∷ xs) = ap (λ z. f x ∷ z) (map-take f n xs)

map-drop : {X Y : Type 0} (f : X → Y) (n : ℕ) (xs : List X) → map f (drop n xs) ≡ drop n (map f xs)
map-drop f zero xs = refl
map-drop f (suc n) [] = refl
map-drop f (suc n) (x ∷ xs) = map-drop f n xs

map-length : {X Y : Type 0} (f : X → Y) (xs : List X) → length (map f xs) ≡ length xs
map-length f [] = refl
map-length f (x ∷ xs) = ap suc (map-length f xs)

module _ (vs : List Noted) (front back : List Variable) (is : variables_of vs ≡ front ++ back) where
  all-length : length vs ≡ length front + length back
  all-length = sym (map-length variable_of vs) ∙ ap length is ∙ length-append front back

  pub front_within : (n : ℕ) → n ≡ length front → n ≤ length vs
  front_within n e = let k = all-length in omega arith

  pub front_is : (n : ℕ) → n ≡ length front → variables_of (take n vs) ≡ front
  front_is n e = map-take variable_of n vs ∙ ap (take n) is ∙ ap (λ z. take z (front ++ back)) e ∙ take-front front back

  pub back_within : (n : ℕ) → n ≡ length back → n ≤ length vs
  back_within n e = let k = all-length in omega arith

  pub back_is : (n : ℕ) → n ≡ length back → variables_of (drop (length vs - n) vs) ≡ back
  back_is n e =
      let k = all-length in
      let place : length vs - n ≡ length front = omega arith in
      map-drop variable_of (length vs - n) vs ∙ ap (drop (length vs - n)) is ∙ ap (λ z. drop z (front ++ back)) place
      ∙ drop-front front back

-- what stands before the locals
abbrev pub before_locals : Scope → List Variable → List Variable
before_locals c args = infos_in c ++ (map of_param c.state.params ++ args)

locals-behind : (a b c d : List Variable) → a ++ (b ++ (c ++ d)) ≡ (a ++ (b ++ c)) ++ d
locals-behind a b c d = sym (append_assoc a (b ++ c) d ∙ ap (λ z. a ++ z) (append_assoc b c d))

module _ (vs : List Noted) (c : Scope) (is : variables_of vs ≡ visible c) where
  abbrev args-of : List Variable
  args-of = typed c.handler.args (args_of (taken_message c.protocol c.handler.on))

  pub infos_within : length c.protocol.infos ≤ length vs
  infos_within = front_within vs (infos_in c) (map of_param c.state.params ++ (args-of ++ locals_in c)) is
      (length c.protocol.infos)
      (sym (map-length of_param c.protocol.infos))

  pub infos_are : variables_of (take (length c.protocol.infos) vs) ≡ infos_in c
  infos_are = front_is vs (infos_in c) (map of_param c.state.params ++ (args-of ++ locals_in c)) is (length c.protocol.infos)
      (sym (map-length of_param c.protocol.infos))

  split : variables_of vs ≡ before_locals c args-of ++ locals_in c
  split = is ∙ locals-behind (infos_in c) (map of_param c.state.params) args-of (locals_in c)

  pub locals_within : length c.handler.locals ≤ length vs
  locals_within = back_within vs (before_locals c args-of) (locals_in c) split (length c.handler.locals)
      (sym (map-length of_param c.handler.locals))

  pub locals_are : variables_of (drop (length vs - length c.handler.locals) vs) ≡ locals_in c
  locals_are = back_is vs (before_locals c args-of) (locals_in c) split (length c.handler.locals)
      (sym (map-length of_param c.handler.locals))

-- ---- what may be assigned

abbrev ty-of : Option Variable → Option ValType
ty-of o = option_and_then (λ (v : Variable). v.ty) o

some-ty : (o : Option Variable) (t : ValType) → ty-of o ≡ Some t → is_some o ≡ true
some-ty None t e = absurd (cc)
some-ty (Some v) t e = refl

none-step : (a : Param) (b : Bool) (o : Option Variable) → (ty-of o ≡ None → is_some o ≡ false) →
    ty-of (cond b (Some (of_param a)) o) ≡ None
    → is_some (cond b (Some (of_param a)) o) ≡ false
none-step a true o f e = absurd (cc)
none-step a false o f e = f e

params-none : (ps : List Param) (n : Name) → type_among (map of_param ps) n ≡ None → is_among (map of_param ps) n ≡ false
params-none [] n e = refl
params-none (a ∷ ps) n e = none-step a (bytes_eq a.name n) (variable (map of_param ps) n) (params-none ps n) e

pub assigned_info : (c : Scope) (n : Name) (t : ValType) → Some t ≡ type_among (infos_in c) n →
    Some t ≡ type_among (assignable c) n
assigned_info c n t e = e ∙ sym (type_first (infos_in c) (locals_in c) n (some-ty (variable (infos_in c) n) t (sym e)))

pub assigned_local : (c : Scope) (n : Name) → None ≡ type_among (infos_in c) n →
    type_among (locals_in c) n ≡ type_among (assignable c) n
assigned_local c n e = sym (type_past (infos_in c) (locals_in c) n (params-none c.protocol.infos n (sym e)))

-- ---- names that recur

pub recurs_more : (vs : List Noted) (i : ℕ) (v : Noted) → i < length vs → v ≡ get_or vs i v
    → recurs (variables_of (take i vs)) (variables_of (drop i vs))
    ≡ (is_among (variables_of (take i vs)) v.name.now || recurs (variables_of (take (i + 1) vs)) (variables_of (drop (i + 1) vs)))
recurs_more vs i v lt is =
    ap (λ z. recurs (variables_of (take i vs)) (variables_of z)) (drop_more vs i v lt ∙ ap (λ z. z ∷ drop (i + 1) vs) (sym is))
    ∙ ap (λ z. is_among (variables_of (take i vs)) v.name.now || recurs z (variables_of (drop (i + 1) vs)))
    (sym (map-append variable_of (take i vs) (v ∷ [])) ∙ ap variables_of
    (ap (λ z. take i vs ++ z ∷ []) is ∙ sym (take_more vs i v lt)))
