-- The variables of a handler on its way: reading and assigning.
use Rattle.std.proofs.Common.{◌≡◌, ◌∙◌, ℕ, zero, suc, Bool, true, false, List, [], ◌∷◌, ◌++◌, Option, Some, None, length, map}
use Rattle.std.proofs.Common.{◌+◌, refl, ap, sym, arith, inl, inr, ◌⊎◌}
use Rattle.std.specs.Prelude.{cond, codes, find, is_some, slice_get, slice_set, unwrap_or, Contains}
use Rattle.std.specs.Option.{option_and_then, option_or}
use Rattle.std.proofs.lemmas.List.Folds.{find-append}
use Rattle.tw_base.specs.Lists.{Each}
use Rattle.std.specs.Str.{bytes_eq}
use Rattle.std.proofs.lemmas.Slice.Eq.{bytes_eq-Decides}
use Rattle.tw_base.specs.declared.name.Name.{Name}
use Rattle.tw_base.specs.declared.value.Value.{Value}
use Rattle.tw_base.specs.declared.value.Value.TheVariants as value
use Rattle.teapot_tree.specs.declared.protocol.Handler.{Handler}
use Rattle.teapot_tree.specs.declared.protocol.Param.{Param}
use Rattle.teapot_tree.specs.declared.protocol.Protocol.{Protocol}
use Rattle.teapot_tree.specs.declared.protocol.State.{State}
use Rattle.teapot_tree.specs.declared.protocol.ValType.{ValType}
use Rattle.teapot_tree.specs.declared.protocol.ValType.TheVariants as ty
use Rattle.teapot_tree.specs.Rules.{IsAccepted}
use Rattle.teapot_tree.specs.Scopes.{Scope, Variable, args_of, assignable, infos_in, is_among, locals_in, of_param}
use Rattle.teapot_tree.specs.Scopes.{taken_message, type_among, typed, visible}
use Rattle.teapot_meaning.specs.declared.state.Bound.{Bound}
use Rattle.teapot_meaning.specs.declared.state.Running.{Running}
use Rattle.teapot_meaning.specs.Fits.{names_in, type_of, types_in, types_of}
use Rattle.teapot_meaning.specs.Names.{info_number}
use Rattle.teapot_meaning.specs.Steps.{place_of}
use Rattle.teapot_meaning.specs.Values.{bound_in, info_at, variable, variable_or}
use Rattle.teapot_meaning.proofs.Found.{each_both, find_holds, is_false, no_place, place_found}
use Rattle.teapot_meaning.proofs.Typed.{ReadsTyped}
use Rattle.teapot_meaning.proofs.Visible.{Apart, apart_parts, apart_right, map_both, name_in, visible_apart, visible_free}
use Rattle.teapot_meaning.proofs.Sound.{scope_of}

-- the same names, and values of their types
abbrev pub Agree : List Bound → List Variable → Type 0
Agree [] [] = Unit {0}
Agree [] (v ∷ vs) = ⊥
Agree (b ∷ bs) [] = ⊥
Agree (b ∷ bs) (v ∷ vs) = (b.name ≡ v.name) × (v.ty ≡ Some (type_of b.value)) × Agree bs vs

agree_found : (bs : List Bound) (vs : List Variable) (n : Name) (t : ValType) → Agree bs vs → type_among vs n ≡ Some t →
    (b : Bound) × (bound_in bs n ≡ Some b) × (type_of b.value ≡ t)
agree_found [] [] n t a e = cc
agree_found [] (w ∷ vs) n t a e = absurd a
agree_found (b ∷ bs) [] n t a e = absurd a
agree_found (b ∷ bs) (w ∷ vs) n t a e = by_test (bytes_eq w.name n) refl e (agree_found bs vs n t a.2)
  where
    by_test : (q : Bool) → bytes_eq w.name n ≡ q → option_and_then (λ u. u.ty)
        (cond q (Some w) (find (λ u. bytes_eq u.name n) vs)) ≡ Some t →
        (type_among vs n ≡ Some t → (d : Bound) × (bound_in bs n ≡ Some d) × (type_of d.value ≡ t)) →
        (d : Bound) × (cond (bytes_eq b.name n) (Some b) (bound_in bs n) ≡ Some d) × (type_of d.value ≡ t)
    by_test true h e more =
        let here : bytes_eq b.name n ≡ true = ap (λ m. bytes_eq m n) a.0 ∙ h in
        let same : type_of b.value ≡ t = cc (a.1, e) in
        (b, ap (λ q. cond q (Some b) (bound_in bs n)) here, same)
    by_test false h e more =
        let past : bytes_eq b.name n ≡ false = ap (λ m. bytes_eq m n) a.0 ∙ h in
        let m = more e in
        (m.0, ap (λ q. cond q (Some b) (bound_in bs n)) past ∙ m.1, m.2)

agree_none : (bs : List Bound) (vs : List Variable) (n : Name) → Agree bs vs → is_among vs n ≡ false → bound_in bs n ≡ None
agree_none [] [] n a e = refl
agree_none [] (w ∷ vs) n a e = absurd a
agree_none (b ∷ bs) [] n a e = absurd a
agree_none (b ∷ bs) (w ∷ vs) n a e = by_test (bytes_eq w.name n) refl e (agree_none bs vs n a.2)
  where
    by_test : (q : Bool) → bytes_eq w.name n ≡ q → is_some (cond q (Some w) (find (λ u. bytes_eq u.name n) vs)) ≡ false →
        (is_among vs n ≡ false → bound_in bs n ≡ None) → cond (bytes_eq b.name n) (Some b) (bound_in bs n) ≡ None
    by_test true h e more = cc
    by_test false h e more = ap (λ q. cond q (Some b) (bound_in bs n)) (ap (λ m. bytes_eq m n) a.0 ∙ h) ∙ more e

agree_of : (bs : List Bound) (vs : List Variable) → map (λ b. b.name) bs ≡ map name_in vs →
    map (λ b. Some (type_of b.value)) bs ≡ map (λ (u : Variable). u.ty) vs → Agree bs vs
agree_of [] [] e f = tt
agree_of [] (w ∷ vs) e f = cc
agree_of (b ∷ bs) [] e f = cc
agree_of (b ∷ bs) (w ∷ vs) e f =
    let head : b.name ≡ w.name = cc in
    let type : w.ty ≡ Some (type_of b.value) = cc in
    let names : map (λ d. d.name) bs ≡ map name_in vs = cc in
    let types : map (λ d. Some (type_of d.value)) bs ≡ map (λ (u : Variable). u.ty) vs = cc in
    (head, type, agree_of bs vs names types)

-- ---- the variables other than the infos

abbrev pub inner : Scope → List Variable
inner c = map of_param c.state.params ++ (typed c.handler.args (args_of (taken_message c.protocol c.handler.on)) ++ locals_in c)

pub params_named : (ps : List Param) → map name_in (map of_param ps) ≡ map (λ a. a.name) ps
params_named [] = refl
params_named (a ∷ ps) = ap (λ ns. a.name ∷ ns) (params_named ps)

params_typed : (ps : List Param) → map (λ (u : Variable). u.ty) (map of_param ps) ≡ map (λ t. Some t) (types_of ps)
params_typed [] = refl
params_typed (a ∷ ps) = ap (λ ts. Some a.ty ∷ ts) (params_typed ps)

args_named : (ns : List Name) (ts : List ValType) → map name_in (typed ns ts) ≡ ns
args_named [] ts = refl
args_named (n ∷ ns) [] = ap (λ ms. n ∷ ms) (args_named ns [])
args_named (n ∷ ns) (t ∷ ts) = ap (λ ms. n ∷ ms) (args_named ns ts)

args_typed : (ns : List Name) (ts : List ValType) → length ns ≡ length ts →
    map (λ (u : Variable). u.ty) (typed ns ts) ≡ map (λ t. Some t) ts
args_typed [] [] e = refl
args_typed [] (t ∷ ts) e = absurd (omega arith)
args_typed (n ∷ ns) [] e = absurd (omega arith)
args_typed (n ∷ ns) (t ∷ ts) e = ap (λ us. Some t ∷ us) (args_typed ns ts (omega arith))

pub len_map : {X Y : Type 0} (f : X → Y) (xs : List X) → length (map f xs) ≡ length xs
len_map f [] = refl
len_map f (x ∷ xs) = ap suc (len_map f xs)

len_both : {X : Type 0} (xs ys : List X) → length (xs ++ ys) ≡ length xs + length ys
len_both [] ys = omega arith
len_both (x ∷ xs) ys = omega (arith, len_both xs ys)

map_twice : {X Y Z : Type 0} (f : X → Y) (g : Y → Z) (xs : List X) → map g (map f xs) ≡ map (λ x. g (f x)) xs
map_twice f g [] = refl
map_twice f g (x ∷ xs) = ap (λ zs. g (f x) ∷ zs) (map_twice f g xs)

pub inner_named : (c : Scope) → map name_in (inner c) ≡ map (λ a. a.name) c.state.params
    ++ (c.handler.args ++ map (λ a. a.name) c.handler.locals)
inner_named c =
    let ts = args_of (taken_message c.protocol c.handler.on) in
    map_both name_in (map of_param c.state.params) _
    ∙ ap (λ ns. ns ++ map name_in (typed c.handler.args ts ++ locals_in c)) (params_named c.state.params)
    ∙ ap (λ ns. map (λ a. a.name) c.state.params ++ ns) (map_both name_in (typed c.handler.args ts) (locals_in c)
    ∙ ap (λ ns. ns ++ map name_in (locals_in c)) (args_named c.handler.args ts)
    ∙ ap (λ ns. c.handler.args ++ ns) (params_named c.handler.locals))

pub inner_typed : (c : Scope) → length c.handler.args ≡ length (args_of (taken_message c.protocol c.handler.on)) →
    map (λ (u : Variable). u.ty) (inner c) ≡ map (λ t. Some t)
    (types_of c.state.params ++ (args_of (taken_message c.protocol c.handler.on) ++ types_of c.handler.locals))
inner_typed c e =
    let T : Variable → Option ValType = λ u. u.ty in
    let S : ValType → Option ValType = λ t. Some t in
    let ts = args_of (taken_message c.protocol c.handler.on) in
    let args : map T (typed c.handler.args ts ++ locals_in c) ≡ map S (ts ++ types_of c.handler.locals) =
    map_both T (typed c.handler.args ts) (locals_in c) ∙ ap (λ us. us ++ map T (locals_in c)) (args_typed c.handler.args ts e)
    ∙ ap (λ us. map S ts ++ us) (params_typed c.handler.locals) ∙ sym (map_both S ts (types_of c.handler.locals)) in
    map_both T (map of_param c.state.params) _ ∙ ap (λ us. us ++ map T (typed c.handler.args ts ++ locals_in c))
    (params_typed c.state.params)
    ∙ ap (λ us. map S (types_of c.state.params) ++ us) args ∙ sym
    (map_both S (types_of c.state.params) (ts ++ types_of c.handler.locals))

-- ---- the names and types of a handler's variables

-- the variables of a handler, and infos, with their types
pub record HasVars (p : Protocol) (t : State) (h : Handler) (infos : List Value) (vars : List Bound) : Type 0 where
  pub names : map (λ b. b.name) vars ≡ names_in t h
  pub types : map (λ b. type_of b.value) vars ≡ types_in p t h
  pub info_types : map type_of infos ≡ types_of p.infos

-- the sender, and the others
pub record Parted (c : Scope) (vars : List Bound) : Type 0 where
  pub sender : Bound
  pub others : List Bound
  pub is : vars ≡ sender ∷ others
  pub name : sender.name ≡ codes "src"
  pub node : type_of sender.value ≡ ty.Node
  pub agree : Agree others (inner c)

pub parted : (p : Protocol) (t : State) (h : Handler) (infos : List Value) (vars : List Bound) → HasVars p t h infos vars →
    Parted (scope_of p t h) vars
parted p t h infos [] e = let f = e.names in cc
parted p t h infos (b ∷ bs) e =
    let c = scope_of p t h in
    let ts = args_of (taken_message p h.on) in
    let names = e.names in
    let types = e.types in
    let name : b.name ≡ codes "src" = cc in
    let node : type_of b.value ≡ ty.Node = cc in
    let more : map (λ d. d.name) bs ≡ map (λ a. a.name) t.params ++ (h.args ++ map (λ a. a.name) h.locals) = cc in
    let kinds : map (λ d. type_of d.value) bs ≡ types_of t.params ++ (ts ++ types_of h.locals) = cc in
    let n = sym (len_map (λ d. d.name) bs) ∙ ap length more in
    let k = sym (len_map (λ d. type_of d.value) bs) ∙ ap length kinds in
    let few : length h.args ≡ length ts = omega (
      arith,
      n,
      k,
      len_both (map (λ a. a.name) t.params) (h.args ++ map (λ a. a.name) h.locals),
      len_both h.args (map (λ a. a.name) h.locals),
      len_both (types_of t.params) (ts ++ types_of h.locals),
      len_both ts (types_of h.locals),
      len_map (λ a. a.name) t.params,
      len_map (λ a. a.name) h.locals,
      len_map (λ a. a.ty) t.params,
      len_map (λ a. a.ty) h.locals,
    ) in
    let seen = sym (map_twice (λ d. type_of d.value) (λ (u : ValType). Some u) bs) ∙ ap (map (λ (u : ValType). Some u)) kinds
    ∙ sym (inner_typed c few) in
    record {
      sender = b;
      others = bs;
      is = refl;
      name = name;
      node = node;
      agree = agree_of bs (inner c) (more ∙ sym (inner_named c)) seen;
    }

past_sender : (c : Scope) (vars : List Bound) (n : Name) (d : Parted c vars) → bytes_eq (codes "src") n ≡ false →
    bound_in vars n ≡ bound_in d.others n
past_sender c vars n d free =
    ap (λ bs. bound_in bs n) d.is ∙ ap (λ q. cond q (Some d.sender) (bound_in d.others n)) (ap (λ m. bytes_eq m n) d.name ∙ free)

-- ---- infos

pub info_found : (ps : List Param) (n : Name) (t : ValType) → type_among (map of_param ps) n ≡ Some t →
    (a : Param) × (find (λ (i : Param). bytes_eq i.name n) ps ≡ Some a) × (a.ty ≡ t)
info_found [] n t e = cc
info_found (a ∷ ps) n t e = by_test (bytes_eq a.name n) e (info_found ps n t)
  where
    by_test : (q : Bool) →
        option_and_then (λ u. u.ty) (cond q (Some (of_param a)) (find (λ (u : Variable). bytes_eq u.name n) (map of_param ps)))
        ≡ Some t → (type_among (map of_param ps) n ≡ Some t →
        (b : Param) × (find (λ (i : Param). bytes_eq i.name n) ps ≡ Some b) × (b.ty ≡ t)) →
        (b : Param) × (cond q (Some a) (find (λ (i : Param). bytes_eq i.name n) ps) ≡ Some b) × (b.ty ≡ t)
    by_test true e more = let same : a.ty ≡ t = cc in (a, refl, same)
    by_test false e more = more e

place_typed : (xs : List Value) (ps : List Param) (k : ℕ) (a : Param) → map type_of xs ≡ types_of ps →
    slice_get ps k ≡ Some a → (x : Value) × (slice_get xs k ≡ Some x) × (type_of x ≡ a.ty)
place_typed [] [] k a e g = cc
place_typed [] (b ∷ ps) k a e g = cc
place_typed (x ∷ xs) [] k a e g = cc
place_typed (x ∷ xs) (b ∷ ps) zero a e g = let same : b ≡ a = cc in let head : type_of x ≡ b.ty =
    cc in (x, refl, head ∙ ap (λ (q : Param). q.ty) same)
place_typed (x ∷ xs) (b ∷ ps) (suc k) a e g = let tail : map type_of xs ≡ types_of ps = cc in place_typed xs ps k a tail g

-- an info, by its name
pub info_typed : (p : Protocol) (infos : List Value) (n : Name) (t : ValType) → map type_of infos ≡ types_of p.infos →
    type_among (map of_param p.infos) n ≡ Some t
    → (k : ℕ) × (info_number p n ≡ Some k) × ((x : Value) × (slice_get infos k ≡ Some x) × (type_of x ≡ t))
info_typed p infos n t e f =
    let a = info_found p.infos n t f in
    let k = place_found (λ (i : Param). bytes_eq i.name n) p.infos a.0 a.1 in
    let x = place_typed infos p.infos k.0 a.0 e k.2 in
    (k.0, k.1, (x.0, x.1, x.2 ∙ a.2))

-- ---- where a name is found

pub typed_among : (vs : List Variable) (n : Name) (t : ValType) → type_among vs n ≡ Some t → is_among vs n ≡ true
typed_among vs n t e = by_found (find (λ (u : Variable). bytes_eq u.name n) vs) e
  where
    by_found : (o : Option Variable) → option_and_then (λ u. u.ty) o ≡ Some t → is_some o ≡ true
    by_found (Some u) e = refl
    by_found None e = cc

typed_left : (us vs : List Variable) (n : Name) (t : ValType) → type_among us n ≡ Some t → type_among (us ++ vs) n ≡ Some t
typed_left [] vs n t e = cc
typed_left (u ∷ us) vs n t e = by_test (bytes_eq u.name n) e (typed_left us vs n t)
  where
    by_test : (q : Bool) → option_and_then (λ w. w.ty) (cond q (Some u) (find (λ (w : Variable). bytes_eq w.name n) us))
        ≡ Some t → (type_among us n ≡ Some t → type_among (us ++ vs) n ≡ Some t)
        → option_and_then (λ w. w.ty) (cond q (Some u) (find (λ (w : Variable). bytes_eq w.name n) (us ++ vs))) ≡ Some t
    by_test true e more = e
    by_test false e more = more e

typed_right : (us vs : List Variable) (n : Name) → is_among us n ≡ false → type_among (us ++ vs) n ≡ type_among vs n
typed_right [] vs n e = refl
typed_right (u ∷ us) vs n e = by_test (bytes_eq u.name n) e (typed_right us vs n)
  where
    by_test : (q : Bool) → is_some (cond q (Some u) (find (λ (w : Variable). bytes_eq w.name n) us)) ≡ false →
        (is_among us n ≡ false → type_among (us ++ vs) n ≡ type_among vs n)
        → option_and_then (λ w. w.ty) (cond q (Some u) (find (λ (w : Variable). bytes_eq w.name n) (us ++ vs))) ≡ type_among vs n
    by_test true e more = cc
    by_test false e more = more e

find_left : (us vs : List Variable) (n : Name) (u : Variable) → find (λ (w : Variable). bytes_eq w.name n) us ≡ Some u →
    find (λ (w : Variable). bytes_eq w.name n) (us ++ vs) ≡ Some u
find_left us vs n u e = find-append (λ (w : Variable). bytes_eq w.name n) us vs
    ∙ ap (λ o. option_or o (find (λ (w : Variable). bytes_eq w.name n) vs)) e

-- in the front, or else behind
pub typed_parts : (us vs : List Variable) (n : Name) (t : ValType) → type_among (us ++ vs) n ≡ Some t →
    (type_among us n ≡ Some t) ⊎ ((is_among us n ≡ false) × (type_among vs n ≡ Some t))
typed_parts us vs n t e = by_found (find (λ (u : Variable). bytes_eq u.name n) us) refl
  where
    by_found : (o : Option Variable) → find (λ (u : Variable). bytes_eq u.name n) us ≡ o →
        (type_among us n ≡ Some t) ⊎ ((is_among us n ≡ false) × (type_among vs n ≡ Some t))
    by_found None h = let none : is_among us n ≡ false = ap is_some h in inr (none, sym (typed_right us vs n none) ∙ e)
    by_found (Some u) h =
        inl (ap (option_and_then (λ (w : Variable). w.ty)) h
        ∙ sym (ap (option_and_then (λ (w : Variable). w.ty)) (find_left us vs n u h)) ∙ e)

-- what is behind, where no two have one name
last_seen : (us vs : List Variable) (n : Name) (t : ValType) → Apart (us ++ vs) → type_among vs n ≡ Some t →
    type_among (us ++ vs) n ≡ Some t
last_seen us vs n t a e =
    let none : is_among us n ≡ false =
    is_false _ (λ h. let out = apart_parts us vs n a h in let in_there = typed_among vs n t e in cc) in
    typed_right us vs n none ∙ e

pub local_seen : (c : Scope) (n : Name) (t : ValType) → Apart (visible c) → type_among (locals_in c) n ≡ Some t →
    type_among (visible c) n ≡ Some t
local_seen c n t a e =
    let args = typed c.handler.args (args_of (taken_message c.protocol c.handler.on)) in
    let b = apart_right (infos_in c) (inner c) a in
    let d = apart_right (map of_param c.state.params) (args ++ locals_in c) b in
    last_seen (infos_in c) (inner c) n t a (last_seen (map of_param c.state.params) (args ++ locals_in c) n t b
    (last_seen args (locals_in c) n t d e))

pub assignable_seen : (c : Scope) (n : Name) (t : ValType) → Apart (visible c) → type_among (assignable c) n ≡ Some t →
    type_among (visible c) n ≡ Some t
assignable_seen c n t a e = by_part (typed_parts (infos_in c) (locals_in c) n t e)
  where
    by_part : (type_among (infos_in c) n ≡ Some t) ⊎ ((is_among (infos_in c) n ≡ false)
        × (type_among (locals_in c) n ≡ Some t)) → type_among (visible c) n ≡ Some t
    by_part (inl h) = typed_left (infos_in c) (inner c) n t h
    by_part (inr h) = local_seen c n t a h.1

-- what may be assigned has a type
params_some : (ps : List Param) → Each (λ (u : Variable). is_some u.ty ≡ true) (map of_param ps)
params_some [] = tt
params_some (a ∷ ps) = (refl, params_some ps)

some_typed : (vs : List Variable) (n : Name) → Each (λ (u : Variable). is_some u.ty ≡ true) vs → is_among vs n ≡ true →
    (t : ValType) × (type_among vs n ≡ Some t)
some_typed [] n h e = cc
some_typed (u ∷ us) n h e = by_test (bytes_eq u.name n) e (some_typed us n h.1)
  where
    known : (o : Option ValType) → is_some o ≡ true → (t : ValType) × (o ≡ Some t)
    known (Some t) e = (t, refl)
    known None e = cc

    by_test : (q : Bool) → is_some (cond q (Some u) (find (λ (w : Variable). bytes_eq w.name n) us)) ≡ true →
        (is_among us n ≡ true → (t : ValType) × (type_among us n ≡ Some t))
        → (t : ValType) × (option_and_then (λ w. w.ty) (cond q (Some u) (find (λ (w : Variable). bytes_eq w.name n) us)) ≡ Some t)
    by_test true e more = known u.ty h.0
    by_test false e more = more e

pub assignable_typed : (c : Scope) (n : Name) → is_among (assignable c) n ≡ true →
    (t : ValType) × (type_among (assignable c) n ≡ Some t)
assignable_typed c n e =
    some_typed (assignable c) n (each_both _ (infos_in c) (locals_in c) (params_some c.protocol.infos)
    (params_some c.handler.locals)) e

-- ---- reading and assigning

set_map : {X Y : Type 0} (f : X → Y) (xs : List X) (k : ℕ) (x y : X) → slice_get xs k ≡ Some x → f y ≡ f x →
    map f (slice_set xs k y) ≡ map f xs
set_map f [] k x y g e = refl
set_map f (z ∷ xs) zero x y g e = let same : z ≡ x = cc in ap (λ u. u ∷ map f xs) (e ∙ ap f (sym same))
set_map f (z ∷ xs) (suc k) x y g e = ap (λ us. f z ∷ us) (set_map f xs k x y g e)

-- what a new value changes
pub record ToInfo (p : Protocol) (t : State) (h : Handler) (infos : List Value) (vars : List Bound) (n : Name)
    (value : Value) : Type 0 where
  pub at : ℕ
  pub no_var : place_of n vars ≡ None
  pub is_info : info_number p n ≡ Some at
  pub typed : HasVars p t h (slice_set infos at value) vars

pub record ToVar (p : Protocol) (t : State) (h : Handler) (infos : List Value) (vars : List Bound) (n : Name)
    (value : Value) : Type 0 where
  pub at : ℕ
  pub is_var : place_of n vars ≡ Some at
  pub typed : HasVars p t h infos (slice_set vars at (record { name = n; value = value }))

module _ (p : Protocol) (a : IsAccepted p) (t : State) (i : Contains p.states t) (h : Handler) (j : Contains t.handlers h) where
  abbrev c : Scope
  c = scope_of p t h

  pub apart : Apart (visible (scope_of p t h))
  apart = visible_apart p t h a i j

  free_of : (n : Name) (u : ValType) → type_among (visible c) n ≡ Some u → bytes_eq (codes "src") n ≡ false
  free_of n u e = visible_free p t h a.tree i j n (typed_among (visible c) n u e)

  -- an info is no variable of the handler
  no_var : (infos : List Value) (vars : List Bound) (n : Name) (u : ValType) → HasVars p t h infos vars →
      type_among (infos_in c) n ≡ Some u → bound_in vars n ≡ None
  no_var infos vars n u v e =
      let d = parted p t h infos vars v in
      let out = apart_parts (infos_in c) (inner c) n apart (typed_among (infos_in c) n u e) in
      past_sender c vars n d (free_of n u (typed_left (infos_in c) (inner c) n u e)) ∙ agree_none d.others (inner c) n d.agree out

  -- a variable of the handler
  a_var : (infos : List Value) (vars : List Bound) (n : Name) (u : ValType) → HasVars p t h infos vars →
      is_among (infos_in c) n ≡ false → type_among (inner c) n ≡ Some u →
      (b : Bound) × (bound_in vars n ≡ Some b) × (type_of b.value ≡ u)
  a_var infos vars n u v none e =
      let d = parted p t h infos vars v in
      let f = agree_found d.others (inner c) n u d.agree e in
      let free = free_of n u (typed_right (infos_in c) (inner c) n none ∙ e) in
      (f.0, past_sender c vars n d free ∙ f.1, f.2)

  pub reads_typed : (r : Running) → HasVars p t h r.here.infos r.vars → ReadsTyped (scope_of p t h) r
  unfolding variable
  reads_typed r v =
      let d = parted p t h r.here.infos r.vars v in
      let src : bound_in r.vars (codes "src") ≡ Some d.sender =
      ap (λ bs. bound_in bs (codes "src")) d.is
      ∙ ap (λ m. cond (bytes_eq m (codes "src")) (Some d.sender) (bound_in d.others (codes "src"))) d.name in
      record {
        sender = ap (λ o. type_of (variable_or o (info_at r.here.infos (info_number p (codes "src"))))) src ∙ d.node;
        names = λ n u e. by_part n u (typed_parts (infos_in c) (inner c) n u e);
      }
    where
      by_part : (n : Name) (u : ValType) → (type_among (infos_in c) n ≡ Some u)
          ⊎ ((is_among (infos_in c) n ≡ false) × (type_among (inner c) n ≡ Some u)) →
          type_of (variable_or (bound_in r.vars n) (info_at r.here.infos (info_number p n))) ≡ u
      by_part n u (inl e) =
          let k = info_typed p r.here.infos n u v.info_types e in
          ap (λ o. type_of (variable_or o (info_at r.here.infos (info_number p n)))) (no_var r.here.infos r.vars n u v e)
          ∙ ap (λ o. type_of (info_at r.here.infos o)) k.1 ∙ ap (λ o. type_of (unwrap_or o (value.Int 0))) k.2.1 ∙ k.2.2
      by_part n u (inr e) =
          let b = a_var r.here.infos r.vars n u v e.0 e.1 in
          ap (λ o. type_of (variable_or o (info_at r.here.infos (info_number p n)))) b.1 ∙ b.2

  pub assigns : (infos : List Value) (vars : List Bound) (n : Name) (value : Value) → HasVars p t h infos vars →
      type_among (visible (scope_of p t h)) n ≡ Some (type_of value) →
      ToInfo p t h infos vars n value ⊎ ToVar p t h infos vars n value
  assigns infos vars n value v e = by_part (typed_parts (infos_in c) (inner c) n (type_of value) e)
    where
      by_part : (type_among (infos_in c) n ≡ Some (type_of value))
          ⊎ ((is_among (infos_in c) n ≡ false) × (type_among (inner c) n ≡ Some (type_of value))) →
          ToInfo p t h infos vars n value ⊎ ToVar p t h infos vars n value
      by_part (inl e) =
          let k = info_typed p infos n (type_of value) v.info_types e in
          inl (record {
            at = k.0;
            no_var = no_place (λ b. bytes_eq b.name n) vars (no_var infos vars n (type_of value) v e);
            is_info = k.1;
            typed = record {
              names = v.names;
              types = v.types;
              info_types = set_map type_of infos k.0 k.2.0 value k.2.1 (sym k.2.2) ∙ v.info_types;
            };
          })
      by_part (inr e) =
          let b = a_var infos vars n (type_of value) v e.0 e.1 in
          let k = place_found (λ d. bytes_eq d.name n) vars b.0 b.1 in
          let name : b.0.name ≡ n = (bytes_eq-Decides b.0.name n).0 (find_holds (λ d. bytes_eq d.name n) vars b.0 b.1) in
          let new : Bound = record { name = n; value = value } in
          inr (record {
            at = k.0;
            is_var = k.1;
            typed = record {
              names = set_map (λ d. d.name) vars k.0 b.0 new k.2 (sym name) ∙ v.names;
              types = set_map (λ d. type_of d.value) vars k.0 b.0 new k.2 (sym b.2) ∙ v.types;
              info_types = v.info_types;
            };
          })
