-- Names in lists of variables.
use Rattle.std.proofs.Common.{◌≡◌, Bool, true, false, cond, List, [], ◌∷◌, ◌++◌, map, find, Option, Some, None, is_some, refl}
use Rattle.std.proofs.Common.{ap, sym, ◌∙◌, subst}
use Rattle.std.specs.Prelude.{◌&&◌, ◌||◌}
use Rattle.std.specs.List.{list_all}
use Rattle.std.proofs.lemmas.List.Folds.{list_all-append}
use Rattle.teapot_tree.specs.declared.expr.Expr.{Expr, roll-Expr}
use Rattle.teapot_tree.specs.declared.expr.Expr.TheOpen.{Expr-F}
use Rattle.teapot_tree.specs.declared.expr.Expr.TheFolds.{fold-roll-Expr, ind-Expr, map-Expr}
use Rattle.teapot_tree.specs.Parts.{names_in, names_step}
use Rattle.teapot_tree.specs.Rules.{is_seen}
use Rattle.std.specs.Option.{option_map, option_and_then}
use Rattle.std.specs.Str.{bytes_eq}
use Rattle.tw_base.specs.declared.name.Name.{Name}
use Rattle.teapot_tree.specs.declared.protocol.Param.{Param}
use Rattle.teapot_tree.specs.declared.protocol.ValType.{ValType}
use Rattle.teapot_rules.specs.Names.{among_params, type_in_params, among_names, inner, seen_step, all_seen}
use Rattle.teapot_tree.specs.Scopes.{Scope, Variable, of_param, typed, variable, is_among, type_among, infos_in, locals_in}
use Rattle.teapot_tree.specs.Scopes.{assignable, visible, args_of, taken_message}

some-cond : (b : Bool) (x : Variable) (o : Option Variable) → is_some (cond b (Some x) o) ≡ (b || is_some o)
some-cond true x o = refl
some-cond false x o = refl

or-assoc' : (a b c : Bool) → (a || (b || c)) ≡ ((a || b) || c)
or-assoc' true b c = refl
or-assoc' false b c = refl

pub among_append : (xs ys : List Variable) (n : Name) → is_among (xs ++ ys) n ≡ (is_among xs n || is_among ys n)
among_append [] ys n = refl
among_append (x ∷ xs) ys n =
    some-cond (bytes_eq x.name n) x (variable (xs ++ ys) n) ∙ ap (λ z. bytes_eq x.name n || z) (among_append xs ys n)
    ∙ or-assoc' (bytes_eq x.name n) (is_among xs n) (is_among ys n)
    ∙ ap (λ z. z || is_among ys n) (sym (some-cond (bytes_eq x.name n) x (variable xs n)))

pub among_params_is : (ps : List Param) (n : Name) → is_among (map of_param ps) n ≡ among_params ps n
among_params_is [] n = refl
among_params_is (a ∷ ps) n = some-cond (bytes_eq a.name n) (of_param a) (variable (map of_param ps) n)
    ∙ ap (λ z. bytes_eq a.name n || z) (among_params_is ps n)

pub among_args_is : (ns : List Name) (ts : List ValType) (n : Name) → is_among (typed ns ts) n ≡ among_names ns n
among_args_is [] ts n = refl
among_args_is (m ∷ ns) [] n = some-cond (bytes_eq m n) (record { name = m; ty = None }) (variable (typed ns []) n)
    ∙ ap (λ z. bytes_eq m n || z) (among_args_is ns [] n)
among_args_is (m ∷ ns) (t ∷ ts) n = some-cond (bytes_eq m n) (record { name = m; ty = Some t }) (variable (typed ns ts) n)
    ∙ ap (λ z. bytes_eq m n || z) (among_args_is ns ts n)

-- ---- types

pub type-cond : (b : Bool) (x : Variable) (o : Option Variable) →
    option_and_then (λ (v : Variable). v.ty) (cond b (Some x) o) ≡ cond b x.ty (option_and_then (λ (v : Variable). v.ty) o)
type-cond true x o = refl
type-cond false x o = refl

back : (b : Bool) (a : Param) (o : Option Param) → cond b (Some a.ty) (option_map (λ (x : Param). x.ty) o)
    ≡ option_map (λ (x : Param). x.ty) (cond b (Some a) o)
back true a o = refl
back false a o = refl

pub type_params_is : (ps : List Param) (n : Name) → type_among (map of_param ps) n ≡ type_in_params ps n
type_params_is [] n = refl
type_params_is (a ∷ ps) n =
    type-cond (bytes_eq a.name n) (of_param a) (variable (map of_param ps) n)
    ∙ ap (λ z. cond (bytes_eq a.name n) (Some a.ty) z) (type_params_is ps n)
    ∙ back (bytes_eq a.name n) a (find (λ (b : Param). bytes_eq b.name n) ps)

go : (b c : Bool) (x : Variable) (o q : Option Variable) → (c ≡ true → o ≡ q) → (b || c) ≡ true →
    cond b (Some x) o ≡ cond b (Some x) q
go true c x o q f e = refl
go false c x o q f e = f e

found-first : (xs ys : List Variable) (n : Name) → is_among xs n ≡ true → variable (xs ++ ys) n ≡ variable xs n
found-first [] ys n e = absurd (cc)
found-first (x ∷ xs) ys n e = go (bytes_eq x.name n) (is_among xs n) x (variable (xs ++ ys) n) (variable xs n)
    (found-first xs ys n) (sym (some-cond (bytes_eq x.name n) x (variable xs n)) ∙ e)

past : (b c : Bool) (x : Variable) (o q : Option Variable) → (c ≡ false → o ≡ q) → (b || c) ≡ false → cond b (Some x) o ≡ q
past true c x o q f e = absurd (cc)
past false c x o q f e = f e

found-past : (xs ys : List Variable) (n : Name) → is_among xs n ≡ false → variable (xs ++ ys) n ≡ variable ys n
found-past [] ys n e = refl
found-past (x ∷ xs) ys n e = past (bytes_eq x.name n) (is_among xs n) x (variable (xs ++ ys) n) (variable ys n)
    (found-past xs ys n) (sym (some-cond (bytes_eq x.name n) x (variable xs n)) ∙ e)

pub type_first : (xs ys : List Variable) (n : Name) → is_among xs n ≡ true → type_among (xs ++ ys) n ≡ type_among xs n
type_first xs ys n e = ap (option_and_then (λ (v : Variable). v.ty)) (found-first xs ys n e)

pub type_past : (xs ys : List Variable) (n : Name) → is_among xs n ≡ false → type_among (xs ++ ys) n ≡ type_among ys n
type_past xs ys n e = ap (option_and_then (λ (v : Variable). v.ty)) (found-past xs ys n e)

-- ---- what is visible in a handler

pub visible_among : (c : Scope) (n : Name) →
    is_among (visible c) n
    ≡ (among_params c.protocol.infos n || (among_params c.state.params n
    || (among_names c.handler.args n || among_params c.handler.locals n)))
visible_among c n =
    among_append (infos_in c) (map of_param c.state.params ++ inner c) n
    ∙ ap (λ z. z || is_among (map of_param c.state.params ++ inner c) n) (among_params_is c.protocol.infos n)
    ∙ ap (λ z. among_params c.protocol.infos n || z)
    (among_append (map of_param c.state.params) (inner c) n ∙ ap (λ z. z || is_among (inner c) n)
    (among_params_is c.state.params n)
    ∙ ap (λ z. among_params c.state.params n || z)
    (among_append (typed c.handler.args (args_of (taken_message c.protocol c.handler.on))) (locals_in c) n
    ∙ ap (λ z. z || is_among (locals_in c) n) (among_args_is c.handler.args (args_of (taken_message c.protocol c.handler.on)) n)
    ∙ ap (λ z. among_names c.handler.args n || z) (among_params_is c.handler.locals n)))

pub assignable_among : (c : Scope) (n : Name) → is_among (assignable c) n
    ≡ (among_params c.protocol.infos n || among_params c.handler.locals n)
assignable_among c n =
    among_append (infos_in c) (locals_in c) n ∙ ap (λ z. z || is_among (locals_in c) n) (among_params_is c.protocol.infos n)
    ∙ ap (λ z. among_params c.protocol.infos n || z) (among_params_is c.handler.locals n)

pub assignable_info : (c : Scope) (n : Name) → among_params c.protocol.infos n ≡ true →
    type_among (assignable c) n ≡ type_in_params c.protocol.infos n
assignable_info c n e = type_first (infos_in c) (locals_in c) n (among_params_is c.protocol.infos n ∙ e)
    ∙ type_params_is c.protocol.infos n

pub assignable_local : (c : Scope) (n : Name) → among_params c.protocol.infos n ≡ false →
    type_among (assignable c) n ≡ type_in_params c.handler.locals n
assignable_local c n e = type_past (infos_in c) (locals_in c) n (among_params_is c.protocol.infos n ∙ e)
    ∙ type_params_is c.handler.locals n

pub inner_arg : (c : Scope) (n : Name) → among_names c.handler.args n ≡ true →
    type_among (inner c) n ≡ type_among (typed c.handler.args (args_of (taken_message c.protocol c.handler.on))) n
inner_arg c n e = type_first (typed c.handler.args (args_of (taken_message c.protocol c.handler.on))) (locals_in c) n
    (among_args_is c.handler.args (args_of (taken_message c.protocol c.handler.on)) n ∙ e)

pub inner_local : (c : Scope) (n : Name) → among_names c.handler.args n ≡ false →
    type_among (inner c) n ≡ type_in_params c.handler.locals n
inner_local c n e =
    type_past (typed c.handler.args (args_of (taken_message c.protocol c.handler.on))) (locals_in c) n
    (among_args_is c.handler.args (args_of (taken_message c.protocol c.handler.on)) n ∙ e)
    ∙ type_params_is c.handler.locals n

pub visible_info : (c : Scope) (n : Name) → among_params c.protocol.infos n ≡ true →
    type_among (visible c) n ≡ type_in_params c.protocol.infos n
visible_info c n e = type_first (infos_in c) (map of_param c.state.params ++ inner c) n
    (among_params_is c.protocol.infos n ∙ e) ∙ type_params_is c.protocol.infos n

pub visible_param : (c : Scope) (n : Name) → among_params c.protocol.infos n ≡ false → among_params c.state.params n ≡ true →
    type_among (visible c) n ≡ type_in_params c.state.params n
visible_param c n e f =
    type_past (infos_in c) (map of_param c.state.params ++ inner c) n (among_params_is c.protocol.infos n ∙ e)
    ∙ type_first (map of_param c.state.params) (inner c) n (among_params_is c.state.params n ∙ f)
    ∙ type_params_is c.state.params n

pub visible_inner : (c : Scope) (n : Name) → among_params c.protocol.infos n ≡ false → among_params c.state.params n ≡ false →
    type_among (visible c) n ≡ type_among (inner c) n
visible_inner c n e f =
    type_past (infos_in c) (map of_param c.state.params ++ inner c) n (among_params_is c.protocol.infos n ∙ e)
    ∙ type_past (map of_param c.state.params) (inner c) n (among_params_is c.state.params n ∙ f)

-- ---- names in expressions

all_seen-roll : (vs : List Variable) (x : Expr-F Expr) → all_seen vs (roll-Expr x)
    ≡ seen_step vs (map-Expr Expr Bool (all_seen vs) x)
unfolding all_seen
all_seen-roll vs x = fold-roll-Expr Bool (seen_step vs) x

names-roll : (x : Expr-F Expr) → names_in (roll-Expr x) ≡ names_step (map-Expr Expr (List Name) names_in x)
unfolding names_in
names-roll x = fold-roll-Expr (List Name) names_step x

abbrev Seen : List Variable → Expr → Type 0
Seen vs e = all_seen vs e ≡ list_all (is_among vs) (names_in e)

abbrev Part : List Variable → Type 0
Part vs = (e : Expr) × Seen vs e

abbrev whole_of : (vs : List Variable) → Expr-F (Part vs) → Expr-F Expr
whole_of vs = map-Expr (Part vs) Expr (λ p. p.0)

and-true : (a : Bool) → a ≡ (a && true)
and-true true = refl
and-true false = refl

seen-level : (vs : List Variable) (y : Expr-F (Part vs)) → seen_step vs (map-Expr Expr Bool (all_seen vs) (whole_of vs y))
    ≡ list_all (is_among vs) (names_step (map-Expr Expr (List Name) names_in (whole_of vs y)))
seen-level vs (Expr-F.Number n) = refl
seen-level vs Expr-F.True = refl
seen-level vs Expr-F.False = refl
seen-level vs Expr-F.Empty = refl
seen-level vs Expr-F.Src = refl
seen-level vs Expr-F.SelfNode = refl
seen-level vs Expr-F.Home = refl
seen-level vs (Expr-F.Var n) = and-true (is_among vs n)
seen-level vs (Expr-F.One a) = a.1
seen-level vs (Expr-F.Not a) = a.1
seen-level vs (Expr-F.Count a) = a.1
seen-level vs (Expr-F.Two op a b) =
    ap (λ z. z && all_seen vs b.0) a.1 ∙ ap (λ z. list_all (is_among vs) (names_in a.0) && z) b.1
    ∙ sym (list_all-append (is_among vs) (names_in a.0) (names_in b.0))

seen_at : (vs : List Variable) (y : Expr-F (Part vs)) → Seen vs (roll-Expr (whole_of vs y))
seen_at vs y = all_seen-roll vs (whole_of vs y) ∙ seen-level vs y ∙ ap (list_all (is_among vs)) (sym (names-roll (whole_of vs y)))

pub all_seen_is : (vs : List Variable) (e : Expr) → Seen vs e
all_seen_is vs = ind-Expr (Seen vs) (λ x y is. subst (λ z. Seen vs (roll-Expr z)) is (seen_at vs y))

pub all_exprs_seen : (c : Scope) (es : List Expr) → list_all (is_seen c) es ≡ list_all (all_seen (visible c)) es
all_exprs_seen c [] = refl
all_exprs_seen c (e ∷ es) = ap (λ z. z && list_all (is_seen c) es) (sym (all_seen_is (visible c) e))
    ∙ ap (λ z. all_seen (visible c) e && z) (all_exprs_seen c es)
