-- The names that are visible in a handler of an accepted protocol are all different, and none is `src`.
use Rattle.std.proofs.Common.{◌≡◌, ◌∙◌, ℕ, Bool, true, false, List, [], ◌∷◌, ◌++◌, Some, None, map, refl, ap, sym, subst, inl}
use Rattle.std.proofs.Common.{inr}
use Rattle.std.specs.Prelude.{cond, codes, find, is_some, Contains, ◌⊎◌}
use Rattle.std.specs.Str.{bytes_eq}
use Rattle.std.proofs.lemmas.Slice.Eq.{bytes_eq-Decides}
use Rattle.tw_base.specs.Lists.{Each}
use Rattle.tw_base.specs.declared.name.Name.{Name}
use Rattle.teapot_tree.specs.declared.protocol.Handler.{Handler}
use Rattle.teapot_tree.specs.declared.protocol.Param.{Param}
use Rattle.teapot_tree.specs.declared.protocol.Protocol.{Protocol}
use Rattle.teapot_tree.specs.declared.protocol.State.{State}
use Rattle.teapot_tree.specs.declared.protocol.ValType.{ValType}
use Rattle.teapot_tree.specs.declared.rule.Rule.TheVariants.{Twice}
use Rattle.teapot_tree.specs.Grammar.{IsName, IsTree}
use Rattle.teapot_tree.specs.Keywords.{keyword_of}
use Rattle.teapot_tree.specs.Parts.{handler_names, option_words, state_names, trigger_words}
use Rattle.teapot_tree.specs.Rules.{Again, Any, IsAccepted, OnPath, visible_names}
use Rattle.teapot_tree.specs.Paths.{Follows, is_enqueue}
use Rattle.teapot_tree.specs.Scopes.{Scope, Variable, args_of, infos_in, is_among, locals_in, of_param, taken_message, typed}
use Rattle.teapot_tree.specs.Scopes.{visible}
use Rattle.teapot_meaning.proofs.Found.{each_both, each_flat, each_left, each_right, is_false}
use Rattle.teapot_meaning.proofs.Sound.{in_handler, scope_of}

abbrev pub name_in : Variable → Name
name_in v = v.name

-- ---- no two of one name

abbrev pub Apart : List Variable → Type 0
Apart [] = Unit {0}
Apart (v ∷ vs) = (is_among vs v.name ≡ false) × Apart vs

among_past : (v : Variable) (vs : List Variable) (n : Name) → is_among vs n ≡ true → is_among (v ∷ vs) n ≡ true
among_past v vs n e = by_test (bytes_eq v.name n)
  where
    by_test : (b : Bool) → is_some (cond b (Some v) (find (λ w. bytes_eq w.name n) vs)) ≡ true
    by_test true = refl
    by_test false = e

among_right : (us vs : List Variable) (n : Name) → is_among vs n ≡ true → is_among (us ++ vs) n ≡ true
among_right [] vs n e = e
among_right (u ∷ us) vs n e = among_past u (us ++ vs) n (among_right us vs n e)

pub apart_right : (us vs : List Variable) → Apart (us ++ vs) → Apart vs
apart_right [] vs a = a
apart_right (u ∷ us) vs a = apart_right us vs a.1

-- what stands in front stands in no other place
pub apart_parts : (us vs : List Variable) (n : Name) → Apart (us ++ vs) → is_among us n ≡ true → is_among vs n ≡ false
apart_parts [] vs n a e = cc
apart_parts (u ∷ us) vs n a e = by_test (bytes_eq u.name n) refl e (apart_parts us vs n a.1)
  where
    by_test : (b : Bool) → bytes_eq u.name n ≡ b → is_some (cond b (Some u) (find (λ w. bytes_eq w.name n) us)) ≡ true →
        (is_among us n ≡ true → is_among vs n ≡ false) → is_among vs n ≡ false
    by_test true h e more =
        let same : u.name ≡ n = (bytes_eq-Decides u.name n).0 h in
        is_false _ (λ k. let m : is_among (us ++ vs) u.name ≡ true = subst (λ w. is_among (us ++ vs) w ≡ true) (sym same)
        (among_right us vs n k) in let f = a.0 in cc)
    by_test false h e more = more e

-- ---- from the rules

abbrev named : List (Name × ℕ) → List Name
named xs = map (λ (x : Name × ℕ). x.0) xs

-- another of the name, and its line
has_again : (n : Name) (xs : List (Name × ℕ)) (vs : List Variable) → map name_in vs ≡ named xs → is_among vs n ≡ true →
    (line : ℕ) × Any (λ (y : Name × ℕ). (y.0 ≡ n) × (y.1 ≡ line)) xs
has_again n [] [] e h = cc
has_again n [] (v ∷ vs) e h = cc
has_again n (x ∷ xs) [] e h = cc
has_again n (x ∷ xs) (v ∷ vs) e h = let tails : map name_in vs ≡ named xs =
    cc in by_test (bytes_eq v.name n) refl h (has_again n xs vs tails)
  where
    heads : v.name ≡ x.0
    heads = cc

    by_test : (b : Bool) → bytes_eq v.name n ≡ b → is_some (cond b (Some v) (find (λ w. bytes_eq w.name n) vs)) ≡ true →
        (is_among vs n ≡ true → (line : ℕ) × Any (λ (y : Name × ℕ). (y.0 ≡ n) × (y.1 ≡ line)) xs) →
        (line : ℕ) × Any (λ (y : Name × ℕ). (y.0 ≡ n) × (y.1 ≡ line)) (x ∷ xs)
    by_test true k h more = (x.1, inl (sym heads ∙ (bytes_eq-Decides v.name n).0 k, refl))
    by_test false k h more = let m = more h in (m.0, inr m.1)

apart_of : (xs : List (Name × ℕ)) (vs : List Variable) → map name_in vs ≡ named xs → ((line : ℕ) → Again xs line → ⊥) → Apart vs
apart_of [] [] e free = tt
apart_of [] (v ∷ vs) e free = cc
apart_of (x ∷ xs) [] e free = tt
apart_of (x ∷ xs) (v ∷ vs) e free =
    let heads : v.name ≡ x.0 = cc in
    let tails : map name_in vs ≡ named xs = cc in (
      is_false _ (λ h. let again = has_again x.0 xs vs tails (subst (λ w. is_among vs w ≡ true) heads h) in free again.0
          (inl again.1)),
      apart_of xs vs tails (λ line a. free line (inr a)),
    )

pub map_both : {X Y : Type 0} (f : X → Y) (xs ys : List X) → map f (xs ++ ys) ≡ map f xs ++ map f ys
map_both f [] ys = refl
map_both f (x ∷ xs) ys = ap (λ zs. f x ∷ zs) (map_both f xs ys)

params_named : (ps : List Param) → map name_in (map of_param ps) ≡ named (map (λ (a : Param). (a.name, a.line)) ps)
params_named [] = refl
params_named (a ∷ ps) = ap (λ ns. a.name ∷ ns) (params_named ps)

args_named : (line : ℕ) (ns : List Name) (ts : List ValType) → map name_in (typed ns ts) ≡ named (map (λ n. (n, line)) ns)
args_named line [] ts = refl
args_named line (n ∷ ns) [] = ap (λ ms. n ∷ ms) (args_named line ns [])
args_named line (n ∷ ns) (t ∷ ts) = ap (λ ms. n ∷ ms) (args_named line ns ts)

joined_names : (us vs : List Variable) (xs ys : List (Name × ℕ)) → map name_in us ≡ named xs → map name_in vs ≡ named ys →
    map name_in (us ++ vs) ≡ named (xs ++ ys)
joined_names us vs xs ys e f = map_both name_in us vs ∙ ap (λ ns. ns ++ map name_in vs) e ∙ ap (λ ns. named xs ++ ns) f
    ∙ sym (map_both (λ (x : Name × ℕ). x.0) xs ys)

visible_named : (c : Scope) → map name_in (visible c) ≡ named (visible_names c)
visible_named c =
    let args = args_named c.handler.line c.handler.args (args_of (taken_message c.protocol c.handler.on)) in
    let inner = joined_names _ (locals_in c) _ _ args (params_named c.handler.locals) in
    joined_names (infos_in c) _ _ _ (params_named c.protocol.infos)
    (joined_names (map of_param c.state.params) _ _ _ (params_named c.state.params) inner)

pub visible_apart : (p : Protocol) (t : State) (h : Handler) → IsAccepted p → Contains p.states t → Contains t.handlers h →
    Apart (visible (scope_of p t h))
visible_apart p t h a i j =
    apart_of (visible_names (scope_of p t h)) (visible (scope_of p t h)) (visible_named (scope_of p t h))
    (λ line x. a.keeps line Twice
    (inr (inr (inr (inr
    (inr (in_handler p t h (λ s. Again (visible_names s) line ⊎ OnPath (Follows is_enqueue is_enqueue line) s) i j
    (inl x))))))))

-- ---- none is `src`

abbrev Free : Name → Type 0
Free n = bytes_eq (codes "src") n ≡ false

src_taken : (profile : ℕ) → (profile ≡ 1) ⊎ (profile ≡ 2) → keyword_of profile (codes "src") ≡ None → ⊥
unfolding keyword_of
src_taken profile (inl e) h = let k : keyword_of 1 (codes "src") ≡ None = subst (λ n. keyword_of n (codes "src") ≡ None) e h in cc
src_taken profile (inr e) h = let k : keyword_of 2 (codes "src") ≡ None = subst (λ n. keyword_of n (codes "src") ≡ None) e h in cc

name_free : (profile : ℕ) (n : Name) → (profile ≡ 1) ⊎ (profile ≡ 2) → IsName profile n → Free n
name_free profile n two is_name =
    is_false _
    (λ e. src_taken profile two (subst (λ w. keyword_of profile w ≡ None)
    (sym ((bytes_eq-Decides (codes "src") n).0 e)) is_name.free))

params_free : (P : Name → Type 0) (ps : List Param) → Each P (map (λ a. a.name) ps) →
    Each (λ (v : Variable). P v.name) (map of_param ps)
params_free P [] h = tt
params_free P (a ∷ ps) h = (h.0, params_free P ps h.1)

args_free : (P : Name → Type 0) (ns : List Name) (ts : List ValType) → Each P ns → Each (λ (v : Variable). P v.name) (typed ns ts)
args_free P [] ts h = tt
args_free P (n ∷ ns) [] h = (h.0, args_free P ns [] h.1)
args_free P (n ∷ ns) (t ∷ ts) h = (h.0, args_free P ns ts h.1)

visible_are : (p : Protocol) (t : State) (h : Handler) → IsTree p → Contains p.states t → Contains t.handlers h →
    Each (λ (v : Variable). IsName p.profile v.name) (visible (scope_of p t h))
visible_are p t h tree i j =
    let N = IsName p.profile in
    let more = each_right N (map (λ m. m.name) p.messages) _ tree.names.1 in
    let infos = each_left N (map (λ a. a.name) p.infos) _ more in
    let states = each_right N (map (λ s. s.state) p.starts) _ (each_right N (map (λ a. a.name) p.infos) _ more) in
    let state = each_flat N state_names p.states t i states in
    let params = each_left N (map (λ a. a.name) t.params) _ state.1 in
    let handlers = each_right N (option_words t.cont) _ (each_right N (map (λ a. a.name) t.params) _ state.1) in
    let handler = each_right N (trigger_words h.on) _ (each_flat N handler_names t.handlers h j handlers) in
    let args = each_left N h.args _ handler in
    let locals = each_left N (map (λ a. a.name) h.locals) _ (each_right N h.args _ handler) in
    let V : Variable → Type 0 = λ v. N v.name in
    each_both V _ _ (params_free N p.infos infos)
    (each_both V _ _ (params_free N t.params params)
    (each_both V _ _ (args_free N h.args (args_of (taken_message p h.on)) args) (params_free N h.locals locals)))

among_free : (vs : List Variable) (n : Name) → Each (λ (v : Variable). Free v.name) vs → is_among vs n ≡ true → Free n
among_free [] n f e = cc
among_free (v ∷ vs) n f e = by_test (bytes_eq v.name n) refl e (among_free vs n f.1)
  where
    by_test : (b : Bool) → bytes_eq v.name n ≡ b → is_some (cond b (Some v) (find (λ w. bytes_eq w.name n) vs)) ≡ true →
        (is_among vs n ≡ true → Free n) → Free n
    by_test true h e more = subst Free ((bytes_eq-Decides v.name n).0 h) f.0
    by_test false h e more = more e

each_under : {X : Type 0} (P Q : X → Type 0) → ((x : X) → P x → Q x) → (xs : List X) → Each P xs → Each Q xs
each_under P Q f [] h = tt
each_under P Q f (x ∷ xs) h = (f x h.0, each_under P Q f xs h.1)

pub visible_free : (p : Protocol) (t : State) (h : Handler) → IsTree p → Contains p.states t → Contains t.handlers h →
    (n : Name) → is_among (visible (scope_of p t h)) n ≡ true → bytes_eq (codes "src") n ≡ false
visible_free p t h tree i j n e =
    among_free (visible (scope_of p t h)) n
    (each_under _ _ (λ v k. name_free p.profile v.name tree.profiles k) (visible (scope_of p t h)) (visible_are p t h tree i j)) e
