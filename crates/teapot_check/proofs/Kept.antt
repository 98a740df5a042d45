-- A handler whose statements pass breaks no rule.
use Rattle.std.proofs.Common.{◌≡◌, ℕ, ◌+◌, ◌≤◌, nat_lt, Bool, true, false, List, [], ◌∷◌, ◌++◌, map}
use Rattle.std.proofs.Common.{Option, Some, None, is_some, cond, refl, ap, sym, ◌∙◌}
use Rattle.std.specs.Prelude.{◌&&◌, ◌||◌, ◌==◌, not}
use Rattle.std.specs.List.{list_any}
use Rattle.std.specs.Str.{bytes_eq}
use Rattle.std.proofs.lemmas.Bool.{le-ltb}
use Rattle.std.proofs.lemmas.List.{map-append}
use Rattle.tw_base.specs.declared.name.Name.{Name}
use Rattle.teapot_tree.specs.declared.protocol.Param.{Param}
use Rattle.teapot_tree.specs.declared.protocol.ValType.{ValType}
use Rattle.teapot_tree.specs.declared.rule.Rule.{Rule}
use Rattle.teapot_tree.specs.declared.rule.Rule.TheVariants.{Undeclared, Twice, WrongType, ArgCount, NoDefault, ContDropped}
use Rattle.teapot_tree.specs.declared.rule.Rule.TheVariants.{ResumeNotLast, ResumeForeign, AfterSuspend, NoData, TooManySends}
use Rattle.teapot_tree.specs.declared.rule.Rule.TheVariants.{NotTwoStarts}
use Rattle.teapot_tree.specs.Bodies.{Body, done, plain, branch, branches, loop, each}
use Rattle.teapot_tree.specs.Paths.{Deed, does, tests, repeats, goes_on, Step, steps_in, is_enqueue, is_install, is_resume}
use Rattle.teapot_tree.specs.Rules.{answers_undeclared, body_in, counts_wrongly, is_late, visible_names}
use Rattle.teapot_tree.specs.Scopes.{Scope, Variable, args_of, is_among, of_param, taken_message, typed, variable, visible}
use Rattle.teapot_rules.specs.Deeds.{breaks_at, comes_first}
use Rattle.teapot_rules.specs.Faults.{again_names, body_lines, handler_lines}
use Rattle.teapot_rules.specs.Lists.{again, least, lesser, line_if}
use Rattle.teapot_rules.specs.Walks.{is_some_body, meets, most, walk}
use Rattle.teapot_rules.proofs.Ruling.{walk_lines}
use Rattle.teapot_check.specs.declared.passing.Look.TheVariants as look
use Rattle.teapot_check.specs.Passing.{HeadsWell, KeepsOrder, is_placed, looked, passes, recurs}
use Rattle.teapot_check.proofs.Passed.{Fine, passed}

either-left : (a b : Bool) → (a || b) ≡ false → a ≡ false
either-left true b e = e
either-left false b e = refl

either-right : (a b : Bool) → (a || b) ≡ false → b ≡ false
either-right true b e = absurd (cc)
either-right false b e = e

any-left : {X : Type 0} (f : X → Bool) (xs ys : List X) → list_any f (xs ++ ys) ≡ false → list_any f xs ≡ false
any-left f [] ys e = refl
any-left f (x ∷ xs) ys e =
    ap (λ z. z || list_any f xs) (either-left (f x) (list_any f (xs ++ ys)) e)
    ∙ any-left f xs ys (either-right (f x) (list_any f (xs ++ ys)) e)

any-right : {X : Type 0} (f : X → Bool) (xs ys : List X) → list_any f (xs ++ ys) ≡ false → list_any f ys ≡ false
any-right f [] ys e = e
any-right f (x ∷ xs) ys e = any-right f xs ys (either-right (f x) (list_any f (xs ++ ys)) e)

no-line : (b : Bool) (line : ℕ) → b ≡ false → line_if b line ≡ []
no-line true line e = absurd (cc)
no-line false line e = refl

none-both : (xs ys : List ℕ) → xs ≡ [] → ys ≡ [] → xs ++ ys ≡ []
none-both xs ys e f = ap (λ z. z ++ ys) e ∙ f

-- where no statement is of a kind, a walk finds no line if it finds those of the kind alone
module _ (one : Deed → Bool) (test : Bool → Bool → Deed → Bool) (kind : Deed → Bool)
    (spares : (h m : Bool) (d : Deed) → kind d ≡ false → test h m d ≡ false) where
  abbrev kind-at : Step → Bool
  kind-at s = kind s.deed

  own : (h m : Bool) (d : Deed) (line : ℕ) (more : Bool) → (kind d || more) ≡ false → line_if (test h m d) line ≡ []
  own h m d line more e = no-line (test h m d) line (spares h m d (either-left (kind d) more e))

  pub none_met : (b : Body) (had more : Bool) → meets kind b ≡ false → walk one test b had more ≡ []
  none_met done had more e = refl
  none_met (plain line s b) had more e =
      none-both (line_if (test had (is_some_body b || more) (does s)) line) (walk one test b (had || one (does s)) more)
      (own had (is_some_body b || more) (does s) line (meets kind b) e)
      (none_met b (had || one (does s)) more (either-right (kind (does s)) (meets kind b) e))
  none_met (branch line t x b) had more e =
      let m = is_some_body b || more in
      let h = had || one (tests t) in
      let rest = either-right (kind (tests t)) (list_any kind-at (steps_in x ++ steps_in b)) e in
      none-both (line_if (test had m (tests t)) line) (walk one test x h m ++ walk one test b (h || meets one x) more)
      (own had m (tests t) line (list_any kind-at (steps_in x ++ steps_in b)) e)
      (none-both (walk one test x h m) (walk one test b (h || meets one x) more)
      (none_met x h m (any-left kind-at (steps_in x) (steps_in b) rest))
      (none_met b (h || meets one x) more (any-right kind-at (steps_in x) (steps_in b) rest)))
  none_met (branches line t x y b) had more e =
      let m = is_some_body b || more in
      let h = had || one (tests t) in
      let k = h || meets one x || meets one y in
      let rest = either-right (kind (tests t)) (list_any kind-at (steps_in x ++ (steps_in y ++ steps_in b))) e in
      let last = any-right kind-at (steps_in x) (steps_in y ++ steps_in b) rest in
      none-both (line_if (test had m (tests t)) line) (walk one test x h m ++ (walk one test y h m ++ walk one test b k more))
      (own had m (tests t) line (list_any kind-at (steps_in x ++ (steps_in y ++ steps_in b))) e)
      (none-both (walk one test x h m) (walk one test y h m ++ walk one test b k more)
      (none_met x h m (any-left kind-at (steps_in x) (steps_in y ++ steps_in b) rest))
      (none-both (walk one test y h m) (walk one test b k more)
      (none_met y h m (any-left kind-at (steps_in y) (steps_in b) last))
      (none_met b k more (any-right kind-at (steps_in y) (steps_in b) last))))
  none_met (loop line v t x b) had more e =
      let m = is_some_body b || more in
      let h = had || one (repeats v t) || meets one x in
      let rest = either-right (kind (repeats v t)) (list_any kind-at (steps_in x ++ steps_in b)) e in
      none-both (line_if (test had m (repeats v t)) line) (walk one test x h true ++ walk one test b h more)
      (own had m (repeats v t) line (list_any kind-at (steps_in x ++ steps_in b)) e)
      (none-both (walk one test x h true) (walk one test b h more)
      (none_met x h true (any-left kind-at (steps_in x) (steps_in b) rest))
      (none_met b h more (any-right kind-at (steps_in x) (steps_in b) rest)))
  none_met (each line v s x b) had more e =
      none-both (line_if (test had (is_some_body b || more) goes_on) line) (walk one test b (had || one goes_on) more)
      (own had (is_some_body b || more) goes_on line (meets kind b) e)
      (none_met b (had || one goes_on) more (either-right (kind goes_on) (meets kind b) e))

-- ---- rules that look at a statement alone

not-true : (b : Bool) → not b ≡ false → b ≡ true
not-true true e = refl
not-true false e = absurd (cc)

stopped-fine : (c : Scope) (d : Deed) → looked look.Stopped c d ≡ false → Fine c d
stopped-fine c d e = passed c d (not-true (passes c d) e)

module _ (c : Scope) (r : Rule) (kind : Deed → Bool) (spares : (h m : Bool) (d : Deed) → kind d ≡ false →
    breaks_at c r h m d ≡ false)
    (none : meets kind (body_in c) ≡ false) where
  pub no_lines : body_lines r c ≡ []
  no_lines = sym (walk_lines r c) ∙ none_met (comes_first r) (breaks_at c r) kind spares (body_in c) false false none

-- ---- rules that look at what comes before or behind

and-none : (h b : Bool) → b ≡ false → (h && b) ≡ false
and-none true b e = e
and-none false b e = refl

spares-twice : (c : Scope) (h m : Bool) (d : Deed) → is_placed d ≡ false → breaks_at c Twice h m d ≡ false
spares-twice c h m d e = and-none h (is_enqueue d) (either-left (is_enqueue d) (is_install d || is_resume d) e)

spares-last : (c : Scope) (h m : Bool) (d : Deed) → is_placed d ≡ false → breaks_at c ResumeNotLast h m d ≡ false
spares-last c h m d e =
    ap (λ z. z && m) (either-right (is_install d) (is_resume d) (either-right (is_enqueue d) (is_install d || is_resume d) e))

late-none : (profile : ℕ) (d : Deed) → is_enqueue d ≡ false → is_install d ≡ false → is_late profile d ≡ false
late-none profile d e f = ap (λ z. z || ((profile == 1) && is_install d)) e ∙ ap (λ z. (profile == 1) && z) f
    ∙ and-none (profile == 1) false refl

spares-late : (c : Scope) (h m : Bool) (d : Deed) → is_placed d ≡ false → breaks_at c AfterSuspend h m d ≡ false
spares-late c h m d e = and-none h (is_late c.protocol.profile d)
    (late-none c.protocol.profile d (either-left (is_enqueue d) (is_install d || is_resume d) e)
    (either-left (is_install d) (is_resume d) (either-right (is_enqueue d) (is_install d || is_resume d) e)))

pub none_placed : (c : Scope) → meets is_placed (body_in c) ≡ false → KeepsOrder c
none_placed c e = record {
  twice = no_lines c Twice is_placed (spares-twice c) e;
  last = no_lines c ResumeNotLast is_placed (spares-last c) e;
  late = no_lines c AfterSuspend is_placed (spares-late c) e;
}

-- ---- names

abbrev name-of : Variable → Name
name-of v = v.name

abbrev first-of : Name × ℕ → Name
first-of x = x.0

some-cond : (b : Bool) (v : Variable) (o : Option Variable) → is_some (cond b (Some v) o) ≡ (b || is_some o)
some-cond true v o = refl
some-cond false v o = refl

some-any : (vs : List Variable) (ns : List (Name × ℕ)) (n : Name) → map name-of vs ≡ map first-of ns
    → is_among vs n ≡ list_any (λ (y : Name × ℕ). bytes_eq y.0 n) ns
some-any [] [] n e = refl
some-any [] (x ∷ ns) n e = absurd (cc)
some-any (v ∷ vs) [] n e = absurd (cc)
some-any (v ∷ vs) (x ∷ ns) n e =
    let first : v.name ≡ x.0 = cc in
    let rest : map name-of vs ≡ map first-of ns = cc in
    some-cond (bytes_eq v.name n) v (variable vs n) ∙ ap (λ z. bytes_eq v.name n || z) (some-any vs ns n rest)
    ∙ ap (λ z. bytes_eq z n || list_any (λ (y : Name × ℕ). bytes_eq y.0 n) ns) first

differ : (before vs : List Variable) (seen ns : List (Name × ℕ)) → map name-of before ≡ map first-of seen →
    map name-of vs ≡ map first-of ns
    → recurs before vs ≡ false
    → again (λ (x : Name × ℕ) (y : Name × ℕ). bytes_eq y.0 x.0) (λ (x : Name × ℕ). x.1) seen ns ≡ []
differ before [] seen [] e f none = refl
differ before [] seen (x ∷ ns) e f none = absurd (cc)
differ before (v ∷ vs) seen [] e f none = absurd (cc)
differ before (v ∷ vs) seen (x ∷ ns) e f none =
    let first : v.name ≡ x.0 = cc in
    let rest : map name-of vs ≡ map first-of ns = cc in
    let here = either-left (is_among before v.name) (recurs (before ++ v ∷ []) vs) none in
    let later = either-right (is_among before v.name) (recurs (before ++ v ∷ []) vs) none in
    let any = sym (some-any before seen x.0 e) ∙ ap (is_among before) (sym first) ∙ here in
    let longer = map-append name-of before (v ∷ []) ∙ ap (λ z. z ++ v.name ∷ []) e ∙ ap (λ z. map first-of seen ++ z ∷ []) first
    ∙ sym (map-append first-of seen (x ∷ [])) in
    none-both (line_if (list_any (λ (y : Name × ℕ). bytes_eq y.0 x.0) seen) x.1)
    (again (λ (x : Name × ℕ) (y : Name × ℕ). bytes_eq y.0 x.0) (λ (x : Name × ℕ). x.1) (seen ++ x ∷ []) ns)
    (no-line (list_any (λ (y : Name × ℕ). bytes_eq y.0 x.0) seen) x.1 any)
    (differ (before ++ v ∷ []) vs (seen ++ x ∷ []) ns longer rest later)

named-params : (ps : List Param) → map name-of (map of_param ps) ≡ map first-of (map (λ (a : Param). (a.name, a.line)) ps)
named-params [] = refl
named-params (a ∷ ps) = ap (λ z. a.name ∷ z) (named-params ps)

named-args : (ns : List Name) (ts : List ValType) (line : ℕ) → map name-of (typed ns ts) ≡ map first-of (map (λ n. (n, line)) ns)
named-args [] ts line = refl
named-args (n ∷ ns) [] line = ap (λ z. n ∷ z) (named-args ns [] line)
named-args (n ∷ ns) (t ∷ ts) line = ap (λ z. n ∷ z) (named-args ns ts line)

joined : (vs ws : List Variable) (ns ms : List (Name × ℕ)) → map name-of vs ≡ map first-of ns → map name-of ws ≡ map first-of ms
    → map name-of (vs ++ ws) ≡ map first-of (ns ++ ms)
joined vs ws ns ms e f = map-append name-of vs ws ∙ ap (λ z. z ++ map name-of ws) e ∙ ap (λ z. map first-of ns ++ z) f
    ∙ sym (map-append first-of ns ms)

visible-named : (c : Scope) → map name-of (visible c) ≡ map first-of (visible_names c)
visible-named c = joined _ _ _ _ (named-params c.protocol.infos) (joined _ _ _ _ (named-params c.state.params)
    (joined _ _ _ _ (named-args c.handler.args (args_of (taken_message c.protocol c.handler.on)) c.handler.line)
    (named-params c.handler.locals)))

-- ---- the whole

few-sends : (n line : ℕ) → n ≤ 32 → line_if (nat_lt 32 n) line ≡ []
few-sends n line e = ap (λ z. line_if z line) (le-ltb 32 n e)

module _ (c : Scope) (heads : HeadsWell c) (fine : meets (looked look.Stopped c) (body_in c) ≡ false) (order : KeepsOrder c) where
  alone : (r : Rule) → ((h m : Bool) (d : Deed) → Fine c d → breaks_at c r h m d ≡ false) → body_lines r c ≡ []
  alone r f = no_lines c r (looked look.Stopped c) (λ h m d e. f h m d (stopped-fine c d e)) fine

  pub no_rule_broken : (r : Rule) → handler_lines r c ≡ []
  no_rule_broken Undeclared = none-both (line_if (answers_undeclared c.protocol c.handler.on) c.handler.line)
      (body_lines Undeclared c)
      (no-line (answers_undeclared c.protocol c.handler.on) c.handler.line heads.declared)
      (alone Undeclared (λ h m d f. f.declared))
  no_rule_broken Twice = none-both (again_names (visible_names c)) (body_lines Twice c)
      (differ [] (visible c) [] (visible_names c) refl (visible-named c) heads.differ) order.twice
  no_rule_broken WrongType = alone WrongType (λ h m d f. f.typed)
  no_rule_broken ArgCount = none-both (line_if (counts_wrongly c.protocol c.handler.on c.handler.args) c.handler.line)
      (body_lines ArgCount c)
      (no-line (counts_wrongly c.protocol c.handler.on c.handler.args) c.handler.line heads.counted)
      (alone ArgCount (λ h m d f. f.counted))
  no_rule_broken NoDefault = refl
  no_rule_broken ContDropped = alone ContDropped (λ h m d f. f.keeps)
  no_rule_broken ResumeNotLast = order.last
  no_rule_broken ResumeForeign = alone ResumeForeign (λ h m d f. f.own)
  no_rule_broken AfterSuspend = order.late
  no_rule_broken NoData = alone NoData (λ h m d f. f.given)
  no_rule_broken TooManySends = few-sends (most (body_in c)) c.handler.line heads.few
  no_rule_broken NotTwoStarts = refl

-- no least line, no line
pub none_least : (xs : List ℕ) → least xs ≡ None → xs ≡ []
none_least [] e = refl
none_least (x ∷ xs) e = absurd (least-some x (least xs) e) where
  least-some : (y : ℕ) (o : Option ℕ) → lesser (Some y) o ≡ None → ⊥
  least-some y None f = cc
  least-some y (Some z) f = cc
