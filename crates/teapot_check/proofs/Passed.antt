-- A statement that passes breaks no rule that looks at it alone.
use Rattle.std.proofs.Common.{◌≡◌, Bool, true, false, List, [], ◌∷◌, drop, length, Option, Some, None, is_some, is_none}
use Rattle.std.proofs.Common.{refl, ap, sym, ◌∙◌}
use Rattle.std.specs.Prelude.{◌&&◌, ◌||◌, not}
use Rattle.std.specs.List.{list_all}
use Rattle.std.specs.Option.{option_and_then}
use Rattle.std.specs.Str.{bytes_eq}
use Rattle.tw_base.specs.declared.name.Name.{Name}
use Rattle.teapot_tree.specs.declared.expr.Expr.{Expr}
use Rattle.teapot_tree.specs.declared.protocol.ValType.{ValType}
use Rattle.teapot_tree.specs.declared.protocol.ValType.TheVariants.{Node, Set, Bool as Truth}
use Rattle.teapot_tree.specs.declared.protocol.State.{State}
use Rattle.teapot_tree.specs.Bodies.{assign, send, send_all, set_tag, set_state, suspend, resume, install, enqueue, wake_up}
use Rattle.teapot_tree.specs.Bodies.{error}
use Rattle.teapot_tree.specs.Paths.{Deed, does, tests, repeats, goes_on}
use Rattle.teapot_tree.specs.Rules.{are_fit, drops_cont, has_cont, has_wrong_count, has_wrong_type, is_fit}
use Rattle.teapot_tree.specs.Rules.{is_message, is_message_count, is_seen, is_state, is_state_count, lacks_cont, lacks_data}
use Rattle.teapot_tree.specs.Rules.{message_types, resumes_foreign, state_types, type_in, types_in, uses_undeclared}
use Rattle.teapot_tree.specs.Scopes.{Scope, Variable, assignable, is_among, is_of, locals_in, message_of, state_of, type_among}
use Rattle.teapot_tree.specs.Scopes.{variable, visible}
use Rattle.teapot_rules.specs.Faults.{same_truth}
use Rattle.teapot_rules.specs.Names.{all_seen}
use Rattle.teapot_rules.proofs.Seeing.{all_exprs_seen}
use Rattle.teapot_check.specs.Passing.{is_given, passes, takes_message, takes_state}
use Rattle.teapot_check.proofs.Typing.{both_left, both_right, of_some, typed_is_seen}

-- none of the rules is broken there
pub record Fine (c : Scope) (d : Deed) : Type 0 where
  pub declared : uses_undeclared c d ≡ false
  pub typed : has_wrong_type c d ≡ false
  pub counted : has_wrong_count c d ≡ false
  pub keeps : drops_cont c d ≡ false
  pub own : resumes_foreign c d ≡ false
  pub given : lacks_data c d ≡ false

type-among-some : (o : Option Variable) → is_some (option_and_then (λ (v : Variable). v.ty) o) ≡ true → is_some o ≡ true
type-among-some None e = e
type-among-some (Some v) e = refl

among : (vs : List Variable) (n : Name) → is_some (type_among vs n) ≡ true → is_among vs n ≡ true
among vs n e = type-among-some (variable vs n) e

-- ---- expressions

seen_one : (c : Scope) (e : Expr) → is_some (type_in c e) ≡ true → list_all (is_seen c) (e ∷ []) ≡ true
seen_one c e h = all_exprs_seen c (e ∷ []) ∙ ap (λ z. z && true) (typed_is_seen (visible c) e h)

fit-some : (ts : List ValType) (a : Option ValType) (more : List (Option ValType)) → are_fit ts (a ∷ more) ≡ true →
    is_some a ≡ true
fit-some [] a more e = both_left (is_some a) (are_fit [] more) e
fit-some (t ∷ ts) a more e = of_some t a (both_left (is_of t a) (are_fit ts more) e)

fit-rest : (ts : List ValType) (a : Option ValType) (more : List (Option ValType)) → are_fit ts (a ∷ more) ≡ true →
    are_fit (drop 1 ts) more ≡ true
fit-rest [] a more e = both_right (is_some a) (are_fit [] more) e
fit-rest (t ∷ ts) a more e = both_right (is_of t a) (are_fit ts more) e

fit-seen : (c : Scope) (ts : List ValType) (es : List Expr) → are_fit ts (types_in c es) ≡ true →
    list_all (all_seen (visible c)) es ≡ true
fit-seen c ts [] e = refl
fit-seen c ts (x ∷ es) e =
    ap (λ z. z && list_all (all_seen (visible c)) es) (typed_is_seen (visible c) x (fit-some ts (type_in c x) (types_in c es) e))
    ∙ fit-seen c (drop 1 ts) es (fit-rest ts (type_in c x) (types_in c es) e)

seen_all : (c : Scope) (ts : List ValType) (es : List Expr) → are_fit ts (types_in c es) ≡ true → list_all (is_seen c) es ≡ true
seen_all c ts es e = all_exprs_seen c es ∙ fit-seen c ts es e

seen_more : (c : Scope) (ts : List ValType) (x : Expr) (es : List Expr) → is_some (type_in c x) ≡ true →
    are_fit ts (types_in c es) ≡ true
    → list_all (is_seen c) (x ∷ es) ≡ true
seen_more c ts x es h e =
    all_exprs_seen c (x ∷ es) ∙ ap (λ z. z && list_all (all_seen (visible c)) es) (typed_is_seen (visible c) x h)
    ∙ fit-seen c ts es e

-- ---- statements

and-not : (a b : Bool) → a ≡ true → b ≡ true → not (a && b) ≡ false
and-not a b e f = ap (λ z. not (z && b)) e ∙ ap not f

given-some : (t found : Option ValType) → is_given t found ≡ true → is_some t ≡ true
given-some None found e = absurd (cc)
given-some (Some t) found e = refl

given-found : (t found : Option ValType) → is_given t found ≡ true → is_some found ≡ true
given-found None found e = absurd (cc)
given-found (Some t) found e = of_some t found e

given-fit : (t found : Option ValType) → is_given t found ≡ true → is_fit t found ≡ true
given-fit None found e = absurd (cc)
given-fit (Some t) found e = e

assigned : (c : Scope) (n : Name) (e : Expr) → passes c (does (assign n e)) ≡ true → Fine c (does (assign n e))
assigned c n e h =
    let ty = type_among (assignable c) n in
    record {
      declared = and-not (is_among (assignable c) n) (list_all (is_seen c) (e ∷ []))
          (among (assignable c) n (given-some ty (type_in c e) h))
          (seen_one c e (given-found ty (type_in c e) h));
      typed = ap not (given-fit ty (type_in c e) h);
      counted = refl;
      keeps = refl;
      own = refl;
      given = refl;
    }

sent : (c : Scope) (e : Expr) (n : Name) (xs : List Expr) → passes c (does (send e n xs)) ≡ true → Fine c (does (send e n xs))
sent c e n xs h =
    let to = both_left (is_of Node (type_in c e)) (takes_message c n xs) h in
    let takes = both_right (is_of Node (type_in c e)) (takes_message c n xs) h in
    let count = is_message_count (message_of c.protocol n) (length xs) in
    let fit = are_fit (message_types c n) (types_in c xs) in
    let here = both_left (is_message c n) (count && fit) takes in
    let rest = both_right (is_message c n) (count && fit) takes in
    record {
      declared = and-not (is_message c n) (list_all (is_seen c) (e ∷ xs)) here
          (seen_more c (message_types c n) e xs (of_some Node (type_in c e) to) (both_right count fit rest));
      typed = and-not (is_of Node (type_in c e)) fit to (both_right count fit rest);
      counted = ap not (both_left count fit rest);
      keeps = refl;
      own = refl;
      given = refl;
    }

sent_all : (c : Scope) (e : Expr) (n : Name) (xs : List Expr) → passes c (does (send_all e n xs)) ≡ true →
    Fine c (does (send_all e n xs))
sent_all c e n xs h =
    let to = both_left (is_of Set (type_in c e)) (takes_message c n xs) h in
    let takes = both_right (is_of Set (type_in c e)) (takes_message c n xs) h in
    let count = is_message_count (message_of c.protocol n) (length xs) in
    let fit = are_fit (message_types c n) (types_in c xs) in
    let here = both_left (is_message c n) (count && fit) takes in
    let rest = both_right (is_message c n) (count && fit) takes in
    record {
      declared = and-not (is_message c n) (list_all (is_seen c) (e ∷ xs)) here
          (seen_more c (message_types c n) e xs (of_some Set (type_in c e) to) (both_right count fit rest));
      typed = and-not (is_of Set (type_in c e)) fit to (both_right count fit rest);
      counted = ap not (both_left count fit rest);
      keeps = refl;
      own = refl;
      given = refl;
    }

-- a state that has a continuation where the one before has it, and none where that has none
has-some : (o : Option State) → is_some o ≡ true → has_cont o ≡ not (lacks_cont o)
has-some None e = absurd (cc)
has-some (Some s) e = cont-some s.cont where
  cont-some : (k : Option Name) → is_some k ≡ not (is_none k)
  cont-some None = refl
  cont-some (Some n) = refl

cont-same : (own has lacks : Bool) → has ≡ not lacks → same_truth own has ≡ true → (own || not has) ≡ true
cont-same true has lacks is e = refl
cont-same false has lacks is e = e

cont-kept : (own has lacks : Bool) → has ≡ not lacks → same_truth own has ≡ true → (own && lacks) ≡ false
cont-kept true has true is e = absurd (cc)
cont-kept true has false is e = refl
cont-kept false has lacks is e = refl

state_set : (c : Scope) (n : Name) (xs : List Expr) → passes c (does (set_state n xs)) ≡ true → Fine c (does (set_state n xs))
state_set c n xs h =
    let s = state_of c.protocol n in
    let own = is_some c.state.cont in
    let same = both_left (same_truth own (has_cont s)) (takes_state c n xs) h in
    let takes = both_right (same_truth own (has_cont s)) (takes_state c n xs) h in
    let count = is_state_count s (length xs) in
    let fit = are_fit (state_types c n) (types_in c xs) in
    let here = both_left (is_state c n) (count && fit) takes in
    let rest = both_right (is_state c n) (count && fit) takes in
    let is = has-some s here in
    record {
      declared = and-not (is_state c n) (list_all (is_seen c) xs) here
          (seen_all c (state_types c n) xs (both_right count fit rest));
      typed = ap not (both_right count fit rest);
      counted = and-not count (own || not (has_cont s)) (both_left count fit rest)
          (cont-same own (has_cont s) (lacks_cont s) is same);
      keeps = cont-kept own (has_cont s) (lacks_cont s) is same;
      own = refl;
      given = refl;
    }

lacks-not : (has lacks : Bool) → has ≡ not lacks → has ≡ true → not lacks ≡ true
lacks-not has lacks is e = sym is ∙ e

suspended : (c : Scope) (l n : Name) (xs : List Expr) (p : Name) → passes c (does (suspend l n xs p)) ≡ true →
    Fine c (does (suspend l n xs p))
suspended c l n xs p h =
    let s = state_of c.protocol n in
    let label = both_left (bytes_eq p l) (has_cont s && takes_state c n xs) h in
    let more = both_right (bytes_eq p l) (has_cont s && takes_state c n xs) h in
    let has = both_left (has_cont s) (takes_state c n xs) more in
    let takes = both_right (has_cont s) (takes_state c n xs) more in
    let count = is_state_count s (length xs) in
    let fit = are_fit (state_types c n) (types_in c xs) in
    let here = both_left (is_state c n) (count && fit) takes in
    let rest = both_right (is_state c n) (count && fit) takes in
    record {
      declared = and-not (is_state c n && bytes_eq p l) (list_all (is_seen c) xs) (ap (λ z. z && bytes_eq p l) here ∙ label)
          (seen_all c (state_types c n) xs (both_right count fit rest));
      typed = ap not (both_right count fit rest);
      counted = and-not count (not (lacks_cont s)) (both_left count fit rest)
          (lacks-not (has_cont s) (lacks_cont s) (has-some s here) has);
      keeps = refl;
      own = refl;
      given = refl;
    }

tested : (c : Scope) (e : Expr) → passes c (tests e) ≡ true → Fine c (tests e)
tested c e h = record {
  declared = ap not (seen_one c e (of_some Truth (type_in c e) h));
  typed = ap not h;
  counted = refl;
  keeps = refl;
  own = refl;
  given = refl;
}

repeated : (c : Scope) (n : Name) (e : Expr) → passes c (repeats n e) ≡ true → Fine c (repeats n e)
repeated c n e h =
    let ty = type_among (locals_in c) n in
    let var = both_left (is_of Node ty) (is_of Set (type_in c e)) h in
    let set = both_right (is_of Node ty) (is_of Set (type_in c e)) h in
    record {
      declared = and-not (is_among (locals_in c) n) (list_all (is_seen c) (e ∷ [])) (among (locals_in c) n (of_some Node ty var))
          (seen_one c e (of_some Set (type_in c e) set));
      typed = ap not h;
      counted = refl;
      keeps = refl;
      own = refl;
      given = refl;
    }

not-not : (b : Bool) → not b ≡ true → b ≡ false
not-not true e = absurd (cc)
not-not false e = refl

pub passed : (c : Scope) (d : Deed) → passes c d ≡ true → Fine c d
passed c (does (assign n e)) h = assigned c n e h
passed c (does (send e n xs)) h = sent c e n xs h
passed c (does (send_all e n xs)) h = sent_all c e n xs h
passed c (does (set_tag t)) h = record { declared = refl; typed = refl; counted = refl; keeps = refl; own = refl; given = refl }
passed c (does (set_state n xs)) h = state_set c n xs h
passed c (does (suspend l n xs p)) h = suspended c l n xs p h
passed c (does (resume n)) h = record {
  declared = refl;
  typed = refl;
  counted = refl;
  keeps = refl;
  own = not-not (resumes_foreign c (does (resume n))) h;
  given = refl;
}
passed c (does install) h = record {
  declared = refl;
  typed = refl;
  counted = refl;
  keeps = refl;
  own = refl;
  given = not-not (lacks_data c (does install)) h;
}
passed c (does enqueue) h = record { declared = refl; typed = refl; counted = refl; keeps = refl; own = refl; given = refl }
passed c (does wake_up) h = record { declared = refl; typed = refl; counted = refl; keeps = refl; own = refl; given = refl }
passed c (does (error n)) h = record { declared = refl; typed = refl; counted = refl; keeps = refl; own = refl; given = refl }
passed c (tests e) h = tested c e h
passed c (repeats n e) h = repeated c n e h
passed c goes_on h = record { declared = refl; typed = refl; counted = refl; keeps = refl; own = refl; given = refl }
