-- The statements of an accepted protocol name what is declared, with as many arguments.
use Rattle.std.proofs.Common.{◌≡◌, ◌∙◌, ℕ, zero, suc, ◌+◌, Bool, true, false, List, [], ◌∷◌, ◌++◌, Option, Some, None, length}
use Rattle.std.proofs.Common.{refl, ap, sym, subst, arith, inl, inr, ◌⊎◌}
use Rattle.std.specs.Prelude.{codes, cond, find, is_some, map, position, slice_get, Contains}
use Rattle.std.specs.Str.{bytes_eq}
use Rattle.std.proofs.lemmas.Bool.{and_parts, eqb-true}
use Rattle.tw_base.specs.declared.name.Name.{Name}
use Rattle.teapot_tree.specs.declared.protocol.Handler.{Handler}
use Rattle.teapot_tree.specs.declared.protocol.Param.{Param}
use Rattle.teapot_tree.specs.declared.protocol.Protocol.{Protocol}
use Rattle.teapot_tree.specs.declared.protocol.State.{State}
use Rattle.teapot_tree.specs.declared.stmt.Do.{out-roll-Do}
use Rattle.teapot_tree.specs.declared.stmt.Do.TheOpen.{Do-F}
use Rattle.teapot_tree.specs.declared.stmt.Stmt.{Stmt}
use Rattle.teapot_tree.specs.Bodies.{Simple, assign, send, send_all, set_tag, set_state, suspend, resume, install, enqueue}
use Rattle.teapot_tree.specs.Bodies.{wake_up, error, Body, done, plain, branch, branches, loop, each, body_of, do_of, stmt}
use Rattle.teapot_tree.specs.Bodies.{tree_of}
use Rattle.teapot_tree.specs.Parts.{eaches}
use Rattle.teapot_tree.specs.Paths.{does, repeats, tests}
use Rattle.teapot_tree.specs.Rules.{IsAccepted, is_message_count, is_state_count}
use Rattle.teapot_tree.specs.Scopes.{Variable, assignable, infos_in, is_among, locals_in, message_number, message_of, of_param}
use Rattle.teapot_tree.specs.Scopes.{state_number, state_of}
use Rattle.teapot_tree.proofs.Iso.{tree-body}
use Rattle.teapot_meaning.specs.Fits.{names_in}
use Rattle.teapot_meaning.specs.Layers.{Layer}
use Rattle.teapot_meaning.specs.Names.{declared, info_number}
use Rattle.teapot_meaning.proofs.Found.{each_at, each_flat, place_found}
use Rattle.teapot_meaning.proofs.Sound.{Keeps, are_sound, is_sound, keeps, layer_sound, scope_of, sound_at, sound_body, unpacked}
use Rattle.handler_code.specs.declared.code.OpCode.{OpCode}
use Rattle.handler_code.specs.declared.code.OpCode.TheVariants as op
use Rattle.handler_code.specs.Machine.{message_arity, state_arity}
use Rattle.compiled_meaning.specs.Follows.{plain_op, put_op, slot_of}
use Rattle.compiled_meaning.specs.Whole.{Entry, entries_from, entries_of}
use Rattle.compiled_meaning.proofs.Fine.{Fine}
use Rattle.compiled_meaning.proofs.Fine as fine
use Rattle.compiled_meaning.proofs.Handlers.{AllFine}

-- ---- names

-- the item that a test finds, and its place
pub some_of : {X : Type 0} (o : Option X) → is_some o ≡ true → (x : X) × (o ≡ Some x)
some_of (Some x) e = (x, refl)
some_of None e = cc

pub has_place : {X : Type 0} (t : X → Bool) (xs : List X) → is_some (find t xs) ≡ true → (k : ℕ) × (position t xs ≡ Some k)
has_place t xs e =
    let x = some_of (find t xs) e in
    let k = place_found t xs x.0 x.1 in
    (k.0, k.1)

found_behind : {X : Type 0} (t : X → Bool) (xs ys : List X) → is_some (find t ys) ≡ true → is_some (find t (xs ++ ys)) ≡ true
found_behind t [] ys e = e
found_behind t (x ∷ xs) ys e = by_test (t x) (found_behind t xs ys e)
  where
    by_test : (b : Bool) → is_some (find t (xs ++ ys)) ≡ true → is_some (cond b (Some x) (find t (xs ++ ys))) ≡ true
    by_test true h = refl
    by_test false h = h

among_parts : (us vs : List Variable) (n : Name) → is_among (us ++ vs) n ≡ true → (is_among us n ≡ true) ⊎ (is_among vs n ≡ true)
among_parts [] vs n e = inr e
among_parts (u ∷ us) vs n e = by_test (bytes_eq u.name n) e (among_parts us vs n)
  where
    by_test : (b : Bool) → is_some (cond b (Some u) (find (λ w. bytes_eq w.name n) (us ++ vs))) ≡ true →
        (is_among (us ++ vs) n ≡ true → (is_among us n ≡ true) ⊎ (is_among vs n ≡ true)) →
        (is_some (cond b (Some u) (find (λ w. bytes_eq w.name n) us)) ≡ true) ⊎ (is_among vs n ≡ true)
    by_test true e more = inl refl
    by_test false e more = more e

param_found : (ps : List Param) (n : Name) → is_among (map of_param ps) n ≡ true →
    is_some (find (λ (a : Param). bytes_eq a.name n) ps) ≡ true
param_found [] n e = cc
param_found (a ∷ ps) n e = by_test (bytes_eq a.name n) e (param_found ps n)
  where
    by_test : (b : Bool) → is_some (cond b (Some (of_param a)) (find (λ w. bytes_eq w.name n) (map of_param ps))) ≡ true →
        (is_among (map of_param ps) n ≡ true → is_some (find (λ (x : Param). bytes_eq x.name n) ps) ≡ true) →
        is_some (cond b (Some a) (find (λ (x : Param). bytes_eq x.name n) ps)) ≡ true
    by_test true e more = refl
    by_test false e more = more e

name_found : (ps : List Param) (n : Name) → is_some (find (λ (a : Param). bytes_eq a.name n) ps) ≡ true →
    is_some (find (λ m. bytes_eq m n) (map (λ a. a.name) ps)) ≡ true
name_found [] n e = cc
name_found (a ∷ ps) n e = by_test (bytes_eq a.name n) e (name_found ps n)
  where
    by_test : (b : Bool) → is_some (cond b (Some a) (find (λ (x : Param). bytes_eq x.name n) ps)) ≡ true →
        (is_some (find (λ (x : Param). bytes_eq x.name n) ps) ≡ true →
        is_some (find (λ m. bytes_eq m n) (map (λ x. x.name) ps)) ≡ true) →
        is_some (cond b (Some a.name) (find (λ m. bytes_eq m n) (map (λ x. x.name) ps))) ≡ true
    by_test true e more = refl
    by_test false e more = more e

-- an info has a number, and a local a slot
pub info_has : (p : Protocol) (n : Name) → is_among (map of_param p.infos) n ≡ true → (k : ℕ) × (info_number p n ≡ Some k)
info_has p n e = has_place (λ i. bytes_eq i.name n) p.infos (param_found p.infos n e)

pub local_has : (t : State) (h : Handler) (n : Name) → is_among (map of_param h.locals) n ≡ true →
    (k : ℕ) × (slot_of (names_in t h) n ≡ Some k)
local_has t h n e =
    let test : Name → Bool = λ m. bytes_eq m n in
    let among = name_found h.locals n (param_found h.locals n e) in
    let args = found_behind test h.args (map (λ a. a.name) h.locals) among in
    let inner = found_behind test (map (λ a. a.name) t.params) (h.args ++ map (λ a. a.name) h.locals) args in
    has_place test (names_in t h) (found_behind test (codes "src" ∷ [])
    (map (λ a. a.name) t.params ++ (h.args ++ map (λ a. a.name) h.locals)) inner)

pub put_has : (p : Protocol) (t : State) (h : Handler) (n : Name) → is_among (assignable (scope_of p t h)) n ≡ true →
    (o : OpCode) × (put_op (slot_of (names_in t h) n) (info_number p n) ≡ Some o)
put_has p t h n e =
    by_slot (slot_of (names_in t h) n) refl (among_parts (infos_in (scope_of p t h)) (locals_in (scope_of p t h)) n e)
  where
    by_slot : (i : Option ℕ) → slot_of (names_in t h) n ≡ i →
        (is_among (infos_in (scope_of p t h)) n ≡ true) ⊎ (is_among (locals_in (scope_of p t h)) n ≡ true) →
        (o : OpCode) × (put_op i (info_number p n) ≡ Some o)
    by_slot (Some k) s f = (op.Put k, refl)
    by_slot None s (inl f) = let k = info_has p n f in (op.PutInfo k.0, ap (put_op None) k.1)
    by_slot None s (inr f) = let k = local_has t h n f in absurd (let g : None ≡ Some k.0 = sym s ∙ k.1 in cc)

-- ---- counts

pub message_counted : (p : Protocol) (n : Name) (count : ℕ) → is_some (message_of p n) ≡ true →
    is_message_count (message_of p n) count ≡ true → message_arity (slice_get p.messages (declared (message_number p n)))
    ≡ count
message_counted p n count e c =
    let m = some_of (message_of p n) e in
    let k = place_found (λ d. bytes_eq d.name n) p.messages m.0 m.1 in
    let same : count ≡ length m.0.args = eqb-true count (length m.0.args) (subst (λ o. is_message_count o count ≡ true) m.1 c) in
    ap (λ o. message_arity (slice_get p.messages (declared o))) k.1 ∙ ap message_arity k.2 ∙ sym same

pub state_counted : (p : Protocol) (n : Name) (count : ℕ) → is_some (state_of p n) ≡ true →
    is_state_count (state_of p n) count ≡ true → state_arity (slice_get p.states (declared (state_number p n))) ≡ count
state_counted p n count e c =
    let m = some_of (state_of p n) e in
    let k = place_found (λ d. bytes_eq d.name n) p.states m.0 m.1 in
    let same : count ≡ length m.0.params = eqb-true count (length m.0.params)
    (subst (λ o. is_state_count o count ≡ true) m.1 c) in
    ap (λ o. state_arity (slice_get p.states (declared o))) k.1 ∙ ap state_arity k.2 ∙ sym same

-- ---- statements

module _ (p : Protocol) (t : State) (h : Handler) where
  simple_fine : (line : ℕ) (a : Simple) (rest : List Stmt) → Keeps (scope_of p t h) (does a) → Fine p (names_in t h) rest →
      Fine p (names_in t h) (stmt line (do_of a) ∷ rest)
  simple_fine line (assign n e) rest k f = fine.assigns (out-roll-Do (Do-F.Assign n e)) (put_has p t h n k.declared).1 f
  simple_fine line (send e n xs) rest k f =
      fine.sends (out-roll-Do (Do-F.Send e n xs)) (message_counted p n (length xs) k.declared k.counted) f
  simple_fine line (send_all e n xs) rest k f =
      fine.sends_all (out-roll-Do (Do-F.SendAll e n xs)) (message_counted p n (length xs) k.declared k.counted) f
  simple_fine line (set_state n xs) rest k f =
      fine.moves (out-roll-Do (Do-F.SetState n xs)) (state_counted p n (length xs) k.declared
      (and_parts (is_state_count (state_of p n) (length xs)) _ k.counted).0) f
  simple_fine line (suspend l n xs q) rest k f =
      fine.suspends (out-roll-Do (Do-F.Suspend l n xs q)) (state_counted p n (length xs)
      (and_parts (is_some (state_of p n)) _ k.declared).0
      (and_parts (is_state_count (state_of p n) (length xs)) _ k.counted).0) f
  simple_fine line (resume n) rest k f = fine.resumes (out-roll-Do (Do-F.Resume n)) f
  simple_fine line (error n) rest k f = fine.fails (out-roll-Do (Do-F.Error n)) f
  simple_fine line (set_tag g) rest k f = fine.plain {o = op.Tag g} (ap plain_op (out-roll-Do (Do-F.SetTag g))) f
  simple_fine line install rest k f = fine.plain {o = op.Install} (ap plain_op (out-roll-Do Do-F.Install)) f
  simple_fine line enqueue rest k f = fine.plain {o = op.Enqueue} (ap plain_op (out-roll-Do Do-F.Enqueue)) f
  simple_fine line wake_up rest k f = fine.plain {o = op.Wake} (ap plain_op (out-roll-Do Do-F.WakeUp)) f

  -- what the first statement keeps, by what it does
  pub first_keeps : (line : ℕ) (l : Layer) (rest : List Stmt) → are_sound (scope_of p t h) (stmt line l ∷ rest) ≡ true →
      (layer_sound (scope_of p t h) l ≡ true) × (are_sound (scope_of p t h) rest ≡ true)
  first_keeps line l rest e =
      let parts = and_parts (is_sound (scope_of p t h) (stmt line l)) _ e in
      (sym (sound_at (scope_of p t h) (stmt line l) l (out-roll-Do l)) ∙ parts.0, parts.1)

  pub simple_keeps : (a : Simple) → layer_sound (scope_of p t h) (do_of a) ≡ true → Keeps (scope_of p t h) (does a)
  simple_keeps (assign n e) k = unpacked (scope_of p t h) _ k
  simple_keeps (send e n xs) k = unpacked (scope_of p t h) _ k
  simple_keeps (send_all e n xs) k = unpacked (scope_of p t h) _ k
  simple_keeps (set_state n xs) k = unpacked (scope_of p t h) _ k
  simple_keeps (suspend l n xs q) k = unpacked (scope_of p t h) _ k
  simple_keeps (resume n) k = unpacked (scope_of p t h) _ k
  simple_keeps (error n) k = unpacked (scope_of p t h) _ k
  simple_keeps (set_tag g) k = unpacked (scope_of p t h) _ k
  simple_keeps install k = unpacked (scope_of p t h) _ k
  simple_keeps enqueue k = unpacked (scope_of p t h) _ k
  simple_keeps wake_up k = unpacked (scope_of p t h) _ k

  tree_fine : (b : Body) → eaches b ≡ 0 → are_sound (scope_of p t h) (tree_of b) ≡ true → Fine p (names_in t h) (tree_of b)
  tree_fine done n e = fine.none
  tree_fine (plain line a b) n e =
      let parts = first_keeps line (do_of a) (tree_of b) e in
      simple_fine line a (tree_of b) (simple_keeps a parts.0) (tree_fine b n parts.1)
  tree_fine (branch line x u b) n e =
      let l : Layer = Do-F.If x (tree_of u) None in
      let parts = first_keeps line l (tree_of b) e in
      let inner = and_parts (keeps (scope_of p t h) (tests x)) _ parts.0 in
      let first = and_parts (are_sound (scope_of p t h) (tree_of u)) _ inner.1 in
      fine.tests (out-roll-Do l) (tree_fine u (omega arith) first.0) (tree_fine b (omega arith) parts.1)
  tree_fine (branches line x u w b) n e =
      let l : Layer = Do-F.If x (tree_of u) (Some (tree_of w)) in
      let parts = first_keeps line l (tree_of b) e in
      let inner = and_parts (keeps (scope_of p t h) (tests x)) _ parts.0 in
      let both = and_parts (are_sound (scope_of p t h) (tree_of u)) _ inner.1 in
      fine.branches (out-roll-Do l) (tree_fine u (omega arith) both.0) (tree_fine w (omega arith) both.1)
      (tree_fine b (omega arith) parts.1)
  tree_fine (loop line v x u b) n e =
      let l : Layer = Do-F.ForEach v x (tree_of u) in
      let parts = first_keeps line l (tree_of b) e in
      let inner = and_parts (keeps (scope_of p t h) (repeats v x)) _ parts.0 in
      let kept = unpacked (scope_of p t h) (repeats v x) inner.0 in
      fine.loops (out-roll-Do l) (local_has t h v kept.declared).1 (tree_fine u (omega arith) inner.1)
      (tree_fine b (omega arith) parts.1)
  tree_fine (each line v s u b) n e = absurd (omega arith)

pub body_fine : (p : Protocol) (t : State) (h : Handler) → IsAccepted p → Contains p.states t → Contains t.handlers h →
    Fine p (names_in t h) h.body
body_fine p t h a i j =
    let none : eaches (body_of h.body) ≡ 0 = each_at (λ (k : Handler). eaches (body_of k.body) ≡ 0) t.handlers h j
    (each_flat _ (λ (s : State). s.handlers) p.states t i a.tree.no_each) in
    let sound : are_sound (scope_of p t h) (tree_of (body_of h.body)) ≡ true =
    subst (λ ss. are_sound (scope_of p t h) ss ≡ true) (sym (tree-body h.body)) (sound_body p t h a i j) in
    subst (Fine p (names_in t h)) (tree-body h.body) (tree_fine p t h (body_of h.body) none sound)

-- ---- all handlers

pub contains_later : {X : Type 0} (y x : X) (xs : List X) → Contains xs x → Contains (y ∷ xs) x
contains_later y x xs c = (suc c.0, omega (arith, c.1), c.2)

pub contains_first : {X : Type 0} (x : X) (xs : List X) → Contains (x ∷ xs) x
contains_first x xs = (zero, omega arith, refl)

module _ (p : Protocol) (a : IsAccepted p) where
  state_fine : (number : ℕ) (s : State) → Contains p.states s → (hs : List Handler) →
      ((h : Handler) → Contains hs h → Contains s.handlers h) → (entries : List Entry) → AllFine p entries →
      AllFine p (map (λ h. record { number = number; state = s; handler = h }) hs ++ entries)
  state_fine number s i [] up entries f = f
  state_fine number s i (h ∷ hs) up entries f = (
    body_fine p s h a i (up h (contains_first h hs)),
    state_fine number s i hs
        (λ k c. up k (contains_later h k hs c)) entries f,
  )

  states_fine : (number : ℕ) (states : List State) → ((s : State) → Contains states s → Contains p.states s) →
      AllFine p (entries_from number states)
  states_fine number [] up = tt
  states_fine number (s ∷ states) up =
      state_fine number s (up s (contains_first s states)) s.handlers (λ h c. c) (entries_from (number + 1) states)
      (states_fine (number + 1) states (λ k c. up k (contains_later s k states c)))

pub all_fine : (p : Protocol) → IsAccepted p → AllFine p (entries_of p)
all_fine p a = states_fine p a 0 p.states (λ s c. c)
