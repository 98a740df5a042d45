-- The code of an accepted protocol's statements finds values of the types that it needs.
use Rattle.std.proofs.Common.{◌≡◌, ◌∙◌, ℕ, suc, ◌+◌, ◌-◌, ◌<◌, ◌≤◌, true, false, List, [], ◌∷◌, length, Option, Some, None}
use Rattle.std.proofs.Common.{refl, ap, sym, subst, arith}
use Rattle.std.specs.Prelude.{is_some, map, slice_get}
use Rattle.std.specs.Str.{bytes_eq}
use Rattle.std.proofs.lemmas.Bool.{and_parts, eqb-true}
use Rattle.tw_base.specs.declared.name.Name.{Name}
use Rattle.teapot_tree.specs.declared.expr.Expr.{Expr}
use Rattle.teapot_tree.specs.declared.protocol.Handler.{Handler}
use Rattle.teapot_tree.specs.declared.protocol.MessageDecl.{MessageDecl}
use Rattle.teapot_tree.specs.declared.protocol.Param.{Param}
use Rattle.teapot_tree.specs.declared.protocol.Protocol.{Protocol}
use Rattle.teapot_tree.specs.declared.protocol.State.{State}
use Rattle.teapot_tree.specs.declared.protocol.ValType.{ValType}
use Rattle.teapot_tree.specs.declared.protocol.ValType.TheVariants as ty
use Rattle.teapot_tree.specs.Bodies.{Simple, assign, send, send_all, set_tag, set_state, suspend, resume, install, enqueue}
use Rattle.teapot_tree.specs.Bodies.{wake_up, error}
use Rattle.teapot_tree.specs.Parts.{simple_exprs}
use Rattle.teapot_tree.specs.Paths.{does}
use Rattle.teapot_tree.specs.Rules.{IsAccepted, are_fit, is_fit, is_message_count, is_state_count, params_of, type_in, types_in}
use Rattle.teapot_tree.specs.Scopes.{Scope, args_of, is_of, locals_in, message_number, message_of, same_type, state_number}
use Rattle.teapot_tree.specs.Scopes.{state_of, type_among, visible}
use Rattle.teapot_meaning.specs.Fits.{names_in, types_in as handler_types}
use Rattle.teapot_meaning.specs.Names.{declared, info_number}
use Rattle.teapot_meaning.proofs.Found.{both, first_of_both, not_false, place_found, second_of_both}
use Rattle.teapot_meaning.proofs.Sound.{Keeps, scope_of}
use Rattle.teapot_meaning.proofs.Typed.{is_of_some}
use Rattle.teapot_meaning.proofs.Variables.{assignable_seen, assignable_typed, len_map, local_seen}
use Rattle.teapot_meaning.proofs.Visible.{Apart, visible_apart}
use Rattle.handler_code.specs.declared.code.Code.{Code}
use Rattle.handler_code.specs.declared.code.Door.{Door}
use Rattle.handler_code.specs.declared.code.OpCode.{OpCode}
use Rattle.handler_code.specs.declared.code.OpCode.TheVariants as op
use Rattle.handler_code.specs.Live.{HasOp}
use Rattle.code_walks.specs.Kinds.{breaks_types, filled_types, gives, has_loop_slots, is_typed, needs, pushed_on, slot_types}
use Rattle.code_walks.specs.Kinds.{top_type, types_after, types_before, variable_types}
use Rattle.code_walks.specs.Parts.{AtOp, end_of, op_at, part_of}
use Rattle.code_walks.specs.Parts.{handler_of}
use Rattle.compiled_meaning.specs.Follows.{Evaluates, put_op, slot_of}
use Rattle.compiled_meaning.specs.Whole.{IsCode}
use Rattle.compiled_meaning.proofs.Accepted.{some_of}
use Rattle.compiled_rules.proofs.Facts.{each_op, has_handler, has_state, holds, op_is}
use Rattle.compiled_rules.proofs.Handled.{Handled, handled}
use Rattle.compiled_rules.proofs.Slotting.{SlotsFit, slots_fit}
use Rattle.compiled_rules.proofs.Spans.{Over, all_rise, over_joined, over_none, over_one, rises}
use Rattle.compiled_rules.proofs.Structuring.{handler_is}
use Rattle.compiled_rules.proofs.Typing.{IsWell, adds, after_none, all_add, takes_all}
use Rattle.compiled_rules.proofs.Walk.{Closed, last_op}

-- ---- messages and states by their number

message_at : (p : Protocol) (n : Name) → is_some (message_of p n) ≡ true →
    slice_get p.messages (declared (message_number p n)) ≡ message_of p n
message_at p n e =
    let m = some_of (message_of p n) e in
    let k = place_found (λ d. bytes_eq d.name n) p.messages m.0 m.1 in
    ap (λ o. slice_get p.messages (declared o)) k.1 ∙ (k.2 ∙ sym m.1)

state_at : (p : Protocol) (n : Name) → is_some (state_of p n) ≡ true →
    slice_get p.states (declared (state_number p n)) ≡ state_of p n
state_at p n e =
    let m = some_of (state_of p n) e in
    let k = place_found (λ d. bytes_eq d.name n) p.states m.0 m.1 in
    ap (λ o. slice_get p.states (declared o)) k.1 ∙ (k.2 ∙ sym m.1)

args_counted : (o : Option MessageDecl) (n : ℕ) → is_some o ≡ true → is_message_count o n ≡ true → n ≡ length (args_of o)
args_counted (Some m) n d e = eqb-true n (length m.args) e
args_counted None n d e = cc

params_counted : (o : Option State) (n : ℕ) → is_some o ≡ true → is_state_count o n ≡ true → n ≡ length (params_of o)
params_counted (Some s) n d e = eqb-true n (length s.params) e ∙ sym (len_map (λ (a : Param). a.ty) s.params)
params_counted None n d e = cc

fit_all : (c : Scope) (ts : List ValType) (xs : List Expr) → are_fit ts (types_in c xs) ≡ true → length xs ≡ length ts →
    map (type_in c) xs ≡ map (λ u. Some u) ts
fit_all c [] [] e n = refl
fit_all c [] (x ∷ xs) e n = absurd (omega arith)
fit_all c (u ∷ ts) [] e n = absurd (omega arith)
fit_all c (u ∷ ts) (x ∷ xs) e n =
    let head : type_in c x ≡ Some u = is_of_some u (type_in c x) (first_of_both (is_of u (type_in c x)) _ e) in
    let tail = fit_all c ts xs (second_of_both (is_of u (type_in c x)) _ e) (omega arith) in
    ap (λ o. o ∷ map (type_in c) xs) head ∙ ap (λ l. Some u ∷ l) tail

module _ (p : Protocol) (t : State) (h : Handler) (slots : List ValType) (width : ℕ) (fit : SlotsFit p t h slots width)
    (apart : Apart (visible (scope_of p t h))) where
  abbrev c : Scope
  c = scope_of p t h

  abbrev names : List Name
  names = names_in t h

  -- the op takes what the operands leave
  record Ends (a : Simple) (o : OpCode) : Type 0 where
    kinds : List ValType
    typed : map (type_in c) (simple_exprs a) ≡ map (λ u. Some u) kinds
    needed : (top : ValType) → needs p slots o top ≡ pushed_on [] kinds
    none : gives p slots o ≡ None
    loop : has_loop_slots slots o ≡ true

  by_last : (a : Simple) (o q : OpCode) → Some o ≡ Some q → Ends a o → Ends a q
  by_last a o q e x = let same : o ≡ q = cc in subst (Ends a) same x

  put_none : (i j : Option ℕ) (o : OpCode) → put_op i j ≡ Some o → (gives p slots o ≡ None) × (has_loop_slots slots o ≡ true)
  put_none (Some k) j o e = let same : op.Put k ≡ o = cc in subst
      (λ z. (gives p slots z ≡ None) × (has_loop_slots slots z ≡ true)) same (refl, refl)
  put_none None (Some k) o e = let same : op.PutInfo k ≡ o =
      cc in subst (λ z. (gives p slots z ≡ None) × (has_loop_slots slots z ≡ true)) same (refl, refl)
  put_none None None o e = cc

  nothing_taken : (a : Simple) (o : OpCode) → simple_exprs a ≡ [] → ((top : ValType) → needs p slots o top ≡ []) →
      gives p slots o ≡ None → has_loop_slots slots o ≡ true → Ends a o
  nothing_taken a o e n g l = record { kinds = []; typed = ap (map (type_in c)) e; needed = n; none = g; loop = l }

  ends : (a : Simple) (o : OpCode) (r : ℕ) → Keeps c (does a) → last_op p names a r ≡ Some o → Ends a o
  ends (assign n e) o r k f =
      let u = assignable_typed c n k.declared in
      let is : is_of u.0 (type_in c e) ≡ true = subst (λ z. is_fit z (type_in c e) ≡ true) u.1 k.typed in
      let type = is_of_some u.0 (type_in c e) is in
      let q = put_none (slot_of names n) (info_number p n) o f in
      record {
        kinds = u.0 ∷ [];
        typed = ap (λ z. z ∷ []) type;
        needed = λ top. fit.writes n u.0 o top (assignable_seen c n u.0 apart u.1) f;
        none = q.0;
        loop = q.1;
      }
  ends (send e n xs) o r k f =
      let to = is_of_some ty.Node (type_in c e) (first_of_both (is_of ty.Node (type_in c e)) _ k.typed) in
      let ts = args_of (message_of p n) in
      let args = fit_all c ts xs (second_of_both (is_of ty.Node (type_in c e)) _ k.typed)
      (args_counted (message_of p n) (length xs) k.declared k.counted) in
      by_last (send e n xs) _ o f (record {
        kinds = ty.Node ∷ ts;
        typed = ap (λ z. z ∷ map (type_in c) xs) to ∙ ap (λ l. Some ty.Node ∷ l) args;
        needed = λ top. ap (λ m. pushed_on (ty.Node ∷ []) (args_of m)) (message_at p n k.declared);
        none = refl;
        loop = refl;
      })
  ends (send_all e n xs) o r k f =
      let to = is_of_some ty.Set (type_in c e) (first_of_both (is_of ty.Set (type_in c e)) _ k.typed) in
      let ts = args_of (message_of p n) in
      let args = fit_all c ts xs (second_of_both (is_of ty.Set (type_in c e)) _ k.typed)
      (args_counted (message_of p n) (length xs) k.declared k.counted) in
      by_last (send_all e n xs) _ o f (record {
        kinds = ty.Set ∷ ts;
        typed = ap (λ z. z ∷ map (type_in c) xs) to ∙ ap (λ l. Some ty.Set ∷ l) args;
        needed = λ top. ap (λ m. pushed_on (ty.Set ∷ []) (args_of m)) (message_at p n k.declared);
        none = refl;
        loop = refl;
      })
  ends (set_state n xs) o r k f =
      let ts = params_of (state_of p n) in
      let args =
      fit_all c ts xs k.typed (params_counted (state_of p n) (length xs) k.declared
      (and_parts (is_state_count (state_of p n) (length xs)) _ k.counted).0) in
      by_last (set_state n xs) _ o f (record {
        kinds = ts;
        typed = args;
        needed = λ top. ap (λ m. pushed_on [] (params_of m)) (state_at p n k.declared);
        none = refl;
        loop = refl;
      })
  ends (suspend l n xs q) o r k f =
      let there = (and_parts (is_some (state_of p n)) _ k.declared).0 in
      let ts = params_of (state_of p n) in
      let args =
      fit_all c ts xs k.typed (params_counted (state_of p n) (length xs) there
      (and_parts (is_state_count (state_of p n) (length xs)) _ k.counted).0) in
      by_last (suspend l n xs q) _ o f (record {
        kinds = ts;
        typed = args;
        needed = λ top. ap (λ m. pushed_on [] (params_of m)) (state_at p n there);
        none = refl;
        loop = refl;
      })
  ends (set_tag g) o r k f = by_last (set_tag g) _ o f (nothing_taken (set_tag g) _ refl (λ top. refl) refl refl)
  ends (resume n) o r k f = by_last (resume n) _ o f (nothing_taken (resume n) _ refl (λ top. refl) refl refl)
  ends install o r k f = by_last install _ o f (nothing_taken install _ refl (λ top. refl) refl refl)
  ends enqueue o r k f = by_last enqueue _ o f (nothing_taken enqueue _ refl (λ top. refl) refl refl)
  ends wake_up o r k f = by_last wake_up _ o f (nothing_taken wake_up _ refl (λ top. refl) refl refl)
  ends (error n) o r k f = by_last (error n) _ o f (nothing_taken (error n) _ refl (λ top. refl) refl refl)

  module _ (ops : List OpCode) (from : ℕ) (T : ℕ → List ValType)
      (step : (a : ℕ) (o : OpCode) → from ≤ a → HasOp ops a o → T (a + 1) ≡ types_after p slots o (T a)) where
    abbrev Well : ℕ → OpCode → Type 0
    Well = IsWell p t h slots width fit ops from T step

    -- no value is left
    pub record Leaves (lo hi : ℕ) : Type 0 where
      pub over : Over ops Well lo hi
      pub none : T hi ≡ []

    pub record Runs (lo hi k i : ℕ) : Type 0 where
      pub up : lo ≤ hi
      pub grow : k ≤ i
      pub typed : from ≤ lo → length names ≤ k → i ≤ width → T lo ≡ [] → Leaves lo hi

    one_last : (at : ℕ) (o : OpCode) (stack : List ValType) → from ≤ at → HasOp ops at o → T at ≡ stack →
        needs p slots o (top_type stack) ≡ stack → gives p slots o ≡ None → has_loop_slots slots o ≡ true → Leaves at (at + 1)
    one_last at o stack f has e n g l = record {
      over = over_one ops Well at o has (ap (is_typed p slots o) e ∙ takes_all p slots o stack n l);
      none = step at o f has ∙ after_none p slots o (T at) g;
    }

    -- an op that takes nothing
    one_empty : (at : ℕ) (o : OpCode) → from ≤ at → HasOp ops at o → T at ≡ [] → needs p slots o ty.Int ≡ [] →
        gives p slots o ≡ None → has_loop_slots slots o ≡ true → Leaves at (at + 1)
    one_empty at o f has e n g l = one_last at o [] f has e n g l

    both_leave : (lo mid hi : ℕ) → Over ops Well lo mid → Leaves mid hi → Leaves lo hi
    both_leave lo mid hi f g = record { over = over_joined ops Well lo mid hi f g.over; none = g.none }

    one_expr : (e : Expr) (at after : ℕ) (u : ValType) → from ≤ at → T at ≡ [] → type_in c e ≡ Some u →
        Evaluates p names ops at e after → Over ops Well at after × (T after ≡ u ∷ [])
    one_expr e at after u f z g x =
        let y = adds p t h slots width fit ops from T step x f u g in
        (y.over, y.more ∙ ap (λ s. u ∷ s) z)

    pub runs : Closed p t h ops Runs
    runs = record {
      empty = λ at k. record {
        up = omega arith;
        grow = omega arith;
        typed = λ f m w z. record { over = over_none ops Well at; none = z };
      };
      joined = λ lo mid hi k i j x y.
          let ux = x.up in
          let uy = y.up in
          let gx = x.grow in
          let gy = y.grow in
          record {
            up = omega arith;
            grow = omega arith;
            typed = λ f m w z. let a = x.typed f m (omega arith) z in both_leave lo mid hi a.over
                (y.typed (omega arith) (omega arith) w a.none);
          };
      simple = λ a o at last r k keeps shallow lasted ev has.
          let u = all_rise p names ops ev in
          record {
            up = omega arith;
            grow = omega arith;
            typed = λ f m w z.
                let x = ends a o r keeps lasted in
                let y = all_add p t h slots width fit ops from T step ev f x.kinds x.typed in
                let stack = y.more ∙ ap (λ s. pushed_on s x.kinds) z in
                both_leave at last (last + 1) y.over (one_last last o (pushed_on [] x.kinds) (omega arith) has stack
                (x.needed (top_type (pushed_on [] x.kinds))) x.none x.loop);
          };
      tested = λ e at after to k i keeps shallow ev has x.
          let u = rises p names ops ev in
          let ux = x.up in
          record {
            up = omega arith;
            grow = x.grow;
            typed = λ f m w z.
                let y = one_expr e at after ty.Bool f z (is_of_some ty.Bool (type_in c e) keeps.typed) ev in
                let jump = one_last after (op.JumpIfNot to) (ty.Bool ∷ []) (omega arith) has y.1 refl refl refl in
                both_leave at after to y.0 (both_leave after (after + 1) to jump.over (x.typed (omega arith) m w jump.none));
          };
      branched = λ e at after mid to k i j keeps shallow ev has x jump y.
          let u = rises p names ops ev in
          let ux = x.up in
          let uy = y.up in
          let gx = x.grow in
          let gy = y.grow in
          record {
            up = omega arith;
            grow = omega arith;
            typed = λ f m w z.
                let s = one_expr e at after ty.Bool f z (is_of_some ty.Bool (type_in c e) keeps.typed) ev in
                let test = one_last after (op.JumpIfNot (mid + 1)) (ty.Bool ∷ []) (omega arith) has s.1 refl refl refl in
                let first = x.typed (omega arith) m (omega arith) test.none in
                let over = one_empty mid (op.Jump to) (omega arith) jump first.none refl refl refl in
                let second = y.typed (omega arith) (omega arith) w over.none in
                both_leave at after to s.0 (both_leave after (after + 1) to test.over
                (both_leave (after + 1) mid to first.over (both_leave mid (mid + 1) to over.over second)));
          };
      looped = λ v e s at after end k i keeps shallow slot ev put next x back.
          let u = rises p names ops ev in
          let ux = x.up in
          let gx = x.grow in
          record {
            up = omega arith;
            grow = omega arith;
            typed = λ f m w z.
                let kinds = and_parts (is_of ty.Node (type_among (locals_in c) v)) _ keeps.typed in
                let node = local_seen c v ty.Node apart (is_of_some ty.Node (type_among (locals_in c) v) kinds.0) in
                let y = one_expr e at after ty.Set f z (is_of_some ty.Set (type_in c e) kinds.1) ev in
                let set = fit.sets k m (omega arith) in
                let variable = fit.nodes v s node slot in
                let filled = one_last after (op.Put k) (ty.Set ∷ []) (omega arith) put y.1 (ap (λ q. q ∷ []) set) refl refl in
                let pair : has_loop_slots slots (op.EachNext s k (end + 1)) ≡ true =
                both _ _ (ap (same_type ty.Node) variable) (ap (same_type ty.Set) set) in
                let turn = one_empty (after + 1) (op.EachNext s k (end + 1)) (omega arith) next filled.none refl refl pair in
                let body = x.typed (omega arith) (omega arith) w turn.none in
                let last = one_empty end (op.JumpBack (after + 1)) (omega arith) back body.none refl refl refl in
                both_leave at after (end + 1) y.0 (both_leave after (after + 1) (end + 1) filled.over
                (both_leave (after + 1) (after + 1 + 1) (end + 1) turn.over
                (both_leave (after + 1 + 1) end (end + 1) body.over last)));
          };
    }

-- ---- handlers

module _ (p : Protocol) (code : Code) (a : IsAccepted p) (c : IsCode p code) where
  -- the types before a place of the handler that begins at this one
  abbrev before : List ValType → ℕ → ℕ → List ValType
  before slots from at = types_before p code slots from (at - from)

  one_on : (slots : List ValType) (from at : ℕ) (o : OpCode) → from ≤ at → HasOp code.ops at o →
      before slots from (at + 1) ≡ types_after p slots o (before slots from at)
  one_on slots from at o l has =
      let next : at + 1 - from ≡ suc (at - from) = omega arith in
      let place : from + (at - from) ≡ at = omega arith in
      let is : op_at code (from + (at - from)) ≡ o = ap (op_at code) place ∙ op_is code at o has in
      ap (types_before p code slots from) next ∙ ap (λ q. types_after p slots q (before slots from at)) is

  module _ (number : ℕ) (door : Door) (x : Handled p code number door) where
    slots_of_door : slot_types p door ≡ filled_types door.slots (handler_types p x.entry.state x.entry.handler)
    slots_of_door =
        let o = x.of in
        let state : slice_get p.states door.state ≡ Some x.entry.state = ap (slice_get p.states) x.state ∙ o.is_state in
        ap (λ s. filled_types door.slots (variable_types p s (handler_of p door))) state
        ∙ ap (λ q. filled_types door.slots (variable_types p (Some x.entry.state) q)) (handler_is p code a c number door x)

    types_kept : (at : ℕ) → door.at ≤ at → at < end_of code number → breaks_types p code (part_of code number door) at ≡ true → ⊥
    types_kept at l u e =
        let i = has_state p code a c number door x in
        let j = has_handler p code a c number door x in
        let t = x.entry.state in
        let h = x.entry.handler in
        let slots = slot_types p door in
        let fit : SlotsFit p t h slots door.slots = subst (λ s. SlotsFit p t h s door.slots) (sym slots_of_door)
        (slots_fit p a t i h j door.slots) in
        let all =
        holds p code a c number door x _ (runs p t h slots door.slots fit (visible_apart p t h a i j) code.ops door.at
        (before slots door.at) (one_on slots door.at)) in
        let first : before slots door.at door.at ≡ [] = let none : door.at - door.at ≡ 0 =
        omega arith in ap (types_before p code slots door.at) none in
        let left = all.typed (omega arith) (omega arith) (omega arith) first in
        let ok : is_typed p slots (op_at code at) (before slots door.at at) ≡ true =
        each_op p code a c number door x (λ o. is_typed p slots o (before slots door.at at) ≡ true) at l u
        (λ q. ap (is_typed p slots op.Done) (ap (before slots door.at) q ∙ left.none))
        (λ lt has. left.over at (op_at code at) l lt has) in
        let bad : is_typed p slots (op_at code at) (before slots door.at at) ≡ false = not_false _ e in
        cc

  pub keeps_types : (at : ℕ) → AtOp code (λ part at. breaks_types p code part at ≡ true) at → ⊥
  keeps_types at w = let i = w.within in types_kept w.number w.door
      (handled p code c w.number w.door w.is_door) at i.from i.before i.holds
