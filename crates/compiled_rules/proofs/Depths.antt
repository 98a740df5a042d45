-- The stack serves the code of an accepted protocol.
use Rattle.std.proofs.Common.{◌≡◌, ◌∙◌, ℕ, ◌+◌, ◌-◌, ◌≤◌, true, false, if◌then◌else◌, List, length, Option, Some, None, refl}
use Rattle.std.proofs.Common.{ap, subst, arith}
use Rattle.std.specs.Prelude.{codes, nat_le, slice_get, ◌&&◌, ◌==◌}
use Rattle.std.proofs.lemmas.Bool.{and_parts, eq-eqb}
use Rattle.tw_base.specs.Lists.{Each}
use Rattle.tw_base.specs.declared.name.Name.{Name}
use Rattle.teapot_tree.specs.declared.expr.Expr.{Expr, out-Expr}
use Rattle.teapot_tree.specs.declared.expr.Expr.TheOpen.{Expr-F}
use Rattle.teapot_tree.specs.declared.expr.Expr.TheFolds.{fold_out-Expr, map-Expr}
use Rattle.teapot_tree.specs.declared.protocol.Handler.{Handler}
use Rattle.teapot_tree.specs.declared.protocol.MessageDecl.{MessageDecl}
use Rattle.teapot_tree.specs.declared.protocol.Protocol.{Protocol}
use Rattle.teapot_tree.specs.declared.protocol.State.{State}
use Rattle.teapot_tree.specs.Bodies.{Simple, assign, send, send_all, set_tag, set_state, suspend, resume, install, enqueue}
use Rattle.teapot_tree.specs.Bodies.{wake_up, error}
use Rattle.teapot_tree.specs.Grammar.{IsTree}
use Rattle.teapot_tree.specs.Parts.{depth, depth_step, simple_exprs}
use Rattle.teapot_tree.specs.Paths.{does}
use Rattle.teapot_tree.specs.Rules.{is_state_count}
use Rattle.teapot_tree.specs.Scopes.{message_number, state_number, state_of}
use Rattle.std.specs.Prelude.{is_some}
use Rattle.teapot_meaning.specs.Fits.{names_in}
use Rattle.teapot_meaning.specs.Names.{declared, info_number}
use Rattle.teapot_meaning.proofs.Found.{both, each_at, slice_has}
use Rattle.teapot_meaning.proofs.Sound.{Keeps, scope_of}
use Rattle.handler_code.specs.declared.code.OpCode.{OpCode}
use Rattle.handler_code.specs.declared.code.OpCode.TheVariants as op
use Rattle.handler_code.specs.Live.{HasOp}
use Rattle.handler_code.specs.Machine.{message_arity, state_arity}
use Rattle.handler_code.specs.Stacks.{taken_by}
use Rattle.code_walks.specs.Stacks.{depth_after, is_served, is_value, target}
use Rattle.compiled_meaning.specs.Follows.{Evaluates, EvaluatesAll, atom_op, get_op, put_op, slot_of}
use Rattle.compiled_meaning.specs.Follows as follows
use Rattle.compiled_meaning.proofs.Accepted.{message_counted, state_counted}
use Rattle.compiled_rules.proofs.Spans.{Over, all_rise, le_true, over_joined, over_none, over_one, rises}
use Rattle.compiled_rules.proofs.Walk.{Closed, Shallow, last_op}

-- ---- one op

module _ (p : Protocol) where
  pub after_value : (o : OpCode) (d : ℕ) → is_value o ≡ true → depth_after p o d ≡ d - taken_by p o + 1
  after_value o d e = ap (λ b. if b then d - taken_by p o + 1 else 0) e

  pub after_other : (o : OpCode) (d : ℕ) → is_value o ≡ false → depth_after p o d ≡ 0
  after_other o d e = ap (λ b. if b then d - taken_by p o + 1 else 0) e

  value_served : (o : OpCode) (d : ℕ) → is_value o ≡ true → taken_by p o ≤ d → d ≤ taken_by p o + 23 → is_served p o d ≡ true
  value_served o d e few room =
      let n : depth_after p o d ≤ 24 = omega (arith, after_value o d e) in
      ap (λ b. if b then nat_le (taken_by p o) d && nat_le (depth_after p o d) 24 else (d == taken_by p o)) e
      ∙ both _ _ (le_true (taken_by p o) d few) (le_true (depth_after p o d) 24 n)

  other_served : (o : OpCode) (d : ℕ) → is_value o ≡ false → d ≡ taken_by p o → is_served p o d ≡ true
  other_served o d e f =
      ap (λ b. if b then nat_le (taken_by p o) d && nat_le (depth_after p o d) 24 else (d == taken_by p o)) e
      ∙ eq-eqb d (taken_by p o) f

  pub value_leads : (o : OpCode) (to : ℕ) → is_value o ≡ true → target o ≡ Some to → ⊥
  value_leads (op.Jump x) to e f = cc (e)
  value_leads (op.JumpIfNot x) to e f = cc (e)
  value_leads (op.JumpBack x) to e f = cc (e)
  value_leads (op.EachNext k h x) to e f = cc (e)
  value_leads _ to e f = cc (f)

  -- an op that pushes a value
  record Pushes (o : OpCode) : Type 0 where
    value : is_value o ≡ true
    none : taken_by p o ≡ 0

  get_pushes : (i j : Option ℕ) → Pushes (get_op i j)
  get_pushes (Some k) j = record { value = refl; none = refl }
  get_pushes None (Some k) = record { value = refl; none = refl }
  get_pushes None None = record { value = refl; none = refl }

  by_some : (o o' : OpCode) → Some o ≡ Some o' → Pushes o → Pushes o'
  by_some o o' e x = let same : o ≡ o' = cc in subst Pushes same x

  atom_pushes : (names : List Name) (l : Expr-F Expr) (o : OpCode) → atom_op p names l ≡ Some o → Pushes o
  atom_pushes names (Expr-F.Number n) o e = by_some _ o e (record { value = refl; none = refl })
  atom_pushes names Expr-F.True o e = by_some _ o e (record { value = refl; none = refl })
  atom_pushes names Expr-F.False o e = by_some _ o e (record { value = refl; none = refl })
  atom_pushes names Expr-F.Empty o e = by_some _ o e (record { value = refl; none = refl })
  atom_pushes names Expr-F.Src o e = by_some _ o e (get_pushes (slot_of names (codes "src")) (info_number p (codes "src")))
  atom_pushes names Expr-F.SelfNode o e = by_some _ o e (record { value = refl; none = refl })
  atom_pushes names Expr-F.Home o e = by_some _ o e (record { value = refl; none = refl })
  atom_pushes names (Expr-F.Var n) o e = by_some _ o e (get_pushes (slot_of names n) (info_number p n))
  atom_pushes names (Expr-F.One a) o e = cc
  atom_pushes names (Expr-F.Not a) o e = cc
  atom_pushes names (Expr-F.Count a) o e = cc
  atom_pushes names (Expr-F.Two t a b) o e = cc

depth-is : (e : Expr) (l : Expr-F Expr) → out-Expr e ≡ l → depth e ≡ depth_step (map-Expr Expr ℕ depth l)
unfolding depth
depth-is e l d = fold_out-Expr ℕ depth_step e ∙ ap (λ x. depth_step (map-Expr Expr ℕ depth x)) d

step_deep : (l : Expr-F ℕ) → 1 ≤ depth_step l
step_deep (Expr-F.One a) = omega arith
step_deep (Expr-F.Not a) = omega arith
step_deep (Expr-F.Count a) = omega arith
step_deep (Expr-F.Two o a b) = omega arith
step_deep _ = omega arith

deep : (e : Expr) → 1 ≤ depth e
deep e = let k = step_deep (map-Expr Expr ℕ depth (out-Expr e)) in omega (arith, depth-is e (out-Expr e) refl)

-- ---- expressions, where D says how many values are there before each place

module _ (p : Protocol) (names : List Name) (ops : List OpCode) (from : ℕ) (D : ℕ → ℕ)
    (step : (a : ℕ) (o : OpCode) → from ≤ a → HasOp ops a o → D (a + 1) ≡ depth_after p o (D a)) where
  -- it is served, and leads only to where there are none
  pub record IsServed (a : ℕ) (o : OpCode) : Type 0 where
    pub served : is_served p o (D a) ≡ true
    pub leads : (to : ℕ) → target o ≡ Some to → D to ≡ 0

  -- a value more
  pub record Grows (n at after : ℕ) : Type 0 where
    pub over : Over ops IsServed at after
    pub more : D after ≡ D at + n

  one_value : (at : ℕ) (o : OpCode) → from ≤ at → HasOp ops at o → is_value o ≡ true → taken_by p o ≤ D at →
      D at ≤ taken_by p o + 23 → Over ops IsServed at (at + 1) × (D (at + 1) ≡ D at - taken_by p o + 1)
  one_value at o f has e few room = (
    over_one ops IsServed at o has (record {
      served = value_served p o (D at) e few room;
      leads = λ to g. absurd (value_leads p o to e g);
    }),
    step at o f has ∙ after_value p o (D at) e,
  )

  one_more : (at after : ℕ) (o : OpCode) → from ≤ after → HasOp ops after o → is_value o ≡ true → taken_by p o ≡ 1 →
      D at ≤ 23 → Grows 1 at after → Grows 1 at (after + 1)
  one_more at after o f has e t room g =
      let k = g.more in
      let x = one_value after o f has e (omega arith) (omega arith) in
      let m = x.1 in
      record { over = over_joined ops IsServed at after (after + 1) g.over x.0; more = omega arith }

  pub grows : {at after : ℕ} {e : Expr} → Evaluates p names ops at e after → from ≤ at → D at + depth e ≤ 24 → Grows 1 at after
  grows (follows.atom {at = at} {e = e} {o = o} d has) f room =
      let k = atom_pushes p names (out-Expr e) o d in
      let n = k.none in
      let m = deep e in
      let x = one_value at o f has k.value (omega arith) (omega arith) in
      let q = x.1 in
      record { over = x.0; more = omega arith }
  grows (follows.single {at = at} {after = after} {e = e} {a = a} d x has) f room =
      let less : depth e ≡ depth a + 1 = depth-is e (Expr-F.One a) d in
      let up = rises p names ops x in
      one_more at after op.One (omega arith) has refl refl (omega arith) (grows x f (omega arith))
  grows (follows.negation {at = at} {after = after} {e = e} {a = a} d x has) f room =
      let less : depth e ≡ depth a + 1 = depth-is e (Expr-F.Not a) d in
      let up = rises p names ops x in
      one_more at after op.Not (omega arith) has refl refl (omega arith) (grows x f (omega arith))
  grows (follows.counting {at = at} {after = after} {e = e} {a = a} d x has) f room =
      let less : depth e ≡ depth a + 1 = depth-is e (Expr-F.Count a) d in
      let up = rises p names ops x in
      one_more at after op.Count (omega arith) has refl refl (omega arith) (grows x f (omega arith))
  grows (follows.pair {at = at} {middle = middle} {after = after} {e = e} {a = a} {b = b} {o = o} d x y has) f room =
      let less = depth-is e (Expr-F.Two o a b) d in
      let left : depth a + 1 ≤ depth e = omega (arith, less) in
      let right : depth b + 1 ≤ depth e = omega (arith, less) in
      let up = rises p names ops x in
      let up' = rises p names ops y in
      let g = grows x f (omega arith) in
      let k = g.more in
      let g' = grows y (omega arith) (omega arith) in
      let k' = g'.more in
      let m = deep b in
      let z = one_value after (op.Two o) (omega arith) has refl (omega arith) (omega arith) in
      let q = z.1 in
      record {
        over = over_joined ops IsServed at after (after + 1) (over_joined ops IsServed at middle after g.over g'.over) z.0;
        more = omega arith;
      }

  pub all_grow : {at after : ℕ} {es : List Expr} → EvaluatesAll p names ops at es after → from ≤ at → Each Shallow es →
      D at + length es ≤ 9 → Grows (length es) at after
  all_grow (follows.none {at = at}) f s room = record { over = over_none ops IsServed at; more = omega arith }
  all_grow (follows.more {at = at} {middle = middle} {after = after} {e = e} {es = es} x xs) f s room =
      let up = rises p names ops x in
      let low = s.0 in
      let g = grows x f (omega arith) in
      let k = g.more in
      let g' = all_grow xs (omega arith) s.1 (omega arith) in
      let k' = g'.more in
      record { over = over_joined ops IsServed at middle after g.over g'.over; more = omega arith }

-- ---- statements

module _ (p : Protocol) (tree : IsTree p) where
  pub message_few : (o : Option MessageDecl) (k : ℕ) → slice_get p.messages k ≡ o → message_arity o ≤ 4
  message_few None k e = omega arith
  message_few (Some m) k e = each_at (λ (x : MessageDecl). length x.args ≤ 4) p.messages m
      (slice_has p.messages k m e) tree.few_message_args

  state_few : (o : Option State) (k : ℕ) → slice_get p.states k ≡ o → state_arity o ≤ 4
  state_few None k e = omega arith
  state_few (Some s) k e = each_at (λ (x : State). length x.params ≤ 4) p.states s (slice_has p.states k s e) tree.few_params

  module _ (t : State) (h : Handler) where
    -- the op takes what the operands give, and leaves nothing
    record Takes (a : Simple) (o : OpCode) : Type 0 where
      other : is_value o ≡ false
      next : target o ≡ None
      count : taken_by p o ≡ length (simple_exprs a)
      few : length (simple_exprs a) ≤ 5

    put_takes : (n : Name) (e : Expr) (i j : Option ℕ) (o : OpCode) → put_op i j ≡ Some o → Takes (assign n e) o
    put_takes n e (Some k) j o f =
        let same : op.Put k ≡ o = cc in
        subst (Takes (assign n e)) same (record { other = refl; next = refl; count = refl; few = omega arith })
    put_takes n e None (Some k) o f =
        let same : op.PutInfo k ≡ o = cc in
        subst (Takes (assign n e)) same (record { other = refl; next = refl; count = refl; few = omega arith })
    put_takes n e None None o f = cc

    by_last : (a : Simple) (o o' : OpCode) → Some o ≡ Some o' → Takes a o → Takes a o'
    by_last a o o' e x = let same : o ≡ o' = cc in subst (Takes a) same x

    takes : (a : Simple) (o : OpCode) (r : ℕ) → Keeps (scope_of p t h) (does a) → last_op p (names_in t h) a r ≡ Some o →
        Takes a o
    takes (assign n e) o r k f = put_takes n e (slot_of (names_in t h) n) (info_number p n) o f
    takes (send e n xs) o r k f =
        let c = message_counted p n (length xs) k.declared k.counted in
        let few = message_few (slice_get p.messages (declared (message_number p n))) (declared (message_number p n)) refl in
        by_last (send e n xs) _ o f (record { other = refl; next = refl; count = omega arith; few = omega arith })
    takes (send_all e n xs) o r k f =
        let c = message_counted p n (length xs) k.declared k.counted in
        let few = message_few (slice_get p.messages (declared (message_number p n))) (declared (message_number p n)) refl in
        by_last (send_all e n xs) _ o f (record { other = refl; next = refl; count = omega arith; few = omega arith })
    takes (set_state n xs) o r k f =
        let c = state_counted p n (length xs) k.declared (and_parts (is_state_count (state_of p n) (length xs)) _ k.counted).0 in
        let few = state_few (slice_get p.states (declared (state_number p n))) (declared (state_number p n)) refl in
        by_last (set_state n xs) _ o f (record { other = refl; next = refl; count = c; few = omega arith })
    takes (suspend l n xs q) o r k f =
        let c = state_counted p n (length xs) (and_parts (is_some (state_of p n)) _ k.declared).0
        (and_parts (is_state_count (state_of p n) (length xs)) _ k.counted).0 in
        let few = state_few (slice_get p.states (declared (state_number p n))) (declared (state_number p n)) refl in
        by_last (suspend l n xs q) _ o f (record { other = refl; next = refl; count = c; few = omega arith })
    takes (set_tag g) o r k f = by_last (set_tag g) _ o f (record { other = refl; next = refl; count = refl; few = omega arith })
    takes (resume n) o r k f = by_last (resume n) _ o f (record { other = refl; next = refl; count = refl; few = omega arith })
    takes install o r k f = by_last install _ o f (record { other = refl; next = refl; count = refl; few = omega arith })
    takes enqueue o r k f = by_last enqueue _ o f (record { other = refl; next = refl; count = refl; few = omega arith })
    takes wake_up o r k f = by_last wake_up _ o f (record { other = refl; next = refl; count = refl; few = omega arith })
    takes (error n) o r k f = by_last (error n) _ o f (record { other = refl; next = refl; count = refl; few = omega arith })

    module _ (ops : List OpCode) (from : ℕ) (D : ℕ → ℕ) (step : (a : ℕ) (o : OpCode) → from ≤ a → HasOp ops a o →
        D (a + 1) ≡ depth_after p o (D a)) where
      abbrev Is : ℕ → OpCode → Type 0
      Is = IsServed p (names_in t h) ops from D step

      -- no value is left behind
      pub record Clears (lo hi : ℕ) : Type 0 where
        pub up : lo ≤ hi
        pub over : Over ops Is lo hi
        pub clear : D hi ≡ 0

      abbrev pub Serves : ℕ → ℕ → ℕ → ℕ → Type 0
      Serves lo hi k i = from ≤ lo → D lo ≡ 0 → Clears lo hi

      -- an op that leaves none
      one_other : (at : ℕ) (o : OpCode) → from ≤ at → HasOp ops at o → is_value o ≡ false → D at ≡ taken_by p o →
          ((to : ℕ) → target o ≡ Some to → D to ≡ 0) → Clears at (at + 1)
      one_other at o f has e d leads = record {
        up = omega arith;
        over = over_one ops Is at o has (record { served = other_served p o (D at) e d; leads = leads });
        clear = step at o f has ∙ after_other p o (D at) e;
      }

      cleared : (at : ℕ) (o : OpCode) → from ≤ at → HasOp ops at o → is_value o ≡ false → D (at + 1) ≡ 0
      cleared at o f has e = step at o f has ∙ after_other p o (D at) e

      both_clear : (lo mid hi : ℕ) → lo ≤ mid → Over ops Is lo mid → Clears mid hi → Clears lo hi
      both_clear lo mid hi l f g =
          let u = g.up in
          record { up = omega arith; over = over_joined ops Is lo mid hi f g.over; clear = g.clear }

      tested_expr : (e : Expr) (at after : ℕ) → from ≤ at → D at ≡ 0 → Shallow e → Evaluates p (names_in t h) ops at e after →
          Grows p (names_in t h) ops from D step 1 at after
      tested_expr e at after f z s x = grows p (names_in t h) ops from D step x f (omega arith)

      pub serves : Closed p t h ops Serves
      serves = record {
        empty = λ at k f z. record { up = omega arith; over = over_none ops Is at; clear = z };
        joined = λ lo mid hi k i j x y f z.
            let a = x f z in
            let u = a.up in
            both_clear lo mid hi a.up a.over (y (omega arith) a.clear);
        simple = λ a o at last r k keeps shallow lasted ev has f z.
            let w = takes a o r keeps lasted in
            let few = w.few in
            let count = w.count in
            let u = all_rise p (names_in t h) ops ev in
            let g = all_grow p (names_in t h) ops from D step ev f shallow (omega arith) in
            let more = g.more in
            both_clear at last (last + 1) u g.over (one_other last o (omega arith) has w.other (omega arith)
            (λ to e. absurd (let n = w.next in cc)));
        tested = λ e at after to k i keeps shallow ev has x f z.
            let u = rises p (names_in t h) ops ev in
            let g = tested_expr e at after f z shallow ev in
            let more = g.more in
            let y = x (omega arith) (cleared after (op.JumpIfNot to) (omega arith) has refl) in
            both_clear at after to (omega arith) g.over (both_clear after (after + 1) to (omega arith)
            (one_other after (op.JumpIfNot to) (omega arith) has refl (omega arith)
            (λ q e. let same : to ≡ q = cc in subst (λ w. D w ≡ 0) same y.clear)).over y);
        branched = λ e at after mid to k i j keeps shallow ev has x jump y f z.
            let u = rises p (names_in t h) ops ev in
            let g = tested_expr e at after f z shallow ev in
            let more = g.more in
            let a = x (omega arith) (cleared after (op.JumpIfNot (mid + 1)) (omega arith) has refl) in
            let ua = a.up in
            let za = a.clear in
            let zb = cleared mid (op.Jump to) (omega arith) jump refl in
            let b = y (omega arith) zb in
            let test = one_other after (op.JumpIfNot (mid + 1)) (omega arith) has refl (omega arith)
            (λ q e. let same : mid + 1 ≡ q = cc in subst (λ w. D w ≡ 0) same zb) in
            let over = one_other mid (op.Jump to) (omega arith) jump refl (omega arith)
            (λ q e. let same : to ≡ q = cc in subst (λ w. D w ≡ 0) same b.clear) in
            both_clear at after to (omega arith) g.over (both_clear after (after + 1) to (omega arith) test.over
            (both_clear (after + 1) mid to ua a.over (both_clear mid (mid + 1) to (omega arith) over.over b)));
        looped = λ v e s at after end k i keeps shallow slot ev put next x back f z.
            let u = rises p (names_in t h) ops ev in
            let g = tested_expr e at after f z shallow ev in
            let more = g.more in
            let z1 = cleared after (op.Put k) (omega arith) put refl in
            let z2 = cleared (after + 1) (op.EachNext s k (end + 1)) (omega arith) next refl in
            let b = x (omega arith) z2 in
            let ub = b.up in
            let zb = b.clear in
            let z3 = cleared end (op.JumpBack (after + 1)) (omega arith) back refl in
            let first = one_other after (op.Put k) (omega arith) put refl (omega arith) (λ q e. absurd (cc)) in
            let second = one_other (after + 1) (op.EachNext s k (end + 1)) (omega arith) next refl (omega arith)
            (λ q e. let same : end + 1 ≡ q = cc in subst (λ w. D w ≡ 0) same z3) in
            let last = one_other end (op.JumpBack (after + 1)) (omega arith) back refl (omega arith)
            (λ q e. let same : after + 1 ≡ q = cc in subst (λ w. D w ≡ 0) same z1) in
            both_clear at after (end + 1) (omega arith) g.over
            (both_clear after (after + 1) (end + 1) (omega arith) first.over
            (both_clear (after + 1) (after + 1 + 1) (end + 1) (omega arith) second.over
            (both_clear (after + 1 + 1) end (end + 1) ub b.over last)));
      }
