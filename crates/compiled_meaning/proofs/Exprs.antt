-- The code of an expression leaves its value.
use Rattle.std.proofs.Common.{◌≡◌, ℕ, ◌+◌, ◌<◌, ◌≤◌, Bool, List, [], ◌∷◌, length, Option, Some, None, refl, sym, ap, subst}
use Rattle.std.proofs.Common.{arith, ◌∙◌}
use Rattle.std.specs.Prelude.{codes}
use Rattle.tw_base.specs.declared.name.Name.{Name}
use Rattle.tw_base.specs.declared.value.Value.{Value}
use Rattle.tw_base.specs.declared.value.Value.TheVariants as v
use Rattle.teapot_tree.specs.declared.expr.Expr.{Expr, out-Expr}
use Rattle.teapot_tree.specs.declared.expr.Expr.TheOpen.{Expr-F}
use Rattle.teapot_tree.specs.declared.expr.Expr.TheFolds.{map-Expr}
use Rattle.teapot_tree.specs.declared.protocol.Protocol.{Protocol}
use Rattle.teapot_meaning.specs.Names.{info_number}
use Rattle.teapot_meaning.specs.declared.state.Bound.{Bound}
use Rattle.teapot_meaning.specs.Steps.{set_of}
use Rattle.teapot_meaning.specs.declared.state.Running.{Running}
use Rattle.teapot_meaning.specs.Values.{info_at, value_of, value_step, variable}
use Rattle.handler_code.specs.declared.code.Code.{Code}
use Rattle.handler_code.specs.declared.code.OpCode.{OpCode}
use Rattle.handler_code.specs.declared.code.OpCode.TheVariants as op
use Rattle.handler_code.specs.Live.{HasOp, LeadsTo, ReadsFirst, reads, later}
use Rattle.handler_code.specs.Machine.{Machine, Next, Runs, moves, Stopped, act, act_at, pushed, value_at}
use Rattle.compiled_meaning.specs.Follows.{Evaluates, atom, single, negation, counting, pair, Loop, Nested, atom_op, get_op}
use Rattle.compiled_meaning.specs.Follows.{slot_of}
use Rattle.compiled_meaning.specs.Stands.{Agrees, HoldsSets, around_of, names_of}
use Rattle.compiled_meaning.proofs.Values.{value_of-is}
use Rattle.compiled_meaning.proofs.Vars.{place_within, slot-place, variable-slot, variable-info}

-- What the code comes to from the second machine, it comes to from the first.
abbrev pub Comes : Protocol → Code → Machine → Machine → Type 0
Comes p code m n = (e : Stopped) → Runs p code n e → Runs p code m e

-- one op
pub one : (p : Protocol) (code : Code) (o : OpCode) (m n : Machine) → HasOp code.ops m.at o → act p code o m ≡ Next n →
    Comes p code m n
one p code o m n h a e r = moves (ap (λ x. act_at p code x m) h ∙ a) r

pub nested_low : (names : List Name) (bound : ℕ) (loops : List Loop) → Nested names bound loops → length names ≤ bound
nested_low names bound [] n = n
nested_low names bound (l ∷ loops) n = let low = nested_low names l.slot loops n.1 in let high = n.0 in omega arith

pub nested_more : (names : List Name) (a b : ℕ) (loops : List Loop) → a ≤ b → Nested names a loops → Nested names b loops
nested_more names a b [] le n = omega arith
nested_more names a b (l ∷ loops) le n = let high = n.0 in (omega arith, n.1)

-- the sets of loops at another place, with other slots
pub sets_keep : (ops : List OpCode) (at next : ℕ) (slots new : List Value) (names : List Name) (bound : ℕ)
    (loops : List Loop) → Nested names bound loops → ((slot : ℕ) (set : List Bool) → length names ≤ slot → slot < bound →
    (ReadsFirst ops at slot → set_of (value_at slots slot) ≡ set) → ReadsFirst ops next slot →
    set_of (value_at new slot) ≡ set) → HoldsSets ops at slots loops → HoldsSets ops next new loops
sets_keep ops at next slots new names bound [] n f h = tt
sets_keep ops at next slots new names bound (l ∷ loops) n f h =
    let low = nested_low names l.slot loops n.1 in
    let high = n.0 in (
      f l.slot l.set low high h.0,
      sets_keep ops at next slots new names l.slot loops n.1
          (λ slot set a b. f slot set a (omega arith)) h.1,
    )

-- what is read after an op that writes nothing is read before it
pub agrees_on : (ops : List OpCode) (width at next : ℕ) (o : OpCode) (slots : List Value) (vars : List Bound)
    (loops : List Loop) → HasOp ops at o → LeadsTo o at next None → Agrees ops width at slots vars loops →
    Agrees ops width next slots vars loops
agrees_on ops width at next o slots vars loops h l g =
    record {
      sized = g.sized;
      fits = g.fits;
      nested = g.nested;
      live = λ k lt r. g.live k lt (later h l (λ e. differ k e) r);
      sets = sets_keep ops at next slots slots (names_of vars) width loops g.nested
          (λ slot set a b f r. f (later h l (λ e. differ slot e) r)) g.sets;
    }
  where
    differ : (k : ℕ) → None ≡ Some k → ⊥
    differ k e = cc

get_leads : (i j : Option ℕ) (at : ℕ) → LeadsTo (get_op i j) at (at + 1) None
get_leads (Some k) j at = (refl, refl)
get_leads None (Some k) at = (refl, refl)
get_leads None None at = (refl, refl)

-- the op leads on to the next place, and writes no slot
abbrev GoesOn : ℕ → OpCode → Type 0
GoesOn at o = LeadsTo o at (at + 1) None

is_op : (a o : OpCode) (at : ℕ) → Some a ≡ Some o → GoesOn at a → GoesOn at o
is_op a o at e g = let same : a ≡ o = cc in subst (GoesOn at) same g

atom_leads : (p : Protocol) (names : List Name) (l : Expr-F Expr) (o : OpCode) (at : ℕ) → atom_op p names l ≡ Some o → GoesOn at o
atom_leads p names (Expr-F.Number n) o at e = is_op _ o at e (refl, refl)
atom_leads p names Expr-F.True o at e = is_op _ o at e (refl, refl)
atom_leads p names Expr-F.False o at e = is_op _ o at e (refl, refl)
atom_leads p names Expr-F.Empty o at e = is_op _ o at e (refl, refl)
atom_leads p names Expr-F.Src o at e =
    is_op _ o at e (get_leads (slot_of names (codes "src")) (info_number p (codes "src")) at)
atom_leads p names Expr-F.SelfNode o at e = is_op _ o at e (refl, refl)
atom_leads p names Expr-F.Home o at e = is_op _ o at e (refl, refl)
atom_leads p names (Expr-F.Var name) o at e =
    is_op _ o at e (get_leads (slot_of names name) (info_number p name) at)
atom_leads p names (Expr-F.One a) o at e = cc
atom_leads p names (Expr-F.Not a) o at e = cc
atom_leads p names (Expr-F.Count a) o at e = cc
atom_leads p names (Expr-F.Two t a b) o at e = cc

-- an op is counted as it is passed
one_op : (n at : ℕ) → n + 1 + at ≡ n + (at + 1)
one_op n at = omega arith

one_more : (ops at start after : ℕ) → ops + at ≡ start + after → ops + 1 + at ≡ start + (after + 1)
one_more ops at start after e = omega arith

pub both_straight : (first all start at middle after : ℕ) → first + at ≡ start + middle → all + middle ≡ first + after →
    all + at ≡ start + after
both_straight first all start at middle after e f = omega arith

-- the machine at the first place comes to the second, with a value more and an op counted for each place passed
pub record Yields (p : Protocol) (code : Code) (m : Machine) (at after : ℕ) (x : Value) : Type 0 where
  pub ops : ℕ
  pub straight : ops + at ≡ m.ops + after
  pub comes : Comes p code (record m { at = at }) (record m { at = after; stack = x ∷ m.stack; ops = ops })

pub after_expr : (p : Protocol) (names : List Name) (ops : List OpCode) (width : ℕ)
    (loops : List Loop) {at after : ℕ} {e : Expr} (slots : List Value) (vars : List Bound) → Evaluates p names ops at e after →
    Agrees ops width at slots vars loops → Agrees ops width after slots vars loops
after_expr p names ops width loops slots vars (atom {at = at} {e = e} {o = o} a h) g =
    let l = atom_leads p names (out-Expr e) o at a in agrees_on ops width _ _ o slots vars loops h l g
after_expr p names ops width loops slots vars (single d x h) g =
    agrees_on ops width _ _ op.One slots vars loops h (refl, refl) (after_expr p names ops width loops slots vars x g)
after_expr p names ops width loops slots vars (negation d x h) g =
    agrees_on ops width _ _ op.Not slots vars loops h (refl, refl) (after_expr p names ops width loops slots vars x g)
after_expr p names ops width loops slots vars (counting d x h) g =
    agrees_on ops width _ _ op.Count slots vars loops h (refl, refl) (after_expr p names ops width loops slots vars x g)
after_expr p names ops width loops slots vars (pair {o = o} d x y h) g =
    agrees_on ops width _ _ (op.Two o) slots vars loops h (refl, refl)
    (after_expr p names ops width loops slots vars y (after_expr p names ops width loops slots vars x g))

module _ (p : Protocol) (code : Code) (width : ℕ) (loops : List Loop) where
  -- reading a variable
  get_yields : (r : Running) (m : Machine) (at : ℕ) (name : Name) (i j : Option ℕ) → slot_of (names_of r.vars) name ≡ i →
      info_number p name ≡ j → HasOp code.ops at (get_op i j) → Agrees code.ops width at m.slots r.vars loops →
      m.around ≡ around_of r → Yields p code m at (at + 1) (variable p r name)
  get_yields r m at name (Some k) j e f h g a =
      let same : value_at m.slots k ≡ variable p r name = g.live k (place_within r.vars name k (slot-place name r.vars ∙ e))
      (reads h refl) ∙ sym (variable-slot p r name k e) in
      subst (Yields p code m at (at + 1)) same (record {
        ops = m.ops + 1;
        straight = one_op m.ops at;
        comes = one p code (op.Get k) (record m { at = at }) _ h refl;
      })
  get_yields r m at name None (Some i) e f h g a =
      let same : value_at m.around.infos i ≡ variable p r name = ap (λ x. value_at x.infos i) a
      ∙ sym (variable-info p r name e ∙ ap (info_at r.here.infos) f) in
      subst (Yields p code m at (at + 1)) same (record {
        ops = m.ops + 1;
        straight = one_op m.ops at;
        comes = one p code (op.GetInfo i) (record m { at = at }) _ h refl;
      })
  get_yields r m at name None None e f h g a =
      let same : v.Int 0 ≡ variable p r name = sym (variable-info p r name e ∙ ap (info_at r.here.infos) f) in
      subst (Yields p code m at (at + 1)) same (record {
        ops = m.ops + 1;
        straight = one_op m.ops at;
        comes = one p code (op.Const (v.Int 0)) (record m { at = at }) _ h refl;
      })

  -- an op that only pushes a value
  push_yields : (m : Machine) (at : ℕ) (a o : OpCode) (x : Value) → Some a ≡ Some o → HasOp code.ops at o →
      act p code a (record m { at = at }) ≡ Next (pushed (record m { at = at }) m.stack x) → Yields p code m at (at + 1) x
  push_yields m at a o x e h w =
      let same : o ≡ a = cc in
      record {
        ops = m.ops + 1;
        straight = one_op m.ops at;
        comes = one p code a (record m { at = at }) _
            (subst (HasOp code.ops at) same h) w;
      }

  step_value : Running → Expr-F Expr → Value
  step_value r l = value_step p r (map-Expr Expr Value (value_of p r) l)

  atom_yields : (r : Running) (m : Machine) (at : ℕ) (l : Expr-F Expr) (o : OpCode) → atom_op p (names_of r.vars) l ≡ Some o →
      HasOp code.ops at o → Agrees code.ops width at m.slots r.vars loops → m.around ≡ around_of r →
      Yields p code m at (at + 1) (step_value r l)
  unfolding step_value
  atom_yields r m at (Expr-F.Number n) o e h g i = push_yields m at _ o _ e h refl
  atom_yields r m at Expr-F.True o e h g i = push_yields m at _ o _ e h refl
  atom_yields r m at Expr-F.False o e h g i = push_yields m at _ o _ e h refl
  atom_yields r m at Expr-F.Empty o e h g i = push_yields m at _ o _ e h refl
  atom_yields r m at Expr-F.Src o e h g i =
      let same : o ≡ get_op (slot_of (names_of r.vars) (codes "src")) (info_number p (codes "src")) = cc in
      get_yields r m at (codes "src") _ _ refl refl (subst (HasOp code.ops at) same h) g i
  atom_yields r m at Expr-F.SelfNode o e h g i =
      subst (λ x. Yields p code m at (at + 1) (v.Node x.me)) i (push_yields m at _ o _ e h refl)
  atom_yields r m at Expr-F.Home o e h g i =
      subst (λ x. Yields p code m at (at + 1) (v.Node x.home)) i (push_yields m at _ o _ e h refl)
  atom_yields r m at (Expr-F.Var name) o e h g i =
      let same : o ≡ get_op (slot_of (names_of r.vars) name) (info_number p name) = cc in
      get_yields r m at name _ _ refl refl (subst (HasOp code.ops at) same h) g i
  atom_yields r m at (Expr-F.One a) o e h g i = cc
  atom_yields r m at (Expr-F.Not a) o e h g i = cc
  atom_yields r m at (Expr-F.Count a) o e h g i = cc
  atom_yields r m at (Expr-F.Two t a b) o e h g i = cc

  -- an expression's value by its layer
  layer_value : (r : Running) (e : Expr) (l : Expr-F Expr) → out-Expr e ≡ l → step_value r l ≡ value_of p r e
  unfolding step_value
  layer_value r e l d = sym (value_of-is p r e ∙ ap (step_value r) d)

  -- an op on the top of the stack, behind the code of its operand
  unary_yields : (r : Running) (m : Machine) (at after : ℕ) (e a : Expr) (l : Expr-F Expr) (o : OpCode) → out-Expr e ≡ l →
      HasOp code.ops after o → Yields p code m at after (value_of p r a) →
      ((n : ℕ) → act p code o (record m { at = after; stack = value_of p r a ∷ m.stack; ops = n })
      ≡ Next (record m { at = after + 1; stack = step_value r l ∷ m.stack; ops = n + 1 })) →
      Yields p code m at (after + 1) (value_of p r e)
  unary_yields r m at after e a l o d h y does =
      let n : Machine = record m { at = after; stack = value_of p r a ∷ m.stack; ops = y.ops } in
      subst (Yields p code m at (after + 1)) (layer_value r e l d)
      (record {
        ops = y.ops + 1;
        straight = one_more y.ops at m.ops after y.straight;
        comes = λ s z. y.comes s (one p code o n _ h (does y.ops) s z);
      })

  pub expr_yields : (r : Running) {at after : ℕ} {e : Expr} (m : Machine) → Evaluates p (names_of r.vars) code.ops at e after →
      Agrees code.ops width at m.slots r.vars loops → m.around ≡ around_of r → Yields p code m at after (value_of p r e)
  unfolding step_value
  expr_yields r m (atom {at = at} {e = e} {o = o} a h) g i =
      subst (Yields p code m at (at + 1)) (layer_value r e (out-Expr e) refl) (atom_yields r m at (out-Expr e) o a h g i)
  expr_yields r m (single {at = at} {after = after} {e = e} {a = a} d x h) g i =
      unary_yields r m at after e a (Expr-F.One a) op.One d h (expr_yields r m x g i) (λ n. refl)
  expr_yields r m (negation {at = at} {after = after} {e = e} {a = a} d x h) g i =
      unary_yields r m at after e a (Expr-F.Not a) op.Not d h (expr_yields r m x g i) (λ n. refl)
  expr_yields r m (counting {at = at} {after = after} {e = e} {a = a} d x h) g i =
      unary_yields r m at after e a (Expr-F.Count a) op.Count d h (expr_yields r m x g i) (λ n. refl)
  expr_yields r m (pair {at = at} {middle = middle} {after = after} {e = e} {a = a} {b = b} {o = o} d x y h) g i =
      let f = expr_yields r m x g i in
      let n : Machine = record m { at = middle; stack = value_of p r a ∷ m.stack; ops = f.ops } in
      let k = expr_yields r n y (after_expr p (names_of r.vars) code.ops width loops m.slots r.vars x g) i in
      let w : Machine = record n { at = after; stack = value_of p r b ∷ n.stack; ops = k.ops } in
      subst (Yields p code m at (after + 1)) (layer_value r e (Expr-F.Two o a b) d)
      (record {
        ops = k.ops + 1;
        straight = one_more k.ops at m.ops after
            (both_straight f.ops k.ops m.ops at middle after f.straight k.straight);
        comes =
            λ s z. f.comes s (k.comes s (one p code (op.Two o) w _ h refl s z));
      })
