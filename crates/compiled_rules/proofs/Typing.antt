-- Each op of an accepted protocol's code finds values of the types that it needs.
use Rattle.std.proofs.Common.{◌≡◌, ◌∙◌, ℕ, ◌+◌, ◌≤◌, true, false, if◌then◌else◌, List, [], ◌∷◌, ◌++◌, length, Option, Some}
use Rattle.std.proofs.Common.{None, refl, ap, sym, subst, arith}
use Rattle.std.specs.Prelude.{codes, drop, is_some, map}
use Rattle.tw_base.specs.NodeSets.{empty}
use Rattle.tw_base.specs.declared.name.Name.{Name}
use Rattle.tw_base.specs.declared.value.Value.TheVariants as v
use Rattle.teapot_tree.specs.declared.expr.Expr.{Expr, out-Expr}
use Rattle.teapot_tree.specs.declared.expr.Expr.TheOpen.{Expr-F}
use Rattle.teapot_tree.specs.declared.expr.Expr.TheFolds.{fold_out-Expr, map-Expr}
use Rattle.teapot_tree.specs.declared.expr.Op.{Op}
use Rattle.teapot_tree.specs.declared.expr.Op.TheVariants.{Add, Sub, Eq, Ne, Lt, Le, And, Or, Has, With, Without}
use Rattle.teapot_tree.specs.declared.protocol.Handler.{Handler}
use Rattle.teapot_tree.specs.declared.protocol.Protocol.{Protocol}
use Rattle.teapot_tree.specs.declared.protocol.State.{State}
use Rattle.teapot_tree.specs.declared.protocol.ValType.{ValType}
use Rattle.teapot_tree.specs.declared.protocol.ValType.TheVariants as ty
use Rattle.teapot_tree.specs.Rules.{type_in}
use Rattle.teapot_tree.specs.Scopes.{Scope, Variable, are_alike, same_type, type_of, type_of_two, type_step, visible}
use Rattle.teapot_meaning.specs.Fits.{names_in}
use Rattle.teapot_meaning.specs.Names.{info_number}
use Rattle.teapot_meaning.proofs.Found.{both}
use Rattle.teapot_meaning.proofs.Sound.{scope_of}
use Rattle.teapot_meaning.proofs.Typed.{both_known, is_of_some, one_known, where_known}
use Rattle.handler_code.specs.declared.code.OpCode.{OpCode}
use Rattle.handler_code.specs.declared.code.OpCode.TheVariants as op
use Rattle.handler_code.specs.Live.{HasOp}
use Rattle.code_walks.specs.Kinds.{gives, has_loop_slots, is_typed, needs, needs_two, pushed_on, put_on, top_type, types_after}
use Rattle.code_walks.specs.Kinds.{without}
use Rattle.code_walks.specs.Kinds as kinds
use Rattle.compiled_meaning.specs.Follows.{Evaluates, EvaluatesAll, atom_op, get_op, slot_of}
use Rattle.compiled_meaning.specs.Follows as follows
use Rattle.compiled_rules.proofs.Slotting.{SlotsFit}
use Rattle.compiled_rules.proofs.Spans.{Over, over_joined, over_none, over_one, rises}

-- ---- taking off a stack

pub same_type_self : (t : ValType) → same_type t t ≡ true
same_type_self ty.Int = refl
same_type_self ty.Bool = refl
same_type_self ty.Node = refl
same_type_self ty.Set = refl

without_front : (ns rest : List ValType) → without (ns ++ rest) ns ≡ Some rest
without_front [] [] = refl
without_front [] (t ∷ rest) = refl
without_front (n ∷ ns) rest = ap (λ b. if b then without (ns ++ rest) ns else None) (same_type_self n) ∙ without_front ns rest

drop_front : (ns rest : List ValType) → drop (length ns) (ns ++ rest) ≡ rest
drop_front [] rest = refl
drop_front (n ∷ ns) rest = drop_front ns rest

append-nil : (xs : List ValType) → xs ++ [] ≡ xs
append-nil [] = refl
append-nil (x ∷ xs) = ap (λ l. x ∷ l) (append-nil xs)

-- ---- one op

module _ (p : Protocol) (slots : List ValType) where
  -- it is typed, and gives a value on what it leaves
  record Gives (o : OpCode) (stack : List ValType) (u : ValType) (rest : List ValType) : Type 0 where
    typed : is_typed p slots o stack ≡ true
    after : types_after p slots o stack ≡ u ∷ rest

  loop_slots : (o : OpCode) (u : ValType) → gives p slots o ≡ Some u → has_loop_slots slots o ≡ true
  loop_slots (op.EachNext k h to) u e = cc
  loop_slots _ u e = refl

  gives_one : (o : OpCode) (ns rest : List ValType) (u : ValType) → needs p slots o (top_type (ns ++ rest)) ≡ ns →
      gives p slots o ≡ Some u → Gives o (ns ++ rest) u rest
  gives_one o ns rest u e f = record {
    typed = both _ _ (ap (λ l. is_some (without (ns ++ rest) l)) e ∙ ap is_some (without_front ns rest)) (loop_slots o u f);
    after = ap (λ l. put_on (gives p slots o) (drop (length l) (ns ++ rest))) e
        ∙ (ap (put_on (gives p slots o)) (drop_front ns rest) ∙ ap (λ g. put_on g rest) f);
  }

  -- an op that leaves none, and takes all
  pub takes_all : (o : OpCode) (stack : List ValType) → needs p slots o (top_type stack) ≡ stack →
      has_loop_slots slots o ≡ true → is_typed p slots o stack ≡ true
  takes_all o stack e f =
      both _ _ (ap (λ l. is_some (without stack l)) e ∙ ap is_some
      (ap (λ s. without s stack) (sym (append-nil stack)) ∙ without_front stack [])) f

  pub after_none : (o : OpCode) (stack : List ValType) → gives p slots o ≡ None → types_after p slots o stack ≡ []
  after_none o stack e = ap (λ g. put_on g (drop (length (needs p slots o (top_type stack))) stack)) e

-- ---- operators

-- the types of two operands
record TwoTypes (o : Op) (a b : Option ValType) (u : ValType) : Type 0 where
  left : ValType
  right : ValType
  first : a ≡ Some left
  second : b ≡ Some right
  needed : needs_two o right ≡ right ∷ left ∷ []
  given : kinds.type_of_two o ≡ u

alike : (a b : Option ValType) → are_alike a b ≡ true → (t : ValType) × (a ≡ Some t) × (b ≡ Some t)
alike None b e = cc
alike (Some t) b e = (t, refl, is_of_some t b e)

two_types : (o : Op) (a b : Option ValType) (u : ValType) → type_of_two o a b ≡ Some u → TwoTypes o a b u
two_types Add a b u e = let k = both_known ty.Int ty.Int ty.Int u a b e in record
    { left = ty.Int; right = ty.Int; first = k.0; second = k.1; needed = refl; given = k.2 }
two_types Sub a b u e = let k = both_known ty.Int ty.Int ty.Int u a b e in record
    { left = ty.Int; right = ty.Int; first = k.0; second = k.1; needed = refl; given = k.2 }
two_types Lt a b u e = let k = both_known ty.Int ty.Int ty.Bool u a b e in record
    { left = ty.Int; right = ty.Int; first = k.0; second = k.1; needed = refl; given = k.2 }
two_types Le a b u e = let k = both_known ty.Int ty.Int ty.Bool u a b e in record
    { left = ty.Int; right = ty.Int; first = k.0; second = k.1; needed = refl; given = k.2 }
two_types And a b u e = let k = both_known ty.Bool ty.Bool ty.Bool u a b e in record
    { left = ty.Bool; right = ty.Bool; first = k.0; second = k.1; needed = refl; given = k.2 }
two_types Or a b u e = let k = both_known ty.Bool ty.Bool ty.Bool u a b e in record
    { left = ty.Bool; right = ty.Bool; first = k.0; second = k.1; needed = refl; given = k.2 }
two_types Has a b u e = let k = both_known ty.Set ty.Node ty.Bool u a b e in record
    { left = ty.Set; right = ty.Node; first = k.0; second = k.1; needed = refl; given = k.2 }
two_types With a b u e = let k = both_known ty.Set ty.Node ty.Set u a b e in record
    { left = ty.Set; right = ty.Node; first = k.0; second = k.1; needed = refl; given = k.2 }
two_types Without a b u e = let k = both_known ty.Set ty.Node ty.Set u a b e in record
    { left = ty.Set; right = ty.Node; first = k.0; second = k.1; needed = refl; given = k.2 }
two_types Eq a b u e = let w = where_known (are_alike a b) ty.Bool u e in let k =
    alike a b w.0 in record { left = k.0; right = k.0; first = k.1; second = k.2; needed = refl; given = w.1 }
two_types Ne a b u e = let w = where_known (are_alike a b) ty.Bool u e in let k =
    alike a b w.0 in record { left = k.0; right = k.0; first = k.1; second = k.2; needed = refl; given = w.1 }

type-is : (vs : List Variable) (e : Expr) (l : Expr-F Expr) → out-Expr e ≡ l →
    type_of vs e ≡ type_step vs (map-Expr Expr (Option ValType) (type_of vs) l)
unfolding type_of
type-is vs e l d = fold_out-Expr (Option ValType) (type_step vs) e
    ∙ ap (λ x. type_step vs (map-Expr Expr (Option ValType) (type_of vs) x)) d

-- ---- expressions, where T says which types there are before each place

module _ (p : Protocol) (t : State) (h : Handler) (slots : List ValType) (width : ℕ) (fit : SlotsFit p t h slots width) where
  abbrev c : Scope
  c = scope_of p t h

  abbrev names : List Name
  names = names_in t h

  record Atom (o : OpCode) (u : ValType) : Type 0 where
    given : gives p slots o ≡ Some u
    needed : (top : ValType) → needs p slots o top ≡ []

  get_needs : (i j : Option ℕ) (top : ValType) → needs p slots (get_op i j) top ≡ []
  get_needs (Some k) j top = refl
  get_needs None (Some k) top = refl
  get_needs None None top = refl

  by_some : (o q : OpCode) (u w : ValType) → Some o ≡ Some q → Some u ≡ Some w → Atom o u → Atom q w
  by_some o q u w e f x = let same : o ≡ q = cc in let alike : u ≡ w =
      cc in subst (λ z. Atom z w) same (subst (λ z. Atom o z) alike x)

  atom : (l : Expr-F Expr) (o : OpCode) (u : ValType) → atom_op p names l ≡ Some o →
      type_step (visible c) (map-Expr Expr (Option ValType) (type_of (visible c)) l) ≡ Some u → Atom o u
  atom (Expr-F.Number n) o u e f = by_some (op.Const (v.Int n)) o ty.Int u e f (record { given = refl; needed = λ top. refl })
  atom Expr-F.True o u e f = by_some (op.Const (v.Bool true)) o ty.Bool u e f (record { given = refl; needed = λ top. refl })
  atom Expr-F.False o u e f = by_some (op.Const (v.Bool false)) o ty.Bool u e f (record { given = refl; needed = λ top. refl })
  atom Expr-F.Empty o u e f = by_some (op.Const (v.Set empty)) o ty.Set u e f (record { given = refl; needed = λ top. refl })
  atom Expr-F.Src o u e f = by_some (get_op (slot_of names (codes "src")) (info_number p (codes "src"))) o ty.Node u e f
      (record { given = fit.source; needed = λ top. get_needs (slot_of names (codes "src")) (info_number p (codes "src")) top })
  atom Expr-F.SelfNode o u e f = by_some op.Me o ty.Node u e f (record { given = refl; needed = λ top. refl })
  atom Expr-F.Home o u e f = by_some op.Home o ty.Node u e f (record { given = refl; needed = λ top. refl })
  atom (Expr-F.Var n) o u e f = by_some (get_op (slot_of names n) (info_number p n)) o u u e refl
      (record { given = fit.reads n u f; needed = λ top. get_needs (slot_of names n) (info_number p n) top })
  atom (Expr-F.One a) o u e f = cc (e)
  atom (Expr-F.Not a) o u e f = cc (e)
  atom (Expr-F.Count a) o u e f = cc (e)
  atom (Expr-F.Two q a b) o u e f = cc (e)

  module _ (ops : List OpCode) (from : ℕ) (T : ℕ → List ValType)
      (step : (a : ℕ) (o : OpCode) → from ≤ a → HasOp ops a o → T (a + 1) ≡ types_after p slots o (T a)) where
    abbrev pub IsWell : ℕ → OpCode → Type 0
    IsWell a o = is_typed p slots o (T a) ≡ true

    -- values of these types more, the first the deepest
    pub record Adds (us : List ValType) (at after : ℕ) : Type 0 where
      pub over : Over ops IsWell at after
      pub more : T after ≡ pushed_on (T at) us

    one_value : (at : ℕ) (o : OpCode) (ns rest : List ValType) (u : ValType) → from ≤ at → HasOp ops at o → T at ≡ ns ++ rest →
        needs p slots o (top_type (ns ++ rest)) ≡ ns → gives p slots o ≡ Some u →
        Over ops IsWell at (at + 1) × (T (at + 1) ≡ u ∷ rest)
    one_value at o ns rest u f has e n g =
        let x = gives_one p slots o ns rest u n g in (
          over_one ops IsWell at o has (ap (is_typed p slots o) e ∙ x.typed),
          step at o f has
              ∙ (ap (types_after p slots o) e ∙ x.after),
        )

    behind : (at after : ℕ) (o : OpCode) (n u : ValType) → from ≤ after → HasOp ops after o → needs p slots o n ≡ n ∷ [] →
        gives p slots o ≡ Some u → Adds (n ∷ []) at after → Adds (u ∷ []) at (after + 1)
    behind at after o n u f has e g x =
        let y = one_value after o (n ∷ []) (T at) u f has x.more e g in
        record { over = over_joined ops IsWell at after (after + 1) x.over y.0; more = y.1 }

    pub adds : {at after : ℕ} {e : Expr} → Evaluates p names ops at e after → from ≤ at → (u : ValType) →
        type_in c e ≡ Some u → Adds (u ∷ []) at after
    adds (follows.atom {at = at} {e = e} {o = o} d has) f u g =
        let x = atom (out-Expr e) o u d (sym (type-is (visible c) e (out-Expr e) refl) ∙ g) in
        let y = one_value at o [] (T at) u f has refl (x.needed (top_type (T at))) x.given in
        record { over = y.0; more = y.1 }
    adds (follows.single {at = at} {after = after} {e = e} {a = a} d x has) f u g =
        let k = one_known ty.Node ty.Set u (type_in c a) (sym (type-is (visible c) e (Expr-F.One a) d) ∙ g) in
        let up = rises p names ops x in
        behind at after op.One ty.Node u (omega arith) has refl (ap (λ z. Some z) k.1) (adds x f ty.Node k.0)
    adds (follows.negation {at = at} {after = after} {e = e} {a = a} d x has) f u g =
        let k = one_known ty.Bool ty.Bool u (type_in c a) (sym (type-is (visible c) e (Expr-F.Not a) d) ∙ g) in
        let up = rises p names ops x in
        behind at after op.Not ty.Bool u (omega arith) has refl (ap (λ z. Some z) k.1) (adds x f ty.Bool k.0)
    adds (follows.counting {at = at} {after = after} {e = e} {a = a} d x has) f u g =
        let k = one_known ty.Set ty.Int u (type_in c a) (sym (type-is (visible c) e (Expr-F.Count a) d) ∙ g) in
        let up = rises p names ops x in
        behind at after op.Count ty.Set u (omega arith) has refl (ap (λ z. Some z) k.1) (adds x f ty.Set k.0)
    adds (follows.pair {at = at} {middle = middle} {after = after} {e = e} {a = a} {b = b} {o = o} d x y has) f u g =
        let k = two_types o (type_in c a) (type_in c b) u (sym (type-is (visible c) e (Expr-F.Two o a b) d) ∙ g) in
        let up = rises p names ops x in
        let up' = rises p names ops y in
        let one = adds x f k.left k.first in
        let two = adds y (omega arith) k.right k.second in
        let stack : T after ≡ (k.right ∷ k.left ∷ []) ++ T at = two.more ∙ ap (λ l. k.right ∷ l) one.more in
        let z = one_value after (op.Two o) (k.right ∷ k.left ∷ []) (T at) u (omega arith) has stack k.needed
        (ap (λ z. Some z) k.given) in
        record {
          over = over_joined ops IsWell at after (after + 1)
              (over_joined ops IsWell at middle after one.over two.over) z.0;
          more = z.1;
        }

    pub all_add : {at after : ℕ} {es : List Expr} → EvaluatesAll p names ops at es after → from ≤ at → (us : List ValType) →
        map (type_in c) es ≡ map (λ u. Some u) us → Adds us at after
    all_add (follows.none {at = at}) f [] g = record { over = over_none ops IsWell at; more = refl }
    all_add (follows.none {at = at}) f (u ∷ us) g = cc
    all_add (follows.more {at = at} {middle = middle} {after = after} x xs) f [] g = cc
    all_add (follows.more {at = at} {middle = middle} {after = after} {e = e} {es = es} x xs) f (u ∷ us) g =
        let head : type_in c e ≡ Some u = cc in
        let tail : map (type_in c) es ≡ map (λ u. Some u) us = cc in
        let up = rises p names ops x in
        let one = adds x f u head in
        let others = all_add xs (omega arith) us tail in
        record {
          over = over_joined ops IsWell at middle after one.over others.over;
          more = others.more
              ∙ ap (λ s. pushed_on s us) one.more;
        }
