-- The code of a list of expressions leaves their values, the last one on top.
use Rattle.std.proofs.Common.{◌≡◌, ℕ, suc, ◌+◌, List, [], ◌∷◌, ◌++◌, length, refl, sym, ap, ◌∙◌, reverse, take, drop}
use Rattle.std.proofs.Common.{append_assoc}
use Rattle.std.specs.Prelude.{map}
use Rattle.std.proofs.lemmas.List.{reverse-append, reverse-reverse, length-reverse}
use Rattle.std.proofs.Math.Seq.{take-append_seam, drop-append_seam}
use Rattle.tw_base.specs.declared.name.Name.{Name}
use Rattle.tw_base.specs.declared.value.Value.{Value}
use Rattle.teapot_tree.specs.declared.expr.Expr.{Expr}
use Rattle.teapot_tree.specs.declared.protocol.Protocol.{Protocol}
use Rattle.teapot_meaning.specs.declared.state.Bound.{Bound}
use Rattle.teapot_meaning.specs.declared.state.Running.{Running}
use Rattle.teapot_meaning.specs.Values.{value_of}
use Rattle.handler_code.specs.declared.code.Code.{Code}
use Rattle.handler_code.specs.declared.code.OpCode.{OpCode}
use Rattle.handler_code.specs.Machine.{Machine}
use Rattle.compiled_meaning.specs.Follows.{Loop, EvaluatesAll, none, more}
use Rattle.compiled_meaning.specs.Stands.{Agrees, around_of, names_of}
use Rattle.compiled_meaning.proofs.Exprs.{Comes, after_expr, both_straight, expr_yields}

reverse_more : (x : Value) (xs s : List Value) → reverse xs ++ (x ∷ s) ≡ reverse (x ∷ xs) ++ s
reverse_more x xs s = sym (append_assoc (reverse xs) (x ∷ []) s) ∙ ap (λ l. l ++ s) (sym (reverse-append (x ∷ []) xs))

pub taken : (xs s : List Value) (n : ℕ) → n ≡ length xs → reverse (take n (reverse xs ++ s)) ≡ xs
taken xs s n e =
    let len : n ≡ length (reverse xs) = e ∙ sym (length-reverse xs) in
    ap (λ i. reverse (take i (reverse xs ++ s))) len ∙ ap reverse (take-append_seam (reverse xs) s) ∙ reverse-reverse xs

pub dropped : (xs s : List Value) (n : ℕ) → n ≡ length xs → drop n (reverse xs ++ s) ≡ s
dropped xs s n e =
    let len : n ≡ length (reverse xs) = e ∙ sym (length-reverse xs) in
    ap (λ i. drop i (reverse xs ++ s)) len ∙ drop-append_seam (reverse xs) s

pub length_values : (p : Protocol) (r : Running) (es : List Expr) → length es ≡ length (map (value_of p r) es)
length_values p r [] = refl
length_values p r (e ∷ es) = ap suc (length_values p r es)

pub after_all : (p : Protocol) (names : List Name) (ops : List OpCode) (width : ℕ)
    (loops : List Loop) {at after : ℕ} {es : List Expr} (slots : List Value) (vars : List Bound) →
    EvaluatesAll p names ops at es after → Agrees ops width at slots vars loops → Agrees ops width after slots vars loops
after_all p names ops width loops slots vars none g = g
after_all p names ops width loops slots vars (more x y) g = after_all p names ops width loops slots vars y
    (after_expr p names ops width loops slots vars x g)

pub record YieldsAll (p : Protocol) (code : Code) (m : Machine) (at after : ℕ) (xs : List Value) : Type 0 where
  pub ops : ℕ
  pub straight : ops + at ≡ m.ops + after
  pub comes : Comes p code (record m { at = at }) (record m { at = after; stack = reverse xs ++ m.stack; ops = ops })

pub all_yield : (p : Protocol) (code : Code) (width : ℕ) (loops : List Loop) (r : Running) {at after : ℕ} {es : List Expr}
    (m : Machine) → EvaluatesAll p (names_of r.vars) code.ops at es after → Agrees code.ops width at m.slots r.vars loops →
    m.around ≡ around_of r → YieldsAll p code m at after (map (value_of p r) es)
all_yield p code width loops r m none g i = record { ops = m.ops; straight = refl; comes = λ s z. z }
all_yield p code width loops r m (more {at = at} {middle = middle} {after = after} {e = e} {es = es} x y) g i =
    let f = expr_yields p code width loops r m x g i in
    let n : Machine = record m { at = middle; stack = value_of p r e ∷ m.stack; ops = f.ops } in
    let k = all_yield p code width loops r n y (after_expr p (names_of r.vars) code.ops width loops m.slots r.vars x g) i in
    let xs = map (value_of p r) es in
    record {
      ops = k.ops;
      straight = both_straight f.ops k.ops m.ops at middle after f.straight k.straight;
      comes = λ s z. f.comes s (k.comes s (rw reverse_more z));
    }
