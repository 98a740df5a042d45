-- Suspensions and loops of ops, one behind the other.
use Rattle.std.proofs.Common.{◌≡◌, ℕ, ◌+◌, List, [], ◌∷◌, ◌++◌, refl, sym, ap, ◌∙◌, arith}
use Rattle.handler_code.specs.declared.code.OpCode.{OpCode}
use Rattle.handler_code.specs.declared.code.OpCode.TheVariants as op
use Rattle.compiled_meaning.specs.Compiled.{loops_by, loops_in, rests_by, rests_in}

rests_by-more : (o : OpCode) (m n : ℕ) → rests_by o (m + n) ≡ rests_by o m + n
rests_by-more (op.Suspend s r) m n = omega arith
rests_by-more _ m n = refl

loops_by-more : (o : OpCode) (m n : ℕ) → loops_by o (m + n) ≡ loops_by o m + n
loops_by-more (op.EachNext k h to) m n = omega arith
loops_by-more _ m n = refl

pub rests_in_append : (xs ys : List OpCode) → rests_in (xs ++ ys) ≡ rests_in xs + rests_in ys
rests_in_append [] ys = omega arith
rests_in_append (x ∷ xs) ys = ap (rests_by x) (rests_in_append xs ys) ∙ rests_by-more x (rests_in xs) (rests_in ys)

pub loops_in_append : (xs ys : List OpCode) → loops_in (xs ++ ys) ≡ loops_in xs + loops_in ys
loops_in_append [] ys = omega arith
loops_in_append (x ∷ xs) ys = ap (loops_by x) (loops_in_append xs ys) ∙ loops_by-more x (loops_in xs) (loops_in ys)

pub rests_in_push : (xs : List OpCode) (o : OpCode) → rests_in (xs ++ o ∷ []) ≡ rests_by o (rests_in xs)
rests_in_push xs o =
    let more : rests_by o 0 + rests_in xs ≡ rests_by o (0 + rests_in xs) = sym (rests_by-more o 0 (rests_in xs)) in
    let none : 0 + rests_in xs ≡ rests_in xs = omega arith in
    let turned : rests_in (xs ++ o ∷ []) ≡ rests_by o 0 + rests_in xs = omega (arith, rests_in_append xs (o ∷ [])) in
    turned ∙ more ∙ ap (rests_by o) none

pub loops_in_push : (xs : List OpCode) (o : OpCode) → loops_in (xs ++ o ∷ []) ≡ loops_by o (loops_in xs)
loops_in_push xs o =
    let more : loops_by o 0 + loops_in xs ≡ loops_by o (0 + loops_in xs) = sym (loops_by-more o 0 (loops_in xs)) in
    let none : 0 + loops_in xs ≡ loops_in xs = omega arith in
    let turned : loops_in (xs ++ o ∷ []) ≡ loops_by o 0 + loops_in xs = omega (arith, loops_in_append xs (o ∷ [])) in
    turned ∙ more ∙ ap (loops_by o) none
