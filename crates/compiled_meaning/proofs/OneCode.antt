-- A protocol has one code at most.
use Rattle.std.proofs.Common.{◌≡◌, ◌∙◌, ℕ, zero, suc, ◌<◌, true, List, [], ◌∷◌, Some, refl, ap, sym, subst, arith}
use Rattle.std.specs.Prelude.{map, slice_get, ◌==◌}
use Rattle.std.specs.Int.{bit_at}
use Rattle.std.proofs.lemmas.Bool.{eq-eqb, eqb-true}
use Rattle.std.proofs.lemmas.Nat.Bits.{bit_at-lt, same_from_bits}
use Rattle.teapot_tree.specs.declared.protocol.Protocol.{Protocol}
use Rattle.handler_code.specs.declared.code.Code.{Code}
use Rattle.handler_code.specs.declared.code.Rest.{Rest}
use Rattle.handler_code.specs.Live.{ReadsFirst}
use Rattle.handler_code.specs.Machine.{is_live}
use Rattle.compiled_meaning.specs.Whole.{IsCode, rest_places}

-- bits that are 1 together are the same
same_bit : (a b : ℕ) → a < 2 → b < 2 → ((a == 1) ≡ true → (b == 1) ≡ true) → ((b == 1) ≡ true → (a == 1) ≡ true) → a ≡ b
same_bit zero zero lt lt' f g = refl
same_bit zero (suc b) lt lt' f g = let one : suc b ≡ 1 = omega arith in let e =
    eqb-true zero 1 (g (eq-eqb (suc b) 1 one)) in absurd (omega (arith, e))
same_bit (suc a) zero lt lt' f g = let one : suc a ≡ 1 = omega arith in let e =
    eqb-true zero 1 (f (eq-eqb (suc a) 1 one)) in absurd (omega (arith, e))
same_bit (suc a) (suc b) lt lt' f g = omega arith

same_live : (x y : Rest) → ((k : ℕ) → is_live x k ≡ true → is_live y k ≡ true) →
    ((k : ℕ) → is_live y k ≡ true → is_live x k ≡ true) → x.live ≡ y.live
same_live x y f g =
    same_from_bits x.live y.live (λ k. same_bit (bit_at x.live k) (bit_at y.live k) (bit_at-lt x.live k) (bit_at-lt y.live k)
    (f k) (g k))

same_rest : (x y : Rest) → x.at ≡ y.at → x.door ≡ y.door → x.live ≡ y.live → x ≡ y
same_rest x y e f g =
    ap (λ n. record x { at = n }) e ∙ ap (λ n. record x { at = y.at; door = n }) f ∙ ap (λ n. record y { live = n }) g

same_rests : (xs ys : List Rest) → map (λ r. r.at) xs ≡ map (λ r. r.at) ys → map (λ r. r.door) xs ≡ map (λ r. r.door) ys →
    ((r : ℕ) (x y : Rest) → slice_get xs r ≡ Some x → slice_get ys r ≡ Some y → x.at ≡ y.at → x.live ≡ y.live) → xs ≡ ys
same_rests [] [] e f g = refl
same_rests [] (y ∷ ys) e f g = cc
same_rests (x ∷ xs) [] e f g = cc
same_rests (x ∷ xs) (y ∷ ys) e f g =
    let at : x.at ≡ y.at = cc in
    let door : x.door ≡ y.door = cc in
    let others_at : map (λ r. r.at) xs ≡ map (λ r. r.at) ys = cc in
    let others_door : map (λ r. r.door) xs ≡ map (λ r. r.door) ys = cc in
    let here = same_rest x y at door (g zero x y refl refl at) in
    ap (λ z. z ∷ xs) here ∙ ap (λ zs. y ∷ zs) (same_rests xs ys others_at others_door (λ r. g (suc r)))

pub one_code : (p : Protocol) (a b : Code) → IsCode p a → IsCode p b → a ≡ b
one_code p a b is other =
    let ops : a.ops ≡ b.ops = is.ops ∙ sym other.ops in
    let doors : a.doors ≡ b.doors = is.doors ∙ sym other.doors in
    let places : map (λ r. r.at) a.rests ≡ map (λ r. r.at) b.rests = is.places ∙ ap (rest_places 0) ops ∙ sym other.places in
    let rests : a.rests ≡ b.rests = same_rests a.rests b.rests places (is.owners ∙ sym other.owners) same in
    ap (λ l. record a { ops = l }) ops ∙ ap (λ l. record a { ops = b.ops; doors = l }) doors
    ∙ ap (λ l. record b { rests = l }) rests
  where
    there : (x y : Rest) → x.at ≡ y.at → (k : ℕ) → ReadsFirst a.ops x.at k → ReadsFirst b.ops y.at k
    there x y at k h = subst (λ n. ReadsFirst b.ops n k) at (subst (λ l. ReadsFirst l x.at k) (is.ops ∙ sym other.ops) h)

    back : (x y : Rest) → x.at ≡ y.at → (k : ℕ) → ReadsFirst b.ops y.at k → ReadsFirst a.ops x.at k
    back x y at k h = subst (λ n. ReadsFirst a.ops n k) (sym at) (subst (λ l. ReadsFirst l y.at k) (other.ops ∙ sym is.ops) h)

    same : (r : ℕ) (x y : Rest) → slice_get a.rests r ≡ Some x → slice_get b.rests r ≡ Some y → x.at ≡ y.at → x.live ≡ y.live
    same r x y e f at =
        same_live x y
        (λ k h. (other.live r k y f).1 (there x y at k ((is.live r k x e).0 h)))
        (λ k h. (is.live r k x e).1 (back x y at k ((other.live r k y f).0 h)))
