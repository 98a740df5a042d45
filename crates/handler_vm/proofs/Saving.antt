-- The values that a suspension keeps, one after another.
use Rattle.std.proofs.Common.{◌≡◌, ℕ, suc, ◌+◌, ◌-◌, ◌<◌, ◌≤◌, Bool, true, false, List, [], ◌∷◌, ◌++◌, Some, length, get_or}
use Rattle.std.proofs.Common.{set, take, replicate, refl, sym, ap, ◌∙◌, arith, append_assoc, length-append}
use Rattle.std.specs.Prelude.{if◌then◌else◌}
use Rattle.std.proofs.lemmas.List.{length-replicate, length-take-le, set_at, take_more}
use Rattle.tw_base.specs.declared.value.Value.{Value}
use Rattle.tw_base.specs.declared.value.Value.TheVariants.{Int}
use Rattle.handler_code.specs.declared.code.Rest.{Rest}
use Rattle.handler_code.specs.Doors.{filled}
use Rattle.handler_code.specs.Machine.{is_live, live_values, saved_values}

length-live_values : (live : ℕ → Bool) (k : ℕ) (xs : List Value) → length (live_values live k xs) ≡ length xs
length-live_values live k [] = refl
length-live_values live k (x ∷ xs) = ap suc (length-live_values live (k + 1) xs)

live_values-push : (live : ℕ → Bool) (k : ℕ) (xs : List Value) (x : Value) →
    live_values live k (xs ++ x ∷ []) ≡ live_values live k xs ++ (if live (k + length xs) then x else Int 0) ∷ []
live_values-push live k [] x = let e : k ≡ k + 0 = omega arith in ap (λ n. (if live n then x else Int 0) ∷ []) e
live_values-push live k (y ∷ xs) x =
    let e : k + 1 + length xs ≡ k + suc (length xs) = omega arith in
    ap (λ ys. (if live k then y else Int 0) ∷ ys) (live_values-push live (k + 1) xs x
    ∙ ap (λ n. live_values live (k + 1) xs ++ (if live n then x else Int 0) ∷ []) e)

zeros_more : (n k : ℕ) → k < n → replicate (n - k) (Int 0) ≡ Int 0 ∷ replicate (n - (k + 1)) (Int 0)
zeros_more n k low = let e : n - k ≡ suc (n - (k + 1)) = omega arith in ap (λ j. replicate j (Int 0)) e

module _ (rest : Rest) (own : List Value) where
  abbrev pub done : ℕ → List Value
  done k = live_values (is_live rest) 0 (take k own) ++ replicate (21 - k) (Int 0)

  long : (k : ℕ) → k ≤ length own → length (live_values (is_live rest) 0 (take k own)) ≡ k
  long k low = length-live_values (is_live rest) 0 (take k own) ∙ length-take-le k own low

  front : (k : ℕ) (d : Value) → k < length own → live_values (is_live rest) 0 (take (k + 1) own)
      ≡ live_values (is_live rest) 0 (take k own) ++ (if is_live rest k then get_or own k d else Int 0) ∷ []
  front k d low =
      let e : 0 + length (take k own) ≡ k = omega (arith, length-take-le k own (omega (arith, low))) in
      ap (live_values (is_live rest) 0) (take_more own k d low) ∙ live_values-push (is_live rest) 0 (take k own) (get_or own k d)
      ∙ ap (λ n. live_values (is_live rest) 0 (take k own) ++ (if is_live rest n then get_or own k d else Int 0) ∷ []) e

  more : (k : ℕ) (d : Value) → k < length own → done (k + 1) ≡ live_values (is_live rest) 0 (take k own)
      ++ (if is_live rest k then get_or own k d else Int 0) ∷ replicate (21 - (k + 1)) (Int 0)
  more k d low =
      ap (λ xs. xs ++ replicate (21 - (k + 1)) (Int 0)) (front k d low)
      ∙ append_assoc (live_values (is_live rest) 0 (take k own)) ((if is_live rest k then get_or own k d else Int 0) ∷ [])
      (replicate (21 - (k + 1)) (Int 0))

  split : (k : ℕ) → k < 21 → done k ≡ live_values (is_live rest) 0 (take k own) ++ Int 0 ∷ replicate (21 - (k + 1)) (Int 0)
  split k low = ap (λ xs. live_values (is_live rest) 0 (take k own) ++ xs) (zeros_more 21 k low)

  -- the slot is kept
  pub done_kept : (k : ℕ) (d : Value) (values : List Value) → k < length own → k < 21 → is_live rest k ≡ true →
      values ≡ done k → set values k (get_or own k d) ≡ done (k + 1)
  done_kept k d values low few here e =
      ap (λ xs. set xs k (get_or own k d)) (e ∙ split k few)
      ∙ set_at (live_values (is_live rest) 0 (take k own)) (Int 0) (replicate (21 - (k + 1)) (Int 0)) (get_or own k d) k
      (long k (omega (arith, low)))
      ∙ sym (more k d low ∙ ap (λ b. live_values (is_live rest) 0 (take k own)
      ++ (if b then get_or own k d else Int 0) ∷ replicate (21 - (k + 1)) (Int 0)) here)

  -- it is not
  pub done_left : (k : ℕ) (d : Value) (values : List Value) → k < length own → k < 21 → is_live rest k ≡ false →
      values ≡ done k → values ≡ done (k + 1)
  done_left k d values low few none e =
      e ∙ split k few
      ∙ sym (more k d low ∙ ap (λ b. live_values (is_live rest) 0 (take k own)
      ++ (if b then get_or own k d else Int 0) ∷ replicate (21 - (k + 1)) (Int 0)) none)

  pub done_all : (width : ℕ) → width ≤ length own → done width ≡ filled 21 (saved_values (Some rest) (take width own))
  done_all width low =
      ap (λ n. saved_values (Some rest) (take width own) ++ replicate (21 - n) (Int 0)) (sym (long width low))

  pub length-done : (k : ℕ) → k ≤ length own → k ≤ 21 → length (done k) ≡ 21
  length-done k low few =
      omega (
        arith,
        length-append (live_values (is_live rest) 0 (take k own)) (replicate (21 - k) (Int 0)),
        long k low,
        length-replicate (21 - k) (Int 0),
      )
