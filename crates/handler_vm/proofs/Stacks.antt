-- A stack whose top is the last value in use of an array.
use Rattle.std.proofs.Common.{◌≡◌, ℕ, ◌+◌, ◌-◌, ◌≤◌, List, ◌++◌, length, take, drop, sym, ap, ◌∙◌, arith}
use Rattle.std.specs.Prelude.{reverse}
use Rattle.std.proofs.Math.Seq.{take-add}
use Rattle.std.proofs.lemmas.List.{drop_at, length-drop, length-reverse, length-take-le, reverse-append, reverse-reverse, take_at}

module _ {X : Type 0} (xs : List X) (start end : ℕ) (low : start ≤ end) (high : end ≤ length xs) where
  parts : reverse (take end xs) ≡ reverse (take (end - start) (drop start xs)) ++ reverse (take start xs)
  parts =
      let e : end ≡ start + (end - start) = omega arith in
      ap (λ n. reverse (take n xs)) e ∙ ap reverse (take-add start (end - start) xs)
      ∙ reverse-append (take start xs) (take (end - start) (drop start xs))

  long : length (reverse (take (end - start) (drop start xs))) ≡ end - start
  long = length-reverse (take (end - start) (drop start xs))
      ∙ length-take-le (end - start) (drop start xs) (omega (arith, length-drop start xs))

  -- as many were asked for as are taken
  pub taken_all : (count : ℕ) → end - start ≡ count → take (end - start) (drop start xs)
      ≡ reverse (take count (reverse (take end xs)))
  taken_all count e =
      sym (ap (λ ys. reverse (take count ys)) parts ∙ ap reverse (take_at _ (reverse (take start xs)) count (long ∙ e))
      ∙ reverse-reverse (take (end - start) (drop start xs)))

  pub left_all : (count : ℕ) → end - start ≡ count → reverse (take start xs) ≡ drop count (reverse (take end xs))
  left_all count e = sym (ap (drop count) parts ∙ drop_at _ (reverse (take start xs)) count (long ∙ e))
