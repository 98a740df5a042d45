-- The value of decimal digits, front by front.
use Rattle.std.proofs.Common.{◌≡◌, ℕ, ◌+◌, ◌-◌, ◌*◌, ◌^◌, ◌<◌, ◌≤◌, Bool, true, false, cond, ◌&&◌, Option, Some, None, List, []}
use Rattle.std.proofs.Common.{◌∷◌, length, get_or, take, drop, refl, sym, ap, ◌∙◌, arith}
use Rattle.std.specs.List.{fold}
use Rattle.std.proofs.lemmas.List.{take-append-drop}
use Rattle.std.proofs.lemmas.List.Sums.{fold-append, fold_more}
use Rattle.std.specs.List.{list_all}
use Rattle.std.proofs.lemmas.Bool.{le-ltb}
use Rattle.tw_lex.specs.Bytes.{is_digit}
use Rattle.tw_lex.specs.Lexemes.{decimal_value, number_of}

abbrev digit : ℕ → ℕ → ℕ
digit n d = 10 * n + (d - 48)

fold-digit-grows : (n : ℕ) (ds : List ℕ) → n ≤ fold digit n ds
fold-digit-grows n [] = omega arith
fold-digit-grows n (d ∷ ds) = omega (arith, fold-digit-grows (digit n d) ds)

pub decimal_value-more : (run : List ℕ) (i d : ℕ) → i < length run →
    decimal_value (take (i + 1) run) ≡ 10 * decimal_value (take i run) + (get_or run i d - 48)
decimal_value-more run i d h = fold_more digit 0 run i d h

pub decimal_value-take-le : (run : List ℕ) (i : ℕ) → decimal_value (take i run) ≤ decimal_value run
decimal_value-take-le run i =
    let whole : decimal_value run ≡ fold digit (decimal_value (take i run)) (drop i run) =
    ap decimal_value (sym (take-append-drop i run)) ∙ fold-append digit 0 (take i run) (drop i run) in
    omega (arith, whole, fold-digit-grows (decimal_value (take i run)) (drop i run))

or_none : (b : Bool) (o : Option ℕ) → None ≡ cond (b && false) o None
or_none true o = refl
or_none false o = refl

pub number_of-large : (run : List ℕ) → 2 ^ 64 ≤ decimal_value run → None ≡ number_of run
number_of-large run h = rw (le-ltb (decimal_value run) (2 ^ 64) h) (or_none (list_all is_digit run) (Some (decimal_value run)))
