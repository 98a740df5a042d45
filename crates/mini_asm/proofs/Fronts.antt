-- A loop that puts what it finds behind what it has: what is done, and then what is left, is all.
use Rattle.std.proofs.Common.{◌≡◌, List, [], ◌++◌, Result, Ok, Err, refl, ap, append_assoc}
use Rattle.std.proofs.lemmas.List.{append-nil}
use Rattle.tw_base.specs.Answers.{◌>>=◌}

abbrev pub with_front : {X E : Type 0} → List X → Result (List X) E → Result (List X) E
with_front front rest = rest >>= λ xs. Ok (front ++ xs)

pub with_front-nil : {X E : Type 0} (rest : Result (List X) E) → with_front [] rest ≡ rest
with_front-nil (Ok xs) = refl
with_front-nil (Err e) = refl

pub regroup : {X E : Type 0} (front more : List X) (rest : Result (List X) E) →
    with_front front (rest >>= λ xs. Ok (more ++ xs)) ≡ with_front (front ++ more) rest
regroup front more (Ok xs) = ap Ok (simp append_assoc)
regroup front more (Err e) = refl

pub with_front-end : {X E : Type 0} (front : List X) (rest : Result (List X) E) → rest ≡ Ok [] → with_front front rest ≡ Ok front
with_front-end front rest e = rw e (ap Ok (append-nil front))
