-- What is done, put before what comes of the lines that are left.
use Rattle.std.proofs.Common.{◌≡◌, List, [], ◌∷◌, ◌++◌, Result, Ok, Err, refl, sym, ap, append_assoc}
use Rattle.tw_base.specs.Answers.{◌>>=◌}
use Rattle.tw_lex.specs.declared.token.Line.{Line}
use Rattle.tempest_input.specs.declared.layout.Body.{Body}
use Rattle.tempest_input.specs.declared.error.InputError.{InputError}
use Rattle.tempest_input.specs.Layout.{with_line}

abbrev pub before : {X : Type 0} → List X → List X × List Line → List X × List Line
before front rest = (front ++ rest.0, rest.1)

abbrev pub with_front : {X : Type 0} → List X → Result (List X × List Line) InputError → Result (List X × List Line) InputError
with_front front rest = rest >>= λ r. Ok (before front r)

pub with_front-nil : {X : Type 0} (rest : Result (List X × List Line) InputError) → with_front [] rest ≡ rest
with_front-nil (Ok r) = refl
with_front-nil (Err e) = refl

pub before-regroup : {X : Type 0} (front : List X) (x : X) (rest : List X × List Line) →
    before front (x ∷ rest.0, rest.1) ≡ before (front ++ x ∷ []) rest
before-regroup front x rest = λ j. (sym (append_assoc front (x ∷ []) rest.0) j, rest.1)

pub regroup : {X : Type 0} (front : List X) (x : X) (rest : Result (List X × List Line) InputError) →
    with_front front (rest >>= λ r. Ok (x ∷ r.0, r.1)) ≡ with_front (front ++ x ∷ []) rest
regroup front x (Ok r) = ap Ok (before-regroup front x r)
regroup front x (Err e) = refl

-- ---- the same for the lines of a section

abbrev pub before_lines : List Line → Body × List Line → Body × List Line
before_lines front b = (record { lines = front ++ b.0.lines; end = b.0.end }, b.1)

abbrev pub with_lines : List Line → Result (Body × List Line) InputError → Result (Body × List Line) InputError
with_lines front rest = rest >>= λ b. Ok (before_lines front b)

pub with_lines-nil : (rest : Result (Body × List Line) InputError) → with_lines [] rest ≡ rest
with_lines-nil (Ok b) = refl
with_lines-nil (Err e) = refl

pub regroup-lines : (front : List Line) (l : Line) (rest : Result (Body × List Line) InputError) →
    with_lines front (rest >>= λ b. Ok (with_line l b)) ≡ with_lines (front ++ l ∷ []) rest
regroup-lines front l (Ok b) = ap Ok (λ j. (record { lines = sym (append_assoc front (l ∷ []) b.0.lines) j; end = b.0.end }, b.1))
regroup-lines front l (Err e) = refl
