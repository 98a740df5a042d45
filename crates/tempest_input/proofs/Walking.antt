-- Going over the lines of a layout, one turn after the other.
use Rattle.std.proofs.Common.{◌≡◌, ℕ, zero, suc, ◌+◌, ◌-◌, ◌<◌, true, false, List, [], ◌∷◌, ◌++◌, Option, Some, None, Result}
use Rattle.std.proofs.Common.{Ok, Err, refl, sym, ap, ◌∙◌, arith}
use Rattle.std.proofs.lemmas.List.{append-nil}
use Rattle.tw_base.specs.Answers.{◌>>=◌, Fails}
use Rattle.tw_base.proofs.Answering.{Fails-along}
use Rattle.tw_lex.specs.declared.token.Line.{Line}
use Rattle.tempest_input.specs.declared.layout.Init.{Init}
use Rattle.tempest_input.specs.declared.layout.Body.{Body}
use Rattle.tempest_input.specs.declared.layout.Section.{Section}
use Rattle.tempest_input.specs.declared.error.InputError.{InputError}
use Rattle.tempest_input.specs.Heads.{head_of}
use Rattle.tempest_input.specs.Layout.{body_in, init_in, inits_in, next_as, with_init, is_end, is_memory, misfit, next_init}
use Rattle.tempest_input.specs.Layout.{next_node, section_in, sections_below, with_line}
use Rattle.tempest_input.proofs.Fronts.{before, before-regroup, regroup, regroup-lines, with_front, with_lines}

-- ---- the lines of a section

pub body-turn : (front : List Line) (all : ℕ) (lines rest : List Line) (l : Line)
    (total : Result (Body × List Line) InputError) → lines ≡ l ∷ rest → is_end (head_of l.tokens) ≡ false
    → with_lines front (body_in all lines) ≡ total → with_lines (front ++ l ∷ []) (body_in all rest) ≡ total
unfolding body_in
body-turn front all lines rest l total e f so_far =
    let one : body_in all lines ≡ (body_in all rest >>= λ b. Ok (with_line l b)) = rw (e, f) refl in
    sym (regroup-lines front l (body_in all rest)) ∙ ap (with_lines front) (sym one) ∙ so_far

pub body-end : (front : List Line) (all : ℕ) (lines rest : List Line) (l : Line)
    (total : Result (Body × List Line) InputError) → lines ≡ l ∷ rest → is_end (head_of l.tokens) ≡ true
    → with_lines front (body_in all lines) ≡ total → total ≡ Ok (record { lines = front; end = l.number }, rest)
unfolding body_in
body-end front all lines rest l total e f so_far =
    let one : body_in all lines ≡ Ok (record { lines = []; end = l.number }, rest) = rw (e, f) refl in
    sym so_far ∙ ap (with_lines front) one ∙ ap Ok (λ j. (record { lines = append-nil front j; end = l.number }, rest))

pub body-none : (front : List Line) (all : ℕ) (lines : List Line) (total : Result (Body × List Line) InputError) → lines ≡ [] →
    with_lines front (body_in all lines) ≡ total
    → total ≡ Err (misfit all [])
unfolding body_in
body-none front all lines total e so_far =
    let one : body_in all lines ≡ Err (misfit all []) = rw e refl in
    sym so_far ∙ ap (with_lines front) one

-- ---- words at the start

init-taken : (o : Option Init) (l : Line) (ls rest : List Line) (i : Init) →
    ◌≡◌ {A = Option Init × List Line} (next_as o l ls) (Some i, rest) →
    ◌≡◌ {A = List Init × List Line} (with_init o l ls (inits_in ls)) (i ∷ (inits_in rest).0, (inits_in rest).1)
init-taken (Some j) l ls rest i e =
    let here : Some j ≡ Some i = ap (λ p. p.0) e in
    let same : j ≡ i = cc here in
    let left : ls ≡ rest = ap (λ p. p.1) e in
    rw (same, left) refl
init-taken None l ls rest i e =
    let here : None ≡ Some i = ap (λ p. p.0) e in
    absurd (cc here)

init-left : (o : Option Init) (l : Line) (ls rest : List Line) →
    ◌≡◌ {A = Option Init × List Line} (next_as o l ls) (None, rest) →
    ◌≡◌ {A = List Init × List Line} (with_init o l ls (inits_in ls)) ([], rest)
init-left (Some j) l ls rest e =
    let here : Some j ≡ None = ap (λ p. p.0) e in
    absurd (cc here)
init-left None l ls rest e =
    let left : l ∷ ls ≡ rest = ap (λ p. p.1) e in
    rw left refl

-- one more, where the next line is one
inits-more : (lines rest : List Line) (i : Init) → ◌≡◌ {A = Option Init × List Line} (next_init lines) (Some i, rest) →
    ◌≡◌ {A = List Init × List Line} (inits_in lines) (i ∷ (inits_in rest).0, (inits_in rest).1)
unfolding inits_in
inits-more [] rest i e =
    let here : None ≡ Some i = ap (λ p. p.0) e in
    absurd (cc here)
inits-more (l ∷ ls) rest i e = init-taken (init_in l.number (head_of l.tokens)) l ls rest i e

-- no more, where it is none
inits-over : (lines rest : List Line) → ◌≡◌ {A = Option Init × List Line} (next_init lines) (None, rest) →
    ◌≡◌ {A = List Init × List Line} (inits_in lines) ([], rest)
unfolding inits_in
inits-over [] rest e =
    let left : [] ≡ rest = ap (λ p. p.1) e in
    rw left refl
inits-over (l ∷ ls) rest e = init-left (init_in l.number (head_of l.tokens)) l ls rest e

pub inits-turn : (front : List Init) (lines rest : List Line) (i : Init) (total : List Init × List Line) →
    ◌≡◌ {A = Option Init × List Line} (next_init lines) (Some i, rest)
    → before front (inits_in lines) ≡ total → before (front ++ i ∷ []) (inits_in rest) ≡ total
inits-turn front lines rest i total e so_far = sym (before-regroup front i (inits_in rest))
    ∙ ap (before front) (sym (inits-more lines rest i e)) ∙ so_far

pub inits-end : (front : List Init) (lines rest : List Line) (total : List Init × List Line) →
    ◌≡◌ {A = Option Init × List Line} (next_init lines) (None, rest)
    → before front (inits_in lines) ≡ total → ◌≡◌ {A = List Init × List Line} total (front, rest)
inits-end front lines rest total e so_far = sym so_far ∙ ap (before front) (inits-over lines rest e)
    ∙ (λ j. (append-nil front j, rest))

-- ---- sections

-- one fewer may come after a turn
fewer : (most i : ℕ) → i < most → most - i ≡ suc (most - (i + 1))
fewer most i lt = omega arith

pub sections-turn : (front : List Section) (all most i : ℕ) (node : ℕ) (lines rest : List Line) (s : Section)
    (total : Result (List Section × List Line) InputError) → i < most → next_node lines ≡ Some node →
    section_in node all lines ≡ Ok (s, rest)
    → with_front front (sections_below (most - i) all lines) ≡ total →
    with_front (front ++ s ∷ []) (sections_below (most - (i + 1)) all rest) ≡ total
unfolding sections_below
sections-turn front all most i node lines rest s total lt n e so_far =
    let one : sections_below (most - i) all lines ≡ (sections_below (most - (i + 1)) all rest >>= λ r. Ok (s ∷ r.0, r.1)) =
    rw (fewer most i lt, n, e) refl in
    sym (regroup front s (sections_below (most - (i + 1)) all rest)) ∙ ap (with_front front) (sym one) ∙ so_far

none-below : (all k : ℕ) (lines : List Line) → next_node lines ≡ None → sections_below k all lines ≡ Ok ([], lines)
unfolding sections_below
none-below all zero lines n = refl
none-below all (suc k) lines n = rw n refl

pub sections-end : (front : List Section) (all k : ℕ) (lines : List Line)
    (total : Result (List Section × List Line) InputError) → next_node lines ≡ None
    → with_front front (sections_below k all lines) ≡ total → total ≡ Ok (front, lines)
sections-end front all k lines total n so_far = sym so_far ∙ ap (with_front front) (none-below all k lines n)
    ∙ ap Ok (λ j. (append-nil front j, lines))

pub sections-most : (front : List Section) (all k : ℕ) (lines : List Line)
    (total : Result (List Section × List Line) InputError) → k ≡ 0 → with_front front (sections_below k all lines) ≡ total →
    total ≡ Ok (front, lines)
unfolding sections_below
sections-most front all k lines total z so_far =
    let one : sections_below k all lines ≡ Ok ([], lines) = rw z refl in
    sym so_far ∙ ap (with_front front) one ∙ ap Ok (λ j. (append-nil front j, lines))

pub sections-fault : (front : List Section) (all most i node : ℕ) (lines : List Line) (e : InputError)
    (total : Result (List Section × List Line) InputError) → i < most → next_node lines ≡ Some node →
    Fails is_memory e (section_in node all lines)
    → with_front front (sections_below (most - i) all lines) ≡ total → Fails is_memory e total
unfolding sections_below
sections-fault front all most i node lines e total lt n due so_far =
    Fails-along is_memory e (section_in node all lines) total (λ d.
    let one : sections_below (most - i) all lines ≡ Err e = rw (fewer most i lt, n, d) refl in
    sym so_far ∙ ap (with_front front) one) due
