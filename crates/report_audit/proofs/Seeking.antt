-- The first line that is not the one that is due, line by line.
use Rattle.std.proofs.Common.{◌≡◌, ℕ, ◌+◌, ◌<◌, ◌≤◌, ◌⊎◌, inl, inr, Bool, true, false, if◌then◌else◌, List, [], ◌∷◌, length}
use Rattle.std.proofs.Common.{drop, get_or, slice_get, Option, Some, None, refl, ap, sym, ◌∙◌, arith}
use Rattle.std.proofs.lemmas.List.{at_drop_all, at_drop_more, length-drop}
use Rattle.std.proofs.lemmas.Option.{slice_get_cases}
use Rattle.tw_lex.specs.declared.token.Token.{Token}
use Rattle.mini_asm.specs.Run.{Machine}
use Rattle.report_reader.specs.declared.lines.PrintedLine.{PrintedLine}
use Rattle.report_audit.specs.declared.due.Due.{Due}
use Rattle.report_audit.specs.Lines.{first_other, is_due}
use Rattle.report_audit.specs.Nodes.{is_right, wrong_node}

-- what a test says of the tokens of the line at a place
tested : (test : List Token → Bool) (lines : List PrintedLine) (i : ℕ) (l : PrintedLine) (ts : List Token) (r b : Bool) →
    l ≡ get_or lines i l → ts ≡ l.tokens → r ≡ test ts → r ≡ b →
    test (get_or lines i l).tokens ≡ b
tested test lines i l ts r b at is says e = ap (λ (x : PrintedLine). test x.tokens) (sym at) ∙ ap test (sym is) ∙ sym says ∙ e

-- ---- lines that are due

abbrev after : Bool → List Due → PrintedLine → List PrintedLine → ℕ → ℕ → Option ℕ
after b due l ls next i = if b then first_other (drop (i + 1) due) ls next else Some l.line

other-turn : (due : List Due) (l : PrintedLine) (ls : List PrintedLine) (next i : ℕ)
    → ((x : Due) × (i < length due) × (slice_get due i ≡ Some x) × (get_or due i x ≡ x))
    ⊎ ((length due ≤ i) × (slice_get due i ≡ None))
    → first_other (drop i due) (l ∷ ls) next ≡ after (is_due (slice_get due i) l.tokens) due l ls next i
unfolding first_other
other-turn due l ls next i (inl h) =
    at_drop_more (λ (ds : List Due). first_other ds (l ∷ ls) next) due i h.0 h.1
    ∙ ap (λ (x : Due). after (is_due (Some x) l.tokens) due l ls next i) h.3
    ∙ ap (λ (o : Option Due). after (is_due o l.tokens) due l ls next i) (sym h.2)
other-turn due l ls next i (inr h) =
    at_drop_all (λ (ds : List Due). first_other ds (l ∷ ls) next) due i h.0
    ∙ ap (λ (o : Option Due). after (is_due o l.tokens) due l ls next i) (sym h.1)

other-at : (due : List Due) (lines : List PrintedLine) (next i : ℕ) (l : PrintedLine) (b : Bool) → i < length lines →
    is_due (slice_get due i) (get_or lines i l).tokens ≡ b →
    first_other (drop i due) (drop i lines) next ≡ after b due (get_or lines i l) (drop (i + 1) lines) next i
other-at due lines next i l b lt e =
    at_drop_more (λ (ls : List PrintedLine). first_other (drop i due) ls next) lines i l lt
    ∙ other-turn due (get_or lines i l) (drop (i + 1) lines) next i (slice_get_cases due i).1
    ∙ ap (λ (c : Bool). after c due (get_or lines i l) (drop (i + 1) lines) next i) e

asked : (o : Option Due) (due : List Due) (i : ℕ) (ts : List Token) (r : Bool) → o ≡ slice_get due i → r ≡ is_due o ts →
    r ≡ is_due (slice_get due i) ts
asked o due i ts r at e = e ∙ ap (λ (p : Option Due). is_due p ts) at

pub other-stops : (due : List Due) (lines : List PrintedLine) (next i : ℕ) (l : PrintedLine) (ts : List Token) (o : Option Due)
    (r : Bool) (all : Option ℕ) → i < length lines →
    l ≡ get_or lines i l → ts ≡ l.tokens → o ≡ slice_get due i → r ≡ is_due o ts → r ≡ false →
    first_other (drop i due) (drop i lines) next ≡ all → Some l.line ≡ all
other-stops due lines next i l ts o r all lt at is there says e inv =
    ap (λ (x : PrintedLine). Some x.line) at
    ∙ sym (other-at due lines next i l false lt (tested (is_due (slice_get due i)) lines i l ts r false at is
    (asked o due i ts r there says) e)) ∙ inv

pub other-goes : (due : List Due) (lines : List PrintedLine) (next i : ℕ) (l : PrintedLine) (ts : List Token) (o : Option Due)
    (r : Bool) (all : Option ℕ) → i < length lines →
    l ≡ get_or lines i l → ts ≡ l.tokens → o ≡ slice_get due i → r ≡ is_due o ts → r ≡ true →
    first_other (drop i due) (drop i lines) next ≡ all →
    first_other (drop (i + 1) due) (drop (i + 1) lines) next ≡ all
other-goes due lines next i l ts o r all lt at is there says e inv =
    sym (other-at due lines next i l true lt (tested (is_due (slice_get due i)) lines i l ts r true at is
    (asked o due i ts r there says) e)) ∙ inv

some-left : (due : List Due) (next : ℕ) → 0 < length due → first_other due [] next ≡ Some next
unfolding first_other
some-left [] next lt = absurd (omega arith)
some-left (d ∷ ds) next lt = refl

-- all lines agree, and more are due, or none
pub other-more : (due : List Due) (lines : List PrintedLine) (next i : ℕ) (all : Option ℕ) → length lines ≤ i →
    i ≤ length lines → length lines < length due →
    first_other (drop i due) (drop i lines) next ≡ all → Some next ≡ all
other-more due lines next i all h k lt inv =
    let left : 0 < length (drop i due) = omega (arith, length-drop i due) in
    sym (some-left (drop i due) next left)
    ∙ sym (at_drop_all (λ (ls : List PrintedLine). first_other (drop i due) ls next) lines i h) ∙ inv

pub other-none : (due : List Due) (lines : List PrintedLine) (next i : ℕ) (all : Option ℕ) → length lines ≤ i →
    i ≤ length lines → length due ≤ length lines →
    first_other (drop i due) (drop i lines) next ≡ all → None ≡ all
unfolding first_other
other-none due lines next i all h k le inv =
    let past : length due ≤ i = omega arith in
    sym (at_drop_all (λ (ls : List PrintedLine). first_other (drop i due) ls next) lines i h
    ∙ at_drop_all (λ (ds : List Due). first_other ds [] next) due i past) ∙ inv

-- ---- lines of nodes

node-turn : (events : List PrintedLine) (m : Machine) (lines : List PrintedLine) (i : ℕ) (l : PrintedLine) (b : Bool) →
    i < length lines → is_right events m (get_or lines i l).tokens ≡ b →
    wrong_node events m (drop i lines) ≡ (if b then wrong_node events m (drop (i + 1) lines) else Some (get_or lines i l).line)
unfolding wrong_node
node-turn events m lines i l b lt e =
    at_drop_more (λ (ls : List PrintedLine). wrong_node events m ls) lines i l lt
    ∙ ap (λ (c : Bool). if c then wrong_node events m (drop (i + 1) lines) else Some (get_or lines i l).line) e

pub node-stops : (events : List PrintedLine) (m : Machine) (lines : List PrintedLine) (i : ℕ) (l : PrintedLine)
    (ts : List Token) (r : Bool) (all : Option ℕ) → i < length lines →
    l ≡ get_or lines i l → ts ≡ l.tokens → r ≡ is_right events m ts → r ≡ false → wrong_node events m (drop i lines) ≡ all →
    Some l.line ≡ all
node-stops events m lines i l ts r all lt at is says e inv =
    ap (λ (x : PrintedLine). Some x.line) at
    ∙ sym (node-turn events m lines i l false lt (tested (is_right events m) lines i l ts r false at is says e)) ∙ inv

pub node-goes : (events : List PrintedLine) (m : Machine) (lines : List PrintedLine) (i : ℕ) (l : PrintedLine)
    (ts : List Token) (r : Bool) (all : Option ℕ) → i < length lines →
    l ≡ get_or lines i l → ts ≡ l.tokens → r ≡ is_right events m ts → r ≡ true → wrong_node events m (drop i lines) ≡ all →
    wrong_node events m (drop (i + 1) lines) ≡ all
node-goes events m lines i l ts r all lt at is says e inv = sym
    (node-turn events m lines i l true lt (tested (is_right events m) lines i l ts r true at is says e)) ∙ inv

pub node-ends : (events : List PrintedLine) (m : Machine) (lines : List PrintedLine) (i : ℕ) (all : Option ℕ) →
    length lines ≤ i → wrong_node events m (drop i lines) ≡ all → None ≡ all
unfolding wrong_node
node-ends events m lines i all h inv = sym (at_drop_all (λ (ls : List PrintedLine). wrong_node events m ls) lines i h) ∙ inv
