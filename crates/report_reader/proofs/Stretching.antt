-- Lines of some kinds at the front of others, and events, line by line.
use Rattle.std.proofs.Common.{◌≡◌, ℕ, ◌+◌, ◌<◌, ◌≤◌, true, false, List, length, drop, get_or, if◌then◌else◌, Bool, Result, Ok}
use Rattle.std.proofs.Common.{Err, ap, sym, ◌∙◌, arith}
use Rattle.std.proofs.lemmas.List.{at_drop_more, at_drop_all}
use Rattle.tw_base.specs.Shape.{Sizes}
use Rattle.tw_lex.specs.declared.token.Line.{Line}
use Rattle.tw_lex.specs.declared.token.Token.{Token}
use Rattle.mini_asm.specs.Spelling.{number_at}
use Rattle.report_reader.specs.declared.error.AuditError.{AuditError}
use Rattle.report_reader.specs.declared.error.AuditError.TheVariants.{Denied}
use Rattle.report_reader.specs.declared.error.AuditRule.TheVariants.{BadNumber}
use Rattle.report_reader.specs.declared.kind.LineKind.{LineKind}
use Rattle.report_reader.specs.Reading.{is_number, is_of, numbered, stretch}

-- what a test says of the tokens of the line at a place
tested : (test : List Token → Bool) (lines : List Line) (i : ℕ) (l : Line) (ts : List Token) (r b : Bool) →
    l ≡ get_or lines i l → ts ≡ l.tokens → r ≡ test ts → r ≡ b →
    test (get_or lines i l).tokens ≡ b
tested test lines i l ts r b at is says e = ap (λ (x : Line). test x.tokens) (sym at) ∙ ap test (sym is) ∙ sym says ∙ e

stretch-turn : (shape : Sizes) (wanted : List LineKind) (lines : List Line) (i : ℕ) (d : Line) (b : Bool) → i < length lines →
    is_of shape wanted i (get_or lines i d).tokens ≡ b →
    stretch shape wanted i (drop i lines) ≡ (if b then 1 + stretch shape wanted (i + 1) (drop (i + 1) lines) else 0)
unfolding stretch
stretch-turn shape wanted lines i d b h e =
    at_drop_more (λ (l : List Line). stretch shape wanted i l) lines i d h
    ∙ ap (λ (c : Bool). if c then 1 + stretch shape wanted (i + 1) (drop (i + 1) lines) else 0) e

-- a line of another kind ends them
pub stretch-stops : (shape : Sizes) (wanted : List LineKind) (lines : List Line) (i : ℕ) (l : Line) (ts : List Token)
    (r : Bool) (all : ℕ) → i < length lines →
    l ≡ get_or lines i l → ts ≡ l.tokens → r ≡ is_of shape wanted i ts → r ≡ false →
    i + stretch shape wanted i (drop i lines) ≡ all → i ≡ all
stretch-stops shape wanted lines i l ts r all h at is says e before =
    let turn = stretch-turn shape wanted lines i l false h (tested (is_of shape wanted i) lines i l ts r false at is says e) in
    omega (arith, turn, before)

pub stretch-goes : (shape : Sizes) (wanted : List LineKind) (lines : List Line) (i : ℕ) (l : Line) (ts : List Token) (r : Bool)
    (all : ℕ) → i < length lines →
    l ≡ get_or lines i l → ts ≡ l.tokens → r ≡ is_of shape wanted i ts → r ≡ true →
    i + stretch shape wanted i (drop i lines) ≡ all →
    (i + 1) + stretch shape wanted (i + 1) (drop (i + 1) lines) ≡ all
stretch-goes shape wanted lines i l ts r all h at is says e before =
    let turn = stretch-turn shape wanted lines i l true h (tested (is_of shape wanted i) lines i l ts r true at is says e) in
    omega (arith, turn, before)

pub stretch-ends : (shape : Sizes) (wanted : List LineKind) (lines : List Line) (i all : ℕ) → length lines ≤ i →
    i ≤ length lines →
    i + stretch shape wanted i (drop i lines) ≡ all → length lines ≡ all
unfolding stretch
stretch-ends shape wanted lines i all h k before =
    let none : stretch shape wanted i (drop i lines) ≡ 0 = at_drop_all
    (λ (l : List Line). stretch shape wanted i l) lines i h in omega (arith, none, before, h, k)

-- ---- events

numbered-turn : (events : List Line) (i : ℕ) (d : Line) (b : Bool) → i < length events →
    is_number i (number_at (get_or events i d).tokens 1) ≡ b →
    numbered i (drop i events) ≡ (if b then numbered (i + 1) (drop (i + 1) events)
    else Err (Denied (get_or events i d).number BadNumber))
unfolding numbered
numbered-turn events i d b h e =
    at_drop_more (λ (l : List Line). numbered i l) events i d h
    ∙ ap (λ (c : Bool). if c then numbered (i + 1) (drop (i + 1) events) else Err (Denied (get_or events i d).number BadNumber)) e

pub numbered-stops : (events : List Line) (i : ℕ) (l : Line) (ts : List Token) (r : Bool) (all : Result ℕ AuditError) →
    i < length events →
    l ≡ get_or events i l → ts ≡ l.tokens → r ≡ is_number i (number_at ts 1) → r ≡ false → numbered i (drop i events) ≡ all →
    all ≡ Err (Denied l.number BadNumber)
numbered-stops events i l ts r all h at is says e before =
    sym before
    ∙ numbered-turn events i l false h (tested (λ (us : List Token). is_number i (number_at us 1)) events i l ts r false at
    is says e)
    ∙ ap (λ (x : Line). Err (Denied x.number BadNumber)) (sym at)

pub numbered-goes : (events : List Line) (i : ℕ) (l : Line) (ts : List Token) (r : Bool) (all : Result ℕ AuditError) →
    i < length events →
    l ≡ get_or events i l → ts ≡ l.tokens → r ≡ is_number i (number_at ts 1) → r ≡ true → numbered i (drop i events) ≡ all →
    numbered (i + 1) (drop (i + 1) events) ≡ all
numbered-goes events i l ts r all h at is says e before =
    sym (numbered-turn events i l true h (tested (λ (us : List Token). is_number i (number_at us 1)) events i l ts r true at is
    says e)) ∙ before

pub numbered-ends : (events : List Line) (i : ℕ) (all : Result ℕ AuditError) → length events ≤ i → i ≤ length events →
    numbered i (drop i events) ≡ all → all ≡ Ok (length events)
unfolding numbered
numbered-ends events i all h k before =
    let e : i ≡ length events = omega arith in sym before ∙ at_drop_all (λ (l : List Line). numbered i l) events i h
    ∙ ap (λ (n : ℕ). Ok n) e
