-- Going over a text, line by line.
use Rattle.std.proofs.Common.{◌≡◌, ℕ, suc, ◌+◌, ◌<◌, ◌≤◌, Bool, true, false, cond, List, [], ◌∷◌, ◌++◌, length, take, drop}
use Rattle.std.proofs.Common.{Result, Ok, Err, refl, sym, ap, ◌∙◌, subst, append_assoc, arith}
use Rattle.std.specs.Prelude.{not}
use Rattle.std.specs.List.{position_or_len, onto_first}
use Rattle.std.proofs.lemmas.List.{append-nil, drop_all, drop-drop, length-drop}
use Rattle.std.proofs.lemmas.List.Folds.{length-prefix_len}
use Rattle.std.proofs.lemmas.List.Sums.{prefix_len-le-length}
use Rattle.tw_lex.specs.declared.token.Token.{Token}
use Rattle.tw_lex.specs.declared.token.Line.{Line}
use Rattle.tw_lex.specs.declared.token.LexError.{LexError}
use Rattle.tw_lex.specs.Bytes.{is_line_feed}
use Rattle.tw_base.specs.Answers.{◌>>=◌, Fails}
use Rattle.tw_base.proofs.Answering.{Fails-along}
use Rattle.tw_lex.specs.Lines.{is_memory, lines_of, line_tokens, with_line, lines_from, lexed}

-- how long the first line is
abbrev pub first_len : List ℕ → ℕ
first_len text = position_or_len is_line_feed text

abbrev pub first_line : List ℕ → List ℕ
first_line text = take (first_len text) text

first : (v : Bool) (b : ℕ) (bs : List ℕ) → (0 < length bs → lines_of bs ≡ first_line bs ∷ lines_of (drop (first_len bs + 1) bs))
    → cond v ([] ∷ lines_of bs) (onto_first b (lines_of bs))
    ≡ take (cond (not v) (1 + first_len bs) 0) (b ∷ bs) ∷ lines_of (drop (cond (not v) (1 + first_len bs) 0 + 1) (b ∷ bs))
first true b bs ih = refl
first false b [] ih = refl
first false b (x ∷ xs) ih =
    let n = first_len (x ∷ xs) in
    let e : 1 + n ≡ suc n = omega arith in
    let f : suc n + 1 ≡ suc (n + 1) = omega arith in
    ap (onto_first b) (ih (omega arith)) ∙ rw (e, f) refl

-- the first line of a text, and those after it
pub lines_of-first : (text : List ℕ) → 0 < length text → lines_of text
    ≡ first_line text ∷ lines_of (drop (first_len text + 1) text)
lines_of-first [] some = absurd (omega arith)
lines_of-first (b ∷ bs) some = first (is_line_feed b) b bs (lines_of-first bs)

pub length-first_line : (text : List ℕ) → length (first_line text) ≡ first_len text
length-first_line text = length-prefix_len _ text

-- the lines so far, and those after them
abbrev pub with_front : List Line → Result (List Line) LexError → Result (List Line) LexError
with_front front rest = rest >>= λ ls. Ok (front ++ ls)

pub with_front-nil : (rest : Result (List Line) LexError) → with_front [] rest ≡ rest
with_front-nil (Ok ls) = refl
with_front-nil (Err e) = refl

with_line-append : (number : ℕ) (ts : List Token) (ls : List Line) → with_line number ts ls ≡ with_line number ts [] ++ ls
with_line-append number [] ls = refl
with_line-append number (t ∷ ts) ls = refl

regroup : (front : List Line) (number : ℕ) (ts : List Token) (rest : Result (List Line) LexError) →
    with_front front (rest >>= λ ls. Ok (with_line number ts ls)) ≡ with_front (front ++ with_line number ts []) rest
regroup front number ts (Ok ls) = ap Ok (ap (λ l. front ++ l) (with_line-append number ts ls)
    ∙ sym (append_assoc front (with_line number ts []) ls))
regroup front number ts (Err e) = refl

-- what is left of a text from a place on
module _ (text : List ℕ) (start : ℕ) (some : start < length text) where
  pub lines_of-rest : lines_of (drop start text) ≡ first_line (drop start text) ∷ lines_of
      (drop (start + first_len (drop start text) + 1) text)
  lines_of-rest =
      let e : start + (first_len (drop start text) + 1) ≡ start + first_len (drop start text) + 1 = omega arith in
      lines_of-first (drop start text) (omega (arith, length-drop start text))
      ∙ ap (λ rest. first_line (drop start text) ∷ lines_of rest) (drop-drop _ start text ∙ ap (λ n. drop n text) e)

  pub length-lines_of-rest : length (lines_of (drop start text))
      ≡ length (lines_of (drop (start + first_len (drop start text) + 1) text)) + 1
  length-lines_of-rest = ap length lines_of-rest ∙ omega arith

  pub split-line : (front : List Line) (number : ℕ) (ts : List Token) (total : Result (List Line) LexError) →
      line_tokens number start (first_line (drop start text)) ≡ Ok ts
      → with_front front (lines_from number start (lines_of (drop start text))) ≡ total
      → with_front (front ++ with_line number ts []) (lines_from (number + 1) (start + first_len (drop start text) + 1)
      (lines_of (drop (start + first_len (drop start text) + 1) text))) ≡ total
  unfolding lines_from
  split-line front number ts total is so_far =
      let one : lines_from number start (lines_of (drop start text))
      ≡ (lines_from (number + 1) (start + first_len (drop start text) + 1)
      (lines_of (drop (start + first_len (drop start text) + 1) text)) >>= λ ls. Ok (with_line number ts ls)) =
      rw (lines_of-rest, is, length-first_line (drop start text)) refl in
      sym (regroup front number ts _) ∙ ap (with_front front) (sym one) ∙ so_far

  pub split-fault : (front : List Line) (number : ℕ) (e : LexError) (total : Result (List Line) LexError) →
      Fails is_memory e (line_tokens number start (first_line (drop start text)))
      → with_front front (lines_from number start (lines_of (drop start text))) ≡ total → Fails is_memory e total
  unfolding lines_from
  split-fault front number e total due so_far = Fails-along is_memory e
      (line_tokens number start (first_line (drop start text))) total (λ d.
      let one : lines_from number start (lines_of (drop start text)) ≡ Err e = rw (lines_of-rest, d) refl in
      sym so_far ∙ ap (with_front front) one) due

module _ (text : List ℕ) (start : ℕ) (line : List ℕ) (some : start < length text)
    (is_line : line ≡ first_line (drop start text)) where
  pub next : start + (length line + 1) ≡ start + first_len (drop start text) + 1
  next = omega (arith, ap length is_line, length-first_line (drop start text))

  pub next-fits : start + (length line + 1) ≤ length text + 1
  next-fits = omega (arith, next, prefix_len-le-length (λ b. not (is_line_feed b)) (drop start text), length-drop start text)

  pub length-turn : length (lines_of (drop start text)) ≡ length (lines_of (drop (start + (length line + 1)) text)) + 1
  length-turn = rw next (length-lines_of-rest text start some)

  pub turn : (front : List Line) (number : ℕ) (ts : List Token) (total : Result (List Line) LexError) →
      line_tokens number start line ≡ Ok ts
      → with_front front (lines_from number start (lines_of (drop start text))) ≡ total
      → with_front (front ++ with_line number ts []) (lines_from (number + 1) (start + (length line + 1))
      (lines_of (drop (start + (length line + 1)) text))) ≡ total
  turn front number ts total is so_far =
      rw next (split-line text start some front number ts total
      (subst (λ l. line_tokens number start l ≡ Ok ts) is_line is) so_far)

pub split-end : (front : List Line) (text : List ℕ) (number start : ℕ) (total : Result (List Line) LexError) → length text ≤ start
    → with_front front (lines_from number start (lines_of (drop start text))) ≡ total → total ≡ Ok front
unfolding lines_from
split-end front text number start total le so_far =
    let one : with_front front (lines_from number start (lines_of (drop start text))) ≡ Ok front =
    rw (drop_all start text le) (ap Ok (append-nil front)) in
    sym so_far ∙ one

-- the lines, with their number
pub lexed-fault : (text : List ℕ) (e : LexError) → Fails is_memory e (lines_from 1 0 (lines_of text)) →
    Fails is_memory e (lexed text)
unfolding lexed
lexed-fault text e due = Fails-along is_memory e (lines_from 1 0 (lines_of text)) _ (λ d. rw d refl) due

pub lexed-is : (text : List ℕ) (ls : List Line) (all : ℕ) → lines_from 1 0 (lines_of text) ≡ Ok ls →
    all ≡ length (lines_of text) → lexed text ≡ Ok (record { all = all; list = ls })
unfolding lexed
lexed-is text ls all is count = rw (is, count) refl
