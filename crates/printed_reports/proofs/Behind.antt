-- A text behind another that ends its last line.
use Rattle.std.proofs.Common.{◌≡◌, ℕ, ◌+◌, Bool, true, false, cond, List, [], ◌∷◌, ◌++◌, length, Result, Ok, Err, refl, sym, ap}
use Rattle.std.proofs.Common.{◌∙◌, arith, length-append}
use Rattle.std.specs.List.{onto_first}
use Rattle.tw_base.specs.Answers.{◌>>=◌}
use Rattle.tw_base.specs.Lists.{how_many}
use Rattle.tw_lex.specs.declared.token.LexError.{LexError}
use Rattle.tw_lex.specs.declared.token.Lexed.{Lexed}
use Rattle.tw_lex.specs.declared.token.Line.{Line}
use Rattle.tw_lex.specs.declared.token.Token.{Token}
use Rattle.tw_lex.specs.Bytes.{is_line_feed}
use Rattle.tw_lex.specs.Lines.{lexed, line_tokens, lines_from, lines_of, with_line}
use Rattle.printed_reports.specs.Lexing.{PrintedLinesAreLexed, ends_line, lines_at, text_of}
use Rattle.printed_reports.proofs.Lexed.{count-lines, lines-lexed}

-- ---- the lines

onto-some : (b : ℕ) (ls : List (List ℕ)) → (l : List ℕ) × (ms : List (List ℕ)) × (onto_first b ls ≡ l ∷ ms)
onto-some b [] = (_, _, refl)
onto-some b (l ∷ ls) = (_, _, refl)

some-by : (v : Bool) (b : ℕ) (ls : List (List ℕ)) → (l : List ℕ) × (ms : List (List ℕ)) ×
    (cond v ([] ∷ ls) (onto_first b ls) ≡ l ∷ ms)
some-by true b ls = ([], ls, refl)
some-by false b ls = onto-some b ls

-- a byte has a line
lines-some : (b : ℕ) (bs : List ℕ) → (l : List ℕ) × (ms : List (List ℕ)) × (lines_of (b ∷ bs) ≡ l ∷ ms)
lines-some b bs = some-by (is_line_feed b) b (lines_of bs)

onto-append : (v : Bool) (b : ℕ) (xs ys : List (List ℕ)) → (l : List ℕ) × (ms : List (List ℕ)) × (xs ≡ l ∷ ms)
    → cond v ([] ∷ (xs ++ ys)) (onto_first b (xs ++ ys)) ≡ cond v ([] ∷ xs) (onto_first b xs) ++ ys
onto-append v b [] ys (l, ms, e) = absurd cc
onto-append true b (x ∷ xs) ys h = refl
onto-append false b (x ∷ xs) ys h = refl

last-append : (v : Bool) (b : ℕ) (ys : List (List ℕ)) → v ≡ true → cond v ([] ∷ ys) (onto_first b ys) ≡ cond v ([] ∷ [])
    (onto_first b []) ++ ys
last-append true b ys e = refl
last-append false b ys e = absurd cc

lines-append : (before text : List ℕ) → ends_line before ≡ true → lines_of (before ++ text) ≡ lines_of before ++ lines_of text
lines-append [] text e = refl
lines-append (b ∷ []) text e = last-append (is_line_feed b) b (lines_of text) e
lines-append (b ∷ c ∷ bs) text e =
    ap (λ ls. cond (is_line_feed b) ([] ∷ ls) (onto_first b ls)) (lines-append (c ∷ bs) text e)
    ∙ onto-append (is_line_feed b) b (lines_of (c ∷ bs)) (lines_of text) (lines-some c bs)

-- ---- where the next begins

-- the bytes of lines with their feeds
abbrev total : List (List ℕ) → ℕ
total ls = how_many (λ l. length l + 1) ls

onto-total : (v : Bool) (b : ℕ) (xs : List (List ℕ)) → (l : List ℕ) × (ms : List (List ℕ)) × (xs ≡ l ∷ ms)
    → total (cond v ([] ∷ xs) (onto_first b xs)) ≡ total xs + 1
onto-total v b [] (l, ms, e) = absurd cc
onto-total true b (x ∷ xs) h = omega arith
onto-total false b (x ∷ xs) h = omega arith

last-total : (v : Bool) (b : ℕ) → v ≡ true → total (cond v ([] ∷ []) (onto_first b [])) ≡ 1
last-total true b e = refl
last-total false b e = absurd cc

lines-total : (before : List ℕ) → ends_line before ≡ true → total (lines_of before) ≡ length before
lines-total [] e = refl
lines-total (b ∷ []) e = last-total (is_line_feed b) b e
lines-total (b ∷ c ∷ bs) e =
    let one = onto-total (is_line_feed b) b (lines_of (c ∷ bs)) (lines-some c bs) in
    let more = lines-total (c ∷ bs) e in
    omega arith

-- ---- the lines of one text before those of another

kept-append : (number : ℕ) (ts : List Token) (ls ms : List Line) → with_line number ts (ls ++ ms) ≡ with_line number ts ls ++ ms
kept-append number [] ls ms = refl
kept-append number (t ∷ ts) ls ms = refl

ok-same : (ls ms : List Line) (r : Result (List Line) LexError) → r ≡ Ok ls → r ≡ Ok ms → ls ≡ ms
ok-same ls ms r a b = cc

-- lines that are lexed, by the tokens of the first and the lines of the rest
first-lexed : (number : ℕ) (first : Result (List Token) LexError) (rest whole : Result (List Line) LexError)
    (ls ms : List Line) →
    (first >>= λ ts. rest >>= λ more. Ok (with_line number ts more)) ≡ Ok ls
    → ((more : List Line) → rest ≡ Ok more → whole ≡ Ok (more ++ ms))
    → (first >>= λ ts. whole >>= λ more. Ok (with_line number ts more)) ≡ Ok (ls ++ ms)
first-lexed number (Err e) rest whole ls ms is go = absurd cc
first-lexed number (Ok ts) (Err e) whole ls ms is go = absurd cc
first-lexed number (Ok ts) (Ok more) whole ls ms is go =
    let same : with_line number ts more ≡ ls = cc in
    ap (λ (r : Result (List Line) LexError). r >>= λ all. Ok (with_line number ts all)) (go more refl)
    ∙ ap Ok (kept-append number ts more ms ∙ ap (λ l. l ++ ms) same)

from-append : (xs ys : List (List ℕ)) (number start : ℕ) (ls ms : List Line) → lines_from number start xs ≡ Ok ls
    → lines_from (number + length xs) (start + total xs) ys ≡ Ok ms
    → lines_from number start (xs ++ ys) ≡ Ok (ls ++ ms)
unfolding lines_from
from-append [] ys number start ls ms is more =
    let none : [] ≡ ls = cc in
    let n : number ≡ number + 0 = omega arith in
    let s : start ≡ start + 0 = omega arith in
    ap (λ k. lines_from k start ys) n ∙ ap (λ k. lines_from (number + 0) k ys) s ∙ more ∙ ap (λ l. Ok (l ++ ms)) none
from-append (x ∷ xs) ys number start ls ms is more =
    let n : number + length (x ∷ xs) ≡ number + 1 + length xs = omega arith in
    let s : start + total (x ∷ xs) ≡ start + length x + 1 + total xs = omega arith in
    let there : lines_from (number + 1 + length xs) (start + length x + 1 + total xs) ys ≡ Ok ms =
    ap (λ k. lines_from k (start + length x + 1 + total xs) ys) (sym n) ∙ ap (λ k. lines_from (number + length (x ∷ xs)) k ys)
    (sym s) ∙ more in
    first-lexed number (line_tokens number start x) (lines_from (number + 1) (start + length x + 1) xs)
    (lines_from (number + 1) (start + length x + 1) (xs ++ ys)) ls ms is
    (λ rest e. from-append xs ys (number + 1) (start + length x + 1) rest ms e there)

-- ---- the whole

-- a text that is lexed, by its lines
found-lines : (r : Result (List Line) LexError) (n : ℕ) (found : Lexed)
    → (r >>= λ ls. Ok (record { all = n; list = ls })) ≡ Ok found → (r ≡ Ok found.list) × (n ≡ found.all)
found-lines (Err e) n found is = absurd cc
found-lines (Ok ls) n found is =
    let same : record { all = n; list = ls } ≡ found = cc in
    (ap (λ (l : Lexed). Ok l.list) same, ap (λ (l : Lexed). l.all) same)

pub lexed_behind : PrintedLinesAreLexed
unfolding lexed
lexed_behind before found lines ends is plain =
    let parts = found-lines (lines_from 1 0 (lines_of before)) (length (lines_of before)) found is in
    let text = text_of lines in
    let number : found.all + 1 ≡ 1 + length (lines_of before) = omega (arith, parts.1) in
    let place : 0 + total (lines_of before) ≡ length before = omega (arith, lines-total before ends) in
    let behind : lines_from (1 + length (lines_of before)) (0 + total (lines_of before)) (lines_of text) ≡ Ok
    (lines_at (found.all + 1) (length before) lines) =
    ap (λ k. lines_from k (0 + total (lines_of before)) (lines_of text)) (sym number)
    ∙ ap (λ k. lines_from (found.all + 1) k (lines_of text)) place
    ∙ lines-lexed lines (found.all + 1) (length before) plain in
    let cut = lines-append before text ends in
    let all : lines_from 1 0 (lines_of (before ++ text)) ≡ Ok (found.list ++ lines_at (found.all + 1) (length before) lines) =
    ap (lines_from 1 0) cut ∙ from-append (lines_of before) (lines_of text) 1 0 found.list
    (lines_at (found.all + 1) (length before) lines) parts.0 behind in
    let many : length (lines_of (before ++ text)) ≡ found.all + length lines =
    ap length cut ∙ length-append (lines_of before) (lines_of text) ∙ ap (λ k. k + length (lines_of text)) parts.1
    ∙ ap (λ k. found.all + k) (count-lines lines plain) in
    ap (λ (r : Result (List Line) LexError). r >>= λ ls. Ok
    (record { all = length (lines_of (before ++ text)); list = ls })) all
    ∙ ap (λ n. Ok (record { all = n; list = found.list ++ lines_at (found.all + 1) (length before) lines })) many
