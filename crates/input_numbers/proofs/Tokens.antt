-- The numbers of a text have 64 bits.
use Rattle.std.proofs.Common.{◌≡◌, ℕ, zero, suc, ◌+◌, ◌-◌, ◌^◌, ◌&&◌, cond, Bool, true, false, List, [], ◌∷◌, length, Option}
use Rattle.std.proofs.Common.{Some, None, Result, Ok, Err, refl, subst}
use Rattle.std.specs.Prelude.{nat_le, nat_lt}
use Rattle.std.specs.List.{list_all}
use Rattle.std.specs.Option.{option_map}
use Rattle.std.proofs.lemmas.Bool.{and_parts, ltb-true}
use Rattle.tw_base.specs.Answers.{◌>>=◌}
use Rattle.tw_base.specs.Lists.{Each}
use Rattle.tw_lex.specs.declared.token.LexError.{LexError}
use Rattle.tw_lex.specs.declared.token.LexError.TheVariants.{NotAscii}
use Rattle.tw_lex.specs.declared.token.Lexed.{Lexed}
use Rattle.tw_lex.specs.declared.token.Line.{Line}
use Rattle.tw_lex.specs.declared.token.Mark.{Mark}
use Rattle.tw_lex.specs.declared.token.Token.{Token}
use Rattle.tw_lex.specs.declared.token.What.{What}
use Rattle.tw_lex.specs.declared.token.What.TheVariants as whats
use Rattle.tw_lex.specs.Bytes.{code_of, is_allowed, is_blank, is_digit, is_word_start}
use Rattle.tw_lex.specs.Lexemes.{decimal_value, lexeme, mark_at, number_at, or_single, pair_mark, single_mark, word_at, word_run}
use Rattle.tw_lex.specs.Lines.{lexed, line_tokens, lines_from, lines_of, or_bad, put_token, tokens_from, tokens_of, with_line}
use Rattle.input_numbers.specs.Small.{NumbersOfTextsAreSmall, SmallLine, SmallToken, SmallWhat}

-- ---- a token

abbrev SmallFound : Option (What × ℕ) → Type 0
SmallFound None = Unit {0}
SmallFound (Some found) = SmallWhat found.0

number-small : (run : List ℕ) → SmallFound (number_at run)
number-small run = by (list_all is_digit run && nat_lt (decimal_value run) (2 ^ 64)) refl
  where
    by : (b : Bool) → (list_all is_digit run && nat_lt (decimal_value run) (2 ^ 64)) ≡ b
        → SmallFound (option_map (λ n. (whats.Number n, length run)) (cond b (Some (decimal_value run)) None))
    by true e = ltb-true (decimal_value run) (2 ^ 64)
        (and_parts (list_all is_digit run) (nat_lt (decimal_value run) (2 ^ 64)) e).1
    by false e = tt

word-small : (run : List ℕ) → SmallFound (word_at run)
word-small run = by (nat_le (length run) 64)
  where
    by : (b : Bool) → SmallFound (cond b (Some (whats.Word run, length run)) None)
    by true = tt
    by false = tt

or-single-small : (o : Option Mark) (b : ℕ) → SmallFound (or_single o b)
or-single-small (Some m) b = tt
or-single-small None b = by (single_mark b)
  where
    by : (o : Option Mark) → SmallFound (option_map (λ m. (whats.Mark m, 1)) o)
    by (Some m) = tt
    by None = tt

mark-small : (bytes : List ℕ) → SmallFound (mark_at bytes)
mark-small [] = tt
mark-small (b ∷ []) = or-single-small None b
mark-small (b ∷ c ∷ bs) = or-single-small (pair_mark b c) b

lexeme-small : (bytes : List ℕ) → SmallFound (lexeme bytes)
unfolding lexeme
lexeme-small [] = tt
lexeme-small (b ∷ bs) = by (is_word_start b) (is_digit b)
  where
    by : (start digit : Bool) → SmallFound (cond start (word_at (word_run (b ∷ bs))) (cond digit (number_at (word_run (b ∷ bs)))
        (mark_at (b ∷ bs))))
    by true digit = word-small (word_run (b ∷ bs))
    by false true = number-small (word_run (b ∷ bs))
    by false false = mark-small (b ∷ bs)

-- ---- the tokens of a line

abbrev SmallTokens : Option (List Token) → Type 0
SmallTokens None = Unit {0}
SmallTokens (Some ts) = Each SmallToken ts

put-small : (at : ℕ) (o : Option (What × ℕ)) (rest : ℕ → Option (List Token)) → SmallFound o → ((n : ℕ) → SmallTokens (rest n))
    → SmallTokens (put_token at o rest)
put-small at None rest h go = tt
put-small at (Some found) rest h go = by (rest (found.1 - 1)) (go (found.1 - 1))
  where
    by : (o : Option (List Token)) → SmallTokens o
        → SmallTokens (option_map (λ ts. record { start = at; end = at + found.1; what = found.0 } ∷ ts) o)
    by None k = tt
    by (Some ts) k = (h, k)

tokens-small : (bytes : List ℕ) (skip at : ℕ) → SmallTokens (tokens_from skip at bytes)
unfolding tokens_from
tokens-small [] skip at = tt
tokens-small (b ∷ bs) (suc skip) at = tokens-small bs skip (at + 1)
tokens-small (b ∷ bs) zero at =
    by (is_blank b) (tokens-small bs zero (at + 1)) (put-small at (lexeme (b ∷ bs)) (λ skip. tokens_from skip (at + 1) bs)
    (lexeme-small (b ∷ bs)) (λ n. tokens-small bs n (at + 1)))
  where
    by : (v : Bool) → SmallTokens (tokens_from zero (at + 1) bs)
        → SmallTokens (put_token at (lexeme (b ∷ bs)) (λ skip. tokens_from skip (at + 1) bs))
        → SmallTokens
        (cond v (tokens_from zero (at + 1) bs) (put_token at (lexeme (b ∷ bs)) (λ skip. tokens_from skip (at + 1) bs)))
    by true one other = one
    by false one other = other

-- ---- lines

abbrev SmallOk : Result (List Token) LexError → Type 0
SmallOk (Ok ts) = Each SmallToken ts
SmallOk (Err e) = Unit {0}

bad-small : (number : ℕ) (o : Option (List Token)) → SmallTokens o → SmallOk (or_bad number o)
bad-small number None h = tt
bad-small number (Some ts) h = h

line-small : (number start : ℕ) (line : List ℕ) → SmallOk (line_tokens number start line)
line-small number start line = by (list_all is_allowed (code_of line))
  where
    by : (b : Bool) → SmallOk (cond b (tokens_of number start (code_of line)) (Err (NotAscii number)))
    by true = bad-small number (tokens_from 0 start (code_of line)) (tokens-small (code_of line) 0 start)
    by false = tt

abbrev SmallLines : Result (List Line) LexError → Type 0
SmallLines (Ok ls) = Each SmallLine ls
SmallLines (Err e) = Unit {0}

with-small : (number : ℕ) (ts : List Token) (ls : List Line) → Each SmallToken ts → Each SmallLine ls → Each SmallLine
    (with_line number ts ls)
with-small number [] ls h hs = hs
with-small number (t ∷ ts) ls h hs = (h, hs)

both-small : (number : ℕ) (first : Result (List Token) LexError) (rest : Result (List Line) LexError) → SmallOk first
    → SmallLines rest
    → SmallLines (first >>= λ ts. rest >>= λ ls. Ok (with_line number ts ls))
both-small number (Err e) rest h hs = tt
both-small number (Ok ts) (Err e) h hs = tt
both-small number (Ok ts) (Ok ls) h hs = with-small number ts ls h hs

lines-small : (pieces : List (List ℕ)) (number start : ℕ) → SmallLines (lines_from number start pieces)
unfolding lines_from
lines-small [] number start = tt
lines-small (line ∷ rest) number start =
    both-small number (line_tokens number start line) (lines_from (number + 1) (start + length line + 1) rest)
    (line-small number start line) (lines-small rest (number + 1) (start + length line + 1))

found-small : (r : Result (List Line) LexError) (n : ℕ) (found : Lexed) → SmallLines r
    → (r >>= λ ls. Ok (record { all = n; list = ls })) ≡ Ok found → Each SmallLine found.list
found-small (Err e) n found h is = absurd cc
found-small (Ok ls) n found h is =
    let same : record { all = n; list = ls } ≡ found = cc in
    subst (λ (l : Lexed). Each SmallLine l.list) same h

pub text-small : NumbersOfTextsAreSmall
unfolding lexed
text-small text found is = found-small (lines_from 1 0 (lines_of text)) (length (lines_of text)) found
    (lines-small (lines_of text) 1 0) is
