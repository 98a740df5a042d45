-- The lines of a text, and the tokens of each.
use Rattle.std.specs.Prelude.{ℕ, zero, suc, ◌+◌, ◌-◌, if◌then◌else◌, List, [], ◌∷◌, length, Bool, true, false, Option, Some}
use Rattle.std.specs.Prelude.{None, Result, Ok, Err}
use Rattle.std.specs.List.{list_all, onto_first}
use Rattle.std.specs.Option.{option_map}
use Rattle.tw_base.specs.Answers.{◌>>=◌}
use Rattle.tw_lex.specs.declared.token.Token.{Token}
use Rattle.tw_lex.specs.declared.token.What.{What}
use Rattle.tw_lex.specs.declared.token.Line.{Line}
use Rattle.tw_lex.specs.declared.token.Lexed.{Lexed}
use Rattle.tw_lex.specs.declared.token.LexError.{LexError}
use Rattle.tw_lex.specs.declared.token.LexError.TheVariants.{NotAscii, BadToken, Memory}
use Rattle.tw_lex.specs.Bytes.{is_line_feed, is_blank, is_allowed, code_of}
use Rattle.tw_lex.specs.Lexemes.{lexeme}

-- the pieces between line feeds; a last piece that is empty is no line
abbrev pub lines_of : List ℕ → List (List ℕ)
lines_of [] = []
lines_of (b ∷ bs) = if is_line_feed b then [] ∷ lines_of bs else onto_first b (lines_of bs)

-- a token and those after it
abbrev pub put_token : ℕ → Option (What × ℕ) → (ℕ → Option (List Token)) → Option (List Token)
put_token at None rest = None
put_token at (Some found) rest = option_map (λ ts. record { start = at; end = at + found.1; what = found.0 } ∷ ts)
    (rest (found.1 - 1))

-- The tokens of bytes that begin at a place in the text. The first ones, to be skipped, belong to a token
-- that is counted already.
unfoldable pub tokens_from : ℕ → ℕ → List ℕ → Option (List Token)
tokens_from skip at [] = Some []
tokens_from (suc skip) at (b ∷ bs) = tokens_from skip (at + 1) bs
tokens_from zero at (b ∷ bs) = if is_blank b then tokens_from zero (at + 1) bs
    else put_token at (lexeme (b ∷ bs)) (λ skip. tokens_from skip (at + 1) bs)

abbrev pub or_bad : ℕ → Option (List Token) → Result (List Token) LexError
or_bad number None = Err (BadToken number)
or_bad number (Some ts) = Ok ts

abbrev pub tokens_of : ℕ → ℕ → List ℕ → Result (List Token) LexError
tokens_of number start code = or_bad number (tokens_from 0 start code)

abbrev pub line_tokens : ℕ → ℕ → List ℕ → Result (List Token) LexError
line_tokens number start line = if list_all is_allowed (code_of line) then tokens_of number start (code_of line)
    else Err (NotAscii number)

-- a line with no token is left out
abbrev pub with_line : ℕ → List Token → List Line → List Line
with_line number [] ls = ls
with_line number (t ∷ ts) ls = record { number = number; tokens = t ∷ ts } ∷ ls

-- The lines that have tokens, numbered from one on; the first begins at a place in the text.
unfoldable pub lines_from : ℕ → ℕ → List (List ℕ) → Result (List Line) LexError
lines_from number start [] = Ok []
lines_from number start (line ∷ rest) = do
  ts ← line_tokens number start line
  ls ← lines_from (number + 1) (start + length line + 1) rest
  Ok (with_line number ts ls)

unfoldable pub lexed : List ℕ → Result Lexed LexError
lexed text = do
  ls ← lines_from 1 0 (lines_of text)
  Ok (record { all = length (lines_of text); list = ls })

-- want of memory, which no text determines
abbrev pub is_memory : LexError → Bool
is_memory Memory = true
is_memory (NotAscii line) = false
is_memory (BadToken line) = false
