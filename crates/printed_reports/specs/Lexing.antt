-- Lines that are printed, and the tokens that they are lexed to.
use Rattle.std.specs.Prelude.{◌≡◌, ◌<◌, ℕ, ◌+◌, ◌^◌, ◌&&◌, nat_le, decimal, Bool, true, false, List, [], ◌∷◌, ◌++◌, map, length}
use Rattle.std.specs.Prelude.{Ok}
use Rattle.std.specs.List.{list_all, flat_map}
use Rattle.tw_base.specs.Lists.{Each}
use Rattle.tw_lex.specs.Bytes.{is_line_feed, is_word_start, is_word_byte}
use Rattle.tw_lex.specs.declared.token.Lexed.{Lexed}
use Rattle.tw_lex.specs.declared.token.Line.{Line}
use Rattle.tw_lex.specs.declared.token.Token.{Token}
use Rattle.tw_lex.specs.declared.token.What.{What}
use Rattle.tw_lex.specs.declared.token.What.TheVariants as whats
use Rattle.tw_lex.specs.Laws.{spelling}
use Rattle.tw_lex.specs.Lines.{lexed}
use Rattle.printed_text.specs.Lines.{line}

-- the bytes of a token; a number has no leading zeros
abbrev pub what_text : What → List ℕ
what_text (whats.Word w) = w
what_text (whats.Number n) = decimal n
what_text (whats.Mark mark) = spelling mark

-- the line that says this
abbrev pub text_line : List What → List ℕ
text_line says = line (map what_text says)

abbrev pub begins_word : List ℕ → Bool
begins_word [] = false
begins_word (b ∷ bs) = is_word_start b

-- a word that is one token
abbrev pub is_word : List ℕ → Bool
is_word w = begins_word w && (list_all is_word_byte w && nat_le (length w) 64)

-- a word or a number that is read back as it is printed
abbrev pub IsPlain : What → Type 0
IsPlain (whats.Word w) = is_word w ≡ true
IsPlain (whats.Number n) = n < 2 ^ 64
IsPlain (whats.Mark mark) = ⊥

-- a line with a token, and each is read back
abbrev pub IsPlainLine : List What → Type 0
IsPlainLine [] = ⊥
IsPlainLine (w ∷ ws) = Each IsPlain (w ∷ ws)

-- the tokens of a line that begins at this place of a text
abbrev pub tokens_at : ℕ → List What → List Token
tokens_at at [] = []
tokens_at at (w ∷ ws) =
    record { start = at; end = at + length (what_text w); what = w } ∷ tokens_at (at + length (what_text w) + 1) ws

-- the text of some lines
abbrev pub text_of : List (List What) → List ℕ
text_of lines = flat_map text_line lines

-- lines of a text, of which the first has this number and begins at this place
abbrev pub lines_at : ℕ → ℕ → List (List What) → List Line
lines_at number start [] = []
lines_at number start (says ∷ lines) =
    record { number = number; tokens = tokens_at start says } ∷ lines_at (number + 1) (start + length (text_line says)) lines

-- the text is empty, or ends in a line feed
abbrev pub ends_line : List ℕ → Bool
ends_line [] = true
ends_line (b ∷ []) = is_line_feed b
ends_line (b ∷ c ∷ bs) = ends_line (c ∷ bs)

-- Lines that are printed behind a text are lexed to the tokens that they were printed for.
abbrev pub PrintedLinesAreLexed : Type 0
PrintedLinesAreLexed =
    (before : List ℕ) (found : Lexed) (lines : List (List What)) → ends_line before ≡ true → lexed before ≡ Ok found
    → Each IsPlainLine lines →
    lexed (before ++ text_of lines) ≡
    Ok (record { all = found.all + length lines; list = found.list ++ lines_at (found.all + 1) (length before) lines })
