-- The token at the front of a text, the longest that there is, and how many bytes it takes.
use Rattle.std.specs.Prelude.{ℕ, ◌+◌, ◌-◌, ◌*◌, ◌^◌, ◌==◌, ◌&&◌, if◌then◌else◌, not, slice_get, nat_le, nat_lt, List, [], ◌∷◌}
use Rattle.std.specs.Prelude.{length, Option, Some, None}
use Rattle.std.specs.List.{fold, list_all, before_first}
use Rattle.std.specs.Option.{option_map}
use Rattle.tw_lex.specs.declared.token.Mark.{Mark}
use Rattle.tw_lex.specs.declared.token.Mark.TheVariants as marks
use Rattle.tw_lex.specs.declared.token.What.{What}
use Rattle.tw_lex.specs.declared.token.What.TheVariants as whats
use Rattle.tw_lex.specs.Bytes.{is_digit, is_word_start, is_word_byte}

-- the number that decimal digits stand for
abbrev pub decimal_value : List ℕ → ℕ
decimal_value digits = fold (λ n d. 10 * n + (d - 48)) 0 digits

-- digits and nothing else, of a value below 2^64
abbrev pub number_of : List ℕ → Option ℕ
number_of run = if list_all is_digit run && nat_lt (decimal_value run) (2 ^ 64) then Some (decimal_value run) else None

abbrev pub pair_mark : ℕ → ℕ → Option Mark
pair_mark b c =
    if (b == 58) && (c == 61) then Some marks.Becomes else
    (if (b == 60) && (c == 62) then Some marks.Unequal else
    (if (b == 60) && (c == 61) then Some marks.LessEqual else None))

abbrev pub single_mark : ℕ → Option Mark
single_mark b =
    if b == 40 then Some marks.Open else
    (if b == 41 then Some marks.Close else
    (if b == 123 then Some marks.BraceOpen else
    (if b == 125 then Some marks.BraceClose else
    (if b == 44 then Some marks.Comma else
    (if b == 59 then Some marks.Semicolon else
    (if b == 58 then Some marks.Colon else
    (if b == 43 then Some marks.Plus else
    (if b == 45 then Some marks.Minus else
    (if b == 61 then Some marks.Equal else
    (if b == 60 then Some marks.Less else
    (if b == 38 then Some marks.Both else
    (if b == 124 then Some marks.Either else None))))))))))))

abbrev pub or_single : Option Mark → ℕ → Option (What × ℕ)
or_single (Some m) b = Some (whats.Mark m, 2)
or_single None b = option_map (λ m. (whats.Mark m, 1)) (single_mark b)

abbrev pub mark_at : List ℕ → Option (What × ℕ)
mark_at [] = None
mark_at (b ∷ []) = or_single None b
mark_at (b ∷ c ∷ bs) = or_single (pair_mark b c) b

-- the bytes at the front that may stand in a word
abbrev pub word_run : List ℕ → List ℕ
word_run bytes = before_first (λ b. not (is_word_byte b)) bytes

abbrev pub word_at : List ℕ → Option (What × ℕ)
word_at run = if nat_le (length run) 64 then Some (whats.Word run, length run) else None

abbrev pub number_at : List ℕ → Option (What × ℕ)
number_at run = option_map (λ n. (whats.Number n, length run)) (number_of run)

abbrev pub lexeme_after : Option ℕ → List ℕ → Option (What × ℕ)
lexeme_after None bytes = None
lexeme_after (Some b) bytes =
    if is_word_start b then word_at (word_run bytes) else
    (if is_digit b then number_at (word_run bytes) else mark_at bytes)

-- by its first byte
unfoldable pub lexeme : List ℕ → Option (What × ℕ)
lexeme bytes = lexeme_after (slice_get bytes 0) bytes
