-- What the tokens of a text are, in the words of a reader: slices of the text in order, each as long as can be, with
-- nothing but blanks between them.
use Rattle.std.specs.Prelude.{◌≡◌, ℕ, ◌+◌, ◌<◌, ◌≤◌, ◌==◌, ◌||◌, ◌⊎◌, not, Bool, true, false, List, [], ◌∷◌, None, Some, Ok}
use Rattle.std.specs.Prelude.{Err, is_some, slice_get, slice_range, length, take, drop, codes}
use Rattle.std.specs.List.{list_all, list_any}
use Rattle.tw_base.specs.Lists.{how_many, one_if}
use Rattle.tw_lex.specs.declared.token.Token.{Token}
use Rattle.tw_lex.specs.declared.token.What.{What}
use Rattle.tw_lex.specs.declared.token.What.TheVariants.{Word, Number, Mark as AMark}
use Rattle.tw_lex.specs.declared.token.Mark.{Mark}
use Rattle.tw_lex.specs.declared.token.Mark.TheVariants.{Open, Close, BraceOpen, BraceClose, Comma, Semicolon, Colon, Becomes}
use Rattle.tw_lex.specs.declared.token.Mark.TheVariants.{Plus, Minus, Equal, Unequal, Less, LessEqual, Both, Either}
use Rattle.tw_lex.specs.declared.token.Line.{Line}
use Rattle.tw_lex.specs.declared.token.Lexed.{Lexed}
use Rattle.tw_lex.specs.declared.token.LexError.{LexError}
use Rattle.tw_lex.specs.declared.token.LexError.TheVariants.{NotAscii, BadToken}
use Rattle.tw_lex.specs.Bytes.{is_line_feed, is_blank, is_digit, is_word_start, is_word_byte, is_allowed, code_of}
use Rattle.tw_lex.specs.Lexemes.{decimal_value, pair_mark}
use Rattle.tw_lex.specs.Lines.{tokens_from, tokens_of, line_tokens, lines_of, lexed}

abbrev pub spelling : Mark → List ℕ
spelling Open = codes "("
spelling Close = codes ")"
spelling BraceOpen = codes "{"
spelling BraceClose = codes "}"
spelling Comma = codes ","
spelling Semicolon = codes ";"
spelling Colon = codes ":"
spelling Becomes = codes ":="
spelling Plus = codes "+"
spelling Minus = codes "-"
spelling Equal = codes "="
spelling Unequal = codes "<>"
spelling Less = codes "<"
spelling LessEqual = codes "<="
spelling Both = codes "&"
spelling Either = codes "|"

-- the first byte is a letter or `_`
abbrev pub BeginsWord : List ℕ → Type 0
BeginsWord [] = ⊥
BeginsWord (b ∷ rest) = is_word_start b ≡ true

-- these are a token's bytes
abbrev pub IsSpelled : What → List ℕ → Type 0
IsSpelled (Word name) bytes = (bytes ≡ name) × BeginsWord bytes × (list_all is_word_byte bytes ≡ true)
IsSpelled (Number n) bytes = (decimal_value bytes ≡ n) × (list_all is_digit bytes ≡ true)
IsSpelled (AMark mark) bytes = bytes ≡ spelling mark

-- whether a byte behind a mark makes a longer one
abbrev pub is_longer : List ℕ → ℕ → Bool
is_longer [] c = false
is_longer (b ∷ []) c = is_some (pair_mark b c)
is_longer (b ∷ d ∷ bs) c = false

-- whether a byte behind a token would belong to it
abbrev pub extends : What → ℕ → Bool
extends (Word name) b = is_word_byte b
extends (Number n) b = is_word_byte b
extends (AMark mark) b = is_longer (spelling mark) b

-- the bytes behind a token do not go on with it
abbrev pub Ends : What → List ℕ → Type 0
Ends what [] = Unit {0}
Ends what (b ∷ rest) = extends what b ≡ false

-- a token in the code from one place of a text to another, the first there
pub record Stands (text : List ℕ) (from to : ℕ) (t : Token) : Type 0 where
  pub after : from ≤ t.start
  pub some : t.start < t.end
  pub within : t.end ≤ to
  pub gap : list_all is_blank (slice_range text from t.start) ≡ true
  pub bytes : IsSpelled t.what (slice_range text t.start t.end)
  pub longest : Ends t.what (slice_range text t.end to)

-- the tokens follow each other in the code from one place of a text to another, and nothing but blanks is left
abbrev pub InOrder : List ℕ → ℕ → ℕ → List Token → Type 0
InOrder text from to [] = list_all is_blank (slice_range text from to) ≡ true
InOrder text from to (t ∷ ts) = Stands text from to t × InOrder text t.end to ts

-- The tokens of code, from one place of a text to another, are slices of the text in order.
abbrev pub TokensAreSlices : Type 0
TokensAreSlices =
    (text : List ℕ) (number from to : ℕ) (ts : List Token) → from ≤ to → to ≤ length text
    → tokens_of number from (slice_range text from to) ≡ Ok ts → InOrder text from to ts

-- ---- lines

-- a line feed or a comment
abbrev pub ends_code : ℕ → Bool
ends_code b = is_line_feed b || (b == 35)

abbrev pub BeginWithEnd : List ℕ → Type 0
BeginWithEnd [] = Unit {0}
BeginWithEnd (b ∷ rest) = ends_code b ≡ true

abbrev pub BeginWithFeed : List ℕ → Type 0
BeginWithFeed [] = ⊥
BeginWithFeed (b ∷ rest) = is_line_feed b ≡ true

-- how many line feeds there are
abbrev pub feeds : List ℕ → ℕ
feeds bytes = how_many (λ b. one_if (is_line_feed b)) bytes

-- a line begins there: the text does, or a line feed stands before it
abbrev pub Begins : List ℕ → ℕ → Type 0
Begins text from = (from ≡ 0) ⊎ ((before : ℕ) × (from ≡ before + 1) × BeginWithFeed (drop before text))

-- The code of a line: from where the line begins up to a comment, a line feed or the text's end. Lines are numbered
-- from 1, by the line feeds before them.
pub record IsCode (text : List ℕ) (number from to : ℕ) : Type 0 where
  pub begins : Begins text from
  pub count : feeds (take from text) + 1 ≡ number
  pub ordered : from ≤ to
  pub within : to ≤ length text
  pub inside : list_all (λ b. not (ends_code b)) (slice_range text from to) ≡ true
  pub behind : BeginWithEnd (drop to text)

abbrev pub IsLine : List ℕ → Line → Type 0
IsLine text line = (from : ℕ) × (to : ℕ) × IsCode text line.number from to × InOrder text from to line.tokens

-- lines of a text that have tokens, with rising numbers, the first of them this or more
abbrev pub Rise : List ℕ → ℕ → List Line → Type 0
Rise text number [] = Unit {0}
Rise text number (line ∷ rest) = (number ≤ line.number) × (0 < length line.tokens) × IsLine text line
    × Rise text (line.number + 1) rest

-- whether there is a line of this number
abbrev pub is_listed : ℕ → List Line → Bool
is_listed number found = list_any (λ line. line.number == number) found

-- The lines that are found are lines of the text that have tokens, each with its number and the tokens of its code, in
-- rising order.
abbrev pub LinesAreTheTexts : Type 0
LinesAreTheTexts = (text : List ℕ) (found : Lexed) → lexed text ≡ Ok found → Rise text 1 found.list

-- No line is left out: where the code of a line of the text is more than blanks, the line is there.
abbrev pub NoLineIsLeftOut : Type 0
NoLineIsLeftOut =
    (text : List ℕ) (found : Lexed) → lexed text ≡ Ok found → (before : ℕ) (line : List ℕ) →
    slice_get (lines_of text) before ≡ Some line
    → list_all is_blank (code_of line) ≡ false → is_listed (before + 1) found.list ≡ true

-- ---- faults

-- why a line has no tokens: a byte that may stand only in a comment, and else bytes that are no token
abbrev pub IsFaultOf : ℕ → ℕ → List ℕ → LexError → Type 0
IsFaultOf number start line e =
    ((e ≡ NotAscii number) × (list_all is_allowed (code_of line) ≡ false))
    ⊎ ((e ≡ BadToken number) × (list_all is_allowed (code_of line) ≡ true) × (tokens_from 0 start (code_of line) ≡ None))

-- the fault of the first line that has one, each line before it with its tokens; the first begins at a place in the text
abbrev pub IsFirstFault : ℕ → ℕ → List (List ℕ) → LexError → Type 0
IsFirstFault number start [] e = ⊥
IsFirstFault number start (line ∷ rest) e =
    IsFaultOf number start line e ⊎ (((ts : List Token) × (line_tokens number start line ≡ Ok ts))
    × IsFirstFault (number + 1) (start + length line + 1) rest e)

-- A fault of a text is that of its first line with a fault.
abbrev pub FaultsAreFirst : Type 0
FaultsAreFirst = (text : List ℕ) (e : LexError) → lexed text ≡ Err e → IsFirstFault 1 0 (lines_of text) e
