-- The canonical text of a protocol.
use Rattle.std.specs.Prelude.{ℕ, zero, suc, ◌+◌, ◌-◌, Bool, true, false, ◌||◌, codes, decimal, List, [], ◌∷◌, ◌++◌}
use Rattle.tw_lex.specs.declared.token.Mark.{Mark}
use Rattle.tw_lex.specs.declared.token.Mark.TheVariants as m
use Rattle.teapot_tree.specs.declared.expr.Expr.{Expr}
use Rattle.teapot_tree.specs.declared.keyword.Keyword.TheVariants as k
use Rattle.teapot_tree.specs.declared.protocol.Protocol.{Protocol}
use Rattle.teapot_tree.specs.Keywords.{spelling_of}
use Rattle.teapot_lines.specs.declared.form.Form.{Form}
use Rattle.teapot_lines.specs.declared.form.Form.TheVariants as f
use Rattle.teapot_lines.specs.Seen.{Seen, Key, Named, Number, Marked}
use Rattle.teapot_lines.specs.Spelling.{spelling}
use Rattle.teapot_parse.specs.Trees.{Lines, lines_of}
use Rattle.teapot_print.specs.declared.printer.Last.{Last}
use Rattle.teapot_print.specs.declared.printer.Last.TheVariants.{Begin, Opening, Word, Other}

abbrev pub mark_bytes : Mark → List ℕ
mark_bytes m.Open = codes "("
mark_bytes m.Close = codes ")"
mark_bytes m.BraceOpen = codes "{"
mark_bytes m.BraceClose = codes "}"
mark_bytes m.Comma = codes ","
mark_bytes m.Semicolon = codes ";"
mark_bytes m.Colon = codes ":"
mark_bytes m.Becomes = codes ":="
mark_bytes m.Plus = codes "+"
mark_bytes m.Minus = codes "-"
mark_bytes m.Equal = codes "="
mark_bytes m.Unequal = codes "<>"
mark_bytes m.Less = codes "<"
mark_bytes m.LessEqual = codes "<="
mark_bytes m.Both = codes "&"
mark_bytes m.Either = codes "|"

-- a number has no leading zeros
abbrev pub token_bytes : Seen → List ℕ
token_bytes (Key key) = spelling_of key
token_bytes (Named w) = w
token_bytes (Number n) = decimal n
token_bytes (Marked mark) = mark_bytes mark

-- what the space behind a token depends on
abbrev pub last_of : Seen → Last
last_of (Key k.If) = Other
last_of (Key key) = Word
last_of (Named w) = Word
last_of (Number n) = Other
last_of (Marked m.Open) = Opening
last_of (Marked m.BraceOpen) = Opening
last_of (Marked mark) = Other

-- no space stands before it
abbrev pub is_tight : Seen → Bool
is_tight (Marked m.Close) = true
is_tight (Marked m.BraceClose) = true
is_tight (Marked m.Comma) = true
is_tight (Marked m.Semicolon) = true
is_tight t = false

abbrev pub is_opening : Seen → Bool
is_opening (Marked m.Open) = true
is_opening (Marked m.BraceOpen) = true
is_opening t = false

abbrev pub space_if_not : Bool → List ℕ
space_if_not true = []
space_if_not false = 32 ∷ []

-- One space stands between two tokens, but none behind `(` or `{`, none before `)`, `}`, `,` or `;`, and none before
-- a `(` or `{` that follows a word other than `If`.
abbrev pub gap : Last → Seen → List ℕ
gap Begin t = []
gap Opening t = []
gap Word t = space_if_not (is_tight t || is_opening t)
gap Other t = space_if_not (is_tight t)

abbrev pub text_after : Last → List Seen → List ℕ
text_after last [] = []
text_after last (t ∷ ts) = gap last t ++ (token_bytes t ++ text_after (last_of t) ts)

abbrev pub spaces : ℕ → List ℕ
spaces zero = []
spaces (suc n) = 32 ∷ 32 ∷ spaces n

-- a line, indented by two spaces for each Begin that is open
abbrev pub line_text : ℕ → Form Expr → List ℕ
line_text begins form = spaces begins ++ (text_after Begin (spelling form) ++ 10 ∷ [])

-- how many Begins are open at a line, of those that were open behind the line before
abbrev pub begins_at : ℕ → Form Expr → ℕ
begins_at begins f.End = begins - 1
begins_at begins form = begins

abbrev pub begins_behind : ℕ → Form Expr → ℕ
begins_behind begins f.Begin = begins + 1
begins_behind begins f.End = begins - 1
begins_behind begins form = begins

abbrev pub lines_text : ℕ → Lines → List ℕ
lines_text begins [] = []
lines_text begins (l ∷ ls) = line_text (begins_at begins l.1) l.1 ++ lines_text (begins_behind begins l.1) ls

unfoldable pub canon : Protocol → List ℕ
canon p = lines_text 0 (lines_of p)
