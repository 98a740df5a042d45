-- What the lines of a protocol's text give: its tree, or the first refusal.
use Rattle.std.specs.Prelude.{ℕ, ◌==◌, Bool, true, false, if◌then◌else◌, List, [], ◌∷◌, map, Option, Some, None, Result, Ok}
use Rattle.std.specs.Prelude.{Err, slice_get}
use Rattle.tw_base.specs.Answers.{◌>>=◌}
use Rattle.tw_lex.specs.declared.token.Line.{Line}
use Rattle.teapot_tree.specs.declared.keyword.Keyword.TheVariants as k
use Rattle.teapot_tree.specs.declared.protocol.Protocol.{Protocol}
use Rattle.teapot_lines.specs.declared.cut.Cut.{Cut}
use Rattle.teapot_lines.specs.declared.form.Form.{Form}
use Rattle.teapot_lines.specs.Seen.{Seen, Key, Named, Number, seen}
use Rattle.teapot_lines.specs.Lines.{form_of}
use Rattle.teapot_parse.specs.declared.build.Head.{Head}
use Rattle.teapot_parse.specs.declared.build.Parts.{Parts}
use Rattle.teapot_parse.specs.declared.count.Many.{Many}
use Rattle.teapot_parse.specs.declared.judge.Judged.{Judged}
use Rattle.teapot_parse.specs.declared.judge.Judged.TheVariants.{Nested, Bad, Missing}
use Rattle.teapot_parse.specs.declared.reading.ParseError.{ParseError}
use Rattle.teapot_parse.specs.declared.reading.ParseError.TheVariants.{BadLine, BadNest, TooMany, Memory}
use Rattle.teapot_parse.specs.declared.placed.Placed.{Placed}
use Rattle.teapot_parse.specs.Nesting.{judged, kinds}
use Rattle.teapot_parse.specs.Counting.{no_counts, first_over}
use Rattle.teapot_parse.specs.Building.{built}

-- the first line is `Protocol NAME 2`
abbrev pub names_two : List Seen → Bool
names_two (Key k.Protocol ∷ Named w ∷ Number n ∷ []) = n == 2
names_two _ = false

abbrev pub names_two_in : List Line → Bool
names_two_in [] = false
names_two_in (l ∷ ls) = names_two (map (seen 1) l.tokens)

-- the profile that the first line names
abbrev pub profile_of : List Line → ℕ
profile_of ls = if names_two_in ls then 2 else 1

abbrev pub or_bad_line : ℕ → Option (Form Cut) → Result (Form Cut) ParseError
or_bad_line line None = Err (BadLine line)
or_bad_line line (Some form) = Ok form

-- the form of each line
unfoldable pub forms_read : ℕ → List Line → Result (List Placed) ParseError
forms_read profile [] = Ok []
forms_read profile (l ∷ ls) = do
  form ← or_bad_line l.number (form_of profile (map (seen profile) l.tokens))
  forms ← forms_read profile ls
  Ok (record { line = l.number; form = form } ∷ forms)

-- the number of the line at a place, or that after them all
abbrev pub line_or : ℕ → Option Placed → ℕ
line_or after None = after
line_or after (Some p) = p.line

abbrev pub nests_if : Judged → List Placed → ℕ → Result (Unit {0}) ParseError
nests_if Nested forms after = Ok tt
nests_if (Bad at) forms after = Err (BadNest (line_or after (slice_get forms at)))
nests_if Missing forms after = Err (BadNest after)

abbrev pub nests : List Placed → ℕ → Result (Unit {0}) ParseError
nests forms after = nests_if (judged (kinds forms)) forms after

abbrev pub within_if : Option (Many × ℕ) → Result (Unit {0}) ParseError
within_if None = Ok tt
within_if (Some over) = Err (TooMany over.0 over.1)

abbrev pub within : List Placed → Result (Unit {0}) ParseError
within forms = within_if (first_over no_counts forms)

abbrev pub whole_if : Option Head → Parts → ℕ → Result Protocol ParseError
whole_if None parts after = Err (BadNest after)
whole_if (Some head) parts after = Ok (record {
  name = head.name;
  profile = head.profile;
  line = head.line;
  messages = parts.messages;
  infos = parts.infos;
  starts = parts.starts;
  states = parts.states;
})

abbrev pub whole : Parts → ℕ → Result Protocol ParseError
whole parts after = whole_if parts.head parts after

unfoldable pub parsed : List Line → ℕ → Result Protocol ParseError
parsed lines after = do
  forms ← forms_read (profile_of lines) lines
  nested ← nests forms after
  few ← within forms
  whole (built forms) after

-- want of memory, which no text determines
abbrev pub is_memory : ParseError → Bool
is_memory Memory = true
is_memory (BadLine line) = false
is_memory (BadNest line) = false
is_memory (TooMany what line) = false
