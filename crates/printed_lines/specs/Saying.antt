-- Whether a line says what it should.
use Rattle.std.specs.Prelude.{◌==◌, ◌&&◌, if◌then◌else◌, Bool, true, false, List, [], ◌∷◌, Option, Some, None}
use Rattle.std.specs.Str.{bytes_eq}
use Rattle.tw_lex.specs.declared.token.What.{What}
use Rattle.tw_lex.specs.declared.token.What.TheVariants as whats
use Rattle.printed_lines.specs.declared.said.Said.{Said}
use Rattle.printed_lines.specs.declared.said.Said.TheVariants.{Word, Number}

-- what is to be said, as a token
abbrev pub meant : Said → What
meant (Word word) = whats.Word word.now
meant (Number n) = whats.Number n

-- the same word, or the same number; no line of a report has a mark
abbrev pub same_what : What → What → Bool
same_what (whats.Word due) (whats.Word word) = bytes_eq word due
same_what (whats.Number due) (whats.Number n) = n == due
same_what (whats.Word due) (whats.Number n) = false
same_what (whats.Word due) (whats.Mark m) = false
same_what (whats.Number due) (whats.Word word) = false
same_what (whats.Number due) (whats.Mark m) = false
same_what (whats.Mark due) what = false

-- these tokens are the ones that are due
unfoldable pub says : List What → List What → Bool
says [] [] = true
says [] (t ∷ ts) = false
says (d ∷ ds) [] = false
says (d ∷ ds) (t ∷ ts) = same_what d t && says ds ts

-- what stands behind the tokens that are due, where they stand at the front
unfoldable pub past : List What → List What → Option (List What)
past [] ts = Some ts
past (d ∷ ds) [] = None
past (d ∷ ds) (t ∷ ts) = if same_what d t then past ds ts else None
