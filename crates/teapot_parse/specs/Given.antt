-- The lines of a text give a tree: line by line they spell its forms.
use Rattle.std.specs.Prelude.{◌≡◌, ◌≤◌, ℕ, true, List, [], ◌∷◌, length, map}
use Rattle.std.specs.List.{list_all}
use Rattle.tw_base.specs.Lists.{Each}
use Rattle.tw_lex.specs.declared.token.Line.{Line}
use Rattle.tw_lex.specs.declared.token.Token.{Token}
use Rattle.tw_lex.specs.declared.token.What.{What}
use Rattle.tw_lex.specs.declared.token.What.TheVariants as what
use Rattle.teapot_tree.specs.declared.expr.Expr.{Expr}
use Rattle.teapot_tree.specs.declared.protocol.Protocol.{Protocol}
use Rattle.teapot_tree.specs.Grammar.{is_letter_or_digit, starts_word}
use Rattle.teapot_lines.specs.declared.form.Form.{Form}
use Rattle.teapot_lines.specs.declared.form.Form.TheVariants as f
use Rattle.teapot_lines.specs.Seen.{seen}
use Rattle.teapot_lines.specs.Spelling.{spelling, fits_form}
use Rattle.teapot_parse.specs.Trees.{Lines, lines_of}

-- the tokens of each line are the spelling of the form beside it, at a profile of the language
abbrev pub SpellAll : ℕ → List Line → Lines → Type 0
SpellAll profile [] [] = Unit {0}
SpellAll profile (l ∷ ls) (q ∷ qs) = (l.number ≡ q.0) × (fits_form profile q.1 ≡ true)
    × (map (seen profile) l.tokens ≡ spelling q.1) × SpellAll profile ls qs
SpellAll profile _ _ = ⊥

-- the lines of Begin, End and Else are named by no part of a tree
abbrev pub erased_at : ℕ → Form Expr → ℕ × Form Expr
erased_at line f.Begin = (0, f.Begin)
erased_at line f.End = (0, f.End)
erased_at line f.Else = (0, f.Else)
erased_at line form = (line, form)

abbrev pub erased : ℕ × Form Expr → ℕ × Form Expr
erased q = erased_at q.0 q.1

-- the lines spell forms, and these nest as the tree
abbrev pub IsGiven : List Line → Protocol → Type 0
IsGiven lines p = (qs : Lines) × SpellAll p.profile lines qs × (map erased qs ≡ lines_of p)

-- a word of a text: a letter or `_`, then letters, digits and `_`, at most 64 bytes
abbrev pub IsTextToken : What → Type 0
IsTextToken (what.Word w) = (starts_word w ≡ true) × (list_all is_letter_or_digit w ≡ true) × (length w ≤ 64)
IsTextToken (what.Number n) = Unit {0}
IsTextToken (what.Mark m) = Unit {0}

-- lines as they stand in a text
abbrev pub AreTextLines : List Line → Type 0
AreTextLines lines = Each (λ (l : Line). Each (λ (t : Token). IsTextToken t.what) l.tokens) lines
