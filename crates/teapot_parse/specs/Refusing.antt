-- What an answer says of the lines: each kind of answer has its own meaning.
use Rattle.std.specs.Prelude.{◌≡◌, ◌⊎◌, ℕ, ◌+◌, true, List, [], ◌∷◌, ◌++◌, fold, map, take, slice_get, Option, Some, None}
use Rattle.tw_lex.specs.declared.token.Line.{Line}
use Rattle.teapot_tree.specs.declared.expr.Expr.{Expr}
use Rattle.teapot_lines.specs.declared.form.Form.{Form}
use Rattle.teapot_lines.specs.Seen.{Seen, seen}
use Rattle.teapot_lines.specs.Spelling.{spelling, fits_form, cut_form}
use Rattle.teapot_parse.specs.declared.judge.Kind.{Kind}
use Rattle.teapot_parse.specs.declared.placed.Placed.{Placed}
use Rattle.teapot_parse.specs.declared.reading.ParseError.{ParseError}
use Rattle.teapot_parse.specs.declared.reading.ParseError.TheVariants.{BadLine, BadNest, TooMany, Memory}
use Rattle.teapot_parse.specs.declared.count.Counts.{Counts}
use Rattle.teapot_parse.specs.declared.count.Many.{Many}
use Rattle.teapot_parse.specs.Counting.{no_counts, counted, over}
use Rattle.teapot_parse.specs.Given.{SpellAll}
use Rattle.teapot_parse.specs.Nesting.{kind_of}
use Rattle.teapot_parse.specs.Parsing.{profile_of}
use Rattle.teapot_parse.specs.Shapes.{IsNested, CanGoOn}
use Rattle.teapot_parse.specs.Trees.{Lines}

abbrev pub HasForm : ℕ → List Seen → Type 0
HasForm profile ts = (x : Form Expr) × (fits_form profile x ≡ true) × (ts ≡ spelling x)

-- the number of the first line of no form
abbrev pub IsFirstOfNoForm : ℕ → List Line → ℕ → Type 0
IsFirstOfNoForm profile [] n = ⊥
IsFirstOfNoForm profile (l ∷ ls) n =
    ((HasForm profile (map (seen profile) l.tokens) → ⊥) × (l.number ≡ n))
    ⊎ (HasForm profile (map (seen profile) l.tokens) × IsFirstOfNoForm profile ls n)

abbrev pub cut_line : ℕ × Form Expr → Placed
cut_line q = record { line = q.0; form = cut_form q.1 }

abbrev pub kinds_of : Lines → List Kind
kinds_of qs = map (λ (q : ℕ × Form Expr). kind_of (cut_form q.1)) qs

abbrev pub line_at : ℕ → Option (ℕ × Form Expr) → ℕ
line_at after None = after
line_at after (Some q) = q.0

-- the number of the first line up to which the lines are the front of no list that nests, or that behind them all where only
-- the end is missing
abbrev pub IsBadNest : Lines → ℕ → ℕ → Type 0
IsBadNest qs after n =
    ((at : ℕ) × CanGoOn (take at (kinds_of qs)) × (CanGoOn (take (at + 1) (kinds_of qs)) → ⊥)
    × (n ≡ line_at after (slice_get qs at)))
    ⊎ (CanGoOn (kinds_of qs) × (IsNested (kinds_of qs) → ⊥) × (n ≡ after))

-- the counts with one line more
abbrev pub counts_with : Counts → ℕ × Form Expr → Counts
counts_with c q = counted c (cut_form q.1)

-- how many there are of each kind up to the end of these lines
abbrev pub counts_to : Lines → Counts
counts_to qs = fold counts_with no_counts qs

-- the first limit that a line passes behind these lines
abbrev pub passed_at : Lines → ℕ × Form Expr → Option Many
passed_at before q = over (counts_with (counts_to before) q) (cut_form q.1)

-- the line of this number passes the limit, and no line before it passes any
pub record IsFirstOver (qs : Lines) (what : Many) (n : ℕ) : Type 0 where
  pub before : Lines
  pub line : ℕ × Form Expr
  pub behind : Lines
  pub whole : qs ≡ before ++ line ∷ behind
  pub number : line.0 ≡ n
  pub passes : passed_at before line ≡ Some what
  pub earlier : (front : Lines) (q : ℕ × Form Expr) (more : Lines) → before ≡ front ++ q ∷ more → passed_at front q ≡ None

-- what an error says of the lines
abbrev pub Refuses : List Line → ℕ → ParseError → Type 0
Refuses lines after (BadLine n) = IsFirstOfNoForm (profile_of lines) lines n
Refuses lines after (BadNest n) = (qs : Lines) × SpellAll (profile_of lines) lines qs × IsBadNest qs after n
Refuses lines after (TooMany what n) = (qs : Lines) × SpellAll (profile_of lines) lines qs × IsNested (kinds_of qs)
    × IsFirstOver qs what n
Refuses lines after Memory = ⊥
