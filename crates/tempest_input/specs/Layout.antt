-- The layout of a text: the lines of the header, the sections of programs, the protocol, and what ends it.
use Rattle.std.specs.Prelude.{◌≡◌, ℕ, zero, suc, ◌+◌, ◌==◌, if◌then◌else◌, Bool, true, false, List, [], ◌∷◌, length, Option}
use Rattle.std.specs.Prelude.{Some, None, Result, Ok, Err}
use Rattle.tw_base.specs.Answers.{◌>>=◌, Fails}
use Rattle.tw_lex.specs.declared.token.Line.{Line}
use Rattle.tempest_input.specs.declared.head.Head.{Head}
use Rattle.tempest_input.specs.declared.head.Head.TheVariants as heads
use Rattle.tempest_input.specs.declared.head.Field.{Field}
use Rattle.tempest_input.specs.declared.head.Field.TheVariants.{Version, Nodes, Words, Blocks, Budget}
use Rattle.tempest_input.specs.declared.layout.Numbered.{Numbered}
use Rattle.tempest_input.specs.declared.layout.Init.{Init}
use Rattle.tempest_input.specs.declared.layout.Body.{Body}
use Rattle.tempest_input.specs.declared.layout.Section.{Section}
use Rattle.tempest_input.specs.declared.layout.Choice.{Choice}
use Rattle.tempest_input.specs.declared.layout.Choice.TheVariants as choices
use Rattle.tempest_input.specs.declared.layout.Ending.{Ending}
use Rattle.tempest_input.specs.declared.layout.Ending.TheVariants as endings
use Rattle.tempest_input.specs.declared.layout.Layout.{Layout}
use Rattle.tempest_input.specs.declared.error.InputError.{InputError}
use Rattle.tempest_input.specs.declared.error.InputError.TheVariants.{Refused, Memory}
use Rattle.tempest_input.specs.declared.error.Why.TheVariants.{BadLine}
use Rattle.tempest_input.specs.Heads.{head_of}

-- want of memory, which no text determines
abbrev pub is_memory : InputError → Bool
is_memory Memory = true
is_memory (Refused line why) = false

-- A step over the lines that are left: its answer, with what it leaves, is the one that is due.
abbrev pub Steps : {X : Type 0} → Result X InputError → List Line → Result (X × List Line) InputError → Type 0
Steps (Ok x) rest due = due ≡ Ok (x, rest)
Steps (Err e) rest due = Fails is_memory e due

-- the next line, which does not fit; where none is left, the one after the last of all
abbrev pub misfit : ℕ → List Line → InputError
misfit all [] = Refused (all + 1) BadLine
misfit all (l ∷ ls) = Refused l.number BadLine

abbrev pub peeked : List Line → Option (ℕ × Head)
peeked [] = None
peeked (l ∷ ls) = Some (l.number, head_of l.tokens)

abbrev pub is_end : Head → Bool
is_end heads.End = true
is_end _ = false

abbrev pub is_report : Head → Bool
is_report heads.Report = true
is_report _ = false

-- ---- one field

abbrev pub is_field : Field → Field → Bool
is_field Version Version = true
is_field Nodes Nodes = true
is_field Words Words = true
is_field Blocks Blocks = true
is_field Budget Budget = true
is_field _ _ = false

abbrev pub number_in : Field → Head → Option ℕ
number_in wanted (heads.Number field n) = if is_field field wanted then Some n else None
number_in wanted _ = None

abbrev pub field_as : Option ℕ → ℕ → Line → List Line → Result (Numbered × List Line) InputError
field_as (Some n) all l ls = Ok (record { line = l.number; value = n }, ls)
field_as None all l ls = Err (misfit all (l ∷ ls))

-- the next line is this field
unfoldable pub field_in : Field → ℕ → List Line → Result (Numbered × List Line) InputError
field_in field all [] = Err (misfit all [])
field_in field all (l ∷ ls) = field_as (number_in field (head_of l.tokens)) all l ls

abbrev pub budget_as : Option ℕ → Line → List Line → Option Numbered × List Line
budget_as (Some n) l ls = (Some (record { line = l.number; value = n }), ls)
budget_as None l ls = (None, l ∷ ls)

-- the next line may be the budget
unfoldable pub budget_in : List Line → Option Numbered × List Line
budget_in [] = (None, [])
budget_in (l ∷ ls) = budget_as (number_in Budget (head_of l.tokens)) l ls

-- ---- words at the start

abbrev pub init_in : ℕ → Head → Option Init
init_in line (heads.Init address value) = Some (record { line = line; address = address; value = value })
init_in line _ = None

abbrev pub next_as : Option Init → Line → List Line → Option Init × List Line
next_as (Some i) l ls = (Some i, ls)
next_as None l ls = (None, l ∷ ls)

-- the next line may be one of these
abbrev pub next_init : List Line → Option Init × List Line
next_init [] = (None, [])
next_init (l ∷ ls) = next_as (init_in l.number (head_of l.tokens)) l ls

abbrev pub with_init : Option Init → Line → List Line → List Init × List Line → List Init × List Line
with_init (Some i) l ls rest = (i ∷ rest.0, rest.1)
with_init None l ls rest = ([], l ∷ ls)

-- the lines of words at the start, as many as come
unfoldable pub inits_in : List Line → List Init × List Line
inits_in [] = ([], [])
inits_in (l ∷ ls) = with_init (init_in l.number (head_of l.tokens)) l ls (inits_in ls)

-- ---- sections

-- a line before the others of a section
abbrev pub with_line : Line → Body × List Line → Body × List Line
with_line l b = (record { lines = l ∷ b.0.lines; end = b.0.end }, b.1)

abbrev pub body_as : Bool → Line → List Line → Result (Body × List Line) InputError → Result (Body × List Line) InputError
body_as true l ls rest = Ok (record { lines = []; end = l.number }, ls)
body_as false l ls rest = rest >>= λ b. Ok (with_line l b)

-- the lines up to the first that is `end` alone, the number of that one, and the lines after it
unfoldable pub body_in : ℕ → List Line → Result (Body × List Line) InputError
body_in all [] = Err (misfit all [])
body_in all (l ∷ ls) = body_as (is_end (head_of l.tokens)) l ls (body_in all ls)

abbrev pub node_in : Head → Option ℕ
node_in (heads.Program n) = Some n
node_in _ = None

abbrev pub next_node : List Line → Option ℕ
next_node [] = None
next_node (l ∷ ls) = node_in (head_of l.tokens)

abbrev pub number_of_next : List Line → ℕ
number_of_next [] = 0
number_of_next (l ∷ ls) = l.number

abbrev pub behind : List Line → List Line
behind [] = []
behind (l ∷ ls) = ls

-- a section that begins at a line
abbrev pub section_in : ℕ → ℕ → List Line → Result (Section × List Line) InputError
section_in node all lines = body_in all (behind lines) >>= λ b. Ok
    (record { line = number_of_next lines; node = node; body = b.0 }, b.1)

-- a section and those after it
abbrev pub sections_as : Option ℕ → ℕ → List Line → (List Line → Result (List Section × List Line) InputError) →
    Result (List Section × List Line) InputError
sections_as None all lines later = Ok ([], lines)
sections_as (Some node) all lines later = section_in node all lines >>= λ s. later s.1 >>= λ r. Ok (s.0 ∷ r.0, r.1)

-- the sections of programs, at most as many
unfoldable pub sections_below : ℕ → ℕ → List Line → Result (List Section × List Line) InputError
sections_below zero all lines = Ok ([], lines)
sections_below (suc most) all lines = sections_as (next_node lines) all lines (λ rest. sections_below most all rest)

-- as many as come; each has a line of its own
abbrev pub sections_in : ℕ → List Line → Result (List Section × List Line) InputError
sections_in all lines = sections_below (length lines) all lines

-- ---- the protocol

-- `shipped` is a line of version 2 alone
abbrev pub choice_as : ℕ → ℕ → Head → Line → List Line → Result (Choice × List Line) InputError
choice_as version all heads.Protocol l ls = body_in all ls >>= λ b. Ok (choices.Own l.number b.0, b.1)
choice_as version all (heads.Shipped which) l ls = if version == 2 then Ok (choices.Shipped l.number which, ls)
    else Ok (choices.Default, l ∷ ls)
choice_as version all _ l ls = Ok (choices.Default, l ∷ ls)

-- the next lines choose the protocol, where they are such lines
unfoldable pub choice_in : ℕ → ℕ → List Line → Result (Choice × List Line) InputError
choice_in version all [] = Ok (choices.Default, [])
choice_in version all (l ∷ ls) = choice_as version all (head_of l.tokens) l ls

-- ---- the end

-- no line is left, or the next is the line `report`
abbrev pub ends_so : Ending → List Line → Bool
ends_so endings.Text [] = true
ends_so endings.Text (l ∷ ls) = false
ends_so endings.Report [] = false
ends_so endings.Report (l ∷ ls) = is_report (head_of l.tokens)

-- the lines of the report, of which a missing one would stand after the last of all
unfoldable pub ending_in : Ending → ℕ → List Line → Result Body InputError
ending_in ending all lines = if ends_so ending lines then Ok (record { lines = behind lines; end = all + 1 })
    else Err (misfit all lines)

-- ---- the whole

-- what the lines are, up to their end or up to a report, and the lines of the report
unfoldable pub laid_out : Ending → ℕ → List Line → Result (Layout × Body) InputError
laid_out ending all lines =
    field_in Version all lines >>= λ version.
    field_in Nodes all version.1 >>= λ nodes.
    field_in Words all nodes.1 >>= λ words.
    field_in Blocks all words.1 >>= λ blocks.
    sections_in all (inits_in (budget_in blocks.1).1).1 >>= λ sections.
    choice_in version.0.value all sections.1 >>= λ choice.
    ending_in ending all choice.1 >>= λ report.
    Ok (
      record {
        version = version.0;
        nodes = nodes.0;
        words = words.0;
        blocks = blocks.0;
        budget = (budget_in blocks.1).0;
        inits = (inits_in (budget_in blocks.1).1).0;
        programs = sections.0;
        protocol = choice.0;
      },
      report,
    )
