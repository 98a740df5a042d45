-- The lines of a report in their order, or the first that is at fault.
use Rattle.std.specs.Prelude.{ℕ, ◌+◌, ◌==◌, ◌||◌, if◌then◌else◌, Bool, true, false, List, [], ◌∷◌, map, take, drop, Option}
use Rattle.std.specs.Prelude.{Some, None, Result, Ok, Err}
use Rattle.std.specs.List.{list_any}
use Rattle.tw_base.specs.Answers.{◌>>=◌}
use Rattle.tw_base.specs.Shape.{Sizes}
use Rattle.tw_lex.specs.declared.token.Line.{Line}
use Rattle.tw_lex.specs.declared.token.Token.{Token}
use Rattle.mini_asm.specs.Spelling.{number_at}
use Rattle.report_reader.specs.declared.error.AuditError.{AuditError}
use Rattle.report_reader.specs.declared.error.AuditError.TheVariants.{Denied, Memory}
use Rattle.report_reader.specs.declared.error.AuditRule.TheVariants.{BadLine, BadNumber}
use Rattle.report_reader.specs.declared.kind.LineKind.{LineKind}
use Rattle.report_reader.specs.declared.kind.LineKind.TheVariants as kinds
use Rattle.report_reader.specs.declared.lines.Printed.{Printed}
use Rattle.report_reader.specs.declared.lines.PrintedLine.{PrintedLine}
use Rattle.report_reader.specs.Slots.{fits}
use Rattle.report_reader.specs.Forms.{head_form, is_line}

-- want of memory, which no text determines
abbrev pub is_memory : AuditError → Bool
is_memory Memory = true
is_memory (Denied line rule) = false

-- the next line does not fit; where none is left, it is the one after the last
abbrev pub misfit : ℕ → List Line → AuditError
misfit after [] = Denied after BadLine
misfit after (l ∷ ls) = Denied l.number BadLine

-- ---- lines of some kinds, as many as come

abbrev pub event_kinds : List LineKind
event_kinds = kinds.Completed ∷ kinds.Fault ∷ kinds.Redelivered ∷ kinds.Delivered ∷ []

abbrev pub is_of : Sizes → List LineKind → ℕ → List Token → Bool
is_of shape wanted before ts = list_any (λ kind. is_line shape kind before ts) wanted

-- how many lines at the front are of these kinds, where so many stand before
unfoldable pub stretch : Sizes → List LineKind → ℕ → List Line → ℕ
stretch shape wanted before [] = 0
stretch shape wanted before (l ∷ ls) = if is_of shape wanted before l.tokens then 1 + stretch shape wanted (before + 1) ls else 0

-- those lines, and the ones behind them
abbrev pub front : Sizes → List LineKind → List Line → List Line
front shape wanted lines = take (stretch shape wanted 0 lines) lines

abbrev pub behind : Sizes → List LineKind → List Line → List Line
behind shape wanted lines = drop (stretch shape wanted 0 lines) lines

-- ---- lines that have to be there

abbrev pub past_if : Bool → ℕ → List Line → List Line → Result (List Line) AuditError
past_if true after lines rest = Ok rest
past_if false after lines rest = Err (misfit after lines)

-- behind the first line of a report
unfoldable pub past_head : ℕ → Sizes → ℕ → List Line → Result (List Line) AuditError
past_head version shape after [] = Err (misfit after [])
past_head version shape after (l ∷ ls) = past_if (fits shape 0 (head_form version shape) l.tokens) after (l ∷ ls) ls

-- behind a line of each node
unfoldable pub past_nodes : Sizes → ℕ → List Line → Result (List Line) AuditError
past_nodes shape after lines =
    let rest = behind shape (kinds.Node ∷ []) lines in
    past_if (stretch shape (kinds.Node ∷ []) 0 lines == shape.nodes) after rest rest

-- behind the counts of each node, or of none
unfoldable pub past_counts : Sizes → ℕ → List Line → Result (List Line) AuditError
past_counts shape after lines =
    let n = stretch shape (kinds.Counts ∷ []) 0 lines in
    let rest = drop n lines in
    past_if ((n == 0) || (n == shape.nodes)) after rest rest

-- nothing is left behind the line `end`
abbrev pub at_end : Line → ℕ → List Line → Result Line AuditError
at_end history after [] = Ok history
at_end history after (l ∷ ls) = Err (misfit after (l ∷ ls))

abbrev pub ended_if : Bool → Line → ℕ → Line → List Line → Result Line AuditError
ended_if true history after l ls = at_end history after ls
ended_if false history after l ls = Err (misfit after (l ∷ ls))

abbrev pub with_end : Sizes → Line → ℕ → List Line → Result Line AuditError
with_end shape history after [] = Err (misfit after [])
with_end shape history after (l ∷ ls) = ended_if (is_line shape kinds.End 0 l.tokens) history after l ls

abbrev pub told_if : Bool → Sizes → ℕ → Line → List Line → Result Line AuditError
told_if true shape after l ls = with_end shape l after ls
told_if false shape after l ls = Err (misfit after (l ∷ ls))

-- the last two lines, of the history and `end`: the first of them
unfoldable pub history_in : Sizes → ℕ → List Line → Result Line AuditError
history_in shape after [] = Err (misfit after [])
history_in shape after (l ∷ ls) = told_if (is_line shape kinds.History 0 l.tokens) shape after l ls

-- ---- numbers of events

abbrev pub is_number : ℕ → Option ℕ → Bool
is_number k None = false
is_number k (Some n) = n == k

-- How many events there are, numbered from k on in order; or the first whose number is not its place.
unfoldable pub numbered : ℕ → List Line → Result ℕ AuditError
numbered k [] = Ok k
numbered k (l ∷ ls) = if is_number k (number_at l.tokens 1) then numbered (k + 1) ls else Err (Denied l.number BadNumber)

-- ---- the whole

abbrev pub printed_line : Line → PrintedLine
printed_line l = record { line = l.number; tokens = l.tokens }

abbrev pub printed : List Line → List PrintedLine
printed lines = map printed_line lines

-- the report of these lines
abbrev pub report_with : List Line → List Line → List Line → List Line → List Line → Line → Printed
report_with prints words registers nodes events history = record {
  prints = printed prints;
  words = printed words;
  registers = printed registers;
  nodes = printed nodes;
  events = printed events;
  history = printed_line history;
}

-- The lines behind the first: the prints, the words, the registers, the nodes, their counts, the events, the history, and
-- `end`. A line that is at fault is denied first, and then events that are not numbered in order.
unfoldable pub told_in : Sizes → ℕ → List Line → Result Printed AuditError
told_in shape after prints =
    let words = behind shape (kinds.Print ∷ []) prints in
    let registers = behind shape (kinds.Word ∷ []) words in
    let nodes = behind shape (kinds.Register ∷ []) registers in
    past_nodes shape after nodes >>= λ counts.
    past_counts shape after counts >>= λ events.
    history_in shape after (behind shape event_kinds events) >>= λ history.
    numbered 0 (front shape event_kinds events) >>= λ count.
    Ok (report_with (front shape (kinds.Print ∷ []) prints) (front shape (kinds.Word ∷ []) words)
    (front shape (kinds.Register ∷ []) registers)
    (front shape (kinds.Node ∷ []) nodes) (front shape event_kinds events) history)

-- the lines of a report, of a machine of this version and shape
unfoldable pub read_in : ℕ → Sizes → ℕ → List Line → Result Printed AuditError
read_in version shape after lines = past_head version shape after lines >>= λ rest. told_in shape after rest
