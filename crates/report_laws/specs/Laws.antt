-- The lines of a report in the order of their kinds.
use Rattle.std.specs.Prelude.{◌≡◌, ◌⊎◌, ℕ, ◌+◌, true, List, [], ◌∷◌, ◌++◌, length, Ok}
use Rattle.tw_base.specs.Shape.{Sizes}
use Rattle.tw_lex.specs.declared.token.Line.{Line}
use Rattle.report_reader.specs.declared.kind.LineKind.{LineKind}
use Rattle.report_reader.specs.declared.kind.LineKind.TheVariants as kinds
use Rattle.report_reader.specs.Slots.{fits}
use Rattle.report_reader.specs.Forms.{head_form, is_line}
use Rattle.report_reader.specs.Reading.{event_kinds, is_of, numbered, read_in, report_with}

-- lines of these kinds, where so many stand before
abbrev pub AreOf : Sizes → List LineKind → ℕ → List Line → Type 0
AreOf shape wanted before [] = Unit {0}
AreOf shape wanted before (l ∷ ls) = (is_of shape wanted before l.tokens ≡ true) × AreOf shape wanted (before + 1) ls

-- the first line, prints, words, registers, a line of each node, counts of each node or of none, events that are numbered from
-- 0 in order, the history, and `end`
pub record IsLaidOut (version : ℕ) (shape : Sizes) (lines prints words registers nodes counts events : List Line)
    (history : Line) : Type 0 where
  pub head : Line
  pub ending : Line
  pub in_order : lines ≡ head ∷ (prints ++ (words ++ (registers ++ (nodes ++ (counts ++ (events ++ (history ∷ ending ∷ [])))))))
  pub head_is : fits shape 0 (head_form version shape) head.tokens ≡ true
  pub prints_are : AreOf shape (kinds.Print ∷ []) 0 prints
  pub words_are : AreOf shape (kinds.Word ∷ []) 0 words
  pub registers_are : AreOf shape (kinds.Register ∷ []) 0 registers
  pub nodes_are : AreOf shape (kinds.Node ∷ []) 0 nodes
  pub each_node : length nodes ≡ shape.nodes
  pub counts_are : AreOf shape (kinds.Counts ∷ []) 0 counts
  pub each_or_none : (length counts ≡ 0) ⊎ (length counts ≡ shape.nodes)
  pub events_are : AreOf shape event_kinds 0 events
  pub numbers : numbered 0 events ≡ Ok (length events)
  pub history_is : is_line shape kinds.History 0 history.tokens ≡ true
  pub ending_is : is_line shape kinds.End 0 ending.tokens ≡ true

abbrev pub LaidOutReportsAreRead : Type 0
LaidOutReportsAreRead =
    (version : ℕ) (shape : Sizes) (after : ℕ) (lines prints words registers nodes counts events : List Line) (history : Line) →
    IsLaidOut version shape lines prints words registers nodes counts events history →
    read_in version shape after lines ≡ Ok (report_with prints words registers nodes events history)
