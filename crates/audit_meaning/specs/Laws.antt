-- What the audit of a report means.
use Rattle.std.specs.Prelude.{◌≡◌, ℕ, true, List, [], ◌∷◌, map, drop, Some, Ok}
use Rattle.std.specs.List.{filter, flat_map}
use Rattle.tw_base.specs.Lists.{Each}
use Rattle.tw_base.specs.declared.entry.Act.{Act}
use Rattle.mini_asm.specs.Laws.{Pairwise}
use Rattle.mini_asm.specs.Run.{Machine}
use Rattle.teapot_tree.specs.declared.protocol.Protocol.{Protocol}
use Rattle.dsm_runs.specs.Flat.{flat_start, flat_step}
use Rattle.dsm_runs.specs.Setups.{Setup}
use Rattle.report_reader.specs.declared.lines.Printed.{Printed}
use Rattle.report_reader.specs.declared.lines.PrintedLine.{PrintedLine}
use Rattle.printed_lines.specs.Reading.{node_of}
use Rattle.printed_lines.specs.Tokens.{act_tokens, whats}
use Rattle.report_audit.specs.declared.auditing.Audited.{Audited}
use Rattle.report_audit.specs.declared.due.Due.{Due}
use Rattle.report_audit.specs.Audits.{agreement, audited}
use Rattle.report_audit.specs.Executing.{is_completed, print_due}
use Rattle.report_audit.specs.Lines.{all_registers_due, due_tokens, words_due}
use Rattle.report_audit.specs.Nodes.{is_right}

-- the flat machine executes these instructions, each of its node, one after the other
abbrev pub Executes : Machine → List (ℕ × Act) → Machine → Type 0
Executes m [] end = end ≡ m
Executes m (d ∷ ds) end = (next : Machine) × (flat_step m d.0 ≡ Some (d.1, next)) × Executes next ds end

-- what instructions print
abbrev pub printed_by : List (ℕ × Act) → List Due
printed_by done = flat_map (λ d. print_due d.0 d.1) done

-- the lines of instructions that completed
abbrev pub completions : List PrintedLine → List PrintedLine
completions events = filter (λ l. is_completed l.tokens) events

-- a line says that this node did this
pub record TellsOf (p : Protocol) (l : PrintedLine) (done : ℕ × Act) : Type 0 where
  pub node : node_of l.tokens ≡ Some done.0
  pub act : whats (drop 6 l.tokens) ≡ act_tokens p done.1

-- lines say what is due, and no more
abbrev pub AreDue : List Due → List PrintedLine → Type 0
AreDue due lines = map (λ l. whats l.tokens) lines ≡ map due_tokens due

-- The flat machine of a setup executes instructions of which a report tells, line by line. The report's prints are what they
-- print, its words and registers are what the machine comes to, the lines of nodes are right of it, and the history agrees.
pub record IsFlat (s : Setup) (p : Printed) : Type 0 where
  pub done : List (ℕ × Act)
  pub flat : Machine
  pub executes : Executes (flat_start s) done flat
  pub told : Pairwise (TellsOf s.protocol) (completions p.events) done
  pub prints : AreDue (printed_by done) p.prints
  pub words : AreDue (words_due flat) p.words
  pub registers : AreDue (all_registers_due s.shape.nodes flat) p.registers
  pub nodes : Each (λ l. is_right p.events flat l.tokens ≡ true) p.nodes
  pub history : whats p.history.tokens ≡ agreement

-- A report that is accepted tells of one flat memory.
abbrev pub AcceptedReportsAreFlat : Type 0
AcceptedReportsAreFlat = (s : Setup) (p : Printed) (a : Audited) → audited s p ≡ Ok a → IsFlat s p
