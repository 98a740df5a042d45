-- What the replay of a report means.
use Rattle.std.specs.Prelude.{◌≡◌, ℕ, ◌≤◌, List, map, length, take, Result, Ok}
use Rattle.std.specs.List.{enumerate_from}
use Rattle.tw_base.specs.declared.entry.Entry.{Entry}
use Rattle.tw_lex.specs.declared.token.What.{What}
use Rattle.teapot_tree.specs.declared.protocol.Protocol.{Protocol}
use Rattle.dsm_runs.specs.Setups.{IsSetup, Setup}
use Rattle.dsm_runs.specs.Worlds.{Runs, World, start}
use Rattle.report_reader.specs.declared.error.AuditError.{AuditError}
use Rattle.report_reader.specs.declared.lines.Printed.{Printed}
use Rattle.report_reader.specs.declared.lines.PrintedLine.{PrintedLine}
use Rattle.printed_lines.specs.Tokens.{entry_tokens, whats}
use Rattle.report_replay.specs.Replaying.{Replays}

-- what lines say
abbrev pub said_by : List PrintedLine → List (List What)
said_by lines = map (λ l. whats l.tokens) lines

-- the own lines of a journal's entries
abbrev pub journal_tokens : Protocol → List Entry → List (List What)
journal_tokens p j = map (entry_tokens p) (enumerate_from 0 j)

abbrev pub ReplaysHaveOneEnd : Type 0
ReplaysHaveOneEnd = (s : Setup) (p : Printed) (k : ℕ) (x y : Result World AuditError) → Replays s p k x → Replays s p k y → x ≡ y

-- the first k entries of a run reach a state, to which a report is replayed
pub record IsReplayed (s : Setup) (j : List Entry) (p : Printed) (k : ℕ) : Type 0 where
  pub reached : World
  pub runs : Runs s (start s) (take k j) reached
  pub replays : Replays s p k (Ok reached)

-- A report whose events say what the entries of a run do, each by its place, is replayed up to each of them.
abbrev pub PrintedRunsAreReplayed : Type 0
PrintedRunsAreReplayed =
    (s : Setup) (j : List Entry) (g : World) (p : Printed) (k : ℕ) → IsSetup s → Runs s (start s) j g →
    said_by p.events ≡ journal_tokens s.protocol j → k ≤ length j → IsReplayed s j p k
