-- Reports of runs stand trial.
use Rattle.std.proofs.Common.{ℕ, ◌≤◌, length}
use Rattle.journal.specs.Finals.{counted_finals}
use Rattle.journal.specs.Gathered.{words_of}
use Rattle.journal.specs.History.{first_break}
use Rattle.report_reader.specs.declared.lines.Printed.{Printed}
use Rattle.report_reader.specs.Reading.{report_with}
use Rattle.run_reports.specs.Reports.{ReportsOfRunsAreReadBack}
use Rattle.replay_laws.specs.Laws.{IsReplayed, PrintedRunsAreReplayed, ReplaysHaveOneEnd}
use Rattle.audit_laws.specs.Explained.{ReadReportsSayAll, ReportsOfOneMemoryAreExplained}
use Rattle.trial_laws.specs.Trials.{ReportsStandTrial}

pub stand : ReportsOfRunsAreReadBack → ReadReportsSayAll → PrintedRunsAreReplayed → ReplaysHaveOneEnd
    → ReportsOfOneMemoryAreExplained → ReportsStandTrial
stand read_back say_all are_replayed one_end are_explained s j g ops records o before found is small r asked counts ends lexes =
    let finals = counted_finals s g ops records in
    let back = read_back s j g ops records o before found is small r counts ends lexes in
    let b = back.read in
    let report : Printed = report_with b.prints b.words_told b.registers b.nodes b.events b.history in
    let say = say_all s j finals (words_of s g) (first_break s j) o back.lines b asked in
    let replayed : (k : ℕ) → k ≤ length j → IsReplayed s j report k =
    λ k le. are_replayed s j g report k is r say.events_say le in
    record {
      lines = back.lines;
      report = report;
      are = back.are;
      is_read = b.is_read;
      replayed = replayed;
      only = λ k le end h. let there = replayed k le in one_end s report k end _ h there.replays;
      explained = λ a same. are_explained s j g ops records report is r a same say;
    }
