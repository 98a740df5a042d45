-- The report of a run that one flat memory explains is explained.
use Rattle.std.proofs.Common.{◌≡◌, ◌∙◌, true, [], length, map, None, Ok, refl, sym, ap, arith}
use Rattle.std.specs.List.{enumerate_from}
use Rattle.dsm_runs.specs.Flat.{IsBeside, flat_start}
use Rattle.dsm_runs.specs.Setups.{Setup}
use Rattle.dsm_runs.specs.Worlds.{start}
use Rattle.report_audit.specs.Audits.{agreement, audited, from_nodes, from_registers, from_words, wrong_history, wrong_print}
use Rattle.report_audit.specs.Audits.{wrong_register, wrong_word}
use Rattle.report_audit.specs.Executing.{begun, completed, executed}
use Rattle.report_audit.specs.Lines.{all_registers_due, words_due}
use Rattle.report_audit.specs.Nodes.{wrong_node}
use Rattle.journal.specs.History.{first_break}
use Rattle.journal.specs.Unbroken.{FollowedJournalsHaveNoBreak}
use Rattle.printed_lines.specs.Saying.{says}
use Rattle.printed_lines.specs.Tokens.{entry_tokens, whats}
use Rattle.printed_reports.specs.Reports.{history_tokens, words_said}
use Rattle.printed_reports.specs.Runs.{RunsAreTold}
use Rattle.printed_reports.proofs.Naming.{says-same}
use Rattle.printed_reports.proofs.Saying.{asked-lines, printed-said, say-each, say-length}
use Rattle.audit_laws.specs.Explained.{ReadReportsSayAll, ReportsOfOneMemoryAreExplained}
use Rattle.audit_laws.proofs.Beside.{run-beside}
use Rattle.audit_laws.proofs.Counting.{run-counted}
use Rattle.audit_laws.proofs.Dues.{all-words-due, none-other, prints-due, registers-due}
use Rattle.audit_laws.proofs.Ends.{none-wrong}
use Rattle.audit_laws.proofs.Executed.{all-completed, all-executed, dues, with}

pub explained : RunsAreTold → ((s : Setup) → IsBeside s (start s) (flat_start s)) → FollowedJournalsHaveNoBreak
    → ReportsOfOneMemoryAreExplained
unfolding audited
explained are_told starts unbroken s j g ops records report is r a same say =
    let p = s.protocol in
    let flat = a.flat in
    let few = is.limits.nodes in
    let known = are_told s j g ops records is r in
    let lines = say-each p 0 j report.events say.events_say in
    let beside : IsBeside s g flat = run-beside s j (start s) g (flat_start s) flat is (starts s) r a.follows in
    let run : executed p (begun s) report.events ≡ Ok (with flat (dues j)) = all-executed s few j report.events 0
    (flat_start s) flat [] known.entries_are lines a.follows in
    let prints : wrong_print (with flat (dues j)) report ≡ None = none-other (dues j) report.prints (from_words report)
    (say.prints_say ∙ sym (prints-due j)) in
    let words : wrong_word (with flat (dues j)) report ≡ None =
    none-other (words_due flat) report.words (from_registers report) (say.words_say ∙ ap words_said same
    ∙ sym (all-words-due flat)) in
    let registers : wrong_register s (with flat (dues j)) report ≡ None =
    none-other (all_registers_due s.shape.nodes flat) report.registers (from_nodes report)
    (say.registers_say ∙ sym (registers-due s g flat ops records beside 0 s.shape.nodes (omega arith))) in
    let nodes : wrong_node report.events flat report.nodes ≡ None =
    none-wrong s few g flat ops records beside report.events report.nodes 0 s.shape.nodes (omega arith) known.ends_are
    (λ i. let c = run-counted s few i j report.events 0 (start s) g lines r in
    (omega (arith, c.all_tried), omega (arith, c.all_handled))) say.nodes_say in
    let none : first_break s j ≡ None = unbroken s j flat a.follows in
    let agrees : says agreement (whats report.history.tokens) ≡ true =
    ap (says agreement) (say.history_says ∙ ap history_tokens none) ∙ says-same agreement (tt, (tt, tt)) in
    let history : wrong_history report ≡ None = rw agrees refl in
    rw (run, prints, words, registers, nodes, history)
    (ap (λ n. Ok (record { events = n; completed = completed report.events })) (say-length p 0 j report.events lines)
    ∙ ap (λ n. Ok (record { events = length j; completed = n })) (all-completed s few j report.events 0 lines))

-- ---- what is read back

pub say-all : ReadReportsSayAll
say-all s j finals words broken o lines b asked = record {
  prints_say = printed-said b.prints ∙ b.prints_say;
  words_say = printed-said b.words_told ∙ b.words_say;
  registers_say = printed-said b.registers ∙ b.registers_say;
  nodes_say = printed-said b.nodes ∙ b.nodes_say;
  events_say = printed-said b.events ∙ b.events_say ∙ asked-lines o.journal
      (map (entry_tokens s.protocol) (enumerate_from 0 j)) asked;
  history_says = b.history_says;
}
