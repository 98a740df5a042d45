-- A report behind a text has the lines that it was printed for.
use Rattle.std.proofs.Common.{◌≡◌, ℕ, suc, ◌+◌, List, [], ◌∷◌, ◌++◌, length, map, Ok, refl, sym, ap, ◌∙◌}
use Rattle.tw_lex.specs.declared.token.What.{What}
use Rattle.tw_lex.specs.Lines.{lexed}
use Rattle.journal.specs.Laws.{ReportPrints}
use Rattle.printed_lines.specs.Tokens.{whats}
use Rattle.printed_reports.specs.Lexing.{lines_at, text_line, tokens_at}
use Rattle.printed_reports.specs.Reading.{PrintedReportsAreLexed}
use Rattle.printed_reports.specs.Reports.{report_said, said}
use Rattle.printed_reports.proofs.Behind.{lexed_behind}
use Rattle.printed_reports.proofs.Plain.{report-plain}
use Rattle.printed_reports.proofs.Texts.{report_text}

whats-at : (says : List What) (at : ℕ) → whats (tokens_at at says) ≡ says
whats-at [] at = refl
whats-at (w ∷ ws) at = ap (λ l. w ∷ l) (whats-at ws _)

said-at : (lines : List (List What)) (number start : ℕ) → map said (lines_at number start lines) ≡ lines
said-at [] number start = refl
said-at (says ∷ lines) number start =
    let next = start + length (text_line says) in
    ap (λ w. w ∷ map said (lines_at (number + 1) next lines)) (whats-at says start) ∙ ap (λ l. says ∷ l)
    (said-at lines (number + 1) next)

length-at : (lines : List (List What)) (number start : ℕ) → length (lines_at number start lines) ≡ length lines
length-at [] number start = refl
length-at (says ∷ lines) number start = ap suc (length-at lines _ _)

pub report_lexed : ReportPrints → PrintedReportsAreLexed
report_lexed prints s j finals words broken o before found is told small ends lexes =
    let all = report_said s j finals words broken o in
    let lines = lines_at (found.all + 1) (length before) all in
    let plain = report-plain s is j finals words broken o told small in
    let same = report_text prints s j finals words broken o in
    let whole = lexed_behind before found all ends lexes plain in
    record {
      lines = lines;
      are = ap (λ text. lexed (before ++ text)) (sym same) ∙ whole
          ∙ ap (λ n. Ok (record { all = found.all + n; list = found.list ++ lines }))
          (sym (length-at all (found.all + 1) (length before)));
      say = said-at all (found.all + 1) (length before);
    }
