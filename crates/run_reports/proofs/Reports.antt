-- The report of a run, behind a text, is read as it was printed.
use Rattle.journal.specs.Finals.{counted_finals}
use Rattle.journal.specs.Gathered.{words_of}
use Rattle.journal.specs.History.{first_break}
use Rattle.printed_reports.specs.Reading.{PrintedReportsAreLexed, PrintedReportsAreRead}
use Rattle.printed_reports.specs.Runs.{RunsAreTold}
use Rattle.run_reports.specs.Numbers.{NumbersOfRunsAreSmall}
use Rattle.run_reports.specs.Reports.{ReportsOfRunsAreReadBack}

pub read-back : PrintedReportsAreLexed → PrintedReportsAreRead → RunsAreTold → NumbersOfRunsAreSmall → ReportsOfRunsAreReadBack
read-back are_lexed are_read are_told are_small s j g ops records o before found is small r counts ends lexes =
    let finals = counted_finals s g ops records in
    let told = are_told s j g ops records is r in
    let behind = are_lexed s j finals (words_of s g) (first_break s j) o before found is told
    (are_small s j g ops records o is small r counts) ends lexes in
    record {
      lines = behind.lines;
      are = behind.are;
      read = are_read s j finals (words_of s g) (first_break s j) o behind.lines told behind.say;
    }
