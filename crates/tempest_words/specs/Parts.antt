-- The parts of a line of words, as values.
use Rattle.std.specs.Prelude.{◌≡◌, ℕ, List, None, Result, Ok, Err}
use Rattle.std.specs.Option.{option_copied}
use Rattle.tw_base.specs.Answers.{◌>>?◌}
use Rattle.tempest_words.specs.declared.parts.Parts.{Parts}
use Rattle.tempest_words.specs.declared.words.WordsError.{WordsError}
use Rattle.tempest_words.specs.declared.words.WordsError.TheVariants as errors
use Rattle.tempest_words.specs.Lines.{Line, parted}
use Rattle.tempest_words.specs.Words.{asked_by}

abbrev pub line_in : Parts → Line
line_in p = record {
  command = option_copied p.command;
  number = option_copied p.number;
  journal = p.journal;
  counts = p.counts;
  meaning = p.meaning;
  batch = option_copied p.batch;
}

-- The parts say what the words ask for; where there are none, the words ask for nothing.
abbrev pub IsParted : List (List ℕ) → Result Parts WordsError → Type 0
IsParted words (Ok p) = parted words >>? asked_by ≡ asked_by (line_in p)
IsParted words (Err errors.Usage) = parted words >>? asked_by ≡ None
IsParted words (Err errors.Memory) = Unit {0}
