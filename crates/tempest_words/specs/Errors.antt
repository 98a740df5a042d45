-- What is answered to words.
use Rattle.std.specs.Prelude.{ℕ, Bool, true, false, List, Option, Some, None, Result, Ok, Err}
use Rattle.tempest_words.specs.declared.request.Asked.{Asked}
use Rattle.tempest_words.specs.declared.words.WordsError.{WordsError}
use Rattle.tempest_words.specs.declared.words.WordsError.TheVariants as errors
use Rattle.tempest_words.specs.Words.{asked}

abbrev pub is_memory : WordsError → Bool
is_memory errors.Memory = true
is_memory errors.Usage = false

abbrev pub or_usage : Option Asked → Result Asked WordsError
or_usage (Some a) = Ok a
or_usage None = Err errors.Usage

-- what the words ask for, or that they are no command
abbrev pub asked_or_usage : List (List ℕ) → Result Asked WordsError
asked_or_usage words = or_usage (asked words)
