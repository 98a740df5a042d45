-- What the words ask for of a call that waits for nothing.
use Rattle.std.specs.Prelude.{ℕ, if◌then◌else◌, List, Option, Some, None}
use Rattle.tw_base.specs.Answers.{◌>>?◌}
use Rattle.tempest_words.specs.declared.request.Asked.{Asked}
use Rattle.tempest_words.specs.Words.{asked}
use Rattle.tempest_run.specs.Answering.{is_threaded}

-- a run on threads is no command of it
abbrev pub if_plain : Asked → Option Asked
if_plain q = if is_threaded q.command then None else Some q

abbrev pub asked_plain : List (List ℕ) → Option Asked
asked_plain words = asked words >>? if_plain
