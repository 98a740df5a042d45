-- What is told of a run under a protocol that keeps one memory.
use Rattle.std.specs.Prelude.{◌≡◌, List, None}
use Rattle.tw_base.specs.declared.entry.Entry.{Entry}
use Rattle.dsm_runs.specs.Setups.{Setup}
use Rattle.dsm_runs.specs.Worlds.{World}
use Rattle.journal.specs.Gathered.{words_of}
use Rattle.journal.specs.History.{first_break}
use Rattle.journal.specs.Laws.{Agrees}

-- No load is broken; one flat memory explains the run: it does at each completed entry what the entry says, and comes to the
-- processors of the nodes and to the words that are told.
pub record OneMemory (s : Setup) (j : List Entry) (g : World) : Type 0 where
  pub unbroken : first_break s j ≡ None
  pub agrees : Agrees s j g
  pub words : words_of s g ≡ agrees.flat.words
