-- What is gathered of nodes that are at rest.
use Rattle.std.specs.Prelude.{◌≡◌, ℕ, ◌<◌, List, [], length}
use Rattle.std.specs.List.{slice_index_or}
use Rattle.tw_base.specs.declared.entry.Entry.{Entry}
use Rattle.handler_code.specs.declared.code.Code.{Code}
use Rattle.journal.specs.declared.finals.Final.{Final}
use Rattle.journal.specs.Finals.{counted_finals}
use Rattle.journal.specs.Gathered.{words_of}
use Rattle.dsm_runs.specs.Beside.{ReplaysBeside}
use Rattle.dsm_runs.specs.Merges.{Agrees, IsJoined}
use Rattle.dsm_runs.specs.Replays.{Course, begin}
use Rattle.dsm_runs.specs.Setups.{Setup}
use Rattle.dsm_runs.specs.Worlds.{IsQuiet, Wires, World}
use Rattle.node_meaning.specs.Tallies.{Counts, Tally, first_tally}

-- the logs of the nodes, by node; the events in the order in which they were made; how the nodes ended; and the words
pub record GatheredShown : Type 0 where
  pub logs : List (List Entry)
  pub taken : List Entry
  pub finals : List Final
  pub words : List ℕ

abbrev pub log_of : List (List Entry) → ℕ → List Entry
log_of logs i = slice_index_or logs i []

-- what is told of the quiet state g, where the machine of ops came to these tallies
pub record TellsOf (s : Setup) (g : World) (counts : ℕ → Tally) (r : GatheredShown) : Type 0 where
  pub quiet : IsQuiet s g
  pub finals : r.finals ≡ counted_finals s g (λ i. (counts i).ops) (λ i. (counts i).records)
  pub words : r.words ≡ words_of s g

-- Each log is replayed to a course, beside what the machine of ops does; the courses and what is left on the wires make the
-- state g, which is quiet and is told.
pub record IsGathered (s : Setup) (code : Code) (g : World) (r : GatheredShown) : Type 0 where
  pub size : length r.logs ≡ s.shape.nodes
  pub ends : ℕ → Course
  pub left : Wires
  pub counts : ℕ → Tally
  pub replay : (i : ℕ) → i < s.shape.nodes → ReplaysBeside (Counts s code) s i (begin s i) (first_tally s i) (log_of r.logs i)
      (ends i) (counts i)
  pub agrees : Agrees s.shape.nodes ends left
  pub joined : IsJoined s.shape.nodes ends left g
  pub tells : TellsOf s g counts r
