-- What a node's log says of the node, of the messages that it took and of those that it sent.
use Rattle.std.specs.Prelude.{◌≡◌, ℕ, length, List, [], ◌∷◌, ◌++◌, Option}
use Rattle.tw_base.specs.declared.message.Chan.{Chan}
use Rattle.tw_base.specs.declared.entry.Entry.{Entry}
use Rattle.tw_base.specs.declared.message.Message.{Message}
use Rattle.dsm_runs.specs.Setups.{Setup}
use Rattle.dsm_runs.specs.Locals.{Local, first}
use Rattle.dsm_runs.specs.Messages.{posted}
use Rattle.dsm_runs.specs.Events.{LocalStep}
use Rattle.dsm_runs.specs.Worlds.{taken}

-- a node with the messages that it took, by sender and channel, and those that it sent, by receiver and channel
pub record Course : Type 0 where
  pub local : Local
  pub took : ℕ → Chan → List Message
  pub sent : ℕ → Chan → List Message

abbrev pub begin : Setup → ℕ → Course
begin s i = record { local = first s i; took = λ f c. []; sent = λ t c. [] }

-- one entry of the log of node i
pub record ReplaysOne (s : Setup) (i : ℕ) (a : Course) (e : Entry) (b : Course) : Type 0 where
  pub front : Option Message
  pub sends : List Message
  pub local : LocalStep s i a.local front b.local e sends
  pub took : (f : ℕ) (c : Chan) → b.took f c ≡ a.took f c ++ taken e front f i c
  pub sent : (t : ℕ) (c : Chan) → b.sent t c ≡ a.sent t c ++ posted (length (a.sent t c)) i t c sends

abbrev pub ReplaysOn : Setup → ℕ → Course → List Entry → Course → Type 0
ReplaysOn s i a [] b = a ≡ b
ReplaysOn s i a (e ∷ es) b = (mid : Course) × ReplaysOne s i a e mid × ReplaysOn s i mid es b

-- From the start the log leads node i to this course.
abbrev pub Replays : Setup → ℕ → List Entry → Course → Type 0
Replays s i log b = ReplaysOn s i (begin s i) log b
