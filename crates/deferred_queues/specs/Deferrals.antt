-- The deferred messages of a node, as contracts see them.
use Rattle.std.specs.Prelude.{◌≡◌, ℕ, ◌<◌, ◌-◌, ◌^◌, Bool, true, false, List, [], ◌++◌, Option, Some, None, is_some, not, length}
use Rattle.std.specs.List.{count_by}
use Rattle.tw_base.specs.declared.message.Message.{Message}
use Rattle.teapot_meaning.specs.declared.state.Kept.{Kept}
use Rattle.teapot_meaning.specs.declared.state.Kept.TheVariants as kept
use Rattle.dsm_runs.specs.declared.mode.Waiting.{Waiting}
use Rattle.dsm_runs.specs.Locals.{IsFirst}
use Rattle.deferred_queues.specs.Queues.{BlockQueue, AreSound, HaveRoom, by_arrival, is_open}

-- the list, by arrival; whether one message more can be kept without memory; and for how many blocks there are queues
pub record DeferredList : Type 0 where
  pub list : List Waiting
  pub ready : Bool
  pub blocks : ℕ

abbrev pub nothing_deferred : ℕ → DeferredList
nothing_deferred blocks = record { list = []; ready = true; blocks = blocks }

-- the first eligible message is taken out of the list
pub record TakesFirst (message : Message) (old new : List Waiting) : Type 0 where
  pub earlier : List Waiting
  pub later : List Waiting
  pub takes : IsFirst message earlier later old
  pub rest : new ≡ earlier ++ later

-- a message that is kept takes the room that was made for one
abbrev pub stays_ready : Kept → Bool
stays_ready kept.No = true
stays_ready kept.Stale = false
stays_ready kept.Eligible = false

-- the queues of the blocks as one list
abbrev pub list_of : List BlockQueue → ℕ → Option ℕ → DeferredList
list_of queues next tight = record { list = by_arrival next queues; ready = not (is_some tight); blocks = length queues }

-- What is kept of the queues: `next` messages have arrived, `count` queues have an eligible message, and each queue but
-- that of the tight block has room.
pub record AreKept (queues : List BlockQueue) (next count : ℕ) (tight : Option ℕ) : Type 0 where
  pub sound : AreSound next queues
  pub counted : count ≡ count_by is_open queues
  pub room : HaveRoom tight queues
  pub within : (b : ℕ) → tight ≡ Some b → b < length queues
  pub few : tight ≡ None → next < 2 ^ 64 - 1
