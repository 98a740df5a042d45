-- The three kinds of event in which a handler runs, by what their handler finds of a node.
use Rattle.std.specs.Prelude.{◌≡◌, ℕ, ◌+◌, ◌<◌, max, slice_set, Bool, true, List, ◌++◌, Option, Some, None}
use Rattle.tw_base.specs.declared.entry.Act.TheVariants as act
use Rattle.tw_base.specs.declared.entry.Entry.{Entry}
use Rattle.tw_base.specs.declared.entry.Event.{Event}
use Rattle.tw_base.specs.declared.entry.Event.TheVariants as event
use Rattle.tw_base.specs.declared.message.Chan.{Chan}
use Rattle.tw_base.specs.declared.message.Message.{Message}
use Rattle.block_tags.specs.Copies.{tag_of}
use Rattle.handler_vm.specs.declared.cell.Ran.{Ran}
use Rattle.dsm_runs.specs.declared.mode.Mode.TheVariants as mode
use Rattle.dsm_runs.specs.declared.mode.Waiting.{Waiting}
use Rattle.dsm_runs.specs.Events.{IsRefused}
use Rattle.dsm_runs.specs.Locals.{IsFirst}
use Rattle.dsm_runs.specs.Messages.{fault, place}
use Rattle.dsm_runs.specs.Setups.{asked}
use Rattle.node_meaning.specs.Handling.{HandlerLeaves, IsBounded, IsReadyFor, RanFor}
use Rattle.node_meaning.specs.Nodes.{Parts, Shown, front_at, test_of}
use Rattle.node_meaning.specs.Stands.{IsReplayed, IsWell, Makes}

-- ---- before the handler

-- A node is ready for the handler of a refused access, of its first eligible message, and of a message kept of a wire.
abbrev pub ReadyForFaults : Type 0
ReadyForFaults =
    (n : Shown) (store : Bool) (block : ℕ) →
    IsWell n → IsReplayed n → block < n.setup.shape.blocks → IsReadyFor n (fault store block n.me)

abbrev pub ReadyForFirsts : Type 0
ReadyForFirsts =
    (n : Shown) (m : Message) (earlier later : List Waiting) →
    IsWell n → IsReplayed n → IsFirst m earlier later n.parts.deferred → IsReadyFor n m

abbrev pub ReadyForFronts : Type 0
ReadyForFronts =
    (n : Shown) (from : ℕ) (ch : Chan) (m : Message) →
    IsWell n → IsReplayed n → front_at n from ch ≡ Some m → IsReadyFor n m

abbrev pub RunsAreBounded : Type 0
RunsAreBounded =
    (found new : Shown) (m : Message) (sent : List Message) (ran : Ran) →
    IsReadyFor found m → RanFor found new m sent ran → IsBounded sent ran

-- ---- the event

-- an event was made, and the node is as nodes are
pub record HasMade (old new : Shown) (front : Option Message) (e : Event) : Type 0 where
  pub makes : Makes old new front e
  pub well : IsWell new
  pub replayed : IsReplayed new

-- ---- a refused access

-- what the fault's handler finds: the node is blocked
abbrev pub blocked : Parts → ℕ → Parts
blocked x block = record x { mode = mode.Blocked block; instructions = x.instructions + 1 }

pub record IsFaultAt (old : Shown) (store : Bool) (block : ℕ) (entry : Entry) : Type 0 where
  pub enabled : test_of old (event.Instr old.me) ≡ true
  pub within : block < old.setup.shape.blocks
  pub refused : IsRefused old.setup (asked old.setup old.me old.parts.cpu) store block (tag_of old.copies block)
  pub act : entry.act ≡ act.Fault store block
  pub stamp : entry.stamp ≡ old.parts.clock + 1

abbrev pub FaultsAreMade : Type 0
FaultsAreMade =
    (old found new : Shown) (store : Bool) (block : ℕ) (entry : Entry) →
    IsWell old →
    IsReplayed old →
    IsFaultAt old store block entry →
    found ≡ record old { parts = blocked old.parts block } →
    HandlerLeaves found new (fault store block old.me) entry →
    HasMade old new None (event.Instr old.me)

-- ---- a redelivery

-- what the handler of a deferred message finds: these are deferred beside it
abbrev pub without_first : Parts → List Waiting → Parts
without_first x rest = record x { deferred = rest; handled = x.handled + 1 }

pub record IsRedeliveryAt (old : Shown) (m : Message) (earlier later : List Waiting) (entry : Entry) : Type 0 where
  pub enabled : test_of old (event.Redeliver old.me) ≡ true
  pub takes : IsFirst m earlier later old.parts.deferred
  pub act : entry.act ≡ act.Redelivered m.kind m.block m.from
  pub stamp : entry.stamp ≡ old.parts.clock + 1

abbrev pub RedeliveriesAreMade : Type 0
RedeliveriesAreMade =
    (old found new : Shown) (m : Message) (earlier later : List Waiting) (entry : Entry) →
    IsWell old →
    IsReplayed old →
    IsRedeliveryAt old m earlier later entry →
    found ≡ record old { parts = without_first old.parts (earlier ++ later) } →
    HandlerLeaves found new m entry →
    HasMade old new None (event.Redeliver old.me)

-- ---- a delivery

abbrev pub one_handled : Parts → Parts
one_handled x = record x { handled = x.handled + 1 }

pub record IsDeliveryAt (old : Shown) (from : ℕ) (ch : Chan) (m : Message) (entry : Entry) : Type 0 where
  pub enabled : test_of old (event.Deliver old.me from ch) ≡ true
  pub sender : from < old.setup.shape.nodes
  pub front : front_at old from ch ≡ Some m
  pub act : entry.act ≡ act.Delivered m.kind m.block from ch m.number
  pub stamp : entry.stamp ≡ max old.parts.clock m.stamp + 1

abbrev pub DeliveriesAreMade : Type 0
DeliveriesAreMade =
    (old found new : Shown) (from : ℕ) (ch : Chan) (m : Message) (entry : Entry) →
    IsWell old →
    IsReplayed old →
    IsDeliveryAt old from ch m entry →
    found ≡ record old { parts = one_handled old.parts; fronts = slice_set old.fronts (place from ch) None } →
    HandlerLeaves found new m entry →
    HasMade old new (front_at old from ch) (event.Deliver old.me from ch)
