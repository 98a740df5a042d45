-- What a turn of a seat does.
use Rattle.std.specs.Prelude.{◌≡◌, ℕ, ◌-◌, ◌^◌, ◌<◌, ◌≤◌, ◌⊎◌, ◌&&◌, not, Bool, true, false, List, ◌++◌, None, length}
use Rattle.tw_base.specs.Lists.{Each}
use Rattle.tw_base.specs.declared.entry.Entry.{Entry}
use Rattle.tw_base.specs.declared.entry.Event.{Event}
use Rattle.tw_base.specs.declared.entry.Event.TheVariants as event
use Rattle.tw_base.specs.declared.message.Chan.{Chan}
use Rattle.tw_base.specs.declared.message.Message.{Message}
use Rattle.dsm_runs.specs.Tests.{has_eligible, may_handle}
use Rattle.dsm_runs.specs.Worlds.{event_of}
use Rattle.node_meaning.specs.Nodes.{Shown, front_at, test_of, tested}
use Rattle.seat_meaning.specs.Seats.{Seated, closed_at, looks_at}

abbrev pub is_instruction : Event → Bool
is_instruction (event.Instr i) = true
is_instruction (event.Redeliver i) = false
is_instruction (event.Deliver i f c) = false

-- a redelivery or a delivery
abbrev pub is_handling : Event → Bool
is_handling (event.Instr i) = false
is_handling (event.Redeliver i) = true
is_handling (event.Deliver i f c) = true

-- k entries more, each of an event of this kind
pub record Grows (kind : Event → Bool) (old new : List Entry) (k : ℕ) : Type 0 where
  pub entries : List Entry
  pub log : new ≡ old ++ entries
  pub kinds : Each (λ e. kind (event_of e) ≡ true) entries
  pub count : length entries ≡ k

abbrev pub GrowsAtMost : (Event → Bool) → List Entry → List Entry → ℕ → Type 0
GrowsAtMost kind old new q = (k : ℕ) × (k ≤ q) × Grows kind old new k

-- messages were pushed, those that had waited longest, and all else stays
pub record HasPushed (old new : Seated) : Type 0 where
  pub messages : List Message
  pub waits : old.node.waiting ≡ messages ++ new.node.waiting
  pub same :
      new
      ≡ record old {
        node = record old.node { waiting = new.node.waiting };
        ends = record old.ends { sends = new.ends.sends };
      }

-- the number rose, as far as it goes
abbrev pub Rose : ℕ → ℕ → Type 0
Rose a b = (a < b) ⊎ (b ≡ 2 ^ 64 - 1)

-- whether the node takes messages from wires
abbrev pub takes_messages : Shown → Bool
takes_messages n = may_handle n.setup (tested n) && not (has_eligible n.parts.deferred)

-- where the node keeps no message of an open wire, the wire was looked at in vain
abbrev pub IsLookedAt : Seated → Seated → ℕ → Chan → Type 0
IsLookedAt old new f c = front_at new.node f c ≡ None → closed_at new f c ≡ false → Rose (looks_at old f c) (looks_at new f c)

-- There is nothing more to handle: no message to redeliver, none that is kept and may be delivered, and on each open wire of
-- which none is kept none was found.
pub record HasServed (old new : Seated) : Type 0 where
  pub no_redelivery : test_of new.node (event.Redeliver new.node.me) ≡ false
  pub no_delivery : (f : ℕ) (c : Chan) → f < new.node.setup.shape.nodes
      → test_of new.node (event.Deliver new.node.me f c) ≡ false
  pub looked :
      takes_messages new.node ≡ true →
      (f : ℕ) (c : Chan) → f < new.node.setup.shape.nodes → IsLookedAt old new f c
