-- The nodes and wires that the program keeps, as the model's.
use Rattle.std.specs.Prelude.{◌≡◌, ℕ, length, List, [], Option, Some, None, slice_get, slice_index, unwrap_or}
use Rattle.std.specs.List.{slice_index_or}
use Rattle.tw_base.specs.declared.message.Chan.{Chan}
use Rattle.tw_base.specs.declared.message.Message.{Message}
use Rattle.dsm_model.specs.declared.local.Local.{Local as Node}
use Rattle.dsm_model.specs.declared.outbox.Outbox.{Outbox}
use Rattle.dsm_model.specs.Queues.{Held, nothing_held}
use Rattle.dsm_runs.specs.Messages.{place}
use Rattle.dsm_runs.specs.Setups.{Setup, first_here}
use Rattle.dsm_runs.specs.Locals.{Local, first}
use Rattle.dsm_runs.specs.Worlds.{Wires, World}

-- a node; a block that it does not have is as at the start
abbrev pub local_of : Setup → ℕ → Node → Local
local_of s i l = record {
  mode = l.mode;
  failed = l.failed;
  clock = l.clock;
  cpu = l.cpu;
  blocks = λ b. unwrap_or (slice_get l.blocks b) (first_here s i b);
  deferred = l.deferred;
  instructions = l.instructions;
  handled = l.handled;
  sent = l.sent;
}

abbrev pub local_at : Setup → ℕ → Option Node → Local
local_at s i None = first s i
local_at s i (Some l) = local_of s i l

abbrev pub locals_of : Setup → List Node → ℕ → Local
locals_of s nodes i = local_at s i (slice_get nodes i)

-- ---- wires, in an outbox for each sender

abbrev pub held_in : Outbox → ℕ → Chan → Held
held_in r t c = slice_index_or r.queues.items (place t c) nothing_held

abbrev pub queue_of : Outbox → ℕ → Chan → List Message
queue_of r t c = (held_in r t c).messages

abbrev pub room_in : Outbox → ℕ → Chan → ℕ
room_in r t c = (held_in r t c).room

abbrev pub next_in : Outbox → ℕ → Chan → ℕ
next_in r t c = slice_index r.next.items (place t c)

abbrev pub outbox_queue : Option Outbox → ℕ → Chan → List Message
outbox_queue None t c = []
outbox_queue (Some r) t c = queue_of r t c

abbrev pub outbox_next : Option Outbox → ℕ → Chan → ℕ
outbox_next None t c = 0
outbox_next (Some r) t c = next_in r t c

abbrev pub outbox_room : Option Outbox → ℕ → Chan → ℕ
outbox_room None t c = 0
outbox_room (Some r) t c = room_in r t c

abbrev pub wires_of : List Outbox → Wires
wires_of outboxes f t c = outbox_queue (slice_get outboxes f) t c

abbrev pub nexts_of : List Outbox → ℕ → ℕ → Chan → ℕ
nexts_of outboxes f t c = outbox_next (slice_get outboxes f) t c

-- for how many messages a wire has memory
abbrev pub rooms_of : List Outbox → ℕ → ℕ → Chan → ℕ
rooms_of outboxes f t c = outbox_room (slice_get outboxes f) t c

-- a place for each wire
pub record HasRoom (r : Outbox) : Type 0 where
  pub queues : length r.queues.items ≡ 16
  pub next : length r.next.items ≡ 16

abbrev pub AllRoom : List Outbox → Type 0
AllRoom outboxes = (f : ℕ) (r : Outbox) → slice_get outboxes f ≡ Some r → HasRoom r

abbrev pub state_of : Setup → List Node → List Outbox → World
state_of s locals outboxes = record { locals = locals_of s locals; wires = wires_of outboxes; next = nexts_of outboxes }
