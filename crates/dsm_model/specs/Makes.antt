-- What the program makes of an event at a node.
use Rattle.std.specs.Prelude.{◌≡◌, ℕ, ◌+◌, ◌<◌, ◌^◌, true, length, Option, Some, None, slice_set}
use Rattle.std.specs.List.{list_all}
use Rattle.tw_base.specs.declared.entry.Act.{Act}
use Rattle.tw_base.specs.declared.entry.Entry.{Entry}
use Rattle.tw_base.specs.declared.entry.Event.{Event}
use Rattle.tw_base.specs.declared.message.Message.{Message}
use Rattle.mini_asm.specs.declared.cpu.Cpu.{Cpu}
use Rattle.teapot_meaning.specs.Does.{Does}
use Rattle.teapot_meaning.specs.declared.state.Here.{Here}
use Rattle.dsm_model.specs.declared.handle.Handling.{Handling}
use Rattle.dsm_model.specs.declared.handle.Made.{Made}
use Rattle.dsm_model.specs.declared.local.Local.{Local as Node}
use Rattle.dsm_runs.specs.declared.mode.Mode.{Mode}
use Rattle.dsm_runs.specs.Setups.{Setup}
use Rattle.dsm_runs.specs.Messages.{outgoing}
use Rattle.dsm_runs.specs.Events.{LocalStep, after_of, failure, mode_after}
use Rattle.dsm_runs.specs.Worlds.{event_at}
use Rattle.dsm_model.specs.Kept.{IsSound, is_for, is_served}
use Rattle.dsm_model.specs.Views.{local_of}

-- what a node does with a message at a block
pub record IsHandling (s : Setup) (me stamp : ℕ) (m : Message) (here : Here) (h : Handling) : Type 0 where
  pub does : Does s.protocol here m h.ended
  pub sends : h.sends ≡ outgoing s.protocol me m.block stamp h.ended.sends
  pub served : is_served s h.ended.here ≡ true
  pub few : length h.sends < 2 ^ 16

-- the node after it, but for the messages that it deferred
abbrev pub handled_node : Node → ℕ → ℕ → Handling → Node
handled_node l block stamp h = record l {
  mode = mode_after h.ended.woke block l.mode;
  failed = failure h.ended.end;
  clock = stamp;
  blocks = slice_set l.blocks block h.ended.here;
  sent = l.sent + length h.sends;
}

abbrev pub handled_entry : ℕ → Act → ℕ → ℕ → Handling → Entry
handled_entry me act block stamp h = record {
  stamp = stamp;
  node = me;
  act = act;
  sends = length h.sends;
  after = Some (after_of block h.ended);
}

-- an instruction that completes
abbrev pub done_entry : ℕ → Node → Act → Entry
done_entry me l act = record { stamp = l.clock + 1; node = me; act = act; sends = 0; after = None }

abbrev pub done_node : Node → Mode → Cpu → Node
done_node l mode cpu = record l { mode = mode; clock = l.clock + 1; cpu = cpu; instructions = l.instructions + 1 }

-- the event that was to be made was made
pub record IsMade (s : Setup) (me : ℕ) (e : Event) (old : Node) (front : Option Message) (new : Node) (made : Made) : Type 0 where
  pub step : LocalStep s me (local_of s me old) front (local_of s me new) made.entry made.sends
  pub event : event_at me made.entry.act ≡ e
  pub sound : IsSound s new
  pub blocks : list_all (is_for s.shape.blocks) made.sends ≡ true
