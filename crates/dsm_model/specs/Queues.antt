-- A queue of messages.
use Rattle.std.specs.Prelude.{ℕ, List, []}
use Rattle.tw_base.specs.declared.message.Message.{Message}

-- the messages, the oldest first, and for how many there is memory
pub record Held : Type 0 where
  pub messages : List Message
  pub room : ℕ

abbrev pub nothing_held : Held
nothing_held = record { messages = []; room = 0 }
