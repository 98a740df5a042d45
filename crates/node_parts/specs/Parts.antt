-- What contracts see of the parts of a node that hold entries and messages.
use Rattle.std.specs.Prelude.{ℕ, List, Option}
use Rattle.tw_base.specs.declared.entry.Entry.{Entry}
use Rattle.tw_base.specs.declared.message.Message.{Message}

-- a log, and for how many entries there is memory
pub record Logged : Type 0 where
  pub list : List Entry
  pub room : ℕ

-- what waits to be handed out, the number of the next message on each wire, and for how many messages there is memory
pub record Posting : Type 0 where
  pub waiting : List Message
  pub posted : List ℕ
  pub room : ℕ

-- the message kept of each wire, and how many were accepted from it
pub record Kept : Type 0 where
  pub items : List (Option Message)
  pub accepted : List ℕ
