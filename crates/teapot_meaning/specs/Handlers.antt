-- Which handler of a state answers a message.
use Rattle.std.specs.Prelude.{ℕ, ◌≡◌, ◌≤◌, ◌==◌, Bool, true, false, Option, Some, None, All, find, is_some, length}
use Rattle.tw_base.specs.declared.message.Kind.{Kind}
use Rattle.tw_base.specs.declared.message.Kind.TheVariants as kind
use Rattle.teapot_tree.specs.declared.protocol.Handler.{Handler}
use Rattle.teapot_tree.specs.declared.protocol.Protocol.{Protocol}
use Rattle.teapot_tree.specs.declared.protocol.State.{State}
use Rattle.teapot_tree.specs.declared.protocol.Trigger.{Trigger}
use Rattle.teapot_tree.specs.declared.protocol.Trigger.TheVariants.{RdFault, WrFault, Named}
use Rattle.teapot_tree.specs.Rules.{is_default}
use Rattle.teapot_tree.specs.Scopes.{message_number}

abbrev pub default_of : State → Option Handler
default_of s = find (λ h. is_default h.on) s.handlers

abbrev pub is_at : Option ℕ → ℕ → Bool
is_at (Some m) n = m == n
is_at None n = false

-- the trigger names this kind of message
abbrev pub answers : Protocol → Kind → Trigger → Bool
answers p kind.RdFault RdFault = true
answers p kind.WrFault WrFault = true
answers p (kind.Named n) (Named name) = is_at (message_number p name) n
answers p _ _ = false

abbrev pub own_or : Option Handler → Option Handler → Option Handler
own_or (Some h) other = Some h
own_or None other = other

-- the state's handler for the message, else its default
unfoldable pub handler_in : Protocol → Kind → State → Option Handler
handler_in p k s = own_or (find (λ h. answers p k h.on) s.handlers) (default_of s)

abbrev pub HasDefault : State → Type 0
HasDefault s = is_some (default_of s) ≡ true

-- what is asked of a protocol: so few messages and states that a byte counts them, and a default in each state
pub record IsServed (p : Protocol) : Type 0 where
  pub few_messages : length p.messages ≤ 64
  pub few_states : length p.states ≤ 64
  pub defaults : All HasDefault p.states
