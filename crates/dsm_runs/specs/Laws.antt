-- What a log says of its stamps, and of the messages sent.
use Rattle.std.specs.Prelude.{◌≡◌, ℕ, ◌<◌, ◌+◌, length, List, [], ◌∷◌, ◌⊎◌}
use Rattle.tw_base.specs.declared.message.Chan.{Chan}
use Rattle.tw_base.specs.declared.entry.Entry.{Entry}
use Rattle.tw_base.specs.declared.message.Message.{Message}
use Rattle.tw_base.specs.Lists.{Each}
use Rattle.dsm_runs.specs.Messages.{numbered}

abbrev pub Some_of : {A : Type 0} → (A → Type 0) → List A → Type 0
Some_of P [] = ⊥
Some_of P (x ∷ xs) = P x ⊎ Some_of P xs

abbrev pub IsRising : List Entry → Type 0
IsRising [] = Unit {0}
IsRising (e ∷ es) = Each (λ x. e.stamp < x.stamp) es × IsRising es

-- the entries of node i, each under a later stamp than those before
pub record IsLog (i : ℕ) (log : List Entry) : Type 0 where
  pub rising : IsRising log
  pub nodes : Each (λ e. e.node ≡ i) log

-- a message on the wire from i to t, sent by an event of this log
pub record IsOn (i t : ℕ) (c : Chan) (log : List Entry) (m : Message) : Type 0 where
  pub sender : m.from ≡ i
  pub receiver : m.to ≡ t
  pub chan : m.chan ≡ c
  pub stamped : Some_of (λ e. e.stamp ≡ m.stamp) log

-- messages with the numbers 0, 1, .. in this order
abbrev pub IsNumbered : List Message → Type 0
IsNumbered ms = ms ≡ numbered 0 ms

-- a wire's messages name it, and have the numbers up to the next one's
pub record IsWire (f t : ℕ) (c : Chan) (next : ℕ) (ms : List Message) : Type 0 where
  pub names : Each (λ m. (m.from ≡ f) × (m.to ≡ t) × (m.chan ≡ c)) ms
  pub first : ℕ
  pub up_to : first + length ms ≡ next
  pub numbers : ms ≡ numbered first ms
