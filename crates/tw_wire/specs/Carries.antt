-- The rule of a wire.
use Rattle.std.specs.Prelude.{◌≡◌, ℕ, Bool, true, false, List, [], ◌++◌}
use mathlib.Core.Option.{some}
use lib.ListN.{get_elem?}
use Rattle.tw_base.specs.declared.message.Message.{Message}
use Rattle.tw_wire.specs.declared.rule.Hand.{Hand}

abbrev pub hand : Bool → Bool → List Message → List Message → Hand
hand a b sent taken = record { sends = a; takes = b; sent = sent; taken = taken }

-- the sender's pass, and the receiver's
abbrev pub IsSender : Hand → Type 0
IsSender v = v ≡ hand true false v.sent []

abbrev pub IsTaker : Hand → Type 0
IsTaker v = v ≡ hand false true [] v.taken

-- the one pass that sends knows all that was sent, and the one that takes all that was taken
abbrev pub Fits : ℕ → ℕ → List Message → List Message → ℕ → Hand → Type 0
Fits sender taker sent taken port v =
    (v.sends ≡ true → (port ≡ sender) × (v.sent ≡ sent)) × (v.takes ≡ true → (port ≡ taker) × (v.taken ≡ taken))

-- what was taken and then what the queue holds is what was sent
abbrev pub Carries : List Message → List Hand → Type 0
Carries items views = (sender : ℕ) × (taker : ℕ) × (sent : List Message) × (taken : List Message) × (sent ≡ taken ++ items)
    × ((port : ℕ) (v : Hand) → get_elem? views port ≡ some v → Fits sender taker sent taken port v)
