-- The first fault, from the least place of each rule.
use Rattle.std.specs.Prelude.{ℕ, ◌≡◌, ◌<◌, ◌≤◌, ◌⊎◌, nat_lt, if◌then◌else◌, Option, Some, None}
use Rattle.teapot_tree.specs.declared.protocol.Protocol.{Protocol}
use Rattle.handler_code.specs.declared.code.Code.{Code}
use Rattle.code_rules.specs.declared.fault.Fault.{Fault}
use Rattle.code_rules.specs.declared.fault.Rule.{Rule}
use Rattle.code_rules.specs.Rules.{Breaks, number_of}

abbrev pub fault : ℕ → Rule → Fault
fault at rule = record { at = at; rule = rule }

-- the fault so far, or that of a later rule where its place is less
abbrev pub sooner : Option Fault → Option ℕ → Rule → Option Fault
sooner first None rule = first
sooner None (Some at) rule = Some (fault at rule)
sooner (Some f) (Some at) rule = if nat_lt at f.at then Some (fault at rule) else Some f

-- the first fault of the rules whose numbers are below a bound
abbrev pub FirstBelow : Code → Protocol → ℕ → Option Fault → Type 0
FirstBelow code p bound None = (at : ℕ) (r : Rule) → number_of r < bound → Breaks code p at r → ⊥
FirstBelow code p bound (Some f) =
    Breaks code p f.at f.rule
    × (number_of f.rule < bound)
    × ((at : ℕ) (r : Rule) → number_of r < bound → Breaks code p at r →
    (f.at < at) ⊎ ((f.at ≡ at) × (number_of f.rule ≤ number_of r)))
