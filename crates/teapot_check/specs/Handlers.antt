-- The handlers of a protocol, each in its state.
use Rattle.std.specs.Prelude.{◌≡◌, ℕ, List}
use Rattle.std.specs.List.{flat_map}
use Rattle.teapot_tree.specs.declared.protocol.Handler.{Handler}
use Rattle.teapot_tree.specs.declared.protocol.Protocol.{Protocol}
use Rattle.teapot_tree.specs.declared.protocol.State.{State}
use Rattle.teapot_tree.specs.declared.rule.Rule.{Rule}
use Rattle.teapot_tree.specs.Scopes.{Scope}
use Rattle.teapot_check.specs.declared.sight.Sight.{Sight}
use Rattle.teapot_rules.specs.Deeds.{scope_of}
use Rattle.teapot_rules.specs.Faults.{handler_lines, in_handlers}

abbrev pub scope_in : Protocol → State → Handler → Scope
scope_in p s h = record { protocol = p; state = s; handler = h }

-- the lines at which these handlers break a rule
abbrev pub lines_in : Rule → List Sight → List ℕ
lines_in r sights = flat_map (λ (s : Sight). handler_lines r (scope_of s.scope)) sights

-- the lines at which the handlers of a state do
abbrev pub state_lines : Rule → Protocol → State → List ℕ
state_lines r p s = flat_map (λ (h : Handler). handler_lines r (scope_in p s h)) s.handlers

-- these handlers break each rule at the lines at which all of the protocol do
abbrev pub BreakAlike : Protocol → List Sight → Type 0
BreakAlike p sights = (r : Rule) → lines_in r sights ≡ in_handlers (handler_lines r) p
