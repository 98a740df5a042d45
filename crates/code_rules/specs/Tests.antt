-- The rules that are kept or broken op by op, as one test.
use Rattle.std.specs.Prelude.{ℕ, ◌≡◌, Bool, true, false}
use Rattle.teapot_tree.specs.declared.protocol.Protocol.{Protocol}
use Rattle.handler_code.specs.declared.code.Code.{Code}
use Rattle.code_rules.specs.declared.fault.Rule.{Rule}
use Rattle.code_rules.specs.declared.fault.Rule.TheVariants.{Ranges, Jumps, Stack, Types, Ends, Sets}
use Rattle.code_walks.specs.declared.parts.Part.{Part}
use Rattle.code_walks.specs.Jumps.{ends_wrongly, is_out_of_range, leads_wrongly}
use Rattle.code_walks.specs.Kinds.{breaks_types}
use Rattle.code_rules.specs.Sets.{shares_set}
use Rattle.code_walks.specs.Stacks.{BreaksStack}

-- whether the op at a place breaks the rule, for the rules that need no stack
abbrev pub is_broken : Protocol → Code → Part → Rule → ℕ → Bool
is_broken p code part Ranges at = is_out_of_range p code part at
is_broken p code part Jumps at = leads_wrongly code part at
is_broken p code part Ends at = ends_wrongly code part at
is_broken p code part Sets at = shares_set code part at
is_broken p code part _ at = false

abbrev pub BreaksAt : Protocol → Code → Rule → Part → ℕ → Type 0
BreaksAt p code Stack part at = BreaksStack p code part at
BreaksAt p code Types part at = breaks_types p code part at ≡ true
BreaksAt p code rule part at = is_broken p code part rule at ≡ true
