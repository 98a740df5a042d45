-- The rules that code keeps, and where it breaks one.
use Rattle.std.specs.Prelude.{ℕ, ◌≡◌, ◌<◌, ◌≤◌, ◌⊎◌, true, false, length, MatchBool}
use Rattle.teapot_tree.specs.declared.protocol.Protocol.{Protocol}
use Rattle.handler_code.specs.declared.code.Code.{Code}
use Rattle.code_rules.specs.declared.fault.CodeFault.{CodeFault}
use Rattle.code_rules.specs.declared.fault.CodeFault.TheVariants as fault
use Rattle.code_rules.specs.declared.fault.Rule.{Rule}
use Rattle.code_rules.specs.declared.fault.Rule.TheVariants.{Ranges, Jumps, Stack, Types, Ends, Rests, Live, Doors, Sets}
use Rattle.code_walks.specs.Jumps.{ends_wrongly, is_out_of_range, leads_wrongly}
use Rattle.code_walks.specs.Kinds.{breaks_types}
use Rattle.code_walks.specs.Parts.{AtOp, AtRest}
use Rattle.code_rules.specs.Serving.{LosesSlot, is_placed, serves_all}
use Rattle.code_rules.specs.Sets.{shares_set}
use Rattle.code_walks.specs.Stacks.{BreaksStack}
use Rattle.code_rules.specs.Structure.{is_structured}

-- the place at which code breaks the rule, where its doors and rests fit it
abbrev pub Breaks : Code → Protocol → ℕ → Rule → Type 0
-- an op names a slot, an info, a message, a state, a rest or a place that there is not
Breaks code p at Ranges = AtOp code (λ part at. is_out_of_range p code part at ≡ true) at
-- a jump leads back, out of its handler or into a loop; a loop is not closed, or crosses another
Breaks code p at Jumps = AtOp code (λ part at. leads_wrongly code part at ≡ true) at
-- the stack runs short, is too deep, or is not empty where it has to be
Breaks code p at Stack = AtOp code (BreaksStack p code) at
-- a value is of another type than its op needs
Breaks code p at Types = AtOp code (λ part at. breaks_types p code part at ≡ true) at
-- the last op of a handler is not Done
Breaks code p at Ends = AtOp code (λ part at. ends_wrongly code part at ≡ true) at
-- a rest does not follow its one Suspend, or is another handler's
Breaks code p at Rests = AtRest code (λ number rest. is_placed code number rest ≡ false) at
-- a rest loses a slot that is read from there on
Breaks code p at Live = AtRest code (λ number rest. LosesSlot code rest) at
-- a state has two doors for one kind, or none for all else
Breaks code p at Doors = (at ≡ length code.ops) × (serves_all p code ≡ false)
-- the set of a loop stands in a slot that others write
Breaks code p at Sets = AtOp code (λ part at. shares_set code part at ≡ true) at

-- Where doors and rests do not fit the code and the protocol, that is a fault of the first rule at the number of ops, and
-- there is no other.
abbrev pub IsBroken : Code → Protocol → ℕ → Rule → Type 0
IsBroken code p at rule = MatchBool (is_structured p code) (Breaks code p at rule) ((at ≡ length code.ops) × (rule ≡ Ranges))

abbrev pub number_of : Rule → ℕ
number_of Ranges = 1
number_of Jumps = 2
number_of Stack = 3
number_of Types = 4
number_of Ends = 5
number_of Rests = 6
number_of Live = 7
number_of Doors = 8
number_of Sets = 9

abbrev pub KeepsRules : Code → Protocol → Type 0
KeepsRules code p = (at : ℕ) (rule : Rule) → IsBroken code p at rule → ⊥

-- the least place at which a rule is broken, and the least rule there, by its number
pub record IsFirstFault (code : Code) (p : Protocol) (at number : ℕ) : Type 0 where
  pub rule : Rule
  pub numbered : number ≡ number_of rule
  pub broken : IsBroken code p at rule
  pub first : (other : ℕ) (r : Rule) → IsBroken code p other r → (at < other) ⊎ ((at ≡ other) × (number ≤ number_of r))

-- of want of memory nothing is said
abbrev pub IsFault : Code → Protocol → CodeFault → Type 0
IsFault code p (fault.Broken at number) = IsFirstFault code p at number
IsFault code p fault.Memory = Unit {0}
