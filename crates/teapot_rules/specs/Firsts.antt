-- The first break, from the least line of each rule.
use Rattle.std.specs.Prelude.{ℕ, nat_le, List, [], ◌∷◌, Option, Some, None, if◌then◌else◌}
use Rattle.teapot_tree.specs.declared.protocol.Protocol.{Protocol}
use Rattle.teapot_tree.specs.declared.rule.Rule.{Rule}
use Rattle.teapot_tree.specs.declared.rule.Rule.TheVariants.{Undeclared, Twice, WrongType, ArgCount, NoDefault, ContDropped}
use Rattle.teapot_tree.specs.declared.rule.Rule.TheVariants.{ResumeNotLast, ResumeForeign, AfterSuspend, NoData, TooManySends}
use Rattle.teapot_tree.specs.declared.rule.Rule.TheVariants.{NotTwoStarts}
use Rattle.teapot_rules.specs.declared.fault.Fault.{Fault}
use Rattle.teapot_rules.specs.Faults.{lines}
use Rattle.teapot_rules.specs.Lists.{least}

abbrev pub fault : ℕ → Rule → Fault
fault line r = record { line = line; rule = r }

-- the break of a rule, or one of the rules after it where that has a lesser line
abbrev pub sooner : Option ℕ → Rule → Option Fault → Option Fault
sooner None r later = later
sooner (Some line) r None = Some (fault line r)
sooner (Some line) r (Some later) = if nat_le line later.line then Some (fault line r) else Some later

abbrev pub first_of_rules : Protocol → List Rule → Option Fault
first_of_rules p [] = None
first_of_rules p (r ∷ rs) = sooner (least (lines p r)) r (first_of_rules p rs)

abbrev pub last_rules : List Rule
last_rules = ResumeNotLast ∷ ResumeForeign ∷ AfterSuspend ∷ NoData ∷ TooManySends ∷ NotTwoStarts ∷ []

abbrev pub all_rules : List Rule
all_rules =
    Undeclared ∷ Twice ∷ WrongType ∷ ArgCount ∷ NoDefault ∷ ContDropped ∷ last_rules
