-- The rules that are kept or broken op by op.
use Rattle.std.proofs.Common.{◌≡◌, ℕ, ◌<◌, ◌≤◌, Option, Result, Ok, Err, true, lit<, lit≤, refl}
use Rattle.std.specs.Prelude.{IfOk}
use Rattle.handler_code.specs.declared.code.Code.{Code}
use Rattle.teapot_tree.specs.declared.protocol.Protocol.{Protocol}
use Rattle.code_rules.specs.declared.fault.Rule.{Rule}
use Rattle.code_rules.specs.declared.fault.Rule.TheVariants.{Ranges, Jumps, Stack, Types, Ends, Rests, Live, Doors, Sets}
use Rattle.code_walks.specs.declared.parts.Part.{Part}
use Rattle.code_walks.specs.Least.{IsLeast}
use Rattle.code_walks.specs.Parts.{AtOp, Within}
use Rattle.code_rules.specs.Rules.{Breaks, number_of}
use Rattle.code_rules.specs.Tests.{BreaksAt, is_broken}

pub plain_rule : (p : Protocol) (code : Code) (part : Part) (rule : Rule) (o : Option ℕ) → (rule ≡ Stack → ⊥) →
    (rule ≡ Types → ⊥) → IsLeast (Within part (λ at. is_broken p code part rule at ≡ true)) o →
    IsLeast (Within part (BreaksAt p code rule part)) o
plain_rule p code part Ranges o s t h = h
plain_rule p code part Jumps o s t h = h
plain_rule p code part Stack o s t h = absurd (s refl)
plain_rule p code part Types o s t h = absurd (t refl)
plain_rule p code part Ends o s t h = h
plain_rule p code part Rests o s t h = h
plain_rule p code part Live o s t h = h
plain_rule p code part Doors o s t h = h
plain_rule p code part Sets o s t h = h

-- the rules that are broken at an op
pub op_rule : (p : Protocol) (code : Code) (rule : Rule) → (rule ≡ Rests → ⊥) → (rule ≡ Live → ⊥) → (rule ≡ Doors → ⊥) →
    (o : Option ℕ) → IsLeast (AtOp code (BreaksAt p code rule)) o → IsLeast (λ at. Breaks code p at rule) o
op_rule p code Ranges r l d o h = h
op_rule p code Jumps r l d o h = h
op_rule p code Stack r l d o h = h
op_rule p code Types r l d o h = h
op_rule p code Ends r l d o h = h
op_rule p code Rests r l d o h = absurd (r refl)
op_rule p code Live r l d o h = absurd (l refl)
op_rule p code Doors r l d o h = absurd (d refl)
op_rule p code Sets r l d o h = h

pub ok_then : {A E : Type 0} (P Q : A → Type 0) (r : Result A E) → ((x : A) → P x → Q x) → IfOk r P → IfOk r Q
ok_then P Q (Ok x) f h = f x h
ok_then P Q (Err e) f h = h

pub few_rules : (r : Rule) → number_of r < 10
few_rules Ranges = lit< tt
few_rules Jumps = lit< tt
few_rules Stack = lit< tt
few_rules Types = lit< tt
few_rules Ends = lit< tt
few_rules Rests = lit< tt
few_rules Live = lit< tt
few_rules Doors = lit< tt
few_rules Sets = lit< tt

pub from_one : (r : Rule) → 1 ≤ number_of r
from_one Ranges = lit≤ tt
from_one Jumps = lit≤ tt
from_one Stack = lit≤ tt
from_one Types = lit≤ tt
from_one Ends = lit≤ tt
from_one Rests = lit≤ tt
from_one Live = lit≤ tt
from_one Doors = lit≤ tt
from_one Sets = lit≤ tt
