-- The code of an accepted protocol keeps every rule.
use Rattle.std.proofs.Common.{◌≡◌, ℕ, subst}
use Rattle.std.specs.Prelude.{MatchBool, length}
use Rattle.teapot_tree.specs.declared.protocol.Protocol.{Protocol}
use Rattle.teapot_tree.specs.Rules.{IsAccepted}
use Rattle.handler_code.specs.declared.code.Code.{Code}
use Rattle.code_rules.specs.declared.fault.Rule.{Rule}
use Rattle.code_rules.specs.declared.fault.Rule.TheVariants.{Ranges, Jumps, Stack, Types, Ends, Rests, Live, Doors, Sets}
use Rattle.code_rules.specs.Rules.{Breaks, KeepsRules}
use Rattle.compiled_meaning.specs.Whole.{IsCode}
use Rattle.compiled_rules.proofs.Doorways.{serves}
use Rattle.compiled_rules.proofs.Jumping.{keeps_jumps}
use Rattle.compiled_rules.proofs.Kinding.{keeps_types}
use Rattle.compiled_rules.proofs.Ranging.{keeps_ends, keeps_ranges}
use Rattle.compiled_rules.proofs.Resting.{keeps_live, keeps_rests}
use Rattle.compiled_rules.proofs.Setting.{keeps_sets}
use Rattle.compiled_rules.proofs.Stacking.{keeps_stack}
use Rattle.compiled_rules.proofs.Structuring.{structured}

module _ (p : Protocol) (code : Code) (a : IsAccepted p) (c : IsCode p code) where
  unbroken : (at : ℕ) (rule : Rule) → Breaks code p at rule → ⊥
  unbroken at Ranges b = keeps_ranges p code a c at b
  unbroken at Jumps b = keeps_jumps p code a c at b
  unbroken at Stack b = keeps_stack p code a c at b
  unbroken at Types b = keeps_types p code a c at b
  unbroken at Ends b = keeps_ends p code a c at b
  unbroken at Rests b = keeps_rests p code a c at b
  unbroken at Live b = keeps_live p code c at b
  unbroken at Doors b = let ok = serves p a code c in let bad = b.1 in cc
  unbroken at Sets b = keeps_sets p code a c at b

  pub keeps : KeepsRules code p
  keeps at rule b =
      unbroken at rule (subst (λ s. MatchBool s (Breaks code p at rule) ((at ≡ length code.ops) × (rule ≡ Ranges)))
      (structured p code a c) b)
