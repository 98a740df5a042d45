use Rattle.std.proofs.Common.{◌≡◌, false}
use Rattle.teapot_tree.specs.Rules.{body_in}
use Rattle.teapot_rules.specs.Deeds.{scope_of}
use Rattle.teapot_rules.specs.Walks.{meets}
use Rattle.teapot_check.specs.Passing.{is_placed}
use Rattle.teapot_check.proofs.Kept.{none_placed}
use Rattle.teapot_check.proofs.passing.keeps_order.Goals as goal

pub returns-then-not-finds : goal.returns-then-not-finds
returns-then-not-finds c =
    let none : meets is_placed (body_in (scope_of c.args.sight.now.scope)) ≡ false = cc in
    λ holds. none_placed (scope_of c.args.sight.now.scope) none
