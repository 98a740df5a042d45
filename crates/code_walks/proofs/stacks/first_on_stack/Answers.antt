use Rattle.std.proofs.Common.{subst, sym}
use Rattle.code_walks.specs.Least.{IsLeast}
use Rattle.code_walks.specs.Parts.{Within}
use Rattle.code_walks.specs.Stacks.{BreaksStack}
use Rattle.code_walks.proofs.Depths.{stack_least}
use Rattle.code_walks.proofs.stacks.first_on_stack.Goals as goal

pub returns : goal.returns
returns c =
    subst (λ o. IsLeast (Within c.args.part (BreaksStack c.args.p.now c.args.code.now c.args.part)) o) (sym c.lesser.ensures)
    (stack_least c.args.p.now c.args.code.now c.args.part c.first_unserved.result c.first_led_to.result
    c.first_unserved.ensures c.first_led_to.ensures)
