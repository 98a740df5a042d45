use Rattle.std.proofs.Common.{ℕ, ◌<◌, ◌∷◌, [], ap, arith, length, length-append, subst}
use Rattle.still_nodes.specs.Beginning.{IsFirst}
use Rattle.still_nodes.proofs.Spreading.{made_is}
use Rattle.still_nodes.proofs.Starting.{first_push}
use Rattle.still_nodes.proofs.still.first_nodes.Goals as goal

pub loop-number-preserved : goal.loop-number-preserved
loop-number-preserved c =
    let is =
    made_is c.new.result (c.loop-number.number < 8) c.loop-number.number c.unwrap-me.result c.new.ensures
    c.unwrap-me.ensures in
    let n = c.in_ok-first_node.field-0 in (
      omega (
        arith,
        ap length c.in_ok-push.ensures.items,
        length-append c.loop-number.nodes.items (n ∷ []),
        c.loop-number.invariant.0,
      ),
      first_push c.args.setup.now c.args.code.now c.loop-number.nodes.items c.push.new.self.items n c.loop-number.number
          c.loop-number.invariant.1 c.loop-number.invariant.0
          (subst (λ (k : ℕ). IsFirst c.args.setup.now c.args.code.now k n) is c.in_ok-first_node.ensures)
          c.in_ok-push.ensures.items,
    )
