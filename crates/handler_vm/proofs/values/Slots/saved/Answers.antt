use Rattle.std.proofs.Common.{◌≡◌, ◌≤◌, ◌<◌, ◌∙◌, length, set, sym, ap, arith}
use Rattle.tw_base.specs.declared.value.Value.TheVariants.{Int}
use Rattle.handler_vm.proofs.Saving.{done, done_all, done_kept, done_left, length-done}
use Rattle.handler_vm.proofs.values.Slots.saved.Goals as goal
use Rattle.handler_vm.proofs.values.Slots.saved.Goals.{then-is_live, else-is_live}

pub loop-k-preserved : goal.loop-k-preserved
loop-k-preserved c =
    let rest = c.args.rest.now in
    let own = c.self.inside.values in
    let l = c.loop-k in
    let low : l.k < length own = omega (arith, c.loop-k-test.true, c.self.invariant.0, c.self.invariant.1) in
    let few : l.k < 21 = omega (arith, low, c.self.invariant.0) in
    elim c.if-is_live.branch [
      | then-is_live w ↦
          w.values-is ∙ ap (set l.values l.k) w.index-own-k.is
          ∙ done_kept rest own l.k w.index-own-k.result l.values low few
          (sym c.is_live.ensures ∙ w.if-is_live.true) l.invariant
      | else-is_live w ↦
          w.values-is ∙ done_left rest own l.k (Int 0) l.values low few (sym c.is_live.ensures ∙ w.if-is_live.false) l.invariant
    ]

pub returns-clause-value : goal.returns-clause-value
returns-clause-value c =
    let low : c.self.inside.width ≤ length c.self.inside.values = omega (arith, c.self.invariant.0, c.self.invariant.1) in
    let e : c.loop-k.k ≡ c.self.inside.width = omega (arith, c.loop-k-test.false, c.loop-k.auto.k-end) in
    rw (← c.self.view_is) (c.loop-k.invariant ∙ ap (done c.args.rest.now c.self.inside.values) e
    ∙ done_all c.args.rest.now c.self.inside.values c.self.inside.width low)

pub returns-clause-all : goal.returns-clause-all
returns-clause-all c =
    let low : c.loop-k.k ≤ length c.self.inside.values = omega
    (arith, c.loop-k.auto.k-end, c.self.invariant.0, c.self.invariant.1) in
    ap length c.loop-k.invariant ∙ length-done c.args.rest.now c.self.inside.values c.loop-k.k low
    (omega (arith, low, c.self.invariant.0))
