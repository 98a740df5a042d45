use Rattle.std.proofs.Common.{◌≡◌, ◌∙◌, ℕ, List, ap, arith, sym, take, true, false}
use Rattle.std.specs.Prelude.{slice_get}
use Rattle.tw_base.specs.NodeSets.{has, members, members_from}
use Rattle.teapot_meaning.proofs.Members.{least_at, members_more}
use Rattle.teapot_meaning.proofs.sets.least_of.Goals as goal

pub loop-k-preserved : goal.loop-k-preserved
loop-k-preserved c =
    let none : has c.args.set c.loop-k.k ≡ false = ap (has c.args.set) (sym c.node-least.ensures) ∙ sym c.has.ensures.value
    ∙ c.if-has.false in
    rw (members_more, c.loop-k.invariant, none)

pub returns-then-has : goal.returns-then-has
unfolding members
returns-then-has c =
    let here : has c.args.set c.loop-k.k ≡ true = ap (has c.args.set) (sym c.node-least.ensures) ∙ sym c.has.ensures.value
    ∙ c.if-has.true in
    rw c.node-least.ensures (sym (least_at c.loop-k.k 8 c.args.set c.loop-k.invariant here c.loop-k-test.true))

pub returns : goal.returns
unfolding members
returns c =
    let e : c.loop-k.k ≡ 8 = omega (arith, c.loop-k-test.false, c.loop-k.auto.k-end) in
    sym (ap (λ (ns : List ℕ). slice_get ns 0) (ap (λ n. members_from 0 (take n c.args.set)) (sym e) ∙ c.loop-k.invariant))
