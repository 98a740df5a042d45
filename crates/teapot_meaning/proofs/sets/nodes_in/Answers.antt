use Rattle.std.proofs.Common.{◌≡◌, ◌∙◌, ap, arith, sym, take}
use Rattle.tw_base.specs.NodeSets.{members, members_from}
use Rattle.teapot_meaning.proofs.Members.{members_more}
use Rattle.teapot_meaning.proofs.sets.nodes_in.Goals as goal

pub loop-k-preserved : goal.loop-k-preserved
loop-k-preserved c = c.in_ok-note.ensures ∙ rw (c.node.ensures, c.loop-k.invariant) (sym (members_more c.loop-k.k c.args.set))

pub returns : goal.returns
unfolding members
returns c =
    let e : c.loop-k.k ≡ 8 = omega (arith, c.loop-k-test.false, c.loop-k.auto.k-end) in
    c.loop-k.invariant ∙ ap (λ n. members_from 0 (take n c.args.set)) e
