use Rattle.std.proofs.Common.{◌≡◌, ℕ, ◌<◌, Bool, true, false, Some, sym, ap, ◌∙◌, arith}
use Rattle.tw_base.specs.Shape.{Sizes}
use Rattle.tw_base.specs.declared.value.Tag.{Tag}
use Rattle.block_tags.specs.Copies.{permits}
use Rattle.journal.proofs.Seeking.{found, skipped}
use Rattle.journal.proofs.gathered.least_node.Goals as goal

pub loop-number-preserved : goal.loop-number-preserved
loop-number-preserved g c =
    let nodes = c.args.nodes.now in
    let n = (g.N.Nodes.shape nodes).nodes in
    let p : ℕ → Bool = λ i. permits (g.N.Nodes.tag nodes i c.args.block) c.args.store in
    let k = c.loop-number.number in
    let at = rw c.unwrap-node.ensures at c.new.ensures in
    let nodes_same = ap (λ (s : Sizes). s.nodes) c.shape.ensures.value in
    let below : k < n = omega (arith, c.loop-number-test.true, c.nodes-number-end.ensures.value, nodes_same) in
    let fails : p k ≡ false = ap p (sym at.1) ∙ ap (λ (t : Tag). permits t c.args.store) (sym c.tag.ensures)
    ∙ sym c.permits.ensures ∙ c.if-permits.false in
    c.loop-number.invariant ∙ skipped p k n below fails

pub returns-then-permits : goal.returns-then-permits
returns-then-permits g c =
    let nodes = c.args.nodes.now in
    let n = (g.N.Nodes.shape nodes).nodes in
    let p : ℕ → Bool = λ i. permits (g.N.Nodes.tag nodes i c.args.block) c.args.store in
    let k = c.loop-number.number in
    let at = rw c.unwrap-node.ensures at c.new.ensures in
    let nodes_same = ap (λ (s : Sizes). s.nodes) c.shape.ensures.value in
    let below : k < n = omega (arith, c.loop-number-test.true, c.nodes-number-end.ensures.value, nodes_same) in
    let passes : p k ≡ true = ap p (sym at.1) ∙ ap (λ (t : Tag). permits t c.args.store) (sym c.tag.ensures)
    ∙ sym c.permits.ensures ∙ c.if-permits.true in
    ap (λ (node : ℕ). Some node) at.1 ∙ sym (c.loop-number.invariant ∙ found p k n below passes)
