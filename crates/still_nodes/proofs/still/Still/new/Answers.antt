use Rattle.std.proofs.Common.{◌≡◌, ℕ, ◌∙◌, [], ap, replicate, subst}
use Rattle.tw_base.specs.Shape.{Sizes}
use Rattle.still_nodes.proofs.Starting.{starts, starts_tallies, starts_whole}
use Rattle.still_nodes.proofs.still.Still.new.Goals as goal

pub invariant_of-result : goal.invariant_of-result
invariant_of-result c =
    let none =
    subst (λ (k : ℕ). c.in_ok-rows.rows.items ≡ replicate k (replicate 16 []))
    (c.nodes.ensures.value ∙ ap (λ (s : Sizes). s.nodes) c.shape.ensures.value) c.in_ok-rows.ensures in
    starts_whole c.args.setup.now c.args.code.now c.in_ok-nodes.nodes.items c.in_ok-rows.rows.items c.new.result.list
    c.in_ok-nodes.ensures.count c.in_ok-nodes.ensures.each none c.shape.ensures.valid

pub returns-clause-start : goal.returns-clause-start
returns-clause-start c =
    let none =
    subst (λ (k : ℕ). c.in_ok-rows.rows.items ≡ replicate k (replicate 16 []))
    (c.nodes.ensures.value ∙ ap (λ (s : Sizes). s.nodes) c.shape.ensures.value) c.in_ok-rows.ensures in
    starts c.args.setup.now c.args.code.now c.in_ok-nodes.nodes.items c.in_ok-rows.rows.items c.new.result.list
    c.in_ok-nodes.ensures.count c.in_ok-nodes.ensures.each none

pub returns-clause-tallies : goal.returns-clause-tallies
returns-clause-tallies c =
    let none =
    subst (λ (k : ℕ). c.in_ok-rows.rows.items ≡ replicate k (replicate 16 []))
    (c.nodes.ensures.value ∙ ap (λ (s : Sizes). s.nodes) c.shape.ensures.value) c.in_ok-rows.ensures in
    starts_tallies c.args.setup.now c.args.code.now c.in_ok-nodes.nodes.items c.in_ok-rows.rows.items c.new.result.list
    c.in_ok-nodes.ensures.count c.in_ok-nodes.ensures.each none
