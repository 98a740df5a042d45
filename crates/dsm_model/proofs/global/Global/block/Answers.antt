use Rattle.std.proofs.Common.{◌≡◌, List, Some, sym, ap, ◌∙◌, arith}
use Rattle.std.specs.Prelude.{slice_get}
use Rattle.dsm_model.specs.declared.local.Local.{Local as Node}
use Rattle.dsm_model.proofs.Copies.{block_of_node, block_within}
use Rattle.dsm_model.proofs.Posting.{element_at}
use Rattle.dsm_model.proofs.global.Global.block.Goals as goal

pub block_at-requires : goal.block_at-requires
block_at-requires c =
    let g = c.args.self.now in
    let nodes : List Node = g.locals.items in
    let l : Node = c.index.result.now in
    let at : slice_get nodes c.args.node ≡ Some l =
    element_at nodes c.from.result c.args.node l (c.from.ensures ∙ c.get.ensures.value)
    (omega (arith, c.requires.node, g.kept.nodes)) ∙ ap (λ (n : Node). Some n) (sym c.index.ensures) in
    block_within g.setup.now nodes c.args.node c.args.block l g.kept.sound at c.requires.block

pub returns : goal.returns
returns c =
    let g = c.args.self.now in
    let nodes : List Node = g.locals.items in
    let l : Node = c.index.result.now in
    let at : slice_get nodes c.args.node ≡ Some l =
    element_at nodes c.from.result c.args.node l (c.from.ensures ∙ c.get.ensures.value)
    (omega (arith, c.requires.node, g.kept.nodes)) ∙ ap (λ (n : Node). Some n) (sym c.index.ensures) in
    block_of_node g.setup.now nodes c.args.node c.args.block l c.block_at.result.now at c.block_at.ensures
