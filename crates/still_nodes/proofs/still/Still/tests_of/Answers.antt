use Rattle.std.proofs.Common.{◌∙◌, ◌<◌, subst, sym}
use Rattle.still_meaning.specs.Stills.{StillShown}
use Rattle.still_nodes.specs.Telling.{IsWordAt}
use Rattle.still_nodes.specs.Parts.{all_of}
use Rattle.still_nodes.proofs.Written.{tests_read}
use Rattle.still_nodes.proofs.still.Still.tests_of.Goals as goal

pub returns : goal.returns
returns c =
    let i = c.self.inside in
    let a : StillShown = all_of i.setup.now i.code.now i.nodes.items i.rows.items i.taken.list in
    let l = subst (λ (x : StillShown). c.args.node < x.setup.shape.nodes) (sym c.self.view_is) c.requires in
    subst (λ (x : StillShown). IsWordAt x c.args.node c.tests.result) c.self.view_is
    (tests_read a c.self.invariant c.from.result c.args.node c.index.result.now c.tests.result l
    (c.from.ensures ∙ c.get.ensures.value) c.index.ensures c.tests.ensures.tests c.tests.ensures.small)
