use Rattle.std.proofs.Common.{◌<◌, subst, sym}
use Rattle.std.proofs.Math.Seq.{take-set-lt}
use Rattle.block_tags.specs.Copies.{Copies}
use Rattle.block_tags.proofs.blocks.Blocks.set_tag.Goals as goal

pub returns : goal.returns
returns c =
    let h : c.args.block < c.self.inside.shape.blocks = subst (λ (m : Copies). c.args.block < m.shape.blocks)
    (sym c.self.view_is) c.requires in
    rw (← c.self.view_is, c.set.ensures, c.get.ensures.value, take-set-lt _ _ _ _ h)
