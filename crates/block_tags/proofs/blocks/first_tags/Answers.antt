use Rattle.std.proofs.Common.{◌∙◌, arith}
use Rattle.std.proofs.lemmas.List.{get_or-take, length-take-le}
use Rattle.std.proofs.lemmas.List.FromFn.{fill_by_all}
use Rattle.tw_base.specs.declared.value.Tag.TheVariants.{Invalid}
use Rattle.block_tags.proofs.blocks.first_tags.Goals as goal

pub returns-clause-long : goal.returns-clause-long
returns-clause-long c = c.loop-block.invariant.0

pub returns-clause-tags : goal.returns-clause-tags
returns-clause-tags c =
    fill_by_all _ _ _ Invalid
    (length-take-le _ _ (omega (arith, c.blocks-block-end.ensures.limits.blocks, c.loop-block.invariant.0)))
    (λ k lt. get_or-take _ _ k Invalid lt ∙ c.loop-block.invariant.1 k (omega arith))
