use Rattle.std.proofs.Common.{◌≡◌, ◌-◌, List, ℕ, ◌∙◌, arith, sym, ap, map, rules, replicate}
use Rattle.std.proofs.Math.Seq.{drop-length}
use Rattle.std.specs.List.{range_with_len}
use Rattle.block_tags.specs.Copies.{init_value}
use Rattle.block_tags.proofs.Words.{no_values, values_before}
use Rattle.block_tags.proofs.blocks.first_words.Goals as goal

pub loop-at-init : goal.loop-at-init
loop-at-init c =
    let e : c.in_ok-words.words.items ≡ replicate c.args.size 0 = search rules in
    e ∙ no_values c.args.size ∙ ap (λ (z : List (ℕ × ℕ)). map (init_value z) (range_with_len 0 c.args.size))
    (sym (drop-length c.args.init.now))

pub loop-at-preserved : goal.loop-at-preserved
loop-at-preserved c =
    rw c.loop-at.invariant (values_before c.args.init.now c.args.size c.loop-at.at c.loop-at-test.true c.loop-at.auto.at
    (c.requires (c.loop-at.at - 1) (0, 0) (omega (arith, c.loop-at.auto.at))))
