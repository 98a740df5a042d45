use Rattle.std.proofs.Common.{◌≡◌, ◌∙◌, ◌-◌, ◌+◌, suc, sym, ap, arith}
use Rattle.event_masks.specs.Told.{true_at}
use Rattle.node_parts.specs.Truths.{truths}
use Rattle.event_masks.proofs.Bits.{cleared, lowest, none_low, none_set}
use Rattle.event_masks.proofs.masks.nth_told.Goals as goal

pub loop-passed-init : goal.loop-passed-init
loop-passed-init c =
    let e : c.args.k ≡ c.args.k - 0 = omega arith in
    ap (λ k. true_at (truths c.args.places c.args.word) k) e

pub returns-then-left-eq0 : goal.returns-then-left-eq0
returns-then-left-eq0 c =
    sym (c.loop-passed.invariant
    ∙ ap (λ w. true_at (truths c.args.places w) (c.args.k - c.loop-passed.passed)) c.if-left-eq0.true
    ∙ none_set c.args.places (c.args.k - c.loop-passed.passed))

pub loop-passed-preserved : goal.loop-passed-preserved
loop-passed-preserved c =
    let more : c.args.k - c.loop-passed.passed ≡ suc (c.args.k - (c.loop-passed.passed + 1)) = omega arith in
    c.loop-passed.invariant ∙ ap (λ k. true_at (truths c.args.places c.loop-passed.left) k) more
    ∙ cleared c.args.places c.loop-passed.left (c.args.k - (c.loop-passed.passed + 1)) (omega arith)

pub returns-then-place-from : goal.returns-then-place-from
returns-then-place-from c =
    let end : c.args.k - c.loop-passed.passed ≡ 0 = omega arith in
    sym (c.loop-passed.invariant ∙ ap (λ k. true_at (truths c.args.places c.loop-passed.left) k) end
    ∙ none_low c.args.places 32 c.loop-passed.left c.requires (omega arith))

pub returns : goal.returns
returns c =
    let end : c.args.k - c.loop-passed.passed ≡ 0 = omega arith in
    sym (c.loop-passed.invariant ∙ ap (λ k. true_at (truths c.args.places c.loop-passed.left) k) end
    ∙ lowest c.args.places 32 c.loop-passed.left c.requires (omega arith))
