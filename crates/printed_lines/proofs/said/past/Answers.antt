use Rattle.std.proofs.Common.{arith}
use Rattle.printed_lines.proofs.Passing.{past-ends, past-goes, past-short, past-stops}
use Rattle.printed_lines.proofs.said.past.Goals as goal

pub returns-then-said-tokens : goal.returns-then-said-tokens
returns-then-said-tokens c = past-short c.args.said.now c.args.tokens.now c.if-said-tokens.true

pub returns-then-not-same_what : goal.returns-then-not-same_what
returns-then-not-same_what c =
    past-stops c.args.said.now c.args.tokens.now c.loop-at.at _ c.index-tokens-at.result c.same_what.result _
    c.loop-at-test.true (omega arith) c.same_what.ensures c.if-not-same_what.true
    c.loop-at.invariant

pub loop-at-preserved : goal.loop-at-preserved
loop-at-preserved c =
    past-goes c.args.said.now c.args.tokens.now c.loop-at.at _ c.index-tokens-at.result c.same_what.result _
    c.loop-at-test.true (omega arith) c.same_what.ensures c.if-not-same_what.false
    c.loop-at.invariant

pub returns : goal.returns
returns c = past-ends c.args.said.now c.args.tokens.now c.split_at.result.1.now c.loop-at.at _ (omega arith)
    (omega arith) c.split_at.ensures.back c.loop-at.invariant
