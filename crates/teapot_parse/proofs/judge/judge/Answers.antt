use Rattle.std.proofs.Common.{sym, ◌∙◌}
use Rattle.teapot_parse.proofs.Turns.{turn-on, turn-bad, turn-end}
use Rattle.teapot_parse.proofs.judge.judge.Goals as goal

pub loop-at-preserved : goal.loop-at-preserved
loop-at-preserved c = turn-on c.args.forms.now c.loop-at.at _ c.loop-at.blocks c.next_of.new.blocks c.loop-at.place
    c.in-Some.next c.in_ok-next.field-0 _ _ c.loop-at-test.true c.index-forms-at.is c.kind_of.ensures c.in_ok-next.ensures
    c.in-Some.is c.loop-at.invariant

pub returns-in-None : goal.returns-in-None
returns-in-None c = turn-bad c.args.forms.now c.loop-at.at _ c.loop-at.blocks c.next_of.new.blocks c.loop-at.place
    c.in_ok-next.field-0 _ _ c.loop-at-test.true c.index-forms-at.is c.kind_of.ensures c.in_ok-next.ensures c.in-None.is
    c.loop-at.invariant

pub returns-then-is_end : goal.returns-then-is_end
returns-then-is_end c = turn-end c.args.forms.now c.loop-at.at c.loop-at.blocks c.loop-at.place _ _ c.loop-at-test.false
    (sym c.is_end.ensures ∙ c.if-is_end.true) c.loop-at.invariant

pub returns : goal.returns
returns c = turn-end c.args.forms.now c.loop-at.at c.loop-at.blocks c.loop-at.place _ _ c.loop-at-test.false
    (sym c.is_end.ensures ∙ c.if-is_end.false) c.loop-at.invariant
