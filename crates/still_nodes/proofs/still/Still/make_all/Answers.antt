use Rattle.std.proofs.Common.{◌+◌, ap, refl, sym}
use Rattle.still_nodes.proofs.Driven.{IsTurn, drives_at_most, drives_more, drives_start, none_at_end, on_err, stopped_at}
use Rattle.still_nodes.proofs.still.Still.make_all.Goals as goal

pub loop-event-init : goal.loop-event-init
loop-event-init c = record {
  drives = drives_start c.args.self.now c.args.events.now;
  count = refl;
  spread = c.requires.spread;
  told = c.requires.told;
}

pub returns-then-not-may_make-clause-stopped : goal.returns-then-not-may_make-clause-stopped
returns-then-not-may_make-clause-stopped c = λ e there.
    let turn : IsTurn c.args.events.now c.loop-event.count c.event-item.result = record {
      number = c.loop-event.event-index;
      same = c.loop-event.invariant.count;
      within = c.loop-event-test.true;
      is = sym c.event-item.is;
    } in
    stopped_at c.loop-event.self _ _ _ e turn c.if-not-may_make.ensures there

pub returns-in_err-make-clause-err : goal.returns-in_err-make-clause-err
returns-in_err-make-clause-err c =
    let turn : IsTurn c.args.events.now c.loop-event.count c.event-item.result = record {
      number = c.loop-event.event-index;
      same = c.loop-event.invariant.count;
      within = c.loop-event-test.true;
      is = sym c.event-item.is;
    } in
    on_err c.from_residual.result (drives_at_most _ _ _ _ _ _ turn c.loop-event.invariant.drives c.in_err-make.ensures.err)

pub loop-event-preserved : goal.loop-event-preserved
loop-event-preserved c =
    let turn : IsTurn c.args.events.now c.loop-event.count c.event-item.result = record {
      number = c.loop-event.event-index;
      same = c.loop-event.invariant.count;
      within = c.loop-event-test.true;
      is = sym c.event-item.is;
    } in
    record {
      drives = drives_more _ _ _ _ _ _ turn c.loop-event.invariant.drives c.in_ok-make.ensures.made;
      count = ap (λ k. k + 1) c.loop-event.invariant.count;
      spread = c.in_ok-make.ensures.spread;
      told = c.in_ok-make.ensures.told;
    }

pub returns-clause-stopped : goal.returns-clause-stopped
returns-clause-stopped c = λ e there.
    absurd (none_at_end c.args.events.now _ _ e c.loop-event.invariant.count c.loop-event-test.false there)
