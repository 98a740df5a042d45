use Rattle.std.proofs.Common.{◌≡◌, ◌+◌, ◌∷◌, drop, arith, sym, ◌∙◌}
use Rattle.dsm_runs.specs.Flat.{reading}
use Rattle.journal.specs.History.{break_at}
use Rattle.journal.proofs.Breaking.{entry-at, none-left, turn-broken, turn-ended, turn-same, turn-silent}
use Rattle.journal.proofs.history.first_break.Goals as goal
use Rattle.journal.proofs.history.first_break.Goals.{then-is_completed+in_ok-act+else-is_some, else-is_completed}

pub returns-in_err-act : goal.returns-in_err-act
returns-in_err-act c =
    let k = c.loop-event.event in
    let e = c.index-journal-event.result in
    c.from_residual.ensures
    ∙ turn-ended c.loop-event.flat k c.args.journal.now e _ (entry-at c.args.journal.now k e c.loop-event-test.true
    c.index-journal-event.is) (sym c.is_completed.ensures ∙ c.if-is_completed.true)
    c.in_err-act.ensures.none c.loop-event.invariant

pub returns-then-is_some : goal.returns-then-is_some
returns-then-is_some c =
    let k = c.loop-event.event in
    let e = c.index-journal-event.result in
    let is : break_at k e.node (reading e.act) (reading c.in_ok-act.act) ≡ c.break_at-found.result =
    rw (← c.reading.ensures, ← c.reading-then-is_completed.ensures) (sym c.break_at-found.ensures) in
    turn-broken c.loop-event.flat c.flat_step.new.flat k c.args.journal.now e c.in_ok-act.act c.break_at-found.result _
    (entry-at c.args.journal.now k e c.loop-event-test.true c.index-journal-event.is)
    (sym c.is_completed.ensures ∙ c.if-is_completed.true) c.in_ok-act.ensures.value is
    (sym c.is_some.ensures ∙ c.if-is_some.true) c.loop-event.invariant

pub loop-event-preserved : goal.loop-event-preserved
loop-event-preserved c =
    let k = c.loop-event.event in
    let e = c.index-journal-event.result in
    let at : drop k c.args.journal.now ≡ e ∷ drop (k + 1) c.args.journal.now =
    entry-at c.args.journal.now k e c.loop-event-test.true c.index-journal-event.is in
    elim c.if-is_completed.branch [
      | then-is_completed+in_ok-act+else-is_some w ↦
          let is : break_at k e.node (reading e.act) (reading w.in_ok-act.act) ≡ w.break_at-found.result =
          rw (← w.reading.ensures, ← w.reading-then-is_completed.ensures) (sym w.break_at-found.ensures) in
          rw w.flat-is (turn-same c.loop-event.flat w.flat_step.new.flat k c.args.journal.now e w.in_ok-act.act
          w.break_at-found.result _ at (sym c.is_completed.ensures ∙ w.if-is_completed.true)
          w.in_ok-act.ensures.value is (sym w.is_some.ensures ∙ w.if-is_some.false) c.loop-event.invariant)
      | else-is_completed w ↦ rw w.flat-is (turn-silent c.loop-event.flat k c.args.journal.now e _ at
          (sym c.is_completed.ensures ∙ w.if-is_completed.false) c.loop-event.invariant)
    ]

pub returns : goal.returns
returns c = none-left c.loop-event.flat c.loop-event.event c.args.journal.now _ (omega arith) c.loop-event.invariant
