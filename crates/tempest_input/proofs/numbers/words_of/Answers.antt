use Rattle.std.proofs.lemmas.List.{drop_more}
use Rattle.std.proofs.lemmas.Result.{err_from_is_err_and}
use Rattle.tempest_input.specs.Numbers.{word_in}
use Rattle.tempest_input.proofs.Gathering.{gathered-turn, gathered-fault, gathered-end}
use Rattle.tempest_input.proofs.numbers.words_of.Goals as goal

pub returns-in_err-word_in : goal.returns-in_err-word_in
returns-in_err-word_in c =
    let p = err_from_is_err_and c.from_residual.result c.from_residual.ensures.1 in
    rw (p.1, p.2) (gathered-fault (word_in c.args.size) _ _ c.deref.ensures.value c.args.inits.now c.loop-init.init-index _
    (drop_more _ _ _ c.loop-init-test.true) _ _ c.in_err-word_in.ensures c.loop-init.invariant)

pub loop-init-preserved : goal.loop-init-preserved
loop-init-preserved c =
    rw c.in_ok-push.ensures.items (gathered-turn (word_in c.args.size) _ _ c.deref.ensures.value c.args.inits.now
    c.loop-init.init-index _ (drop_more _ _ _ c.loop-init-test.true) _ _ c.in_ok-word_in.ensures c.loop-init.invariant)

pub returns : goal.returns
returns c = gathered-end (word_in c.args.size) c.loop-init.done.items c.args.inits.now c.loop-init.init-index _
    c.loop-init-test.false c.loop-init.invariant
