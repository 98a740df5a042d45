use Rattle.std.proofs.lemmas.Result.{IfOk-weaker, on_err_weaker}
use Rattle.still_nodes.proofs.Driven.{drives_after, drives_none, on_err}
use Rattle.still_nodes.proofs.still.Still.drive.Goals as goal

pub returns-in_err-spread_all-clause-err : goal.returns-in_err-spread_all-clause-err
returns-in_err-spread_all-clause-err c =
    on_err c.from_residual.result (0, drives_none _ _ c.args.events.now c.spread_all.ensures.passes)

pub returns-in_err-words-clause-err : goal.returns-in_err-words-clause-err
returns-in_err-words-clause-err c =
    on_err c.from_residual-in_err-words.result (0, drives_none _ _ c.args.events.now c.spread_all.ensures.passes)

pub returns-clause-made : goal.returns-clause-made
returns-clause-made c =
    IfOk-weaker c.make_all.result _ _ (λ k d. drives_after _ _ _ _ k c.spread_all.ensures.passes d) c.make_all.ensures.made

pub returns-clause-err : goal.returns-clause-err
returns-clause-err c =
    on_err_weaker c.make_all.result (λ d. (d.0, drives_after _ _ _ _ d.0 c.spread_all.ensures.passes d.1)) c.make_all.ensures.err
