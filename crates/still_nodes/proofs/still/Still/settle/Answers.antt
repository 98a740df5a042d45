use Rattle.std.proofs.lemmas.Result.{on_err_weaker, on_ok_weaker}
use Rattle.still_nodes.proofs.Driven.{on_err}
use Rattle.still_nodes.proofs.Followed.{followed_after, followed_none, settled_after}
use Rattle.still_nodes.proofs.still.Still.settle.Goals as goal

pub returns-in_err-spread_all-clause-err : goal.returns-in_err-spread_all-clause-err
returns-in_err-spread_all-clause-err c =
    on_err c.from_residual.result (followed_none _ _ c.args.stride c.spread_all.ensures.passes)

pub returns-in_err-words-clause-err : goal.returns-in_err-words-clause-err
returns-in_err-words-clause-err c =
    on_err c.from_residual-in_err-words.result (followed_none _ _ c.args.stride c.spread_all.ensures.passes)

pub returns-clause-settled : goal.returns-clause-settled
returns-clause-settled c =
    on_ok_weaker c.follow.result (settled_after _ _ _ c.spread_all.ensures.passes c.follow.new.self) c.follow.ensures.settled

pub returns-clause-err : goal.returns-clause-err
returns-clause-err c =
    on_err_weaker c.follow.result (followed_after _ _ _ c.spread_all.ensures.passes c.follow.new.self) c.follow.ensures.err
