use Rattle.std.proofs.Common.{sym, ap, unwrap_or}
use Rattle.std.proofs.lemmas.Result.{IfOk-weaker}
use Rattle.stache_tree.specs.Tree.{stache}
use Rattle.sample_runs.specs.Samples.{shipped_protocol}
use Rattle.sample_runs.proofs.setup.shipped_protocol.Goals as goal

pub returns-clause-value : goal.returns-clause-value
unfolding shipped_protocol
returns-clause-value c = IfOk-weaker c.stache.result _ _ (λ p e. sym (ap (λ o. unwrap_or o stache) e)) c.stache.ensures.text
