use Rattle.sample_sums.proofs.Summaries.{sample_has_one_summary, samples_end_alike}
use Rattle.sample_sums.proofs.laws.samples_have_one_summary.Goals as goal

pub returns : goal.returns
returns c = record {
  end = samples_end_alike c.shipped_text_is_stache.ensures c.stache_is_accepted.ensures;
  summary = sample_has_one_summary c.shipped_text_is_stache.ensures c.stache_is_accepted.ensures;
}
