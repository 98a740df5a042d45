use Rattle.tempest_run.proofs.Refused.{Laws, kinds, never_both, no-memory, one_refusal, valid_or_refused}
use Rattle.tempest_run.proofs.laws.text_is_valid_or_refused.Goals as goal

pub returns : goal.returns
returns c =
    let laws : Laws = record {
      early = c.input_is_valid_or_refused.ensures.kinds;
      no_memory = c.input_is_valid_or_refused.ensures.no_memory;
      layout = c.layout_is_read_both_ways.ensures;
      text_lines = c.texts_have_text_lines.ensures;
      given = c.read_trees_are_given.ensures;
      read = c.given_lines_are_read.ensures;
      refuses = c.refusals_are_first.ensures;
      refused = c.refusals_are_exact.ensures;
      stache = c.shipped_text_is_stache.ensures;
      stache_d = c.text_is_stache_d.ensures;
      stache_l = c.text_is_stache_l.ensures;
    } in
    record {
      some = valid_or_refused laws;
      apart = never_both laws;
      one = one_refusal laws;
      kinds = kinds laws;
      no_memory = no-memory laws;
    }
