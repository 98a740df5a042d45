-- Stache_L as the general part takes it: its words, its table, and what was shown of them.
use Rattle.std.proofs.Common.{refl}
use Rattle.coherence_frame.proofs.Scheme.{Scheme, Shows}
use Rattle.stache_l_table.specs.Handling.{handle_in}
use Rattle.stache_l_inv.specs.Parts.{wording}
use Rattle.stache_l_inv.proofs.Downs.{down_is, up_is}
use Rattle.stache_l_inv.proofs.Meant.{placed_words, shown}
use Rattle.coherence_inv.proofs.Downs.{copies_at, copies_of}
use Rattle.coherence_inv.proofs.Meant.{numbers}
use Rattle.stache_l_inv.proofs.Says.{says}
use Rattle.stache_l_inv.proofs.Sends.{sends}
use Rattle.stache_l_inv.proofs.Starting.{placed_first, state_line, tag_line}
use Rattle.coherence_frame.proofs.Rows.{AtTheHome}
use Rattle.stache_l_inv.specs.Coherent.{standing}
use Rattle.stache_l_inv.proofs.Turns.{request_turn}
use Rattle.stache_l_inv.proofs.AnswerTurns.{answer_turn, own_turn}
use Rattle.stache_l_inv.proofs.Blocks.{home_store}
use Rattle.stache_l_inv.proofs.Nodes.{home_effect, own_effect}
use Rattle.stache_l_inv.proofs.NoErrors.{home_answers_answer, home_answers_fault, home_answers_get}
use Rattle.stache_l_inv.proofs.Paid.{paid_at_home}
use Rattle.stache_l_inv.proofs.Caches.{cache_rows}
use Rattle.coherence_frame.proofs.CacheRows.{at_a_cache}

pub at_the_home : AtTheHome handle_in standing
at_the_home = record {
  request_turn = request_turn;
  answer_turn = answer_turn;
  own_turn = own_turn;
  home_store = home_store;
  home_effect = home_effect;
  own_effect = own_effect;
  home_answers_get = home_answers_get;
  home_answers_answer = home_answers_answer;
  home_answers_fault = home_answers_fault;
  paid_at_home = paid_at_home;
}

pub shows : Shows handle_in wording
shows = record {
  down_is = down_is;
  up_is = up_is;
  copies_at = copies_at;
  copies_of = copies_of;
  numbers = numbers;
  shown = shown;
  placed_words = placed_words;
  tag_line = tag_line;
  state_line = state_line;
  infos_line = refl;
  reads_none = refl;
  placed_first = placed_first;
}

abbrev pub scheme : Scheme
scheme = record {
  wording = wording;
  table = handle_in;
  sends = sends;
  says = says;
  home = at_the_home;
  cache = at_a_cache handle_in standing says cache_rows;
  shows = shows;
}
