-- The shipped protocol as the general part takes it: its words, its table, and what was shown of them.
use Rattle.std.proofs.Common.{refl}
use Rattle.coherence_frame.proofs.Scheme.{Scheme, Shows}
use Rattle.stache_table.specs.Handling.{handle_in}
use Rattle.coherence_inv.specs.Parts.{wording}
use Rattle.coherence_inv.proofs.Downs.{copies_at, copies_of, down_is, up_is}
use Rattle.coherence_inv.proofs.Meant.{numbers, placed_words, shown}
use Rattle.coherence_inv.proofs.Says.{says}
use Rattle.coherence_inv.proofs.Sends.{sends}
use Rattle.coherence_inv.proofs.Starting.{placed_first, state_line, tag_line}
use Rattle.coherence_frame.proofs.Rows.{AtTheHome}
use Rattle.coherence_inv.specs.Coherent.{standing}
use Rattle.coherence_inv.proofs.Turns.{request_turn}
use Rattle.coherence_inv.proofs.AnswerTurns.{answer_turn, own_turn}
use Rattle.coherence_inv.proofs.Blocks.{home_store}
use Rattle.coherence_inv.proofs.Nodes.{home_effect, own_effect}
use Rattle.coherence_inv.proofs.NoErrors.{home_answers_answer, home_answers_fault, home_answers_get}
use Rattle.coherence_inv.proofs.Paid.{paid_at_home}
use Rattle.coherence_inv.proofs.Caches.{cache_rows}
use Rattle.coherence_frame.proofs.CacheRows.{at_a_cache}

pub at_the_home : AtTheHome handle_in standing
at_the_home = record {
  request_turn = request_turn;
  answer_turn = answer_turn;
  own_turn = own_turn;
  home_store = home_store;
  home_effect = home_effect;
  own_effect = own_effect;
  home_answers_get = home_answers_get;
  home_answers_answer = home_answers_answer;
  home_answers_fault = home_answers_fault;
  paid_at_home = paid_at_home;
}

pub shows : Shows handle_in wording
shows = record {
  down_is = down_is;
  up_is = up_is;
  copies_at = copies_at;
  copies_of = copies_of;
  numbers = numbers;
  shown = shown;
  placed_words = placed_words;
  tag_line = tag_line;
  state_line = state_line;
  infos_line = refl;
  reads_none = refl;
  placed_first = placed_first;
}

abbrev pub scheme : Scheme
scheme = record {
  wording = wording;
  table = handle_in;
  sends = sends;
  says = says;
  home = at_the_home;
  cache = at_a_cache handle_in standing says cache_rows;
  shows = shows;
}
