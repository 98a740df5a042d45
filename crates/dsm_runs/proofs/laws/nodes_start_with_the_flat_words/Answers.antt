use Rattle.dsm_runs.proofs.WordsAtStart.{first_word}
use Rattle.dsm_runs.proofs.laws.nodes_start_with_the_flat_words.Goals as goal

pub returns : goal.returns
returns c = first_word
