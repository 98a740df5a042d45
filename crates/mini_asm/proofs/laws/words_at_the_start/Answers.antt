use Rattle.std.proofs.Common.{replicate, ◌∙◌}
use Rattle.std.proofs.lemmas.List.{length-replicate}
use Rattle.mini_asm.proofs.Starts.{length-first_words, with_given-at, with_given-apart, zeros}
use Rattle.mini_asm.proofs.laws.words_at_the_start.Goals as goal

pub returns-clause-count : goal.returns-clause-count
returns-clause-count c = length-first_words

pub returns-clause-given : goal.returns-clause-given
returns-clause-given c = λ size address value before after init. with_given-at address value before after
    (replicate size 0) size (length-replicate size 0) init

pub returns-clause-others : goal.returns-clause-others
returns-clause-others c = λ size address init apart. with_given-apart address init (replicate size 0) apart ∙ zeros size address
