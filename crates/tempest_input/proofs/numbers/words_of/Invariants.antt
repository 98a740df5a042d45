use Rattle.std.proofs.Common.{◌≡◌, [], drop}
use Rattle.tempest_input.specs.Numbers.{gathered, word_in}
use Rattle.tempest_input.proofs.numbers.words_of.Given as goal

abbrev pub invariant-loop-init : goal.invariant-loop-init
invariant-loop-init l = gathered (word_in l.size) l.done.items (drop l.init-index l.inits) ≡ gathered (word_in l.size) [] l.inits
