use Rattle.std.proofs.Common.{◌≡◌, length, drop}
use Rattle.mini_asm.specs.Run.{IsInit, with_given, first_words}
use Rattle.mini_asm.proofs.flat.first_words.Given as goal

abbrev pub invariant-loop-address : goal.invariant-loop-address
invariant-loop-address l = record {
  done : with_given (drop l.address-index l.init) l.words.items ≡ first_words l.size l.init;
  init : IsInit l.size (drop l.address-index l.init);
  count : length l.words.items ≡ l.size;
}
