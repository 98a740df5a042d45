use Rattle.std.proofs.Common.{◌≡◌, ◌-◌, drop, length, replicate}
use Rattle.tw_base.specs.declared.value.Value.TheVariants.{Int}
use Rattle.compiled_handlers_tests.proofs.messages.any_values.Given as goal

abbrev pub invariant-loop-k : goal.invariant-loop-k
invariant-loop-k l = record {
  places : length l.values ≡ 4;
  unused : drop l.k l.values ≡ replicate (4 - l.k) (Int 0);
}
