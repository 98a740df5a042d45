use Rattle.std.proofs.Common.{◌≡◌, ◌++◌, ◌-◌, ◌≤◌, length, replicate}
use Rattle.tw_base.specs.declared.value.Value.TheVariants.{Int}
use Rattle.handler_vm.proofs.values.Slots.fill.Given as goal

abbrev pub invariant-loop : goal.invariant-loop
invariant-loop l = (l.self ≡ l.initial.self ++ replicate (l.counter - l.width) (Int 0)) × (l.width ≡ length l.initial.self)
    × (l.width ≤ l.counter) × (l.counter - l.width ≤ l.end - l.width)
