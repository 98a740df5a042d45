use Rattle.std.proofs.Common.{◌≡◌, ◌+◌, drop, length}
use Rattle.std.specs.List.{flat_map}
use Rattle.handler_vm.proofs.search.handlers_in.Given as goal

-- the handlers counted, and those of the states that are left, are all
abbrev pub invariant-loop-state : goal.invariant-loop-state
invariant-loop-state l = l.count + length (flat_map (λ s. s.handlers) (drop l.state-index l.states))
    ≡ length (flat_map (λ s. s.handlers) l.states)
