use Rattle.std.proofs.Common.{◌≡◌, take}
use Rattle.std.specs.List.{flat_map}
use Rattle.teapot_meaning.specs.Names.{errors_in}
use Rattle.teapot_meaning.proofs.errors.handler_errors.Given as goal

abbrev pub invariant-loop-handler : goal.invariant-loop-handler
invariant-loop-handler l = l.names ≡ flat_map (λ h. errors_in h.body) (take l.handler-index l.handlers)
