use Rattle.std.proofs.Common.{◌≡◌, map, take}
use Rattle.teapot_meaning.specs.Does.{zero_of}
use Rattle.dsm_model.proofs.first.zeros.Given as goal

abbrev pub invariant-loop-info : goal.invariant-loop-info
invariant-loop-info l = l.values ≡ map (λ info. zero_of info.ty) (take l.info-index l.infos)
