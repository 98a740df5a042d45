use Rattle.std.proofs.Common.{◌≡◌, drop, map}
use Rattle.teapot_tree.specs.declared.protocol.Param.{Param}
use Rattle.code_walks.specs.Kinds.{pushed_on}
use Rattle.code_walks.proofs.kinds.push_params.Given as goal

abbrev pub invariant-loop-a : goal.invariant-loop-a
invariant-loop-a l = pushed_on l.stack (map (λ (a : Param). a.ty) (drop l.a-index l.params))
    ≡ pushed_on l.initial.stack (map (λ (a : Param). a.ty) l.params)
