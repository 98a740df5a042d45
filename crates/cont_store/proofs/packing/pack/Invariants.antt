use Rattle.std.proofs.Common.{drop}
use Rattle.cont_store.specs.Packing.{IsPacked}
use Rattle.cont_store.proofs.packing.pack.Given as goal

abbrev pub invariant-loop-place : goal.invariant-loop-place
invariant-loop-place l = IsPacked (drop l.place l.values) l.places l.count l.mask
