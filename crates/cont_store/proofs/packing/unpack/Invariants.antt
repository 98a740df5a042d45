use Rattle.std.proofs.Common.{◌≡◌, ◌-◌, ◌++◌, take, drop, replicate}
use Rattle.tw_base.specs.declared.value.Value.TheVariants.{Int}
use Rattle.cont_store.specs.Packing.{unpacked}
use Rattle.cont_store.proofs.packing.unpack.Given as goal

abbrev pub invariant-loop-place : goal.invariant-loop-place
invariant-loop-place l = record {
  due : take l.place l.values ++ unpacked (21 - l.place) l.bits l.left ≡ unpacked 21 l.mask l.packed;
  unwritten : drop l.place l.values ≡ replicate (21 - l.place) (Int 0);
}
