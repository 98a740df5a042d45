use Rattle.std.proofs.Common.{◌%◌, ap}
use Rattle.cont_store.proofs.PackingLemmas.{bit-unset, taken-none, left_after-none, taken-unset, left_after-unset, unpack-skip}
use Rattle.cont_store.proofs.PackingLemmas.{unpack-fill, unpack-done}
use Rattle.cont_store.proofs.packing.unpack.Goals as goal
use Rattle.cont_store.proofs.packing.unpack.Goals.{then-bits-eq1+in_default, then-bits-eq1+in-len1-up, else-bits-eq1}

pub loop-place-preserved : goal.loop-place-preserved
loop-place-preserved c =
    let l = c.loop-place in
    let j = c.if-bits-eq1 in
    elim c.if-bits-eq1.branch [
      | then-bits-eq1+in_default w ↦
          let none = w.in_default.len_below in
          unpack-skip l.values j.values l.place l.bits l.left.now j.left.now _ c.loop-place-test.true w.values-is
          (ap (λ b. b.now) w.left-is) (taken-none _ _ none) (left_after-none _ _ none) l.invariant.unwritten l.invariant.due
      | then-bits-eq1+in-len1-up w ↦
          unpack-fill l.values j.values l.place l.bits l.left.now j.left.now _ w.first-item.result c.loop-place-test.true
          w.values-is (ap (λ b. b.now) w.left-is) w.first-item.is w.in-len1-up.len_at_least w.if-bits-eq1.true
          l.invariant.unwritten l.invariant.due
      | else-bits-eq1 w ↦
          let unset = bit-unset (l.bits % 2) w.if-bits-eq1.false in
          unpack-skip l.values j.values l.place l.bits l.left.now j.left.now _ c.loop-place-test.true w.values-is
          (ap (λ b. b.now) w.left-is) (taken-unset _ _ unset)
          (left_after-unset _ _ unset) l.invariant.unwritten l.invariant.due
    ]

pub returns : goal.returns
returns c =
    let l = c.loop-place in
    unpack-done l.values l.place c.args.mask l.bits l.left.now _ l.auto.place-end c.loop-place-test.false l.invariant.unwritten
    l.invariant.due
