use Rattle.std.proofs.Common.{◌≡◌, ◌∙◌, ◌+◌, ◌-◌, ◌<◌, ◌^◌, ap, drop, arith, length-drop, subst, sym}
use Rattle.cont_store.specs.Packing.{IsPacked, is_zero, mask_of}
use Rattle.cont_store.proofs.PackingLemmas.{mask_of-fits, packed-same}
use Rattle.cont_store.proofs.packing.pack.Goals as goal

pub overflow_mul-mask : goal.overflow_mul-mask
overflow_mul-mask c =
    let l = c.loop-place in
    let fits : mask_of (drop l.place c.args.values.now) < 2 ^ 21 =
    mask_of-fits 21 _ (omega (arith, length-drop l.place c.args.values.now, c.type_inv.values)) in
    omega (arith, fits, l.invariant.masked)

pub overflow_add-mask : goal.overflow_add-mask
overflow_add-mask c =
    let l = c.loop-place in
    let fits : mask_of (drop l.place c.args.values.now) < 2 ^ 21 =
    mask_of-fits 21 _ (omega (arith, length-drop l.place c.args.values.now, c.type_inv.values)) in
    omega (arith, fits, l.invariant.masked)

pub loop-place-preserved : goal.loop-place-preserved
loop-place-preserved c =
    let l = c.loop-place in
    let here : l.place ≡ l.place - 1 + 1 = omega arith in
    let p : IsPacked (drop (l.place - 1 + 1) c.args.values.now) l.places l.count l.mask =
    subst (λ n. IsPacked (drop n c.args.values.now) l.places l.count l.mask) here l.invariant in
    packed-same c.args.values.now l.places (l.place - 1) l.count l.mask c.index-values-place.result p c.type_inv.values
    (omega arith) c.index-values-place.is (ap is_zero c.index-values-place.is ∙ sym c.is_zero.ensures
    ∙ c.if-not-is_zero.false)
