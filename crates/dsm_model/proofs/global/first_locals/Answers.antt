use Rattle.std.proofs.Common.{◌≡◌, ◌∷◌, [], ap, length, length-append, refl, sym, subst, ◌∙◌, arith}
use Rattle.dsm_runs.specs.Locals.{first}
use Rattle.dsm_model.specs.Views.{local_of}
use Rattle.dsm_model.proofs.Starting.{locals_push, none_sound, sound_push}
use Rattle.dsm_model.proofs.global.first_locals.Goals as goal

pub loop-number-init : goal.loop-number-init
loop-number-init c = record {
  count = ap length c.new-locals.ensures.items;
  sound = rw c.new-locals.ensures.items (none_sound c.args.setup.now);
  each = rw c.new-locals.ensures.items (λ i. refl);
}

pub loop-number-preserved : goal.loop-number-preserved
loop-number-preserved c =
    let s = c.args.setup.now in
    let xs = c.loop-number.locals.items in
    let l = c.in_ok-first.field-0 in
    let at = rw c.unwrap-me.ensures at c.new.ensures in
    let here = subst (λ k. local_of s k l ≡ first s k) (at.1 ∙ sym c.loop-number.invariant.count) c.in_ok-first.ensures.same in
    record {
      count = omega (arith, ap length c.in_ok-push.ensures.items, length-append xs (l ∷ []), c.loop-number.invariant.count);
      sound = rw c.in_ok-push.ensures.items (sound_push s xs l c.loop-number.invariant.sound c.in_ok-first.ensures.sound);
      each = rw c.in_ok-push.ensures.items (locals_push s xs l c.loop-number.invariant.each here);
    }
