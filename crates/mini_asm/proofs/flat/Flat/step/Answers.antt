use Rattle.std.proofs.Common.{◌≡◌, length, slice_get, Some, arith, refl, sym, ap, ◌∙◌}
use Rattle.std.proofs.lemmas.Option.{slice_get_read}
use Rattle.mini_asm.specs.Run.{run_one}
use Rattle.mini_asm.proofs.Steps.{running-lt, step-is}
use Rattle.mini_asm.proofs.flat.Flat.step.Goals as goal

pub returns : goal.returns
returns c =
    let inside = c.self.inside in
    let i = c.from-i.result in
    let at : i ≡ c.args.node = c.from-i.ensures ∙ c.get.ensures.value in
    let lt = running-lt inside.cores.items c.args.node (rw (← c.self.view_is) at c.requires) in
    let program : slice_get inside.programs.items i ≡ Some c.index-2.result.now =
    slice_get_read inside.programs.items (length inside.programs.items) i c.index-2.result.now refl
    (omega arith) c.index-2.ensures in
    let core : slice_get inside.cores.items i ≡ Some c.index.result.now =
    slice_get_read inside.cores.items (length inside.cores.items) i c.index.result.now refl (omega arith) c.index.ensures in
    rw (← c.self.view_is) (step-is inside.programs.items inside.cores.items inside.words.items c.args.node i
    c.index-2.result.now c.index.result.now c.run_one-act.new.core c.run_one-act.result c.run_one-act.new.words
    inside.words.len
    at program core (ap (run_one c.index-2.result.now c.index.result.now) (sym c.deref_mut.ensures.value)
    ∙ c.run_one-act.ensures) (omega (arith, c.run_one-act.auto.words, c.deref_mut.ensures.len)))
