use Rattle.std.proofs.Common.{◌∙◌, ap, sym, take}
use Rattle.cont_store.specs.Packing.{unpacked}
use Rattle.cont_store.proofs.PackingLemmas.{unpacked-packed}
use Rattle.cont_store.proofs.packed.Small.of.Goals as goal

pub returns : goal.returns
returns c =
    let is = c.requires.packed in
    let front = ap (λ n. take n c.fill.new.room) (sym is.counted) ∙ c.fill.ensures ∙ is.kept_last in
    let values = ap (λ m. unpacked 21 m c.fill.new.room) is.masked
    ∙ unpacked-packed c.args.saved.values c.fill.new.room c.requires.all front in
    λ j. record c.args.saved { values = values j }
