use Rattle.std.proofs.Common.{◌<◌, length, slice_get, refl, ap, sym, ◌∙◌, subst}
use Rattle.std.proofs.lemmas.Option.{slice_get_read}
use Rattle.tw_wire.specs.Lending.{with_recv}
use Rattle.tw_wire.proofs.ends.Ends.recv.Goals as goal

pub returns : goal.returns
returns c =
    let xs = c.args.self.now.recvs.items in
    let e = c.place.ensures in
    let within = subst (λ k. k < length xs) (sym e) c.requires in
    let at = slice_get_read xs (length xs) c.place.result c.index_mut.result.now refl within c.index_mut.ensures.value in (
      (refl, λ w. ap (λ k. with_recv c.args.self.now k w) e),
      record { writes_back = tt; value = sym (ap (λ k. slice_get xs k) e) ∙ at },
    )
