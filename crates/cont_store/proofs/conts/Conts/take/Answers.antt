use Rattle.std.proofs.Common.{None, refl}
use Rattle.cont_store.specs.Packed.{small_whole, medium_whole}
use Rattle.cont_store.specs.Parts.{store_of}
use Rattle.cont_store.proofs.RoomLemmas.{Places-updates, Changes-small, Changes-medium, Changes-at}
use Rattle.cont_store.proofs.conts.Conts.take.Goals as goal

pub returns-in-0-clause-changes : goal.returns-in-0-clause-changes
returns-in-0-clause-changes c =
    let key = c.args.key in
    let places = Places-updates small_whole c.self.inside.small c.remove.new.self key.at _ _ refl c.remove.ensures.updates in
    rw (← c.self.view_is) (Changes-at _ _ 0 key None c.in-0.is (Changes-small (store_of c.self.inside) _ _ key.at None places))

pub returns-in-1-clause-changes : goal.returns-in-1-clause-changes
returns-in-1-clause-changes c =
    let key = c.args.key in
    let places = Places-updates medium_whole c.self.inside.medium c.remove-in-1.new.self key.at _ _ refl
    c.remove-in-1.ensures.updates in
    rw (← c.self.view_is) (Changes-at _ _ 1 key None c.in-1.is (Changes-medium (store_of c.self.inside) _ _ key.at None places))
