use Rattle.std.proofs.Common.{Some, ap, arith}
use Rattle.cont_store.specs.Packed.{small_whole, medium_whole}
use Rattle.cont_store.specs.Parts.{store_of}
use Rattle.cont_store.proofs.RoomLemmas.{Places-updates, Changes-small, Changes-medium, records_in-count}
use Rattle.cont_store.proofs.conts.Conts.save.Goals as goal

pub returns-in-0-to-4-clause-changes : goal.returns-in-0-to-4-clause-changes
returns-in-0-to-4-clause-changes c =
    let places = Places-updates small_whole c.self.inside.small c.insert_reserved.new.self c.insert_reserved.result _ _
    (ap Some c.of.ensures) c.insert_reserved.ensures.updates in
    rw (← c.self.view_is) (Changes-small (store_of c.self.inside) _ _ c.insert_reserved.result (Some c.args.saved) places)

pub returns-in-5-to-8-clause-changes : goal.returns-in-5-to-8-clause-changes
returns-in-5-to-8-clause-changes c =
    let places = Places-updates medium_whole c.self.inside.medium c.insert_reserved-in-5-to-8.new.self
    c.insert_reserved-in-5-to-8.result _ _ (ap Some c.of-in-5-to-8.ensures) c.insert_reserved-in-5-to-8.ensures.updates in
    rw (← c.self.view_is) (Changes-medium (store_of c.self.inside) _ _ c.insert_reserved-in-5-to-8.result
    (Some c.args.saved) places)

pub returns-in-5-to-8-clause-count : goal.returns-in-5-to-8-clause-count
returns-in-5-to-8-clause-count c =
    let old = records_in-count medium_whole c.self.inside.medium.slots in
    let new = records_in-count medium_whole c.insert_reserved-in-5-to-8.new.self.slots in
    rw (← c.self.view_is) (omega (arith, old, new, c.insert_reserved-in-5-to-8.ensures.len))
