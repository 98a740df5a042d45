use Rattle.std.proofs.Common.{◌≡◌, rules}
use Rattle.dsm_runs.specs.Tests.{is_enabled}
use Rattle.dsm_model.specs.Globals.{setup_of, world_of}
use Rattle.dsm_model.proofs.Choosing.{two_more}
use Rattle.dsm_model.proofs.schedule.add_deliveries.Goals as goal

pub loop-number-preserved : goal.loop-number-preserved
loop-number-preserved c =
    let is : c.unwrap-from.result ≡ c.loop-number.number = search rules in
    two_more (is_enabled (setup_of c.args.g.now) (world_of c.args.g.now)) c.args.some.now c.loop-number.some _ _ c.args.at
    c.loop-number.number c.unwrap-from.result is
    c.loop-number.invariant c.in_ok-add_delivery.ensures c.in_ok-add_delivery-2.ensures
