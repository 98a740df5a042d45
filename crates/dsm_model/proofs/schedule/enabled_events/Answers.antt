use Rattle.std.proofs.Common.{◌≡◌, rules}
use Rattle.dsm_runs.specs.Tests.{is_enabled}
use Rattle.dsm_model.specs.Globals.{setup_of, world_of}
use Rattle.dsm_model.proofs.Choosing.{node_more}
use Rattle.dsm_model.proofs.schedule.enabled_events.Goals as goal

pub loop-number-preserved : goal.loop-number-preserved
loop-number-preserved c =
    let is : c.unwrap-node.result ≡ c.loop-number.number = search rules in
    node_more (is_enabled (setup_of c.args.g.now) (world_of c.args.g.now)) c.loop-number.some _
    (setup_of c.args.g.now).shape.nodes c.loop-number.number c.unwrap-node.result is
    c.loop-number.invariant c.in_ok-add_enabled.ensures
