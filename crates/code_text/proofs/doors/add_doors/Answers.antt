use Rattle.handler_code.specs.declared.code.Kind2.TheVariants.{RdFault}
use Rattle.code_text.specs.Texts.{door_text}
use Rattle.printed_text.proofs.Growing.{grown_at}
use Rattle.code_text.proofs.doors.add_doors.Goals as goal

pub loop-number-preserved : goal.loop-number-preserved
loop-number-preserved c =
    grown_at (door_text c.args.names.now.protocol.now c.args.code.now) c.args.out.now c.loop-number.out c.add_door.new.out
    c.items-doors.result.now c.loop-number.number (record { state = 0; on = RdFault; at = 0; slots = 0 })
    c.loop-number-test.true c.loop-number.invariant c.in_ok-add_door.ensures
