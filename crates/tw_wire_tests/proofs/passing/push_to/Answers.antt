use Rattle.std.proofs.Common.{length}
use Rattle.tw_wire.specs.Lending.{shown}
use Rattle.tw_wire.proofs.Keeping.{send-keeps}
use Rattle.tw_wire_tests.proofs.passing.push_to.Goals as goal

pub returns-in-Ok : goal.returns-in-Ok
returns-in-Ok g c = send-keeps (length c.args.wires.now) c.args.wires.now c.args.message.now.from (shown c.args.ends.now)
    c.args.message.now.to c.args.message.now.chan c.send-pass.result.now c.push.new.pass c.requires.ends
    c.send-pass.ensures.value c.push.ensures.wire

pub returns-in-Err : goal.returns-in-Err
returns-in-Err g c = send-keeps (length c.args.wires.now) c.args.wires.now c.args.message.now.from (shown c.args.ends.now)
    c.args.message.now.to c.args.message.now.chan c.send-pass.result.now c.push.new.pass c.requires.ends
    c.send-pass.ensures.value c.push.ensures.wire
