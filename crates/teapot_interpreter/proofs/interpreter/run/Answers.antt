use Rattle.teapot_meaning.proofs.Served.{served}
use Rattle.teapot_interpreter.proofs.interpreter.run.Goals as goal

pub run_in-requires-clause-served : goal.run_in-requires-clause-served
run_in-requires-clause-served c = rw c.protocol.ensures.value (served c.args.p.now c.protocol.ensures.accepted)
