use Rattle.std.proofs.Common.{◌≡◌, take}
use Rattle.std.specs.Prelude.{map}
use Rattle.teapot_meaning.specs.Steps.{out_to}
use Rattle.teapot_interpreter.proofs.step.outs.Given as goal

abbrev pub invariant-loop-node : goal.invariant-loop-node
invariant-loop-node l = l.outs ≡ map (out_to l.number l.args l.payload) (take l.node-index l.nodes)
