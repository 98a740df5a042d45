use Rattle.std.proofs.Common.{◌≡◌, drop}
use Rattle.report_audit.specs.Nodes.{wrong_node}
use Rattle.report_audit.proofs.nodes.wrong_node.Given as goal

abbrev pub invariant-loop-line : goal.invariant-loop-line
invariant-loop-line l = wrong_node l.events l.flat (drop l.line-index l.lines) ≡ wrong_node l.events l.flat l.lines
