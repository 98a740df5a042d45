use Rattle.std.proofs.Common.{◌≡◌, drop, length}
use Rattle.report_audit.specs.Executing.{begun, executed}
use Rattle.report_audit.proofs.execute.execute.Given as goal

abbrev pub invariant-loop-line : goal.invariant-loop-line
invariant-loop-line l = record {
  value : executed l.setup.protocol l.done (drop l.line-index l.events) ≡ executed l.setup.protocol (begun l.setup) l.events;
  cores : length l.done.flat.cores ≡ l.setup.shape.nodes;
}
