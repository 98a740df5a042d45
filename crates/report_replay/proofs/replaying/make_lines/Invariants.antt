use Rattle.std.proofs.Common.{◌≡◌, drop, Result}
use Rattle.dsm_model.specs.Globals.{setup_of, world_of}
use Rattle.dsm_runs.specs.Worlds.{World}
use Rattle.report_reader.specs.declared.error.AuditError.{AuditError}
use Rattle.report_replay.specs.Replaying.{Leads}
use Rattle.report_replay.proofs.replaying.make_lines.Given as goal

abbrev pub invariant-loop-number : goal.invariant-loop-number
invariant-loop-number l = record {
  setup : setup_of l.g ≡ setup_of l.initial.g;
  before : (end : Result World AuditError) → Leads (setup_of l.initial.g) (world_of l.g) l.number (drop l.number l.lines) end →
      Leads (setup_of l.initial.g) (world_of l.initial.g) 0 l.lines end;
}
