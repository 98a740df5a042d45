use Rattle.std.proofs.Common.{◌≡◌, ℕ, length}
use Rattle.dsm_model.specs.Kept.{AreSound}
use Rattle.dsm_runs.specs.Locals.{first}
use Rattle.dsm_model.specs.Views.{locals_of}
use Rattle.dsm_model.proofs.global.first_locals.Given as goal

abbrev pub invariant-loop-number : goal.invariant-loop-number
invariant-loop-number l = record {
  count : length l.locals.items ≡ l.number;
  sound : AreSound l.setup l.locals.items;
  each : (i : ℕ) → locals_of l.setup l.locals.items i ≡ first l.setup i;
}
