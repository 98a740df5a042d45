-- How a node ended, in a state where no event is enabled.
use Rattle.std.specs.Prelude.{nat_eq, nat_le, ◌||◌, Bool, true, false, Option, Some, None}
use Rattle.tw_base.specs.Shape.{handler_budget_of}
use Rattle.tw_base.specs.declared.entry.End.{End}
use Rattle.dsm_runs.specs.declared.mode.Mode.{Mode}
use Rattle.dsm_runs.specs.declared.mode.Mode.TheVariants as mode
use Rattle.dsm_runs.specs.declared.outcome.Outcome.{Outcome}
use Rattle.dsm_runs.specs.declared.outcome.Outcome.TheVariants.{Failed, Trapped, Spent, Halted, Stuck}
use Rattle.dsm_runs.specs.Locals.{Local}
use Rattle.dsm_runs.specs.Setups.{Setup}
use Rattle.dsm_runs.specs.Tests.{is_ready}

-- the node handled or sent as many messages as it may, or it would go on
abbrev pub is_spent : Setup → Local → Bool
is_spent s l = nat_eq l.handled (handler_budget_of s.shape) || (nat_le (handler_budget_of s.shape) l.sent || is_ready l.mode)

-- the outcome of a node that did not fail, by its mode and whether it is spent
abbrev pub outcome_in : Mode → Bool → Outcome
outcome_in (mode.Trapped why) spent = Trapped why
outcome_in (mode.Blocked b) true = Spent
outcome_in (mode.Blocked b) false = Stuck
outcome_in mode.Halted true = Spent
outcome_in mode.Halted false = Halted
outcome_in mode.Running spent = Spent
outcome_in mode.Woken spent = Spent

abbrev pub outcome_by : Option End → Mode → Bool → Outcome
outcome_by (Some e) m spent = Failed e
outcome_by None m spent = outcome_in m spent

-- the first of failed, trapped, spent, halted and stuck that fits
abbrev pub outcome_of : Setup → Local → Outcome
outcome_of s l = outcome_by l.failed l.mode (is_spent s l)
