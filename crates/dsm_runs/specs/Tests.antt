-- Whether an event is enabled, as a test.
use Rattle.std.specs.Prelude.{nat_lt, not, ◌&&◌, Bool, true, false, List, Option, Some, None, is_some, slice_get}
use Rattle.std.specs.List.{list_any}
use Rattle.tw_base.specs.Shape.{handler_budget_of}
use Rattle.tw_base.specs.declared.entry.Event.{Event}
use Rattle.tw_base.specs.declared.entry.Event.TheVariants as event
use Rattle.tw_base.specs.declared.message.Message.{Message}
use Rattle.dsm_runs.specs.declared.mode.Mode.{Mode}
use Rattle.dsm_runs.specs.declared.mode.Mode.TheVariants as mode
use Rattle.dsm_runs.specs.declared.mode.Waiting.{Waiting}
use Rattle.dsm_runs.specs.Setups.{Setup}
use Rattle.dsm_runs.specs.Locals.{Local, last_stamp}
use Rattle.dsm_runs.specs.Worlds.{World}

abbrev pub is_ready : Mode → Bool
is_ready mode.Running = true
is_ready mode.Woken = true
is_ready (mode.Blocked b) = false
is_ready mode.Halted = false
is_ready (mode.Trapped why) = false

abbrev pub is_woken : Mode → Bool
is_woken mode.Woken = true
is_woken mode.Running = false
is_woken (mode.Blocked b) = false
is_woken mode.Halted = false
is_woken (mode.Trapped why) = false

abbrev pub may_instruct : Setup → Local → Bool
may_instruct s l =
    not (is_some l.failed) && (is_ready l.mode && (nat_lt l.instructions s.shape.budget
    && (nat_lt l.sent (handler_budget_of s.shape) && nat_lt l.clock last_stamp)))

abbrev pub is_held : Setup → Local → Bool
is_held s l = is_woken l.mode && may_instruct s l

abbrev pub may_handle : Setup → Local → Bool
may_handle s l =
    not (is_some l.failed) && (not (is_held s l) && (nat_lt l.handled (handler_budget_of s.shape)
    && (nat_lt l.sent (handler_budget_of s.shape) && nat_lt l.clock last_stamp)))

abbrev pub has_eligible : List Waiting → Bool
has_eligible ws = list_any (λ w. w.eligible) ws

abbrev pub is_early : Option Message → Bool
is_early None = false
is_early (Some m) = nat_lt m.stamp last_stamp

abbrev pub is_enabled : Setup → World → Event → Bool
is_enabled s g (event.Instr i) = nat_lt i s.shape.nodes && may_instruct s (g.locals i)
is_enabled s g (event.Redeliver i) = nat_lt i s.shape.nodes && (may_handle s (g.locals i) && has_eligible (g.locals i).deferred)
is_enabled s g (event.Deliver i f c) =
    nat_lt i s.shape.nodes && (nat_lt f s.shape.nodes && (may_handle s (g.locals i)
    && (not (has_eligible (g.locals i).deferred) && is_early (slice_get (g.wires f i c) 0))))
