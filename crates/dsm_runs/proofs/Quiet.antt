-- What is enabled is seen on the nodes and their wires.
use Rattle.std.proofs.Common.{ℕ, List, subst}
use Rattle.tw_base.specs.declared.entry.Event.{Event}
use Rattle.tw_base.specs.declared.entry.Event.TheVariants as event
use Rattle.tw_base.specs.declared.message.Message.{Message}
use Rattle.dsm_runs.specs.Setups.{Setup}
use Rattle.dsm_runs.specs.Locals.{Local, MayInstruct}
use Rattle.dsm_runs.specs.Worlds.{IsEnabled, IsQuiet, MayDeliver, MayRedeliver, Wires, World}
use Rattle.dsm_runs.specs.Replays.{Course}
use Rattle.dsm_runs.specs.Merges.{IsJoined, joined}

enabled_there : (s : Setup) (ends : ℕ → Course) (left : Wires) (g : World) → IsJoined s.shape.nodes ends left g → (e : Event) →
    IsEnabled s g e → IsEnabled s (joined ends left) e
enabled_there s ends left g j (event.Instr i) h = (h.0, subst (λ (l : Local). MayInstruct s l) (j.locals i h.0) h.1)
enabled_there s ends left g j (event.Redeliver i) h = (h.0, subst (λ (l : Local). MayRedeliver s l) (j.locals i h.0) h.1)
enabled_there s ends left g j (event.Deliver i f c) h = (
  h.0,
  h.1,
  subst (λ (l : Local). MayDeliver s l (left f i c)) (j.locals i h.0)
      (subst (λ (w : List Message). MayDeliver s (g.locals i) w) (j.wires f i c h.1 h.0) h.2),
)

pub quiet_there : (s : Setup) (ends : ℕ → Course) (left : Wires) (g : World) → IsJoined s.shape.nodes ends left g →
    IsQuiet s (joined ends left) → IsQuiet s g
quiet_there s ends left g j quiet e h = quiet e (enabled_there s ends left g j e h)
