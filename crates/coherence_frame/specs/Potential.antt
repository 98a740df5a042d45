-- How much of a block is still to be done: the potential that each handler event lowers.
use Rattle.std.specs.Prelude.{ℕ, ◌+◌, ◌-◌, ◌*◌, ◌≤◌, List}
use Rattle.tw_base.specs.Lists.{how_many, sum_below}
use Rattle.tw_base.specs.declared.entry.Act.{Act}
use Rattle.tw_base.specs.declared.entry.Act.TheVariants as act
use Rattle.tw_base.specs.declared.entry.Entry.{Entry}
use Rattle.mini_asm.specs.Run.{Machine}
use Rattle.dsm_runs.specs.Setups.{IsSetup, Setup, home_of}
use Rattle.dsm_runs.specs.Worlds.{Runs, Step, World, start}
use Rattle.coherence_frame.specs.Weights.{at_spot, is_stale_of, price, rest_weight, weigh}
use Rattle.coherence_frame.specs.Laws.{IsKept}
use Rattle.coherence_frame.specs.Parts.{IsTreeOf, Wording, home_seen, seen, spots_seen}

abbrev pub stale_of : Wording → Setup → World → ℕ → ℕ
stale_of o s g b = how_many (is_stale_of b) ((seen o s g).locals (home_of s b)).deferred

abbrev pub potential_of : Wording → Setup → World → ℕ → ℕ
potential_of o s g b = sum_below s.shape.nodes (λ i. at_spot (weigh s.shape.nodes) (spots_seen o s g b i)) + rest_weight
    s.shape.nodes (home_seen o s g b).rest - stale_of o s g b

abbrev pub potential : Wording → Setup → World → ℕ
potential o s g = sum_below s.shape.blocks (potential_of o s g)

abbrev pub to_send_of : Wording → Setup → World → ℕ → ℕ
to_send_of o s g b =
    sum_below s.shape.nodes (λ i. at_spot (price s.shape.nodes) (spots_seen o s g b i)) + rest_weight 1 (home_seen o s g b).rest

abbrev pub to_send : Wording → Setup → World → ℕ
to_send o s g = sum_below s.shape.blocks (to_send_of o s g)

-- ---- what is counted in a journal

abbrev pub is_fault_event : Act → ℕ
is_fault_event (act.Fault store block) = 1
is_fault_event _ = 0

abbrev pub is_handler_event : Act → ℕ
is_handler_event (act.Redelivered kind block from) = 1
is_handler_event (act.Delivered kind block from chan number) = 1
is_handler_event _ = 0

abbrev pub faults_in : List Entry → ℕ
faults_in j = how_many (λ e. is_fault_event e.act) j

abbrev pub handled_in : List Entry → ℕ
handled_in j = how_many (λ e. is_handler_event e.act) j

abbrev pub sent_in : List Entry → ℕ
sent_in j = how_many (λ e. e.sends) j

-- an event pays for itself
pub record Pays (o : Wording) (s : Setup) (g : World) (e : Entry) (h : World) : Type 0 where
  pub handlers : is_handler_event e.act + potential o s h ≤ potential o s g + (3 * s.shape.nodes - 1) * is_fault_event e.act
  pub sends : e.sends + to_send o s h ≤ to_send o s g + 2 * s.shape.nodes * is_fault_event e.act

abbrev pub EventsPay : Wording → Type 0
EventsPay o = (s : Setup) (g : World) (e : Entry) (h : World) (m : Machine) → IsSetup s → IsKept o s g m → Step s g e h →
    Pays o s g e h

pub record IsCounted (o : Wording) (s : Setup) (j : List Entry) (g : World) : Type 0 where
  pub handlers : handled_in j + potential o s g ≤ (3 * s.shape.nodes - 1) * faults_in j
  pub sends : sent_in j + to_send o s g ≤ 2 * s.shape.nodes * faults_in j

abbrev pub RunsAreCounted : Wording → Type 0
RunsAreCounted o =
    (s : Setup) (j : List Entry) (g : World) → IsSetup s → IsTreeOf o s.protocol → Runs s (start s) j g → IsCounted o s j g
