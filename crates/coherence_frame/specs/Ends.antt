-- How a run ends.
use Rattle.std.specs.Prelude.{◌≡◌, ◌≢◌, ℕ, ◌<◌, Bool, true, false, [], List}
use Rattle.tw_base.specs.Lists.{Each}
use Rattle.tw_base.specs.Shape.{handler_budget_of}
use Rattle.tw_base.specs.declared.entry.Act.{Act}
use Rattle.tw_base.specs.declared.entry.Act.TheVariants as act
use Rattle.tw_base.specs.declared.entry.Entry.{Entry}
use Rattle.tw_base.specs.declared.message.Chan.{Chan}
use Rattle.dsm_runs.specs.declared.mode.Mode.TheVariants as mode
use Rattle.mini_asm.specs.Run.{Machine}
use Rattle.dsm_runs.specs.Locals.{last_stamp}
use Rattle.dsm_runs.specs.Setups.{IsSetup, Setup, block_of}
use Rattle.dsm_runs.specs.Worlds.{IsQuiet, Runs, Step, World, start}
use Rattle.coherence_frame.specs.Laws.{IsKept}
use Rattle.coherence_frame.specs.Potential.{is_handler_event}
use Rattle.coherence_frame.specs.Parts.{IsTreeOf, Wording}

-- no wire holds a message, no node defers one, none is blocked
pub record IsDone (s : Setup) (g : World) : Type 0 where
  pub wires : (f t : ℕ) (c : Chan) → f < s.shape.nodes → t < s.shape.nodes → g.wires f t c ≡ []
  pub deferred : (i : ℕ) → i < s.shape.nodes → (g.locals i).deferred ≡ []
  pub modes : (i b : ℕ) → i < s.shape.nodes → (g.locals i).mode ≢ mode.Blocked b

abbrev pub QuietRunsAreDone : Wording → Type 0
QuietRunsAreDone o =
    (s : Setup) (j : List Entry) (g : World) → IsSetup s → IsTreeOf o s.protocol → Runs s (start s) j g → IsQuiet s g → IsDone s g

-- no budget of a node is used up, and no clock or stamp is the last one
pub record Unspent (s : Setup) (g : World) : Type 0 where
  pub handled : (i : ℕ) → i < s.shape.nodes → (g.locals i).handled < handler_budget_of s.shape
  pub sent : (i : ℕ) → i < s.shape.nodes → (g.locals i).sent < handler_budget_of s.shape
  pub clock : (i : ℕ) → (g.locals i).clock < last_stamp
  pub stamps : (f t : ℕ) (c : Chan) → Each (λ m. m.stamp < last_stamp) (g.wires f t c)

abbrev pub NoBudgetIsSpent : Wording → Type 0
NoBudgetIsSpent o = (s : Setup) (j : List Entry) (g : World) → IsSetup s → IsTreeOf o s.protocol → Runs s (start s) j g →
    Unspent s g

-- this act is this access, done
abbrev pub IsDoneAccess : Setup → Bool → ℕ → Act → Type 0
IsDoneAccess s store b (act.Load address value) = (store ≡ false) × (b ≡ block_of s address)
IsDoneAccess s store b (act.Store address value) = (store ≡ true) × (b ≡ block_of s address)
IsDoneAccess s store b (act.Faa address value sum) = (store ≡ true) × (b ≡ block_of s address)
IsDoneAccess s store b _ = ⊥

-- node i makes no instruction event in these
abbrev pub NoInstruction : ℕ → List Entry → Type 0
NoInstruction i j = Each (λ e. e.node ≡ i → is_handler_event e.act ≡ 1) j

-- After a fault of a node, its next instruction event is the access that it could not make.
abbrev pub FaultsAreFollowed : Wording → Type 0
FaultsAreFollowed o =
    (s : Setup) (g g1 g2 g3 : World) (m : Machine) (e e2 : Entry) (mid : List Entry) (store : Bool) (b : ℕ) → IsSetup s →
    IsKept o s g m →
    Step s g e g1 → e.act ≡ act.Fault store b → Runs s g1 mid g2 → NoInstruction e.node mid → Step s g2 e2 g3 →
    e2.node ≡ e.node → is_handler_event e2.act ≡ 0 →
    IsDoneAccess s store b e2.act
