-- A run under a shipped protocol is sound to its end.
use Rattle.std.specs.Prelude.{◌≡◌, ◌↔◌, ℕ, ◌-◌, ◌*◌, ◌<◌, ◌≤◌, Bool, List, ◌∷◌, ◌++◌, Some, None}
use Rattle.tw_base.specs.Lists.{Each, sum_below}
use Rattle.tw_base.specs.declared.entry.Act.TheVariants as act
use Rattle.tw_base.specs.declared.entry.After.{After}
use Rattle.tw_base.specs.declared.entry.End.TheVariants.{Fine}
use Rattle.tw_base.specs.declared.entry.Entry.{Entry}
use Rattle.tw_base.specs.declared.entry.Trap.{Trap}
use Rattle.dsm_runs.specs.declared.mode.Mode.TheVariants as mode
use Rattle.dsm_runs.specs.declared.outcome.Outcome.{Outcome}
use Rattle.dsm_runs.specs.declared.outcome.Outcome.TheVariants.{Failed, Trapped, Spent, Halted, Stuck}
use Rattle.dsm_runs.specs.Locals.{IsReady, Local}
use Rattle.dsm_runs.specs.Outcomes.{outcome_of}
use Rattle.dsm_runs.specs.Setups.{IsSetup, Setup}
use Rattle.dsm_runs.specs.Worlds.{IsQuiet, Runs, World, start}
use Rattle.coherence_frame.specs.Ends.{IsDone, IsDoneAccess, NoInstruction, Unspent}
use Rattle.coherence_frame.specs.Potential.{faults_in, handled_in, is_handler_event, sent_in}
use Rattle.sound_runs.specs.Shipped.{IsShipped}

-- ---- no handler fails

-- the handler that ran in this event, if one did, came to its end: it met no Error, and no Suspend too deep
abbrev pub CameToItsEnd : Entry → Type 0
CameToItsEnd e = (a : After) → e.after ≡ Some a → a.end ≡ Fine

pub record NoneFails (s : Setup) (j : List Entry) (g : World) : Type 0 where
  pub nodes : (i : ℕ) → i < s.shape.nodes → (g.locals i).failed ≡ None
  pub handlers : Each CameToItsEnd j

-- ---- few messages

-- Of n nodes, whose accesses were refused k times, at most (3n-1)·k messages were handled and 2n·k sent. The nodes counted as
-- many as the journal has, and none of them comes to the end of a budget.
pub record FewMessages (s : Setup) (j : List Entry) (g : World) : Type 0 where
  pub handled : handled_in j ≤ (3 * s.shape.nodes - 1) * faults_in j
  pub sent : sent_in j ≤ 2 * s.shape.nodes * faults_in j
  pub handled_counts : sum_below s.shape.nodes (λ i. (g.locals i).handled) ≡ handled_in j
  pub sent_counts : sum_below s.shape.nodes (λ i. (g.locals i).sent) ≡ sent_in j
  pub budgets : Unspent s g

-- ---- how nodes end

abbrev pub HasTrapped : Local → Type 0
HasTrapped l = (why : Trap) × (l.mode ≡ mode.Trapped why)

-- the node would go on, and has made as many instruction events as it may
pub record HasSpent (s : Setup) (l : Local) : Type 0 where
  pub ready : IsReady l.mode
  pub all : l.instructions ≡ s.shape.budget

-- the outcome that is told of this node is halted, trapped or spent, and so it is
abbrev pub IsSoundOutcome : Setup → Local → Outcome → Type 0
IsSoundOutcome s l Halted = l.mode ≡ mode.Halted
IsSoundOutcome s l (Trapped why) = l.mode ≡ mode.Trapped why
IsSoundOutcome s l Spent = HasSpent s l
IsSoundOutcome s l Stuck = ⊥
IsSoundOutcome s l (Failed how) = ⊥

-- Each outcome is told exactly where it fits, and there is no other.
pub record EndsSoundly (s : Setup) (l : Local) : Type 0 where
  pub outcome : IsSoundOutcome s l (outcome_of s l)
  pub halted : (outcome_of s l ≡ Halted) ↔ (l.mode ≡ mode.Halted)
  pub trapped : (why : Trap) → (outcome_of s l ≡ Trapped why) ↔ (l.mode ≡ mode.Trapped why)
  pub spent : (outcome_of s l ≡ Spent) ↔ HasSpent s l

-- ---- what follows a refused access

-- The access of block b that was refused in e, behind `earlier`, is the one that e2 completes, behind e and `between`: by the
-- same instruction, with the same registers.
pub record CompletesAccess (s : Setup) (earlier : List Entry) (e : Entry) (between : List Entry) (e2 : Entry) (store : Bool)
    (b : ℕ) : Type 0 where
  pub refused : World
  pub completed : World
  pub to_refused : Runs s (start s) earlier refused
  pub to_completed : Runs s refused (e ∷ between) completed
  pub access : IsDoneAccess s store b e2.act
  pub same_processor : (completed.locals e.node).cpu ≡ (refused.locals e.node).cpu

-- where a node's access was refused, the node's next instruction event, if there is one, completes this access
abbrev pub RefusedAccessesAreCompleted : Setup → List Entry → Type 0
RefusedAccessesAreCompleted s j =
    (earlier between later : List Entry) (e e2 : Entry) (store : Bool) (b : ℕ) → j ≡ earlier ++ e ∷ (between ++ e2 ∷ later) →
    e.act ≡ act.Fault store b → NoInstruction e.node between → e2.node ≡ e.node → is_handler_event e2.act ≡ 0 →
    CompletesAccess s earlier e between e2 store b

-- ---- the whole

-- A run that came to rest: no handler failed, messages were few, nothing is left to do, each node halted, trapped or spent its
-- instructions, and each refused access was completed before its node did anything else.
pub record IsSoundToItsEnd (s : Setup) (j : List Entry) (g : World) : Type 0 where
  pub none_fails : NoneFails s j g
  pub few_messages : FewMessages s j g
  pub done : IsDone s g
  pub outcomes : (i : ℕ) → i < s.shape.nodes → EndsSoundly s (g.locals i)
  pub completed : RefusedAccessesAreCompleted s j

abbrev pub ShippedAreSoundToTheirEnd : Type 0
ShippedAreSoundToTheirEnd =
    (s : Setup) (j : List Entry) (g : World) → IsSetup s → IsShipped s.protocol → Runs s (start s) j g → IsQuiet s g →
    IsSoundToItsEnd s j g
