-- The instructions that run no handler, at a node's state.
use Rattle.std.proofs.Common.{◌≡◌, ◌∙◌, ℕ, ◌+◌, ◌*◌, ◌/◌, ◌≤◌, Bool, true, false, List, None, refl, ap, sym, subst, arith}
use Rattle.std.proofs.Math.Nat.{le-mul_of_pos_right, mul_comm, one-le-mul}
use Rattle.tw_base.specs.Shape.{IsWithinLimits, Sizes}
use Rattle.tw_base.specs.declared.entry.Act.{Act}
use Rattle.tw_base.specs.declared.entry.Act.TheVariants as act
use Rattle.tw_base.specs.declared.entry.Event.TheVariants as event
use Rattle.tw_base.specs.declared.entry.Trap.{Trap}
use Rattle.block_tags.specs.Copies.{Copies, IsWhole, allows, permits, tag_of, with_word, word_at}
use Rattle.mini_asm.specs.Machine.{finish_of, next_of, wrap}
use Rattle.mini_asm.specs.declared.cpu.Cpu.{Cpu}
use Rattle.mini_asm.specs.declared.cpu.Next.{Next}
use Rattle.mini_asm.specs.declared.cpu.Next.TheVariants as next
use Rattle.mini_asm.specs.declared.instr.Instr.{Instr}
use Rattle.blizzard_guard.specs.Running.{IsAccessOf, IsAnswered, OnProgram}
use Rattle.handler_code.specs.declared.code.Code.{Code}
use Rattle.dsm_runs.specs.declared.mode.Mode.{Mode}
use Rattle.dsm_runs.specs.declared.mode.Mode.TheVariants as mode
use Rattle.dsm_runs.specs.Events.{IsRefused}
use Rattle.dsm_runs.specs.Setups.{Setup, asked, finished, program_at}
use Rattle.dsm_runs.proofs.Asking.{asked_well}
use Rattle.dsm_runs.proofs.RunStates.{events_keep}
use Rattle.dsm_runs.proofs.Testing.{may_instruct_decides}
use Rattle.dsm_runs.specs.Locals.{MayInstruct}
use Rattle.node_acts.proofs.Instructing.{DoesInAll, IsPlain, makes_done, shown_done, well_done}
use Rattle.node_acts.proofs.Performing.{performs_faa, performs_halt, performs_load, performs_print, performs_step}
use Rattle.node_acts.proofs.Performing.{performs_store, performs_trap}
use Rattle.node_core.specs.declared.state.State.{State}
use Rattle.node_core.specs.States.{shown_of}
use Rattle.node_core.specs.Steps.{CanStep, HasStepped, IsAtWork, has_logged}
use Rattle.node_meaning.specs.Nodes.{Shown, tested}
use Rattle.node_meaning.specs.Stands.{Makes}

-- ---- the node goes on

abbrev left_by : State → OnProgram → Copies → State
left_by x p copies = record x { processor = p; blocks = copies }

-- it makes the event of the act
stepped : (s : Setup) (code : Code) (me : ℕ) (x : State) (p : OnProgram) (copies : Copies) (m : Mode) (a : Act) (new : State) →
    new ≡ has_logged me (left_by x p copies) m a → IsAtWork s code me x → IsPlain a → p.program ≡ x.processor.program
    → DoesInAll (shown_of s code me x) m p.cpu copies a → IsWhole copies → copies.shape ≡ x.blocks.shape →
    HasStepped s code me x new
stepped s code me x p copies m a new is w plain program does whole shape =
    subst (λ (y : State). HasStepped s code me x y) (sym is) (record {
      makes = makes;
      node = record {
        well = well_done old m p.cpu copies a w.node.well whole shape;
        replayed = let gone = makes.goes w.node.replayed.course w.node.replayed.stands in record
            { course = gone.after; stands = gone.stands };
        inside = record {
          program = program ∙ w.node.inside.program;
          queues = w.node.inside.queues;
          table = w.node.inside.table;
          rooms = λ e. absurd cc;
        };
      };
    })
  where
    old : Shown
    old = shown_of s code me x

    makes : Makes old (shown_done old m p.cpu copies a) None (event.Instr me)
    makes = makes_done old m p.cpu copies a events_keep w.node.well plain does

-- the processor that finished is as in the model
cpu_done : (s : Setup) (code : Code) (me : ℕ) (x : State) (p : OnProgram) (loaded : ℕ) → IsAtWork s code me x →
    p.cpu ≡ finish_of x.processor.program x.processor.cpu loaded → finished s me x.processor.cpu loaded ≡ p.cpu
cpu_done s code me x p loaded w e = sym (e ∙ ap (λ (is : List Instr). finish_of is x.processor.cpu loaded) w.node.inside.program)

pub loads : (s : Setup) (code : Code) (me : ℕ) (x : State) (p : OnProgram) (address value : ℕ) (new : State) →
    new ≡ has_logged me (left_by x p x.blocks) mode.Running (act.Load address value) → p.program ≡ x.processor.program →
    p.cpu ≡ finish_of x.processor.program x.processor.cpu value
    → allows x.blocks false address ≡ true → value ≡ word_at x.blocks address → IsAtWork s code me x →
    asked s me x.processor.cpu ≡ next.Access false address 0 → HasStepped s code me x new
loads s code me x p address value new is program cpu allowed word w e =
    stepped s code me x p x.blocks mode.Running (act.Load address value) new is w
    (record { takes_nothing = λ f ch. refl; instruction = λ i. refl; handles_nothing = λ i l. refl }) program
    (subst (λ (z : Cpu). DoesInAll (shown_of s code me x) mode.Running z x.blocks (act.Load address value))
    (cpu_done s code me x p value w cpu) (performs_load (shown_of s code me x) address value w.node.well w.may e allowed
    word))
    w.node.well.copies refl

-- a load asks with the value 0, so with whichever it asks
pub loads_any : (s : Setup) (code : Code) (me : ℕ) (x : State) (p : OnProgram) (address value : ℕ) (new : State) →
    new ≡ has_logged me (left_by x p x.blocks) mode.Running (act.Load address value) → p.program ≡ x.processor.program →
    p.cpu ≡ finish_of x.processor.program x.processor.cpu value
    → allows x.blocks false address ≡ true → value ≡ word_at x.blocks address → IsAtWork s code me x → (any : ℕ) →
    asked s me x.processor.cpu ≡ next.Access false address any → HasStepped s code me x new
loads_any s code me x p address value new is program cpu allowed word w any e =
    let zero_is : any ≡ 0 = (asked_well s me x.processor.cpu (next.Access false address any) e).1 in
    loads s code me x p address value new is program cpu allowed word w (e ∙ ap (λ k. next.Access false address k) zero_is)

pub stores : (s : Setup) (code : Code) (me : ℕ) (x : State) (p : OnProgram) (copies : Copies) (address value : ℕ)
    (new : State) → new ≡ has_logged me (left_by x p copies) mode.Running (act.Store address value) →
    p.program ≡ x.processor.program → p.cpu ≡ finish_of x.processor.program x.processor.cpu 0
    → allows x.blocks true address ≡ true → copies ≡ with_word x.blocks address value → IsWhole copies → IsAtWork s code me x →
    asked s me x.processor.cpu ≡ next.Access true address value → HasStepped s code me x new
stores s code me x p copies address value new is program cpu allowed written whole w e =
    stepped s code me x p copies mode.Running (act.Store address value) new is w
    (record { takes_nothing = λ f ch. refl; instruction = λ i. refl; handles_nothing = λ i l. refl }) program
    (subst (λ (z : Copies). DoesInAll (shown_of s code me x) mode.Running p.cpu z (act.Store address value)) (sym written)
    (subst (λ (z : Cpu). DoesInAll (shown_of s code me x) mode.Running z (with_word x.blocks address value)
    (act.Store address value)) (cpu_done s code me x p 0 w cpu)
    (performs_store (shown_of s code me x) address value w.node.well w.may e allowed)))
    whole (ap (λ (z : Copies). z.shape) written)

pub adds : (s : Setup) (code : Code) (me : ℕ) (x : State) (p : OnProgram) (copies : Copies) (address value added sum : ℕ)
    (new : State) → new ≡ has_logged me (left_by x p copies) mode.Running (act.Faa address value sum) →
    p.program ≡ x.processor.program → p.cpu ≡ finish_of x.processor.program x.processor.cpu value
    → allows x.blocks true address ≡ true → value ≡ word_at x.blocks address → sum ≡ wrap (value + added) →
    copies ≡ with_word x.blocks address sum → IsWhole copies → IsAtWork s code me x →
    asked s me x.processor.cpu ≡ next.Faa address added → HasStepped s code me x new
adds s code me x p copies address value added sum new is program cpu allowed word sums written whole w e =
    stepped s code me x p copies mode.Running (act.Faa address value sum) new is w
    (record { takes_nothing = λ f ch. refl; instruction = λ i. refl; handles_nothing = λ i l. refl }) program
    (subst (λ (z : Copies). DoesInAll (shown_of s code me x) mode.Running p.cpu z (act.Faa address value sum)) (sym written)
    (subst (λ (z : Cpu). DoesInAll (shown_of s code me x) mode.Running z (with_word x.blocks address sum)
    (act.Faa address value sum)) (cpu_done s code me x p value w cpu)
    (performs_faa (shown_of s code me x) address value added sum w.node.well w.may e allowed word sums)))
    whole (ap (λ (z : Copies). z.shape) written)

pub prints : (s : Setup) (code : Code) (me : ℕ) (x : State) (p : OnProgram) (value : ℕ) (new : State) →
    new ≡ has_logged me (left_by x p x.blocks) mode.Running (act.Print value) → p.program ≡ x.processor.program →
    p.cpu ≡ finish_of x.processor.program x.processor.cpu 0
    → IsAtWork s code me x → asked s me x.processor.cpu ≡ next.Print value → HasStepped s code me x new
prints s code me x p value new is program cpu w e =
    stepped s code me x p x.blocks mode.Running (act.Print value) new is w
    (record { takes_nothing = λ f ch. refl; instruction = λ i. refl; handles_nothing = λ i l. refl }) program
    (subst (λ (z : Cpu). DoesInAll (shown_of s code me x) mode.Running z x.blocks (act.Print value))
    (cpu_done s code me x p 0 w cpu) (performs_print (shown_of s code me x) value w.may e))
    w.node.well.copies refl

pub steps : (s : Setup) (code : Code) (me : ℕ) (x : State) (p : OnProgram) (new : State) →
    new ≡ has_logged me (left_by x p x.blocks) mode.Running act.Step → p.program ≡ x.processor.program →
    p.cpu ≡ finish_of x.processor.program x.processor.cpu 0
    → IsAtWork s code me x → asked s me x.processor.cpu ≡ next.Step → HasStepped s code me x new
steps s code me x p new is program cpu w e =
    stepped s code me x p x.blocks mode.Running act.Step new is w
    (record { takes_nothing = λ f ch. refl; instruction = λ i. refl; handles_nothing = λ i l. refl }) program
    (subst (λ (z : Cpu). DoesInAll (shown_of s code me x) mode.Running z x.blocks act.Step) (cpu_done s code me x p 0 w cpu)
    (performs_step (shown_of s code me x) w.may e))
    w.node.well.copies refl

pub halts : (s : Setup) (code : Code) (me : ℕ) (x new : State) → new ≡ has_logged me x mode.Halted act.Halt →
    IsAtWork s code me x → asked s me x.processor.cpu ≡ next.Halt → HasStepped s code me x new
halts s code me x new is w e =
    stepped s code me x x.processor x.blocks mode.Halted act.Halt new is w
    (record { takes_nothing = λ f ch. refl; instruction = λ i. refl; handles_nothing = λ i l. refl }) refl
    (performs_halt (shown_of s code me x) w.may e) w.node.well.copies refl

pub traps : (s : Setup) (code : Code) (me : ℕ) (x : State) (why : Trap) (new : State) →
    new ≡ has_logged me x (mode.Trapped why) (act.Trapped why) → IsAtWork s code me x →
    asked s me x.processor.cpu ≡ next.Trap why → HasStepped s code me x new
traps s code me x why new is w e =
    stepped s code me x x.processor x.blocks (mode.Trapped why) (act.Trapped why) new is w
    (record { takes_nothing = λ f ch. refl; instruction = λ i. refl; handles_nothing = λ i l. refl }) refl
    (performs_trap (shown_of s code me x) why w.may e) w.node.well.copies refl

-- ---- what the node asks for is what the model asks for

pub asked_same : (s : Setup) (code : Code) (me : ℕ) (x : State) (n : Next) → IsAtWork s code me x →
    n ≡ next_of x.processor.program x.processor.cpu (x.blocks.shape.words * x.blocks.shape.blocks) →
    asked s me x.processor.cpu ≡ n
asked_same s code me x n w e =
    sym (e
    ∙ ap (λ (p : List Instr). next_of p x.processor.cpu (x.blocks.shape.words * x.blocks.shape.blocks)) w.node.inside.program
    ∙ ap (λ (z : Sizes). next_of (program_at s me) x.processor.cpu (z.words * z.blocks)) w.node.well.shape)

-- ---- a refused access

-- a look that finds a tag that refuses finds what the model's refused access is
pub refused_as : (s : Setup) (code : Code) (me : ℕ) (x : State) (n : Next) (store : Bool) (address b : ℕ) →
    IsAtWork s code me x → IsAccessOf n store address
    → IsAnswered x.blocks store address false → b ≡ address / s.shape.words → IsRefused s n store b (tag_of x.blocks b)
refused_as s code me x n store address b w access answered at = by n access
  where
    here : permits (tag_of x.blocks b) store ≡ false
    here = ap (λ k. permits (tag_of x.blocks k) store) (at ∙ ap (λ (z : Sizes). address / z.words) (sym w.node.well.shape))
        ∙ answered.tag

    by : (n : Next) → IsAccessOf n store address → IsRefused s n store b (tag_of x.blocks b)
    by (next.Access put a value) h = (
      h.0,
      at ∙ ap (λ k. k / s.shape.words) h.1,
      subst (λ t. permits (tag_of x.blocks b) t ≡ false) h.0 here,
    )
    by (next.Faa a added) h = (
      h.0,
      at ∙ ap (λ k. k / s.shape.words) h.1,
      subst (λ t. permits (tag_of x.blocks b) t ≡ false) h.0 here,
    )
    by (next.Trap why) h = absurd h
    by next.Halt h = absurd h
    by (next.Print value) h = absurd h
    by next.Step h = absurd h

-- ---- room for an instruction

budget_small : (z : Sizes) → IsWithinLimits z → z.budget ≤ 1250000
budget_small z h =
    let some : 1 ≤ (4 * z.nodes + 4) * z.nodes = one-le-mul (omega arith) h.some_node in
    let most : z.budget ≤ z.budget * ((4 * z.nodes + 4) * z.nodes) = le-mul_of_pos_right z.budget some in
    let same : z.budget * ((4 * z.nodes + 4) * z.nodes) ≡ (4 * z.nodes + 4) * z.nodes * z.budget =
    mul_comm z.budget ((4 * z.nodes + 4) * z.nodes) in
    omega (arith, most, same, h.budget)

pub can_step : (s : Setup) (code : Code) (me : ℕ) (x : State) → IsAtWork s code me x → x.ready ≡ true → CanStep x
can_step s code me x w ready =
    let may : MayInstruct s (tested (shown_of s code me x)) = (may_instruct_decides s (tested (shown_of s code me x))).0 w.may in
    record {
      log = (w.node.inside.rooms ready).log;
      clock = may.clock;
      instructions = omega (arith, may.instructions, budget_small s.shape w.node.well.setup.limits);
    }
