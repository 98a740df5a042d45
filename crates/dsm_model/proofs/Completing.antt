-- An instruction that completes is the model's event.
use Rattle.std.proofs.Common.{◌≡◌, ◌≢◌, ℕ, zero, suc, ◌+◌, ◌<◌, true, false, List, [], ◌∷◌, length, set, Option, Some, None}
use Rattle.std.proofs.Common.{refl, ap, sym, ◌∙◌, subst, arith}
use Rattle.std.specs.Prelude.{slice_get, slice_set, slice_index, unwrap_or}
use Rattle.std.specs.List.{list_all}
use Rattle.std.proofs.Math.ListN.{length-set}
use Rattle.block_tags.specs.Copies.{permits}
use Rattle.mini_asm.specs.Machine.{asks, wrap}
use Rattle.mini_asm.specs.declared.cpu.Cpu.{Cpu}
use Rattle.mini_asm.specs.declared.cpu.Next.{Next}
use Rattle.mini_asm.specs.declared.cpu.Next.TheVariants as next
use Rattle.mini_asm.specs.declared.instr.Instr.{Instr}
use Rattle.teapot_meaning.specs.declared.state.Here.{Here}
use Rattle.tw_base.specs.declared.entry.Act.{Act}
use Rattle.tw_base.specs.declared.entry.Act.TheVariants as act
use Rattle.tw_base.specs.declared.entry.Entry.{Entry}
use Rattle.tw_base.specs.declared.entry.Event.{Event}
use Rattle.tw_base.specs.declared.entry.Event.TheVariants as event
use Rattle.tw_base.specs.declared.entry.Trap.{Trap}
use Rattle.dsm_model.specs.declared.handle.Made.{Made}
use Rattle.dsm_model.specs.declared.outbox.Outbox.{Outbox}
use Rattle.dsm_model.specs.Posts.{CanSend}
use Rattle.dsm_model.specs.declared.local.Local.{Local as Node}
use Rattle.dsm_runs.specs.declared.mode.Mode.{Mode}
use Rattle.dsm_runs.specs.declared.mode.Mode.TheVariants as mode
use Rattle.dsm_runs.specs.Setups.{Setup, asked, block_of, finished, first_here, offset_of, program_at, size_of}
use Rattle.dsm_runs.specs.Locals.{MayInstruct}
use Rattle.dsm_runs.specs.Events.{Acts, Completes, added_by}
use Rattle.dsm_model.specs.Kept.{IsSound, is_served}
use Rattle.dsm_model.specs.Makes.{IsMade, done_entry, done_node}
use Rattle.dsm_model.specs.Views.{local_of}
use Rattle.dsm_runs.specs.Worlds.{event_at}
use Rattle.dsm_model.proofs.Handlings.{all-get, all-set, slice_get_other, slice_get_same}

-- ---- what an instruction asks for

abbrev pub IsTrap : Next → Type 0
IsTrap (next.Trap why) = Unit {0}
IsTrap (next.Access store address value) = ⊥
IsTrap (next.Faa address added) = ⊥
IsTrap next.Halt = ⊥
IsTrap (next.Print value) = ⊥
IsTrap next.Step = ⊥

-- where it asks for no trap there is an instruction
pub place_within : (s : Setup) (me : ℕ) (cpu : Cpu) (n : Next) → asked s me cpu ≡ n → (IsTrap n → ⊥) →
    cpu.place < length (program_at s me)
place_within s me cpu n e free = go (program_at s me) cpu.place
    (λ none. free (subst (λ (x : Next). IsTrap x) e (subst (λ (o : Option Instr). IsTrap (asks o cpu.regs (size_of s)))
    (sym none) tt)))
  where
    go : (xs : List Instr) (i : ℕ) → (slice_get xs i ≡ None → ⊥) → i < length xs
    go [] i f = absurd (f refl)
    go (x ∷ xs) zero f = omega arith
    go (x ∷ xs) (suc i) f = let h : i < length xs = go xs i f in omega arith

-- ---- the event

completes : (s : Setup) (me : ℕ) (l : Node) (needs : Next) (mode : Mode) (cpu : Cpu) (act : Act) (blocks : List Here)
    → MayInstruct s (local_of s me l) → asked s me l.cpu ≡ needs
    → Completes s me (local_of s me l) None (local_of s me (record (done_node l mode cpu) { blocks = blocks }))
    (done_entry me l act) [] needs cpu mode
completes s me l needs mode cpu act blocks may e = record {
  instructs = record { may = may; no_front = refl; instructions = refl; handled = refl };
  needed = e;
  cpu = refl;
  mode = refl;
  failed = refl;
  deferred = refl;
  sends_nothing = refl;
  no_handler = refl;
}

made : (s : Setup) (me : ℕ) (l : Node) (mode : Mode) (cpu : Cpu) (a : Act) (blocks : List Here)
    → me < s.shape.nodes → IsSound s l → length blocks ≡ s.shape.blocks → list_all (is_served s) blocks ≡ true
    → Acts s me (local_of s me l) None (local_of s me (record (done_node l mode cpu) { blocks = blocks }))
    (done_entry me l a) [] a
    → (ev : Event) → event_at me a ≡ ev
    → IsMade s me ev l None (record (done_node l mode cpu) { blocks = blocks }) (record { entry = done_entry me l a; sends = [] })
made s me l mode cpu a blocks at_node sound count served acts ev is = record {
  step = record { at_node = at_node; node = refl; stamp = refl; clock = refl; count = refl; sent = omega arith; acts = acts };
  event = is;
  sound = record { count = count; served = served; deferred = sound.deferred; few = sound.few };
  blocks = refl;
}

pub stop_made : (s : Setup) (me : ℕ) (l : Node) (mode : Mode) (cpu : Cpu) (a : Act) → me < s.shape.nodes → IsSound s l
    → Acts s me (local_of s me l) None (local_of s me (done_node l mode cpu)) (done_entry me l a) [] a →
    event_at me a ≡ event.Instr me
    → IsMade s me (event.Instr me) l None (done_node l mode cpu) (record { entry = done_entry me l a; sends = [] })
stop_made s me l mode cpu a at_node sound acts is = made s me l mode cpu a l.blocks at_node sound sound.count sound.served acts
    (event.Instr me) is

pub trap_made : (s : Setup) (me : ℕ) (l : Node) (why : Trap) → me < s.shape.nodes → MayInstruct s (local_of s me l) →
    IsSound s l → asked s me l.cpu ≡ next.Trap why
    → IsMade s me (event.Instr me) l None (done_node l (mode.Trapped why) l.cpu)
    (record { entry = done_entry me l (act.Trapped why); sends = [] })
trap_made s me l why at_node may sound e = stop_made s me l (mode.Trapped why) l.cpu (act.Trapped why) at_node sound
    (completes s me l (next.Trap why) (mode.Trapped why) l.cpu (act.Trapped why) l.blocks may e, λ b. refl) refl

pub halt_made : (s : Setup) (me : ℕ) (l : Node) → me < s.shape.nodes → MayInstruct s (local_of s me l) → IsSound s l →
    asked s me l.cpu ≡ next.Halt
    → IsMade s me (event.Instr me) l None (done_node l mode.Halted l.cpu)
    (record { entry = done_entry me l act.Halt; sends = [] })
halt_made s me l at_node may sound e = stop_made s me l mode.Halted l.cpu act.Halt at_node sound
    (completes s me l next.Halt mode.Halted l.cpu act.Halt l.blocks may e, λ b. refl) refl

pub print_made : (s : Setup) (me : ℕ) (l : Node) (value : ℕ) → me < s.shape.nodes → MayInstruct s (local_of s me l) →
    IsSound s l → asked s me l.cpu ≡ next.Print value
    → IsMade s me (event.Instr me) l None (done_node l mode.Running (finished s me l.cpu 0))
    (record { entry = done_entry me l (act.Print value); sends = [] })
print_made s me l value at_node may sound e = stop_made s me l mode.Running (finished s me l.cpu 0)
    (act.Print value) at_node sound (
      completes s me l (next.Print value) mode.Running (finished s me l.cpu 0)
          (act.Print value) l.blocks may e,
      λ b. refl,
    ) refl

pub step_made : (s : Setup) (me : ℕ) (l : Node) → me < s.shape.nodes → MayInstruct s (local_of s me l) → IsSound s l →
    asked s me l.cpu ≡ next.Step
    → IsMade s me (event.Instr me) l None (done_node l mode.Running (finished s me l.cpu 0))
    (record { entry = done_entry me l act.Step; sends = [] })
step_made s me l at_node may sound e = stop_made s me l mode.Running (finished s me l.cpu 0) act.Step at_node sound
    (completes s me l next.Step mode.Running (finished s me l.cpu 0) act.Step l.blocks may e, λ b. refl) refl

-- ---- accesses

block-is : (s : Setup) (me : ℕ) (l : Node) (b : ℕ) (here : Here) → slice_get l.blocks b ≡ Some here →
    here ≡ unwrap_or (slice_get l.blocks b) (first_here s me b)
block-is s me l b here at = sym (ap (λ (o : Option Here). unwrap_or o (first_here s me b)) at)

pub load_made : (s : Setup) (me : ℕ) (l : Node) (address value b offset : ℕ) (here : Here) → me < s.shape.nodes →
    MayInstruct s (local_of s me l) → IsSound s l → asked s me l.cpu ≡ next.Access false address 0
    → b ≡ block_of s address → offset ≡ offset_of s address → slice_get l.blocks b ≡ Some here →
    permits here.tag false ≡ true → value ≡ slice_index here.words offset
    → IsMade s me (event.Instr me) l None (done_node l mode.Running (finished s me l.cpu value))
    (record { entry = done_entry me l (act.Load address value); sends = [] })
load_made s me l address value b offset here at_node may sound e at_block at_offset at allowed reads =
    stop_made s me l mode.Running (finished s me l.cpu value) (act.Load address value) at_node sound (
      completes s me l (next.Access false address 0) mode.Running (finished s me l.cpu value)
          (act.Load address value) l.blocks may e,
      record {
        allowed = subst (λ (x : Here). permits x.tag false ≡ true) is allowed;
        reads = reads ∙ ap (λ k. slice_index here.words k) at_offset
            ∙ ap (λ (x : Here). slice_index x.words (offset_of s address)) is;
        blocks = λ k. refl;
      },
    ) refl
  where
    is : here ≡ unwrap_or (slice_get l.blocks (block_of s address)) (first_here s me (block_of s address))
    is = block-is s me l (block_of s address) here (subst (λ k. slice_get l.blocks k ≡ Some here) at_block at)

-- the block with another word
abbrev pub with_value : Here → ℕ → ℕ → Here
with_value here offset value = record here { words = slice_set here.words offset value }

written : (s : Setup) (me : ℕ) (l : Node) (b : ℕ) (x : Here) → b < length l.blocks →
    unwrap_or (slice_get (set l.blocks b x) b) (first_here s me b) ≡ x
written s me l b x within = ap (λ (o : Option Here). unwrap_or o (first_here s me b)) (slice_get_same l.blocks b x within)

unwritten : (s : Setup) (me : ℕ) (l : Node) (b k : ℕ) (x : Here) → k ≢ b →
    unwrap_or (slice_get (set l.blocks b x) k) (first_here s me k) ≡ unwrap_or (slice_get l.blocks k) (first_here s me k)
unwritten s me l b k x d = ap (λ (o : Option Here). unwrap_or o (first_here s me k)) (slice_get_other l.blocks b k x d)

pub store_made : (s : Setup) (me : ℕ) (l : Node) (address value b offset : ℕ) (here : Here) → me < s.shape.nodes →
    MayInstruct s (local_of s me l) → IsSound s l → asked s me l.cpu ≡ next.Access true address value
    → b ≡ block_of s address → offset ≡ offset_of s address → b < s.shape.blocks → slice_get l.blocks b ≡ Some here →
    permits here.tag true ≡ true
    → IsMade s me (event.Instr me) l None (record (done_node l mode.Running (finished s me l.cpu 0))
    { blocks = slice_set l.blocks b (with_value here offset value) })
    (record { entry = done_entry me l (act.Store address value); sends = [] })
store_made s me l address value b offset here at_node may sound e at_block at_offset within at allowed =
    subst (λ k. IsMade s me (event.Instr me) l None (record (done_node l mode.Running (finished s me l.cpu 0))
    { blocks = slice_set l.blocks k (with_value here offset value) })
    (record { entry = done_entry me l (act.Store address value); sends = [] })) (sym at_block)
    (subst (λ k. IsMade s me (event.Instr me) l None (record
    (done_node l mode.Running (finished s me l.cpu 0)) {
      blocks = slice_set l.blocks (block_of s address)
          (with_value here k value);
    }) (record { entry = done_entry me l (act.Store address value); sends = [] })) (sym at_offset)
    (made s me l mode.Running (finished s me l.cpu 0) (act.Store address value)
    (slice_set l.blocks (block_of s address) next_here) at_node sound
    (length-set l.blocks (block_of s address) next_here ∙ sound.count)
    (all-set (is_served s) l.blocks (block_of s address) next_here sound.served
    (all-get (is_served s) l.blocks (block_of s address) here sound.served there)) (
      completes s me l (next.Access true address value) mode.Running (finished s me l.cpu 0) (act.Store address value)
          (slice_set l.blocks (block_of s address) next_here) may e,
      record {
        allowed = subst (λ (x : Here). permits x.tag true ≡ true) is allowed;
        block = written s me l (block_of s address) next_here (omega (arith, within, at_block, sound.count))
            ∙ ap (λ (x : Here). with_value x (offset_of s address) value) is;
        others = λ k d. unwritten s me l (block_of s address) k next_here d;
      },
    ) (event.Instr me) refl))
  where
    next_here : Here
    next_here = with_value here (offset_of s address) value

    there : slice_get l.blocks (block_of s address) ≡ Some here
    there = subst (λ k. slice_get l.blocks k ≡ Some here) at_block at

    is : here ≡ unwrap_or (slice_get l.blocks (block_of s address)) (first_here s me (block_of s address))
    is = block-is s me l (block_of s address) here there

pub faa_made : (s : Setup) (me : ℕ) (l : Node) (address value added sum b offset : ℕ) (here : Here) → me < s.shape.nodes →
    MayInstruct s (local_of s me l) → IsSound s l → asked s me l.cpu ≡ next.Faa address added
    → b ≡ block_of s address → offset ≡ offset_of s address → b < s.shape.blocks → slice_get l.blocks b ≡ Some here →
    permits here.tag true ≡ true → value ≡ slice_index here.words offset → sum ≡ wrap (value + added)
    → IsMade s me (event.Instr me) l None (record (done_node l mode.Running (finished s me l.cpu value))
    { blocks = slice_set l.blocks b (with_value here offset sum) })
    (record { entry = done_entry me l (act.Faa address value sum); sends = [] })
faa_made s me l address value added sum b offset here at_node may sound e at_block at_offset within at allowed reads sums =
    subst (λ k. IsMade s me (event.Instr me) l None (record (done_node l mode.Running (finished s me l.cpu value))
    { blocks = slice_set l.blocks k (with_value here offset sum) })
    (record { entry = done_entry me l (act.Faa address value sum); sends = [] })) (sym at_block)
    (subst (λ k. IsMade s me (event.Instr me) l None (record
    (done_node l mode.Running (finished s me l.cpu value))
    { blocks = slice_set l.blocks (block_of s address) (with_value here k sum) })
    (record { entry = done_entry me l (act.Faa address value sum); sends = [] })) (sym at_offset)
    (made s me l mode.Running (finished s me l.cpu value) (act.Faa address value sum)
    (slice_set l.blocks (block_of s address) next_here) at_node sound
    (length-set l.blocks (block_of s address) next_here ∙ sound.count)
    (all-set (is_served s) l.blocks (block_of s address) next_here sound.served
    (all-get (is_served s) l.blocks (block_of s address) here sound.served there)) (
      completes s me l (next.Faa address (added_by (asked s me l.cpu))) mode.Running (finished s me l.cpu value)
          (act.Faa address value sum) (slice_set l.blocks (block_of s address) next_here) may
          (e ∙ ap (λ k. next.Faa address k) add),
      record {
        reads = reads ∙ ap (λ k. slice_index here.words k) at_offset
            ∙ ap (λ (x : Here). slice_index x.words (offset_of s address)) is;
        sums = sums ∙ ap (λ k. wrap (value + k)) add;
        stores = record {
          allowed = subst (λ (x : Here). permits x.tag true ≡ true) is allowed;
          block = written s me l (block_of s address) next_here (omega (arith, within, at_block, sound.count))
              ∙ ap (λ (x : Here). with_value x (offset_of s address) sum) is;
          others = λ k d. unwritten s me l (block_of s address) k next_here d;
        };
      },
    ) (event.Instr me) refl))
  where
    next_here : Here
    next_here = with_value here (offset_of s address) sum

    there : slice_get l.blocks (block_of s address) ≡ Some here
    there = subst (λ k. slice_get l.blocks k ≡ Some here) at_block at

    is : here ≡ unwrap_or (slice_get l.blocks (block_of s address)) (first_here s me (block_of s address))
    is = block-is s me l (block_of s address) here there

    add : added ≡ added_by (asked s me l.cpu)
    add = sym (ap added_by e)

pub write_is : (xs ys zs : List Here) (b i : ℕ) (here : Here) (words : List ℕ) (offset value : ℕ) → ys ≡ xs → i ≡ b →
    slice_get ys i ≡ Some here → words ≡ slice_set here.words offset value → zs ≡ set ys i (record here { words = words })
    → (slice_get xs b ≡ Some here) × (zs ≡ set xs b (with_value here offset value))
write_is xs ys zs b i here words offset value same at read new is = (
  subst (λ k. slice_get xs k ≡ Some here) at (subst (λ (l : List Here). slice_get l i ≡ Some here) same read),
  is ∙ ap (λ (l : List Here). set l i (record here { words = words })) same
      ∙ ap (λ k. set xs k (record here { words = words })) at ∙ ap (λ (ws : List ℕ). set xs b (record here { words = ws })) new,
)

pub one_here : (o : Option Here) (x y : Here) → o ≡ Some x → o ≡ Some y → x ≡ y
one_here o x y p q = cc

pub sends_none : (outboxes : List Outbox) (made : Made) (e : Entry) → made ≡ record { entry = e; sends = [] } →
    CanSend outboxes made.sends
sends_none outboxes made e is = subst (λ (m : Made). CanSend outboxes m.sends) (sym is) tt
