-- What one event does at its node: one clause for each act that a log names.
use Rattle.std.specs.Prelude.{◌≡◌, ◌≢◌, ℕ, ◌+◌, ◌<◌, Bool, true, false, if◌then◌else◌, nat_eq, max, length, slice_index}
use Rattle.std.specs.Prelude.{slice_set, List, [], ◌∷◌, ◌++◌, Option, Some, None, map}
use Rattle.tw_base.specs.Lists.{Each}
use Rattle.tw_base.specs.declared.entry.Act.{Act}
use Rattle.tw_base.specs.declared.entry.Act.TheVariants as act
use Rattle.tw_base.specs.declared.entry.After.{After}
use Rattle.tw_base.specs.declared.entry.End.{End}
use Rattle.tw_base.specs.declared.entry.End.TheVariants as end
use Rattle.tw_base.specs.declared.entry.Entry.{Entry}
use Rattle.tw_base.specs.declared.message.Kind.{Kind}
use Rattle.tw_base.specs.declared.message.Message.{Message}
use Rattle.tw_base.specs.declared.value.Tag.{Tag}
use Rattle.block_tags.specs.Copies.{permits}
use Rattle.mini_asm.specs.Machine.{wrap}
use Rattle.mini_asm.specs.declared.cpu.Cpu.{Cpu}
use Rattle.mini_asm.specs.declared.cpu.Next.{Next}
use Rattle.mini_asm.specs.declared.cpu.Next.TheVariants as next
use Rattle.teapot_meaning.specs.Does.{Does}
use Rattle.teapot_meaning.specs.declared.state.Ended.{Ended}
use Rattle.teapot_meaning.specs.declared.state.Here.{Here}
use Rattle.teapot_meaning.specs.declared.state.Kept.{Kept}
use Rattle.teapot_meaning.specs.declared.state.Kept.TheVariants as kept
use Rattle.teapot_meaning.specs.declared.state.StateVal.{out-StateVal}
use Rattle.dsm_runs.specs.declared.mode.Mode.{Mode}
use Rattle.dsm_runs.specs.declared.mode.Mode.TheVariants as mode
use Rattle.dsm_runs.specs.declared.mode.Waiting.{Waiting}
use Rattle.dsm_runs.specs.Setups.{Setup, block_of, offset_of, asked, finished}
use Rattle.dsm_runs.specs.Locals.{Local, IsFirst, IsStale, last_stamp, MayInstruct, MayHandle}
use Rattle.dsm_runs.specs.Messages.{fault, outgoing}

-- the deferred messages of block b become eligible
abbrev pub free : ℕ → Waiting → Waiting
free b w = record w { eligible = if nat_eq w.message.block b then true else w.eligible }

abbrev pub freed_if : Bool → ℕ → List Waiting → List Waiting
freed_if true b ws = map (free b) ws
freed_if false b ws = ws

abbrev pub with_kept : Kept → Message → List Waiting → List Waiting
with_kept kept.No m ws = ws
with_kept kept.Stale m ws = ws ++ record { message = m; eligible = false } ∷ []
with_kept kept.Eligible m ws = ws ++ record { message = m; eligible = true } ∷ []

abbrev pub mode_after : Bool → ℕ → Mode → Mode
mode_after true b (mode.Blocked c) = if nat_eq b c then mode.Woken else mode.Blocked c
mode_after true b mode.Running = mode.Running
mode_after true b mode.Woken = mode.Woken
mode_after true b mode.Halted = mode.Halted
mode_after true b (mode.Trapped why) = mode.Trapped why
mode_after false b m = m

abbrev pub failure : End → Option End
failure end.Fine = None
failure (end.Failed k) = Some (end.Failed k)
failure end.TooDeep = Some end.TooDeep

-- a block as a handler left it
abbrev pub after_of : ℕ → Ended → After
after_of block ended =
    record { block = block; state = (out-StateVal ended.here.state).state; tag = ended.here.tag; end = ended.end }

-- Node i, which is in l, handles m in an event with this stamp.
pub record Handles (s : Setup) (i stamp : ℕ) (m : Message) (l l2 : Local) (sends : List Message) (after : Option After)
    : Type 0 where
  pub ended : Ended
  pub does : Does s.protocol (l.blocks m.block) m ended
  pub here : l2.blocks m.block ≡ ended.here
  pub others : (b : ℕ) → b ≢ m.block → l2.blocks b ≡ l.blocks b
  pub mode : l2.mode ≡ mode_after ended.woke m.block l.mode
  pub failed : l2.failed ≡ failure ended.end
  pub deferred : l2.deferred ≡ with_kept ended.kept m (freed_if ended.freed m.block l.deferred)
  pub cpu : l2.cpu ≡ l.cpu
  pub outs : sends ≡ outgoing s.protocol i m.block stamp ended.sends
  pub leaves : after ≡ Some (after_of m.block ended)

-- an instruction event, whether it completes or not
pub record Instructs (s : Setup) (l : Local) (front : Option Message) (l2 : Local) : Type 0 where
  pub may : MayInstruct s l
  pub no_front : front ≡ None
  pub instructions : l2.instructions ≡ l.instructions + 1
  pub handled : l2.handled ≡ l.handled

-- an instruction that completes: `needs` is what it needed, and the processor and the mode come to be these
pub record Completes (s : Setup) (i : ℕ) (l : Local) (front : Option Message) (l2 : Local) (entry : Entry)
    (sends : List Message) (needs : Next) (cpu_then : Cpu) (mode_then : Mode) : Type 0 where
  pub instructs : Instructs s l front l2
  pub needed : asked s i l.cpu ≡ needs
  pub cpu : l2.cpu ≡ cpu_then
  pub mode : l2.mode ≡ mode_then
  pub failed : l2.failed ≡ l.failed
  pub deferred : l2.deferred ≡ l.deferred
  pub sends_nothing : sends ≡ []
  pub no_handler : entry.after ≡ None

abbrev pub SameBlocks : Local → Local → Type 0
SameBlocks l l2 = (b : ℕ) → l2.blocks b ≡ l.blocks b

-- a node's copy of the word at an address, and the tag of its block
abbrev pub word_here : Setup → (ℕ → Here) → ℕ → ℕ
word_here s blocks address = slice_index (blocks (block_of s address)).words (offset_of s address)

abbrev pub tag_here : Setup → (ℕ → Here) → ℕ → Tag
tag_here s blocks address = (blocks (block_of s address)).tag

-- the block with another word at an address
abbrev pub with_word_here : Setup → ℕ → ℕ → Here → Here
with_word_here s address value here = record here { words = slice_set here.words (offset_of s address) value }

pub record Loads (s : Setup) (l l2 : Local) (address value : ℕ) : Type 0 where
  pub allowed : permits (tag_here s l.blocks address) false ≡ true
  pub reads : value ≡ word_here s l.blocks address
  pub blocks : SameBlocks l l2

pub record Stores (s : Setup) (l l2 : Local) (address value : ℕ) : Type 0 where
  pub allowed : permits (tag_here s l.blocks address) true ≡ true
  pub block : l2.blocks (block_of s address) ≡ with_word_here s address value (l.blocks (block_of s address))
  pub others : (b : ℕ) → b ≢ block_of s address → l2.blocks b ≡ l.blocks b

-- fetch and add: the word is read, and what is added to it is stored, in one access
pub record Adds (s : Setup) (l l2 : Local) (address value added sum : ℕ) : Type 0 where
  pub reads : value ≡ word_here s l.blocks address
  pub sums : sum ≡ wrap (value + added)
  pub stores : Stores s l l2 address sum

-- what a fetch and add adds
abbrev pub added_by : Next → ℕ
added_by (next.Faa address added) = added
added_by (next.Access store address value) = 0
added_by (next.Trap why) = 0
added_by next.Halt = 0
added_by (next.Print value) = 0
added_by next.Step = 0

-- the next instruction is an access of block b that this tag refuses; a fetch and add is a store
abbrev pub IsRefused : Setup → Next → Bool → ℕ → Tag → Type 0
IsRefused s (next.Access stores address value) store b tag =
    (store ≡ stores) × (b ≡ block_of s address) × (permits tag stores ≡ false)
IsRefused s (next.Faa address added) store b tag = (store ≡ true) × (b ≡ block_of s address) × (permits tag true ≡ false)
IsRefused s (next.Trap why) store b tag = ⊥
IsRefused s next.Halt store b tag = ⊥
IsRefused s (next.Print value) store b tag = ⊥
IsRefused s next.Step store b tag = ⊥

-- a refused access: the node is blocked, and handles the fault in the same event
pub record Faults (s : Setup) (i : ℕ) (l : Local) (front : Option Message) (l2 : Local) (entry : Entry) (sends : List Message)
    (store : Bool) (b : ℕ) : Type 0 where
  pub instructs : Instructs s l front l2
  pub refused : IsRefused s (asked s i l.cpu) store b (l.blocks b).tag
  pub handles : Handles s i entry.stamp (fault store b i) (record l { mode = mode.Blocked b }) l2 sends entry.after

-- an event that handles a message, and is no fault
pub record CountsHandler (s : Setup) (l l2 : Local) : Type 0 where
  pub may : MayHandle s l
  pub instructions : l2.instructions ≡ l.instructions
  pub handled : l2.handled ≡ l.handled + 1

pub record Redelivers (s : Setup) (i : ℕ) (l : Local) (front : Option Message) (l2 : Local) (entry : Entry)
    (sends : List Message) (kind : Kind) (block from : ℕ) : Type 0 where
  pub counts : CountsHandler s l l2
  pub no_front : front ≡ None
  pub message : Message
  pub earlier : List Waiting
  pub later : List Waiting
  pub takes : IsFirst message earlier later l.deferred
  pub of_kind : message.kind ≡ kind
  pub of_block : message.block ≡ block
  pub of_sender : message.from ≡ from
  pub handles : Handles s i entry.stamp message (record l { deferred = earlier ++ later }) l2 sends entry.after

pub record Delivers (s : Setup) (i : ℕ) (l : Local) (front : Option Message) (l2 : Local) (entry : Entry)
    (sends : List Message) (kind : Kind) (block from number : ℕ) : Type 0 where
  pub counts : CountsHandler s l l2
  pub none_eligible : Each IsStale l.deferred
  pub from_node : from < s.shape.nodes
  pub message : Message
  pub is_front : front ≡ Some message
  pub early : message.stamp < last_stamp
  pub of_kind : message.kind ≡ kind
  pub of_block : message.block ≡ block
  pub of_number : message.number ≡ number
  pub handles : Handles s i entry.stamp message l l2 sends entry.after

abbrev pub Acts : Setup → ℕ → Local → Option Message → Local → Entry → List Message → Act → Type 0
Acts s i l front l2 entry sends (act.Load address value) =
    Completes s i l front l2 entry sends (next.Access false address 0) (finished s i l.cpu value) mode.Running
    × Loads s l l2 address value
Acts s i l front l2 entry sends (act.Store address value) =
    Completes s i l front l2 entry sends (next.Access true address value) (finished s i l.cpu 0) mode.Running
    × Stores s l l2 address value
Acts s i l front l2 entry sends (act.Faa address value sum) =
    Completes s i l front l2 entry sends (next.Faa address (added_by (asked s i l.cpu))) (finished s i l.cpu value) mode.Running
    × Adds s l l2 address value (added_by (asked s i l.cpu)) sum
Acts s i l front l2 entry sends (act.Print value) =
    Completes s i l front l2 entry sends (next.Print value) (finished s i l.cpu 0) mode.Running
    × SameBlocks l l2
Acts s i l front l2 entry sends act.Halt = Completes s i l front l2 entry sends next.Halt l.cpu mode.Halted × SameBlocks l l2
Acts s i l front l2 entry sends (act.Trapped why) =
    Completes s i l front l2 entry sends (next.Trap why) l.cpu (mode.Trapped why) × SameBlocks l l2
Acts s i l front l2 entry sends act.Step =
    Completes s i l front l2 entry sends next.Step (finished s i l.cpu 0) mode.Running × SameBlocks l l2
Acts s i l front l2 entry sends (act.Fault store block) = Faults s i l front l2 entry sends store block
Acts s i l front l2 entry sends (act.Redelivered kind block from) = Redelivers s i l front l2 entry sends kind block from
Acts s i l front l2 entry sends (act.Delivered kind block from chan number) =
    Delivers s i l front l2 entry sends kind block from number

-- the later of the node's clock and the stamp of the message that it takes
abbrev pub latest : ℕ → Option Message → ℕ
latest clock None = clock
latest clock (Some m) = max clock m.stamp

-- Node i makes one event: it is in l before and in l2 after, `front` is the message that it takes from a wire, the log
-- gets `entry`, and `sends` are the messages sent, with the numbers still to come.
pub record LocalStep (s : Setup) (i : ℕ) (l : Local) (front : Option Message) (l2 : Local) (entry : Entry)
    (sends : List Message) : Type 0 where
  pub at_node : i < s.shape.nodes
  pub node : entry.node ≡ i
  pub stamp : entry.stamp ≡ latest l.clock front + 1
  pub clock : l2.clock ≡ entry.stamp
  pub count : entry.sends ≡ length sends
  pub sent : l2.sent ≡ l.sent + length sends
  pub acts : Acts s i l front l2 entry sends entry.act
