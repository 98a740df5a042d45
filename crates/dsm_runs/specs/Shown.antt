-- What a step shows: which message it takes, and what its instruction asked for.
use Rattle.std.specs.Prelude.{◌≡◌, ◌≢◌, ◌⊎◌, ℕ, ◌<◌, Bool, true, false, List, ◌∷◌, Option}
use Rattle.tw_base.specs.declared.entry.Act.TheVariants as act
use Rattle.tw_base.specs.declared.entry.Entry.{Entry}
use Rattle.tw_base.specs.declared.message.Chan.{Chan}
use Rattle.tw_base.specs.declared.message.Kind.{Kind}
use Rattle.tw_base.specs.declared.message.Message.{Message}
use Rattle.tw_base.specs.declared.value.Tag.{Tag}
use Rattle.mini_asm.specs.declared.cpu.Cpu.{Cpu}
use Rattle.mini_asm.specs.declared.cpu.Next.{Next}
use Rattle.mini_asm.specs.declared.cpu.Next.TheVariants as next
use Rattle.dsm_runs.specs.declared.mode.Mode.TheVariants as mode
use Rattle.dsm_runs.specs.Setups.{IsSetup, Setup, asked}
use Rattle.dsm_runs.specs.Locals.{Local, MayInstruct}
use Rattle.dsm_runs.specs.Events.{CountsHandler, Delivers, IsRefused, LocalStep}
use Rattle.dsm_runs.specs.Worlds.{Step, Wires, World, takes_from}

-- an address is within the memory, and a load asks with the value 0
abbrev pub AsksWell : ℕ → Next → Type 0
AsksWell size (next.Access true address value) = address < size
AsksWell size (next.Access false address value) = (address < size) × (value ≡ 0)
AsksWell size (next.Faa address added) = address < size
AsksWell size (next.Trap why) = Unit {0}
AsksWell size next.Halt = Unit {0}
AsksWell size (next.Print value) = Unit {0}
AsksWell size next.Step = Unit {0}

-- A delivery takes the front of one wire, and no other message from any wire.
pub record TakesFront (g : World) (f t : ℕ) (c : Chan) (m : Message) (between : Wires) : Type 0 where
  pub front : g.wires f t c ≡ m ∷ between f t c
  pub others : (f2 t2 : ℕ) (c2 : Chan) → (f2 ≢ f) ⊎ (t2 ≢ t) ⊎ (c2 ≢ c) → g.wires f2 t2 c2 ≡ between f2 t2 c2

-- A delivery is of the front of the wire that its entry names.
abbrev pub DeliveriesTakeFronts : Type 0
DeliveriesTakeFronts =
    (s : Setup) (g : World) (e : Entry) (h : World) (kind : Kind) (block from : ℕ) (c : Chan) (number : ℕ) (r : Step s g e h) →
    e.act ≡ act.Delivered kind block from c number →
    (d : Delivers s e.node (g.locals e.node) r.front (h.locals e.node) e r.sends kind block from number)
    × TakesFront g from e.node c d.message r.between

-- An event that is no delivery takes nothing.
abbrev pub OthersTakeNothing : Type 0
OthersTakeNothing =
    (s : Setup) (g : World) (e : Entry) (h : World) (r : Step s g e h) →
    ((f : ℕ) (c : Chan) → takes_from e.act f c ≡ false) → (f t : ℕ) (c : Chan) → g.wires f t c ≡ r.between f t c

-- A block whose tag refuses an access is one of the machine.
abbrev pub RefusedBlocksAreWithin : Type 0
RefusedBlocksAreWithin =
    (s : Setup) (i : ℕ) (cpu : Cpu) (store : Bool) (b : ℕ) (tag : Tag) →
    IsSetup s → IsRefused s (asked s i cpu) store b tag → b < s.shape.blocks

-- A node that is not held while it handles a message is not held afterwards.
abbrev pub HandlersHoldNobody : Type 0
HandlersHoldNobody =
    (s : Setup) (i : ℕ) (l : Local) (front : Option Message) (l2 : Local) (e : Entry) (sends : List Message) →
    LocalStep s i l front l2 e sends → CountsHandler s l l2 → l.mode ≡ mode.Woken → MayInstruct s l2 → MayInstruct s l
