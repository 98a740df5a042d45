-- What kinds of events there are, and how a node counts them.
use Rattle.std.proofs.Common.{◌≡◌, ℕ, ◌+◌, ◌≤◌, Bool, true, false, List, Option, None, refl, subst, arith}
use Rattle.tw_base.specs.declared.entry.Act.{Act}
use Rattle.tw_base.specs.declared.entry.Act.TheVariants as act
use Rattle.tw_base.specs.declared.entry.Entry.{Entry}
use Rattle.tw_base.specs.declared.message.Message.{Message}
use Rattle.mini_asm.specs.declared.processor.FlatMode.TheVariants as flat
use Rattle.dsm_runs.specs.declared.mode.Mode.{Mode}
use Rattle.dsm_runs.specs.declared.mode.Mode.TheVariants as mode
use Rattle.dsm_runs.specs.Events.{Acts}
use Rattle.dsm_runs.specs.Flat.{flat_mode, is_completed}
use Rattle.dsm_runs.specs.Locals.{IsReady, Local, MayInstruct}
use Rattle.dsm_runs.specs.Setups.{Setup}
use Rattle.coherence_inv.specs.Ends.{IsDoneAccess}
use Rattle.coherence_inv.specs.Potential.{is_handler_event}
use Rattle.sample_runs.specs.Summaries.{printed}
use Rattle.sample_sums.proofs.Spots.{price_of}

-- an instruction that completed, a refused access, or an event that handles a message
pub data Kind (a : Act) : Type 0 where
  Completed : is_completed a ≡ true → is_handler_event a ≡ 0 → Kind a
  Fault : (store : Bool) (block : ℕ) → a ≡ act.Fault store block → Kind a
  Handler : is_completed a ≡ false → is_handler_event a ≡ 1 → printed a ≡ None → Kind a

pub kind_of : (a : Act) → Kind a
kind_of (act.Load address value) = Completed refl refl
kind_of (act.Store address value) = Completed refl refl
kind_of (act.Faa address value sum) = Completed refl refl
kind_of (act.Print value) = Completed refl refl
kind_of act.Halt = Completed refl refl
kind_of (act.Trapped why) = Completed refl refl
kind_of act.Step = Completed refl refl
kind_of (act.Fault store block) = Fault store block refl
kind_of (act.Redelivered kind block from) = Handler refl refl refl
kind_of (act.Delivered kind block from chan number) = Handler refl refl refl

-- a node counts its instruction events
pub acts_count : (s : Setup) (i : ℕ) (l : Local) (front : Option Message) (x : Local) (e : Entry) (sends : List Message)
    (a : Act) → Acts s i l front x e sends a
    → x.instructions + is_handler_event a ≡ l.instructions + 1
acts_count s i l front x e sends (act.Load address value) p = let q = p.0.instructs in omega arith
acts_count s i l front x e sends (act.Store address value) p = let q = p.0.instructs in omega arith
acts_count s i l front x e sends (act.Faa address value sum) p = let q = p.0.instructs in omega arith
acts_count s i l front x e sends (act.Print value) p = let q = p.0.instructs in omega arith
acts_count s i l front x e sends act.Halt p = let q = p.0.instructs in omega arith
acts_count s i l front x e sends (act.Trapped why) p = let q = p.0.instructs in omega arith
acts_count s i l front x e sends act.Step p = let q = p.0.instructs in omega arith
acts_count s i l front x e sends (act.Fault store block) p = let q = p.instructs in omega arith
acts_count s i l front x e sends (act.Redelivered kind block from) p = let q = p.counts in omega arith
acts_count s i l front x e sends (act.Delivered kind block from chan number) p = let q = p.counts in omega arith

-- what a refused access needed
pub fault_may : (s : Setup) (i : ℕ) (l : Local) (front : Option Message) (x : Local) (e : Entry) (sends : List Message)
    (a : Act) (store : Bool) (block : ℕ)
    → a ≡ act.Fault store block → Acts s i l front x e sends a → MayInstruct s l
fault_may s i l front x e sends a store block is p = (subst (λ (y : Act). Acts s i l front x e sends y) is p).instructs.may

pub ready_runs : (m : Mode) → IsReady m → flat_mode m ≡ flat.Running
ready_runs mode.Running r = refl
ready_runs mode.Woken r = refl
ready_runs (mode.Blocked b) r = absurd r
ready_runs mode.Halted r = absurd r
ready_runs (mode.Trapped why) r = absurd r

-- ---- what an act costs

pub price_some : (a : Act) → 1 ≤ price_of a
price_some (act.Load address value) = omega arith
price_some (act.Store address value) = omega arith
price_some (act.Faa address value sum) = omega arith
price_some (act.Print value) = omega arith
price_some act.Halt = omega arith
price_some (act.Trapped why) = omega arith
price_some act.Step = omega arith
price_some (act.Fault store block) = omega arith
price_some (act.Redelivered kind block from) = omega arith
price_some (act.Delivered kind block from chan number) = omega arith

pub price_of_access : (s : Setup) (store : Bool) (b : ℕ) (a : Act) → IsDoneAccess s store b a → price_of a ≡ 2
price_of_access s store b (act.Load address value) h = refl
price_of_access s store b (act.Store address value) h = refl
price_of_access s store b (act.Faa address value sum) h = refl
price_of_access s store b (act.Print value) h = absurd h
price_of_access s store b act.Halt h = absurd h
price_of_access s store b (act.Trapped why) h = absurd h
price_of_access s store b act.Step h = absurd h
price_of_access s store b (act.Fault store2 block) h = absurd h
price_of_access s store b (act.Redelivered kind block from) h = absurd h
price_of_access s store b (act.Delivered kind block from chan number) h = absurd h

-- a fault is no access that was made
pub fault_undone : (s : Setup) (store store2 : Bool) (b block : ℕ) (a : Act) → a ≡ act.Fault store2 block
    → IsDoneAccess s store b a → ⊥
fault_undone s store store2 b block a is h = subst (λ (x : Act). IsDoneAccess s store b x) is h
