-- One event of a node beside the flat machine: it does the same, or it reads another value.
use Rattle.std.proofs.Common.{◌≡◌, ◌≢◌, ℕ, ◌+◌, ◌⊎◌, inl, inr, Bool, true, false, if◌then◌else◌, nat_eq, length, List, Option}
use Rattle.std.proofs.Common.{Some, refl, sym, ap, ◌∙◌}
use Rattle.std.specs.Prelude.{slice_get, slice_index, slice_set}
use Rattle.std.proofs.lemmas.Bool.{cases_eq}
use Rattle.std.proofs.lemmas.List.{length-set}
use Rattle.tw_base.specs.declared.entry.Act.{Act}
use Rattle.tw_base.specs.declared.entry.Act.TheVariants as act
use Rattle.tw_base.specs.declared.entry.After.{After}
use Rattle.tw_base.specs.declared.entry.Entry.{Entry}
use Rattle.tw_base.specs.declared.message.Message.{Message}
use Rattle.mini_asm.specs.Machine.{next_of, wrap}
use Rattle.mini_asm.specs.Run.{Machine, Ran, done, is_running_mode, run_one}
use Rattle.mini_asm.specs.declared.cpu.Cpu.{Cpu}
use Rattle.mini_asm.specs.declared.cpu.Next.{Next}
use Rattle.mini_asm.specs.declared.cpu.Next.TheVariants as next
use Rattle.mini_asm.specs.declared.instr.Instr.{Instr}
use Rattle.mini_asm.specs.declared.processor.Core.{Core}
use Rattle.mini_asm.specs.declared.processor.FlatMode.TheVariants as flat
use Rattle.dsm_runs.specs.declared.mode.Mode.{Mode}
use Rattle.dsm_runs.specs.declared.mode.Mode.TheVariants as mode
use Rattle.dsm_runs.specs.Events.{Acts, Completes, Handles, added_by, mode_after}
use Rattle.dsm_runs.specs.Locals.{IsReady, Local}
use Rattle.dsm_runs.specs.Setups.{Setup, asked, finished, program_at, size_of}
use Rattle.dsm_runs.specs.Flat.{IsDue, core_in, core_of, flat_mode, flat_step, is_completed, reading, words_after}

-- ---- a node as a processor of the flat machine

core_of-is : (l : Local) (cpu : Cpu) (m : Mode) → l.cpu ≡ cpu → l.mode ≡ m → core_of l ≡ core_in cpu m
core_of-is l cpu m p q = ap (λ c. core_in c l.mode) p ∙ ap (core_in cpu) q

ready-mode : (m : Mode) → IsReady m → flat_mode m ≡ flat.Running
ready-mode mode.Running ready = refl
ready-mode mode.Woken ready = refl
ready-mode (mode.Blocked b) ready = absurd ready
ready-mode mode.Halted ready = absurd ready
ready-mode (mode.Trapped why) ready = absurd ready

-- ---- a handler leaves the processor

woken-mode : (b c : ℕ) (same : Bool) → flat_mode (if same then mode.Woken else mode.Blocked c) ≡ flat.Running
woken-mode b c true = refl
woken-mode b c false = refl

mode_after-flat : (woke : Bool) (b : ℕ) (m : Mode) → flat_mode (mode_after woke b m) ≡ flat_mode m
mode_after-flat false b m = refl
mode_after-flat true b mode.Running = refl
mode_after-flat true b (mode.Blocked c) = woken-mode b c (nat_eq b c)
mode_after-flat true b mode.Woken = refl
mode_after-flat true b mode.Halted = refl
mode_after-flat true b (mode.Trapped why) = refl

handles-core : (s : Setup) (i stamp : ℕ) (m : Message) (l l2 : Local) (sends : List Message) (after : Option After) →
    Handles s i stamp m l l2 sends after → core_of l2 ≡ core_of l
handles-core s i stamp m l l2 sends after h =
    let same : flat_mode l2.mode ≡ flat_mode l.mode = ap flat_mode h.mode ∙ mode_after-flat h.ended.woke m.block l.mode in
    rw (h.cpu, same) refl

-- an event that completes no instruction leaves the processor
pub acts-stay : (s : Setup) (i : ℕ) (l : Local) (front : Option Message) (l2 : Local) (e : Entry) (sends : List Message)
    (did : Act)
    → is_completed did ≡ false → Acts s i l front l2 e sends did → core_of l2 ≡ core_of l
acts-stay s i l front l2 e sends (act.Fault store block) silent a =
    handles-core s i e.stamp _ (record l { mode = mode.Blocked block }) l2 sends e.after a.handles
    ∙ ap (λ m. record { cpu = l.cpu; mode = m }) (sym (ready-mode l.mode a.instructs.may.ready))
acts-stay s i l front l2 e sends (act.Redelivered kind block from) silent a =
    handles-core s i e.stamp _ _ l2 sends e.after a.handles
acts-stay s i l front l2 e sends (act.Delivered kind block from chan number) silent a =
    handles-core s i e.stamp _ _ l2 sends e.after a.handles
acts-stay s i l front l2 e sends (act.Load address value) silent a = absurd cc
acts-stay s i l front l2 e sends (act.Store address value) silent a = absurd cc
acts-stay s i l front l2 e sends (act.Faa address value sum) silent a = absurd cc
acts-stay s i l front l2 e sends (act.Print value) silent a = absurd cc
acts-stay s i l front l2 e sends act.Halt silent a = absurd cc
acts-stay s i l front l2 e sends (act.Trapped why) silent a = absurd cc
acts-stay s i l front l2 e sends act.Step silent a = absurd cc

-- ---- an instruction on the flat machine

-- the flat machine has node i as l says
pub record IsAt (s : Setup) (m : Machine) (i : ℕ) (l : Local) : Type 0 where
  pub program : slice_get m.programs i ≡ Some (program_at s i)
  pub core : slice_get m.cores i ≡ Some (core_of l)
  pub size : length m.words ≡ size_of s

abbrev pub with_core : Machine → ℕ → Core → List ℕ → Machine
with_core m i core words = record { programs = m.programs; cores = slice_set m.cores i core; words = words }

abbrev left_by : Machine → ℕ → Ran → Act × Machine
left_by m i ran = (ran.act, with_core m i ran.core ran.words)

-- the flat machine does this at node i, and the node is then as the core says
pub record Repeats (m : Machine) (i : ℕ) (did : Act) (core : Core) : Type 0 where
  pub words : List ℕ
  pub size : length words ≡ length m.words
  pub is : words ≡ words_after did m.words
  pub steps : flat_step m i ≡ Some (did, with_core m i core words)

-- the flat machine reads another value at the same address
pub record ReadsOther (m : Machine) (i : ℕ) (did : Act) : Type 0 where
  pub due_act : Act
  pub after : Machine
  pub steps : flat_step m i ≡ Some (due_act, after)
  pub address : ℕ
  pub read : ℕ
  pub due : ℕ
  pub reads : reading did ≡ Some (address, read)
  pub is_due : reading due_act ≡ Some (address, due)
  pub word : due ≡ slice_index m.words address
  pub differs : read ≢ due

flat_step-is : (m : Machine) (i : ℕ) (program : List Instr) (core : Core) (needs : Next) →
    slice_get m.programs i ≡ Some program → slice_get m.cores i ≡ Some core → is_running_mode core.mode ≡ true
    → next_of program core.cpu (length m.words) ≡ needs → flat_step m i ≡ Some (left_by m i (done needs program core m.words))
unfolding run_one
flat_step-is m i program core needs p q r n = rw (p, q, r, n) refl

abbrev running : Cpu → Core
running cpu = record { cpu = cpu; mode = flat.Running }

step-is : (s : Setup) (m : Machine) (i : ℕ) (l : Local) (front : Option Message) (l2 : Local) (e : Entry)
    (sends : List Message) (needs : Next) (cpu_then : Cpu) (mode_then : Mode)
    → IsAt s m i l → Completes s i l front l2 e sends needs cpu_then mode_then →
    flat_step m i ≡ Some (left_by m i (done needs (program_at s i) (running l.cpu) m.words))
step-is s m i l front l2 e sends needs cpu_then mode_then at c =
    let core : core_of l ≡ running l.cpu = ap (λ m2. record { cpu = l.cpu; mode = m2 })
    (ready-mode l.mode c.instructs.may.ready) in
    let asks : next_of (program_at s i) l.cpu (length m.words) ≡ needs = ap (next_of (program_at s i) l.cpu) at.size ∙ c.needed in
    flat_step-is m i (program_at s i) (running l.cpu) needs at.program (at.core ∙ ap Some core) refl asks

repeats : (s : Setup) (m : Machine) (i : ℕ) (l : Local) (front : Option Message) (l2 : Local) (e : Entry)
    (sends : List Message) (needs : Next) (cpu_then : Cpu) (mode_then : Mode) (did : Act) (core : Core) (words : List ℕ)
    → Completes s i l front l2 e sends needs cpu_then mode_then → flat_step m i ≡ Some (did, with_core m i core words) →
    core ≡ core_in cpu_then mode_then → length words ≡ length m.words → words ≡ words_after did m.words →
    Repeats m i did (core_of l2)
repeats s m i l front l2 e sends needs cpu_then mode_then did core words c steps same size is =
    let left : core ≡ core_of l2 = same ∙ sym (core_of-is l2 cpu_then mode_then c.cpu c.mode) in
    record { words = words; size = size; is = is; steps = steps ∙ ap (λ (x : Core). Some (did, with_core m i x words)) left }

-- a load and a fetch and add give what was read, which may be another word than the flat machine has
load-goes : (s : Setup) (m : Machine) (i : ℕ) (l : Local) (front : Option Message) (l2 : Local) (e : Entry)
    (sends : List Message) (address value : ℕ)
    → IsAt s m i l → Completes s i l front l2 e sends (next.Access false address 0) (finished s i l.cpu value) mode.Running
    → Repeats m i (act.Load address value) (core_of l2) ⊎ ReadsOther m i (act.Load address value)
load-goes s m i l front l2 e sends address value at c =
    let word : ℕ = slice_index m.words address in
    let core : ℕ → Core = λ v. running (finished s i l.cpu v) in
    let steps : flat_step m i ≡ Some (act.Load address word, with_core m i (core word) m.words) =
    step-is s m i l front l2 e sends _ _ _ at c in
    elim (cases_eq value word) [
      | inl same ↦ inl (repeats s m i l front l2 e sends _ _ _ (act.Load address value) (core word) m.words c
          (steps ∙ ap (λ (v : ℕ). Some (act.Load address v, with_core m i (core word) m.words)) (sym same))
          (ap core (sym same)) refl refl)
      | inr other ↦ inr (record {
        due_act = act.Load address word;
        after = with_core m i (core word) m.words;
        steps = steps;
        address = address;
        read = value;
        due = word;
        reads = refl;
        is_due = refl;
        word = refl;
        differs = other;
      })
    ]

faa-goes : (s : Setup) (m : Machine) (i : ℕ) (l : Local) (front : Option Message) (l2 : Local) (e : Entry)
    (sends : List Message) (address value added sum : ℕ)
    → IsAt s m i l → Completes s i l front l2 e sends (next.Faa address added) (finished s i l.cpu value) mode.Running →
    sum ≡ wrap (value + added)
    → Repeats m i (act.Faa address value sum) (core_of l2) ⊎ ReadsOther m i (act.Faa address value sum)
faa-goes s m i l front l2 e sends address value added sum at c sums =
    let word : ℕ = slice_index m.words address in
    let core : ℕ → Core = λ v. running (finished s i l.cpu v) in
    let words : List ℕ = slice_set m.words address (wrap (word + added)) in
    let steps : flat_step m i ≡ Some (act.Faa address word (wrap (word + added)), with_core m i (core word) words) =
    step-is s m i l front l2 e sends _ _ _ at c in
    elim (cases_eq value word) [
      | inl same ↦
          let did : act.Faa address word (wrap (word + added)) ≡ act.Faa address value sum =
          ap (λ (v : ℕ). act.Faa address v (wrap (v + added))) (sym same) ∙ ap (act.Faa address value) (sym sums) in
          let summed : wrap (word + added) ≡ sum = ap (λ (v : ℕ). wrap (v + added)) (sym same) ∙ sym sums in
          inl (repeats s m i l front l2 e sends _ _ _ (act.Faa address value sum) (core word) words c
          (steps ∙ ap (λ (a : Act). Some (a, with_core m i (core word) words)) did) (ap core (sym same))
          (length-set m.words address (wrap (word + added))) (ap (slice_set m.words address) summed))
      | inr other ↦ inr (record {
        due_act = act.Faa address word (wrap (word + added));
        after = with_core m i (core word) words;
        steps = steps;
        address = address;
        read = value;
        due = word;
        reads = refl;
        is_due = refl;
        word = refl;
        differs = other;
      })
    ]

-- what an event does that completes an instruction, the flat machine does too, or it reads another value
pub acts-go : (s : Setup) (m : Machine) (i : ℕ) (l : Local) (front : Option Message) (l2 : Local) (e : Entry)
    (sends : List Message) (did : Act)
    → is_completed did ≡ true → IsAt s m i l → Acts s i l front l2 e sends did → Repeats m i did (core_of l2) ⊎ ReadsOther m i did
acts-go s m i l front l2 e sends (act.Load address value) completed at a = load-goes s m i l front l2 e sends address value at a.0
acts-go s m i l front l2 e sends (act.Faa address value sum) completed at a =
    faa-goes s m i l front l2 e sends address value (added_by (asked s i l.cpu)) sum at a.0 a.1.sums
acts-go s m i l front l2 e sends (act.Store address value) completed at a =
    inl (repeats s m i l front l2 e sends _ _ _ _ _ _ a.0 (step-is s m i l front l2 e sends _ _ _ at a.0) refl
    (length-set m.words address value) refl)
acts-go s m i l front l2 e sends (act.Print value) completed at a =
    inl (repeats s m i l front l2 e sends _ _ _ _ _ _ a.0 (step-is s m i l front l2 e sends _ _ _ at a.0) refl refl refl)
acts-go s m i l front l2 e sends act.Halt completed at a = inl
    (repeats s m i l front l2 e sends _ _ _ _ _ _ a.0 (step-is s m i l front l2 e sends _ _ _ at a.0) refl refl refl)
acts-go s m i l front l2 e sends (act.Trapped why) completed at a =
    inl (repeats s m i l front l2 e sends _ _ _ _ _ _ a.0 (step-is s m i l front l2 e sends _ _ _ at a.0) refl refl refl)
acts-go s m i l front l2 e sends act.Step completed at a = inl
    (repeats s m i l front l2 e sends _ _ _ _ _ _ a.0 (step-is s m i l front l2 e sends _ _ _ at a.0) refl refl refl)
acts-go s m i l front l2 e sends (act.Fault store block) completed at a = absurd cc
acts-go s m i l front l2 e sends (act.Redelivered kind block from) completed at a = absurd cc
acts-go s m i l front l2 e sends (act.Delivered kind block from chan number) completed at a = absurd cc

-- ---- where what was read was due

some_same : (x y : ℕ × ℕ) → Some x ≡ Some y → x ≡ y
some_same x y e = cc

due-same : (did there : ℕ × ℕ) (words : List ℕ) → did.1 ≡ slice_index words did.0 → Some did ≡ Some there →
    there.1 ≡ slice_index words there.0
due-same did there words due e =
    let same = some_same did there e in
    sym (ap (λ (p : ℕ × ℕ). p.1) same) ∙ due ∙ ap (λ (p : ℕ × ℕ). slice_index words p.0) same

-- what such an act read is the word at its address
due-read : (did : Act) (words : List ℕ) (address read : ℕ) → IsDue did words → reading did ≡ Some (address, read) →
    read ≡ slice_index words address
due-read (act.Load a v) words address read due reads = due-same (a, v) (address, read) words due reads
due-read (act.Faa a v sum) words address read due reads = due-same (a, v) (address, read) words due reads
due-read (act.Store a v) words address read due reads = absurd cc
due-read (act.Print v) words address read due reads = absurd cc
due-read act.Halt words address read due reads = absurd cc
due-read (act.Trapped why) words address read due reads = absurd cc
due-read act.Step words address read due reads = absurd cc
due-read (act.Fault store block) words address read due reads = absurd cc
due-read (act.Redelivered kind block from) words address read due reads = absurd cc
due-read (act.Delivered kind block from chan number) words address read due reads = absurd cc

-- where it is, the flat machine does the same
pub acts-go-due : (s : Setup) (m : Machine) (i : ℕ) (l : Local) (front : Option Message) (l2 : Local) (e : Entry)
    (sends : List Message) (did : Act)
    → is_completed did ≡ true → IsAt s m i l → Acts s i l front l2 e sends did → IsDue did m.words → Repeats m i did (core_of l2)
acts-go-due s m i l front l2 e sends did completed at a due = elim (acts-go s m i l front l2 e sends did completed at a) [
  | inl goes ↦ goes
  | inr other ↦ absurd (other.differs (due-read did m.words other.address other.read due other.reads ∙ sym other.word))
]

-- an act that completes no instruction leaves the words
pub silent-words : (did : Act) (words : List ℕ) → is_completed did ≡ false → words_after did words ≡ words
silent-words (act.Fault store block) words silent = refl
silent-words (act.Redelivered kind block from) words silent = refl
silent-words (act.Delivered kind block from chan number) words silent = refl
silent-words (act.Load address value) words silent = absurd cc
silent-words (act.Store address value) words silent = absurd cc
silent-words (act.Faa address value sum) words silent = absurd cc
silent-words (act.Print value) words silent = absurd cc
silent-words act.Halt words silent = absurd cc
silent-words (act.Trapped why) words silent = absurd cc
silent-words act.Step words silent = absurd cc
