-- The flat machine of such a run has numbers of 64 bits, too, and so does the break of the run's history.
use Rattle.std.proofs.Common.{◌≡◌, ℕ, zero, suc, ◌+◌, ◌^◌, ◌≤◌, ◌==◌, cond, Bool, true, false, List, [], ◌∷◌, Option, Some}
use Rattle.std.proofs.Common.{None, length, refl, arith}
use Rattle.std.specs.Prelude.{replicate, slice_get, slice_index, slice_set}
use Rattle.tw_base.specs.Answers.{◌>>?◌}
use Rattle.tw_base.specs.Lists.{Each}
use Rattle.tw_base.specs.declared.entry.Act.{Act}
use Rattle.tw_base.specs.declared.entry.Act.TheVariants as act
use Rattle.tw_base.specs.declared.entry.Entry.{Entry}
use Rattle.mini_asm.specs.declared.cpu.Next.{Next}
use Rattle.mini_asm.specs.declared.cpu.Next.TheVariants as next
use Rattle.mini_asm.specs.declared.instr.Instr.{Instr}
use Rattle.mini_asm.specs.declared.processor.Core.{Core}
use Rattle.mini_asm.specs.declared.processor.FlatMode.TheVariants.{Running}
use Rattle.mini_asm.specs.Machine.{next_of}
use Rattle.mini_asm.specs.Run.{Machine, Ran, done, first_cpu, is_running, run_one, step_of, with_given}
use Rattle.dsm_runs.specs.Flat.{flat_start, flat_step, is_completed, reading}
use Rattle.dsm_runs.specs.Setups.{Setup, size_of}
use Rattle.journal.specs.declared.history.Break.{Break}
use Rattle.journal.specs.History.{break_at, break_beside, break_from, break_or}
use Rattle.printed_reports.specs.Named.{IsSmallAct, IsSmallBreak, Small}
use Rattle.run_reports.specs.Numbers.{HasSmallNumbers, IsSmallProgram}
use Rattle.run_reports.proofs.Processors.{SmallNext, each-get, each-set, finished-regs, next-small, small-index, wrap-small}

-- ---- one instruction

abbrev SmallCore : Core → Type 0
SmallCore core = Each Small core.cpu.regs

-- what an act read
abbrev SmallReading : Option (ℕ × ℕ) → Type 0
SmallReading None = Unit {0}
SmallReading (Some read) = Small read.1

record IsSmallRan (ran : Ran) : Type 0 where
  read : SmallReading (reading ran.act)
  core : SmallCore ran.core
  words : Each Small ran.words

done-small : (n : Next) (program : List Instr) (core : Core) (words : List ℕ) → SmallNext n → IsSmallProgram program
    → SmallCore core → Each Small words → IsSmallRan (done n program core words)
done-small (next.Access true address value) program core words h small regs ws =
    record {
      read = tt;
      core = finished-regs program core.cpu 0 small.numbers regs
          (omega arith);
      words = each-set Small words address value ws h;
    }
done-small (next.Access false address value) program core words h small regs ws =
    let v : Small (slice_index words address) = small-index words address ws in
    record { read = v; core = finished-regs program core.cpu (slice_index words address) small.numbers regs v; words = ws }
done-small (next.Faa address added) program core words h small regs ws =
    let v : Small (slice_index words address) = small-index words address ws in
    record {
      read = v;
      core = finished-regs program core.cpu
          (slice_index words address) small.numbers regs v;
      words = each-set Small words address _ ws
          (wrap-small (slice_index words address + added));
    }
done-small (next.Trap why) program core words h small regs ws = record { read = tt; core = regs; words = ws }
done-small next.Halt program core words h small regs ws = record { read = tt; core = regs; words = ws }
done-small (next.Print value) program core words h small regs ws =
    record { read = tt; core = finished-regs program core.cpu 0 small.numbers regs (omega arith); words = ws }
done-small next.Step program core words h small regs ws =
    record { read = tt; core = finished-regs program core.cpu 0 small.numbers regs (omega arith); words = ws }

ran-small : (program : List Instr) (core : Core) (words : List ℕ) → IsSmallProgram program → SmallCore core → Each Small words
    → IsSmallRan (run_one program core words)
unfolding run_one
ran-small program core words small regs ws = done-small (next_of program core.cpu (length words)) program core words
    (next-small program core.cpu (length words) regs) small regs ws

-- ---- a step

record IsSmallMachine (m : Machine) : Type 0 where
  programs : Each IsSmallProgram m.programs
  cores : Each SmallCore m.cores
  words : Each Small m.words

-- what a step did, and what it left
abbrev SmallStep : Option (Act × Machine) → Type 0
SmallStep None = Unit {0}
SmallStep (Some made) = SmallReading (reading made.0) × IsSmallMachine made.1

by-core : (m : Machine) (node : ℕ) (program : List Instr) (o : Option Core) → slice_get m.cores node ≡ o → IsSmallMachine m
    → IsSmallProgram program
    → SmallStep (o >>? λ core. let ran = run_one program core m.words in Some
    (ran.act, record { programs = m.programs; cores = slice_set m.cores node ran.core; words = ran.words }))
by-core m node program None e h small = tt
by-core m node program (Some core) e h small =
    let ran = ran-small program core m.words small (each-get SmallCore m.cores node core h.cores e) h.words in
    (ran.read, record { programs = h.programs; cores = each-set SmallCore m.cores node _ h.cores ran.core; words = ran.words })

by-program : (m : Machine) (node : ℕ) (o : Option (List Instr)) → slice_get m.programs node ≡ o → IsSmallMachine m
    → SmallStep (o >>? λ program. slice_get m.cores node >>? λ core. let ran = run_one program core m.words in Some
    (ran.act, record { programs = m.programs; cores = slice_set m.cores node ran.core; words = ran.words }))
by-program m node None e h = tt
by-program m node (Some program) e h = by-core m node program (slice_get m.cores node) refl h
    (each-get IsSmallProgram m.programs node program h.programs e)

flat-small : (m : Machine) (node : ℕ) → IsSmallMachine m → SmallStep (flat_step m node)
flat-small m node h = by (is_running m node)
  where
    by : (b : Bool) → SmallStep (cond b (step_of m node) None)
    by true = by-program m node (slice_get m.programs node) refl h
    by false = tt

-- ---- the history

abbrev pub SmallEvent : Entry → Type 0
SmallEvent e = Small e.sends × IsSmallAct e.act

act-reading : (a : Act) → IsSmallAct a → SmallReading (reading a)
act-reading (act.Load address value) h = h
act-reading (act.Faa address value sum) h = h.0
act-reading (act.Store address value) h = tt
act-reading (act.Print value) h = tt
act-reading act.Halt h = tt
act-reading (act.Trapped why) h = tt
act-reading act.Step h = tt
act-reading (act.Fault store block) h = tt
act-reading (act.Redelivered kind block from) h = tt
act-reading (act.Delivered kind block from chan number) h = tt

break-small : (k node : ℕ) (read due : Option (ℕ × ℕ)) (more : Option Break) → Small k → SmallReading read → SmallReading due
    → IsSmallBreak more → IsSmallBreak (break_or (break_at k node read due) more)
break-small k node (Some r) (Some d) more lt h due rest = by (r.1 == d.1)
  where
    by : (b : Bool)
        → IsSmallBreak
        (break_or (cond b None (Some (record { event = k; node = node; address = r.0; read = r.1; due = d.1 }))) more)
    by true = rest
    by false = (lt, h, due)
break-small k node (Some r) None more lt h due rest = rest
break-small k node None due more lt h small rest = rest

beside-small : (k : ℕ) (e : Entry) (o : Option (Act × Machine)) (later : Machine → Option Break) → Small k → SmallEvent e
    → SmallStep o → ((m : Machine) → IsSmallMachine m → IsSmallBreak (later m)) → IsSmallBreak (break_beside k e o later)
beside-small k e None later lt h step go = tt
beside-small k e (Some flat) later lt h step go = break-small k e.node (reading e.act) (reading flat.0) (later flat.1) lt
    (act-reading e.act h.1) step.0 (go flat.1 step.1)

from-small : (es : List Entry) (m : Machine) (k : ℕ) → k + length es ≤ 2 ^ 32 → IsSmallMachine m → Each SmallEvent es
    → IsSmallBreak (break_from m k es)
unfolding break_from
from-small [] m k le h es = tt
from-small (e ∷ es) m k le h (one, more) =
    let next : ℕ = k + 1 in
    let lt : Small k = omega arith in
    by (is_completed e.act) (beside-small k e (flat_step m e.node) (λ next. break_from next (k + 1) es) lt one
    (flat-small m e.node h) (λ next small. from-small es next (k + 1) (omega arith) small more))
    (from-small es m (k + 1) (omega arith) h more)
  where
    by : (b : Bool) → IsSmallBreak (break_beside k e (flat_step m e.node) (λ next. break_from next (k + 1) es))
        → IsSmallBreak (break_from m (k + 1) es)
        → IsSmallBreak (cond b (break_beside k e (flat_step m e.node) (λ next. break_from next (k + 1) es))
        (break_from m (k + 1) es))
    by true one other = one
    by false one other = other

-- ---- the start

pub zeros-small : (n : ℕ) → Each Small (replicate n 0)
zeros-small zero = tt
zeros-small (suc n) = (omega arith, zeros-small n)

cores-small : (n : ℕ) → Each SmallCore (replicate n (record { cpu = first_cpu; mode = Running }))
cores-small zero = tt
cores-small (suc n) = (zeros-small 16, cores-small n)

given-small : (given : List (ℕ × ℕ)) (words : List ℕ) → Each (λ g. Small g.1) given → Each Small words
    → Each Small (with_given given words)
given-small [] words h ws = ws
given-small (g ∷ gs) words (h, hs) ws = given-small gs (slice_set words g.0 g.1) hs (each-set Small words g.0 g.1 ws h)

pub history-small : (s : Setup) (es : List Entry) → HasSmallNumbers s → length es ≤ 2 ^ 32 → Each SmallEvent es
    → IsSmallBreak (break_from (flat_start s) 0 es)
history-small s es small le h =
    from-small es (flat_start s) 0 (omega arith)
    (record {
      programs = small.programs;
      cores = cores-small s.shape.nodes;
      words = given-small s.init
          (replicate (size_of s) 0) small.init (zeros-small (size_of s));
    }) h
