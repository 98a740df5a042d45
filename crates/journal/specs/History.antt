-- A journal beside the flat machine: one memory, no blocks, no messages.
use Rattle.std.specs.Prelude.{ℕ, ◌+◌, ◌==◌, if◌then◌else◌, List, [], ◌∷◌, Option, Some, None}
use Rattle.tw_base.specs.declared.entry.Act.{Act}
use Rattle.tw_base.specs.declared.entry.Entry.{Entry}
use Rattle.mini_asm.specs.Run.{Machine}
use Rattle.dsm_runs.specs.Flat.{flat_start, flat_step, is_completed, reading}
use Rattle.dsm_runs.specs.Setups.{Setup}
use Rattle.journal.specs.declared.history.Break.{Break}

-- ---- the first break

-- entry k of the journal read another value than the flat machine
abbrev pub break_at : ℕ → ℕ → Option (ℕ × ℕ) → Option (ℕ × ℕ) → Option Break
break_at k node (Some read) (Some due) =
    if read.1 == due.1 then None else Some (record { event = k; node = node; address = read.0; read = read.1; due = due.1 })
break_at k node (Some read) None = None
break_at k node None due = None

abbrev pub break_or : Option Break → Option Break → Option Break
break_or (Some b) later = Some b
break_or None later = later

-- an entry that completed, and what follows it on the flat machine
abbrev pub break_beside : ℕ → Entry → Option (Act × Machine) → (Machine → Option Break) → Option Break
break_beside k e None later = None
break_beside k e (Some flat) later = break_or (break_at k e.node (reading e.act) (reading flat.0)) (later flat.1)

-- the first break in the entries from number k on, where the flat machine came to m
unfoldable pub break_from : Machine → ℕ → List Entry → Option Break
break_from m k [] = None
break_from m k (e ∷ es) =
    if is_completed e.act then break_beside k e (flat_step m e.node) (λ next. break_from next (k + 1) es)
    else break_from m (k + 1) es

-- the first read of a journal whose value is not the flat machine's, when the nodes' instructions are executed there in the
-- journal's order
abbrev pub first_break : Setup → List Entry → Option Break
first_break s j = break_from (flat_start s) 0 j
