-- A step of a machine from the parts that the code reads and writes.
use Rattle.std.proofs.Common.{◌≡◌, ℕ, ◌<◌, ◌≤◌, ◌⊎◌, inl, inr, true, List, ◌++◌, length, get_or, take, drop, set, slice_get}
use Rattle.std.proofs.Common.{Some, None, refl, ap, ◌∙◌, sym}
use Rattle.std.proofs.lemmas.Bool.{false≢true}
use Rattle.std.proofs.lemmas.List.{take_at}
use Rattle.std.proofs.lemmas.Option.{slice_get_cases}
use Rattle.tw_base.specs.declared.entry.Act.{Act}
use Rattle.mini_asm.specs.declared.instr.Instr.{Instr}
use Rattle.mini_asm.specs.declared.processor.Core.{Core}
use Rattle.mini_asm.specs.Run.{run_one}
use Rattle.mini_asm.specs.Run.{Machine, is_running_core, step_of}

in_cases : (cores : List Core) (node : ℕ) → is_running_core (slice_get cores node) ≡ true
    → ((x : Core) × (node < length cores) × (slice_get cores node ≡ Some x) × (get_or cores node x ≡ x))
    ⊎ ((length cores ≤ node) × (slice_get cores node ≡ None)) → node < length cores
in_cases cores node e (inl h) = h.1
in_cases cores node e (inr h) = absurd (false≢true (rw h.1 at e))

-- a node that runs is one of the machine
pub running-lt : (cores : List Core) (node : ℕ) → is_running_core (slice_get cores node) ≡ true → node < length cores
running-lt cores node e = in_cases cores node e (slice_get_cases cores node).1

pub step-is : (programs : List (List Instr)) (cores : List Core) (words : List ℕ) (node i : ℕ) (program : List Instr)
    (core core' : Core) (act : Act) (words' : List ℕ) (n : ℕ)
    → i ≡ node → slice_get programs i ≡ Some program → slice_get cores i ≡ Some core →
    run_one program core words ≡ record { act = act; core = core'; words = words' } → n ≡ length words'
    → step_of (record { programs = programs; cores = cores; words = words }) node
    ≡ Some (act, record { programs = programs; cores = set cores i core'; words = take n (words' ++ drop (length words') words) })
step-is programs cores words node i program core core' act words' n e p q r len =
    let m : Machine = record { programs = programs; cores = cores; words = words } in
    let at : step_of m i ≡ Some (act, record { programs = programs; cores = set cores i core'; words = words' }) =
    rw (p, q, r) refl in
    let full : take n (words' ++ drop (length words') words) ≡ words' = take_at words' (drop (length words') words) n (sym len) in
    ap (step_of m) (sym e) ∙ at
    ∙ ap (λ (ws : List ℕ). Some (act, record { programs = programs; cores = set cores i core'; words = ws })) (sym full)
