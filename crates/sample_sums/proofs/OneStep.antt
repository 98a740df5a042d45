-- One instruction of a sample's program, from each place of it.
use Rattle.std.proofs.Common.{◌≡◌, ℕ, ◌+◌, ◌-◌, ◌*◌, ◌^◌, ◌%◌, ◌<◌, Bool, true, false, List, length}
use Rattle.std.proofs.Common.{refl, ap, ◌∙◌, arith}
use Rattle.std.specs.Prelude.{nat_lt, slice_index, slice_set}
use Rattle.std.proofs.Math.Nat.{mod-eq_of_lt, add-mul-mod_self_left}
use Rattle.std.proofs.lemmas.Bool.{le-ltb, lt-ltb, ne_eqb}
use Rattle.tw_base.specs.declared.entry.Act.TheVariants as act
use Rattle.mini_asm.specs.Machine.{access, next_of, wrap}
use Rattle.mini_asm.specs.Run.{Ran, done, run_one}
use Rattle.mini_asm.specs.declared.cpu.Next.{Next}
use Rattle.mini_asm.specs.declared.cpu.Next.TheVariants as next
use Rattle.mini_asm.specs.declared.instr.Instr.{Instr}
use Rattle.mini_asm.specs.declared.processor.Core.{Core}
use Rattle.mini_asm.specs.declared.processor.FlatMode.TheVariants.{Halted}
use Rattle.sample_sums.proofs.Spots.{looping_at, program, registers, running_at}

-- ---- numbers of 64 bits

pub wrap_small : (n m : ℕ) → n ≡ m → m < 2 ^ 64 → wrap n ≡ m
wrap_small n m e lt = ap (λ x. x % 2 ^ 64) e ∙ mod-eq_of_lt lt

wrap_less_one : (l : ℕ) → l < 2 ^ 64 → wrap (l + 1 + 2 ^ 64 - 1) ≡ l
wrap_less_one l lt =
    let e : l + 1 + 2 ^ 64 - 1 ≡ l + 2 ^ 64 * 1 = omega arith in
    ap (λ x. x % 2 ^ 64) e ∙ add-mul-mod_self_left l (2 ^ 64) 1 ∙ mod-eq_of_lt lt

-- ---- what is asked for

access_within : (store : Bool) (address value size : ℕ) → address < size
    → access store address value size ≡ next.Access store address value
access_within store address value size lt = rw (lt-ltb address size lt) refl

-- an address that is computed without a carry
access_at : (store : Bool) (sum address value size : ℕ) → sum ≡ address → address < 64 → size ≡ 64
    → access store (wrap sum) value size ≡ next.Access store address value
access_at store sum address value size e lt is =
    ap (λ x. access store x value size) (wrap_small sum address e (omega arith))
    ∙ access_within store address value size (omega arith)

run_as : (p : List Instr) (core : Core) (words : List ℕ) (needs : Next) → next_of p core.cpu (length words) ≡ needs
    → run_one p core words ≡ done needs p core words
unfolding run_one
run_as p core words needs e = ap (λ (x : Next). done x p core words) e

abbrev stepped : Core → List ℕ → Ran
stepped core words = record { act = act.Step; core = core; words = words }

-- ---- the instructions that set up

pub sets_rounds : (R d i : ℕ) (words : List ℕ)
    → run_one (program R d i) (running_at 0 (registers 0 0 0 0 0 0 0 0)) words ≡ stepped
    (running_at 1 (registers R 0 0 0 0 0 0 0)) words
unfolding run_one
sets_rounds R d i words = refl

pub sets_increment : (R d i : ℕ) (words : List ℕ)
    → run_one (program R d i) (running_at 1 (registers R 0 0 0 0 0 0 0)) words ≡ stepped
    (running_at 2 (registers R d 0 0 0 0 0 0)) words
unfolding run_one
sets_increment R d i words = refl

pub sets_end : (R d i : ℕ) (words : List ℕ)
    → run_one (program R d i) (running_at 2 (registers R d 0 0 0 0 0 0)) words ≡ stepped
    (running_at 3 (registers R d 0 64 0 0 0 0)) words
unfolding run_one
sets_end R d i words = refl

pub sets_stride : (R d i : ℕ) (words : List ℕ)
    → run_one (program R d i) (running_at 3 (registers R d 0 64 0 0 0 0)) words ≡ stepped
    (running_at 4 (registers R d 0 64 0 4 0 0)) words
unfolding run_one
sets_stride R d i words = refl

pub sets_one : (R d i : ℕ) (words : List ℕ)
    → run_one (program R d i) (running_at 4 (registers R d 0 64 0 4 0 0)) words ≡ stepped (looping_at d 5 R 0 0) words
unfolding run_one
sets_one R d i words = refl

-- ---- the loops

pub goes_first : (R d i r x y : ℕ) (words : List ℕ)
    → run_one (program R d i) (looping_at d 5 r x y) words ≡ stepped (looping_at d 6 r i y) words
unfolding run_one
goes_first R d i r x y words = refl

pub loads : (R d i r x y v : ℕ) (words : List ℕ) → x < 64 → length words ≡ 64 → slice_index words x ≡ v
    → run_one (program R d i) (looping_at d 6 r x y) words ≡ record
    { act = act.Load x v; core = looping_at d 7 r x v; words = words }
loads R d i r x y v words lt size is =
    run_as (program R d i) (looping_at d 6 r x y) words (next.Access false x 0)
    (access_at false (x + 0) x 0 (length words) (omega arith) lt size)
    ∙ ap (λ (w : ℕ). let ran : Ran = record { act = act.Load x w; core = looping_at d 7 r x w; words = words } in ran) is

pub adds : (R d i r x y : ℕ) (words : List ℕ) → y + d < 2 ^ 64
    → run_one (program R d i) (looping_at d 7 r x y) words ≡ stepped (looping_at d 8 r x (y + d)) words
adds R d i r x y words lt =
    run_as (program R d i) (looping_at d 7 r x y) words next.Step refl
    ∙ ap (λ (w : ℕ). stepped (looping_at d 8 r x w) words) (wrap_small (y + d) (y + d) refl lt)

pub stores : (R d i r x y : ℕ) (words : List ℕ) → x < 64 → length words ≡ 64
    → run_one (program R d i) (looping_at d 8 r x y) words ≡ record
    { act = act.Store x y; core = looping_at d 9 r x y; words = slice_set words x y }
stores R d i r x y words lt size =
    run_as (program R d i) (looping_at d 8 r x y) words (next.Access true x y)
    (access_at true (x + 0) x y (length words) (omega arith) lt size)

pub moves : (R d i r x y : ℕ) (words : List ℕ) → x < 64
    → run_one (program R d i) (looping_at d 9 r x y) words ≡ stepped (looping_at d 10 r (x + 4) y) words
moves R d i r x y words lt =
    run_as (program R d i) (looping_at d 9 r x y) words next.Step refl
    ∙ ap (λ (w : ℕ). stepped (looping_at d 10 r w y) words) (wrap_small (x + 4) (x + 4) refl (omega arith))

pub goes_back : (R d i r x y : ℕ) (words : List ℕ) → x < 64
    → run_one (program R d i) (looping_at d 10 r x y) words ≡ stepped (looping_at d 6 r x y) words
unfolding run_one
goes_back R d i r x y words lt = rw (lt-ltb x 64 lt) refl

pub goes_past : (R d i r y : ℕ) (words : List ℕ)
    → run_one (program R d i) (looping_at d 10 r (i + 64) y) words ≡ stepped (looping_at d 11 r (i + 64) y) words
unfolding run_one
goes_past R d i r y words = rw (not_below i) refl
  where
    not_below : (i : ℕ) → nat_lt (i + 64) 64 ≡ false
    not_below i = le-ltb (i + 64) 64 (omega arith)

pub counts : (R d i l x y : ℕ) (words : List ℕ) → l < 2 ^ 64
    → run_one (program R d i) (looping_at d 11 (l + 1) x y) words ≡ stepped (looping_at d 12 l x y) words
counts R d i l x y words lt =
    run_as (program R d i) (looping_at d 11 (l + 1) x y) words next.Step refl
    ∙ ap (λ (w : ℕ). stepped (looping_at d 12 w x y) words) (wrap_less_one l lt)

pub begins_again : (R d i l x y : ℕ) (words : List ℕ)
    → run_one (program R d i) (looping_at d 12 (l + 1) x y) words ≡ stepped (looping_at d 5 (l + 1) x y) words
unfolding run_one
begins_again R d i l x y words = rw (ne_eqb (l + 1) 0 (λ e. omega arith)) refl

pub ends_rounds : (R d i x y : ℕ) (words : List ℕ)
    → run_one (program R d i) (looping_at d 12 0 x y) words ≡ stepped (looping_at d 13 0 x y) words
unfolding run_one
ends_rounds R d i x y words = refl

-- ---- the end

pub fetches : (R d i x y v : ℕ) (words : List ℕ) → i < 64 → length words ≡ 64 → slice_index words i ≡ v
    → run_one (program R d i) (looping_at d 13 0 x y) words ≡ record
    { act = act.Load i v; core = running_at 14 (registers 0 d x 64 y 4 1 v); words = words }
fetches R d i x y v words lt size is =
    run_as (program R d i) (looping_at d 13 0 x y) words (next.Access false i 0)
    (access_at false (0 + i) i 0 (length words) (omega arith) lt size)
    ∙ ap (λ (w : ℕ). let ran : Ran =
    record { act = act.Load i w; core = running_at 14 (registers 0 d x 64 y 4 1 w); words = words } in ran) is

pub prints : (R d i x y v : ℕ) (words : List ℕ)
    → run_one (program R d i) (running_at 14 (registers 0 d x 64 y 4 1 v)) words ≡ record
    { act = act.Print v; core = running_at 15 (registers 0 d x 64 y 4 1 v); words = words }
unfolding run_one
prints R d i x y v words = refl

pub halts : (R d i : ℕ) (regs words : List ℕ)
    → run_one (program R d i) (running_at 15 regs) words ≡ record
    { act = act.Halt; core = record { cpu = record { regs = regs; place = 15 }; mode = Halted }; words = words }
unfolding run_one
halts R d i regs words = refl
