-- A program with a check before each access.
use Rattle.std.specs.Prelude.{ℕ, zero, suc, ◌+◌, true, false, List, [], ◌∷◌, ◌++◌, length, replicate, slice_index}
use Rattle.mini_asm.specs.declared.instr.Instr.{Instr}
use Rattle.mini_asm.specs.declared.instr.Instr.TheVariants.{Li, Mov, Add, Sub, And, Or, Xor, Ld, St, Beq, Bne, Blt, Jmp, Print}
use Rattle.mini_asm.specs.declared.instr.Instr.TheVariants.{Halt, Faa}
use Rattle.blizzard_guard.specs.declared.guarding.GuardOp.{GuardOp}
use Rattle.blizzard_guard.specs.declared.guarding.GuardOp.TheVariants.{Check, Do}
use Rattle.blizzard_guard.specs.declared.guarding.Guarded.{Guarded}

-- the check of an instruction: whether it stores, and the register and the number that make its address. A fetch and
-- add stores
abbrev pub check_of : Instr → List GuardOp
check_of (Ld d a n) = Check false a n ∷ []
check_of (St s a n) = Check true a n ∷ []
check_of (Faa d s a n) = Check true a n ∷ []
check_of (Li d n) = []
check_of (Mov d a) = []
check_of (Add d a b) = []
check_of (Sub d a b) = []
check_of (And d a b) = []
check_of (Or d a b) = []
check_of (Xor d a b) = []
check_of (Beq a b place) = []
check_of (Bne a b place) = []
check_of (Blt a b place) = []
check_of (Jmp place) = []
check_of (Print a) = []
check_of Halt = []

-- the place of the first op of instruction k; for the place after the last, that after the last op
abbrev pub first_op : List Instr → ℕ → ℕ
first_op [] k = 0
first_op (i ∷ is) zero = 0
first_op (i ∷ is) (suc k) = length (check_of i) + 1 + first_op is k

-- the first places of all instructions, and then that after the last op, where the first op stands at n
abbrev pub starts_from : ℕ → List Instr → List ℕ
starts_from n [] = n ∷ []
starts_from n (i ∷ is) = n ∷ starts_from (n + (length (check_of i) + 1)) is

-- the instruction, with its jump moved
abbrev pub moved : (ℕ → ℕ) → Instr → Instr
moved f (Beq a b place) = Beq a b (f place)
moved f (Bne a b place) = Bne a b (f place)
moved f (Blt a b place) = Blt a b (f place)
moved f (Jmp place) = Jmp (f place)
moved f (Li d n) = Li d n
moved f (Mov d a) = Mov d a
moved f (Add d a b) = Add d a b
moved f (Sub d a b) = Sub d a b
moved f (And d a b) = And d a b
moved f (Or d a b) = Or d a b
moved f (Xor d a b) = Xor d a b
moved f (Ld d a n) = Ld d a n
moved f (St s a n) = St s a n
moved f (Print a) = Print a
moved f Halt = Halt
moved f (Faa d s a n) = Faa d s a n

-- the ops of instructions whose jumps go where f says
abbrev pub ops_of : (ℕ → ℕ) → List Instr → List GuardOp
ops_of f [] = []
ops_of f (i ∷ is) = check_of i ++ Do (moved f i) ∷ ops_of f is

-- the place in the program of each op, and then the place after the last, where the first instruction stands at k
abbrev pub places_from : ℕ → List Instr → List ℕ
places_from k [] = k ∷ []
places_from k (i ∷ is) = replicate (length (check_of i) + 1) k ++ places_from (k + 1) is

-- the program with a check before each access, and each jump to the first op of its target
abbrev pub guarded : List Instr → Guarded
guarded p = record { ops = ops_of (first_op p) p; plain = places_from 0 p }

abbrev pub plain_place : Guarded → ℕ → ℕ
plain_place g at = slice_index g.plain at

-- ---- back

-- the instructions among ops, with their jumps moved back
abbrev pub plain_ops : (ℕ → ℕ) → List GuardOp → List Instr
plain_ops f [] = []
plain_ops f (Check store base offset ∷ ops) = plain_ops f ops
plain_ops f (Do i ∷ ops) = moved f i ∷ plain_ops f ops

-- the plain program that a guarded one stands for
unfoldable pub plain_of : Guarded → List Instr
plain_of g = plain_ops (plain_place g) g.ops
