-- The places that a node of a sample comes to, its processor and its words there, and how many instructions may follow.
use Rattle.std.specs.Prelude.{◌≡◌, ℕ, ◌+◌, ◌*◌, ◌<◌, ◌≤◌, slice_index, ◌⊎◌, Bool, true, false, List, [], ◌∷◌, Option, Some, None}
use Rattle.tw_base.specs.declared.entry.Act.{Act}
use Rattle.tw_base.specs.declared.entry.Act.TheVariants as act
use Rattle.mini_asm.specs.declared.instr.Instr.{Instr}
use Rattle.mini_asm.specs.declared.instr.Instr.TheVariants.{Li, Add, Sub, Ld, St, Bne, Blt, Print, Halt}
use Rattle.mini_asm.specs.declared.processor.Core.{Core}
use Rattle.mini_asm.specs.declared.processor.FlatMode.TheVariants.{Running, Halted}

-- The program of node i, which makes R rounds and adds d.
abbrev pub program : ℕ → ℕ → ℕ → List Instr
program R d i =
    Li 1 R ∷ Li 2 d ∷ Li 4 64 ∷ Li 6 4 ∷ Li 7 1 ∷ Li 3 i
    ∷ Ld 5 3 0 ∷ Add 5 5 2 ∷ St 5 3 0 ∷ Add 3 3 6 ∷ Blt 3 4 6
    ∷ Sub 1 1 7 ∷ Bne 1 0 5 ∷ Ld 8 0 i ∷ Print 8 ∷ Halt ∷ []

-- Where a node is: how many rounds follow this one (l), how many are done (a), how many of its words follow this one in the
-- round (m), how many are done (n). At the start of a round registers 3 and 5 hold what the round before left (x and y).
pub data Spot : Type 0 where
  Fresh : Spot
  HasRounds : Spot
  HasIncrement : Spot
  HasEnd : Spot
  HasStride : Spot
  Outer : (l a x y : ℕ) → Spot
  Load : (l a m n y : ℕ) → Spot
  AddUp : (l a m n : ℕ) → Spot
  Keep : (l a m n : ℕ) → Spot
  Move : (l a m n : ℕ) → Spot
  Back : (l a m n : ℕ) → Spot
  Count : (l a : ℕ) → Spot
  Again : (l a : ℕ) → Spot
  Fetch : Spot
  Show : Spot
  Stop : Spot
  Over : Spot

-- the registers, of which 0 and 9 to 15 are never written
abbrev pub registers : ℕ → ℕ → ℕ → ℕ → ℕ → ℕ → ℕ → ℕ → List ℕ
registers r1 r2 r3 r4 r5 r6 r7 r8 = 0 ∷ r1 ∷ r2 ∷ r3 ∷ r4 ∷ r5 ∷ r6 ∷ r7 ∷ r8 ∷ 0 ∷ 0 ∷ 0 ∷ 0 ∷ 0 ∷ 0 ∷ 0 ∷ []

abbrev pub running_at : ℕ → List ℕ → Core
running_at place regs = record { cpu = record { regs = regs; place = place }; mode = Running }

-- in the loops: registers 1, 3 and 5
abbrev pub looping_at : ℕ → ℕ → ℕ → ℕ → ℕ → Core
looping_at d place r1 r3 r5 = running_at place (registers r1 d r3 64 r5 4 1 0)

-- the processor of node i there
abbrev pub core_at : ℕ → ℕ → ℕ → Spot → Core
core_at R d i Fresh = running_at 0 (registers 0 0 0 0 0 0 0 0)
core_at R d i HasRounds = running_at 1 (registers R 0 0 0 0 0 0 0)
core_at R d i HasIncrement = running_at 2 (registers R d 0 0 0 0 0 0)
core_at R d i HasEnd = running_at 3 (registers R d 0 64 0 0 0 0)
core_at R d i HasStride = running_at 4 (registers R d 0 64 0 4 0 0)
core_at R d i (Outer l a x y) = looping_at d 5 (l + 1) x y
core_at R d i (Load l a m n y) = looping_at d 6 (l + 1) (i + 4 * n) y
core_at R d i (AddUp l a m n) = looping_at d 7 (l + 1) (i + 4 * n) (a * d)
core_at R d i (Keep l a m n) = looping_at d 8 (l + 1) (i + 4 * n) (a * d + d)
core_at R d i (Move l a m n) = looping_at d 9 (l + 1) (i + 4 * n) (a * d + d)
core_at R d i (Back l a m n) = looping_at d 10 (l + 1) (i + 4 * n + 4) (a * d + d)
core_at R d i (Count l a) = looping_at d 11 (l + 1) (i + 64) (a * d + d)
core_at R d i (Again l a) = looping_at d 12 l (i + 64) (a * d + d)
core_at R d i Fetch = looping_at d 13 0 (i + 64) (R * d)
core_at R d i Show = running_at 14 (registers 0 d (i + 64) 64 (R * d) 4 1 (R * d))
core_at R d i Stop = running_at 15 (registers 0 d (i + 64) 64 (R * d) 4 1 (R * d))
core_at R d i Over = record { cpu = record { regs = registers 0 d (i + 64) 64 (R * d) 4 1 (R * d); place = 15 }; mode = Halted }

-- the numbers of a spot fit: all rounds, and in a round all sixteen words
abbrev pub IsSpot : ℕ → Spot → Type 0
IsSpot R (Outer l a x y) = a + l + 1 ≡ R
IsSpot R (Load l a m n y) = (a + l + 1 ≡ R) × (n + m + 1 ≡ 16)
IsSpot R (AddUp l a m n) = (a + l + 1 ≡ R) × (n + m + 1 ≡ 16)
IsSpot R (Keep l a m n) = (a + l + 1 ≡ R) × (n + m + 1 ≡ 16)
IsSpot R (Move l a m n) = (a + l + 1 ≡ R) × (n + m + 1 ≡ 16)
IsSpot R (Back l a m n) = (a + l + 1 ≡ R) × (n + m + 1 ≡ 16)
IsSpot R (Count l a) = a + l + 1 ≡ R
IsSpot R (Again l a) = a + l + 1 ≡ R
IsSpot R Fresh = Unit {0}
IsSpot R HasRounds = Unit {0}
IsSpot R HasIncrement = Unit {0}
IsSpot R HasEnd = Unit {0}
IsSpot R HasStride = Unit {0}
IsSpot R Fetch = Unit {0}
IsSpot R Show = Unit {0}
IsSpot R Stop = Unit {0}
IsSpot R Over = Unit {0}

-- the words of node i after a whole rounds, and n words of one more
pub record HasWords (d i a n : ℕ) (words : List ℕ) : Type 0 where
  pub done : (k : ℕ) → k < n → slice_index words (i + 4 * k) ≡ a * d + d
  pub left : (k : ℕ) → n ≤ k → k < 16 → slice_index words (i + 4 * k) ≡ a * d

-- how many rounds of words a node has made there
abbrev pub rounds_done : ℕ → Spot → ℕ
rounds_done R (Outer l a x y) = a
rounds_done R (Load l a m n y) = a
rounds_done R (AddUp l a m n) = a
rounds_done R (Keep l a m n) = a
rounds_done R (Move l a m n) = a
rounds_done R (Back l a m n) = a
rounds_done R (Count l a) = a
rounds_done R (Again l a) = a
rounds_done R Fresh = 0
rounds_done R HasRounds = 0
rounds_done R HasIncrement = 0
rounds_done R HasEnd = 0
rounds_done R HasStride = 0
rounds_done R Fetch = R
rounds_done R Show = R
rounds_done R Stop = R
rounds_done R Over = R

-- and how many words of one round more
abbrev pub words_done : Spot → ℕ
words_done (Load l a m n y) = n
words_done (AddUp l a m n) = n
words_done (Keep l a m n) = n
words_done (Move l a m n) = n + 1
words_done (Back l a m n) = n + 1
words_done (Count l a) = 16
words_done (Again l a) = 16
words_done _ = 0

-- the words of node i there
abbrev pub WordsAt : ℕ → ℕ → ℕ → Spot → List ℕ → Type 0
WordsAt R d i spot words = HasWords d i (rounds_done R spot) (words_done spot) words

-- how many instruction events may follow in this round and after it, with l rounds behind it and m words behind this one
abbrev pub rest_of : ℕ → ℕ → ℕ
rest_of l m = 115 * l + 7 * m + 6

-- how many instruction events may follow, an access being refused once
abbrev pub cost_of : ℕ → Spot → ℕ
cost_of R Fresh = 115 * R + 9
cost_of R HasRounds = 115 * R + 8
cost_of R HasIncrement = 115 * R + 7
cost_of R HasEnd = 115 * R + 6
cost_of R HasStride = 115 * R + 5
cost_of R (Outer l a x y) = 115 * l + 119
cost_of R (Load l a m n y) = rest_of l m + 7
cost_of R (AddUp l a m n) = rest_of l m + 5
cost_of R (Keep l a m n) = rest_of l m + 4
cost_of R (Move l a m n) = rest_of l m + 2
cost_of R (Back l a m n) = rest_of l m + 1
cost_of R (Count l a) = rest_of l 0
cost_of R (Again l a) = 115 * l + 5
cost_of R Fetch = 4
cost_of R Show = 2
cost_of R Stop = 1
cost_of R Over = 0

-- the node has still to print
abbrev pub is_to_print : Spot → Bool
is_to_print Stop = false
is_to_print Over = false
is_to_print _ = true

-- A node that has still to print prints v, or has still to print it afterwards.
abbrev pub IsPrintStep : ℕ → Bool → Bool → Option ℕ → Type 0
IsPrintStep v true after did = (did ≡ Some v) ⊎ ((did ≡ None) × (after ≡ true))
IsPrintStep v false after did = Unit {0}

-- how many instruction events an act may take: an access may be refused once
abbrev pub price_of : Act → ℕ
price_of (act.Load address value) = 2
price_of (act.Store address value) = 2
price_of (act.Faa address value sum) = 2
price_of _ = 1
