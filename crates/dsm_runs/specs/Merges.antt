-- The logs of all nodes in one journal.
use Rattle.std.specs.Prelude.{◌≡◌, ℕ, zero, suc, ◌<◌, nat_eq, nat_lt, ◌&&◌, ◌||◌, if◌then◌else◌, length, List, [], ◌∷◌, ◌++◌}
use Rattle.std.specs.Prelude.{◌⊎◌, Bool}
use Rattle.std.specs.List.{filter}
use Rattle.tw_base.specs.declared.message.Chan.{Chan}
use Rattle.tw_base.specs.declared.entry.Entry.{Entry}
use Rattle.tw_base.specs.Lists.{Each}
use Rattle.dsm_runs.specs.Worlds.{Wires, World}
use Rattle.dsm_runs.specs.Setups.{Setup}
use Rattle.dsm_runs.specs.Replays.{Course, Replays}

-- by stamp, then by node
abbrev pub Before : Entry → Entry → Type 0
Before a b = (a.stamp < b.stamp) ⊎ (a.stamp ≡ b.stamp) × (a.node < b.node)

abbrev pub IsSorted : List Entry → Type 0
IsSorted [] = Unit {0}
IsSorted (e ∷ es) = Each (Before e) es × IsSorted es

abbrev pub is_of : ℕ → Entry → Bool
is_of i e = nat_eq e.node i

-- the journal has the entries of the logs of these nodes, and no others, by stamp and then by node
pub record IsMerge (nodes : ℕ) (logs : ℕ → List Entry) (journal : List Entry) : Type 0 where
  pub parts : (i : ℕ) → i < nodes → filter (is_of i) journal ≡ logs i
  pub within : Each (λ e. e.node < nodes) journal
  pub sorted : IsSorted journal

-- the entry put before the first that comes after it
abbrev pub comes_before : Entry → Entry → Bool
comes_before a b = nat_lt a.stamp b.stamp || (nat_eq a.stamp b.stamp && nat_lt a.node b.node)

abbrev pub insert : Entry → List Entry → List Entry
insert e [] = e ∷ []
insert e (x ∷ xs) = if comes_before e x then e ∷ x ∷ xs else x ∷ insert e xs

abbrev pub meld : List Entry → List Entry → List Entry
meld [] journal = journal
meld (e ∷ es) journal = insert e (meld es journal)

-- the merge of the logs of the nodes below n
abbrev pub merged : ℕ → (ℕ → List Entry) → List Entry
merged zero logs = []
merged (suc n) logs = meld (logs n) (merged n logs)

-- each node is what the replay of its log makes of it
abbrev pub AllReplay : Setup → (ℕ → List Entry) → (ℕ → Course) → Type 0
AllReplay s logs ends = (i : ℕ) → i < s.shape.nodes → Replays s i (logs i) (ends i)

-- on each wire what was taken, and then `left`, is what was sent
abbrev pub Agrees : ℕ → (ℕ → Course) → Wires → Type 0
Agrees nodes ends left =
    (f t : ℕ) (c : Chan) → f < nodes → t < nodes → (ends f).sent t c ≡ (ends t).took f c ++ left f t c

-- g is made of these nodes, and of what is left on the wires
pub record IsJoined (nodes : ℕ) (ends : ℕ → Course) (left : Wires) (g : World) : Type 0 where
  pub locals : (i : ℕ) → i < nodes → g.locals i ≡ (ends i).local
  pub wires : (f t : ℕ) (c : Chan) → f < nodes → t < nodes → g.wires f t c ≡ left f t c
  pub next : (f t : ℕ) (c : Chan) → f < nodes → t < nodes → g.next f t c ≡ length ((ends f).sent t c)

-- the state that is made of these nodes alone
abbrev pub joined : (ℕ → Course) → Wires → World
joined ends left = record { locals = λ i. (ends i).local; wires = left; next = λ f t c. length ((ends f).sent t c) }
