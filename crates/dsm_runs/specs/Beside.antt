-- Something beside each node, which the node's events move.
use Rattle.std.specs.Prelude.{◌≡◌, ◌≢◌, ℕ, ◌<◌, List, [], ◌∷◌, Option}
use Rattle.tw_base.specs.declared.entry.Act.{Act}
use Rattle.tw_base.specs.declared.entry.Entry.{Entry}
use Rattle.tw_base.specs.declared.message.Message.{Message}
use Rattle.dsm_runs.specs.Setups.{Setup}
use Rattle.dsm_runs.specs.Locals.{Local}
use Rattle.dsm_runs.specs.Replays.{Course, ReplaysOne, begin}
use Rattle.dsm_runs.specs.Worlds.{Step, World}

-- what an event of a node in this state, which takes this message from a wire, makes of what stands beside it
abbrev pub Moves : Type 0 → Type 1
Moves X = ℕ → Local → Option Message → Act → X → X → Type 0

-- an event makes one thing of it
abbrev pub MovesToOne : {X : Type 0} → Moves X → Type 0
MovesToOne {X} M = (i : ℕ) (l : Local) (front : Option Message) (a : Act) (x y z : X) → M i l front a x y → M i l front a x z →
    y ≡ z

-- one entry of a node's log after another
abbrev pub ReplaysBeside : {X : Type 0} → Moves X → Setup → ℕ → Course → X → List Entry → Course → X → Type 0
ReplaysBeside M s i a x [] b y = (a ≡ b) × (x ≡ y)
ReplaysBeside {X} M s i a x (e ∷ es) b y =
    (mid : Course) × (z : X) × (r : ReplaysOne s i a e mid) × M i a.local r.front e.act x z × ReplaysBeside M s i mid z es b y

-- one entry of a run after another
abbrev pub RunsBeside : {X : Type 0} → Moves X → Setup → World → (ℕ → X) → List Entry → World → (ℕ → X) → Type 0
RunsBeside M s g xs [] h ys = (g ≡ h) × (xs ≡ ys)
RunsBeside {X} M s g xs (e ∷ es) h ys =
    (mid : World) × (zs : ℕ → X) × (r : Step s g e mid) × M e.node (g.locals e.node) r.front e.act (xs e.node) (zs e.node)
    × ((k : ℕ) → k ≢ e.node → zs k ≡ xs k) × RunsBeside M s mid zs es h ys

-- each node is what the replay of its log makes of it, and so is what stands beside it
abbrev pub AllReplayBeside : {X : Type 0} → Moves X → Setup → (ℕ → List Entry) → (ℕ → X) → (ℕ → Course) → (ℕ → X) → Type 0
AllReplayBeside M s logs firsts ends lasts =
    (i : ℕ) → i < s.shape.nodes → ReplaysBeside M s i (begin s i) (firsts i) (logs i) (ends i) (lasts i)
