-- Words of bits, one a node, that tell the tests of the nodes.
use Rattle.std.specs.Prelude.{◌≡◌, ◌≢◌, ℕ, ◌+◌, ◌*◌, ◌<◌, ◌^◌, List, Some, length, slice_get, slice_index}
use Rattle.std.specs.List.{All}
use Rattle.node_meaning.specs.Nodes.{Shown, node_tests}
use Rattle.node_parts.specs.Truths.{truths}
use Rattle.still_meaning.specs.Stills.{StillShown}

-- the word of node i has its tests, and no other bit
abbrev pub TellsOf : StillShown → List ℕ → ℕ → Type 0
TellsOf s words i =
    (n : Shown) → slice_get s.nodes i ≡ Some n → truths (2 + 2 * s.setup.shape.nodes) (slice_index words i) ≡ node_tests n

abbrev pub AreWords : StillShown → List ℕ → Type 0
AreWords s words = (length words ≡ s.setup.shape.nodes) × All (λ w. w < 2 ^ (2 + 2 * length words)) words

pub record Tells (s : StillShown) (masks : List ℕ) : Type 0 where
  pub words : AreWords s masks
  pub tests : (i : ℕ) → TellsOf s masks i

-- the same, but that nothing is known of the word of node k
pub record TellsBut (s : StillShown) (k : ℕ) (masks : List ℕ) : Type 0 where
  pub words : AreWords s masks
  pub tests : (i : ℕ) → i ≢ k → TellsOf s masks i

-- the word has the tests of node i, and no other bit
pub record IsWordAt (s : StillShown) (i word : ℕ) : Type 0 where
  pub tests : (n : Shown) → slice_get s.nodes i ≡ Some n → truths (2 + 2 * s.setup.shape.nodes) word ≡ node_tests n
  pub small : word < 2 ^ (2 + 2 * s.setup.shape.nodes)

-- the word has the tests of the node, and no other bit
abbrev pub IsWordOf : Shown → ℕ → Type 0
IsWordOf n word = (truths (2 + 2 * n.setup.shape.nodes) word ≡ node_tests n) × (word < 2 ^ (2 + 2 * n.setup.shape.nodes))

-- the words are those of the first k of these nodes
pub record AreWordsOf (nodes : List Shown) (words : List ℕ) (k : ℕ) : Type 0 where
  pub count : length words ≡ k
  pub each : (i : ℕ) (n : Shown) → i < k → slice_get nodes i ≡ Some n → IsWordOf n (slice_index words i)
