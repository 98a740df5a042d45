-- The nodes of a machine, by their numbers.
use Rattle.std.proofs.Common.{◌≡◌, ◌∙◌, ℕ, ◌*◌, ◌<◌, [], Option, Some, None, refl, ap, sym, subst}
use Rattle.std.specs.Prelude.{◌/◌, ◌%◌, slice_get, slice_index}
use Rattle.block_tags.specs.Copies.{block_words}
use Rattle.block_tags.specs.Copies as copies
use Rattle.block_tags.proofs.Slices.{slice_word}
use Rattle.tw_base.specs.Shape.{Sizes}
use Rattle.dsm_runs.specs.Setups.{Setup}
use Rattle.dsm_runs.specs.Worlds.{World}
use Rattle.node_meaning.specs.Nodes.{Shown}
use Rattle.node_meaning.specs.Stands.{IsWell}
use Rattle.still_nodes.proofs.Lists.{present}
use Rattle.still_meaning.specs.Reading.{word_at, word_of_node}
use Rattle.still_meaning.specs.Stills.{IsSpread, IsStill, AreWhole, StillShown}
use Rattle.still_nodes.specs.Handing.{waiting_of, waits_at}

pub node_there : (a : StillShown) (g : World) → IsStill a g → (i : ℕ) → i < a.setup.shape.nodes →
    (n : Shown) × (slice_get a.nodes i ≡ Some n)
node_there a g s i l = present a.nodes i (subst (λ k. i < k) (sym s.count) l)

-- each node has the setup of the machine
pub setup_there : (a : StillShown) (i : ℕ) (n : Shown) → AreWhole a → slice_get a.nodes i ≡ Some n → n.setup ≡ a.setup
setup_there a i n w there = (w.still.nodes i n there).setup

-- a block of the machine is one of its node's copies
pub block_there : (a : StillShown) (i block : ℕ) (n : Shown) → AreWhole a → slice_get a.nodes i ≡ Some n → IsWell n →
    block < a.setup.shape.blocks → block < n.copies.shape.blocks
block_there a i block n w there well l =
    let same : n.copies.shape ≡ a.setup.shape = well.shape ∙ ap (λ (s : Setup). s.shape) (setup_there a i n w there) in
    subst (λ z. block < z.blocks) (sym same) l

-- a word is read in its block
pub word_there : (a : StillShown) (i address : ℕ) (n : Shown) → slice_get a.nodes i ≡ Some n → IsWell n →
    copies.word_at n.copies address ≡ word_at a i address
word_there a i address n there well =
    let some : 0 < n.copies.shape.words = subst (λ (z : Sizes). 0 < z.words) (sym well.shape) well.setup.limits.some_word in
    sym (slice_word n.copies.shape.words address n.copies.words some)
    ∙ ap (λ (z : Sizes). slice_index (block_words n.copies (address / z.words)) (address % z.words)) well.shape
    ∙ sym (ap (λ o. word_of_node o address) there)

pub address_there : (a : StillShown) (i address : ℕ) (n : Shown) → AreWhole a → slice_get a.nodes i ≡ Some n → IsWell n →
    address < a.setup.shape.words * a.setup.shape.blocks → address < n.copies.shape.words * n.copies.shape.blocks
address_there a i address n w there well l =
    let same : n.copies.shape ≡ a.setup.shape = well.shape ∙ ap (λ (s : Setup). s.shape) (setup_there a i n w there) in
    subst (λ (z : Sizes). address < z.words * z.blocks) (sym same) l

pub shape_there : (a : StillShown) (i : ℕ) (n : Shown) → AreWhole a → slice_get a.nodes i ≡ Some n → n.setup.shape ≡ a.setup.shape
shape_there a i n w there = ap (λ (s : Setup). s.shape) (setup_there a i n w there)

-- ---- where all is spread

pub spread_waits : (a : StillShown) (k : ℕ) → IsSpread a → waits_at a k ≡ []
spread_waits a k spread = go (slice_get a.nodes k) refl
  where
    go : (o : Option Shown) → slice_get a.nodes k ≡ o → waiting_of o ≡ []
    go None at = refl
    go (Some n) at = spread.out k n at
