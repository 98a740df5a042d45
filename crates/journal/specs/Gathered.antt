-- The words of memory at the end of a run, each from the copy of one node.
use Rattle.std.specs.Prelude.{ℕ, ◌*◌, ◌/◌, ◌%◌, Bool, true, false, List, map, find, Option, unwrap_or}
use Rattle.std.specs.List.{range_with_len}
use Rattle.tw_base.specs.Shape.{Sizes}
use Rattle.tw_base.specs.declared.value.Tag.{Tag}
use Rattle.block_tags.specs.Copies.{permits}
use Rattle.dsm_runs.specs.Events.{word_here}
use Rattle.dsm_runs.specs.Setups.{Setup}
use Rattle.dsm_runs.specs.Worlds.{World}

-- ---- by the tags of nodes and blocks, and the words of nodes and addresses

-- the least of n nodes whose tag permits a store (true) or a load (false)
abbrev pub least_with : ℕ → (ℕ → Tag) → Bool → Option ℕ
least_with n tags store = find (λ i. permits (tags i) store) (range_with_len 0 n)

-- the node whose copy of a block is told: the least that may write it, else the least that may read it, else its home
abbrev pub teller_by : Sizes → (ℕ → ℕ → Tag) → ℕ → ℕ
teller_by shape tag b =
    unwrap_or (least_with shape.nodes (λ i. tag i b) true)
    (unwrap_or (least_with shape.nodes (λ i. tag i b) false) (b % shape.nodes))

abbrev pub told_by : Sizes → (ℕ → ℕ → Tag) → (ℕ → ℕ → ℕ) → ℕ → ℕ
told_by shape tag word address = word (teller_by shape tag (address / shape.words)) address

-- by address
abbrev pub told_words : Sizes → (ℕ → ℕ → Tag) → (ℕ → ℕ → ℕ) → List ℕ
told_words shape tag word = map (told_by shape tag word) (range_with_len 0 (shape.words * shape.blocks))

-- ---- in a state of the model

-- the tag of a block at node i, and its copy of the word at an address
abbrev pub tag_in : World → ℕ → ℕ → Tag
tag_in g i b = ((g.locals i).blocks b).tag

abbrev pub word_in : Setup → World → ℕ → ℕ → ℕ
word_in s g i address = word_here s (g.locals i).blocks address

abbrev pub words_of : Setup → World → List ℕ
words_of s g = told_words s.shape (tag_in g) (word_in s g)
