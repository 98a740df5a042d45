-- What a node keeps of the memory: a tag for each block, and a word for each address. Address a is word a mod w of
-- block a / w, where a block has w words.
use Rattle.std.specs.Prelude.{◌≡◌, ℕ, ◌+◌, ◌*◌, ◌/◌, ◌%◌, ◌==◌, Bool, true, false, not, if◌then◌else◌, List, [], ◌∷◌, ◌++◌}
use Rattle.std.specs.Prelude.{length, map, take, drop, slice_index, slice_set}
use Rattle.std.specs.List.{range_with_len, slice_index_or}
use Rattle.tw_base.specs.Shape.{Sizes, IsWithinLimits}
use Rattle.tw_base.specs.declared.value.Tag.{Tag}
use Rattle.tw_base.specs.declared.value.Tag.TheVariants.{Invalid, ReadOnly, ReadWrite}

pub record Copies : Type 0 where
  pub shape : Sizes
  pub tags : List Tag
  pub words : List ℕ

pub record IsWhole (m : Copies) : Type 0 where
  pub limits : IsWithinLimits m.shape
  pub tags : length m.tags ≡ m.shape.blocks
  pub words : length m.words ≡ m.shape.words * m.shape.blocks

-- ---- what is read

abbrev pub tag_of : Copies → ℕ → Tag
tag_of m block = slice_index_or m.tags block Invalid

abbrev pub word_at : Copies → ℕ → ℕ
word_at m address = slice_index m.words address

-- the words of a block of this width, in the words of all blocks
abbrev pub block_slice : ℕ → List ℕ → ℕ → List ℕ
block_slice width words block = take width (drop (block * width) words)

abbrev pub block_words : Copies → ℕ → List ℕ
block_words m block = block_slice m.shape.words m.words block

-- whether a tag allows a store (true) or a load (false)
abbrev pub permits : Tag → Bool → Bool
permits Invalid store = false
permits ReadOnly store = not store
permits ReadWrite store = true

abbrev pub allows : Copies → Bool → ℕ → Bool
allows m store address = permits (tag_of m (address / m.shape.words)) store

-- ---- what is written

abbrev pub with_tag : Copies → ℕ → Tag → Copies
with_tag m block tag = record m { tags = slice_set m.tags block tag }

abbrev pub with_word : Copies → ℕ → ℕ → Copies
with_word m address value = record m { words = slice_set m.words address value }

abbrev pub with_block : Copies → ℕ → List ℕ → Copies
with_block m block contents =
    record m { words = take (block * m.shape.words) m.words ++ contents ++ drop (block * m.shape.words + m.shape.words) m.words }

-- ---- the start

-- the tag of a block at node me: the home of a block is its number mod the number of nodes
abbrev pub first_tag : Sizes → ℕ → Tag → Tag → ℕ → Tag
first_tag s me home cache block = (if block % s.nodes == me then home else cache)

-- the value that a list of addresses and values has for an address, 0 where it has none
abbrev pub init_value : List (ℕ × ℕ) → ℕ → ℕ
init_value [] address = 0
init_value (p ∷ ps) address = (if p.0 == address then p.1 else init_value ps address)

abbrev pub at_start : Sizes → ℕ → Tag → Tag → List (ℕ × ℕ) → Copies
at_start s me home cache init = record {
  shape = s;
  tags = map (first_tag s me home cache) (range_with_len 0 s.blocks);
  words = map (init_value init) (range_with_len 0 (s.words * s.blocks));
}
