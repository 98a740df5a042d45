-- A tag by two bits: whether its block may be read, and whether it may be written.
use Rattle.std.specs.Prelude.{ℕ, Bool, true, false, List, map}
use Rattle.std.specs.List.{range_with_len}
use Rattle.tw_base.specs.Bits.{has_bit}
use Rattle.tw_base.specs.declared.value.Tag.{Tag}
use Rattle.tw_base.specs.declared.value.Tag.TheVariants.{Invalid, ReadOnly, ReadWrite}

abbrev pub tag_by : Bool → Bool → Tag
tag_by false b = Invalid
tag_by true false = ReadOnly
tag_by true true = ReadWrite

unfoldable pub tag_in : ℕ → ℕ → ℕ → Tag
tag_in readable writable block = tag_by (has_bit readable block) (has_bit writable block)

-- the tags of 64 blocks
abbrev pub tags_in : ℕ → ℕ → List Tag
tags_in readable writable = map (tag_in readable writable) (range_with_len 0 64)
