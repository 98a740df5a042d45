-- How the bytes of a word are kept.
use Rattle.std.specs.Prelude.{ℕ, ◌≤◌, List, take}
use Rattle.tw_base.specs.declared.name.Bytes.{Bytes}
use Rattle.tw_base.specs.declared.name.Bytes.TheVariants.{Short, Long}

abbrev pub bytes_of : Bytes → List ℕ
bytes_of (Short len all) = take len all
bytes_of (Long bytes) = bytes.items

-- no more bytes lie in the value than it has places
abbrev pub HasPlaces : Bytes → Type 0
HasPlaces (Short len all) = len ≤ 23
HasPlaces (Long bytes) = Unit {0}
