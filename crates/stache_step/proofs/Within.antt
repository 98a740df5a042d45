-- The number that applies is that of a row.
use Rattle.std.proofs.Common.{◌≡◌, ℕ, true, false, Option, Some, None, refl}
use Rattle.std.specs.Prelude.{if◌then◌else◌, nat_lt, slice_get}
use Rattle.block_spots.specs.Cases.{Kind, Rest, State, RdFault, WrFault, GetRo, GetRw, DataRo, DataRw, Put, Inv, Ack, Recall}
use Rattle.block_spots.specs.Cases.{NoRest, OfHome, OfLoad, OfCache, OfRo, OfRw, HomeRw, HomeRo, HomeExcl, HomeAcks, HomePut}
use Rattle.block_spots.specs.Cases.{CacheInv, CacheRo, CacheRw, CacheWaitRo, CacheWaitRw}
use Rattle.stache_table.specs.Numbered.{TableRow, last_row, put_row, row_at, rows}

abbrev pub IsRow : Option ℕ → Type 0
IsRow (Some k) = (r : TableRow) × (slice_get rows k ≡ Some r)
IsRow None = Unit {0}

last_is : (rest : Rest) → IsRow (last_row rest)
last_is OfHome = (_, refl)
last_is (OfRw a) = (_, refl)
last_is (OfRo a) = tt
last_is NoRest = tt
last_is OfLoad = tt
last_is OfCache = tt

put_is : (rest : Rest) → IsRow (put_row rest)
put_is OfHome = (_, refl)
put_is (OfRo a) = (_, refl)
put_is (OfRw a) = (_, refl)
put_is NoRest = tt
put_is OfLoad = tt
put_is OfCache = tt

pub is_row : (s : State) (k : Kind) (rest : Rest) (others acks : ℕ) → IsRow (row_at s k rest others acks)
is_row HomeRw GetRo rest others acks = (_, refl)
is_row HomeRw GetRw rest others acks = (_, refl)
is_row HomeRo RdFault rest others acks = (_, refl)
is_row HomeRo WrFault rest others acks = (_, refl)
is_row HomeRo GetRo rest others acks = (_, refl)
is_row HomeRo GetRw rest others acks = elim (nat_lt 0 others) as (λ b. IsRow (if b then Some 5 else Some 6))
    [ true ↦ (_, refl) | false ↦ (_, refl) ]
is_row HomeExcl RdFault rest others acks = (_, refl)
is_row HomeExcl WrFault rest others acks = (_, refl)
is_row HomeExcl GetRo rest others acks = (_, refl)
is_row HomeExcl GetRw rest others acks = (_, refl)
is_row HomeAcks Ack rest others acks = elim (nat_lt 1 acks) as (λ b. IsRow (if b then Some 11 else last_row rest))
    [ true ↦ (_, refl) | false ↦ last_is rest ]
is_row HomeAcks _ rest others acks = (_, refl)
is_row HomePut Put rest others acks = put_is rest
is_row HomePut _ rest others acks = (_, refl)
is_row CacheInv RdFault rest others acks = (_, refl)
is_row CacheInv WrFault rest others acks = (_, refl)
is_row CacheRo WrFault rest others acks = (_, refl)
is_row CacheRo Inv rest others acks = (_, refl)
is_row CacheRw Recall rest others acks = (_, refl)
is_row CacheWaitRo DataRo rest others acks = (_, refl)
is_row CacheWaitRw DataRw rest others acks = (_, refl)
is_row CacheWaitRw Inv rest others acks = (_, refl)
is_row _ _ rest others acks = tt
