-- The values of a record's slots, packed: a mask of those that are not Int 0, and these alone.
use Rattle.std.specs.Prelude.{◌≡◌, ℕ, zero, suc, ◌+◌, ◌-◌, ◌*◌, ◌/◌, ◌%◌, ◌==◌, Bool, true, false, not, if◌then◌else◌, List, []}
use Rattle.std.specs.Prelude.{◌∷◌, filter, count_by, drop, length, nat_le}
use Rattle.tw_base.specs.declared.value.Value.{Value}
use Rattle.tw_base.specs.declared.value.Value.TheVariants.{Int}

-- Int 0, which a slot has until it is written
abbrev pub is_zero : Value → Bool
is_zero (Int n) = n == 0
is_zero _ = false

-- the values that are not Int 0, in order
abbrev pub kept : List Value → List Value
kept values = filter (λ v. not (is_zero v)) values

-- how many values are not Int 0
abbrev pub kept_count : List Value → ℕ
kept_count values = count_by (λ v. not (is_zero v)) values

-- a bit for each value, the lowest for the first: 1 where the value is not Int 0
abbrev pub mask_of : List Value → ℕ
mask_of [] = 0
mask_of (v ∷ vs) = 2 * mask_of vs + (if not (is_zero v) then 1 else 0)

-- a place whose bit is 1 takes the next of the packed values, another Int 0
abbrev pub taken : Bool → List Value → Value
taken true (v ∷ packed) = v
taken _ _ = Int 0

-- the packed values after such a place
abbrev pub left_after : Bool → List Value → List Value
left_after true (v ∷ packed) = packed
left_after _ packed = packed

-- the values at so many places: those with a 1 in the mask have the packed values in rising order, the others Int 0
unfoldable pub unpacked : ℕ → ℕ → List Value → List Value
unpacked zero mask packed = []
unpacked (suc n) mask packed =
    taken (mask % 2 == 1) packed ∷ unpacked n (mask / 2) (left_after (mask % 2 == 1) packed)

-- The last places, as many as are counted, have the values that are not Int 0 in order, and the mask says which those are.
pub record IsPacked (values places : List Value) (count mask : ℕ) : Type 0 where
  pub long : length places ≡ 21
  pub kept_last : drop (21 - count) places ≡ kept values
  pub counted : count ≡ kept_count values
  pub masked : mask ≡ mask_of values

-- 0 for at most four values that are not Int 0, 1 for five to eight, 2 for more
abbrev pub class_of : List Value → ℕ
class_of values =
    if nat_le (kept_count values) 4 then 0 else if nat_le (kept_count values) 8 then 1 else 2
