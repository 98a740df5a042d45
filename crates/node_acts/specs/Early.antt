-- The fronts that may be delivered.
use Rattle.std.specs.Prelude.{ℕ, Bool, ◌&&◌, not, if◌then◌else◌}

-- the bits that tell of deliveries, where none is made unless messages are taken
abbrev pub early_if : Bool → Bool → ℕ → ℕ
early_if handles eligible early = if handles && not eligible then early else 0
