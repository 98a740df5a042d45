-- How many caches hold a block read-only.
use Rattle.std.specs.Prelude.{ℕ, nat_eq, if◌then◌else◌}
use Rattle.tw_base.specs.Lists.{sum_below}
use Rattle.tw_base.specs.declared.value.Tag.{Tag}
use Rattle.tw_base.specs.declared.value.Tag.TheVariants.{ReadOnly}

abbrev pub is_copy : Tag → ℕ
is_copy ReadOnly = 1
is_copy _ = 0

-- among n nodes, the home h aside
unfoldable pub copies : ℕ → ℕ → (ℕ → Tag) → ℕ
copies n h tags = sum_below n (λ i. if nat_eq i h then 0 else is_copy (tags i))
