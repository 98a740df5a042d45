-- What a count that tells 0, 1 and more stands for.
use Rattle.std.specs.Prelude.{ℕ, ◌≡◌, ◌≤◌}
use Rattle.note_reads.specs.declared.count.Count.{Count}
use Rattle.note_reads.specs.declared.count.Count.TheVariants as c

abbrev pub IsCount : Count → ℕ → Type 0
IsCount c.Zero n = n ≡ 0
IsCount c.One n = n ≡ 1
IsCount c.More n = 2 ≤ n
