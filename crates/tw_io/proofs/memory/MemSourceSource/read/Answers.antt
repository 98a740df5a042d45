use Rattle.std.proofs.Common.{◌≡◌, ◌+◌, take, drop, length, arith}
use Rattle.std.proofs.lemmas.Grind.{common_steps}
use Rattle.std.proofs.lemmas.List.{drop_all}
use Rattle.tw_io.proofs.Streams.{drop-given}
use Rattle.tw_io.proofs.memory.MemSourceSource.read.Goals as goal

pub returns-clause-bytes : goal.returns-clause-bytes
returns-clause-bytes c =
    let bytes = c.self.inside.bytes.items in
    let next = c.self.inside.next in
    let count = c.min-count.result in
    let given = c.copy_from_slice.new.self in
    let is_front : given ≡ take count (drop next bytes) = grind (arith, common_steps) in
    let is_full : length given ≡ count = grind (arith, common_steps) in
    rw (← c.self.view_is) (
      drop-given bytes given _ next count is_front is_full,
      λ none some. drop_all (next + count) bytes (grind (arith, common_steps)),
    )
