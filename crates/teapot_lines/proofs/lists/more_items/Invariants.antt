use Rattle.std.proofs.Common.{◌≡◌, ◌-◌, map}
use Rattle.teapot_lines.specs.Seen.{seen}
use Rattle.teapot_lines.specs.Parts.{with_front, more, more_at}
use Rattle.teapot_lines.proofs.lists.more_items.Given as goal

abbrev pub invariant-items : goal.invariant-items
invariant-items g l = with_front l.found (more g.I.Item.due (l.end - l.counter) (map (seen l.profile) l.rest))
    ≡ with_front l.fn.front (more_at g.I.Item.due (map (seen l.profile) l.tokens))
