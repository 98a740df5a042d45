use Rattle.protocol_texts.proofs.Found.{reads-as, reads-well}
use Rattle.protocol_texts.proofs.reading.text_tree.Goals as goal

pub returns-in-Ok : goal.returns-in-Ok
returns-in-Ok c = reads-as _ _ _ c.in_ok-found.ensures c.in-Ok.ensures

pub unreachable-requires : goal.unreachable-requires
unreachable-requires c =
    let answer = rw c.in-Err-BadLine.field-0-is at c.in-Err-BadLine.ensures in
    reads-well _ c.requires.accepted _ _ c.in_ok-found.ensures answer

pub unreachable-requires-in-Err-BadNest : goal.unreachable-requires-in-Err-BadNest
unreachable-requires-in-Err-BadNest c =
    let answer = rw c.in-Err-BadNest.field-0-is at c.in-Err-BadNest.ensures in
    reads-well _ c.requires.accepted _ _ c.in_ok-found.ensures answer

pub unreachable-requires-in-Err-TooMany : goal.unreachable-requires-in-Err-TooMany
unreachable-requires-in-Err-TooMany c =
    let answer = rw c.in-Err-TooMany.field-0-is at c.in-Err-TooMany.ensures in
    reads-well _ c.requires.accepted _ _ c.in_ok-found.ensures answer
