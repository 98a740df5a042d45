use Rattle.std.proofs.Common.{◌∙◌, Some, ap, sym}
use Rattle.protocol_texts.proofs.Found.{accepts}
use Rattle.protocol_texts.proofs.reading.accepted_protocol.Goals as goal

pub check-requires : goal.check-requires
check-requires c = (accepts _ c.requires.accepted _ c.in_ok-protocol.ensures).tree

pub returns-in-Ok : goal.returns-in-Ok
returns-in-Ok c = c.in_ok-protocol.ensures ∙ ap Some (sym c.in-Ok.ensures.0)

pub unreachable-requires : goal.unreachable-requires
unreachable-requires c =
    let answer = rw c.in-Err-Broken.field-0-is at c.in-Err-Broken.ensures in
    (accepts _ c.requires.accepted _ c.in_ok-protocol.ensures).keeps _ _ answer.broken
