use Rattle.protocol_texts.proofs.Found.{lexes-well}
use Rattle.protocol_texts.proofs.reading.text_lines.Goals as goal

pub unreachable-requires : goal.unreachable-requires
unreachable-requires c = lexes-well _ c.requires.accepted _ (rw c.in-Err-NotAscii.field-0-is at c.in-Err-NotAscii.ensures)

pub unreachable-requires-in-Err-BadToken : goal.unreachable-requires-in-Err-BadToken
unreachable-requires-in-Err-BadToken c = lexes-well _ c.requires.accepted _
    (rw c.in-Err-BadToken.field-0-is at c.in-Err-BadToken.ensures)
