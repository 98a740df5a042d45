use Rattle.tempest_run.proofs.Sections.{settings-of-text}
use Rattle.tempest_run.proofs.input.read_with_report.Goals as goal

pub protocol_of-requires : goal.protocol_of-requires
protocol_of-requires c =
    let own =
    settings-of-text c.texts_have_text_lines.ensures c.layout_is_read_both_ways.ensures _ _
    (c.in_ok-settings.settings, c.in_ok-settings.report) c.in_ok-settings.ensures in
    rw c.into_parts-shape.ensures.protocol own
