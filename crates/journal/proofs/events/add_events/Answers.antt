use Rattle.std.proofs.Common.{List, ◌++◌, take, sym, ap, ◌∙◌}
use Rattle.std.specs.List.{flat_map, enumerate_from}
use Rattle.tw_base.specs.declared.entry.Entry.{Entry}
use Rattle.journal.specs.Reports.{event_line}
use Rattle.printed_text.proofs.Enumerating.{flat_map-enumerate_from-more, grown_by}
use Rattle.journal.proofs.events.add_events.Goals as goal

pub loop-event-preserved : goal.loop-event-preserved
loop-event-preserved c =
    let f = event_line c.args.names.now.protocol.now in
    let entries : List Entry = c.args.journal.now in
    let k = c.loop-event.event in
    let entry = c.index-journal-event in
    grown_by c.args.out.now c.loop-event.out c.add_event.new.out _ _ _ c.loop-event.invariant c.in_ok-add_event.ensures
    (flat_map-enumerate_from-more f entries k entry.result c.loop-event-test.true
    ∙ ap (λ (e : Entry). flat_map f (enumerate_from 0 (take k entries)) ++ f (k, e)) (sym entry.is))
