use Rattle.std.proofs.Common.{◌≡◌, [], ◌∷◌, true, false}
use Rattle.dsm_model.specs.Globals.{setup_of, world_of}
use Rattle.report_reader.specs.declared.error.AuditRule.TheVariants.{OtherEntry}
use Rattle.report_replay.specs.Replaying.{Leads, is_told}
use Rattle.report_replay.proofs.Leading.{answers-denied, made-other, made-told, told-by}
use Rattle.report_replay.proofs.replaying.make_event.Goals as goal

pub returns-then-is_entry-clause-value : goal.returns-then-is_entry-clause-value
returns-then-is_entry-clause-value c =
    let s = setup_of c.args.g.now in
    let g = world_of c.args.g.now in
    let l = c.args.line.now in
    let e = c.in_ok-entry.entry in
    let told : is_told s c.args.number e l ≡ true = told-by s c.args.number e l c.args.names.now.protocol.now
    c.items.result.now c.is_entry.result true c.requires.names c.items.ensures c.is_entry.ensures c.if-is_entry.true in
    made-told s g c.args.number l c.args.event.now e (world_of c.step.new.g) c.requires.event c.requires.test
    c.in_ok-entry.ensures.event c.in_ok-entry.ensures.step told

pub returns-else-is_entry-clause-value : goal.returns-else-is_entry-clause-value
returns-else-is_entry-clause-value c =
    let s = setup_of c.args.g.now in
    let g = world_of c.args.g.now in
    let l = c.args.line.now in
    let e = c.in_ok-entry.entry in
    let told : is_told s c.args.number e l ≡ false = told-by s c.args.number e l c.args.names.now.protocol.now
    c.items.result.now c.is_entry.result false c.requires.names c.items.ensures c.is_entry.ensures c.if-is_entry.false in
    answers-denied c.denied.result l.line OtherEntry (λ end. Leads s g c.args.number (l ∷ []) end) c.denied.ensures
    (made-other s g c.args.number l c.args.event.now e (world_of c.step.new.g) c.requires.event c.requires.test
    c.in_ok-entry.ensures.event c.in_ok-entry.ensures.step told)
