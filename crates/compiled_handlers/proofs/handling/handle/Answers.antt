use Rattle.std.proofs.Common.{◌≤◌, ap, subst, sym}
use Rattle.std.specs.Prelude.{ℕ, ◌^◌}
use Rattle.compiled_handlers.proofs.Meaning.{meant, stops_of, stops_soon}
use Rattle.compiled_handlers.proofs.Offering.{has_room}
use Rattle.compiled_handlers.proofs.Ordering.{in_order}
use Rattle.compiled_handlers.proofs.Posting.{full_of}
use Rattle.compiled_handlers.proofs.handling.handle.Goals as goal

pub run-requires-clause-room : goal.run-requires-clause-room
run-requires-clause-room c = has_room c.args.p.now c.args.code.now c.protocol-protocol.ensures.accepted c.requires.code

pub run-requires-clause-order : goal.run-requires-clause-order
run-requires-clause-order c = in_order c.args.p.now c.args.code.now c.requires.code

pub run-requires-clause-stops : goal.run-requires-clause-stops
run-requires-clause-stops c =
    let lawful = c.code_is_lawful.ensures c.args.p.now c.args.code.now c.protocol-protocol.ensures.accepted c.requires.code in
    let s = c.requires.stands in
    stops_of c.args.p.now c.args.code.now c.args.me c.args.home c.args.cell.now c.args.blocks.now c.args.conts.now c.args.m.now
    (stops_soon c.args.p.now c.args.code.now lawful c.args.me c.args.home c.args.cell.now c.args.blocks.now c.args.conts.now
    c.args.m.now c.shape-shape.ensures.whole c.requires.block c.requires.message s.0 s.1 s.2 s.3 c.requires.short)

pub run-requires-clause-chain : goal.run-requires-clause-chain
run-requires-clause-chain c = c.requires.stands.3.chain

pub run-requires-clause-full : goal.run-requires-clause-full
run-requires-clause-full c = full_of c.args.p.now c.args.blocks.now.shape.words c.args.m.now c.requires.message

pub returns-clause-meant : goal.returns-clause-meant
returns-clause-meant c here e is fits stands d =
    let lawful = c.code_is_lawful.ensures c.args.p.now c.args.code.now c.protocol-protocol.ensures.accepted c.requires.code in
    meant c.args.p.now c.args.code.now lawful c.args.me c.args.home c.args.cell.now c.args.blocks.now c.args.conts.now
    c.args.m.now c.shape-shape.ensures.whole c.requires.block c.requires.message here is fits stands
    (record { cell = c.run.new.cell; blocks = c.run.new.blocks; conts = c.run.new.conts }) c.run.new.around.sent
    c.run.result e d c.run.ensures.chain c.run.ensures.leaves

pub returns-clause-machine : goal.returns-clause-machine
returns-clause-machine c =
    let lawful = c.code_is_lawful.ensures c.args.p.now c.args.code.now c.protocol-protocol.ensures.accepted c.requires.code in
    let s = c.requires.stands in
    let soon = stops_soon c.args.p.now c.args.code.now lawful c.args.me c.args.home c.args.cell.now c.args.blocks.now
    c.args.conts.now c.args.m.now c.shape-shape.ensures.whole c.requires.block c.requires.message s.0 s.1 s.2 s.3
    c.requires.short in
    (soon.stop, soon.stops, c.run.ensures.leaves soon.stop soon.stops)

pub returns-clause-few : goal.returns-clause-few
returns-clause-few c =
    let lawful = c.code_is_lawful.ensures c.args.p.now c.args.code.now c.protocol-protocol.ensures.accepted c.requires.code in
    let s = c.requires.stands in
    let soon = stops_soon c.args.p.now c.args.code.now lawful c.args.me c.args.home c.args.cell.now c.args.blocks.now
    c.args.conts.now c.args.m.now c.shape-shape.ensures.whole c.requires.block c.requires.message s.0 s.1 s.2 s.3
    c.requires.short in
    subst (λ (n : ℕ). n ≤ 2 ^ 62) (sym (ap (λ r. r.ops) (c.run.ensures.leaves soon.stop soon.stops).result)) soon.ops

pub run-requires-clause-known : goal.run-requires-clause-known
run-requires-clause-known c = c.requires.message.known
