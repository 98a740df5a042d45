use Rattle.tw_wire.proofs.Places.{on-ok}
use Rattle.tw_wire.proofs.Making.{sender-more}
use Rattle.tw_wire.proofs.make.add_sender.Goals as goal

pub returns : goal.returns
returns c =
    let made = c.args.made.now in
    on-ok c.deal.result
    (λ h. sender-more c.args.n c.args.from made.rows made.sends made.recvs.items c.in_ok-wires.field-0 c.push.new.self
    c.push-2.new.self c.deal.new.columns.items
    c.requires.rows c.in_ok-wires.ensures c.in_ok-push.ensures.ok c.in_ok-push-2.ensures.ok h) c.deal.ensures
