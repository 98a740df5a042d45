use Rattle.std.proofs.Common.{◌∙◌, ap, sym}
use Rattle.std.specs.Option.{option_copied}
use Rattle.node_parts.specs.Parts.{Logged}
use Rattle.still_nodes.proofs.Acting.{acted}
use Rattle.still_nodes.proofs.making.act_at.Goals as goal

pub returns-clause-acts : goal.returns-clause-acts
returns-clause-acts c =
    acted c.args.node.now c.make_room.new.node c.make_at.new.node c.args.taken.now.list c.make_room.new.taken.list
    c.push.new.self.list c.args.event.now c.unwrap-entry.result.now
    c.make_room.ensures.node c.make_at.ensures c.make_room.ensures.same (ap (λ (l : Logged). l.list) c.push.ensures)
    (sym c.last_entry.ensures ∙ ap option_copied c.unwrap-entry.ensures)
