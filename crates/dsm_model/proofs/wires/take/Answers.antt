use Rattle.std.proofs.Common.{◌≡◌, List, get_or, set, sym, ◌∙◌, subst}
use Rattle.dsm_model.specs.declared.outbox.Outbox.{Outbox}
use Rattle.dsm_model.specs.Posts.{HasTaken}
use Rattle.dsm_model.proofs.Posting.{element_at, taken_outboxes}
use Rattle.dsm_model.proofs.wires.take.Goals as goal

pub returns : goal.returns
returns c =
    let outboxes : List Outbox = c.args.outboxes.now in
    let old : Outbox = get_or outboxes c.from.result c.index-outboxes-from.result in
    let at : c.from.result ≡ c.args.from = c.from.ensures ∙ c.get.ensures.value in
    subst (λ k. HasTaken outboxes (set outboxes k c.take.new.self) c.args.from c.args.to c.args.chan c.take.result) (sym at)
    (taken_outboxes outboxes c.args.from c.args.to c.args.chan c.take.result old c.take.new.self
    (element_at outboxes c.from.result c.args.from c.index-outboxes-from.result at c.requires.from) c.requires.from
    c.requires.room c.take.ensures)
