use Rattle.std.proofs.Common.{◌+◌, ap, arith, subst, sym}
use Rattle.dsm_model.specs.declared.handle.Made.{Made}
use Rattle.dsm_model.specs.Posts.{CanSend}
use Rattle.dsm_model.specs.Kept.{is_served}
use Rattle.dsm_model.proofs.Handlings.{all-get, delivery_made, made_same}
use Rattle.dsm_model.proofs.take.deliver.Goals as goal

pub handle-requires-clause-served : goal.handle-requires-clause-served
handle-requires-clause-served c = all-get (is_served c.args.setup.now) c.args.l.now.blocks c.args.message.now.block
    c.block_at-here.result.now c.requires.sound.served c.block_at-here.ensures

pub returns-clause-made : goal.returns-clause-made
returns-clause-made c =
    let s = c.args.setup.now in
    let l = c.args.l.now in
    let m = c.args.message.now in
    let stamp = c.max-stamp.result + 1 in
    let h = c.in_ok-handling.handling in
    made_same s c.args.me _ l _ _ c.adopt.new.l _ c.adopt.result c.adopt.ensures.node c.adopt.ensures.made
    (delivery_made s c.args.me l m c.args.from c.args.chan stamp c.block_at-here.result.now h c.defer.new.deferred
    c.requires.me c.requires.from c.requires.may c.requires.sound c.requires.stale c.requires.early c.requires.block
    c.block_at-here.ensures
    (ap (λ n. n + 1) c.max-stamp.ensures) c.in_ok-handling.ensures.handling c.in_ok-defer.ensures.ok
    (omega (arith, c.requires.may.sent, c.shape.ensures.valid.limits.budget, c.in_ok-handling.ensures.handling.few)))

pub returns-clause-ready : goal.returns-clause-ready
returns-clause-ready c = subst (λ (m : Made). CanSend c.handle.new.outboxes m.sends)
    (sym c.adopt.ensures.made) c.in_ok-handling.ensures.ready
