use Rattle.std.proofs.Common.{◌≡◌, ◌+◌, arith, subst, sym}
use Rattle.tw_base.specs.declared.message.Message.{Message}
use Rattle.dsm_runs.specs.Events.{freed_if, with_kept}
use Rattle.dsm_runs.specs.Messages.{fault}
use Rattle.dsm_model.specs.declared.handle.Made.{Made}
use Rattle.dsm_model.specs.Posts.{CanSend}
use Rattle.dsm_model.specs.Kept.{is_served}
use Rattle.dsm_model.proofs.Handlings.{all-get, fault_made, handling_of, made_same}
use Rattle.dsm_model.proofs.instruct.fault.Goals as goal

pub handle-requires-clause-served : goal.handle-requires-clause-served
handle-requires-clause-served c = all-get (is_served c.args.setup.now) c.args.l.now.blocks c.args.block
    c.block_at-here.result.now c.requires.sound.served c.block_at-here.ensures

pub returns-clause-made : goal.returns-clause-made
returns-clause-made c =
    let s = c.args.setup.now in
    let l = c.args.l.now in
    let h = c.in_ok-handling.handling in
    let m = c.fault_of-message.result in
    let due = fault c.args.store c.args.block c.args.me in
    let same : m ≡ due = c.fault_of-message.ensures in
    let is = handling_of s c.args.me (l.clock + 1) m due c.block_at-here.result.now h same c.in_ok-handling.ensures.handling in
    let waits : c.defer.new.deferred ≡ with_kept h.ended.kept due (freed_if h.ended.freed c.args.block l.deferred) =
    subst (λ (x : Message). c.defer.new.deferred ≡ with_kept h.ended.kept x (freed_if h.ended.freed x.block l.deferred))
    same c.in_ok-defer.ensures.ok in
    made_same s c.args.me _ l _ _ c.adopt.new.l _ c.adopt.result c.adopt.ensures.node c.adopt.ensures.made
    (fault_made s c.args.me l c.args.store c.args.block c.block_at-here.result.now h c.defer.new.deferred c.requires.me
    c.requires.may c.requires.sound c.requires.block c.requires.refused c.block_at-here.ensures is waits
    (omega (arith, c.requires.may.sent, c.shape-shape.ensures.valid.limits.budget, is.few)))

pub returns-clause-ready : goal.returns-clause-ready
returns-clause-ready c = subst (λ (m : Made). CanSend c.handle.new.outboxes m.sends)
    (sym c.adopt.ensures.made) c.in_ok-handling.ensures.ready
