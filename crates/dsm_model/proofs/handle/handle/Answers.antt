use Rattle.std.proofs.Common.{List, ◌<◌, length, map, sym, ◌∙◌, ap, subst, arith}
use Rattle.std.specs.Prelude.{IsSome}
use Rattle.teapot_meaning.specs.Does.{Does, state_of}
use Rattle.teapot_meaning.specs.declared.state.Ended.{Ended}
use Rattle.teapot_meaning.specs.declared.state.Out.{Out}
use Rattle.teapot_tree.specs.declared.protocol.Protocol.{Protocol}
use Rattle.dsm_runs.specs.Messages.{message_of}
use Rattle.tw_base.specs.Lists.{Each}
use Rattle.tw_base.specs.declared.message.Message.{Message}
use Rattle.dsm_model.specs.Posts.{CanSend}
use Rattle.dsm_model.proofs.Handlings.{mapped_from, outgoing-map}
use Rattle.dsm_model.proofs.States.{below_state, does_below}
use Rattle.dsm_model.proofs.handle.handle.Goals as goal

pub run-requires : goal.run-requires
run-requires c = subst (λ (p : Protocol). IsSome (state_of p c.args.here.now)) (sym c.protocol-protocol.ensures.value)
    (below_state c.args.setup.now.protocol c.args.here.now.state c.requires.served)

pub returns-clause-handling : goal.returns-clause-handling
returns-clause-handling c =
    let p : Protocol = c.args.setup.now.protocol in
    let m = c.args.message.now in
    let e : Ended = c.in_ok-ended.ended in
    let does : Does p c.args.here.now m e = subst (λ (q : Protocol). Does q c.args.here.now m e)
    c.protocol-protocol.ensures.value c.in_ok-ended.ensures in
    record {
      does = does;
      sends = c.in_ok-sends.ensures
          ∙ ap (λ (os : List Out). map (message_of c.protocol-protocol.result.now c.args.me m.block c.args.stamp) os)
          c.items-outs.ensures
          ∙ ap (λ (q : Protocol). map (message_of q c.args.me m.block c.args.stamp) e.sends) c.protocol-protocol.ensures.value
          ∙ outgoing-map p c.args.me m.block c.args.stamp e.sends;
      served = does_below p c.args.here.now m e does c.requires.served;
      few = omega (arith, c.if-len-from.false, c.len.ensures, c.from.ensures);
    }

pub reserve_all-requires-clause-from : goal.reserve_all-requires-clause-from
reserve_all-requires-clause-from c =
    let p : Protocol = c.protocol-protocol.result.now in
    subst (λ (ms : List Message). Each (λ m. m.from < length c.args.outboxes.now) ms)
    (sym (c.items.ensures ∙ c.in_ok-sends.ensures))
    (mapped_from p c.args.me c.args.message.now.block c.args.stamp
    (length c.args.outboxes.now) c.items-outs.result.now c.requires.me)

pub returns-clause-ready : goal.returns-clause-ready
returns-clause-ready c = subst (λ (ms : List Message). CanSend c.reserve_all.new.outboxes ms) c.items.ensures
    c.in_ok-reserve_all.ensures.ok
