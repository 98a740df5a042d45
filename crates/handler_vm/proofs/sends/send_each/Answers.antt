use Rattle.std.proofs.Common.{◌≡◌, ◌∙◌, ◌++◌, [], ◌∷◌, length, ap, arith, sym, take, true, false, length-append}
use Rattle.std.specs.Prelude.{map}
use Rattle.std.proofs.lemmas.List.{length-map}
use Rattle.tw_base.specs.NodeSets.{has, members, members_from}
use Rattle.tw_base.specs.declared.message.Message.{Message}
use Rattle.handler_vm.specs.Sending.{addressed}
use Rattle.teapot_meaning.proofs.Members.{members_room}
use Rattle.handler_vm.proofs.Sent.{sent_more, sent_same}
use Rattle.handler_vm.proofs.sends.send_each.Goals as goal
use Rattle.handler_vm.proofs.sends.send_each.Goals.{then-has, else-has}

pub push-requires : goal.push-requires
unfolding members
push-requires c =
    let here : has c.args.set c.loop-k.k ≡ true = ap (has c.args.set) (sym c.node-to.ensures) ∙ sym c.has.ensures.value
    ∙ c.if-has.true in
    let room = members_room c.loop-k.k 8 c.args.set here c.loop-k-test.true in
    let before = members_from 0 (take c.loop-k.k c.args.set) in
    omega (
      arith,
      room,
      ap length c.loop-k.invariant.sent,
      length-append c.args.unsent.now.sent
          (map (addressed c.args.m.now) before),
      length-map before (addressed c.args.m.now),
      c.loop-k.invariant.room,
      c.requires,
    )

pub loop-k-preserved : goal.loop-k-preserved
loop-k-preserved c =
    let l = c.loop-k in
    let was = c.args.unsent.now.sent in
    elim c.if-has.branch [
      | then-has w ↦
          let here : has c.args.set l.k ≡ true = ap (has c.args.set) (sym c.node-to.ensures) ∙ sym c.has.ensures.value
          ∙ w.if-has.true in
          let is : w.addressed.result ≡ addressed c.args.m.now l.k = w.addressed.ensures
          ∙ ap (addressed c.args.m.now) c.node-to.ensures in
          let now : c.if-has.unsent.sent ≡ l.unsent.sent ++ w.addressed.result ∷ [] = ap (λ s. s.sent) w.unsent-is
          ∙ ap (λ s. s.sent) w.push.ensures in
          let room : c.if-has.unsent.room ≡ l.unsent.room = ap (λ s. s.room) w.unsent-is ∙ ap (λ s. s.room) w.push.ensures in
          record {
            sent = now ∙ ap (λ (m : Message). l.unsent.sent ++ m ∷ []) is
                ∙ sent_more was l.unsent.sent c.args.m.now l.k c.args.set here l.invariant.sent;
            room = room ∙ l.invariant.room;
          }
      | else-has w ↦
          let none : has c.args.set l.k ≡ false = ap (has c.args.set) (sym c.node-to.ensures) ∙ sym c.has.ensures.value
          ∙ w.if-has.false in
          record {
            sent = ap (λ s. s.sent) w.unsent-is ∙ sent_same was l.unsent.sent c.args.m.now l.k c.args.set none l.invariant.sent;
            room = ap (λ s. s.room) w.unsent-is ∙ l.invariant.room;
          }
    ]

pub returns : goal.returns
unfolding members
returns c =
    let e : c.loop-k.k ≡ 8 = omega (arith, c.loop-k-test.false, c.loop-k.auto.k-end) in
    let sent = c.loop-k.invariant.sent ∙ ap (λ n. c.args.unsent.now.sent
    ++ map (addressed c.args.m.now) (members_from 0 (take n c.args.set))) e in
    λ j. record { sent = sent j; room = c.loop-k.invariant.room j }
