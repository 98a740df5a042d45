use Rattle.std.proofs.Common.{◌≡◌, ◌∙◌, ◌++◌, Option, ap, drop, subst, sym, take}
use Rattle.std.specs.Prelude.{All, List, map, reverse, slice_get}
use Rattle.tw_base.specs.declared.value.Data.{Data}
use Rattle.tw_base.specs.declared.value.Value.{Value}
use Rattle.teapot_meaning.specs.Depth.{nodes_in}
use Rattle.teapot_meaning.specs.Steps.{out_to, payload_of, set_of}
use Rattle.handler_code.specs.Machine.{message_arity, top}
use Rattle.handler_vm.specs.declared.running.Running.{Running}
use Rattle.handler_vm.specs.Sending.{IsUnsent, Sends, out_of}
use Rattle.handler_vm.proofs.Sent.{outs_more, unsent_more}
use Rattle.handler_vm.proofs.running.Running.send_all.Goals as goal

pub returns-clause-sent : goal.returns-clause-sent
returns-clause-sent c =
    let was = c.args.self.now in
    let before = c.args.unsent.now.sent in
    let number = c.args.number in
    let decl = slice_get c.args.p.now.messages number in
    let args : c.take-args.result ≡ reverse (take (message_arity decl) was.stack) = c.take-args.ensures.args
    ∙ ap (λ n. reverse (take n was.stack)) c.message_arity.ensures in
    let set : c.set_of-set.result ≡ set_of (top (drop (message_arity decl) was.stack)) =
    c.set_of-set.ensures ∙ ap set_of (c.pop.ensures.value ∙ ap (λ (r : Running). top r.stack) c.take-args.ensures.rest
    ∙ ap (λ n. top (drop n was.stack)) c.message_arity.ensures) in
    let payload : c.payload-payload.result ≡ payload_of decl was.words =
    c.payload-payload.ensures ∙ ap (λ (r : Running). payload_of decl r.words) c.pop.ensures.rest
    ∙ ap (λ (r : Running). payload_of decl r.words) c.take-args.ensures.rest in
    ap (λ (s : Sends). map out_of s.sent) c.send_each.ensures
    ∙ outs_more number c.pop.new.self.me c.take-args.result c.payload-payload.result before c.message-first.result
    (nodes_in c.set_of-set.result) c.message-first.ensures.out
    ∙ ap (λ (xs : List Value). map out_of before ++ map (out_to number xs c.payload-payload.result)
    (nodes_in c.set_of-set.result)) args
    ∙ ap (λ (d : Option Data). map out_of before ++ map (out_to number (reverse (take (message_arity decl) was.stack)) d)
    (nodes_in c.set_of-set.result)) payload
    ∙ ap (λ s. map out_of before
    ++ map (out_to number (reverse (take (message_arity decl) was.stack)) (payload_of decl was.words)) (nodes_in s)) set

pub returns-clause-unsent : goal.returns-clause-unsent
returns-clause-unsent c = λ all.
    let p = c.args.p.now in
    let was = c.args.self.now in
    let m = c.message-first.result in
    let there : IsUnsent p c.take-args.new.self.me c.take-args.new.self.block m =
    subst (λ (r : Running). IsUnsent p r.me r.block m) c.pop.ensures.rest c.message-first.ensures.unsent in
    let here : IsUnsent p was.me was.block m = subst (λ (r : Running). IsUnsent p r.me r.block m) c.take-args.ensures.rest
    there in
    subst (λ (s : Sends). All (IsUnsent p was.me was.block) s.sent) (sym c.send_each.ensures)
    (unsent_more p was.me was.block c.args.unsent.now.sent m (nodes_in c.set_of-set.result) here all)
