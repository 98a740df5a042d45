use Rattle.std.proofs.Common.{◌≡◌, ◌≤◌, List, [], length, drop, map, ap, sym, ◌∙◌, arith}
use Rattle.std.proofs.Math.ListN.{drop_of_length-le}
use Rattle.std.proofs.lemmas.List.{append-nil}
use Rattle.std.specs.Vec.Iter.{into_iter_items}
use Rattle.tw_base.specs.declared.message.Message.{Message}
use Rattle.tw_wire.specs.Sides.{Sending, Receiving}
use Rattle.tw_wire.specs.Joined.{joined, lists}
use Rattle.tw_wire.proofs.Closing.{map-none, joined-nil}
use Rattle.tw_wire.proofs.close.close_row.Goals as goal

pub returns-clause-joined : goal.returns-clause-joined
returns-clause-joined g c =
    let l = c.loop-wire in
    let inv = l.invariant in
    let past : length c.args.wires.now ≤ l.wire-index = omega arith in
    let none : drop l.wire-index c.args.wires.now ≡ [] = drop_of_length-le c.args.wires.now past in
    let s : into_iter_items l.sends ≡ [] = map-none (λ (x : Sending). x.wire) (into_iter_items l.sends) (inv.sends ∙ none) in
    let all = inv.completes [] (ap (λ xs. map (λ (x : Sending). x.sent) xs) s
    ∙ sym (joined-nil (map (λ (x : Receiving). x.taken) (into_iter_items l.recvs)))) in
    all ∙ ap (λ (ls : List (List Message)). joined (map (λ (x : Receiving). x.taken) c.args.recvs.items) ls)
    (append-nil (lists l.left.items))
