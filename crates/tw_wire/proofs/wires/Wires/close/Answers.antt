use Rattle.std.proofs.Common.{rules, ◌≡◌, ℕ, ◌++◌, List, length, map, sym, ap, subst, ◌∙◌}
use Rattle.std.proofs.lemmas.List.{length-map}
use Rattle.std.specs.Global.{Vec}
use Rattle.std.specs.Vec.Iter.{into_iter_items}
use Rattle.tw_base.specs.declared.message.Message.{Message}
use Rattle.tw_wire.specs.Sides.{Sending, Receiving}
use Rattle.tw_wire.specs.Wires.{EndsShown, AreClosed}
use Rattle.tw_wire.specs.Joined.{lists, contents, AreJoined}
use Rattle.tw_wire.specs.Lending.{shown}
use Rattle.tw_wire.proofs.Closing.{ends-all, closed}
use Rattle.tw_wire.proofs.wires.Wires.close.Goals as goal

pub close_rows-requires : goal.close_rows-requires
close_rows-requires g c =
    let names : c.items.result.now ≡ c.args.self = search rules in
    let shape = map (λ (e : EndsShown). e.sends) (map shown c.args.ends.items) in
    let sends : into_iter_items c.into_iter-sends.result ≡ shape = search rules in
    let recvs = c.in_ok-sends.ensures.recvs in
    let ends = map shown c.args.ends.items in
    rw (names, sends, recvs) (ends-all (length c.args.self) c.args.self ends c.requires.names c.requires.ends)

pub returns : goal.returns
returns g c =
    let n = length c.args.self in
    let ends = map shown c.args.ends.items in
    let sends = map (λ (e : EndsShown). e.sends) ends in
    let recvs = map (λ (e : EndsShown). e.recvs) ends in
    let h = c.in_ok-close_rows.ensures in
    let names : c.items.result.now ≡ c.args.self = search rules in
    let columns = contents c.in_ok-sends.columns.items in
    let recvs-are = c.in_ok-sends.ensures.recvs in
    let left : lists c.close_rows.new.left.items ≡ h.0 =
    h.1 ∙ ap (λ (xs : List (Vec Message)). lists xs ++ h.0) c.new-left.ensures.items in
    let nodes : length columns ≡ n = ap length recvs-are ∙ length-map ends (λ (e : EndsShown). e.recvs) ∙ c.requires.ends.0 in
    let out : into_iter_items c.into_iter-sends.result ≡ sends = search rules in
    let joined = subst (λ (y : ℕ × ℕ × List (List Sending) × List (List Receiving)). AreJoined y.0 y.1 y.2 y.3 h.0)
    (λ i. (ap length names i, nodes i, out i, recvs-are i)) h.2 in
    subst (λ (l : List (List Message)). AreClosed n ends l) (sym left) (closed n ends h.0 joined)
