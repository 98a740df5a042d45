use Rattle.std.proofs.Common.{rules, ◌≡◌, ℕ, ◌*◌, List, [], ◌++◌, length, map, drop, refl, sym, ap, subst, ◌∙◌, arith}
use Rattle.std.proofs.Common.{append_assoc}
use Rattle.std.proofs.lemmas.List.{append-nil, length-map, map-append}
use Rattle.std.specs.Global.{Vec}
use Rattle.std.specs.Vec.Iter.{into_iter_items}
use Rattle.tw_base.specs.declared.message.Message.{Message}
use Rattle.tw_wire.specs.Sides.{Sending, Receiving}
use Rattle.tw_wire.specs.Joined.{lists, contents, AreJoined}
use Rattle.tw_wire.proofs.Places.{on-ok}
use Rattle.tw_wire.proofs.Closing.{all-map, next-is, ends-first, joined-first, joined-none}
use Rattle.tw_wire.proofs.close.+close_rows.Goals as goal

pub returns-in_default : goal.returns-in_default
returns-in_default g t c =
    let sends = into_iter_items c.args.sends.now in
    let columns = contents c.args.columns.items in
    let none = joined-none (length columns) sends columns in (
      [],
      sym (append-nil (lists c.args.left.now.items)),
      subst (λ (m : ℕ). AreJoined m (length columns) sends columns []) (sym c.in_default.ensures.cases) none,
    )

pub next_row-requires : goal.next_row-requires
next_row-requires g t c =
    let sends = next-is _ _ _ _ c.next.ensures.items c.unwrap-out.ensures in
    let first = ends-first _ _ _ _ _ _ _ c.in-Some.ensures.cases.0 sends c.requires in
    all-map (λ x. into_iter_items x) c.args.columns.items first.2

pub close_row-requires-clause-sends : goal.close_row-requires-clause-sends
close_row-requires-clause-sends g t c =
    let sends = next-is _ _ _ _ c.next.ensures.items c.unwrap-out.ensures in
    let first = ends-first _ _ _ _ _ _ _ c.in-Some.ensures.cases.0 sends c.requires in
    ap (λ (xs : List Sending). map (λ (s : Sending). s.wire) xs) c.into_vec.ensures ∙ first.0 ∙ sym c.items.ensures

pub close_row-requires-clause-recvs : goal.close_row-requires-clause-recvs
close_row-requires-clause-recvs g t c =
    let sends = next-is _ _ _ _ c.next.ensures.items c.unwrap-out.ensures in
    let first = ends-first _ _ _ _ _ _ _ c.in-Some.ensures.cases.0 sends c.requires in
    ap (λ (xs : List Receiving). map (λ (r : Receiving). r.wire) xs) c.in_ok-back.ensures.row ∙ first.1 ∙ sym c.items.ensures

pub close_rows-requires : goal.close_rows-requires
close_rows-requires g t c κs within =
    let sends = next-is _ _ _ _ c.next.ensures.items c.unwrap-out.ensures in
    let first = ends-first _ _ _ _ _ _ _ c.in-Some.ensures.cases.0 sends c.requires in
    let rest = c.in_ok-back.ensures.rest in
    let ends = first.3 in
    let count = ap length c.in-Some.ensures.cases.0 in
    (omega (arith, c.decreases, count), (search rules, rw rest ends))

pub returns : goal.returns
returns g t c =
    let rows = c.in-Some.ensures.cases.0 in
    let sends = next-is _ _ _ _ c.next.ensures.items c.unwrap-out.ensures in
    let first = ends-first _ _ _ _ _ _ _ rows sends c.requires in
    let columns = contents c.args.columns.items in
    let n = length columns in
    let rest = c.in_ok-back.ensures.rest in
    let l = c.in_ok-more.more.items in
    let later = contents c.in_ok-back.rest.items in
    let m = length c.in-Some.others.now in
    let senders = into_iter_items c.args.sends.now in
    let others = into_iter_items c.next.new.self in
    let fewer : length later ≡ n = ap length rest ∙ length-map columns (λ x. drop 2 x) in
    let count = length-map l (λ (v : Vec Message). v.items) ∙ c.in_ok-more.ensures.count in
    let len : length (lists l) ≡ 2 * n = count ∙ ap length c.items.ensures ∙ first.5 in
    let out = ap (λ (xs : List Sending). map (λ (s : Sending). s.sent) xs) c.into_vec.ensures in
    let head = sym out ∙ c.in_ok-more.ensures.joined in
    let old = lists c.args.left.now.items in
    let added : lists c.append.new.self.items ≡ old ++ lists l =
    ap lists c.in_ok-append.ensures.items ∙ map-append (λ (v : Vec Message). v.items) c.args.left.now.items l in
    on-ok c.close_rows.result (λ h.
    let tail = subst (λ (k : ℕ). AreJoined m k others later h.0) fewer h.2 in
    let back = c.in_ok-back.ensures.row in (
      lists l ++ h.0,
      h.1 ∙ ap (λ (xs : List (List Message)). xs ++ h.0) added ∙ append_assoc old (lists l) h.0,
      subst (λ (k : ℕ). AreJoined k n senders columns (lists l ++ h.0)) (sym (ap length rows))
          (joined-first m n senders c.unwrap-out.result others columns later c.in_ok-back.back.items (lists l) h.0
          sends back rest first.4 refl len head tail),
    )) c.close_rows.ensures
