use Rattle.std.proofs.Common.{◌≡◌, ◌<◌, ◌*◌, ◌++◌, List, length, take, drop, set, get_or, ap, sym, ◌∙◌, add-one, arith}
use Rattle.std.specs.Vec.Iter.{into_iter_items}
use Rattle.tw_wire.specs.Sides.{Receiving}
use Rattle.tw_wire.specs.Made.{dealt}
use Rattle.tw_wire.proofs.Places.{length-dealt, dealt-more, drop-next}
use Rattle.tw_wire.proofs.columns.deal.Goals as goal

pub loop-column-preserved : goal.loop-column-preserved
loop-column-preserved c =
    let l = c.loop-column in
    let i = l.column-index in
    let cs = c.args.columns.now.items in
    let rs = c.args.row in
    let x = c.column-item.result in
    let count : length l.column-items ≡ length cs = ap length l.invariant.columns ∙ length-dealt i cs rs in
    let within : i < length cs = omega arith in
    let more : c.give_two.new.column ≡ x ++ take 2 (drop (2 * i) rs) = c.in_ok-give_two.ensures.column
    ∙ ap (λ (y : List Receiving). y ++ take 2 (into_iter_items l.row)) (sym c.column-item.is)
    ∙ ap (λ (rest : List Receiving). x ++ take 2 rest) l.invariant.rest in
    let item : x ≡ get_or (dealt i cs rs) i x = c.column-item.is
    ∙ ap (λ (ys : List (List Receiving)). get_or ys i x) l.invariant.columns in
    rw add-one (record {
      columns = ap (λ (y : List Receiving). set l.column-items i y) more
          ∙ ap (λ (ys : List (List Receiving)). set ys i (x ++ take 2 (drop (2 * i) rs))) l.invariant.columns
          ∙ dealt-more i cs rs x within item;
      rest = c.in_ok-give_two.ensures.row ∙ ap (λ (rest : List Receiving). drop 2 rest) l.invariant.rest ∙ sym (drop-next i rs);
    })
