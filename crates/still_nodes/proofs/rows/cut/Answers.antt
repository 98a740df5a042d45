use Rattle.std.proofs.Common.{◌≡◌, ◌∙◌, ◌+◌, ◌-◌, ◌<◌, ◌≤◌, List, [], ◌∷◌, ◌++◌, drop, length, take, ap, suc, add-one, arith}
use Rattle.std.proofs.Common.{length-drop}
use Rattle.tw_base.specs.declared.message.Message.{Message}
use Rattle.still_nodes.specs.Opening.{padded, rows_of}
use Rattle.still_nodes.proofs.Cutting.{enough_left, fewer_left, first_row}
use Rattle.still_nodes.proofs.rows.cut.Goals as goal

pub loop-preserved : goal.loop-preserved
loop-preserved c =
    let l = c.loop in
    let w = c.args.width in
    let n = c.args.count in
    let queues : List (List Message) = l.queues.items in
    let rest : List (List Message) = c.in_ok-rest.rest.items in
    let first : List (List Message) = padded (take w queues) in
    let within : l.counter < n = omega arith in
    let tail : rest ≡ drop w queues = c.in_ok-rest.ensures.tail in
    let row : c.in_ok-padded.field-0 ≡ first = c.in_ok-padded.ensures ∙ ap padded c.in_ok-rest.ensures.items in
    let pushed : c.push.new.self.items ≡ l.rows.items ++ first ∷ [] =
    c.in_ok-push.ensures.items ∙ ap (λ (r : List (List Message)). l.rows.items ++ r ∷ []) row in
    let enough : w ≤ length queues = enough_left w n l.counter (length queues) within l.invariant.left in
    let fewer : length rest + w ≡ length queues = omega (arith, ap length tail, length-drop w queues) in
    rw add-one (record {
      rows = ap (λ (rs : List (List (List Message))). rs ++ rows_of w (n - suc l.counter) rest) pushed
          ∙ ap (λ (qs : List (List Message)). (l.rows.items ++ first ∷ []) ++ rows_of w (n - suc l.counter) qs) tail
          ∙ first_row w n l.counter l.rows.items queues (rows_of w n c.args.queues.items) within l.invariant.rows;
      left = fewer_left w n l.counter (length queues) (length rest) within l.invariant.left fewer;
    })
