use Rattle.std.proofs.Common.{◌++◌, ◌∷◌, [], List, ap, sym, ◌∙◌, arith}
use Rattle.std.proofs.lemmas.List.FromFn.{map-range_with_len_more}
use Rattle.handler_vm.specs.declared.cell.Cell.{Cell}
use Rattle.node_acts.specs.Starts.{start_cell}
use Rattle.node_core.proofs.start.start_cells.Goals as goal

pub loop-number-preserved : goal.loop-number-preserved
loop-number-preserved c =
    let f = start_cell c.args.setup.now c.args.me in
    let n = c.loop-number.number in
    let at = rw c.unwrap-block.ensures at c.new.ensures in
    c.in_ok-push.ensures.ok
    ∙ ap (λ (x : Cell). c.loop-number.cells ++ x ∷ []) (c.start_cell.ensures ∙ ap f at.1)
    ∙ ap (λ (xs : List Cell). xs ++ f n ∷ []) c.loop-number.invariant
    ∙ sym (map-range_with_len_more f 0 n n (omega arith))
