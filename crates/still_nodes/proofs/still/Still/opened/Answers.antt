use Rattle.std.proofs.Common.{◌≡◌, ◌∙◌, ◌*◌, List, ap, map}
use Rattle.std.specs.Global.{Vec}
use Rattle.tw_base.specs.Shape.{Sizes}
use Rattle.tw_base.specs.declared.message.Message.{Message}
use Rattle.still_nodes.specs.Opening.{rows_of}
use Rattle.still_nodes.proofs.Opened.{made_whole}
use Rattle.still_nodes.proofs.still.Still.opened.Goals as goal

pub invariant_of-result : goal.invariant_of-result
invariant_of-result c =
    let s = c.args.setup.now in
    let left : List (List Message) = map (λ (v : Vec Message). v.items) c.args.left.items in
    let n : c.nodes.result ≡ s.shape.nodes = c.nodes.ensures.value ∙ ap (λ (z : Sizes). z.nodes) c.shape.ensures.value in
    let rows : c.in_ok-rows.rows.items ≡ rows_of (2 * s.shape.nodes) s.shape.nodes left =
    c.in_ok-rows.ensures ∙ ap (λ k. rows_of (2 * k) k left) n in
    made_whole s c.args.code.now c.args.nodes.items left c.in_ok-rows.rows.items c.new.result.list rows c.new.ensures
    c.shape.ensures.valid c.requires.state
