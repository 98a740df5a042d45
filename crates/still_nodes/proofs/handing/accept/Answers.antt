use Rattle.std.proofs.Common.{◌∙◌, ap, get_or, set}
use Rattle.std.proofs.lemmas.Option.{slice_get_within}
use Rattle.node_meaning.specs.Nodes.{Shown}
use Rattle.still_nodes.proofs.Parts.{node_read}
use Rattle.still_nodes.proofs.handing.accept.Goals as goal

pub returns : goal.returns
returns c =
    let ns = c.args.nodes.now in
    let to = c.args.message.to in
    let old : Shown = get_or ns c.from.result c.index-nodes-from.result in
    let at = c.from.ensures ∙ c.get.ensures.value in
    record {
      old = old;
      new = c.accept.new.self;
      there =
          node_read ns c.from.result to c.index-nodes-from.result at
          (slice_get_within ns to c.requires.receiver c.requires.there);
      now = ap (λ i. set ns i c.accept.new.self) at;
      fronts = c.entries-well.ensures.well.all_fronts;
      same = c.accept.ensures.node;
      stands = c.accept.ensures.stands;
    }
