use Rattle.std.proofs.Common.{◌∙◌, List, subst, sym}
use Rattle.std.specs.Vec.{with_items}
use Rattle.node_meaning.specs.Nodes.{Shown}
use Rattle.still_meaning.specs.Stills.{StillShown}
use Rattle.still_nodes.specs.Handing.{MayAccept, Refills, queue_at}
use Rattle.still_nodes.specs.Parts.{all_of}
use Rattle.still_nodes.proofs.Written.{followed, kept_back, may_be_kept, next_is, stayed_back}
use Rattle.still_nodes.proofs.still.Still.refill.Goals as goal

pub accept-requires : goal.accept-requires
accept-requires c =
    let i = c.self.inside in
    let x =
    followed i.setup.now i.code.now i.nodes.items i.rows.items i.taken.list c.self.invariant c.args.self.now c.args.from
    c.args.to c.args.chan c.from.result c.index.result.now c.take_next.result c.deref_mut.result.now c.take_next.new.rows
    c.self.view_is c.requires.from c.requires.to (c.from.ensures ∙ c.get.ensures.value) c.index.ensures c.if-has_front.ensures
    c.deref_mut.ensures.value c.take_next.ensures.first c.take_next.ensures.popped c.take_next.ensures.others in
    let first =
    next_is (queue_at i.rows.items c.args.from c.args.to c.args.chan)
    (queue_at c.take_next.new.rows c.args.from c.args.to c.args.chan) c.take_next.result c.in-Some.message x.popped
    c.in-Some.is in
    subst (λ (ns : List Shown). MayAccept ns c.in-Some.message) (sym c.deref_mut-in-Some.ensures.value)
    (may_be_kept i.setup.now i.code.now i.nodes.items i.rows.items i.taken.list c.self.invariant c.args.from c.args.to
    c.args.chan x.from x.to c.index.result.now x.there x.free c.take_next.new.rows x.others c.in-Some.message first)

pub invariant_of-self : goal.invariant_of-self
invariant_of-self c =
    let i = c.self.inside in
    let x =
    followed i.setup.now i.code.now i.nodes.items i.rows.items i.taken.list c.self.invariant c.args.self.now c.args.from
    c.args.to c.args.chan c.from.result c.index.result.now c.take_next.result c.deref_mut.result.now c.take_next.new.rows
    c.self.view_is c.requires.from c.requires.to (c.from.ensures ∙ c.get.ensures.value) c.index.ensures c.if-has_front.ensures
    c.deref_mut.ensures.value c.take_next.ensures.first c.take_next.ensures.popped c.take_next.ensures.others in
    let done =
    kept_back i.setup.now i.code.now i.nodes i.rows i.taken.list c.self.invariant c.args.from c.args.to c.args.chan
    c.index.result.now c.take_next.result c.deref_mut.result.now c.take_next.new.rows x c.deref_mut.ensures.len
    c.deref_mut.ensures.value c.in-Some.message c.deref_mut-in-Some.result.now c.accept.new.nodes c.in-Some.is
    c.deref_mut-in-Some.ensures.len c.deref_mut-in-Some.ensures.value c.accept.ensures in
    done.0

pub invariant_of-self-in_default : goal.invariant_of-self-in_default
invariant_of-self-in_default c =
    let i = c.self.inside in
    let x =
    followed i.setup.now i.code.now i.nodes.items i.rows.items i.taken.list c.self.invariant c.args.self.now c.args.from
    c.args.to c.args.chan c.from.result c.index.result.now c.take_next.result c.deref_mut.result.now c.take_next.new.rows
    c.self.view_is c.requires.from c.requires.to (c.from.ensures ∙ c.get.ensures.value) c.index.ensures c.if-has_front.ensures
    c.deref_mut.ensures.value c.take_next.ensures.first c.take_next.ensures.popped c.take_next.ensures.others in
    let done =
    stayed_back i.setup.now i.code.now i.nodes i.rows i.taken.list c.self.invariant c.args.from c.args.to c.args.chan
    c.index.result.now c.take_next.result c.deref_mut.result.now c.take_next.new.rows x c.deref_mut.ensures.len
    c.deref_mut.ensures.value c.in_default.is in
    done.0

pub returns-in-Some : goal.returns-in-Some
returns-in-Some c =
    let i = c.self.inside in
    let x =
    followed i.setup.now i.code.now i.nodes.items i.rows.items i.taken.list c.self.invariant c.args.self.now c.args.from
    c.args.to c.args.chan c.from.result c.index.result.now c.take_next.result c.deref_mut.result.now c.take_next.new.rows
    c.self.view_is c.requires.from c.requires.to (c.from.ensures ∙ c.get.ensures.value) c.index.ensures c.if-has_front.ensures
    c.deref_mut.ensures.value c.take_next.ensures.first c.take_next.ensures.popped c.take_next.ensures.others in
    let done =
    kept_back i.setup.now i.code.now i.nodes i.rows i.taken.list c.self.invariant c.args.from c.args.to c.args.chan
    c.index.result.now c.take_next.result c.deref_mut.result.now c.take_next.new.rows x c.deref_mut.ensures.len
    c.deref_mut.ensures.value c.in-Some.message c.deref_mut-in-Some.result.now c.accept.new.nodes c.in-Some.is
    c.deref_mut-in-Some.ensures.len c.deref_mut-in-Some.ensures.value c.accept.ensures in
    subst (λ (z : StillShown). Refills z
    (all_of i.setup.now i.code.now (with_items i.nodes c.accept.new.nodes).items
    (with_items i.rows c.take_next.new.rows).items i.taken.list) c.args.from c.args.to c.args.chan) c.self.view_is done.1

pub returns-in_default : goal.returns-in_default
returns-in_default c =
    let i = c.self.inside in
    let x =
    followed i.setup.now i.code.now i.nodes.items i.rows.items i.taken.list c.self.invariant c.args.self.now c.args.from
    c.args.to c.args.chan c.from.result c.index.result.now c.take_next.result c.deref_mut.result.now c.take_next.new.rows
    c.self.view_is c.requires.from c.requires.to (c.from.ensures ∙ c.get.ensures.value) c.index.ensures c.if-has_front.ensures
    c.deref_mut.ensures.value c.take_next.ensures.first c.take_next.ensures.popped c.take_next.ensures.others in
    let done =
    stayed_back i.setup.now i.code.now i.nodes i.rows i.taken.list c.self.invariant c.args.from c.args.to c.args.chan
    c.index.result.now c.take_next.result c.deref_mut.result.now c.take_next.new.rows x c.deref_mut.ensures.len
    c.deref_mut.ensures.value c.in_default.is in
    subst (λ (z : StillShown). Refills z
    (all_of i.setup.now i.code.now i.nodes.items (with_items i.rows c.take_next.new.rows).items i.taken.list) c.args.from
    c.args.to c.args.chan) c.self.view_is done.1
