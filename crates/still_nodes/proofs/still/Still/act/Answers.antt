use Rattle.std.proofs.Common.{◌≡◌, ◌∙◌}
use Rattle.still_meaning.specs.Laws.{node_of}
use Rattle.still_nodes.proofs.Acting.{MayAct, act_acts, act_passes, act_whole, may_act}
use Rattle.still_nodes.proofs.still.Still.act.Goals as goal

pub act_at-requires : goal.act_at-requires
act_at-requires c =
    let at : c.from-at.result ≡ node_of c.args.event.now = c.from-at.ensures ∙ c.get.ensures.value ∙ c.node_of.ensures in
    let m : MayAct c.index_mut.result.now c.args.event.now =
    may_act _ c.args.self.now c.self.invariant c.args.event.now c.from-at.result c.index_mut.result.now c.self.view_is
    c.requires at c.index_mut.ensures.value in
    record { me = m.me; within = m.within; may = m.may }

pub invariant_of-self : goal.invariant_of-self
invariant_of-self c =
    let at : c.from-at.result ≡ node_of c.args.event.now = c.from-at.ensures ∙ c.get.ensures.value ∙ c.node_of.ensures in
    act_whole _ c.args.self.now c.self.invariant c.args.event.now c.from-at.result c.index_mut.result.now c.act_at.new.node
    c.act_at.new.taken.list c.self.view_is c.requires at c.index_mut.ensures.value
    c.act_at.result c.act_at.ensures.acts c.act_at.ensures.room c.act_at.ensures.same

pub returns-clause-acts : goal.returns-clause-acts
returns-clause-acts c =
    let at : c.from-at.result ≡ node_of c.args.event.now = c.from-at.ensures ∙ c.get.ensures.value ∙ c.node_of.ensures in
    act_acts _ c.args.self.now c.self.invariant c.args.event.now c.from-at.result c.index_mut.result.now c.act_at.new.node
    c.act_at.new.taken.list c.self.view_is c.requires at c.index_mut.ensures.value
    c.act_at.result c.act_at.ensures.acts

pub returns-clause-err : goal.returns-clause-err
returns-clause-err c =
    let at : c.from-at.result ≡ node_of c.args.event.now = c.from-at.ensures ∙ c.get.ensures.value ∙ c.node_of.ensures in
    act_passes _ c.args.self.now c.self.invariant c.args.event.now c.from-at.result c.index_mut.result.now c.act_at.new.node
    c.act_at.new.taken.list c.self.view_is c.requires at c.index_mut.ensures.value
    c.act_at.result c.act_at.ensures.room c.act_at.ensures.same
