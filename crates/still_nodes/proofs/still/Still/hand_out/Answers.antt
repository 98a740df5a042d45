use Rattle.std.proofs.Common.{◌≡◌, ◌∙◌, ◌∷◌, ◌++◌, ◌<◌, List, [], length, ap, refl, subst, sym}
use Rattle.std.proofs.lemmas.List.{with_items_is}
use Rattle.tw_base.specs.declared.message.Message.{Message}
use Rattle.node_meaning.specs.Nodes.{Shown}
use Rattle.still_meaning.specs.Stills.{AreWhole, Passes, StillShown}
use Rattle.still_nodes.specs.Handing.{HandsOver, IsFirstOut, MayHandOver, Pops, queue_at, with_queue}
use Rattle.std.specs.Vec.{with_items}
use Rattle.still_nodes.specs.Parts.{Rows, all_of}
use Rattle.still_nodes.proofs.Fronts.{rows_count}
use Rattle.still_nodes.proofs.Handed.{passes_none}
use Rattle.still_nodes.proofs.Written.{IsClear, Moves, busy_if_false, hands_count, may_go, none_out, pops_count, receiver_there}
use Rattle.still_nodes.proofs.Written.{seen, sender_there, went_behind, went_over}
use Rattle.still_nodes.proofs.still.Still.hand_out.Goals as goal
use Rattle.still_nodes.proofs.still.Still.hand_out.Goals.{then-is_clear, else-is_clear+in_ok-put_behind}

pub returns-in_default-clause-out : goal.returns-in_default-clause-out
returns-in_default-clause-out c = (
  refl,
  none_out c.args.self.now c.deref.result.now c.args.node
      (c.deref.ensures.value ∙ ap (λ (x : StillShown). x.nodes) c.self.view_is) c.in_default.ensures.first,
)

pub is_clear-requires-clause-to : goal.is_clear-requires-clause-to
is_clear-requires-clause-to c =
    let i = c.self.inside in
    let m : Message = c.in-Some.message.now in
    let lk = subst (λ (x : StillShown). c.args.node < x.setup.shape.nodes) (sym c.self.view_is) c.requires in
    let o = subst (λ (ns : List Shown). IsFirstOut ns c.args.node m) c.deref.ensures.value c.in-Some.ensures.fit in
    subst (λ (ns : List Shown). m.to < length ns) (sym c.deref-2.ensures.value)
    (receiver_there i.setup.now i.code.now i.nodes.items i.rows.items i.taken.list c.self.invariant c.args.node lk m o)

pub hand_over-requires : goal.hand_over-requires
hand_over-requires c =
    let i = c.self.inside in
    let m : Message = c.in-Some.message.now in
    let a : StillShown = all_of i.setup.now i.code.now i.nodes.items i.rows.items i.taken.list in
    let x =
    seen i.setup.now i.code.now i.nodes.items i.rows.items i.taken.list c.args.self.now c.args.node m c.is_clear.result
    c.deref.result.now c.deref-2.result.now c.deref-3.result.now
    c.self.view_is c.requires c.deref.ensures.value c.in-Some.ensures.fit c.deref-2.ensures.value c.deref-3.ensures.value
    c.is_clear.ensures in
    subst (λ (ns : List Shown). MayHandOver ns c.args.node) (sym c.deref_mut.ensures.value)
    (may_go i.setup.now i.code.now i.nodes.items i.rows.items i.taken.list c.self.invariant c.args.node x.node m x.first
    (x.clear.0 c.if-is_clear.true))

pub invariant_of-self : goal.invariant_of-self
invariant_of-self c =
    let i = c.self.inside in
    let m : Message = c.in-Some.message.now in
    let a : StillShown = all_of i.setup.now i.code.now i.nodes.items i.rows.items i.taken.list in
    let x =
    seen i.setup.now i.code.now i.nodes.items i.rows.items i.taken.list c.args.self.now c.args.node m c.is_clear.result
    c.deref.result.now c.deref-2.result.now c.deref-3.result.now
    c.self.view_is c.requires c.deref.ensures.value c.in-Some.ensures.fit c.deref-2.ensures.value c.deref-3.ensures.value
    c.is_clear.ensures in
    let done =
    went_over i.setup.now i.code.now i.nodes.items i.rows.items i.taken.list c.self.invariant c.args.node x.node m x.first
    c.hand_over.new.nodes (x.clear.0 c.if-is_clear.true)
    (subst (λ (ns : List Shown). HandsOver ns c.hand_over.new.nodes c.args.node) c.deref_mut.ensures.value c.hand_over.ensures) in
    let back =
    with_items_is i.nodes c.hand_over.new.nodes
    (hands_count c.deref_mut.result.now c.hand_over.new.nodes c.args.node c.hand_over.ensures ∙ c.deref_mut.ensures.len) in
    subst (λ (ns : List Shown). AreWhole (all_of i.setup.now i.code.now ns i.rows.items i.taken.list)) (sym back) done.whole

pub put_behind-requires : goal.put_behind-requires
put_behind-requires c =
    let i = c.self.inside in
    let m : Message = c.in-Some.message.now in
    let a : StillShown = all_of i.setup.now i.code.now i.nodes.items i.rows.items i.taken.list in
    let x =
    seen i.setup.now i.code.now i.nodes.items i.rows.items i.taken.list c.args.self.now c.args.node m c.is_clear.result
    c.deref.result.now c.deref-2.result.now c.deref-3.result.now
    c.self.view_is c.requires c.deref.ensures.value c.in-Some.ensures.fit c.deref-2.ensures.value c.deref-3.ensures.value
    c.is_clear.ensures in
    subst (λ (rs : Rows). m.from < length rs) (sym c.deref_mut-else-is_clear.ensures.value)
    (sender_there i.setup.now i.code.now i.nodes.items i.rows.items i.taken.list c.self.invariant c.args.node x.node m x.first)

pub invariant_of-self-in_err-put_behind : goal.invariant_of-self-in_err-put_behind
invariant_of-self-in_err-put_behind c =
    let i = c.self.inside in
    let back =
    with_items_is i.rows c.put_behind.new.rows
    (ap (λ (rs : Rows). length rs) c.in_err-put_behind.ensures.err ∙ c.deref_mut-else-is_clear.ensures.len)
    ∙ c.in_err-put_behind.ensures.err ∙ c.deref_mut-else-is_clear.ensures.value in
    subst (λ (rs : Rows). AreWhole (all_of i.setup.now i.code.now i.nodes.items rs i.taken.list)) (sym back) c.self.invariant

pub returns-in_err-put_behind-clause-passes : goal.returns-in_err-put_behind-clause-passes
returns-in_err-put_behind-clause-passes c =
    let i = c.self.inside in
    let a : StillShown = all_of i.setup.now i.code.now i.nodes.items i.rows.items i.taken.list in
    let back =
    with_items_is i.rows c.put_behind.new.rows
    (ap (λ (rs : Rows). length rs) c.in_err-put_behind.ensures.err ∙ c.deref_mut-else-is_clear.ensures.len)
    ∙ c.in_err-put_behind.ensures.err ∙ c.deref_mut-else-is_clear.ensures.value in
    subst (λ (rs : Rows). Passes c.args.self.now (all_of i.setup.now i.code.now i.nodes.items rs i.taken.list)) (sym back)
    (subst (λ (x : StillShown). Passes x a) c.self.view_is (passes_none a))

pub invariant_of-self-else-is_clear : goal.invariant_of-self-else-is_clear
invariant_of-self-else-is_clear c =
    let i = c.self.inside in
    let m : Message = c.in-Some.message.now in
    let a : StillShown = all_of i.setup.now i.code.now i.nodes.items i.rows.items i.taken.list in
    let x =
    seen i.setup.now i.code.now i.nodes.items i.rows.items i.taken.list c.args.self.now c.args.node m c.is_clear.result
    c.deref.result.now c.deref-2.result.now c.deref-3.result.now
    c.self.view_is c.requires c.deref.ensures.value c.in-Some.ensures.fit c.deref-2.ensures.value c.deref-3.ensures.value
    c.is_clear.ensures in
    let done =
    went_behind i.setup.now i.code.now i.nodes.items i.rows.items i.taken.list c.self.invariant c.args.node x.node m
    x.first c.take_first.new.nodes c.put_behind.new.rows c.take_first.result
    (busy_if_false c.is_clear.result (IsClear i.nodes.items i.rows.items c.args.node m.to m.chan) c.if-is_clear.false x.clear)
    (subst (λ (rs : Rows). c.put_behind.new.rows ≡ with_queue rs m.from m.to m.chan (queue_at rs m.from m.to m.chan ++ m ∷ []))
    c.deref_mut-else-is_clear.ensures.value c.in_ok-put_behind.ensures.ok)
    (subst (λ (ns : List Shown). Pops ns c.take_first.new.nodes c.args.node c.take_first.result)
    c.deref_mut-else-is_clear-2.ensures.value c.take_first.ensures) in
    let nodes =
    with_items_is i.nodes c.take_first.new.nodes
    (pops_count c.deref_mut-else-is_clear-2.result.now c.take_first.new.nodes c.args.node c.take_first.result
    c.take_first.ensures ∙ c.deref_mut-else-is_clear-2.ensures.len) in
    let rows =
    with_items_is i.rows c.put_behind.new.rows
    (ap (λ (rs : Rows). length rs) c.in_ok-put_behind.ensures.ok
    ∙ rows_count c.deref_mut-else-is_clear.result.now m.from m.to m.chan
    (queue_at c.deref_mut-else-is_clear.result.now m.from m.to m.chan ++ m ∷ []) ∙ c.deref_mut-else-is_clear.ensures.len) in
    subst (λ (ns : List Shown). AreWhole
    (all_of i.setup.now i.code.now ns (with_items i.rows c.put_behind.new.rows).items i.taken.list)) (sym nodes)
    (subst (λ (rs : Rows). AreWhole (all_of i.setup.now i.code.now c.take_first.new.nodes rs i.taken.list)) (sym rows) done.whole)

-- whichever way it went
moves : (c : goal.Joined-is_clear) → Moves c.args.self.now c.if-is_clear.self c.args.node c.in-Some.message.now.to
moves c =
    let i = c.self.inside in
    let m : Message = c.in-Some.message.now in
    let a : StillShown = all_of i.setup.now i.code.now i.nodes.items i.rows.items i.taken.list in
    let x =
    seen i.setup.now i.code.now i.nodes.items i.rows.items i.taken.list c.args.self.now c.args.node m c.is_clear.result
    c.deref.result.now c.deref-2.result.now c.deref-3.result.now
    c.self.view_is c.requires c.deref.ensures.value c.in-Some.ensures.fit c.deref-2.ensures.value c.deref-3.ensures.value
    c.is_clear.ensures in
    elim c.if-is_clear.branch [
      | then-is_clear w ↦ (let done = went_over i.setup.now i.code.now i.nodes.items i.rows.items i.taken.list c.self.invariant
          c.args.node x.node m x.first w.hand_over.new.nodes (x.clear.0 w.if-is_clear.true)
          (subst (λ (ns : List Shown). HandsOver ns w.hand_over.new.nodes c.args.node) w.deref_mut.ensures.value
          w.hand_over.ensures) in
          let nodes =
          with_items_is i.nodes w.hand_over.new.nodes
          (hands_count w.deref_mut.result.now w.hand_over.new.nodes c.args.node w.hand_over.ensures
          ∙ w.deref_mut.ensures.len) in
          subst (λ (b : StillShown). Moves c.args.self.now b c.args.node m.to) (sym w.self-is)
          (subst
          (λ (z : StillShown). Moves z
          (all_of i.setup.now i.code.now (with_items i.nodes w.hand_over.new.nodes).items i.rows.items i.taken.list)
          c.args.node m.to) c.self.view_is
          (subst (λ (ns : List Shown). Moves a (all_of i.setup.now i.code.now ns i.rows.items i.taken.list) c.args.node m.to)
          (sym nodes) done)))
      | else-is_clear+in_ok-put_behind w ↦ (let done = went_behind i.setup.now i.code.now i.nodes.items i.rows.items
          i.taken.list c.self.invariant c.args.node x.node m x.first w.take_first.new.nodes w.put_behind.new.rows
          w.take_first.result
          (busy_if_false c.is_clear.result (IsClear i.nodes.items i.rows.items c.args.node m.to m.chan) w.if-is_clear.false
          x.clear)
          (subst (λ (rs : Rows). w.put_behind.new.rows ≡ with_queue rs m.from m.to m.chan
          (queue_at rs m.from m.to m.chan ++ m ∷ [])) w.deref_mut-else-is_clear.ensures.value w.in_ok-put_behind.ensures.ok)
          (subst (λ (ns : List Shown). Pops ns w.take_first.new.nodes c.args.node w.take_first.result)
          w.deref_mut-else-is_clear-2.ensures.value w.take_first.ensures) in
          let nodes =
          with_items_is i.nodes w.take_first.new.nodes
          (pops_count w.deref_mut-else-is_clear-2.result.now w.take_first.new.nodes c.args.node w.take_first.result
          w.take_first.ensures ∙ w.deref_mut-else-is_clear-2.ensures.len) in
          let rows =
          with_items_is i.rows w.put_behind.new.rows
          (ap (λ (rs : Rows). length rs) w.in_ok-put_behind.ensures.ok
          ∙ rows_count w.deref_mut-else-is_clear.result.now m.from m.to m.chan
          (queue_at w.deref_mut-else-is_clear.result.now m.from m.to m.chan ++ m ∷ [])
          ∙ w.deref_mut-else-is_clear.ensures.len) in
          subst (λ (b : StillShown). Moves c.args.self.now b c.args.node m.to) (sym w.self-is)
          (subst
          (λ (z : StillShown). Moves z
          (all_of i.setup.now i.code.now (with_items i.nodes w.take_first.new.nodes).items
          (with_items i.rows w.put_behind.new.rows).items i.taken.list) c.args.node m.to) c.self.view_is
          (subst
          (λ (ns : List Shown). Moves a
          (all_of i.setup.now i.code.now ns (with_items i.rows w.put_behind.new.rows).items i.taken.list) c.args.node m.to)
          (sym nodes)
          (subst (λ (rs : Rows). Moves a (all_of i.setup.now i.code.now w.take_first.new.nodes rs i.taken.list) c.args.node
          m.to) (sym rows) done))))
    ]

pub returns-clause-passes : goal.returns-clause-passes
returns-clause-passes c = (moves c).passes

pub returns-clause-others : goal.returns-clause-others
returns-clause-others c = (moves c).others

pub returns-clause-out : goal.returns-clause-out
returns-clause-out c = (moves c).out
