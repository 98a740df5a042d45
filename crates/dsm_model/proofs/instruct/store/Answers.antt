use Rattle.std.proofs.Common.{◌≡◌, rules, true, [], ◌∙◌, ap, subst}
use Rattle.block_tags.specs.Copies.{permits}
use Rattle.teapot_meaning.specs.declared.state.Here.{Here}
use Rattle.tw_base.specs.declared.entry.Act.TheVariants as act
use Rattle.dsm_model.specs.declared.handle.Made.{Made}
use Rattle.dsm_model.specs.declared.local.Local.{Local as Node}
use Rattle.dsm_runs.specs.declared.mode.Mode.TheVariants as mode
use Rattle.dsm_model.specs.Makes.{done_entry, done_node}
use Rattle.dsm_runs.specs.Setups.{finished}
use Rattle.dsm_model.proofs.Completing.{one_here, store_made}
use Rattle.dsm_model.proofs.Handlings.{made_same}
use Rattle.dsm_model.proofs.instruct.store.Goals as goal

pub returns-clause-made : goal.returns-clause-made
returns-clause-made c =
    let s = c.args.setup.now in
    let me = c.args.me in
    let l : Node = c.args.l.now in
    let w = c.write.ensures in
    let allowed : permits c.block_at.result.now.tag true ≡ true = search rules in
    let same : c.block_at.result.now ≡ w.0 = one_here _ _ _ c.block_at.ensures w.1 in
    let made : Node → Made = λ x. record { entry = done_entry me x (act.Store c.args.address c.args.value); sends = [] } in
    made_same s me _ l _ _ c.complete.new.l _ c.complete.result
    (c.complete.ensures.node ∙ ap (λ (x : Node). done_node x mode.Running (finished s me x.cpu 0)) w.2)
    (c.complete.ensures.made ∙ ap made w.2)
    (store_made s me l c.args.address c.args.value c.place-block.result.0 c.place-block.result.1 w.0 c.requires.me
    c.requires.may c.requires.sound c.requires.asks
    c.place-block.ensures.block c.place-block.ensures.offset c.place-block.ensures.within w.1
    (subst (λ (x : Here). permits x.tag true ≡ true) same allowed))
