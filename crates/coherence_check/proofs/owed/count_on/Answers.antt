use Rattle.std.proofs.Common.{◌≡◌, List, Some, None, slice_get, rules, arith, ap, sym, ◌∙◌}
use Rattle.std.specs.Option.{IsSome, option_copied}
use Rattle.tw_base.specs.Lists.{how_many}
use Rattle.tw_base.specs.declared.message.Chan.TheVariants.{One}
use Rattle.tw_base.specs.declared.message.Message.{Message}
use Rattle.dsm_model.specs.Globals.{world_of}
use Rattle.coherence_check.specs.Owing.{owing}
use Rattle.coherence_check.proofs.Owing.{owed_more}
use Rattle.coherence_check.proofs.Saying.{said_none, some_within}
use Rattle.coherence_check.proofs.owed.count_on.Goals as goal

pub loop-k-init : goal.loop-k-init
loop-k-init c = (ap (how_many (owing c.args.inv)) (sym (said_none c.args.block)), omega arith)

pub unwrap-m-requires : goal.unwrap-m-requires
unwrap-m-requires c =
    elim c.message.result as (λ o. option_copied o ≡ slice_get
    ((world_of c.args.g.now).wires c.args.from c.args.to One) c.loop-k.k → IsSome o) [
      | Some x ↦ λ e. search rules
      | None ↦ λ e. absurd (some_within _ c.loop-k.k (omega arith) (sym e))
    ] c.message.ensures

pub loop-k-preserved : goal.loop-k-preserved
loop-k-preserved c =
    let ms : List Message = (world_of c.args.g.now).wires c.args.from c.args.to One in
    let at : slice_get ms c.loop-k.k ≡ Some c.unwrap-m.result.now = sym c.message.ensures ∙ ap option_copied c.unwrap-m.ensures in
    let more = owed_more (owing c.args.inv) c.args.block c.loop-k.k ms c.unwrap-m.result.now at in (
      omega (arith, more, c.loop-k.invariant.0, c.message_owed-count.ensures.value),
      omega (arith, c.loop-k.invariant.1, c.message_owed-count.ensures.most),
    )
