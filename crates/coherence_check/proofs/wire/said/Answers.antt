use Rattle.std.proofs.Common.{◌≡◌, List, Some, None, slice_get, rules, arith, sym, subst}
use Rattle.std.specs.Option.{IsSome, option_copied}
use Rattle.block_spots.specs.Notes.{Note}
use Rattle.note_reads.specs.Notes.{IsSummary}
use Rattle.dsm_model.specs.Globals.{world_of}
use Rattle.coherence_check.proofs.Saying.{said_none, some_within}
use Rattle.coherence_check.proofs.wire.said.Goals as goal

pub loop-k-init : goal.loop-k-init
loop-k-init c = subst (λ (ns : List Note). IsSummary c.words-count.result c.args.at_home c.new-summary.result ns)
    (sym (said_none c.args.block)) (c.new-summary.ensures c.words-count.result c.args.at_home)

pub unwrap-m-requires : goal.unwrap-m-requires
unwrap-m-requires c =
    elim c.message.result as (λ o. option_copied o ≡ slice_get
    ((world_of c.args.g.now).wires c.args.from c.args.to c.args.chan) c.loop-k.k → IsSome o) [
      | Some x ↦ λ e. search rules
      | None ↦ λ e. absurd (some_within _ c.loop-k.k (omega arith) (sym e))
    ] c.message.ensures
