use Rattle.std.proofs.Common.{◌≡◌, sym, ◌∙◌}
use Rattle.tw_base.specs.NodeSets.{count, has}
use Rattle.block_spots.specs.Cases.{members}
use Rattle.coherence_reads.proofs.Members.{members_are_all}
use Rattle.coherence_reads.proofs.infos.is_one_beside.Goals as goal

pub returns : goal.returns
returns c =
    let all = c.are_caches.ensures.0 (cc) in
    let e : members c.args.nodes (has c.args.set) ≡ count c.args.set =
    members_are_all c.args.set c.args.nodes c.requires (λ k m. (all k m).0) in (
      λ r. let p = c.has_one_beside.ensures.0 r in (all, e ∙ p.0, p.1),
      λ p. c.has_one_beside.ensures.1 (sym e ∙ p.1, p.2),
    )
