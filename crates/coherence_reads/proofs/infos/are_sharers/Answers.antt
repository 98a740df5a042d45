use Rattle.std.proofs.Common.{◌≡◌, ◌≤◌, ℕ, sym, subst}
use Rattle.tw_base.specs.NodeSets.{count, has}
use Rattle.block_spots.specs.Cases.{members}
use Rattle.coherence_reads.proofs.Members.{members_are_all}
use Rattle.coherence_reads.proofs.infos.are_sharers.Goals as goal

pub returns : goal.returns
returns c =
    let all = c.are_caches.ensures.0 (cc) in
    let e : members c.args.nodes (has c.args.set) ≡ count c.args.set =
    members_are_all c.args.set c.args.nodes c.requires (λ k m. (all k m).0) in (
      λ r. (all, subst (λ (n : ℕ). 1 ≤ n) (sym e) (c.has_members.ensures.0 r)),
      λ p. c.has_members.ensures.1 (subst (λ (n : ℕ). 1 ≤ n) e p.1),
    )
