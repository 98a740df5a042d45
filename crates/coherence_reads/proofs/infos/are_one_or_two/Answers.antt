use Rattle.std.proofs.Common.{◌≡◌, ◌≤◌, ℕ, sym, subst}
use Rattle.tw_base.specs.NodeSets.{count, has}
use Rattle.block_spots.specs.Cases.{members}
use Rattle.coherence_reads.proofs.Members.{members_are_all}
use Rattle.coherence_reads.proofs.infos.are_one_or_two.Goals as goal

pub returns : goal.returns
returns c =
    let all = c.are_caches.ensures.0 (cc) in
    let e : members c.args.nodes (has c.args.set) ≡ count c.args.set =
    members_are_all c.args.set c.args.nodes c.requires (λ k m. (all k m).0) in (
      λ r.
          let p = c.has_one_or_two.ensures.0 r in
          (all, subst (λ (n : ℕ). 1 ≤ n) (sym e) p.0, subst (λ (n : ℕ). n ≤ 2) (sym e) p.1),
      λ p. c.has_one_or_two.ensures.1 (subst (λ (n : ℕ). 1 ≤ n) e p.1, subst (λ (n : ℕ). n ≤ 2) e p.2),
    )
