use Rattle.std.proofs.Common.{◌∙◌, ◌+◌, ◌-◌, ◌<◌, ℕ, List, ap, arith, length, subst, sym}
use Rattle.event_masks.proofs.Counting.{count_within, counted_set, few_total, read_is}
use Rattle.event_masks.proofs.words.EventWords.set.Goals as goal

pub overflow_add-self : goal.overflow_add-self
overflow_add-self c = let most = few_total _ _ _ c.self.invariant in omega (arith, most, c.ones_of-count.ensures.small)

pub invariant_of-self : goal.invariant_of-self
invariant_of-self c =
    let at = c.from-at.ensures ∙ c.get.ensures.value in
    let node : c.args.node < length c.self.inside.words.items =
    subst (λ (ws : List ℕ). c.args.node < length ws) (sym c.self.view_is) c.requires in
    let within : c.from-at.result < length c.self.inside.words.items =
    subst (λ k. k < length c.self.inside.words.items) (sym at) node in
    counted_set _ _ _ _ _ _ _ c.self.invariant within c.ones_of-count.ensures.value c.ones_of-count.ensures.small
    (ap (λ k. c.self.inside.total - k + c.ones_of-count.result)
    (read_is c.self.inside.counts.items c.from-at.result c.index.result.now (count_within _ _ _ _ c.self.invariant within)
    c.index.ensures))
