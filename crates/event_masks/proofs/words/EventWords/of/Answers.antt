use Rattle.std.proofs.Common.{◌∙◌, ◌<◌, ◌^◌, ℕ, List, ap, count_ones, subst, sym}
use Rattle.std.specs.Prelude.{map, sum}
use Rattle.event_masks.proofs.Counting.{few_sum}
use Rattle.event_masks.proofs.words.EventWords.of.Goals as goal

pub sum_of-total-requires : goal.sum_of-total-requires
sum_of-total-requires c =
    subst (λ (cs : List ℕ). sum cs < 2 ^ 32) (sym c.deref-2.ensures.value)
    (few_sum c.args.words.items _ c.requires
    (c.in_ok-counts.ensures.counts ∙ ap (λ (ws : List ℕ). map count_ones ws) c.deref.ensures.value) c.in_ok-counts.ensures.within)

pub invariant_of-result : goal.invariant_of-result
invariant_of-result c = record {
  few = c.requires;
  counts = c.in_ok-counts.ensures.counts ∙ ap (λ (ws : List ℕ). map count_ones ws) c.deref.ensures.value;
  within = c.in_ok-counts.ensures.within;
  total = c.sum_of-total.ensures ∙ ap (λ (cs : List ℕ). sum cs) c.deref-2.ensures.value;
}
