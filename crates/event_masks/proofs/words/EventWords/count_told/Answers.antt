use Rattle.std.proofs.Common.{◌∙◌, ℕ, ◌+◌, ◌*◌, ◌^◌, ◌<◌, List, length, ap, subst, sym}
use Rattle.std.specs.Prelude.{sum}
use Rattle.std.specs.List.{All}
use Rattle.event_masks.specs.Told.{told_events}
use Rattle.event_masks.proofs.Counting.{told_sum}
use Rattle.event_masks.proofs.words.EventWords.count_told.Goals as goal

pub returns : goal.returns
returns c =
    c.self.invariant.total ∙ ap (λ (ns : List ℕ). sum ns) c.self.invariant.counts
    ∙ sym (told_sum c.self.inside.words.items
    (subst (λ (ws : List ℕ). All (λ w. w < 2 ^ (2 + 2 * length ws)) ws) (sym c.self.view_is) c.requires))
    ∙ ap (λ (ws : List ℕ). length (told_events ws)) c.self.view_is
