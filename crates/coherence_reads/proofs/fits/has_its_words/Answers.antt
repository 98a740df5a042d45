use Rattle.std.proofs.Common.{◌≡◌, ap, sym, ◌∙◌}
use Rattle.block_spots.specs.Cases.{CacheRo}
use Rattle.block_reads.specs.Whose.{state_in}
use Rattle.coherence_reads.proofs.fits.has_its_words.Goals as goal

pub returns-in-CacheRo : goal.returns-in-CacheRo
returns-in-CacheRo c = λ w ws s h.
    let shared = c.is_shared.ensures.0 (cc) in
    let state : s.state ≡ CacheRo = h.state ∙ ap state_in c.in-CacheRo.is in
    (λ r i e. h.words ∙ c.are_same.ensures.0 r, λ f. c.are_same.ensures.1 (sym h.words ∙ f shared state))
