-- Deferred messages, one by one.
use Rattle.std.proofs.Common.{◌≡◌, ◌≤◌, ◌+◌, ℕ, Bool, true, false, List, [], ◌∷◌, ◌++◌, map, take, Some, slice_get, refl, ap}
use Rattle.std.proofs.Common.{sym, ◌∙◌, arith, rules}
use Rattle.std.proofs.lemmas.List.{append-nil, map-append, take_more}
use Rattle.std.proofs.lemmas.Option.{get_or_from_slice_get, slice_get_within}
use Rattle.std.proofs.lemmas.List.Elements.{filter-append}
use Rattle.std.proofs.lemmas.Grind.{common_steps}
use Rattle.std.specs.Bool.{Decides}
use Rattle.std.specs.List.{list_all}
use Rattle.block_spots.specs.Notes.{kept_notes, note, of_block_from}
use Rattle.block_spots.specs.Views.{seen_message, seen_waiting}
use Rattle.coherence_inv.specs.Coherent.{AllEligible}
use Rattle.dsm_runs.specs.declared.mode.Waiting.{Waiting}
use Rattle.note_reads.specs.Deferring.{is_eligible_for, is_none_from, kept_to}

here : (ws : List Waiting) (k : ℕ) (w : Waiting) → slice_get ws k ≡ Some w → take (k + 1) ws ≡ take k ws ++ w ∷ []
here ws k w g = take_more ws k w (slice_get_within ws k w g) ∙ ap (λ z. take k ws ++ z ∷ []) (get_or_from_slice_get ws k w w g)

pub kept_more : (b i k : ℕ) (ws : List Waiting) (w : Waiting) → slice_get ws k ≡ Some w →
    of_block_from b i (seen_waiting w) ≡ true → kept_to b i (k + 1) ws ≡ kept_to b i k ws ++ note (seen_message w.message) ∷ []
unfolding kept_notes
kept_more b i k ws w g e = rw (here ws k w g) (simp (map-append, filter-append, e))

pub kept_same : (b i k : ℕ) (ws : List Waiting) (w : Waiting) → slice_get ws k ≡ Some w →
    of_block_from b i (seen_waiting w) ≡ false → kept_to b i (k + 1) ws ≡ kept_to b i k ws
unfolding kept_notes
kept_same b i k ws w g e = rw (here ws k w g) (simp (map-append, filter-append, e, append-nil))

pub kept_none : (b i : ℕ) → kept_notes b i [] ≡ []
unfolding kept_notes
kept_none b i = refl

pub ruleset keeping = (kept_more, kept_same)

skipped : (b j : ℕ) (w : Waiting) (ws : List Waiting) → of_block_from b j (seen_waiting w) ≡ false →
    kept_notes b j (map seen_waiting (w ∷ ws)) ≡ kept_notes b j (map seen_waiting ws)
unfolding kept_notes
skipped b j w ws e = simp e

taken : (b j : ℕ) (w : Waiting) (ws : List Waiting) → of_block_from b j (seen_waiting w) ≡ true →
    kept_notes b j (map seen_waiting (w ∷ ws)) ≡ note (seen_message w.message) ∷ kept_notes b j (map seen_waiting ws)
unfolding kept_notes
taken b j w ws e = simp e

not_from : (b n j : ℕ) (w : Waiting) → is_none_from b n w ≡ true → n ≤ j → of_block_from b j (seen_waiting w) ≡ false
not_from b n j w e l = grind (arith, common_steps)

is_from : (b n : ℕ) (w : Waiting) → is_none_from b n w ≡ false →
    (n ≤ w.message.from) × (of_block_from b w.message.from (seen_waiting w) ≡ true)
is_from b n w e = (grind (arith, common_steps), grind (arith, common_steps))

none_before : (b n : ℕ) (w : Waiting) (ws : List Waiting) (o : Bool) → is_none_from b n w ≡ o →
    ((j : ℕ) → n ≤ j → kept_notes b j (map seen_waiting (w ∷ ws)) ≡ []) →
    (o ≡ true) × ((j : ℕ) → n ≤ j → kept_notes b j (map seen_waiting ws) ≡ [])
none_before b n w ws true e h = (refl, λ j l. sym (skipped b j w ws (not_from b n j w e l)) ∙ h j l)
none_before b n w ws false e h =
    let p = is_from b n w e in
    let q = sym (taken b w.message.from w ws p.1) ∙ h w.message.from p.0 in
    absurd cc

pub none_from : (b n : ℕ) (ws : List Waiting) → Decides (list_all (is_none_from b n) ws)
    ((j : ℕ) → n ≤ j → kept_notes b j (map seen_waiting ws) ≡ [])
none_from b n [] = (λ e j l. kept_none b j, λ h. refl)
none_from b n (w ∷ ws) =
    let more = none_from b n ws in (
      λ e j l. let first : is_none_from b n w ≡ true = search (rules, e) in
          let rest : list_all (is_none_from b n) ws ≡ true = search (rules, e) in
          skipped b j w ws (not_from b n j w first l) ∙ more.0 rest j l,
      λ h. let p = none_before b n w ws _ refl h in let rest = more.1 p.1 in let first = p.0 in cc,
    )

eligible_so : (b : ℕ) (w : Waiting) → Decides (is_eligible_for b w)
    ((seen_waiting w).message.block ≡ b → (seen_waiting w).eligible ≡ true)
eligible_so b w = (λ e f. grind (arith, common_steps), λ h. grind (arith, common_steps))

pub eligible : (b : ℕ) (ws : List Waiting) → Decides (list_all (is_eligible_for b) ws) (AllEligible b (map seen_waiting ws))
eligible b [] = (λ e. tt, λ h. refl)
eligible b (w ∷ ws) =
    let more = eligible b ws in
    let one = eligible_so b w in (
      λ e. let first : is_eligible_for b w ≡ true = search (rules, e) in
          let rest : list_all (is_eligible_for b) ws ≡ true = search (rules, e) in
          (one.0 first, more.0 rest),
      λ h. let first = one.1 h.0 in let rest = more.1 h.1 in cc,
    )
