-- Every event keeps coherence beside one flat memory, and so every run is explained by one.
use Rattle.std.proofs.Common.{◌≡◌, ℕ, ◌<◌, List, [], ◌∷◌, None, refl, sym, ap, subst, ◌∙◌, inl, inr}
use Rattle.std.proofs.lemmas.Bool.{cases_eq}
use Rattle.tw_base.specs.declared.entry.Entry.{Entry}
use Rattle.mini_asm.specs.Run.{Machine}
use Rattle.dsm_runs.specs.Flat.{Follows, FlatGoesOn, flat_start}
use Rattle.dsm_runs.specs.Invariants.{IsRunState}
use Rattle.dsm_runs.specs.Locals.{Local}
use Rattle.dsm_runs.specs.Setups.{IsSetup, Setup}
use Rattle.dsm_runs.specs.Worlds.{Runs, Step, World, start}
use Rattle.dsm_runs.proofs.FlatBeside.{beside_start, due_steps_are_flat}
use Rattle.dsm_runs.proofs.RunStates.{runs_keep, step_keeps}
use Rattle.dsm_runs.proofs.WordsAtStart.{first_word}
use Rattle.block_spots.specs.Views.{layout}
use Rattle.block_tags.specs.Copies.{block_slice}
use Rattle.coherence_frame.proofs.Kept.{flat_after}
use Rattle.coherence_frame.specs.Coherent.{Coherent}
use Rattle.coherence_frame.specs.Laws.{EventsKeep, IsKept, KeepsOn, RunsAreExplained, StartsKept}
use Rattle.coherence_frame.specs.Parts.{First, Second, seen, IsTreeOf}
use Rattle.coherence_frame.proofs.Again.{long_on_way}
use Rattle.coherence_frame.proofs.Bridge.{coherent_flat, coherent_of, parts_of}
use Rattle.coherence_frame.proofs.Start.{start_kept}
use Rattle.coherence_frame.proofs.StepsSeen.{IsSeen, step_seen}
use Rattle.coherence_frame.proofs.Scheme.{Scheme, plan_of}
use Rattle.coherence_frame.proofs.Kept as sketch

module _ (scheme : Scheme) where
  -- ---- an event

  -- what is coherent for one flat memory is so for the words of the next, if the event saw them written
  module _ (s : Setup) (setup : IsSetup s) (g : World) (m : Machine) (kept : IsKept scheme.wording s g m) (e : Entry)
      (h : World) (r : Step s g e h) (after : IsRunState s h) (x : IsSeen scheme s m g e h) (goes : FlatGoesOn s m e h) where
    proof_form : Coherent scheme.wording.standing (layout s) (block_slice s.shape.words m.words) (seen scheme.wording s g)
    proof_form = coherent_of scheme s g (block_slice s.shape.words m.words) setup kept.state kept.coherent kept.tied.words

    tree_is : IsTreeOf scheme.wording s.protocol
    tree_is = (kept.coherent 0 setup.limits.some_block First).stache

    next_form : Coherent scheme.wording.standing (layout s) (block_slice s.shape.words goes.next.words) (seen scheme.wording s h)
    next_form = coherent_flat scheme (layout s) (flat_after x.deed (block_slice s.shape.words m.words))
        (block_slice s.shape.words goes.next.words) (seen scheme.wording s h)
        (λ b lb. x.words b lb ∙ ap (λ ws. block_slice s.shape.words ws b) (sym goes.words))
        (sketch.step_keeps (plan_of scheme) (layout s) (block_slice s.shape.words m.words) (seen scheme.wording s g) x.deed
        (seen scheme.wording s h) x.step proof_form)

    unfailed : (i : ℕ) → i < s.shape.nodes → (h.locals i).failed ≡ None
    unfailed i li = elim (cases_eq i e.node) [
      | inl q ↦ ap (λ k. (h.locals k).failed) q ∙ x.unfailed
      | inr d ↦ ap (λ (l : Local). l.failed) (r.others i d) ∙ (kept.coherent 0 setup.limits.some_block First).unfailed i li
    ]

    placed : (i b : ℕ) → i < s.shape.nodes → b < s.shape.blocks → scheme.wording.IsPlaced ((h.locals i).blocks b)
    placed i b li lb = elim (cases_eq i e.node) [
      | inl q ↦ subst (λ k. scheme.wording.IsPlaced ((h.locals k).blocks b)) (sym q) (x.placed b lb)
      | inr d ↦ subst (λ (l : Local). scheme.wording.IsPlaced (l.blocks b)) (sym (r.others i d))
          ((kept.coherent b lb Second).placed i li)
    ]

    pub kept_after : IsKept scheme.wording s h goes.next
    kept_after = record {
      state = after;
      coherent = parts_of scheme s h (block_slice s.shape.words goes.next.words) next_form tree_is unfailed placed
          (long_on_way scheme s h tree_is after);
      tied = record { words = λ b lb. (next_form.block b lb).tie; beside = goes.beside };
    }

  -- what goes on from a machine
  pub record GoesOn (s : Setup) (m : Machine) (es : List Entry) (h : World) : Type 0 where
    pub flat : Machine
    pub follows : Follows m es flat
    pub kept : IsKept scheme.wording s h flat

  pub events_keep : EventsKeep scheme.wording
  events_keep s g e h m setup kept r =
      let after = step_keeps s g e h setup kept.state r in
      let form : Coherent scheme.wording.standing (layout s) (block_slice s.shape.words m.words) (seen scheme.wording s g) =
      coherent_of scheme s g (block_slice s.shape.words m.words) setup kept.state kept.coherent kept.tied.words in
      let x : IsSeen scheme s m g e h = step_seen scheme s setup g m kept.state kept.coherent form e h r after in
      let goes : FlatGoesOn s m e h = due_steps_are_flat s g e h m setup kept.tied.beside r x.due in
      record { due = x.due; goes = goes; kept = kept_after s setup g m kept e h r after x goes }

  -- ---- the start, and a run

  pub starts_kept : StartsKept scheme.wording
  starts_kept s setup is = start_kept scheme s setup is first_word (runs_keep s [] (start s) setup refl) (beside_start s)

  pub goes_on : (s : Setup) (es : List Entry) (g h : World) (m : Machine) → IsSetup s → IsKept scheme.wording s g m →
      Runs s g es h → GoesOn s m es h
  goes_on s [] g h m setup kept r = record {
    flat = m;
    follows = refl;
    kept = subst (λ (w : World). IsKept scheme.wording s w m) r kept;
  }
  goes_on s (e ∷ es) g h m setup kept r =
      let on : KeepsOn scheme.wording s m e r.0 = events_keep s g e r.0 m setup kept r.1 in
      let rest : GoesOn s on.goes.next es h = goes_on s es r.0 h on.goes.next setup on.kept r.2 in
      record { flat = rest.flat; follows = (on.goes.next, on.goes.follows, rest.follows); kept = rest.kept }

  pub runs_are_explained : RunsAreExplained scheme.wording
  runs_are_explained s j g setup is r =
      let all = goes_on s j (start s) g (flat_start s) setup (starts_kept s setup is) r in
      record { flat = all.flat; follows = all.follows; kept = all.kept }
