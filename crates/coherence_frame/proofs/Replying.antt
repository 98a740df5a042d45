-- A message is handled by a row of the table.
use Rattle.std.proofs.Common.{true, ◌≡◌, ◌≢◌, ℕ, ◌<◌, ◌≤◌, List, [], ◌∷◌, ◌++◌, Option, Some, None, refl, sym, ap, subst, ◌∙◌}
use Rattle.std.proofs.Common.{inl, inr, ◌⊎◌}
use Rattle.std.proofs.lemmas.Bool.{cases_eq, cases_lt}
use Rattle.tw_base.specs.Lists.{Each}
use Rattle.tw_base.specs.declared.entry.After.{After}
use Rattle.tw_base.specs.declared.message.Message.{Message}
use Rattle.dsm_runs.specs.Events.{Handles as Handling}
use Rattle.dsm_runs.specs.Invariants.{IsBlockAt}
use Rattle.dsm_runs.specs.Locals.{Local}
use Rattle.dsm_runs.specs.Setups.{IsSetup, Setup, home_of}
use Rattle.dsm_runs.specs.Worlds.{World}
use Rattle.block_spots.specs.Cases as cases
use Rattle.block_spots.specs.Cases.{Effect, HomeRo}
use Rattle.block_spots.specs.Notes as marks
use Rattle.block_spots.specs.Notes.{Note, kept_notes, note}
use Rattle.block_spots.specs.Sketches.{Layout, Sketch, spot_at}
use Rattle.block_spots.specs.Views.{seen_here, seen_message}
use Rattle.coherence_frame.specs.Words.{Elsewhere, IsCacheState, IsHomeState}
use Rattle.coherence_frame.specs.Parts.{Fifth, First, InParts, IsTreeOf, Second}
use Rattle.coherence_frame.proofs.Scheme.{Fits, IsComing, Scheme}
use Rattle.coherence_frame.proofs.Rows.{IsAnswered}
use Rattle.coherence_frame.proofs.Seeing.{OnDeclaredChannel, handled_as}
use Rattle.coherence_frame.proofs.Simulating.{Answered}
use Rattle.coherence_frame.proofs.Views.{kept_notes-append, kept_notes_same}

-- ---- who sent a deferred message

split : (b f : ℕ) (m : cases.Message) (earlier later ws : List marks.Waiting) → m.block ≡ b → m.from ≡ f →
    ws ≡ earlier ++ record { message = m; eligible = true } ∷ later →
    kept_notes b f ws ≡ kept_notes b f earlier ++ note m ∷ kept_notes b f later
split b f m earlier later ws p q e = ap (kept_notes b f) e ∙ kept_notes-append b f earlier _
    ∙ ap (λ z. kept_notes b f earlier ++ z) (kept_notes_same b f (record { message = m; eligible = true }) later p q)

not_nil : (xs : List Note) (x : Note) (ys : List Note) → xs ++ x ∷ ys ≡ [] → ⊥
not_nil [] x ys p = cc
not_nil (y ∷ xs) x ys p = cc

-- a deferred message is from one of the nodes
pub deferred_from : (s : Layout) (g : Sketch) (i : ℕ) (m : cases.Message) (earlier later : List marks.Waiting) →
    Elsewhere s g m.block → i < s.nodes → (g.locals i).deferred ≡ earlier ++ record { message = m; eligible = true } ∷ later →
    m.from < s.nodes
deferred_from s g i m earlier later x li e = elim (cases_lt m.from s.nodes)
    [ inl l ↦ l | inr ge ↦ absurd (stranger ge (cases_eq i (s.home m.block))) ]
  where
    there : kept_notes m.block m.from (g.locals i).deferred ≡ [] → ⊥
    there p = not_nil _ _ _ (sym (split m.block m.from m earlier later _ refl refl e) ∙ p)

    stranger : s.nodes ≤ m.from → (i ≡ s.home m.block) ⊎ (i ≢ s.home m.block) → ⊥
    stranger ge (inl q) = there (ap (λ n. kept_notes m.block m.from (g.locals n).deferred) q ∙ x.strangers m.from ge)
    stranger ge (inr d) = there (x.deferred i m.from li d)

-- ---- a row

some_of : (o : Option Effect) → IsAnswered o → (f : Effect) × (o ≡ Some f)
some_of (Some f) h = (f, refl)
some_of None h = absurd h

-- a cache's state is not a home's
no_home : (st : cases.State) → IsCacheState st → IsHomeState st → ⊥
no_home cases.HomeRw c h = c
no_home cases.HomeRo c h = c
no_home cases.HomeExcl c h = c
no_home cases.HomeAcks c h = c
no_home cases.HomePut c h = c
no_home cases.CacheInv c h = h
no_home cases.CacheRo c h = h
no_home cases.CacheRw c h = h
no_home cases.CacheWaitRo c h = h
no_home cases.CacheWaitRw c h = h

module _ (scheme : Scheme) where
  -- what coherence says of a block at a node
  pub fits_at : (s : Setup) (g : World) (i b : ℕ) → i < s.shape.nodes → InParts scheme.wording s g b →
      Fits scheme.wording.standing s.shape.nodes (home_of s b) (seen_here scheme.wording.reads ((g.locals i).blocks b))
  unfolding spot_at
  fits_at s g i b li p = elim (cases_eq i (home_of s b)) [
    | inl q ↦ rw q (record { tag = (p First).home_tag; rest = (p Second).of_home; infos = λ _. (p Fifth).infos })
    | inr d ↦ record {
      tag = ((p First).caches i li d).1;
      rest = (p Second).of_caches i li d;
      infos = λ h. absurd (no_home _ ((p First).caches i li d).0 h);
    }
  ]

  pub answered : (s : Setup) → IsSetup s → IsTreeOf scheme.wording s.protocol →
      (i stamp : ℕ) (m : Message) (l l2 : Local) (sends : List Message) (after : Option After) →
      (r : Handling s i stamp m l l2 sends after)
      → IsBlockAt s i m.block (l.blocks m.block) → scheme.wording.IsPlaced (l.blocks m.block) →
      Fits scheme.wording.standing s.shape.nodes (home_of s m.block) (seen_here scheme.wording.reads (l.blocks m.block))
      → IsComing scheme.wording.tree m (l.blocks m.block) → Each (OnDeclaredChannel s.protocol) r.ended.sends
      → IsAnswered (scheme.table s.shape.nodes (home_of s m.block) i (seen_here scheme.wording.reads (l.blocks m.block))
      (seen_message m))
      → Answered scheme s i m l l2 sends
  answered s setup is i stamp m l l2 sends after r at placed fits come channels row =
      let f = some_of _ row in
      let here = seen_here scheme.wording.reads (l.blocks m.block) in
      let there : scheme.table s.shape.nodes (l.blocks m.block).home (l.blocks m.block).me here (seen_message m) ≡ Some f.0 =
      ap (λ x. scheme.table s.shape.nodes x (l.blocks m.block).me here (seen_message m)) at.home
      ∙ ap (λ x. scheme.table s.shape.nodes (home_of s m.block) x here (seen_message m)) at.me ∙ f.1 in
      let fits_there : Fits scheme.wording.standing s.shape.nodes (l.blocks m.block).home here =
      subst (λ (x : ℕ). Fits scheme.wording.standing s.shape.nodes x here) (sym at.home) fits in
      record {
        effect = f.0;
        row = f.1;
        turn = handled_as scheme s i stamp m l l2 sends after r f.0 there
            (scheme.shows.shown s.protocol s.shape.nodes (l.blocks m.block) m r.ended f.0 is setup.limits.nodes placed
            fits_there come r.does there) at.me come.block channels;
      }
