-- A journal that the flat machine follows has no break.
use Rattle.std.proofs.Common.{◌≡◌, ℕ, ◌+◌, Bool, true, false, List, [], ◌∷◌, None, refl, subst, ◌∙◌}
use Rattle.tw_base.specs.declared.entry.Entry.{Entry}
use Rattle.mini_asm.specs.Run.{Machine}
use Rattle.dsm_runs.specs.Flat.{Follows, FollowsOne, flat_start, is_completed, reading}
use Rattle.journal.specs.History.{break_from}
use Rattle.journal.specs.Unbroken.{FollowedJournalsHaveNoBreak}
use Rattle.journal.proofs.Breaking.{break_at-same, break_from-empty, break_from-same, break_from-silent}

-- from any machine, at any number
pub follows_unbroken : (es : List Entry) (m end : Machine) (k : ℕ) → Follows m es end → break_from m k es ≡ None
follows_unbroken [] m end k f = break_from-empty m k
follows_unbroken (e ∷ es) m end k f = go (is_completed e.act) refl f.1 (follows_unbroken es f.0 end (k + 1) f.2)
    (λ more. follows_unbroken es m end (k + 1) more)
  where
    go : (b : Bool) → is_completed e.act ≡ b → FollowsOne (is_completed e.act) m e f.0 → break_from f.0 (k + 1) es ≡ None →
        (Follows m es end → break_from m (k + 1) es ≡ None) → break_from m k (e ∷ es) ≡ None
    go true completed one after stay =
        break_from-same m f.0 k e es e.act completed (subst (λ (b : Bool). FollowsOne b m e f.0) completed one)
        (break_at-same k e.node (reading e.act))
        ∙ after
    go false silent one after stay =
        break_from-silent m k e es silent
        ∙ stay (subst (λ (x : Machine). Follows x es end) (subst (λ (b : Bool). FollowsOne b m e f.0) silent one) f.2)

pub followed_journals_have_no_break : FollowedJournalsHaveNoBreak
followed_journals_have_no_break s j m f = follows_unbroken j (flat_start s) m 0 f
