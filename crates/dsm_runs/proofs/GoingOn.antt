-- Logs and runs go on.
use Rattle.std.proofs.Common.{ℕ, List, [], ◌∷◌, ◌++◌, refl, sym, subst}
use Rattle.tw_base.specs.declared.entry.Entry.{Entry}
use Rattle.dsm_runs.specs.Setups.{Setup}
use Rattle.dsm_runs.specs.Worlds.{World, Runs}
use Rattle.dsm_runs.specs.Replays.{Course, ReplaysOne, ReplaysOn}

pub log_goes_on : (s : Setup) (i : ℕ) (es : List Entry) (a b d : Course) (e : Entry) → ReplaysOn s i a es b →
    ReplaysOne s i b e d → ReplaysOn s i a (es ++ e ∷ []) d
log_goes_on s i [] a b d e r q = (d, subst (λ (x : Course). ReplaysOne s i x e d) (sym r) q, refl)
log_goes_on s i (x ∷ xs) a b d e r q = (r.0, r.1, log_goes_on s i xs r.0 b d e r.2 q)

pub run_goes_on : (s : Setup) (es more : List Entry) (g h k : World) → Runs s g es h → Runs s h more k → Runs s g (es ++ more) k
run_goes_on s [] more g h k r q = subst (λ (x : World). Runs s x more k) (sym r) q
run_goes_on s (e ∷ es) more g h k r q = (r.0, r.1, run_goes_on s es more r.0 h k r.2 q)
