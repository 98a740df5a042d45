-- A flat machine that a run's journal follows has the nodes' processors, and their modes.
use Rattle.std.proofs.Common.{◌≡◌, ◌∙◌, ℕ, Bool, true, false, List, [], ◌∷◌, Some, refl, sym, ap, subst, inl, inr}
use Rattle.tw_base.specs.declared.entry.Act.{Act}
use Rattle.tw_base.specs.declared.entry.Entry.{Entry}
use Rattle.mini_asm.specs.Run.{Machine}
use Rattle.dsm_runs.specs.Flat.{Follows, FollowsOne, IsBeside, core_of, flat_step, is_completed, reading}
use Rattle.dsm_runs.specs.Setups.{IsSetup, Setup}
use Rattle.dsm_runs.specs.Worlds.{Runs, Step, World}
use Rattle.dsm_runs.proofs.FlatBeside.{beside-at, beside-goes, beside-stays}
use Rattle.dsm_runs.proofs.Repeating.{ReadsOther, acts-go, acts-stay, with_core}

same-step : (x y : Act × Machine) → Some x ≡ Some y → x ≡ y
same-step x y e = cc

same-read : (x y : ℕ × ℕ) → Some x ≡ Some y → x ≡ y
same-read x y e = cc

-- it reads what it is said to read
no-other : (m next : Machine) (i : ℕ) (did : Act) → flat_step m i ≡ Some (did, next) → ReadsOther m i did → ⊥
no-other m next i did is other =
    let act : other.due_act ≡ did = ap (λ (x : Act × Machine). x.0) (same-step (other.due_act, other.after) (did, next)
    (sym other.steps ∙ is)) in
    let both : Some (other.address, other.due) ≡ Some (other.address, other.read) = sym other.is_due ∙ ap reading act
    ∙ other.reads in
    other.differs (sym (ap (λ (x : ℕ × ℕ). x.1) (same-read (other.address, other.due) (other.address, other.read) both)))

-- a step that it follows
step-beside : (s : Setup) (g h : World) (e : Entry) (m next : Machine) → IsSetup s → IsBeside s g m → Step s g e h
    → FollowsOne (is_completed e.act) m e next → IsBeside s h next
step-beside s g h e m next is beside r follows = go (is_completed e.act) refl
  where
    completed : is_completed e.act ≡ true → flat_step m e.node ≡ Some (e.act, next) → IsBeside s h next
    completed is_done steps =
        elim (acts-go s m e.node (g.locals e.node) r.front (h.locals e.node) e r.sends e.act is_done
        (beside-at s g m e.node is beside r.local.at_node) r.local.acts) [
          | inl goes ↦
              let after : Machine = with_core m e.node (core_of (h.locals e.node)) goes.words in
              let same : after ≡ next = ap (λ (x : Act × Machine). x.1)
              (same-step (e.act, after) (e.act, next) (sym goes.steps ∙ steps)) in
              subst (IsBeside s h) same (beside-goes s g h m e.node goes.words r.local.at_node r.others goes.size beside)
          | inr other ↦ absurd (no-other m next e.node e.act steps other)
        ]

    go : (b : Bool) → is_completed e.act ≡ b → IsBeside s h next
    go true is_done = completed is_done (subst (λ b. FollowsOne b m e next) is_done follows)
    go false silent =
        let same : next ≡ m = subst (λ b. FollowsOne b m e next) silent follows in
        subst (IsBeside s h) (sym same) (beside-stays s g h m e.node r.others (acts-stay s e.node (g.locals e.node) r.front
        (h.locals e.node) e r.sends e.act silent r.local.acts) beside)

pub run-beside : (s : Setup) (es : List Entry) (g h : World) (m end : Machine) → IsSetup s → IsBeside s g m → Runs s g es h
    → Follows m es end → IsBeside s h end
run-beside s [] g h m end is beside r follows = subst (IsBeside s h) (sym follows) (subst (λ x. IsBeside s x m) r beside)
run-beside s (e ∷ es) g h m end is beside r follows = run-beside s es r.0 h follows.0 end is
    (step-beside s g r.0 e m follows.0 is beside r.1 follows.1) r.2 follows.2
