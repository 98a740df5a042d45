-- What is told of the history of a run.
use Rattle.std.proofs.Common.{◌≡◌, ℕ, ◌+◌, ◌⊎◌, inl, inr, Bool, true, false, length, List, [], ◌∷◌, ◌++◌, Some, refl, sym, ap}
use Rattle.std.proofs.Common.{◌∙◌, subst, append_assoc, length-append, arith}
use Rattle.std.specs.Option.{option_map}
use Rattle.std.proofs.lemmas.List.{append-nil}
use Rattle.tw_base.specs.declared.entry.Entry.{Entry}
use Rattle.mini_asm.specs.Run.{Machine}
use Rattle.dsm_runs.specs.Flat.{Follows, FollowsOne, IsBeside, core_of, flat_start, is_completed, reading}
use Rattle.dsm_runs.specs.Setups.{IsSetup, Setup}
use Rattle.dsm_runs.specs.Worlds.{Runs, Step, World, start}
use Rattle.journal.specs.declared.history.Break.{Break}
use Rattle.journal.specs.History.{break_at, break_from}
use Rattle.journal.specs.Laws.{History, HistoryIsTold, IsBroken}
use Rattle.journal.proofs.Breaking.{break_at-other, break_at-same, break_from-broken, break_from-empty, break_from-same}
use Rattle.journal.proofs.Breaking.{break_from-silent}
use Rattle.dsm_runs.proofs.FlatBeside.{beside-at, beside-goes, beside_start, beside-stays}
use Rattle.dsm_runs.proofs.Repeating.{ReadsOther, Repeats, acts-go, acts-stay, with_core}

-- ---- one entry more

Follows-append : (m : Machine) (es : List Entry) (mid : Machine) (e : Entry) (next : Machine) → Follows m es mid →
    FollowsOne (is_completed e.act) mid e next → Follows m (es ++ e ∷ []) next
Follows-append m [] mid e next so_far one = (next, subst (λ x. FollowsOne (is_completed e.act) x e next) so_far one, refl)
Follows-append m (x ∷ es) mid e next so_far one = (so_far.0, so_far.1, Follows-append so_far.0 es mid e next so_far.2 one)

-- the entries before were executed: they left the flat machine at m, beside g
record Comes (s : Setup) (before : List Entry) (m : Machine) (g : World) (k : ℕ) : Type 0 where
  count : k ≡ length before
  follows : Follows (flat_start s) before m
  beside : IsBeside s g m

comes-on : (s : Setup) (before : List Entry) (m next : Machine) (g h : World) (k : ℕ) (e : Entry) → Comes s before m g k →
    FollowsOne (is_completed e.act) m e next → IsBeside s h next
    → Comes s (before ++ e ∷ []) next h (k + 1)
comes-on s before m next g h k e comes one beside = record {
  count = omega (arith, length-append before (e ∷ []), comes.count);
  follows = Follows-append (flat_start s) before m e next comes.follows one;
  beside = beside;
}

-- ---- the entries that are left

-- wherever the entries before came to, the first break of these entries is what it is called
abbrev IsTold : Setup → List Entry → World → List Entry → Type 0
IsTold s all end es = (before : List Entry) (m : Machine) (g : World) (k : ℕ) → all ≡ before ++ es → Comes s before m g k →
    Runs s g es end → History s all end (break_from m k es)

told-empty : (s : Setup) (all : List Entry) (end : World) → IsTold s all end []
told-empty s all end before m g k splits comes runs =
    subst (λ b. History s all end b) (sym (break_from-empty m k)) (record {
      flat = m;
      follows = subst (λ es. Follows (flat_start s) es m) (sym (splits ∙ append-nil before)) comes.follows;
      processors = λ i lt. ap (option_map (λ core. core.cpu)) (comes.beside.cores i lt)
          ∙ ap (λ (w : World). Some (w.locals i).cpu) runs;
    })

shifted : (all before : List Entry) (e : Entry) (es : List Entry) → all ≡ before ++ e ∷ es → all ≡ (before ++ e ∷ []) ++ es
shifted all before e es splits = splits ∙ sym (append_assoc before (e ∷ []) es)

-- the flat machine stays
told-silent : (s : Setup) (all : List Entry) (end : World) (e : Entry) (es : List Entry) (before : List Entry) (m : Machine)
    (g mid : World) (k : ℕ) → is_completed e.act ≡ false
    → all ≡ before ++ e ∷ es → Comes s before m g k → Step s g e mid → Runs s mid es end → IsTold s all end es →
    History s all end (break_from m k (e ∷ es))
told-silent s all end e es before m g mid k silent splits comes step runs rest =
    let one : FollowsOne (is_completed e.act) m e m = rw silent refl in
    let stays = acts-stay s e.node (g.locals e.node) step.front (mid.locals e.node) e step.sends e.act silent step.local.acts in
    let on = comes-on s before m m g mid k e comes one (beside-stays s g mid m e.node step.others stays comes.beside) in
    subst (λ b. History s all end b) (sym (break_from-silent m k e es silent))
    (rest (before ++ e ∷ []) m mid (k + 1) (shifted all before e es splits) on runs)

-- the flat machine does the same
told-same : (s : Setup) (all : List Entry) (end : World) (e : Entry) (es : List Entry) (before : List Entry) (m : Machine)
    (g mid : World) (k : ℕ) → is_completed e.act ≡ true
    → all ≡ before ++ e ∷ es → Comes s before m g k → Step s g e mid → Runs s mid es end → IsTold s all end es →
    Repeats m e.node e.act (core_of (mid.locals e.node)) → History s all end (break_from m k (e ∷ es))
told-same s all end e es before m g mid k completed splits comes step runs rest same =
    let next : Machine = with_core m e.node (core_of (mid.locals e.node)) same.words in
    let one : FollowsOne (is_completed e.act) m e next = rw completed same.steps in
    let on =
    comes-on s before m next g mid k e comes one (beside-goes s g mid m e.node same.words step.local.at_node step.others
    same.size comes.beside) in
    let is : break_from m k (e ∷ es) ≡ break_from next (k + 1) es =
    break_from-same m next k e es e.act completed same.steps (break_at-same k e.node (reading e.act)) in
    subst (λ b. History s all end b) (sym is) (rest (before ++ e ∷ []) next mid (k + 1) (shifted all before e es splits) on runs)

-- the flat machine reads another value
told-broken : (s : Setup) (all : List Entry) (end : World) (e : Entry) (es : List Entry) (before : List Entry) (m : Machine)
    (g : World) (k : ℕ) → is_completed e.act ≡ true
    → all ≡ before ++ e ∷ es → Comes s before m g k → ReadsOther m e.node e.act → History s all end (break_from m k (e ∷ es))
told-broken s all end e es before m g k completed splits comes other =
    let b : Break = record { event = k; node = e.node; address = other.address; read = other.read; due = other.due } in
    let here : break_at k e.node (reading e.act) (reading other.due_act) ≡ Some b =
    rw (other.reads, other.is_due) (break_at-other k e.node other.address other.read other.due other.differs) in
    let broken : IsBroken s all b = record {
      before = before;
      entry = e;
      later = es;
      splits = splits;
      event = comes.count;
      node = refl;
      read = other.reads;
      flat = m;
      follows = comes.follows;
      act = other.due_act;
      after = other.after;
      steps = other.steps;
      due = other.is_due;
      differs = other.differs;
    } in
    subst (λ b. History s all end b) (sym (break_from-broken m other.after k e es other.due_act b completed other.steps here))
    broken

told-more : (s : Setup) (all : List Entry) (end : World) (e : Entry) (es : List Entry) → IsSetup s → IsTold s all end es →
    IsTold s all end (e ∷ es)
told-more s all end e es setup rest before m g k splits comes runs = go (is_completed e.act) refl
  where
    by : is_completed e.act ≡ true → Repeats m e.node e.act (core_of (runs.0.locals e.node)) ⊎ ReadsOther m e.node e.act →
        History s all end (break_from m k (e ∷ es))
    by completed (inl same) = told-same s all end e es before m g runs.0 k completed splits comes runs.1 runs.2 rest same
    by completed (inr other) = told-broken s all end e es before m g k completed splits comes other

    go : (b : Bool) → is_completed e.act ≡ b → History s all end (break_from m k (e ∷ es))
    go false silent = told-silent s all end e es before m g runs.0 k silent splits comes runs.1 runs.2 rest
    go true completed =
        by completed (acts-go s m e.node (g.locals e.node) runs.1.front (runs.0.locals e.node) e runs.1.sends e.act completed
        (beside-at s g m e.node setup comes.beside runs.1.local.at_node) runs.1.local.acts)

told : (s : Setup) (all : List Entry) (end : World) → IsSetup s → (es : List Entry) → IsTold s all end es
told s all end setup [] = told-empty s all end
told s all end setup (e ∷ es) = told-more s all end e es setup (told s all end setup es)

pub history_told : HistoryIsTold
history_told s journal end setup runs =
    told s journal end setup journal [] (flat_start s) (start s) 0 refl
    (record { count = refl; follows = refl; beside = beside_start s }) runs
