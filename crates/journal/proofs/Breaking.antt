-- The first break of a journal, entry by entry.
use Rattle.std.proofs.Common.{◌≡◌, ◌≢◌, ℕ, ◌+◌, ◌<◌, ◌≤◌, Bool, true, false, nat_eq, List, [], ◌∷◌, drop, get_or, length}
use Rattle.std.proofs.Common.{Option, Some, None, refl, sym, ap, ◌∙◌, eq-eqb, eqb-true}
use Rattle.std.specs.Option.{is_some}
use Rattle.std.proofs.lemmas.List.{drop_all, drop_more}
use Rattle.tw_base.specs.declared.entry.Act.{Act}
use Rattle.tw_base.specs.declared.entry.Entry.{Entry}
use Rattle.mini_asm.specs.Run.{Machine}
use Rattle.journal.specs.declared.history.Break.{Break}
use Rattle.dsm_runs.specs.Flat.{flat_step, is_completed, reading}
use Rattle.journal.specs.History.{break_at, break_from}

-- ---- one read

eqb_same : (n : ℕ) → nat_eq n n ≡ true
eqb_same n = eq-eqb n n refl

eqb_other : (m n : ℕ) → m ≢ n → nat_eq m n ≡ false
eqb_other m n differs = go (nat_eq m n) refl
  where
    go : (b : Bool) → nat_eq m n ≡ b → nat_eq m n ≡ false
    go true e = absurd (differs (eqb-true m n e))
    go false e = e

-- the same read is no break
pub break_at-same : (k node : ℕ) (read : Option (ℕ × ℕ)) → break_at k node read read ≡ None
break_at-same k node None = refl
break_at-same k node (Some read) = rw (eqb_same read.1) refl

pub break_at-other : (k node address read due : ℕ) → read ≢ due
    → break_at k node (Some (address, read)) (Some (address, due))
    ≡ Some (record { event = k; node = node; address = address; read = read; due = due })
break_at-other k node address read due differs = rw (eqb_other read due differs) refl

-- ---- one entry

pub break_from-silent : (m : Machine) (k : ℕ) (e : Entry) (es : List Entry) → is_completed e.act ≡ false →
    break_from m k (e ∷ es) ≡ break_from m (k + 1) es
unfolding break_from
break_from-silent m k e es silent = rw silent refl

pub break_from-same : (m next : Machine) (k : ℕ) (e : Entry) (es : List Entry) (act : Act) → is_completed e.act ≡ true →
    flat_step m e.node ≡ Some (act, next)
    → break_at k e.node (reading e.act) (reading act) ≡ None → break_from m k (e ∷ es) ≡ break_from next (k + 1) es
unfolding break_from
break_from-same m next k e es act completed steps same = rw (completed, steps, same) refl

pub break_from-broken : (m next : Machine) (k : ℕ) (e : Entry) (es : List Entry) (act : Act) (b : Break) →
    is_completed e.act ≡ true → flat_step m e.node ≡ Some (act, next)
    → break_at k e.node (reading e.act) (reading act) ≡ Some b → break_from m k (e ∷ es) ≡ Some b
unfolding break_from
break_from-broken m next k e es act b completed steps broken = rw (completed, steps, broken) refl

pub break_from-ended : (m : Machine) (k : ℕ) (e : Entry) (es : List Entry) → is_completed e.act ≡ true →
    flat_step m e.node ≡ None → break_from m k (e ∷ es) ≡ None
unfolding break_from
break_from-ended m k e es completed ended = rw (completed, ended) refl

pub break_from-empty : (m : Machine) (k : ℕ) → break_from m k [] ≡ None
unfolding break_from
break_from-empty m k = refl

-- ---- the entry at a place of a journal, from which all are still to be told

pub entry-at : (journal : List Entry) (k : ℕ) (e : Entry) → k < length journal → e ≡ get_or journal k e →
    drop k journal ≡ e ∷ drop (k + 1) journal
entry-at journal k e lt is = drop_more journal k e lt ∙ ap (λ x. x ∷ drop (k + 1) journal) (sym is)

at_entry : (m : Machine) (k : ℕ) (journal : List Entry) (e : Entry) (total found : Option Break) →
    drop k journal ≡ e ∷ drop (k + 1) journal
    → break_from m k (e ∷ drop (k + 1) journal) ≡ found → break_from m k (drop k journal) ≡ total → found ≡ total
at_entry m k journal e total found at is so_far = sym is ∙ ap (break_from m k) (sym at) ∙ so_far

pub turn-silent : (m : Machine) (k : ℕ) (journal : List Entry) (e : Entry) (total : Option Break) →
    drop k journal ≡ e ∷ drop (k + 1) journal → is_completed e.act ≡ false
    → break_from m k (drop k journal) ≡ total → break_from m (k + 1) (drop (k + 1) journal) ≡ total
turn-silent m k journal e total at silent so_far = at_entry m k journal e total _ at
    (break_from-silent m k e (drop (k + 1) journal) silent) so_far

none_found : (found : Option Break) → is_some found ≡ false → found ≡ None
none_found None none = refl
none_found (Some b) none = absurd cc

pub turn-same : (m next : Machine) (k : ℕ) (journal : List Entry) (e : Entry) (act : Act) (found total : Option Break) →
    drop k journal ≡ e ∷ drop (k + 1) journal → is_completed e.act ≡ true
    → flat_step m e.node ≡ Some (act, next) → break_at k e.node (reading e.act) (reading act) ≡ found → is_some found ≡ false →
    break_from m k (drop k journal) ≡ total
    → break_from next (k + 1) (drop (k + 1) journal) ≡ total
turn-same m next k journal e act found total at completed steps is none so_far =
    at_entry m k journal e total _ at (break_from-same m next k e (drop (k + 1) journal) act completed steps
    (is ∙ none_found found none)) so_far

pub turn-broken : (m next : Machine) (k : ℕ) (journal : List Entry) (e : Entry) (act : Act) (found total : Option Break) →
    drop k journal ≡ e ∷ drop (k + 1) journal → is_completed e.act ≡ true
    → flat_step m e.node ≡ Some (act, next) → break_at k e.node (reading e.act) (reading act) ≡ found → is_some found ≡ true →
    break_from m k (drop k journal) ≡ total → found ≡ total
turn-broken m next k journal e act None total at completed steps is some so_far = absurd cc
turn-broken m next k journal e act (Some b) total at completed steps is some so_far =
    at_entry m k journal e total _ at (break_from-broken m next k e (drop (k + 1) journal) act b completed steps is) so_far

pub turn-ended : (m : Machine) (k : ℕ) (journal : List Entry) (e : Entry) (total : Option Break) →
    drop k journal ≡ e ∷ drop (k + 1) journal → is_completed e.act ≡ true
    → flat_step m e.node ≡ None → break_from m k (drop k journal) ≡ total → None ≡ total
turn-ended m k journal e total at completed ended so_far = at_entry m k journal e total _ at
    (break_from-ended m k e (drop (k + 1) journal) completed ended) so_far

pub none-left : (m : Machine) (k : ℕ) (journal : List Entry) (total : Option Break) → length journal ≤ k →
    break_from m k (drop k journal) ≡ total → None ≡ total
none-left m k journal total past so_far = sym (break_from-empty m k) ∙ ap (break_from m k) (sym (drop_all k journal past))
    ∙ so_far
