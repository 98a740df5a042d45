-- What is sent to each sharer, by block, sender and wire.
use Rattle.std.proofs.Common.{◌≡◌, ◌≢◌, ℕ, zero, suc, ◌<◌, ◌≤◌, Bool, true, false, List, [], ◌∷◌, ◌++◌, arith, refl, ap, ◌∙◌}
use Rattle.std.proofs.Common.{inl, inr, ◌⊎◌, cond}
use Rattle.std.proofs.lemmas.List.{append-nil}
use Rattle.std.proofs.lemmas.Bool.{cases_eq}
use Rattle.block_spots.specs.Cases.{Inv}
use Rattle.block_spots.specs.Notes.{Note, NInv}
pub use Rattle.block_spots.proofs.Noted.{AllFrom, AllFrom-append, AllOf, AllOf-append, kept_notes-append, kept_notes-free}
pub use Rattle.block_spots.proofs.Noted.{kept_notes-freed_if, kept_notes-with_kept_other, kept_notes_from_other, kept_notes_nil}
pub use Rattle.block_spots.proofs.Noted.{kept_notes_other, kept_notes_same, notes-append, notes_all_other, notes_nil}
pub use Rattle.block_spots.proofs.Noted.{notes_other, notes_same, sent-append, sent_from_other, sent_nil, sent_one}
pub use Rattle.block_spots.proofs.Noted.{sent_one_chan, sent_one_past}
unfoldable pub use Rattle.block_spots.proofs.Noted.{sent}
use Rattle.stache_table.specs.Handling.{inv_all, plain}
use Rattle.tw_base.specs.declared.message.Chan.{Chan}
use Rattle.tw_base.specs.declared.message.Chan.TheVariants.{One}

pub AllOf-inv_all : (n : ℕ) (s : ℕ → Bool) (b me : ℕ) → AllOf b (inv_all n s b me)
AllOf-inv_all zero s b me = tt
AllOf-inv_all (suc n) s b me = AllOf-append b _ _ (AllOf-inv_all n s b me) (last (s n))
  where
    last : (t : Bool) → AllOf b (cond t (plain Inv b me n ∷ []) [])
    last true = (refl, tt)
    last false = tt

pub AllFrom-inv_all : (n : ℕ) (s : ℕ → Bool) (b me : ℕ) → AllFrom me (inv_all n s b me)
AllFrom-inv_all zero s b me = tt
AllFrom-inv_all (suc n) s b me = AllFrom-append me _ _ (AllFrom-inv_all n s b me) (last (s n))
  where
    last : (t : Bool) → AllFrom me (cond t (plain Inv b me n ∷ []) [])
    last true = (refl, tt)
    last false = tt

pub sent_inv_all_past : (n : ℕ) (s : ℕ → Bool) (b h j : ℕ) (c : Chan) → n ≤ j → sent b (inv_all n s b h) h j c ≡ []
sent_inv_all_past zero s b h j c l = sent_nil b h j c
sent_inv_all_past (suc n) s b h j c l = sent-append b h j c _ _
    ∙ ap (λ x. x ++ sent b (cond (s n) (plain Inv b h n ∷ []) []) h j c) (sent_inv_all_past n s b h j c (omega arith))
    ∙ last (s n)
  where
    last : (t : Bool) → sent b (cond t (plain Inv b h n ∷ []) []) h j c ≡ []
    last true = sent_one_past b h j c (plain Inv b h n) (omega arith)
    last false = sent_nil b h j c

abbrev pub inv_if : Bool → List Note
inv_if true = NInv ∷ []
inv_if false = []

pub sent_inv_all : (n : ℕ) (s : ℕ → Bool) (b h j : ℕ) → j < n → sent b (inv_all n s b h) h j One ≡ inv_if (s j)
sent_inv_all zero s b h j l = absurd (omega arith)
sent_inv_all (suc n) s b h j l = sent-append b h j One _ _ ∙ go (cases_eq j n) (λ d. sent_inv_all n s b h j (omega arith))
  where
    last : (t : Bool) → sent b (cond t (plain Inv b h n ∷ []) []) h n One ≡ inv_if t
    last true = sent_one b h n One (plain Inv b h n) refl refl refl refl
    last false = sent_nil b h n One

    past : (t : Bool) → j ≢ n → sent b (cond t (plain Inv b h n ∷ []) []) h j One ≡ []
    past true d = sent_one_past b h j One (plain Inv b h n) (omega arith)
    past false d = sent_nil b h j One

    go : (j ≡ n) ⊎ (j ≢ n) → (j ≢ n → sent b (inv_all n s b h) h j One ≡ inv_if (s j)) →
        sent b (inv_all n s b h) h j One ++ sent b (cond (s n) (plain Inv b h n ∷ []) []) h j One ≡ inv_if (s j)
    go (inl e) k =
        rw e (ap (λ x. x ++ sent b (cond (s n) (plain Inv b h n ∷ []) []) h n One)
        (sent_inv_all_past n s b h n One (omega arith)) ∙ last (s n))
    go (inr d) k = ap (λ x. sent b (inv_all n s b h) h j One ++ x) (past (s n) d) ∙ append-nil _ ∙ k d
