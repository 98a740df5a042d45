-- Messages that are posted one after another.
use Rattle.std.proofs.Common.{◌≡◌, ◌∙◌, ℕ, zero, suc, ◌+◌, ◌<◌, ◌≤◌, ◌^◌, List, [], ◌∷◌, ◌++◌, length, drop, ap, sym, arith}
use Rattle.std.proofs.Common.{inl, inr, get_or, get_or-set_other, length-append}
use Rattle.std.specs.Prelude.{slice_index, slice_set}
use Rattle.std.proofs.lemmas.Bool.{cases_eq}
use Rattle.std.proofs.lemmas.List.{at_drop_more}
use Rattle.tw_base.specs.declared.message.Message.{Message}
use Rattle.dsm_runs.specs.Messages.{place}
use Rattle.node_meaning.specs.Sending.{post_all, stamped}
use Rattle.node_parts.specs.Parts.{Posting}
use Rattle.node_core.specs.Handlers.{outbox}

-- in mid-loop: there is room for those that are left, and they make what all make
pub record IsPosting (stamp : ℕ) (all left : List Message) (first now : Posting) : Type 0 where
  pub room : length now.waiting + length left ≤ now.room
  pub same_room : now.room ≡ first.room
  pub few : (k : ℕ) → slice_index now.posted k + length left < 2 ^ 64
  pub posted : post_all stamp left (outbox now) ≡ post_all stamp all (outbox first)

set_most : (xs : List ℕ) (p v : ℕ) → slice_index (slice_set xs p v) p ≤ v
set_most [] p v = omega arith
set_most (x ∷ xs) zero v = omega arith
set_most (x ∷ xs) (suc p) v = set_most xs p v

-- a number in the list is one more, and the others are as they were
next_few : (xs : List ℕ) (p k count : ℕ) → ((j : ℕ) → slice_index xs j + (count + 1) < 2 ^ 64)
    → slice_index (slice_set xs p (slice_index xs p + 1)) k + count < 2 ^ 64
next_few xs p k count few = elim (cases_eq k p) [
  | inl e ↦ rw e (omega (arith, set_most xs p (slice_index xs p + 1), few p))
  | inr d ↦ omega (arith, get_or-set_other xs p k (slice_index xs p + 1) 0 d, few k)
]

pub one_posted : (stamp : ℕ) (all : List Message) (i : ℕ) (x y : Message) (first a b : Posting) → i < length all
    → x ≡ get_or all i x → y ≡ stamped stamp x
    → b.waiting ≡ a.waiting ++ record y { number = slice_index a.posted (place y.to y.chan) } ∷ []
    → b.posted ≡ slice_set a.posted (place y.to y.chan) (slice_index a.posted (place y.to y.chan) + 1)
    → b.room ≡ a.room → IsPosting stamp all (drop i all) first a → IsPosting stamp all (drop (i + 1) all) first b
one_posted stamp all i x y first a b lt at is waiting posted room h = record {
  room = omega (
    arith,
    h.room,
    long,
    room,
    ap length waits,
    length-append a.waiting
        (record y { number = slice_index a.posted (place y.to y.chan) } ∷ []),
    ap length waiting,
  );
  same_room = room ∙ h.same_room;
  few = λ k. few k;
  posted = ap (λ o. post_all stamp (drop (i + 1) all) o) box
      ∙ ap (λ (l : List Message). post_all stamp l (outbox a)) (sym left) ∙ h.posted;
}
  where
    left : drop i all ≡ x ∷ drop (i + 1) all
    left = at_drop_more (λ (l : List Message). l) all i x lt ∙ ap (λ (z : Message). z ∷ drop (i + 1) all) (sym at)

    long : length (drop i all) ≡ length (drop (i + 1) all) + 1
    long = ap length left ∙ omega arith

    waits : b.waiting ≡ a.waiting ++ record (stamped stamp x) { number = slice_index a.posted (place x.to x.chan) } ∷ []
    waits = waiting ∙ ap (λ (z : Message). a.waiting ++ record z { number = slice_index a.posted (place z.to z.chan) } ∷ []) is

    numbers : b.posted ≡ slice_set a.posted (place x.to x.chan) (slice_index a.posted (place x.to x.chan) + 1)
    numbers = posted ∙ ap (λ (z : Message). slice_set a.posted (place z.to z.chan)
        (slice_index a.posted (place z.to z.chan) + 1)) is

    box : outbox b ≡ record {
      waiting = a.waiting ++ record (stamped stamp x)
          { number = slice_index a.posted (place x.to x.chan) } ∷ [];
      posted = slice_set a.posted (place x.to x.chan)
          (slice_index a.posted (place x.to x.chan) + 1);
    }
    box = λ j. record { waiting = waits j; posted = numbers j }

    few : (k : ℕ) → slice_index b.posted k + length (drop (i + 1) all) < 2 ^ 64
    few k = rw numbers (next_few a.posted (place x.to x.chan) k (length (drop (i + 1) all)) (λ j. omega (arith, h.few j, long)))
