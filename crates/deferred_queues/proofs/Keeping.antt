-- What is kept of the queues stays, whichever of them changes.
use Rattle.std.proofs.Common.{◌≡◌, ◌≢◌, ℕ, zero, suc, ◌+◌, ◌-◌, ◌^◌, ◌<◌, ◌≤◌, ◌⊎◌, Bool, true, false, if◌then◌else◌, nat_lt}
use Rattle.std.proofs.Common.{Option, Some, None, length, List, [], ◌∷◌, ◌++◌, set, cond, arith, refl, ap, sym, ◌∙◌, subst, inl}
use Rattle.std.proofs.Common.{inr, lit<}
use Rattle.std.specs.Prelude.{slice_get, is_some}
use Rattle.std.specs.List.{count_by}
use Rattle.std.proofs.Math.ListN.{length-set}
use Rattle.std.proofs.lemmas.Bool.{cases_eq}
use Rattle.std.proofs.lemmas.List.{length-map}
use Rattle.std.proofs.lemmas.List.Sums.{sum_by-set, sum_by-cons}
use Rattle.std.proofs.lemmas.Option.{get_or_from_slice_get, slice_get_within}
use Rattle.tw_base.specs.Lists.{Each}
use Rattle.dsm_runs.specs.declared.mode.Waiting.{Waiting}
use Rattle.dsm_runs.specs.Events.{free}
use Rattle.dsm_runs.proofs.Lists.{Each-append, Each-implied}
use Rattle.deferred_queues.specs.declared.held.Held.{Held}
use Rattle.deferred_queues.specs.Deferrals.{AreKept, DeferredList, list_of, nothing_deferred}
use Rattle.deferred_queues.specs.Queues.{AreEmpty, AreOfBlocks, AreRising, AreSound, ComesAfter, ComesBefore, HaveRoom}
use Rattle.deferred_queues.specs.Queues.{IsEmptyQueue, IsOfBlock, IsPast, BlockQueue, all_at, by_arrival, came_at, first_before}
use Rattle.deferred_queues.specs.Queues.{first_of, is_open, before, freed, pushed}
use Rattle.deferred_queues.proofs.Lists.{each-at, each-set, flat-last, flat-same, joined-same}
use Rattle.deferred_queues.proofs.Queueing.{all_freed, all_pushed_here, first_arrival, popped_here, popped_other, pushed_other}

-- ---- places

abbrev pub one_if : Bool → ℕ
one_if b = cond b 1 0

some_is : (x q : BlockQueue) → Some x ≡ Some q → q ≡ x
some_is x q h = cc

-- which queue stands at a place when one has changed
at_set : (qs : List BlockQueue) (b k : ℕ) (p q : BlockQueue) → slice_get (set qs b p) k ≡ Some q
    → (k ≡ b) × (q ≡ p) ⊎ (k ≢ b) × (slice_get qs k ≡ Some q)
at_set [] b k p q h = absurd (cc)
at_set (x ∷ qs) zero zero p q h = inl (refl, some_is p q h)
at_set (x ∷ qs) zero (suc k) p q h = inr (λ e. omega (arith, e), h)
at_set (x ∷ qs) (suc b) zero p q h = inr (λ e. omega (arith, e), h)
at_set (x ∷ qs) (suc b) (suc k) p q h = elim (at_set qs b k p q h) [
  | inl both ↦ inl (ap suc both.0, both.1)
  | inr both ↦ inr (λ e. both.0 (omega (arith, e)), both.1)
]

blocks_set : (c b : ℕ) (qs : List BlockQueue) (p : BlockQueue) → AreOfBlocks c qs → Each (IsOfBlock (c + b)) p.held
    → AreOfBlocks c (set qs b p)
blocks_set c b [] p of h = tt
blocks_set c zero (x ∷ qs) p of h =
    let here : c + zero ≡ c = omega arith in
    (subst (λ k. Each (IsOfBlock k) p.held) here h, of.1)
blocks_set c (suc b) (x ∷ qs) p of h =
    let there : c + suc b ≡ suc c + b = omega arith in
    (of.0, blocks_set (suc c) b qs p of.1 (subst (λ k. Each (IsOfBlock k) p.held) there h))

block_at : (c b : ℕ) (qs : List BlockQueue) (q : BlockQueue) → AreOfBlocks c qs → slice_get qs b ≡ Some q
    → Each (IsOfBlock (c + b)) q.held
block_at c b [] q of h = absurd (cc)
block_at c zero (x ∷ qs) q of h =
    let here : c ≡ c + zero = omega arith in
    subst (λ k. Each (IsOfBlock k) q.held) here
    (subst (λ (y : BlockQueue). Each (IsOfBlock c) y.held) (sym (some_is x q h)) of.0)
block_at c (suc b) (x ∷ qs) q of h =
    let there : suc c + b ≡ c + suc b = omega arith in
    subst (λ k. Each (IsOfBlock k) q.held) there (block_at (suc c) b qs q of.1 h)

pub of_block : (n b : ℕ) (qs : List BlockQueue) (q : BlockQueue) → AreSound n qs → slice_get qs b ≡ Some q
    → Each (IsOfBlock b) q.held
of_block n b qs q sound h =
    let same : 0 + b ≡ b = omega arith in
    subst (λ k. Each (IsOfBlock k) q.held) same (block_at 0 b qs q sound.blocks h)

past_more : (n k : ℕ) → n ≤ k → (q : BlockQueue) → IsPast n q → IsPast k q
past_more n k l q h = record {
  held = Each-implied (ComesBefore n) (ComesBefore k) q.held (λ x (m : x.arrival < n). omega (arith, l, m)) h.held;
  below = omega (arith, l, h.below);
  rising = h.rising;
}

sound_set : (n k b : ℕ) (qs : List BlockQueue) (p : BlockQueue) → AreSound n qs → n ≤ k → Each (IsOfBlock b) p.held
    → IsPast k p → ((a : ℕ) → length (all_at (set qs b p) a) ≤ 1) → AreSound k (set qs b p)
sound_set n k b qs p sound l of past once =
    let same : b ≡ 0 + b = omega arith in
    record {
      blocks = blocks_set 0 b qs p sound.blocks (subst (λ j. Each (IsOfBlock j) p.held) same of);
      past = each-set (IsPast k) qs b p past (Each-implied (IsPast n) (IsPast k) qs (past_more n k l) sound.past);
      once = once;
    }

pub count_set : (qs : List BlockQueue) (b : ℕ) (q p : BlockQueue) → slice_get qs b ≡ Some q
    → count_by is_open (set qs b p) + one_if (is_open q) ≡ count_by is_open qs + one_if (is_open p)
count_set qs b q p h =
    subst (λ (x : BlockQueue). count_by is_open (set qs b p) + one_if (is_open x) ≡ count_by is_open qs + one_if
    (is_open p)) (get_or_from_slice_get qs b q q h)
    (sum_by-set (λ (x : BlockQueue). one_if (is_open x)) qs b p q (slice_get_within qs b q h))

pub value_same : (list list2 : List Waiting) (ready : Bool) (blocks blocks2 : ℕ) → list ≡ list2 → blocks ≡ blocks2
    → (let v : DeferredList = record { list = list; ready = ready; blocks = blocks } in
    v) ≡ record { list = list2; ready = ready; blocks = blocks2 }
value_same list list2 ready blocks blocks2 e f =
    ap (λ (l : List Waiting). let v : DeferredList = record { list = l; ready = ready; blocks = blocks } in v) e
    ∙ ap (λ k. let v : DeferredList = record { list = list2; ready = ready; blocks = k } in v) f

-- ---- a message is put behind the others

rising_more : (n : ℕ) (hs : List Held) (h : Held) → AreRising hs → Each (ComesBefore n) hs → h.arrival ≡ n
    → AreRising (hs ++ h ∷ [])
rising_more n [] h r l e = (tt, tt)
rising_more n (k ∷ hs) h r l e =
    (Each-append (ComesAfter k) hs (h ∷ []) r.0 (omega (arith, l.0, e), tt), rising_more n hs h r.1 l.1 e)

first_pushed : (below : ℕ) (hs : List Held) (h : Held) → nat_lt h.arrival below ≡ false
    → first_before below (hs ++ h ∷ []) ≡ first_before below hs
first_pushed below [] h e = ap (λ b. if b then Some h.arrival else None) e
first_pushed below (k ∷ hs) h e = refl

past_pushed : (n : ℕ) (q : BlockQueue) (h : Held) → IsPast n q → h.arrival ≡ n → IsPast (n + 1) (pushed q h)
past_pushed n q h past e =
    let more = past_more n (n + 1) (omega arith) q past in
    record {
      held = Each-append (ComesBefore (n + 1)) q.held (h ∷ []) more.held (omega (arith, e), tt);
      below = more.below;
      rising = rising_more n q.held h past.rising past.held e;
    }

once_pushed : (n b : ℕ) (qs : List BlockQueue) (q : BlockQueue) (h : Held) → AreSound n qs → slice_get qs b ≡ Some q
    → h.arrival ≡ n → (a : ℕ) → length (all_at (set qs b (pushed q h)) a) ≤ 1
once_pushed n b qs q h sound at e a = elim (cases_eq h.arrival a) [
  | inl f ↦
      let here = ap (λ (l : List Waiting). length l) (all_pushed_here n qs b q h sound at e) in
      subst (λ k. length (all_at (set qs b (pushed q h)) k) ≤ 1) (sym e ∙ f) (omega (arith, here))
  | inr d ↦ omega (
    arith,
    sound.once a,
    ap (λ (l : List Waiting). length l) (flat-same (came_at a) qs b q (pushed q h) at (pushed_other a q h d)),
  )
]

pub kept_pushed : (qs : List BlockQueue) (n c b : ℕ) (q : BlockQueue) (h : Held) → AreKept qs n c None
    → slice_get qs b ≡ Some q → h.message.block ≡ b → h.arrival ≡ n → nat_lt h.arrival q.below ≡ false
    → AreKept (set qs b (pushed q h)) (n + 1) c (Some b)
kept_pushed qs n c b q h kept at of e old =
    let past = each-at (IsPast n) qs b q kept.sound.past at in
    record {
      sound = sound_set n (n + 1) b qs (pushed q h) kept.sound (omega arith)
          (Each-append (IsOfBlock b) q.held (h ∷ []) (of_block n b qs q kept.sound at) (of, tt))
          (past_pushed n q h past e) (once_pushed n b qs q h kept.sound at e);
      counted =
          let same = ap (λ (o : Option ℕ). one_if (is_some o)) (first_pushed q.below q.held h old) in
          omega (arith, kept.counted, count_set qs b q (pushed q h) at, same);
      room = λ k x g d. elim (at_set qs b k (pushed q h) x g) [
        | inl both ↦ absurd (d (ap (λ (j : ℕ). Some j) (sym both.0)))
        | inr both ↦ kept.room k x both.1 (λ (f : None ≡ Some k). absurd (cc))
      ];
      within = λ k (f : Some b ≡ Some k). let same : b ≡ k = cc in
          omega (arith, same, slice_get_within qs b q at, length-set qs b (pushed q h));
      few = λ (f : Some b ≡ None). absurd (cc);
    }

-- ---- messages are made eligible

room_kept : (tight : Option ℕ) (qs : List BlockQueue) (b : ℕ) (q p : BlockQueue) → HaveRoom tight qs
    → slice_get qs b ≡ Some q → length p.held ≤ length q.held → p.room ≡ q.room → HaveRoom tight (set qs b p)
room_kept tight qs b q p room at l e k x g d = elim (at_set qs b k p x g) [
  | inl both ↦
      let was : length q.held < q.room = room b q at (λ f. d (f ∙ ap (λ (j : ℕ). Some j) (sym both.0))) in
      subst (λ (y : BlockQueue). length y.held < y.room) (sym both.1) (omega (arith, was, l, e))
  | inr both ↦ room k x both.1 d
]

within_kept : (tight : Option ℕ) (qs : List BlockQueue) (b : ℕ) (p : BlockQueue) → ((k : ℕ) → tight ≡ Some k → k < length qs)
    → (k : ℕ) → tight ≡ Some k → k < length (set qs b p)
within_kept tight qs b p h k e = omega (arith, h k e, length-set qs b p)

pub kept_freed : (qs : List BlockQueue) (n c c2 b : ℕ) (tight : Option ℕ) (q : BlockQueue) → AreKept qs n c tight
    → slice_get qs b ≡ Some q → c2 + one_if (is_open q) ≡ c + one_if (is_open (freed n q))
    → AreKept (set qs b (freed n q)) n c2 tight
kept_freed qs n c c2 b tight q kept at counts =
    let past = each-at (IsPast n) qs b q kept.sound.past at in
    record {
      sound = sound_set n n b qs (freed n q) kept.sound (omega arith) (of_block n b qs q kept.sound at)
          (record { held = past.held; below = omega arith; rising = past.rising })
          (λ a. omega (
            arith,
            kept.sound.once a,
            ap (λ (l : List Waiting). length l) (all_freed b n a qs q kept.sound at),
            length-map (all_at qs a) (free b),
          ));
      counted = omega (arith, kept.counted, count_set qs b q (freed n q) at, counts);
      room = room_kept tight qs b q (freed n q) kept.room at (omega arith) refl;
      within = within_kept tight qs b (freed n q) kept.within;
      few = kept.few;
    }

-- ---- the first message of a queue is taken

once_popped : (n b a : ℕ) (qs : List BlockQueue) (p : BlockQueue) (h : Held) → AreSound n qs
    → slice_get qs b ≡ Some (before p h) → first_of (before p h) ≡ Some a → (c : ℕ) → length (all_at (set qs b p) c) ≤ 1
once_popped n b a qs p h sound at first c = elim (cases_eq h.arrival c) [
  | inl e ↦
      let both = first_arrival p h a first in
      let w : Waiting = record { message = h.message; eligible = true } in
      let last = flat-last (came_at c) qs b (before p h) p w at (sound.once c)
      (popped_here c p h e (omega (arith, e, both.1))) in
      omega (arith, ap (λ (l : List Waiting). length l) last.1)
  | inr d ↦ omega (
    arith,
    sound.once c,
    ap (λ (l : List Waiting). length l) (flat-same (came_at c) qs b (before p h) p at (popped_other c p h d)),
  )
]

pub kept_popped : (qs : List BlockQueue) (n c c2 b a : ℕ) (tight : Option ℕ) (p : BlockQueue) (h : Held)
    → AreKept qs n c tight → slice_get qs b ≡ Some (before p h) → first_of (before p h) ≡ Some a
    → c2 + one_if (is_open (before p h)) ≡ c + one_if (is_open p) → AreKept (set qs b p) n c2 tight
kept_popped qs n c c2 b a tight p h kept at first counts =
    let past = each-at (IsPast n) qs b (before p h) kept.sound.past at in
    let of = of_block n b qs (before p h) kept.sound at in
    record {
      sound = sound_set n n b qs p kept.sound (omega arith) of.1
          (record { held = past.held.1; below = past.below; rising = past.rising.1 })
          (once_popped n b a qs p h kept.sound at first);
      counted = omega (arith, kept.counted, count_set qs b (before p h) p at, counts);
      room = room_kept tight qs b (before p h) p kept.room at (omega arith) refl;
      within = within_kept tight qs b p kept.within;
      few = kept.few;
    }

-- ---- room is made

abbrev pub wider : BlockQueue → ℕ → BlockQueue
wider q room = record q { room = room }

pub wider_is : (q p : BlockQueue) → p.held ≡ q.held → p.below ≡ q.below → p ≡ wider q p.room
wider_is q p e f =
    ap (λ (hs : List Held). let x : BlockQueue = record { held = hs; below = p.below; room = p.room } in x) e
    ∙ ap (λ k. let x : BlockQueue = record { held = q.held; below = k; room = p.room } in x) f

all_wider : (qs : List BlockQueue) (b r : ℕ) (q : BlockQueue) → slice_get qs b ≡ Some q → (a : ℕ)
    → all_at (set qs b (wider q r)) a ≡ all_at qs a
all_wider qs b r q at a = flat-same (came_at a) qs b q (wider q r) at refl

sound_wider : (qs : List BlockQueue) (n b r : ℕ) (q : BlockQueue) → AreSound n qs → slice_get qs b ≡ Some q
    → AreSound n (set qs b (wider q r))
sound_wider qs n b r q sound at =
    let past = each-at (IsPast n) qs b q sound.past at in
    sound_set n n b qs (wider q r) sound (omega arith) (of_block n b qs q sound at)
    (record { held = past.held; below = past.below; rising = past.rising })
    (λ a. omega (arith, sound.once a, ap (λ (l : List Waiting). length l) (all_wider qs b r q at a)))

count_wider : (qs : List BlockQueue) (c b r : ℕ) (q : BlockQueue) → slice_get qs b ≡ Some q → c ≡ count_by is_open qs
    → c ≡ count_by is_open (set qs b (wider q r))
count_wider qs c b r q at e = omega (arith, e, count_set qs b q (wider q r) at)

pub kept_roomy : (qs : List BlockQueue) (n c b r : ℕ) (q : BlockQueue) → AreKept qs n c (Some b) → slice_get qs b ≡ Some q
    → length q.held < r → n < 2 ^ 64 - 1 → AreKept (set qs b (wider q r)) n c None
kept_roomy qs n c b r q kept at l few = record {
  sound = sound_wider qs n b r q kept.sound at;
  counted = count_wider qs c b r q at kept.counted;
  room = λ k x g d. elim (at_set qs b k (wider q r) x g) [
    | inl both ↦ subst (λ (y : BlockQueue). length y.held < y.room) (sym both.1) l
    | inr both ↦ kept.room k x both.1 (λ (f : Some b ≡ Some k). both.0 (cc))
  ];
  within = λ k (f : None ≡ Some k). absurd (cc);
  few = λ f. few;
}

pub kept_tight : (qs : List BlockQueue) (n c b r : ℕ) (q : BlockQueue) → AreKept qs n c (Some b) → slice_get qs b ≡ Some q
    → AreKept (set qs b (wider q r)) n c (Some b)
kept_tight qs n c b r q kept at = record {
  sound = sound_wider qs n b r q kept.sound at;
  counted = count_wider qs c b r q at kept.counted;
  room = λ k x g d. elim (at_set qs b k (wider q r) x g) [
    | inl both ↦ absurd (d (ap (λ (j : ℕ). Some j) (sym both.0)))
    | inr both ↦ kept.room k x both.1 d
  ];
  within = within_kept (Some b) qs b (wider q r) kept.within;
  few = kept.few;
}

pub list_wider : (qs : List BlockQueue) (n b r : ℕ) (q : BlockQueue) → slice_get qs b ≡ Some q
    → by_arrival n (set qs b (wider q r)) ≡ by_arrival n qs
list_wider qs n b r q at = joined-same n (all_at qs) (all_at (set qs b (wider q r))) (λ a l. all_wider qs b r q at a)

-- ---- no messages

empty_blocks : (b : ℕ) (qs : List BlockQueue) → Each IsEmptyQueue qs → AreOfBlocks b qs
empty_blocks b [] h = tt
empty_blocks b (q ∷ qs) h =
    (subst (λ (hs : List Held). Each (IsOfBlock b) hs) (sym h.0.held) tt, empty_blocks (suc b) qs h.1)

empty_past : (q : BlockQueue) → IsEmptyQueue q → IsPast 0 q
empty_past q h = record {
  held = subst (λ (hs : List Held). Each (ComesBefore 0) hs) (sym h.held) tt;
  below = omega (arith, h.below);
  rising = subst (λ (hs : List Held). AreRising hs) (sym h.held) tt;
}

empty_all : (qs : List BlockQueue) (a : ℕ) → Each IsEmptyQueue qs → all_at qs a ≡ []
empty_all [] a h = refl
empty_all (q ∷ qs) a h =
    ap (λ (hs : List Held). came_at a (record { held = hs; below = q.below; room = q.room }) ++ all_at qs a) h.0.held
    ∙ empty_all qs a h.1

empty_count : (qs : List BlockQueue) → Each IsEmptyQueue qs → count_by is_open qs ≡ 0
empty_count [] h = refl
empty_count (q ∷ qs) h =
    let none : one_if (is_open q) ≡ 0 = ap (λ (hs : List Held). one_if (is_some (first_before q.below hs))) h.0.held in
    omega (arith, none, sum_by-cons (λ (x : BlockQueue). one_if (is_open x)) q qs, empty_count qs h.1)

pub kept_empty : (qs : List BlockQueue) (n : ℕ) → AreEmpty n qs → AreKept qs 0 0 None
kept_empty qs n h = record {
  sound = record {
    blocks = empty_blocks 0 qs h.1;
    past = Each-implied IsEmptyQueue (IsPast 0) qs empty_past h.1;
    once = λ a. omega (arith, ap (λ (l : List Waiting). length l) (empty_all qs a h.1));
  };
  counted = sym (empty_count qs h.1);
  room = λ k q g d.
      let e = each-at IsEmptyQueue qs k q h.1 g in
      omega (arith, e.room, ap (λ (hs : List Held). length hs) e.held);
  within = λ k (f : None ≡ Some k). absurd (cc);
  few = λ f. lit< tt;
}

pub value_empty : (qs : List BlockQueue) (n : ℕ) → AreEmpty n qs → list_of qs 0 None ≡ nothing_deferred n
value_empty qs n h = ap (λ k. nothing_deferred k) h.0
