-- A step of a node of a sample leads from one spot to the next.
use Rattle.std.proofs.Common.{◌≡◌, ◌≢◌, ℕ, zero, suc, ◌+◌, ◌-◌, ◌*◌, ◌<◌, ◌≤◌, List, length}
use Rattle.std.proofs.Common.{refl, sym, ap, subst, ◌∙◌, arith, inl, inr, ◌⊎◌}
use Rattle.std.specs.Prelude.{slice_index, slice_set}
use Rattle.std.proofs.Math.Nat.{mul-le-mul_right}
use Rattle.std.proofs.lemmas.Bool.{cases_eq}
use Rattle.std.proofs.lemmas.List.{get_or-set_same, get_or-set_other}
use Rattle.mini_asm.specs.Run.{Ran, run_one}
use Rattle.mini_asm.specs.declared.processor.FlatMode.TheVariants.{Running, Halted}
use Rattle.sample_runs.specs.Summaries.{printed}
use Rattle.sample_sums.proofs.Spots.{HasWords, IsPrintStep, IsSpot, Spot, Fresh, HasRounds, HasIncrement, HasEnd, HasStride}
use Rattle.sample_sums.proofs.Spots.{Outer, Load, AddUp, Keep, Move, Back, Count, Again, Fetch, Show, Stop, Over, WordsAt}
use Rattle.sample_sums.proofs.Spots.{core_at, cost_of, is_to_print, looping_at, price_of, program, registers}
use Rattle.sample_sums.proofs.OneStep.{adds, begins_again, counts, ends_rounds, fetches, goes_back, goes_first, goes_past}
use Rattle.sample_sums.proofs.OneStep.{halts, loads, moves, prints, sets_end, sets_increment, sets_one, sets_rounds}
use Rattle.sample_sums.proofs.OneStep.{sets_stride, stores}

-- what one instruction of node i did and left, and the spot that it comes to
pub record Goes (R d i : ℕ) (spot : Spot) (words : List ℕ) (ran : Ran) : Type 0 where
  pub next : Spot
  pub core : ran.core ≡ core_at R d i next
  pub fits : IsSpot R next
  pub mine : WordsAt R d i next ran.words
  pub others : (o k : ℕ) → o < 4 → o ≢ i → slice_index ran.words (o + 4 * k) ≡ slice_index words (o + 4 * k)
  pub cost : cost_of R next + price_of ran.act ≤ cost_of R spot
  pub prints : IsPrintStep (R * d) (is_to_print spot) (is_to_print next) (printed ran.act)

-- the numbers of a sample: some rounds, and small increments
pub record AreSmall (R d i : ℕ) : Type 0 where
  pub some : 0 < R
  pub rounds : R ≤ 32
  pub increment : d ≤ 97
  pub node : i < 4

-- ---- numbers

grown_small : (R d a l : ℕ) → R ≤ 32 → d ≤ 97 → a + l + 1 ≡ R → a * d + d ≤ 3104
grown_small R d a l rounds increment e =
    let one : a * d + d ≡ (a + 1) * d = grind arith in
    let two : (a + 1) * d ≤ 32 * d = mul-le-mul_right d (omega arith) in
    omega arith

one_more : (d a : ℕ) → a * d + d ≡ (a + 1) * d
one_more d a = grind arith

-- ---- words

-- a word of another node is another word
apart : (o k i n : ℕ) → o < 4 → i < 4 → o ≢ i → o + 4 * k ≢ i + 4 * n
apart o k i n lo li d e = omega arith

stored_others : (i n v o k : ℕ) (words : List ℕ) → i < 4 → o < 4 → o ≢ i
    → slice_index (slice_set words (i + 4 * n) v) (o + 4 * k) ≡ slice_index words (o + 4 * k)
stored_others i n v o k words li lo d = get_or-set_other words (i + 4 * n) (o + 4 * k) v 0 (apart o k i n lo li d)

-- the words when one more of the round is stored
stored_words : (d i a n m : ℕ) (words : List ℕ) → i < 4 → length words ≡ 64 → n + m + 1 ≡ 16 → HasWords d i a n words
    → HasWords d i a (n + 1) (slice_set words (i + 4 * n) (a * d + d))
stored_words d i a n m words li size e h = record {
  done = λ k lt. done k lt (cases_eq k n);
  left = λ k le lt. get_or-set_other words (i + 4 * n) (i + 4 * k) (a * d + d) 0 (λ q. omega arith) ∙ h.left k (omega arith) lt;
}
  where
    done : (k : ℕ) → k < n + 1 → (k ≡ n) ⊎ (k ≢ n) → slice_index (slice_set words (i + 4 * n) (a * d + d)) (i + 4 * k) ≡ a * d + d
    done k lt (inl here) =
        subst (λ (x : ℕ). slice_index (slice_set words (i + 4 * n) (a * d + d)) (i + 4 * x) ≡ a * d + d) (sym here)
        (get_or-set_same words (i + 4 * n) (a * d + d) 0 (omega arith))
    done k lt (inr other) = get_or-set_other words (i + 4 * n) (i + 4 * k) (a * d + d) 0 (λ q. omega arith)
        ∙ h.done k (omega arith)

-- a round that is over is one round more
next_words : (d i a b : ℕ) (words : List ℕ) → a + 1 ≡ b → HasWords d i a 16 words → HasWords d i b 0 words
next_words d i a b words e h = record {
  done = λ k lt. absurd (omega arith);
  left = λ k le lt. h.done k lt ∙ one_more d a ∙ ap (λ x. x * d) e;
}

-- ---- from each spot

module _ (R d i : ℕ) (small : AreSmall R d i) (words : List ℕ) (size : length words ≡ 64) where
  goes_Fresh : WordsAt R d i Fresh words → Goes R d i Fresh words (run_one (program R d i) (core_at R d i Fresh) words)
  goes_Fresh w = subst (λ (x : Ran). Goes R d i Fresh words x) (sym (sets_rounds R d i words)) (record {
    next = HasRounds;
    core = refl;
    fits = tt;
    mine = w;
    others = λ o k lo ne. refl;
    cost = omega arith;
    prints = inr (refl, refl);
  })

  goes_HasRounds : WordsAt R d i HasRounds words
      → Goes R d i HasRounds words (run_one (program R d i) (core_at R d i HasRounds) words)
  goes_HasRounds w = subst (λ (x : Ran). Goes R d i HasRounds words x) (sym (sets_increment R d i words)) (record {
    next = HasIncrement;
    core = refl;
    fits = tt;
    mine = w;
    others = λ o k lo ne. refl;
    cost = omega arith;
    prints = inr (refl, refl);
  })

  goes_HasIncrement : WordsAt R d i HasIncrement words
      → Goes R d i HasIncrement words (run_one (program R d i) (core_at R d i HasIncrement) words)
  goes_HasIncrement w = subst (λ (x : Ran). Goes R d i HasIncrement words x) (sym (sets_end R d i words)) (record {
    next = HasEnd;
    core = refl;
    fits = tt;
    mine = w;
    others = λ o k lo ne. refl;
    cost = omega arith;
    prints = inr (refl, refl);
  })

  goes_HasEnd : WordsAt R d i HasEnd words → Goes R d i HasEnd words (run_one (program R d i) (core_at R d i HasEnd) words)
  goes_HasEnd w = subst (λ (x : Ran). Goes R d i HasEnd words x) (sym (sets_stride R d i words)) (record {
    next = HasStride;
    core = refl;
    fits = tt;
    mine = w;
    others = λ o k lo ne. refl;
    cost = omega arith;
    prints = inr (refl, refl);
  })

  goes_HasStride : WordsAt R d i HasStride words
      → Goes R d i HasStride words (run_one (program R d i) (core_at R d i HasStride) words)
  goes_HasStride w = subst (λ (x : Ran). Goes R d i HasStride words x) (sym (sets_one R d i words)) (
      let some : 0 < R = small.some in
      let e : R ≡ R - 1 + 1 = omega arith in
      record {
        next = Outer (R - 1) 0 0 0;
        core = ap (λ (r : ℕ). looping_at d 5 r 0 0) e;
        fits = omega arith;
        mine = w;
        others = λ o k lo ne. refl;
        cost = omega arith;
        prints = inr (refl, refl);
      })

  goes_Outer : (l a x y : ℕ) → IsSpot R (Outer l a x y) → WordsAt R d i (Outer l a x y) words
      → Goes R d i (Outer l a x y) words (run_one (program R d i) (core_at R d i (Outer l a x y)) words)
  goes_Outer l a x y f w = subst (λ (z : Ran). Goes R d i (Outer l a x y) words z) (sym (goes_first R d i (l + 1) x y words))
      (record {
        next = Load l a 15 0 y;
        core = ap (λ (r : ℕ). looping_at d 6 (l + 1) r y) (let e : i ≡ i + 4 * 0 = omega arith in e);
        fits = (f, refl);
        mine = w;
        others = λ o k lo ne. refl;
        cost = omega arith;
        prints = inr (refl, refl);
      })

  goes_Load : (l a m n y : ℕ) → IsSpot R (Load l a m n y) → WordsAt R d i (Load l a m n y) words
      → Goes R d i (Load l a m n y) words (run_one (program R d i) (core_at R d i (Load l a m n y)) words)
  goes_Load l a m n y f w =
      let li : i < 4 = small.node in
      let fm : n + m + 1 ≡ 16 = f.1 in
      subst (λ (z : Ran). Goes R d i (Load l a m n y) words z)
      (sym (loads R d i (l + 1) (i + 4 * n) y (a * d) words (omega arith) size (w.left n (omega arith) (omega arith)))) (record {
        next = AddUp l a m n;
        core = refl;
        fits = f;
        mine = w;
        others = λ o k lo ne. refl;
        cost = omega arith;
        prints = inr (refl, refl);
      })

  goes_AddUp : (l a m n : ℕ) → IsSpot R (AddUp l a m n) → WordsAt R d i (AddUp l a m n) words
      → Goes R d i (AddUp l a m n) words (run_one (program R d i) (core_at R d i (AddUp l a m n)) words)
  goes_AddUp l a m n f w =
      let g : a * d + d ≤ 3104 = grown_small R d a l small.rounds small.increment f.0 in
      subst (λ (z : Ran). Goes R d i (AddUp l a m n) words z)
      (sym (adds R d i (l + 1) (i + 4 * n) (a * d) words (omega arith))) (record {
        next = Keep l a m n;
        core = refl;
        fits = f;
        mine = w;
        others = λ o k lo ne. refl;
        cost = omega arith;
        prints = inr (refl, refl);
      })

  goes_Keep : (l a m n : ℕ) → IsSpot R (Keep l a m n) → WordsAt R d i (Keep l a m n) words
      → Goes R d i (Keep l a m n) words (run_one (program R d i) (core_at R d i (Keep l a m n)) words)
  goes_Keep l a m n f w =
      let li : i < 4 = small.node in
      let fm : n + m + 1 ≡ 16 = f.1 in
      subst (λ (z : Ran). Goes R d i (Keep l a m n) words z)
      (sym (stores R d i (l + 1) (i + 4 * n) (a * d + d) words (omega arith) size)) (record {
        next = Move l a m n;
        core = refl;
        fits = f;
        mine = stored_words d i a n m words li size fm w;
        others = λ o k lo ne. stored_others i n (a * d + d) o k words li lo ne;
        cost = omega arith;
        prints = inr (refl, refl);
      })

  goes_Move : (l a m n : ℕ) → IsSpot R (Move l a m n) → WordsAt R d i (Move l a m n) words
      → Goes R d i (Move l a m n) words (run_one (program R d i) (core_at R d i (Move l a m n)) words)
  goes_Move l a m n f w =
      let li : i < 4 = small.node in
      let fm : n + m + 1 ≡ 16 = f.1 in
      subst (λ (z : Ran). Goes R d i (Move l a m n) words z)
      (sym (moves R d i (l + 1) (i + 4 * n) (a * d + d) words (omega arith))) (record {
        next = Back l a m n;
        core = refl;
        fits = f;
        mine = w;
        others = λ o k lo ne. refl;
        cost = omega arith;
        prints = inr (refl, refl);
      })

  goes_Back : (l a m n : ℕ) → IsSpot R (Back l a m n) → WordsAt R d i (Back l a m n) words
      → Goes R d i (Back l a m n) words (run_one (program R d i) (core_at R d i (Back l a m n)) words)
  goes_Back l a zero n f w =
      let fm : n + 0 + 1 ≡ 16 = f.1 in
      let e : n ≡ 15 = omega arith in
      let x : i + 4 * n + 4 ≡ i + 64 = omega arith in
      let past = ap (λ (r : ℕ). run_one (program R d i) (looping_at d 10 (l + 1) r (a * d + d)) words) x
      ∙ goes_past R d i (l + 1) (a * d + d) words in
      subst (λ (z : Ran). Goes R d i (Back l a 0 n) words z) (sym past) (record {
        next = Count l a;
        core = refl;
        fits = f.0;
        mine = subst (λ (c : ℕ). HasWords d i a c words) (let q : n + 1 ≡ 16 = omega arith in q) w;
        others = λ o k lo ne. refl;
        cost = omega arith;
        prints = inr (refl, refl);
      })
  goes_Back l a (suc m) n f w =
      let li : i < 4 = small.node in
      let fm : n + suc m + 1 ≡ 16 = f.1 in
      let x : i + 4 * n + 4 ≡ i + 4 * (n + 1) = omega arith in
      subst (λ (z : Ran). Goes R d i (Back l a (suc m) n) words z)
      (sym (goes_back R d i (l + 1) (i + 4 * n + 4) (a * d + d) words (omega arith))) (record {
        next = Load l a m (n + 1) (a * d + d);
        core = ap (λ (r : ℕ). looping_at d 6 (l + 1) r (a * d + d)) x;
        fits = (f.0, omega arith);
        mine = w;
        others = λ o k lo ne. refl;
        cost = omega arith;
        prints = inr (refl, refl);
      })

  goes_Count : (l a : ℕ) → IsSpot R (Count l a) → WordsAt R d i (Count l a) words
      → Goes R d i (Count l a) words (run_one (program R d i) (core_at R d i (Count l a)) words)
  goes_Count l a f w =
      let few : R ≤ 32 = small.rounds in
      let fl : a + l + 1 ≡ R = f in
      subst (λ (z : Ran). Goes R d i (Count l a) words z) (sym (counts R d i l (i + 64) (a * d + d) words (omega arith)))
      (record {
        next = Again l a;
        core = refl;
        fits = f;
        mine = w;
        others = λ o k lo ne. refl;
        cost = omega arith;
        prints = inr (refl, refl);
      })

  goes_Again : (l a : ℕ) → IsSpot R (Again l a) → WordsAt R d i (Again l a) words
      → Goes R d i (Again l a) words (run_one (program R d i) (core_at R d i (Again l a)) words)
  goes_Again zero a f w =
      let fl : a + 0 + 1 ≡ R = f in
      let e : a + 1 ≡ R = omega arith in
      subst (λ (z : Ran). Goes R d i (Again 0 a) words z) (sym (ends_rounds R d i (i + 64) (a * d + d) words)) (record {
        next = Fetch;
        core = ap (λ (v : ℕ). looping_at d 13 0 (i + 64) v) (one_more d a ∙ ap (λ x. x * d) e);
        fits = tt;
        mine = next_words d i a R words e w;
        others = λ o k lo ne. refl;
        cost = omega arith;
        prints = inr (refl, refl);
      })
  goes_Again (suc l) a f w =
      let fl : a + suc l + 1 ≡ R = f in
      let again = ap (λ (r : ℕ). run_one (program R d i) (looping_at d 12 r (i + 64) (a * d + d)) words)
      (let q : suc l ≡ l + 1 = omega arith in q)
      ∙ begins_again R d i l (i + 64) (a * d + d) words in
      subst (λ (z : Ran). Goes R d i (Again (suc l) a) words z) (sym again) (record {
        next = Outer l (a + 1) (i + 64) (a * d + d);
        core = refl;
        fits = omega arith;
        mine = next_words d i a (a + 1) words refl w;
        others = λ o k lo ne. refl;
        cost = omega arith;
        prints = inr (refl, refl);
      })

  goes_Fetch : WordsAt R d i Fetch words → Goes R d i Fetch words (run_one (program R d i) (core_at R d i Fetch) words)
  goes_Fetch w =
      let li : i < 4 = small.node in
      let first : slice_index words i ≡ R * d = ap (slice_index words) (let e : i ≡ i + 4 * 0 = omega arith in e)
      ∙ w.left 0 (omega arith) (omega arith) in
      subst (λ (z : Ran). Goes R d i Fetch words z)
      (sym (fetches R d i (i + 64) (R * d) (R * d) words (omega arith) size first)) (record {
        next = Show;
        core = refl;
        fits = tt;
        mine = w;
        others = λ o k lo ne. refl;
        cost = omega arith;
        prints = inr (refl, refl);
      })

  goes_Show : WordsAt R d i Show words → Goes R d i Show words (run_one (program R d i) (core_at R d i Show) words)
  goes_Show w = subst (λ (z : Ran). Goes R d i Show words z) (sym (prints R d i (i + 64) (R * d) (R * d) words)) (record {
    next = Stop;
    core = refl;
    fits = tt;
    mine = w;
    others = λ o k lo ne. refl;
    cost = omega arith;
    prints = inl refl;
  })

  goes_Stop : WordsAt R d i Stop words → Goes R d i Stop words (run_one (program R d i) (core_at R d i Stop) words)
  goes_Stop w = subst (λ (z : Ran). Goes R d i Stop words z)
      (sym (halts R d i (registers 0 d (i + 64) 64 (R * d) 4 1 (R * d)) words)) (record {
        next = Over;
        core = refl;
        fits = tt;
        mine = w;
        others = λ o k lo ne. refl;
        cost = omega arith;
        prints = tt;
      })

  -- any step of a node that has not halted
  pub goes : (spot : Spot) → (core_at R d i spot).mode ≡ Running → IsSpot R spot → WordsAt R d i spot words
      → Goes R d i spot words (run_one (program R d i) (core_at R d i spot) words)
  goes Fresh e f w = goes_Fresh w
  goes HasRounds e f w = goes_HasRounds w
  goes HasIncrement e f w = goes_HasIncrement w
  goes HasEnd e f w = goes_HasEnd w
  goes HasStride e f w = goes_HasStride w
  goes (Outer l a x y) e f w = goes_Outer l a x y f w
  goes (Load l a m n y) e f w = goes_Load l a m n y f w
  goes (AddUp l a m n) e f w = goes_AddUp l a m n f w
  goes (Keep l a m n) e f w = goes_Keep l a m n f w
  goes (Move l a m n) e f w = goes_Move l a m n f w
  goes (Back l a m n) e f w = goes_Back l a m n f w
  goes (Count l a) e f w = goes_Count l a f w
  goes (Again l a) e f w = goes_Again l a f w
  goes Fetch e f w = goes_Fetch w
  goes Show e f w = goes_Show w
  goes Stop e f w = goes_Stop w
  goes Over e f w = absurd (let z : Halted ≡ Running = e in cc)
