-- Where the ops of an instruction stand, and what a guarded program stands for.
use Rattle.std.proofs.Common.{◌≡◌, ℕ, zero, suc, ◌+◌, ◌≤◌, List, [], ◌∷◌, ◌++◌, length, drop, get_or, replicate, refl, ap, sym}
use Rattle.std.proofs.Common.{◌∙◌, All, append_assoc, add-zero, add-one, zero-add, arith}
use Rattle.std.proofs.lemmas.List.{drop-drop, drop_at, length_push, length-replicate, get_or-drop}
use Rattle.mini_asm.specs.Programs.{GoesWithin, IsInstr, IsProgram}
use Rattle.mini_asm.specs.declared.instr.Instr.{Instr}
use Rattle.mini_asm.specs.declared.instr.Instr.TheVariants.{Ld, Beq, Bne, Blt, Jmp}
use Rattle.blizzard_guard.specs.declared.guarding.GuardOp.{GuardOp}
use Rattle.blizzard_guard.specs.declared.guarding.GuardOp.TheVariants.{Do}
use Rattle.blizzard_guard.specs.declared.guarding.Guarded.{Guarded}
use Rattle.blizzard_guard.specs.Guarding.{check_of, first_op, starts_from, moved, ops_of, places_from, guarded, plain_place}
use Rattle.blizzard_guard.specs.Guarding.{plain_ops, plain_of}

-- ---- places

past : {X : Type 0} (front rest : List X) (len n : ℕ) → length front ≡ len → drop (len + n) (front ++ rest) ≡ drop n rest
past front rest len n e = sym (drop-drop n len (front ++ rest)) ∙ ap (drop n) (drop_at front rest len e)

-- past the ops of an instruction
past_ops : (checks : List GuardOp) (o : GuardOp) (rest : List GuardOp) (n : ℕ)
    → drop (length checks + 1 + n) (checks ++ o ∷ rest) ≡ drop n rest
past_ops checks o rest n =
    ap (drop (length checks + 1 + n)) (sym (append_assoc checks (o ∷ []) rest))
    ∙ past (checks ++ o ∷ []) rest (length checks + 1) n (length_push checks o)

pub drop-ops_of : (f : ℕ → ℕ) (p : List Instr) (k : ℕ) → drop (first_op p k) (ops_of f p) ≡ ops_of f (drop k p)
drop-ops_of f [] zero = refl
drop-ops_of f [] (suc k) = refl
drop-ops_of f (i ∷ is) zero = refl
drop-ops_of f (i ∷ is) (suc k) = past_ops (check_of i) (Do (moved f i)) (ops_of f is) (first_op is k) ∙ drop-ops_of f is k

drop-places_from : (b : ℕ) (p : List Instr) (k : ℕ) → k ≤ length p
    → drop (first_op p k) (places_from b p) ≡ places_from (b + k) (drop k p)
drop-places_from b [] zero h = ap (λ n. places_from n []) (sym (add-zero b))
drop-places_from b [] (suc k) h = absurd (omega arith)
drop-places_from b (i ∷ is) zero h = ap (λ n. places_from n (i ∷ is)) (sym (add-zero b))
drop-places_from b (i ∷ is) (suc k) h =
    let e : b + 1 + k ≡ b + suc k = omega arith in
    let len = length (check_of i) + 1 in
    past (replicate len b) (places_from (b + 1) is) len (first_op is k) (length-replicate len b)
    ∙ drop-places_from (b + 1) is k (omega arith) ∙ ap (λ n. places_from n (drop k is)) e

pub first_place : (b : ℕ) (p : List Instr) → get_or (places_from b p) 0 0 ≡ b
first_place b [] = refl
first_place b (i ∷ is) = rw (add-one (length (check_of i))) refl

-- the first op of an instruction has its place
pub plain_first : (p : List Instr) (k : ℕ) → k ≤ length p → get_or (places_from 0 p) (first_op p k) 0 ≡ k
plain_first p k h =
    ap (λ n. get_or (places_from 0 p) n 0) (sym (add-zero (first_op p k)))
    ∙ sym (get_or-drop (first_op p k) (places_from 0 p) 0 0)
    ∙ ap (λ (xs : List ℕ). get_or xs 0 0) (drop-places_from 0 p k h) ∙ first_place (0 + k) (drop k p) ∙ zero-add k

pub get_or-starts_from : (n : ℕ) (p : List Instr) (k : ℕ) → k ≤ length p → get_or (starts_from n p) k 0 ≡ n + first_op p k
get_or-starts_from n [] zero h = sym (add-zero n)
get_or-starts_from n [] (suc k) h = absurd (omega arith)
get_or-starts_from n (i ∷ is) zero h = sym (add-zero n)
get_or-starts_from n (i ∷ is) (suc k) h = get_or-starts_from (n + (length (check_of i) + 1)) is k (omega arith) ∙ omega arith

-- ---- jumps

moved_same : (f g : ℕ → ℕ) (end : ℕ) (i : Instr) → GoesWithin end i → ((t : ℕ) → t ≤ end → f t ≡ g t) → moved f i ≡ moved g i
moved_same f g end (Beq a b place) w h = ap (λ t. Beq a b t) (h place w)
moved_same f g end (Bne a b place) w h = ap (λ t. Bne a b t) (h place w)
moved_same f g end (Blt a b place) w h = ap (λ t. Blt a b t) (h place w)
moved_same f g end (Jmp place) w h = ap (λ t. Jmp t) (h place w)
moved_same f g end _ w h = refl

moved_back : (f g : ℕ → ℕ) (end : ℕ) (i : Instr) → GoesWithin end i → ((t : ℕ) → t ≤ end → g (f t) ≡ t) → moved g (moved f i) ≡ i
moved_back f g end (Beq a b place) w h = ap (λ t. Beq a b t) (h place w)
moved_back f g end (Bne a b place) w h = ap (λ t. Bne a b t) (h place w)
moved_back f g end (Blt a b place) w h = ap (λ t. Blt a b t) (h place w)
moved_back f g end (Jmp place) w h = ap (λ t. Jmp t) (h place w)
moved_back f g end _ w h = refl

head_of : {X : Type 0} (P : X → Type 0) (x : X) (xs : List X) → All P (x ∷ xs) → P x
head_of P x xs all = all 0 x (omega arith)

tail_of : {X : Type 0} (P : X → Type 0) (x : X) (xs : List X) → All P (x ∷ xs) → All P xs
tail_of P x xs all = λ k d h. all (suc k) d (omega arith)

pub ops_of_same : (f g : ℕ → ℕ) (end : ℕ) (p : List Instr) → All (IsInstr end) p → ((t : ℕ) → t ≤ end → f t ≡ g t)
    → ops_of f p ≡ ops_of g p
ops_of_same f g end [] all h = refl
ops_of_same f g end (i ∷ is) all h =
    let head = head_of (IsInstr end) i is all in
    let tail = tail_of (IsInstr end) i is all in
    rw (moved_same f g end i head.1 h, ops_of_same f g end is tail h) refl

past_check : (f : ℕ → ℕ) (i : Instr) (ops : List GuardOp) → plain_ops f (check_of i ++ ops) ≡ plain_ops f ops
past_check f (Ld d a n) ops = refl
past_check f _ ops = refl

plain_ops_of : (f g : ℕ → ℕ) (end : ℕ) (p : List Instr) → All (IsInstr end) p → ((t : ℕ) → t ≤ end → g (f t) ≡ t)
    → plain_ops g (ops_of f p) ≡ p
plain_ops_of f g end [] all h = refl
plain_ops_of f g end (i ∷ is) all h =
    let head = head_of (IsInstr end) i is all in
    let tail = tail_of (IsInstr end) i is all in
    past_check g i (Do (moved f i) ∷ ops_of f is) ∙ rw (moved_back f g end i head.1 h, plain_ops_of f g end is tail h) refl

-- a guarded program stands for the program that it was made of
pub plain_of-guarded : (p : List Instr) → IsProgram p → plain_of (guarded p) ≡ p
unfolding plain_of
plain_of-guarded p valid = plain_ops_of (first_op p) (plain_place (guarded p)) (length p) p valid.each (plain_first p)

-- a guarded program from its parts
pub guarded_is : (p q : List Instr) (starts found : List ℕ) (ops : List GuardOp) (places : List ℕ)
    → IsProgram p → q ≡ p → found ≡ starts_from 0 q → starts ≡ found → ops ≡ ops_of (λ k. get_or starts k 0) q
    → places ≡ places_from 0 q
    → ◌≡◌ {A = Guarded} (record { ops = ops; plain = places }) (guarded p)
guarded_is p q starts found ops places valid same first here at plain =
    let all : starts ≡ starts_from 0 p = here ∙ first ∙ ap (starts_from 0) same in
    let by_start : (k : ℕ) → k ≤ length p → get_or starts k 0 ≡ first_op p k =
    λ k h. ap (λ (xs : List ℕ). get_or xs k 0) all ∙ get_or-starts_from 0 p k h ∙ zero-add (first_op p k) in
    rw (at, plain, same, ops_of_same (λ k. get_or starts k 0) (first_op p) (length p) p valid.each by_start) refl
