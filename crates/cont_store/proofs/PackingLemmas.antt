-- Packing and unpacking, a value at a time.
use Rattle.std.proofs.Common.{◌≡◌, ℕ, zero, suc, ◌+◌, ◌-◌, ◌*◌, ◌/◌, ◌%◌, ◌<◌, ◌≤◌, ◌^◌, ◌==◌, Bool, true, false, not, cond}
use Rattle.std.proofs.Common.{List, [], ◌∷◌, ◌++◌, length, get_or, set, take, drop, replicate, refl, sym, ap, ◌∙◌, arith}
use Rattle.std.proofs.Common.{append_assoc, append-nil, length-drop, pow-suc}
use Rattle.std.proofs.lemmas.Bool.Decides.{nat_tests}
use Rattle.std.proofs.lemmas.Nat.{pow_pos}
use Rattle.std.proofs.Math.Nat.{mul-add-mod_self_left}
use Rattle.std.proofs.lemmas.List.{drop_more, take_all, take_more, take_more_set, take-append-drop, drop-set-lt, length-replicate}
use Rattle.std.proofs.lemmas.List.Sums.{length-filter}
use Rattle.tw_base.specs.declared.value.Value.{Value}
use Rattle.tw_base.specs.declared.value.Value.TheVariants.{Int}
use Rattle.cont_store.specs.Packing.{IsPacked, is_zero, kept, kept_count, mask_of, unpacked, taken, left_after}

pub length-kept : (values : List Value) → length (kept values) ≡ kept_count values
length-kept values = length-filter (λ v. not (is_zero v)) values

pub is_zero-is : (v : Value) → is_zero v ≡ true → v ≡ Int 0
is_zero-is (Int n) e = grind arith
is_zero-is _ e = absurd (cc)

bit-few : (b : Bool) → cond b 1 0 ≤ 1
bit-few true = omega arith
bit-few false = omega arith

-- a list of so many values has a mask of so many bits
pub mask_of-fits : (n : ℕ) (values : List Value) → length values ≤ n → mask_of values < 2 ^ n
mask_of-fits n [] few = pow_pos n
mask_of-fits zero (v ∷ vs) few = absurd (omega arith)
mask_of-fits (suc n) (v ∷ vs) few =
    omega (arith, mask_of-fits n vs (omega (arith, few)), pow-suc 2 n, bit-few (not (is_zero v)))

low_bit : (b : Bool) (m : ℕ) → (2 * m + cond b 1 0) % 2 == 1 ≡ b
low_bit true m = rw (mul-add-mod_self_left 2 m 1)
low_bit false m = rw (mul-add-mod_self_left 2 m 0)

high_bits : (b : Bool) (m : ℕ) → (2 * m + cond b 1 0) / 2 ≡ m
high_bits true m = omega arith
high_bits false m = omega arith

unpacked-turn : (b : Bool) (v : Value) (m n : ℕ) (packed more vs : List Value) → (b ≡ false → v ≡ Int 0) →
    unpacked n m (packed ++ more) ≡ vs → unpacked (suc n) (2 * m + cond b 1 0) (cond b (v ∷ packed) packed ++ more) ≡ v ∷ vs
unfolding unpacked
unpacked-turn true v m n packed more vs zero_is rest =
    rw (low_bit true m, high_bits true m) (ap (λ xs. v ∷ xs) rest)
unpacked-turn false v m n packed more vs zero_is rest =
    rw (low_bit false m, high_bits false m, zero_is refl) (ap (λ xs. Int 0 ∷ xs) rest)

not_kept : (v : Value) → not (is_zero v) ≡ false → v ≡ Int 0
not_kept v e = is_zero-is v (grind arith)

-- packing, then unpacking
pub unpacked-kept : (values more : List Value) → unpacked (length values) (mask_of values) (kept values ++ more) ≡ values
unfolding unpacked
unpacked-kept [] more = refl
unpacked-kept (v ∷ vs) more =
    unpacked-turn (not (is_zero v)) v (mask_of vs) (length vs) (kept vs) more vs (not_kept v) (unpacked-kept vs more)

-- ---- the loop that packs

kept_rest : (v : Value) (vs : List Value) → is_zero v ≡ true → kept (v ∷ vs) ≡ kept vs
kept_rest v vs test = ap (λ b. cond (not b) (v ∷ kept vs) (kept vs)) test

count_rest : (v : Value) (vs : List Value) → is_zero v ≡ true → kept_count (v ∷ vs) ≡ kept_count vs
count_rest v vs test = sym (length-kept (v ∷ vs)) ∙ ap length (kept_rest v vs test) ∙ length-kept vs

mask_rest : (v : Value) (vs : List Value) → is_zero v ≡ true → mask_of (v ∷ vs) ≡ mask_of vs * 2
mask_rest v vs test = ap (λ b. 2 * mask_of vs + cond (not b) 1 0) test ∙ omega arith

-- a value that is Int 0
pub packed-same : (values places : List Value) (place count mask : ℕ) (v : Value) →
    IsPacked (drop (place + 1) values) places count mask → length values ≡ 21 → place < 21 → v ≡ get_or values place v →
    is_zero v ≡ true
    → IsPacked (drop place values) places count (mask * 2)
packed-same values places place count mask v p all low is test =
    let here : drop place values ≡ v ∷ drop (place + 1) values = drop_more values place v (omega (arith, all))
    ∙ ap (λ x. x ∷ drop (place + 1) values) (sym is) in
    rw here (record {
      long = p.long;
      kept_last = p.kept_last ∙ sym (kept_rest v (drop (place + 1) values) test);
      counted = p.counted ∙ sym (count_rest v (drop (place + 1) values) test);
      masked = ap (λ n. n * 2) p.masked ∙ sym (mask_rest v (drop (place + 1) values) test);
    })

-- ---- the loop that unpacks

pub unpack-turn : (values next : List Value) (place bits : ℕ) (left left' whole : List Value) → place < 21 →
    take (place + 1) next ≡ take place values ++ taken (bits % 2 == 1) left ∷ [] → left' ≡ left_after (bits % 2 == 1) left →
    take place values ++ unpacked (21 - place) bits left ≡ whole →
    take (place + 1) next ++ unpacked (21 - (place + 1)) (bits / 2) left' ≡ whole
unfolding unpacked
unpack-turn values next place bits left left' whole within front back due =
    let more : 21 - place ≡ suc (21 - (place + 1)) = omega arith in
    let due' : take place values ++ unpacked (suc (21 - (place + 1))) bits left ≡ whole = rw more at due in
    rw (front, append_assoc, back) due'

abbrev pub zeros : ℕ → List Value
zeros n = replicate n (Int 0)

unwritten-within : (values : List Value) (place : ℕ) → place < 21 → drop place values ≡ zeros (21 - place) → place < length values
unwritten-within values place within rest =
    omega (arith, sym (length-drop place values) ∙ ap length rest ∙ length-replicate (21 - place) (Int 0))

unwritten-here : (values : List Value) (place : ℕ) → place < 21 → drop place values ≡ zeros (21 - place) →
    get_or values place (Int 0) ∷ drop (place + 1) values ≡ Int 0 ∷ zeros (21 - (place + 1))
unwritten-here values place within rest =
    let more : 21 - place ≡ suc (21 - (place + 1)) = omega arith in
    sym (drop_more values place (Int 0) (unwritten-within values place within rest)) ∙ rest ∙ ap zeros more

pub unpack-unwritten : (values : List Value) (place : ℕ) → place < 21 → drop place values ≡ zeros (21 - place) →
    drop (place + 1) values ≡ zeros (21 - (place + 1))
unpack-unwritten values place within rest = ap (drop 1) (unwritten-here values place within rest)

pub taken-none : (b : Bool) (left : List Value) → length left < 1 → taken b left ≡ Int 0
taken-none true [] none = refl
taken-none false [] none = refl
taken-none b (v ∷ left) none = absurd (omega arith)

pub left_after-none : (b : Bool) (left : List Value) → length left < 1 → left_after b left ≡ left
left_after-none true [] none = refl
left_after-none false [] none = refl
left_after-none b (v ∷ left) none = absurd (omega arith)

pub taken-unset : (b : Bool) (left : List Value) → b ≡ false → taken b left ≡ Int 0
taken-unset true left unset = absurd (cc)
taken-unset false left unset = refl

pub left_after-unset : (b : Bool) (left : List Value) → b ≡ false → left_after b left ≡ left
left_after-unset true left unset = absurd (cc)
left_after-unset false left unset = refl

pub bit-unset : (n : ℕ) → (n ≡ 1 → ⊥) → (n == 1) ≡ false
bit-unset n differs = grind (arith, nat_tests)

-- a place that is left as it was
pub unpack-skip : (values next : List Value) (place bits : ℕ) (left left' whole : List Value) → place < 21 → next ≡ values →
    left' ≡ left → taken (bits % 2 == 1) left ≡ Int 0 → left_after (bits % 2 == 1) left ≡ left →
    drop place values ≡ zeros (21 - place) → take place values ++ unpacked (21 - place) bits left ≡ whole →
    record {
      due : take (place + 1) next ++ unpacked (21 - (place + 1)) (bits / 2) left' ≡ whole;
      unwritten : drop (place + 1) next ≡ zeros (21 - (place + 1));
    }
unpack-skip values next place bits left left' whole within same stays zero_taken none rest due =
    let front : take (place + 1) values ≡ take place values ++ taken (bits % 2 == 1) left ∷ [] =
    take_more values place (Int 0) (unwritten-within values place within rest)
    ∙ ap (λ v. take place values ++ v ∷ []) (ap (λ vs. get_or vs 0 (Int 0)) (unwritten-here values place within rest)
    ∙ sym zero_taken) in
    record {
      due = unpack-turn values next place bits left left' whole within (ap (take (place + 1)) same ∙ front)
          (stays ∙ sym none) due;
      unwritten = ap (drop (place + 1)) same ∙ unpack-unwritten values place within rest;
    }

-- a place that takes the next packed value
pub unpack-fill : (values next : List Value) (place bits : ℕ) (left left' whole : List Value) (first : Value) → place < 21 →
    next ≡ set values place first → left' ≡ take (length left - 1) (drop 1 left) → first ≡ get_or left 0 first →
    1 ≤ length left → bits % 2 ≡ 1 → drop place values ≡ zeros (21 - place) →
    take place values ++ unpacked (21 - place) bits left ≡ whole →
    record {
      due : take (place + 1) next ++ unpacked (21 - (place + 1)) (bits / 2) left' ≡ whole;
      unwritten : drop (place + 1) next ≡ zeros (21 - (place + 1));
    }
unpack-fill values next place bits [] left' whole first within wrote rest_is is some odd rest due = absurd (omega (arith, some))
unpack-fill values next place bits (v ∷ left) left' whole first within wrote rest_is is some odd rest due =
    let front : take (place + 1) next ≡ take place values ++ taken (bits % 2 == 1) (v ∷ left) ∷ [] =
    rw (wrote, odd, ← is) (take_more_set values place first (unwritten-within values place within rest)) in
    let back : left' ≡ left_after (bits % 2 == 1) (v ∷ left) =
    rw odd (rest_is ∙ take_all (length (v ∷ left) - 1) left (omega arith)) in
    record {
      due = unpack-turn values next place bits (v ∷ left) left' whole within front back due;
      unwritten = ap (drop (place + 1)) wrote ∙ drop-set-lt (place + 1) values place first (omega arith)
          ∙ unpack-unwritten values place within rest;
    }

pub unpack-done : (values : List Value) (place mask bits : ℕ) (left whole : List Value) → place ≤ 21 → 21 ≤ place →
    drop place values ≡ zeros (21 - place) → take place values ++ unpacked (21 - place) bits left ≡ whole → values ≡ whole
unfolding unpacked
unpack-done values place mask bits left whole few past rest due =
    let none : 21 - place ≡ 0 = omega arith in
    let due' : take place values ≡ whole = sym (append-nil _) ∙ rw none at due in
    let rest' : drop place values ≡ [] = rw none at rest in
    sym (take-append-drop place values) ∙ ap (λ xs. take place values ++ xs) rest' ∙ append-nil _ ∙ due'

-- ---- a record's values

pub unpacked-packed : (values room : List Value) → length values ≡ 21 → take (kept_count values) room ≡ kept values →
    unpacked 21 (mask_of values) room ≡ values
unpacked-packed values room all front =
    let whole : kept values ++ drop (kept_count values) room ≡ room =
    ap (λ xs. xs ++ drop (kept_count values) room) (sym front) ∙ take-append-drop (kept_count values) room in
    ap (λ n. unpacked n (mask_of values) room) (sym all)
    ∙ ap (unpacked (length values) (mask_of values)) (sym whole)
    ∙ unpacked-kept values (drop (kept_count values) room)
