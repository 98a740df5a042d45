-- What words are that look like options.
use Rattle.std.proofs.Common.{◌≡◌, ℕ, suc, ◌+◌, ◌==◌, ◌||◌, Bool, true, false, cond, not, length, List, [], ◌∷◌, ◌++◌, take}
use Rattle.std.proofs.Common.{drop, Option, Some, None, unwrap_or, refl, sym, ap, ap₂, ◌∙◌, codes, arith}
use Rattle.std.specs.Option.{option_and_then}
use Rattle.std.specs.List.{after_first, before_first, list_any, position_or_len}
use Rattle.std.specs.Str.{bytes_eq}
use Rattle.std.proofs.lemmas.Bool.Decides.{nat_tests}
use Rattle.std.proofs.lemmas.List.{take-append-drop, take_all}
use Rattle.std.proofs.lemmas.Slice.Eq.{bytes_eq-Decides}
use Rattle.clap.specs.Lexer.{has_byte, long_of, long_of_rest, name_and_value, short_of, short_of_rest, strip_byte}
use Rattle.clap.specs.Walk.{Text}
use Rattle.tempest_words.specs.Lines.{begins_with_a_dash}

same_number : (b c : ℕ) → (b == c) ≡ true → b ≡ c
same_number b c e = grind (arith, nat_tests)

-- it begins with a dash
pub record IsDashed (x : Text) : Type 0 where
  pub rest : Text
  pub is : x ≡ 45 ∷ rest

pub begins-dashed : (x : Text) → begins_with_a_dash x ≡ true → IsDashed x
begins-dashed [] e = absurd (cc)
begins-dashed (b ∷ bs) e = record { rest = bs; is = ap (λ n. n ∷ bs) (same_number b 45 e) }

pub dashed-begins : (x : Text) → IsDashed x → begins_with_a_dash x ≡ true
dashed-begins x d = ap begins_with_a_dash d.is

stripped : (x rest : Text) → strip_byte 45 x ≡ Some rest → x ≡ 45 ∷ rest
stripped [] rest e = absurd (cc)
stripped (b ∷ bs) rest e = go (b == 45) refl e
  where
    go : (t : Bool) → (b == 45) ≡ t → cond t (Some bs) None ≡ Some rest → b ∷ bs ≡ 45 ∷ rest
    go true is e = let same : bs ≡ rest = cc in ap₂ (λ n ns. n ∷ ns) (same_number b 45 is) same
    go false is e = absurd (cc)

pub short-dashed : (x flags : Text) → short_of x ≡ Some flags → IsDashed x
short-dashed x flags e = go (strip_byte 45 x) refl e
  where
    go : (o : Option Text) → strip_byte 45 x ≡ o → option_and_then short_of_rest o ≡ Some flags → IsDashed x
    go None is e = absurd (cc)
    go (Some rest) is e = record { rest = rest; is = stripped x rest is }

-- ---- long names

-- what a word is that has a long name
pub record IsNamed (x name : Text) (v : Option Text) : Type 0 where
  pub rest : Text
  pub is : x ≡ 45 ∷ 45 ∷ rest
  pub parts : name_and_value rest ≡ (name, v)

pub long-named : (x name : Text) (v : Option Text) → long_of x ≡ Some (name, v) → IsNamed x name v
long-named x name v e = first (strip_byte 45 x) refl e
  where
    third : (once rest : Text) → x ≡ 45 ∷ once → once ≡ 45 ∷ rest → long_of_rest rest ≡ Some (name, v) → IsNamed x name v
    third once [] is next e = absurd (cc)
    third once (y ∷ ys) is next e = record {
      rest = y ∷ ys;
      is = is
          ∙ ap (λ l. 45 ∷ l) next;
      parts = ap (λ o. unwrap_or o ([], None)) e;
    }

    second : (once : Text) (o : Option Text) → x ≡ 45 ∷ once → strip_byte 45 once ≡ o
        → option_and_then long_of_rest o ≡ Some (name, v) → IsNamed x name v
    second once None is found e = absurd (cc)
    second once (Some rest) is found e = third once rest is (stripped once rest found) e

    first : (o : Option Text) → strip_byte 45 x ≡ o
        → option_and_then long_of_rest (option_and_then (strip_byte 45) o) ≡ Some (name, v) → IsNamed x name v
    first None found e = absurd (cc)
    first (Some once) found e = second once (strip_byte 45 once) (stripped x once found) refl e

pub named-dashed : (x name : Text) (v : Option Text) → IsNamed x name v → IsDashed x
named-dashed x name v n = record { rest = 45 ∷ n.rest; is = n.is }

no_place : (text : Text) → list_any (λ b. b == 61) text ≡ false → position_or_len (λ b. b == 61) text ≡ length text
no_place [] e = refl
no_place (b ∷ bs) e = go (b == 61) e (no_place bs)
  where
    go : (t : Bool) → (t || list_any (λ c. c == 61) bs) ≡ false
        → (list_any (λ c. c == 61) bs ≡ false → position_or_len (λ c. c == 61) bs ≡ length bs)
        → cond (not t) (1 + position_or_len (λ c. c == 61) bs) 0 ≡ suc (length bs)
    go true e ih = absurd (cc)
    go false e ih = let same : position_or_len (λ c. c == 61) bs ≡ length bs = ih e in omega arith

all_before : (text : Text) → list_any (λ b. b == 61) text ≡ false → before_first (λ b. b == 61) text ≡ text
all_before text e = ap (λ n. take n text) (no_place text e) ∙ take_all (length text) text (omega arith)

cut : (text : Text) → list_any (λ b. b == 61) text ≡ true
    → text ≡ before_first (λ b. b == 61) text ++ 61 ∷ after_first (λ b. b == 61) text
cut [] e = absurd (cc)
cut (b ∷ bs) e = go (b == 61) refl e (cut bs)
  where
    go : (t : Bool) → (b == 61) ≡ t → (t || list_any (λ c. c == 61) bs) ≡ true
        → (list_any (λ c. c == 61) bs ≡ true → bs ≡ before_first (λ c. c == 61) bs ++ 61 ∷ after_first (λ c. c == 61) bs)
        → b ∷ bs ≡ take (cond (not t) (1 + position_or_len (λ c. c == 61) bs) 0) (b ∷ bs) ++ 61 ∷ drop
        (cond (not t) (1 + position_or_len (λ c. c == 61) bs) 0 + 1) (b ∷ bs)
    go true is e ih = ap (λ n. n ∷ bs) (same_number b 61 is)
    go false is e ih =
        let n : ℕ = position_or_len (λ c. c == 61) bs in
        let one : 1 + n ≡ suc n = omega arith in
        let two : suc n + 1 ≡ suc (n + 1) = omega arith in
        ap (λ l. b ∷ l) (ih e)
        ∙ ap₂ (λ k m. take k (b ∷ bs) ++ 61 ∷ drop m (b ∷ bs)) (sym one) (sym (ap (λ k. k + 1) one ∙ two))

pub named-alone : (x name : Text) → IsNamed x name None → x ≡ 45 ∷ 45 ∷ name
named-alone x name n = go (has_byte 61 n.rest) refl
  where
    go : (t : Bool) → has_byte 61 n.rest ≡ t → x ≡ 45 ∷ 45 ∷ name
    go false e = n.is ∙ ap (λ l. 45 ∷ 45 ∷ l) (sym (all_before n.rest e) ∙ ap (λ (p : Text × Option Text). p.0) n.parts)
    go true e = let bad : Some (after_first (λ b. b == 61) n.rest) ≡ None = sym
        (ap (λ t. cond t (Some (after_first (λ b. b == 61) n.rest)) None) e)
        ∙ ap (λ (p : Text × Option Text). p.1) n.parts in absurd (cc)

pub named-valued : (x name v : Text) → IsNamed x name (Some v) → x ≡ 45 ∷ 45 ∷ (name ++ 61 ∷ v)
named-valued x name v n = go (has_byte 61 n.rest) refl
  where
    go : (t : Bool) → has_byte 61 n.rest ≡ t → x ≡ 45 ∷ 45 ∷ (name ++ 61 ∷ v)
    go false e = let bad : None ≡ Some v = sym (ap (λ t. cond t (Some (after_first (λ b. b == 61) n.rest)) None) e)
        ∙ ap (λ (p : Text × Option Text). p.1) n.parts in absurd (cc)
    go true e =
        let after : Some (after_first (λ b. b == 61) n.rest) ≡ Some v = sym
        (ap (λ t. cond t (Some (after_first (λ b. b == 61) n.rest)) None) e)
        ∙ ap (λ (p : Text × Option Text). p.1) n.parts in
        let same : after_first (λ b. b == 61) n.rest ≡ v = cc in
        n.is ∙ ap (λ l. 45 ∷ 45 ∷ l)
        (cut n.rest e ∙ ap₂ (λ a b. a ++ 61 ∷ b) (ap (λ (p : Text × Option Text). p.0) n.parts) same)

-- ---- `--batch=`

abbrev pub batch_text : Text
batch_text = codes "--batch="

pub batch-named : (v : Text) → long_of (batch_text ++ v) ≡ Some (codes "batch", Some v)
batch-named v = refl

pub batch-front : (x : Text) → bytes_eq (take 8 x) batch_text ≡ true → x ≡ batch_text ++ drop 8 x
batch-front x e = sym (take-append-drop 8 x) ∙ ap (λ l. l ++ drop 8 x) ((bytes_eq-Decides (take 8 x) batch_text).0 e)
