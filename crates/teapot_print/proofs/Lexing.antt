-- A token that is written is lexed as that token, whatever stands behind it, unless that goes on with it.
use Rattle.std.proofs.Common.{◌≡◌, ℕ, zero, suc, ◌+◌, ◌-◌, ◌*◌, ◌^◌, ◌<◌, ◌≤◌, Bool, true, false, cond, ◌||◌, ◌&&◌, List, []}
use Rattle.std.proofs.Common.{◌∷◌, ◌++◌, length, take, drop, Option, Some, None, is_some, refl, sym, ap, ◌∙◌, subst, add-zero}
use Rattle.std.proofs.Common.{sub-one, arith}
use Rattle.std.specs.Prelude.{not, nat_le, nat_lt, decimal}
use Rattle.std.specs.List.{fold, list_all, prefix_len}
use Rattle.std.specs.Option.{option_map}
use Rattle.std.proofs.Math.Seq.{drop-append_seam}
use Rattle.std.proofs.lemmas.Bool.{and_from, and_parts, leb-true, le-leb, lt-ltb}
use Rattle.std.proofs.lemmas.Fmt.{decimal_nonempty, digits_decimal, digits_value-decimal}
use Rattle.std.proofs.lemmas.Str.Parse.{FoldsDigits, IsDigitsTest, IsNumeralModel, numerals_by_fold}
use Rattle.tw_base.specs.Bits.{all_below-at}
use Rattle.tw_lex.specs.declared.token.Mark.{Mark}
use Rattle.tw_lex.specs.declared.token.Mark.TheVariants as m
use Rattle.tw_lex.specs.declared.token.Token.{Token}
use Rattle.tw_lex.specs.declared.token.What.{What}
use Rattle.tw_lex.specs.declared.token.What.TheVariants as what
use Rattle.tw_lex.specs.Bytes.{is_blank, is_digit, is_word_start, is_word_byte}
use Rattle.tw_lex.specs.Laws.{Ends}
use Rattle.tw_lex.specs.Lexemes.{decimal_value, lexeme, mark_at, number_at, or_single, pair_mark, single_mark, word_at, word_run}
use Rattle.tw_lex.specs.Lines.{tokens_from}
use Rattle.teapot_print.specs.Text.{mark_bytes}

pub cond-true : {A : Type 0} (v : Bool) (x y : A) → v ≡ true → cond v x y ≡ x
cond-true true x y e = refl
cond-true false x y e = absurd cc

pub cond-false : {A : Type 0} (v : Bool) (x y : A) → v ≡ false → cond v x y ≡ y
cond-false true x y e = absurd cc
cond-false false x y e = refl

-- ---- the run of a word

-- the first that stands behind does not pass
abbrev pub Stops : (ℕ → Bool) → List ℕ → Type 0
Stops p [] = Unit {0}
Stops p (x ∷ xs) = p x ≡ false

stop-step : (v : Bool) (n : ℕ) (xs : List ℕ) → v ≡ false → take (cond v (1 + n) 0) xs ≡ []
stop-step true n xs e = absurd cc
stop-step false n xs e = refl

front-step : (v : Bool) (x n : ℕ) (xs : List ℕ) → v ≡ true → take (cond v (1 + n) 0) (x ∷ xs) ≡ x ∷ take n xs
front-step true x n xs e = let more : 1 + n ≡ suc n = omega arith in ap (λ k. take k (x ∷ xs)) more
front-step false x n xs e = absurd cc

-- the longest front that passes is what passes, where the rest does not go on with it
front-is : (p : ℕ → Bool) (xs rest : List ℕ) → list_all p xs ≡ true → Stops p rest →
    take (prefix_len p (xs ++ rest)) (xs ++ rest) ≡ xs
front-is p [] [] h s = refl
front-is p [] (x ∷ xs) h s = stop-step (p x) (prefix_len p xs) (x ∷ xs) s
front-is p (x ∷ xs) rest h s =
    let parts = and_parts (p x) (list_all p xs) h in
    front-step (p x) x (prefix_len p (xs ++ rest)) (xs ++ rest) parts.0 ∙ ap (λ ys. x ∷ ys) (front-is p xs rest parts.1 s)

not-not : (b : Bool) → not (not b) ≡ b
not-not true = refl
not-not false = refl

twice : (λ b. not (not (is_word_byte b))) ≡ is_word_byte
twice = λ j b. not-not (is_word_byte b) j

run-is : (w rest : List ℕ) → list_all is_word_byte w ≡ true → Stops is_word_byte rest → word_run (w ++ rest) ≡ w
run-is w rest h s = ap (λ p. take (prefix_len p (w ++ rest)) (w ++ rest)) twice ∙ front-is is_word_byte w rest h s

-- what stands behind does not go on with a word
abbrev pub NoWord : List ℕ → Type 0
NoWord rest = Stops is_word_byte rest

-- ---- words

-- the first byte begins a word
abbrev pub begins : (ℕ → Bool) → List ℕ → Bool
begins p [] = false
begins p (b ∷ bs) = p b

pub word-lexed : (w rest : List ℕ) → begins is_word_start w ≡ true → list_all is_word_byte w ≡ true → length w ≤ 64 →
    NoWord rest → lexeme (w ++ rest) ≡ Some (what.Word w, length w)
unfolding lexeme
word-lexed [] rest start all short s = absurd cc
word-lexed (b ∷ bs) rest start all short s =
    let bytes = (b ∷ bs) ++ rest in
    let run = run-is (b ∷ bs) rest all s in
    cond-true (is_word_start b) (word_at (word_run bytes)) (cond (is_digit b) (number_at (word_run bytes)) (mark_at bytes)) start
    ∙ ap word_at run
    ∙ cond-true (nat_le (length (b ∷ bs)) 64) (Some (what.Word (b ∷ bs), length (b ∷ bs))) None
    (le-leb (length (b ∷ bs)) 64 short)

-- ---- numbers

implied : (a c : Bool) → (not a || not c) ≡ true → a ≡ true → c ≡ false
implied true true e h = absurd cc
implied true false e h = refl
implied false c e h = absurd cc

digit-below : (b : ℕ) → is_digit b ≡ true → b < 58
digit-below b e = let parts = and_parts (nat_le 48 b) (nat_le b 57) e in let le = leb-true b 57 parts.1 in omega arith

-- a digit begins no word
digit-no-start : (b : ℕ) → is_digit b ≡ true → is_word_start b ≡ false
digit-no-start b e =
    implied (is_digit b) (is_word_start b) (all_below-at 58 (λ k. not (is_digit k) || not (is_word_start k)) refl b
    (digit-below b e)) e

or-right : (a b : Bool) → b ≡ true → (a || b) ≡ true
or-right true b e = refl
or-right false b e = e

digit-word : (b : ℕ) → is_digit b ≡ true → is_word_byte b ≡ true
digit-word b e = or-right (is_word_start b) (is_digit b) e

pub all-imply : (p q : ℕ → Bool) → ((b : ℕ) → p b ≡ true → q b ≡ true) → (xs : List ℕ) → list_all p xs ≡ true →
    list_all q xs ≡ true
all-imply p q g [] h = refl
all-imply p q g (x ∷ xs) h = let parts = and_parts (p x) (list_all p xs) h in and_from (q x) (list_all q xs) (g x parts.0)
    (all-imply p q g xs parts.1)

number-at : (ds : List ℕ) → list_all is_digit ds ≡ true → decimal_value ds < 2 ^ 64 →
    number_at ds ≡ Some (what.Number (decimal_value ds), length ds)
number-at ds all small =
    ap (option_map (λ n. (what.Number n, length ds))) (cond-true (list_all is_digit ds && nat_lt (decimal_value ds) (2 ^ 64))
    (Some (decimal_value ds)) None
    (and_from (list_all is_digit ds) (nat_lt (decimal_value ds) (2 ^ 64)) all (lt-ltb (decimal_value ds) (2 ^ 64) small)))

number-lexed : (ds rest : List ℕ) → 0 < length ds → list_all is_digit ds ≡ true → decimal_value ds < 2 ^ 64 → NoWord rest →
    lexeme (ds ++ rest) ≡ Some (what.Number (decimal_value ds), length ds)
unfolding lexeme
number-lexed [] rest some all small s = absurd (omega arith)
number-lexed (b ∷ bs) rest some all small s =
    let bytes = (b ∷ bs) ++ rest in
    let digit = (and_parts (is_digit b) (list_all is_digit bs) all).0 in
    let run = run-is (b ∷ bs) rest (all-imply is_digit is_word_byte digit-word (b ∷ bs) all) s in
    cond-false (is_word_start b) (word_at (word_run bytes)) (cond (is_digit b) (number_at (word_run bytes)) (mark_at bytes))
    (digit-no-start b digit)
    ∙ cond-true (is_digit b) (number_at (word_run bytes)) (mark_at bytes) digit
    ∙ ap number_at run ∙ number-at (b ∷ bs) all small

digits-test : IsDigitsTest (λ ds. list_all is_digit ds ≡ true)
digits-test = record {
  empty = refl;
  parts = λ c cs e. let k = and_parts (is_digit c) (list_all is_digit cs) e in let d =
      and_parts (nat_le 48 c) (nat_le c 57) k.0 in ((leb-true 48 c d.0, leb-true c 57 d.1), k.1);
  more = λ c cs k e. and_from (is_digit c) (list_all is_digit cs)
      (and_from (nat_le 48 c) (nat_le c 57) (le-leb 48 c k.0) (le-leb c 57 k.1)) e;
}

abbrev value_after : ℕ → List ℕ → ℕ
value_after n ds = fold (λ k d. 10 * k + (d - 48)) n ds

digits-fold : FoldsDigits value_after
digits-fold = record {
  empty = λ n. refl;
  more = λ n c cs k. let e : 10 * n + (c - 48) ≡ n * 10 + (c - 48) = omega arith in ap (λ z. value_after z cs) e;
}

digits-model : IsNumeralModel (λ ds. list_all is_digit ds ≡ true) decimal_value
digits-model = numerals_by_fold (λ ds. list_all is_digit ds ≡ true) digits-test value_after digits-fold

pub decimal-digits : (n : ℕ) → n < 2 ^ 64 → list_all is_digit (decimal n) ≡ true
decimal-digits n h = digits_decimal digits-model n h

pub decimal-lexed : (n : ℕ) (rest : List ℕ) → n < 2 ^ 64 → NoWord rest →
    lexeme (decimal n ++ rest) ≡ Some (what.Number n, length (decimal n))
decimal-lexed n rest h s =
    let same = digits_value-decimal digits-model n h in
    number-lexed (decimal n) rest (decimal_nonempty n h) (decimal-digits n h) (subst (λ k. k < 2 ^ 64) (sym same) h) s
    ∙ ap (λ k. Some (what.Number k, length (decimal n))) same

-- ---- marks

none-of : (o : Option Mark) → is_some o ≡ false → o ≡ None
none-of None e = refl
none-of (Some x) e = absurd cc

-- a mark of one byte before a byte that makes no longer mark
one-lexed : (b c : ℕ) (cs : List ℕ) (x : Mark) → is_word_start b ≡ false → is_digit b ≡ false → single_mark b ≡ Some x →
    is_some (pair_mark b c) ≡ false → lexeme (b ∷ c ∷ cs) ≡ Some (what.Mark x, 1)
unfolding lexeme
one-lexed b c cs x start digit single e =
    let bytes = b ∷ c ∷ cs in
    cond-false (is_word_start b) (word_at (word_run bytes)) (cond (is_digit b) (number_at (word_run bytes)) (mark_at bytes)) start
    ∙ cond-false (is_digit b) (number_at (word_run bytes)) (mark_at bytes) digit
    ∙ ap (λ o. or_single o b) (none-of (pair_mark b c) e) ∙ ap (option_map (λ k. (what.Mark k, 1))) single

pub mark-lexed : (x : Mark) (rest : List ℕ) → Ends (what.Mark x) rest →
    lexeme (mark_bytes x ++ rest) ≡ Some (what.Mark x, length (mark_bytes x))
unfolding lexeme
mark-lexed m.Open [] e = refl
mark-lexed m.Open (c ∷ cs) e = one-lexed 40 c cs m.Open refl refl refl e
mark-lexed m.Close [] e = refl
mark-lexed m.Close (c ∷ cs) e = one-lexed 41 c cs m.Close refl refl refl e
mark-lexed m.BraceOpen [] e = refl
mark-lexed m.BraceOpen (c ∷ cs) e = one-lexed 123 c cs m.BraceOpen refl refl refl e
mark-lexed m.BraceClose [] e = refl
mark-lexed m.BraceClose (c ∷ cs) e = one-lexed 125 c cs m.BraceClose refl refl refl e
mark-lexed m.Comma [] e = refl
mark-lexed m.Comma (c ∷ cs) e = one-lexed 44 c cs m.Comma refl refl refl e
mark-lexed m.Semicolon [] e = refl
mark-lexed m.Semicolon (c ∷ cs) e = one-lexed 59 c cs m.Semicolon refl refl refl e
mark-lexed m.Colon [] e = refl
mark-lexed m.Colon (c ∷ cs) e = one-lexed 58 c cs m.Colon refl refl refl e
mark-lexed m.Becomes rest e = refl
mark-lexed m.Plus [] e = refl
mark-lexed m.Plus (c ∷ cs) e = one-lexed 43 c cs m.Plus refl refl refl e
mark-lexed m.Minus [] e = refl
mark-lexed m.Minus (c ∷ cs) e = one-lexed 45 c cs m.Minus refl refl refl e
mark-lexed m.Equal [] e = refl
mark-lexed m.Equal (c ∷ cs) e = one-lexed 61 c cs m.Equal refl refl refl e
mark-lexed m.Unequal rest e = refl
mark-lexed m.Less [] e = refl
mark-lexed m.Less (c ∷ cs) e = one-lexed 60 c cs m.Less refl refl refl e
mark-lexed m.LessEqual rest e = refl
mark-lexed m.Both [] e = refl
mark-lexed m.Both (c ∷ cs) e = one-lexed 38 c cs m.Both refl refl refl e
mark-lexed m.Either [] e = refl
mark-lexed m.Either (c ∷ cs) e = one-lexed 124 c cs m.Either refl refl refl e

-- ---- a token before others

-- what is skipped is dropped
skipped : (skip at : ℕ) (bytes : List ℕ) → tokens_from skip at bytes ≡ tokens_from 0 (at + skip) (drop skip bytes)
unfolding tokens_from
skipped zero at [] = refl
skipped (suc skip) at [] = refl
skipped zero at (b ∷ bs) = rw add-zero refl
skipped (suc skip) at (b ∷ bs) = let e : at + suc skip ≡ at + 1 + skip = omega arith in rw e (skipped skip (at + 1) bs)

abbrev pub token_at : ℕ → ℕ → What → Token
token_at start len x = record { start = start; end = start + len; what = x }

put : (b : ℕ) (bs : List ℕ) (at len : ℕ) (x : What) → is_blank b ≡ false → lexeme (b ∷ bs) ≡ Some (x, len) → 0 < len
    → tokens_from 0 at (b ∷ bs) ≡ option_map (λ ts. token_at at len x ∷ ts) (tokens_from 0 (at + len) (drop len (b ∷ bs)))
unfolding tokens_from
put b bs at zero x blank is some = absurd (omega arith)
put b bs at (suc len) x blank is some =
    let e : at + suc len ≡ at + 1 + len = omega arith in
    let after : tokens_from (suc len - 1) (at + 1) bs ≡ tokens_from 0 (at + suc len) (drop len bs) =
    ap (λ k. tokens_from k (at + 1) bs) (sub-one (suc len)) ∙ skipped len (at + 1) bs
    ∙ ap (λ n. tokens_from 0 n (drop len bs)) (sym e) in
    rw (blank, is) (ap (option_map (λ ts. token_at at (suc len) x ∷ ts)) after)

-- the first byte is no blank
abbrev pub NoBlank : List ℕ → Type 0
NoBlank [] = ⊥
NoBlank (b ∷ bs) = is_blank b ≡ false

pub one-found : (bytes rest : List ℕ) (at : ℕ) (x : What) → NoBlank bytes → lexeme (bytes ++ rest) ≡ Some (x, length bytes)
    → tokens_from 0 at (bytes ++ rest) ≡ option_map (λ ts. token_at at (length bytes) x ∷ ts)
    (tokens_from 0 (at + length bytes) rest)
one-found [] rest at x blank is = absurd blank
one-found (b ∷ bs) rest at x blank is =
    put b (bs ++ rest) at (length (b ∷ bs)) x blank is (omega arith)
    ∙ ap (λ r. option_map (λ ts. token_at at (length (b ∷ bs)) x ∷ ts) (tokens_from 0 (at + length (b ∷ bs)) r))
    (drop-append_seam (b ∷ bs) rest)
