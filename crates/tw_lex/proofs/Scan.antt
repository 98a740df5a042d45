-- Going over the code of a line, token by token.
use Rattle.std.proofs.Common.{◌≡◌, ℕ, zero, suc, ◌+◌, ◌-◌, ◌<◌, ◌≤◌, Bool, true, false, cond, ◌||◌, List, [], ◌∷◌, ◌++◌, length}
use Rattle.std.proofs.Common.{get_or, drop, Option, Some, None, IfSome, refl, sym, ap, ◌∙◌, subst, append_assoc, add-zero}
use Rattle.std.proofs.Common.{sub-one, arith}
use Rattle.std.specs.Prelude.{not, nat_le}
use Rattle.std.specs.Option.{option_map}
use Rattle.std.specs.List.{position_or_len}
use Rattle.std.proofs.lemmas.List.{append-nil, drop_more, drop_all, drop-drop}
use Rattle.std.proofs.lemmas.List.Folds.{length-prefix_len}
use Rattle.std.proofs.lemmas.List.Sums.{prefix_len-le-length}
use Rattle.tw_lex.specs.declared.token.Token.{Token}
use Rattle.tw_lex.specs.declared.token.What.{What}
use Rattle.tw_lex.specs.declared.token.What.TheVariants as whats
use Rattle.tw_lex.specs.declared.token.Mark.{Mark}
use Rattle.tw_lex.specs.Bytes.{is_blank, is_digit, is_word_start, is_word_byte}
use Rattle.tw_lex.specs.Lexemes.{lexeme, number_of, mark_at, or_single, single_mark, pair_mark, word_run, word_at, number_at}
use Rattle.tw_lex.specs.Lines.{tokens_from}

-- ---- a token takes a byte at least

abbrev Sized : ℕ → Option (What × ℕ) → Type 0
Sized n found = IfSome found (λ x. (0 < x.1) × (x.1 ≤ n))

if_sized : (n : ℕ) (b : Bool) (x y : Option (What × ℕ)) → (b ≡ true → Sized n x) → (b ≡ false → Sized n y) → Sized n (cond b x y)
if_sized n true x y p q = p refl
if_sized n false x y p q = q refl

number-sized : (n : ℕ) (o : Option ℕ) (len : ℕ) → 0 < len → len ≤ n → Sized n (option_map (λ v. (whats.Number v, len)) o)
number-sized n None len some short = tt
number-sized n (Some v) len some short = (some, short)

mark-sized : (n : ℕ) (o : Option Mark) → 0 < n → Sized n (option_map (λ m. (whats.Mark m, 1)) o)
mark-sized n None some = tt
mark-sized n (Some m) some = (omega arith, omega arith)

or_single-sized : (n : ℕ) (pair : Option Mark) (b : ℕ) → 1 < n → Sized n (or_single pair b)
or_single-sized n (Some m) b h = (omega arith, omega arith)
or_single-sized n None b h = mark-sized n (single_mark b) (omega arith)

mark_at-sized : (bytes : List ℕ) → Sized (length bytes) (mark_at bytes)
mark_at-sized [] = tt
mark_at-sized (b ∷ []) = mark-sized 1 (single_mark b) (omega arith)
mark_at-sized (b ∷ c ∷ bs) = or_single-sized (length (b ∷ c ∷ bs)) (pair_mark b c) b (omega arith)

word_run-some : (w : Bool) (n : ℕ) → w ≡ true → 0 < cond (not (not w)) (1 + n) 0
word_run-some true n e = omega arith
word_run-some false n e = cc

start_is_word : (s d : Bool) → s ≡ true → (s || d) ≡ true
start_is_word true d e = refl
start_is_word false d e = cc

digit_is_word : (s d : Bool) → d ≡ true → (s || d) ≡ true
digit_is_word true d e = refl
digit_is_word false d e = e

run-length : (bytes : List ℕ) → length (word_run bytes) ≡ position_or_len (λ b. not (is_word_byte b)) bytes
run-length bytes = length-prefix_len _ bytes

run-short : (bytes : List ℕ) → length (word_run bytes) ≤ length bytes
run-short bytes = omega (arith, run-length bytes, prefix_len-le-length (λ b. not (not (is_word_byte b))) bytes)

run-some : (b : ℕ) (bs : List ℕ) → is_word_byte b ≡ true → 0 < length (word_run (b ∷ bs))
run-some b bs e =
    omega (arith, run-length (b ∷ bs), word_run-some (is_word_byte b) (position_or_len (λ b. not (is_word_byte b)) bs) e)

pub lexeme-sized : (bytes : List ℕ) → Sized (length bytes) (lexeme bytes)
unfolding lexeme
lexeme-sized [] = tt
lexeme-sized (b ∷ bs) =
    let n = length (b ∷ bs) in
    let bytes = b ∷ bs in
    if_sized n (is_word_start b) (word_at (word_run bytes)) (cond (is_digit b) (number_at (word_run bytes)) (mark_at bytes))
    (λ start. if_sized n (nat_le (length (word_run bytes)) 64)
    (Some (whats.Word (word_run bytes), length (word_run bytes))) None
    (λ _. (run-some b bs (start_is_word _ _ start), run-short bytes)) (λ _. tt))
    (λ _. if_sized n (is_digit b) (number_at (word_run bytes)) (mark_at bytes)
    (λ digit. number-sized n (number_of (word_run bytes)) (length (word_run bytes))
    (run-some b bs (digit_is_word _ _ digit)) (run-short bytes)) (λ _. mark_at-sized bytes))

pub lexeme-size : (bytes : List ℕ) (what : What) (len : ℕ) → lexeme bytes ≡ Some (what, len) → (0 < len) × (len ≤ length bytes)
lexeme-size bytes what len e = subst (Sized (length bytes)) e (lexeme-sized bytes)

-- ---- what is skipped is dropped

tokens_from-skip : (skip at : ℕ) (bytes : List ℕ) → tokens_from skip at bytes ≡ tokens_from 0 (at + skip) (drop skip bytes)
unfolding tokens_from
tokens_from-skip zero at [] = refl
tokens_from-skip (suc skip) at [] = refl
tokens_from-skip zero at (b ∷ bs) = rw add-zero refl
tokens_from-skip (suc skip) at (b ∷ bs) =
    let e : at + suc skip ≡ at + 1 + skip = omega arith in
    rw e (tokens_from-skip skip (at + 1) bs)

-- the tokens so far, and those after them
abbrev pub with_front : List Token → Option (List Token) → Option (List Token)
with_front front rest = option_map (λ ts. front ++ ts) rest

abbrev pub token_at : ℕ → ℕ → What → Token
token_at start len what = record { start = start; end = start + len; what = what }

regroup : (front : List Token) (t : Token) (rest : Option (List Token)) →
    with_front front (option_map (λ ts. t ∷ ts) rest) ≡ with_front (front ++ t ∷ []) rest
regroup front t None = refl
regroup front t (Some ts) = ap Some (simp append_assoc)

pub put : (b : ℕ) (bs : List ℕ) (at len : ℕ) (what : What) → is_blank b ≡ false → lexeme (b ∷ bs) ≡ Some (what, len) → 0 < len
    → tokens_from 0 at (b ∷ bs) ≡ option_map (λ ts. token_at at len what ∷ ts) (tokens_from 0 (at + len) (drop len (b ∷ bs)))
unfolding tokens_from
put b bs at zero what blank is some = absurd (omega arith)
put b bs at (suc len) what blank is some =
    let e : at + suc len ≡ at + 1 + len = omega arith in
    let after : tokens_from (suc len - 1) (at + 1) bs ≡ tokens_from 0 (at + suc len) (drop len bs) =
    ap (λ k. tokens_from k (at + 1) bs) (sub-one (suc len)) ∙ tokens_from-skip len (at + 1) bs
    ∙ ap (λ n. tokens_from 0 n (drop len bs)) (sym e) in
    rw (blank, is) (ap (option_map (λ ts. token_at at (suc len) what ∷ ts)) after)

-- ---- the turns of the loop

pub scan-blank : (front : List Token) (code : List ℕ) (start at : ℕ) (total : Option (List Token)) → at < length code →
    is_blank (get_or code at 0) ≡ true
    → with_front front (tokens_from 0 (start + at) (drop at code)) ≡ total →
    with_front front (tokens_from 0 (start + (at + 1)) (drop (at + 1) code)) ≡ total
unfolding tokens_from
scan-blank front code start at total lt blank so_far =
    let d = drop_more code at 0 lt in
    let e : start + (at + 1) ≡ start + at + 1 = omega arith in
    let one : tokens_from 0 (start + at) (drop at code) ≡ tokens_from 0 (start + (at + 1)) (drop (at + 1) code) =
    rw (d, blank, e) refl in
    ap (with_front front) (sym one) ∙ so_far

pub scan-token : (front : List Token) (code : List ℕ) (start at len : ℕ) (what : What) (total : Option (List Token)) →
    at < length code → is_blank (get_or code at 0) ≡ false
    → Some (what, len) ≡ lexeme (drop at code) → with_front front (tokens_from 0 (start + at) (drop at code)) ≡ total
    → with_front (front ++ token_at (start + at) len what ∷ []) (tokens_from 0 (start + (at + len)) (drop (at + len) code))
    ≡ total
scan-token front code start at len what total lt blank is so_far =
    let d = drop_more code at 0 lt in
    let size = lexeme-size (drop at code) what len (sym is) in
    let here : lexeme (get_or code at 0 ∷ drop (at + 1) code) ≡ Some (what, len) =
    subst (λ bs. lexeme bs ≡ Some (what, len)) d (sym is) in
    let token = token_at (start + at) len what in
    let one : tokens_from 0 (start + at) (drop at code) ≡ option_map (λ ts. token ∷ ts)
    (tokens_from 0 (start + at + len) (drop len (drop at code))) =
    rw d (put (get_or code at 0) (drop (at + 1) code) (start + at) len what blank here size.0) in
    let e : start + at + len ≡ start + (at + len) = omega arith in
    let two : tokens_from 0 (start + at + len) (drop len (drop at code))
    ≡ tokens_from 0 (start + (at + len)) (drop (at + len) code) = rw (e, drop-drop) refl in
    sym (regroup front token _) ∙ ap (with_front front) (sym (one ∙ ap (option_map (λ ts. token ∷ ts)) two)) ∙ so_far

pub scan-bad : (front : List Token) (code : List ℕ) (start at : ℕ) (total : Option (List Token)) → at < length code →
    is_blank (get_or code at 0) ≡ false → None ≡ lexeme (drop at code)
    → with_front front (tokens_from 0 (start + at) (drop at code)) ≡ total → total ≡ None
unfolding tokens_from
scan-bad front code start at total lt blank is so_far =
    let d = drop_more code at 0 lt in
    let here : lexeme (get_or code at 0 ∷ drop (at + 1) code) ≡ None = subst (λ bs. lexeme bs ≡ None) d (sym is) in
    let one : tokens_from 0 (start + at) (drop at code) ≡ None = rw (d, blank, here) refl in
    sym so_far ∙ ap (with_front front) one

pub scan-end : (front : List Token) (code : List ℕ) (start at : ℕ) (total : Option (List Token)) → length code ≤ at
    → with_front front (tokens_from 0 (start + at) (drop at code)) ≡ total → total ≡ Some front
unfolding tokens_from
scan-end front code start at total le so_far =
    let d = drop_all at code le in
    let one : with_front front (tokens_from 0 (start + at) (drop at code)) ≡ Some front = rw d (ap Some (append-nil front)) in
    sym so_far ∙ one

pub scan-start : (total : Option (List Token)) → with_front [] total ≡ total
scan-start None = refl
scan-start (Some ts) = refl
