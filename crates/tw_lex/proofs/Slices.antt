-- The tokens of code are slices of the text, in order.
use Rattle.std.proofs.Common.{◌≡◌, ℕ, zero, suc, ◌+◌, ◌-◌, ◌<◌, ◌≤◌, Bool, true, false, List, [], ◌∷◌, length, get_or, take}
use Rattle.std.proofs.Common.{drop, Option, Some, None, Result, Ok, Err, refl, sym, ap, ◌∙◌, subst, inl, inr, arith}
use Rattle.std.proofs.Common.{length-take, length-drop}
use Rattle.std.specs.Prelude.{slice_range}
use Rattle.std.specs.Option.{option_map}
use Rattle.std.specs.List.{list_all}
use Rattle.std.proofs.lemmas.Bool.{and_from, cases_eq}
use Rattle.std.proofs.lemmas.List.{drop_more, drop-drop, drop-take, take-take}
use Rattle.tw_lex.specs.declared.token.Token.{Token}
use Rattle.tw_lex.specs.declared.token.What.{What}
use Rattle.tw_lex.specs.declared.token.LexError.{LexError}
use Rattle.tw_lex.specs.Bytes.{is_blank}
use Rattle.tw_lex.specs.Lexemes.{lexeme}
use Rattle.tw_lex.specs.Lines.{tokens_from, or_bad}
use Rattle.tw_lex.specs.Laws.{IsSpelled, Ends, InOrder, TokensAreSlices}
use Rattle.tw_lex.proofs.Scan.{lexeme-size, put, token_at}
use Rattle.tw_lex.proofs.Spelled.{lexeme-spelled}

-- ---- slices

pub slice-first : (text : List ℕ) (from to : ℕ) → from < to → to ≤ length text →
    slice_range text from to ≡ get_or text from 0 ∷ slice_range text (from + 1) to
slice-first text from to lt le =
    let more : to - from ≡ suc (to - (from + 1)) = omega arith in
    ap (take (to - from)) (drop_more text from 0 (omega arith))
    ∙ ap (λ k. take k (get_or text from 0 ∷ drop (from + 1) text)) more

pub slice-drop : (text : List ℕ) (from len to : ℕ) → from + len ≤ to →
    drop len (slice_range text from to) ≡ slice_range text (from + len) to
slice-drop text from len to le =
    let more : to - from ≡ len + (to - (from + len)) = omega arith in
    ap (λ k. drop len (take k (drop from text))) more ∙ drop-take len (to - (from + len)) (drop from text)
    ∙ ap (take (to - (from + len))) (drop-drop len from text)

pub slice-take : (text : List ℕ) (from len to : ℕ) → from + len ≤ to →
    take len (slice_range text from to) ≡ slice_range text from (from + len)
slice-take text from len to le =
    let same : len ≡ from + len - from = omega arith in
    take-take len (to - from) (drop from text) (omega arith) ∙ ap (λ k. take k (drop from text)) same

pub slice-none : (text : List ℕ) (from to : ℕ) → to ≤ from → slice_range text from to ≡ []
slice-none text from to le = let none : to - from ≡ 0 = omega arith in ap (λ k. take k (drop from text)) none

pub length-slice : (text : List ℕ) (from to : ℕ) → from ≤ to → to ≤ length text → length (slice_range text from to) ≡ to - from
length-slice text from to lt le = omega (arith, length-take (to - from) (drop from text), length-drop from text)

-- ---- the turns

blank-more : (text : List ℕ) (from to : ℕ) → from < to → to ≤ length text → is_blank (get_or text from 0) ≡ true →
    list_all is_blank (slice_range text (from + 1) to) ≡ true
    → list_all is_blank (slice_range text from to) ≡ true
blank-more text from to lt le blank rest = ap (list_all is_blank) (slice-first text from to lt le)
    ∙ and_from (is_blank (get_or text from 0)) _ blank rest

blank-turn : (text : List ℕ) (from to : ℕ) (ts : List Token) → from < to → to ≤ length text →
    is_blank (get_or text from 0) ≡ true → InOrder text (from + 1) to ts → InOrder text from to ts
blank-turn text from to [] lt le blank h = blank-more text from to lt le blank h
blank-turn text from to (t ∷ ts) lt le blank h =
    let s = h.0 in (
      record {
        after = omega (arith, s.after);
        some = s.some;
        within = s.within;
        gap = blank-more text from t.start (omega (arith, s.after)) (omega (arith, s.some, s.within)) blank s.gap;
        bytes = s.bytes;
        longest = s.longest;
      },
      h.1,
    )

token-turn : (text : List ℕ) (from to : ℕ) (what : What) (len : ℕ) (ts : List Token) → from < to → to ≤ length text →
    lexeme (slice_range text from to) ≡ Some (what, len)
    → InOrder text (from + len) to ts → InOrder text from to (token_at from len what ∷ ts)
token-turn text from to what len ts lt le is h =
    let size = lexeme-size (slice_range text from to) what len is in
    let fits : from + len ≤ to = omega (arith, size.1, length-slice text from to (omega arith) le) in
    let good = lexeme-spelled (slice_range text from to) what len is in (
      record {
        after = omega arith;
        some = omega (arith, size.0);
        within = fits;
        gap = ap (list_all is_blank) (slice-none text from from (omega arith));
        bytes = subst (IsSpelled what) (slice-take text from len to fits) good.0;
        longest = subst (Ends what) (slice-drop text from len to fits) good.1;
      },
      h,
    )

unsome : Option (List Token) → List Token
unsome None = []
unsome (Some ts) = ts

unsome-is : (a b : List Token) → Some a ≡ Some b → a ≡ b
unfolding unsome
unsome-is a b e = ap unsome e

module _ (text : List ℕ) (to : ℕ) (le : to ≤ length text) where
  -- what follows a place, for each list of tokens that is found from there
  abbrev Follows : ℕ → Type 0
  Follows from = (ts : List Token) → tokens_from 0 from (slice_range text from to) ≡ Some ts → InOrder text from to ts

  rest-turn : (from : ℕ) (what : What) (len : ℕ) (found : Option (List Token)) (ts : List Token) → from < to →
      lexeme (slice_range text from to) ≡ Some (what, len)
      → ((ts : List Token) → found ≡ Some ts → InOrder text (from + len) to ts) →
      option_map (λ ts. token_at from len what ∷ ts) found ≡ Some ts → InOrder text from to ts
  rest-turn from what len None ts lt is h e = absurd (cc)
  rest-turn from what len (Some more) ts lt is h e = subst (InOrder text from to) (unsome-is _ _ e)
      (token-turn text from to what len more lt le is (h more refl))

  found-turn : (from : ℕ) (found : Option (What × ℕ)) → from < to → is_blank (get_or text from 0) ≡ false →
      lexeme (slice_range text from to) ≡ found
      → ((k : ℕ) → from < k → k ≤ to → Follows k) → Follows from
  unfolding tokens_from
  found-turn from None lt blank is h ts e =
      let first = slice-first text from to lt le in
      let none : tokens_from 0 from (slice_range text from to) ≡ None =
      rw (first, blank, subst (λ l. lexeme l ≡ None) first is) refl in
      absurd (let both = sym none ∙ e in cc)
  found-turn from (Some found) lt blank is h ts e =
      let first = slice-first text from to lt le in
      let size = lexeme-size (slice_range text from to) found.0 found.1 is in
      let fits : from + found.1 ≤ to = omega (arith, size.1, length-slice text from to (omega arith) le) in
      let here = subst (λ l. lexeme l ≡ Some found) first is in
      let put_there = put (get_or text from 0) (slice_range text (from + 1) to) from found.1 found.0 blank here size.0 in
      let there =
      subst (λ l. tokens_from 0 from l ≡ option_map (λ ts. token_at from found.1 found.0 ∷ ts)
      (tokens_from 0 (from + found.1) (drop found.1 l))) (sym first) put_there in
      rest-turn from found.0 found.1 (tokens_from 0 (from + found.1) (drop found.1 (slice_range text from to))) ts lt is
      (λ more e'. h (from + found.1) (omega (arith, size.0)) fits more
      (ap (tokens_from 0 (from + found.1)) (sym (slice-drop text from found.1 to fits)) ∙ e'))
      (sym there ∙ e)

  byte-turn : (from : ℕ) (v : Bool) → from < to → is_blank (get_or text from 0) ≡ v →
      ((k : ℕ) → from < k → k ≤ to → Follows k) → Follows from
  unfolding tokens_from
  byte-turn from true lt blank h ts e =
      let first = slice-first text from to lt le in
      let on : tokens_from 0 from (slice_range text from to) ≡ tokens_from 0 (from + 1) (slice_range text (from + 1) to) =
      rw (first, blank) refl in
      blank-turn text from to ts lt le blank (h (from + 1) (omega arith) (omega arith) ts (sym on ∙ e))
  byte-turn from false lt blank h ts e = found-turn from (lexeme (slice_range text from to)) lt blank refl h ts e

  end-turn : (from : ℕ) → to ≤ from → Follows from
  unfolding tokens_from
  end-turn from past ts e =
      let none = slice-none text from to past in
      let is : [] ≡ ts = unsome-is [] ts (sym (ap (tokens_from 0 from) none) ∙ e) in
      subst (InOrder text from to) is (ap (list_all is_blank) none)

  follow : (n from : ℕ) → to ≤ from + n → from ≤ to → Follows from
  follow zero from short ordered = end-turn from (omega arith)
  follow (suc n) from short ordered = elim (cases_eq from to) [
    | inl e ↦ end-turn from (omega arith)
    | inr ne ↦ byte-turn from (is_blank (get_or text from 0)) (omega arith) refl
        (λ k after within. follow n k (omega arith) within)
  ]

unok : Result (List Token) LexError → List Token
unok (Ok ts) = ts
unok (Err e) = []

bad-none : (number : ℕ) (found : Option (List Token)) (ts : List Token) → or_bad number found ≡ Ok ts → found ≡ Some ts
unfolding unok
bad-none number None ts e = absurd (cc)
bad-none number (Some found) ts e = ap Some (ap unok e)

pub tokens_are_slices : TokensAreSlices
tokens_are_slices text number from to ts ordered le e =
    follow text to le (to - from) from (omega arith) ordered ts
    (bad-none number (tokens_from 0 from (slice_range text from to)) ts e)
