-- One look at the first line of a text finds where its code ends, and whether all of it may stand there.
use Rattle.std.proofs.Common.{◌≡◌, ℕ, suc, ◌+◌, ◌<◌, Bool, true, false, cond, ◌||◌, List, [], ◌∷◌, length, get_or}
use Rattle.std.proofs.Common.{take, drop, Err, refl, sym, ap, ◌∙◌, subst, arith}
use Rattle.std.specs.Prelude.{not, ◌==◌}
use Rattle.std.specs.List.{list_all, position_or_len}
use Rattle.tw_lex.specs.declared.token.LexError.TheVariants.{NotAscii}
use Rattle.tw_lex.specs.Bytes.{is_line_feed, is_allowed, code_of}
use Rattle.tw_lex.specs.Laws.{ends_code}
use Rattle.tw_lex.specs.Lines.{line_tokens, tokens_of}
use Rattle.tw_lex.proofs.LinesFound.{code_len, code-first}
use Rattle.tw_lex.proofs.Splitting.{first_len, first_line}

-- how many bytes stand before the first one that ends the code of a line or may not stand in it
abbrev pub stop_len : List ℕ → ℕ
stop_len text = position_or_len (λ b. ends_code b || not (is_allowed b)) text

-- where the look stops, the code ends
abbrev pub Ends : List ℕ → Type 0
Ends text = stop_len text < length text → ends_code (get_or text (stop_len text) 0) ≡ true

-- all before it may stand in code, and is the code
abbrev Whole : List ℕ → Type 0
Whole text = (code_len text ≡ stop_len text) × (list_all is_allowed (take (stop_len text) text) ≡ true)

whole-one : (e a : Bool) (b : ℕ) (bs : List ℕ) → ends_code b ≡ e → is_allowed b ≡ a → (Ends bs → Whole bs)
    → (cond (not (e || not a)) (1 + stop_len bs) 0 < length (b ∷ bs)
    → ends_code (get_or (b ∷ bs) (cond (not (e || not a)) (1 + stop_len bs) 0) 0) ≡ true)
    → (cond (not e) (1 + code_len bs) 0 ≡ cond (not (e || not a)) (1 + stop_len bs) 0)
    × (list_all is_allowed (take (cond (not (e || not a)) (1 + stop_len bs) 0) (b ∷ bs)) ≡ true)
whole-one true a b bs is_end may ih ends = (refl, refl)
whole-one false false b bs is_end may ih ends = let no : true ≡ false = sym (ends (omega arith)) ∙ is_end in absurd (cc)
whole-one false true b bs is_end may ih ends =
    let s = stop_len bs in
    let n : 1 + s ≡ suc s = omega arith in
    let rest = ih (λ lt. subst (λ k. ends_code (get_or (b ∷ bs) k 0) ≡ true) n (ends (omega arith))) in
    (ap (λ k. 1 + k) rest.0, rw (n, may) rest.1)

pub whole : (text : List ℕ) → Ends text → Whole text
whole [] ends = (refl, refl)
whole (b ∷ bs) ends = whole-one (ends_code b) (is_allowed b) b bs refl refl (whole bs) ends

bad-one : (e a : Bool) (b : ℕ) (bs : List ℕ) → ends_code b ≡ e → is_allowed b ≡ a
    → (stop_len bs < length bs → ends_code (get_or bs (stop_len bs) 0) ≡ false → list_all is_allowed (take (code_len bs) bs) ≡ false)
    → cond (not (e || not a)) (1 + stop_len bs) 0 < length (b ∷ bs)
    → ends_code (get_or (b ∷ bs) (cond (not (e || not a)) (1 + stop_len bs) 0) 0) ≡ false
    → list_all is_allowed (take (cond (not e) (1 + code_len bs) 0) (b ∷ bs)) ≡ false
bad-one true a b bs is_end may ih lt goes = let no : true ≡ false = sym is_end ∙ goes in absurd (cc)
bad-one false false b bs is_end may ih lt goes =
    let n : 1 + code_len bs ≡ suc (code_len bs) = omega arith in
    rw (n, may) refl
bad-one false true b bs is_end may ih lt goes =
    let s = stop_len bs in
    let n : 1 + s ≡ suc s = omega arith in
    let m : 1 + code_len bs ≡ suc (code_len bs) = omega arith in
    let rest = ih (omega arith) (subst (λ k. ends_code (get_or (b ∷ bs) k 0) ≡ false) n goes) in
    rw (m, may) rest

bad : (text : List ℕ) → stop_len text < length text → ends_code (get_or text (stop_len text) 0) ≡ false
    → list_all is_allowed (take (code_len text) text) ≡ false
bad [] lt goes = absurd (omega arith)
bad (b ∷ bs) lt goes = bad-one (ends_code b) (is_allowed b) b bs refl refl (bad bs) lt goes

at-once : (b : ℕ) (bs : List ℕ) (feed : Bool) → is_line_feed b ≡ feed → 0 + first_len (b ∷ bs) ≡ cond (not feed) (1 + first_len bs) 0
at-once b bs feed e = rw e (omega arith)

line-one : (feed hash : Bool) (b : ℕ) (bs : List ℕ) → is_line_feed b ≡ feed
    → first_len bs ≡ code_len bs + first_len (drop (code_len bs) bs)
    → cond (not feed) (1 + first_len bs) 0 ≡ cond (not (feed || hash)) (1 + code_len bs) 0
    + first_len (drop (cond (not (feed || hash)) (1 + code_len bs) 0) (b ∷ bs))
line-one true hash b bs is_feed ih = sym (at-once b bs true is_feed)
line-one false true b bs is_feed ih = sym (at-once b bs false is_feed)
line-one false false b bs is_feed ih =
    let n : 1 + code_len bs ≡ suc (code_len bs) = omega arith in
    let d : drop (1 + code_len bs) (b ∷ bs) ≡ drop (code_len bs) bs = ap (λ k. drop k (b ∷ bs)) n in
    rw d (omega (arith, ih))

-- a line is its code and what is behind it
line-len : (text : List ℕ) → first_len text ≡ code_len text + first_len (drop (code_len text) text)
line-len [] = refl
line-len (b ∷ bs) = line-one (is_line_feed b) (b == 35) b bs refl (line-len bs)

-- ---- the tokens and the length of the first line

module _ (text : List ℕ) (stop : ℕ) (is_stop : stop ≡ stop_len text) where
  pub tokens-whole : (number start : ℕ) → (stop < length text → ends_code (get_or text stop 0) ≡ true)
      → line_tokens number start (first_line text) ≡ tokens_of number start (take stop text)
  tokens-whole number start ends =
      let all = whole text (subst (λ s. s < length text → ends_code (get_or text s 0) ≡ true) is_stop ends) in
      let code : code_of (first_line text) ≡ take stop text =
      code-first text ∙ ap (λ n. take n text) (all.0 ∙ sym is_stop) in
      let may : list_all is_allowed (take stop text) ≡ true =
      subst (λ n. list_all is_allowed (take n text) ≡ true) (sym is_stop) all.1 in
      rw (code, may) refl

  pub tokens-bad : (number start : ℕ) → stop < length text → ends_code (get_or text stop 0) ≡ false
      → line_tokens number start (first_line text) ≡ Err (NotAscii number)
  tokens-bad number start lt goes =
      let no = bad text (subst (λ s. s < length text) is_stop lt)
      (subst (λ s. ends_code (get_or text s 0) ≡ false) is_stop goes) in
      rw (code-first text, no) refl

  pub len-whole : (stop < length text → ends_code (get_or text stop 0) ≡ true) → stop + first_len (drop stop text) ≡ first_len text
  len-whole ends =
      let all = whole text (subst (λ s. s < length text → ends_code (get_or text s 0) ≡ true) is_stop ends) in
      let e : code_len text ≡ stop = all.0 ∙ sym is_stop in
      sym (subst (λ n. first_len text ≡ n + first_len (drop n text)) e (line-len text))
