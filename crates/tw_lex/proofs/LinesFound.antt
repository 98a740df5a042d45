-- The lines that are found are those of the text.
use Rattle.std.proofs.Common.{◌≡◌, ℕ, zero, suc, ◌+◌, ◌-◌, ◌<◌, ◌≤◌, Bool, true, false, cond, ltb, ◌||◌, List, [], ◌∷◌, ◌++◌}
use Rattle.std.proofs.Common.{length, take, drop, Result, Ok, Err, refl, sym, ap, ◌∙◌, subst, inl, inr, arith, length-drop}
use Rattle.std.specs.Prelude.{not, ◌==◌, ◌⊎◌, slice_range}
use Rattle.std.specs.List.{list_all, prefix_len, position_or_len}
use Rattle.std.proofs.Math.Seq.{take-add}
use Rattle.std.proofs.lemmas.Bool.{ltb-true, ltb-false}
use Rattle.std.proofs.lemmas.List.{drop_all, drop-drop}
use Rattle.std.proofs.lemmas.List.Sums.{prefix_len-le-length}
use Rattle.tw_base.specs.Answers.{◌>>=◌}
use Rattle.tw_base.specs.Lists.{one_if}
use Rattle.tw_lex.specs.declared.token.Token.{Token}
use Rattle.tw_lex.specs.declared.token.Line.{Line}
use Rattle.tw_lex.specs.declared.token.Lexed.{Lexed}
use Rattle.tw_lex.specs.declared.token.LexError.{LexError}
use Rattle.tw_lex.specs.declared.token.LexError.TheVariants.{NotAscii}
use Rattle.tw_lex.specs.Bytes.{is_line_feed, is_allowed, code_of}
use Rattle.tw_lex.specs.Lines.{tokens_of, line_tokens, with_line, lines_of, lines_from, lexed}
use Rattle.tw_lex.specs.Laws.{ends_code, BeginWithEnd, BeginWithFeed, Begins, feeds, IsCode, IsLine, Rise, LinesAreTheTexts}
use Rattle.tw_lex.proofs.Spelled.{Stops, front-passes, front-stops}
use Rattle.tw_lex.proofs.Slices.{tokens_are_slices}
use Rattle.tw_lex.proofs.Splitting.{first_len, first_line, length-first_line, lines_of-rest}

-- ---- the code of the first line

abbrev no_end : ℕ → Bool
no_end b = not (ends_code b)

abbrev no_feed : ℕ → Bool
no_feed b = not (is_line_feed b)

-- how long the code of the first line is
abbrev pub code_len : List ℕ → ℕ
code_len text = prefix_len no_end text

code-one : (feed hash : Bool) (b : ℕ) (bs : List ℕ) → is_line_feed b ≡ feed → (b == 35) ≡ hash →
    code_of (first_line bs) ≡ take (code_len bs) bs
    → code_of (take (cond (not feed) (1 + first_len bs) 0) (b ∷ bs))
    ≡ take (cond (not (feed || hash)) (1 + code_len bs) 0) (b ∷ bs)
code-one true hash b bs f h ih = refl
code-one false true b bs f h ih =
    let n : 1 + first_len bs ≡ suc (first_len bs) = omega arith in
    ap (λ k. code_of (take k (b ∷ bs))) n
    ∙ ap (λ v. take (cond (not v) (1 + position_or_len (λ b. b == 35) (take (first_len bs) bs)) 0)
    (b ∷ take (first_len bs) bs)) h
code-one false false b bs f h ih =
    let n : 1 + first_len bs ≡ suc (first_len bs) = omega arith in
    let line = take (first_len bs) bs in
    let k = position_or_len (λ b. b == 35) line in
    let m : 1 + k ≡ suc k = omega arith in
    let c : suc (code_len bs) ≡ 1 + code_len bs = omega arith in
    ap (λ k. code_of (take k (b ∷ bs))) n ∙ ap (λ v. take (cond (not v) (1 + k) 0) (b ∷ line)) h
    ∙ ap (λ j. take j (b ∷ line)) m ∙ ap (λ l. b ∷ l) ih ∙ ap (λ j. take j (b ∷ bs)) c

pub code-first : (text : List ℕ) → code_of (first_line text) ≡ take (code_len text) text
code-first [] = refl
code-first (b ∷ bs) = code-one (is_line_feed b) (b == 35) b bs refl refl (code-first bs)

not-false : (b : Bool) → not b ≡ false → b ≡ true
not-false true e = refl
not-false false e = cc

end-from : (bytes : List ℕ) → Stops no_end bytes → BeginWithEnd bytes
end-from [] s = tt
end-from (b ∷ bs) s = not-false (ends_code b) s

feed-from : (bytes : List ℕ) → 0 < length bytes → Stops no_feed bytes → BeginWithFeed bytes
feed-from [] some s = omega arith
feed-from (b ∷ bs) some s = not-false (is_line_feed b) s

-- ---- the feeds of the first line

feeds-one : (v : Bool) (b : ℕ) (bs : List ℕ) → is_line_feed b ≡ v →
    (first_len bs < length bs → feeds (take (first_len bs + 1) bs) ≡ 1)
    → cond (not v) (1 + first_len bs) 0 < length (b ∷ bs) → feeds (take (cond (not v) (1 + first_len bs) 0 + 1) (b ∷ bs)) ≡ 1
feeds-one true b bs e ih lt = ap (λ v. one_if v + 0) e
feeds-one false b bs e ih lt =
    let n : 1 + first_len bs + 1 ≡ suc (first_len bs + 1) = omega arith in
    ap (λ k. feeds (take k (b ∷ bs))) n ∙ ap (λ v. one_if v + feeds (take (first_len bs + 1) bs)) e
    ∙ omega (arith, ih (omega arith))

feeds-first : (text : List ℕ) → first_len text < length text → feeds (take (first_len text + 1) text) ≡ 1
feeds-first [] lt = omega arith
feeds-first (b ∷ bs) lt = feeds-one (is_line_feed b) b bs refl (feeds-first bs) lt

feeds-append : (xs ys : List ℕ) → feeds (xs ++ ys) ≡ feeds xs + feeds ys
feeds-append [] ys = omega arith
feeds-append (x ∷ xs) ys = omega (arith, feeds-append xs ys)

-- ---- a line

pub allowed-ok : (v : Bool) (number start : ℕ) (code : List ℕ) (ts : List Token) →
    cond v (tokens_of number start code) (Err (NotAscii number)) ≡ Ok ts → tokens_of number start code ≡ Ok ts
allowed-ok true number start code ts e = e
allowed-ok false number start code ts e = absurd (cc)

-- where a line begins, and its number
abbrev Placed : List ℕ → ℕ → ℕ → Type 0
Placed text start number = Begins text start × (feeds (take start text) + 1 ≡ number)

module _ (text : List ℕ) (start : ℕ) (some : start < length text) where
  rest-length : length (drop start text) ≡ length text - start
  rest-length = length-drop start text

  code-within : start + code_len (drop start text) ≤ length text
  code-within = omega (arith, rest-length, prefix_len-le-length no_end (drop start text))

  code-is : code_of (first_line (drop start text)) ≡ slice_range text start (start + code_len (drop start text))
  code-is =
      let n = code_len (drop start text) in
      let same : n ≡ start + n - start = omega arith in
      code-first (drop start text) ∙ ap (λ k. take k (drop start text)) same

  is-code : (number : ℕ) → Placed text start number → IsCode text number start (start + code_len (drop start text))
  is-code number placed =
      let rest = drop start text in
      let n = code_len rest in
      let same : n ≡ start + n - start = omega arith in
      record {
        begins = placed.0;
        count = placed.1;
        ordered = omega arith;
        within = code-within;
        inside = subst (λ k. list_all no_end (take k rest) ≡ true) same (front-passes no_end rest);
        behind = end-from (drop (start + n) text) (subst (Stops no_end) (drop-drop n start text) (front-stops no_end rest));
      }

  line-found : (number : ℕ) (ts : List Token) → Placed text start number →
      line_tokens number start (first_line (drop start text)) ≡ Ok ts → IsLine text (record { number = number; tokens = ts })
  line-found number ts placed e =
      let to = start + code_len (drop start text) in
      let code = code_of (first_line (drop start text)) in
      let found = allowed-ok (list_all is_allowed code) number start code ts e in (
        start,
        to,
        is-code number placed,
        tokens_are_slices text number start to ts (omega arith) code-within
            (subst (λ c. tokens_of number start c ≡ Ok ts) code-is found),
      )

  -- the line behind it, where there is one
  placed-next : (number : ℕ) → Placed text start number → start + first_len (drop start text) + 1 < length text →
      Placed text (start + first_len (drop start text) + 1) (number + 1)
  placed-next number placed lt =
      let rest = drop start text in
      let n = first_len rest in
      let on : start + n + 1 ≡ start + (n + 1) = omega arith in
      let feed = feed-from (drop (start + n) text) (omega (arith, length-drop (start + n) text))
      (subst (Stops no_feed) (drop-drop n start text) (front-stops no_feed rest)) in
      let count : feeds (take (start + n + 1) text) ≡ feeds (take start text) + feeds (take (n + 1) rest) =
      ap (λ k. feeds (take k text)) on ∙ ap feeds (take-add start (n + 1) text)
      ∙ feeds-append (take start text) (take (n + 1) rest) in
      (inr (start + n, refl, feed), omega (arith, count, feeds-first rest (omega (arith, rest-length)), placed.1))

-- ---- all lines

weaker : (text : List ℕ) (n m : ℕ) (ls : List Line) → n ≤ m → Rise text m ls → Rise text n ls
weaker text n m [] le h = tt
weaker text n m (l ∷ ls) le h = (omega (arith, h.0), h.1, h.2, h.3)

with-line : (text : List ℕ) (number : ℕ) (ts : List Token) (ls : List Line) →
    IsLine text (record { number = number; tokens = ts }) → Rise text (number + 1) ls →
    Rise text number (with_line number ts ls)
with-line text number [] ls line rest = weaker text number (number + 1) ls (omega arith) rest
with-line text number (t ∷ ts) ls line rest = (omega arith, omega arith, line, rest)

abbrev pub or_nil : {X : Type 0} → Result (List X) LexError → List X
or_nil (Ok xs) = xs
or_nil (Err e) = []

pub ok-is : {X : Type 0} {u v : Result (List X) LexError} → u ≡ v → or_nil u ≡ or_nil v
ok-is e = ap or_nil e

rest-found : (text : List ℕ) (number : ℕ) (ts : List Token) (rest : Result (List Line) LexError) (ls : List Line) →
    IsLine text (record { number = number; tokens = ts })
    → ((more : List Line) → rest ≡ Ok more → Rise text (number + 1) more) →
    (rest >>= λ ls. Ok (with_line number ts ls)) ≡ Ok ls → Rise text number ls
rest-found text number ts (Ok more) ls line h e = subst (Rise text number) (ok-is e)
    (with-line text number ts more line (h more refl))
rest-found text number ts (Err f) ls line h e = absurd (cc)

tokens-found : (text : List ℕ) (number : ℕ) (found : Result (List Token) LexError) (rest : Result (List Line) LexError)
    (ls : List Line)
    → ((ts : List Token) → found ≡ Ok ts → IsLine text (record { number = number; tokens = ts }))
    → ((more : List Line) → rest ≡ Ok more → Rise text (number + 1) more) →
    (found >>= λ ts. rest >>= λ ls. Ok (with_line number ts ls)) ≡ Ok ls → Rise text number ls
tokens-found text number (Ok ts) rest ls line h e = rest-found text number ts rest ls (line ts refl) h e
tokens-found text number (Err f) rest ls line h e = absurd (cc)

below_or_not : (v : Bool) (a b : ℕ) → ltb a b ≡ v → (a < b) ⊎ (b ≤ a)
below_or_not true a b e = inl (ltb-true a b e)
below_or_not false a b e = inr (ltb-false a b e)

past : (text : List ℕ) (start number : ℕ) (ls : List Line) → length text ≤ start →
    lines_from number start (lines_of (drop start text)) ≡ Ok ls → Rise text number ls
unfolding lines_from
past text start number ls le e =
    let none = ap (λ rest. lines_from number start (lines_of rest)) (drop_all start text le) in
    subst (Rise text number) (ok-is (sym none ∙ e)) tt

-- one line more, where those after it rise
turn : (text : List ℕ) (start number : ℕ) (ls : List Line) → start < length text → Placed text start number
    → ((more : List Line) → lines_from (number + 1) (start + first_len (drop start text) + 1)
    (lines_of (drop (start + first_len (drop start text) + 1) text)) ≡ Ok more → Rise text (number + 1) more)
    → lines_from number start (lines_of (drop start text)) ≡ Ok ls → Rise text number ls
unfolding lines_from
turn text start number ls lt placed h e =
    let line = first_line (drop start text) in
    let next = start + first_len (drop start text) + 1 in
    let rest = lines_of (drop next text) in
    let len = length-first_line (drop start text) in
    let cut : lines_from number start (lines_of (drop start text)) ≡ lines_from number start (line ∷ rest) =
    ap (lines_from number start) (lines_of-rest text start lt) in
    let on : lines_from (number + 1) (start + length line + 1) rest ≡ lines_from (number + 1) next rest =
    ap (λ n. lines_from (number + 1) (start + n + 1) rest) len in
    tokens-found text number (line_tokens number start line) (lines_from (number + 1) (start + length line + 1) rest) ls
    (λ ts is. line-found text start lt number ts placed is)
    (λ more is. h more (sym on ∙ is))
    (sym cut ∙ e)

rise : (text : List ℕ) (n start number : ℕ) → length text ≤ start + n → (start < length text → Placed text start number) →
    (ls : List Line)
    → lines_from number start (lines_of (drop start text)) ≡ Ok ls → Rise text number ls
rise text zero start number le placed ls e = past text start number ls (omega arith) e
rise text (suc n) start number le placed ls e = elim (below_or_not (ltb start (length text)) start (length text) refl) [
  | inl lt ↦ turn text start number ls lt (placed lt)
      (rise text n (start + first_len (drop start text) + 1) (number + 1) (omega arith)
      (placed-next text start lt number (placed lt))) e
  | inr not_lt ↦ past text start number ls (omega arith) e
]

list_of : Result Lexed LexError → List Line
list_of (Ok x) = x.list
list_of (Err e) = []

pub found-is : (found : Result (List Line) LexError) (all : ℕ) (x : Lexed) →
    (found >>= λ ls. Ok (record { all = all; list = ls })) ≡ Ok x → found ≡ Ok x.list
unfolding list_of
found-is (Ok ls) all x e = ap Ok (ap list_of e)
found-is (Err f) all x e = absurd (cc)

pub lines_are_the_texts : LinesAreTheTexts
unfolding lexed
lines_are_the_texts text found e =
    rise text (length text) 0 1 (omega arith) (λ some. (inl refl, refl)) found.list
    (found-is (lines_from 1 0 (lines_of text)) (length (lines_of text)) found e)
