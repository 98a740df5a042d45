-- Printed lines are lexed to the tokens that they say.
use Rattle.std.proofs.Common.{◌≡◌, ℕ, suc, ◌+◌, ◌<◌, ◌≤◌, Bool, true, false, cond, ◌||◌, ◌&&◌, List, [], ◌∷◌, ◌++◌, length}
use Rattle.std.proofs.Common.{take, Some, Result, Ok, Err, refl, sym, ap, ◌∙◌, subst, inl, inr, arith, append_assoc, append-nil}
use Rattle.std.proofs.Common.{length-append}
use Rattle.std.specs.Prelude.{◌==◌, ◌⊎◌, not, nat_le, decimal}
use Rattle.std.specs.List.{list_all, onto_first, prefix_len}
use Rattle.std.specs.Option.{option_map}
use Rattle.std.proofs.lemmas.Bool.{and_from, and_parts, eqb-true, leb-true}
use Rattle.std.proofs.lemmas.Fmt.{decimal_nonempty}
use Rattle.tw_base.specs.Answers.{◌>>=◌}
use Rattle.tw_base.specs.Bits.{all_below-at}
use Rattle.tw_base.specs.Lists.{Each}
use Rattle.tw_lex.specs.declared.token.LexError.{LexError}
use Rattle.tw_lex.specs.declared.token.LexError.TheVariants.{NotAscii}
use Rattle.tw_lex.specs.declared.token.Line.{Line}
use Rattle.tw_lex.specs.declared.token.Token.{Token}
use Rattle.tw_lex.specs.declared.token.What.{What}
use Rattle.tw_lex.specs.declared.token.What.TheVariants as whats
use Rattle.tw_lex.specs.Bytes.{is_allowed, is_blank, is_digit, is_line_feed, is_word_start, is_word_byte, code_of}
use Rattle.tw_lex.specs.Lexemes.{lexeme}
use Rattle.tw_lex.specs.Lines.{line_tokens, lines_from, lines_of, or_bad, tokens_from, tokens_of, with_line}
use Rattle.printed_reports.specs.Lexing.{IsPlain, IsPlainLine, begins_word, is_word, lines_at, text_line, text_of, tokens_at}
use Rattle.printed_reports.specs.Lexing.{what_text}
use Rattle.teapot_print.proofs.Lexing.{NoBlank, NoWord, all-imply, begins, cond-false, cond-true, decimal-digits, decimal-lexed}
use Rattle.teapot_print.proofs.Lexing.{one-found, token_at, word-lexed}

-- ---- the bytes of words and numbers

or-cases : (a b : Bool) → (a || b) ≡ true → (a ≡ true) ⊎ (b ≡ true)
or-cases true b e = inl refl
or-cases false b e = inr e

between : (lo hi b : ℕ) → hi < 128 → (nat_le lo b && nat_le b hi) ≡ true → b < 128
between lo hi b lt e = let le = leb-true b hi (and_parts (nat_le lo b) (nat_le b hi) e).1 in omega arith

word-below : (b : ℕ) → is_word_byte b ≡ true → b < 128
word-below b e = elim (or-cases (is_word_start b) (is_digit b) e) [
  | inl start ↦ elim (or-cases ((nat_le 65 b && nat_le b 90) || (nat_le 97 b && nat_le b 122)) (b == 95) start) [
    | inl letter ↦ elim (or-cases (nat_le 65 b && nat_le b 90) (nat_le 97 b && nat_le b 122) letter) [
      | inl upper ↦ between 65 90 b (omega arith) upper
      | inr lower ↦ between 97 122 b (omega arith) lower
    ]
    | inr bar ↦ let same = eqb-true b 95 bar in omega arith
  ]
  | inr digit ↦ between 48 57 b (omega arith) digit
]

-- a byte of a line that is no comment and no blank
abbrev is_dark : ℕ → Bool
is_dark b = is_allowed b && (not (b == 35) && not (is_blank b))

implies : (a c : Bool) → (not a || c) ≡ true → a ≡ true → c ≡ true
implies true c e h = e
implies false c e h = absurd cc

word-dark : (b : ℕ) → is_word_byte b ≡ true → is_dark b ≡ true
word-dark b e = implies (is_word_byte b) (is_dark b) (all_below-at 128 (λ n. not (is_word_byte n) || is_dark n) refl b
    (word-below b e)) e

digit-word : (b : ℕ) → is_digit b ≡ true → is_word_byte b ≡ true
digit-word b e = right (is_word_start b) (is_digit b) e
  where
    right : (a c : Bool) → c ≡ true → (a || c) ≡ true
    right true c e = refl
    right false c e = e

-- ---- a token

word-starts : (w : List ℕ) → begins_word w ≡ true → begins is_word_start w ≡ true
word-starts [] e = e
word-starts (b ∷ bs) e = e

word-parts : (w : List ℕ) → is_word w ≡ true → (begins is_word_start w ≡ true) × (list_all is_word_byte w ≡ true) ×
    (length w ≤ 64)
word-parts w e =
    let p = and_parts (begins_word w) (list_all is_word_byte w && nat_le (length w) 64) e in
    let q = and_parts (list_all is_word_byte w) (nat_le (length w) 64) p.1 in
    (word-starts w p.0, q.0, leb-true (length w) 64 q.1)

begins-some : (w : List ℕ) → begins is_word_start w ≡ true → 0 < length w
begins-some [] e = absurd cc
begins-some (b ∷ bs) e = omega arith

plain-dark : (w : What) → IsPlain w → list_all is_dark (what_text w) ≡ true
plain-dark (whats.Word w) h = all-imply is_word_byte is_dark word-dark w (word-parts w h).1
plain-dark (whats.Number n) h = all-imply is_digit is_dark (λ b e. word-dark b (digit-word b e)) (decimal n)
    (decimal-digits n h)
plain-dark (whats.Mark mark) h = absurd h

plain-some : (w : What) → IsPlain w → 0 < length (what_text w)
plain-some (whats.Word w) h = begins-some w (word-parts w h).0
plain-some (whats.Number n) h = decimal_nonempty n h
plain-some (whats.Mark mark) h = absurd h

plain-lexed : (w : What) (rest : List ℕ) → IsPlain w → NoWord rest → lexeme (what_text w ++ rest) ≡ Some
    (w, length (what_text w))
plain-lexed (whats.Word w) rest h s = let p = word-parts w h in word-lexed w rest p.0 p.1 p.2 s
plain-lexed (whats.Number n) rest h s = decimal-lexed n rest h s
plain-lexed (whats.Mark mark) rest h s = absurd h

-- it has a byte, and that is no blank
dark-first : (bytes : List ℕ) → 0 < length bytes → list_all is_dark bytes ≡ true → NoBlank bytes
dark-first [] some h = omega arith
dark-first (b ∷ bs) some h =
    let first = (and_parts (is_dark b) (list_all is_dark bs) h).0 in
    let blank = (and_parts (not (b == 35)) (not (is_blank b))
    (and_parts (is_allowed b) (not (b == 35) && not (is_blank b)) first).1).1 in
    off (is_blank b) blank
  where
    off : (v : Bool) → not v ≡ true → v ≡ false
    off true e = absurd cc
    off false e = refl

-- ---- the tokens of a line

-- a line without its feed
abbrev code : List What → List ℕ
code [] = []
code (w ∷ []) = what_text w
code (w ∷ v ∷ vs) = what_text w ++ 32 ∷ code (v ∷ vs)

line-code : (ws : List What) → text_line ws ≡ code ws ++ 10 ∷ []
line-code [] = refl
line-code (w ∷ []) = refl
line-code (w ∷ v ∷ vs) =
    ap (λ rest. what_text w ++ 32 ∷ rest) (line-code (v ∷ vs)) ∙ sym (append_assoc (what_text w) (32 ∷ code (v ∷ vs)) (10 ∷ []))

one-plain : (w : What) (rest : List ℕ) (at : ℕ) → IsPlain w → NoWord rest
    → tokens_from 0 at (what_text w ++ rest) ≡ option_map (λ ts. token_at at (length (what_text w)) w ∷ ts)
    (tokens_from 0 (at + length (what_text w)) rest)
one-plain w rest at h s =
    one-found (what_text w) rest at w (dark-first (what_text w) (plain-some w h) (plain-dark w h)) (plain-lexed w rest h s)

tokens-coded : (ws : List What) (at : ℕ) → Each IsPlain ws → tokens_from 0 at (code ws) ≡ Some (tokens_at at ws)
unfolding tokens_from
tokens-coded [] at h = refl
tokens-coded (w ∷ []) at (h, hs) = ap (tokens_from 0 at) (sym (append-nil (what_text w))) ∙ one-plain w [] at h tt
tokens-coded (w ∷ v ∷ vs) at (h, hs) =
    one-plain w (32 ∷ code (v ∷ vs)) at h refl
    ∙ ap (option_map (λ ts. token_at at (length (what_text w)) w ∷ ts))
    (tokens-coded (v ∷ vs) (at + length (what_text w) + 1) hs)

-- ---- the code of a line

-- a byte of a line that is no comment and no end
abbrev is_clean : ℕ → Bool
is_clean b = is_allowed b && not (b == 35)

abbrev Clean : List ℕ → Type 0
Clean bytes = list_all is_clean bytes ≡ true

clean-append : (xs ys : List ℕ) → Clean xs → Clean ys → Clean (xs ++ ys)
clean-append [] ys h e = e
clean-append (x ∷ xs) ys h e =
    let p = and_parts (is_clean x) (list_all is_clean xs) h in
    and_from (is_clean x) (list_all is_clean (xs ++ ys)) p.0 (clean-append xs ys p.1 e)

dark-clean : (b : ℕ) → is_dark b ≡ true → is_clean b ≡ true
dark-clean b e =
    let p = and_parts (is_allowed b) (not (b == 35) && not (is_blank b)) e in
    and_from (is_allowed b) (not (b == 35)) p.0 (and_parts (not (b == 35)) (not (is_blank b)) p.1).0

plain-clean : (w : What) → IsPlain w → Clean (what_text w)
plain-clean w h = all-imply is_dark is_clean dark-clean (what_text w) (plain-dark w h)

code-clean : (ws : List What) → Each IsPlain ws → Clean (code ws)
code-clean [] h = refl
code-clean (w ∷ []) (h, hs) = plain-clean w h
code-clean (w ∷ v ∷ vs) (h, hs) = clean-append (what_text w) (32 ∷ code (v ∷ vs)) (plain-clean w h) (code-clean (v ∷ vs) hs)

all-taken : (p : ℕ → Bool) (xs : List ℕ) → list_all p xs ≡ true → take (prefix_len p xs) xs ≡ xs
all-taken p [] h = refl
all-taken p (x ∷ xs) h =
    let parts = and_parts (p x) (list_all p xs) h in
    step (p x) (prefix_len p xs) parts.0 ∙ ap (λ ys. x ∷ ys) (all-taken p xs parts.1)
  where
    step : (v : Bool) (n : ℕ) → v ≡ true → take (cond v (1 + n) 0) (x ∷ xs) ≡ x ∷ take n xs
    step true n e = let more : 1 + n ≡ suc n = omega arith in ap (λ j. take j (x ∷ xs)) more
    step false n e = absurd cc

code-is : (bytes : List ℕ) → Clean bytes → code_of bytes ≡ bytes
code-is bytes h =
    all-taken (λ b. not (b == 35)) bytes (all-imply is_clean (λ b. not (b == 35))
    (λ b e. (and_parts (is_allowed b) (not (b == 35)) e).1) bytes h)

tokens-found : (number start : ℕ) (bytes : List ℕ) (found : List Token) → Clean bytes → tokens_from 0 start bytes ≡ Some found
    → line_tokens number start bytes ≡ Ok found
tokens-found number start bytes found h is =
    ap (λ (code : List ℕ). cond (list_all is_allowed code) (tokens_of number start code) (Err (NotAscii number)))
    (code-is bytes h)
    ∙ cond-true (list_all is_allowed bytes) (tokens_of number start bytes) (Err (NotAscii number))
    (all-imply is_clean is_allowed (λ b e. (and_parts (is_allowed b) (not (b == 35)) e).0) bytes h)
    ∙ ap (or_bad number) is

-- ---- lines

no-ten : is_clean 10 ≡ true → ⊥
no-ten h = cc

no-feed-by : (v : Bool) (b : ℕ) → is_line_feed b ≡ v → is_clean b ≡ true → v ≡ false
no-feed-by false b is e = refl
no-feed-by true b is e = absurd (no-ten (subst (λ n. is_clean n ≡ true) (eqb-true b 10 is) e))

no-feed : (b : ℕ) → is_clean b ≡ true → is_line_feed b ≡ false
no-feed b e = no-feed-by (is_line_feed b) b refl e

first-line : (bytes rest : List ℕ) → Clean bytes → lines_of (bytes ++ (10 ∷ rest)) ≡ bytes ∷ lines_of rest
first-line [] rest h = refl
first-line (b ∷ bs) rest h =
    let p = and_parts (is_clean b) (list_all is_clean bs) h in
    cond-false (is_line_feed b) ([] ∷ lines_of (bs ++ (10 ∷ rest))) (onto_first b (lines_of (bs ++ (10 ∷ rest))))
    (no-feed b p.0)
    ∙ ap (onto_first b) (first-line bs rest p.1)

line-of : (ws : List What) (rest : List ℕ) → Each IsPlain ws → lines_of (text_line ws ++ rest) ≡ code ws ∷ lines_of rest
line-of ws rest h =
    ap (λ l. lines_of (l ++ rest)) (line-code ws) ∙ ap lines_of (append_assoc (code ws) (10 ∷ []) rest)
    ∙ first-line (code ws) rest (code-clean ws h)

length-line : (ws : List What) → length (text_line ws) ≡ length (code ws) + 1
length-line ws = ap length (line-code ws) ∙ length-append (code ws) (10 ∷ [])

plain-each : (ws : List What) → IsPlainLine ws → Each IsPlain ws
plain-each [] h = absurd h
plain-each (w ∷ ws) h = h

line-kept : (number start : ℕ) (ws : List What) (ls : List Line) → IsPlainLine ws → with_line number
    (tokens_at start ws) ls ≡ record { number = number; tokens = tokens_at start ws } ∷ ls
line-kept number start [] ls h = absurd h
line-kept number start (w ∷ ws) ls h = refl

-- the lines of a text of such lines
pub lines-lexed : (lines : List (List What)) (number start : ℕ) → Each IsPlainLine lines → lines_from number start
    (lines_of (text_of lines)) ≡ Ok (lines_at number start lines)
unfolding lines_from
lines-lexed [] number start h = refl
lines-lexed (ws ∷ lines) number start (h, hs) =
    let plain = plain-each ws h in
    let next = start + length (text_line ws) in
    let place : start + length (code ws) + 1 ≡ next = omega (arith, length-line ws) in
    let one = tokens-found number start (code ws) (tokens_at start ws) (code-clean ws plain) (tokens-coded ws start plain) in
    let more : lines_from (number + 1) (start + length (code ws) + 1) (lines_of (text_of lines)) ≡ Ok
    (lines_at (number + 1) next lines) =
    ap (λ at. lines_from (number + 1) at (lines_of (text_of lines))) place ∙ lines-lexed lines (number + 1) next hs in
    ap (lines_from number start) (line-of ws (text_of lines) plain)
    ∙ ap (λ (r : Result (List Token) LexError). r >>= λ ts. lines_from (number + 1) (start + length (code ws) + 1)
    (lines_of (text_of lines)) >>= λ rest. Ok (with_line number ts rest)) one
    ∙ ap (λ (r : Result (List Line) LexError). r >>= λ rest. Ok (with_line number (tokens_at start ws) rest)) more
    ∙ ap Ok (line-kept number start ws (lines_at (number + 1) next lines) h)

-- as many as there are
pub count-lines : (lines : List (List What)) → Each IsPlainLine lines → length (lines_of (text_of lines)) ≡ length lines
count-lines [] h = refl
count-lines (ws ∷ lines) (h, hs) = ap length (line-of ws (text_of lines) (plain-each ws h)) ∙ ap suc (count-lines lines hs)
