-- The canonical text of some lines is lexed to lines with their tokens, numbered one by one.
use Rattle.std.proofs.Common.{◌≡◌, ℕ, zero, suc, ◌+◌, ◌<◌, ◌≤◌, Bool, true, false, cond, ◌||◌, ◌&&◌, List, [], ◌∷◌, ◌++◌}
use Rattle.std.proofs.Common.{length, map, take, Some, Result, Ok, Err, refl, sym, ap, ◌∙◌, subst, inl, inr, arith}
use Rattle.std.proofs.Common.{append_assoc}
use Rattle.std.specs.Prelude.{◌==◌, ◌⊎◌, not, nat_le, decimal}
use Rattle.std.specs.List.{list_all, onto_first, prefix_len}
use Rattle.std.specs.Option.{option_map}
use Rattle.std.proofs.lemmas.Bool.{and_from, and_parts, eqb-true, leb-true}
use Rattle.std.proofs.lemmas.Fmt.{decimal_nonempty}
use Rattle.tw_base.specs.Answers.{◌>>=◌}
use Rattle.tw_base.specs.Bits.{all_below-at}
use Rattle.tw_base.specs.Lists.{Each}
use Rattle.tw_lex.specs.declared.token.LexError.{LexError}
use Rattle.tw_lex.specs.declared.token.LexError.TheVariants.{NotAscii}
use Rattle.tw_lex.specs.declared.token.Line.{Line}
use Rattle.tw_lex.specs.declared.token.Mark.{Mark}
use Rattle.tw_lex.specs.declared.token.Mark.TheVariants as m
use Rattle.tw_lex.specs.declared.token.Token.{Token}
use Rattle.tw_lex.specs.declared.token.What.{What}
use Rattle.tw_lex.specs.declared.token.What.TheVariants as what
use Rattle.tw_lex.specs.Bytes.{is_allowed, is_blank, is_digit, is_line_feed, is_word_start, is_word_byte, code_of}
use Rattle.tw_lex.specs.Laws.{Ends}
use Rattle.tw_lex.specs.Lexemes.{lexeme}
use Rattle.tw_lex.specs.Lines.{lexed, line_tokens, lines_from, lines_of, or_bad, tokens_from, tokens_of, with_line}
use Rattle.teapot_tree.specs.declared.expr.Expr.{Expr}
use Rattle.teapot_tree.specs.declared.keyword.Keyword.{Keyword}
use Rattle.teapot_tree.specs.declared.keyword.Keyword.TheVariants as k
use Rattle.teapot_tree.specs.Grammar.{is_letter_or_digit, starts_word}
use Rattle.teapot_tree.specs.Keywords.{spelling_of}
use Rattle.teapot_lines.specs.declared.form.Form.{Form}
use Rattle.teapot_lines.specs.declared.form.Form.TheVariants as f
use Rattle.teapot_lines.specs.Seen.{Seen, Key, Named, Number, Marked, seen}
use Rattle.teapot_lines.specs.Spelling.{spelling, fits_form}
use Rattle.teapot_parse.specs.Given.{SpellAll}
use Rattle.teapot_parse.specs.Trees.{Lines}
use Rattle.teapot_print.specs.declared.printer.Last.{Last}
use Rattle.teapot_print.specs.declared.printer.Last.TheVariants.{Begin, Opening, Word, Other}
use Rattle.teapot_print.specs.Text.{begins_at, begins_behind, gap, is_opening, is_tight, last_of, line_text, lines_text}
use Rattle.teapot_print.specs.Text.{mark_bytes, space_if_not, spaces, text_after, token_bytes}
use Rattle.teapot_print.proofs.Lexing.{NoBlank, NoWord, all-imply, begins, cond-false, cond-true, decimal-digits, decimal-lexed}
use Rattle.teapot_print.proofs.Lexing.{mark-lexed, one-found, token_at, word-lexed}
use Rattle.teapot_print.proofs.Stays.{Stays, seen-again, what_of}

-- ---- words

-- a word of the language
abbrev is_word : List ℕ → Bool
is_word w = begins is_word_start w && (list_all is_word_byte w && nat_le (length w) 64)

key-word : (key : Keyword) → is_word (spelling_of key) ≡ true
key-word k.Protocol = refl
key-word _ = refl

starts-begins : (w : List ℕ) → starts_word w ≡ true → begins is_word_start w ≡ true
starts-begins [] e = e
starts-begins (b ∷ bs) e = e

or-cases : (a b : Bool) → (a || b) ≡ true → (a ≡ true) ⊎ (b ≡ true)
or-cases true b e = inl refl
or-cases false b e = inr e

between : (lo hi b : ℕ) → hi < 128 → (nat_le lo b && nat_le b hi) ≡ true → b < 128
between lo hi b lt e = let le = leb-true b hi (and_parts (nat_le lo b) (nat_le b hi) e).1 in omega arith

word-below : (b : ℕ) → is_word_byte b ≡ true → b < 128
word-below b e = elim (or-cases (is_word_start b) (is_digit b) e) [
  | inl start ↦ elim (or-cases ((nat_le 65 b && nat_le b 90) || (nat_le 97 b && nat_le b 122)) (b == 95) start) [
    | inl letter ↦ elim (or-cases (nat_le 65 b && nat_le b 90) (nat_le 97 b && nat_le b 122) letter) [
      | inl upper ↦ between 65 90 b (omega arith) upper
      | inr lower ↦ between 97 122 b (omega arith) lower
    ]
    | inr bar ↦ let same = eqb-true b 95 bar in omega arith
  ]
  | inr digit ↦ between 48 57 b (omega arith) digit
]

-- a byte of a line that is no comment, no end and no blank
abbrev is_dark : ℕ → Bool
is_dark b = is_allowed b && (not (b == 35) && not (is_blank b))

implies : (a c : Bool) → (not a || c) ≡ true → a ≡ true → c ≡ true
implies true c e h = e
implies false c e h = absurd cc

word-dark : (b : ℕ) → is_word_byte b ≡ true → is_dark b ≡ true
word-dark b e =
    implies (is_word_byte b) (is_dark b) (all_below-at 128 (λ n. not (is_word_byte n) || is_dark n) refl b (word-below b e)) e

digit-word : (b : ℕ) → is_digit b ≡ true → is_word_byte b ≡ true
digit-word b e = right (is_word_start b) (is_digit b) e
  where
    right : (a c : Bool) → c ≡ true → (a || c) ≡ true
    right true c e = refl
    right false c e = e

-- ---- the bytes of a token

abbrev Dark : List ℕ → Type 0
Dark bytes = list_all is_dark bytes ≡ true

key-dark : (key : Keyword) → list_all is_dark (spelling_of key) ≡ true
key-dark k.Protocol = refl
key-dark _ = refl

mark-dark : (mark : Mark) → list_all is_dark (mark_bytes mark) ≡ true
mark-dark m.Open = refl
mark-dark _ = refl

token-dark : (profile : ℕ) (t : Seen) → Stays profile t → Dark (token_bytes t)
token-dark profile (Key key) h = key-dark key
token-dark profile (Named w) h = all-imply is_letter_or_digit is_dark word-dark w h.others
token-dark profile (Number n) h = all-imply is_digit is_dark (λ b e. word-dark b (digit-word b e)) (decimal n)
    (decimal-digits n h)
token-dark profile (Marked mark) h = mark-dark mark

-- ---- a token is lexed

word-parts : (w : List ℕ) → is_word w ≡ true → (begins is_word_start w ≡ true) × (list_all is_word_byte w ≡ true)
    × (length w ≤ 64)
word-parts w e =
    let p = and_parts (begins is_word_start w) (list_all is_word_byte w && nat_le (length w) 64) e in
    let q = and_parts (list_all is_word_byte w) (nat_le (length w) 64) p.1 in
    (p.0, q.0, leb-true (length w) 64 q.1)

ends-word : (w rest : List ℕ) → Ends (what.Word w) rest → NoWord rest
ends-word w [] e = tt
ends-word w (b ∷ bs) e = e

ends-number : (n : ℕ) (rest : List ℕ) → Ends (what.Number n) rest → NoWord rest
ends-number n [] e = tt
ends-number n (b ∷ bs) e = e

token-lexed : (profile : ℕ) (t : Seen) (rest : List ℕ) → Stays profile t → Ends (what_of t) rest →
    lexeme (token_bytes t ++ rest) ≡ Some (what_of t, length (token_bytes t))
token-lexed profile (Key key) rest h e = let p = word-parts (spelling_of key) (key-word key) in word-lexed
    (spelling_of key) rest p.0 p.1 p.2 (ends-word (spelling_of key) rest e)
token-lexed profile (Named w) rest h e = word-lexed w rest (starts-begins w h.first) h.others h.short (ends-word w rest e)
token-lexed profile (Number n) rest h e = decimal-lexed n rest h (ends-number n rest e)
token-lexed profile (Marked mark) rest h e = mark-lexed mark rest e

-- it has a byte, and that is no blank
dark-first : (bytes : List ℕ) → 0 < length bytes → Dark bytes → NoBlank bytes
dark-first [] some h = omega arith
dark-first (b ∷ bs) some h =
    let first = (and_parts (is_dark b) (list_all is_dark bs) h).0 in
    let blank =
    (and_parts (not (b == 35)) (not (is_blank b)) (and_parts (is_allowed b)
    (not (b == 35) && not (is_blank b)) first).1).1 in
    off (is_blank b) blank
  where
    off : (v : Bool) → not v ≡ true → v ≡ false
    off true e = absurd cc
    off false e = refl

begins-some : (w : List ℕ) → begins is_word_start w ≡ true → 0 < length w
begins-some [] e = absurd cc
begins-some (b ∷ bs) e = omega arith

key-some : (key : Keyword) → 0 < length (spelling_of key)
key-some key = begins-some (spelling_of key) (word-parts (spelling_of key) (key-word key)).0

mark-some : (mark : Mark) → 0 < length (mark_bytes mark)
mark-some m.Open = omega arith
mark-some _ = omega arith

token-some : (profile : ℕ) (t : Seen) → Stays profile t → 0 < length (token_bytes t)
token-some profile (Key key) h = key-some key
token-some profile (Named w) h = begins-some w (starts-begins w h.first)
token-some profile (Number n) h = decimal_nonempty n h
token-some profile (Marked mark) h = mark-some mark

-- ---- what stands behind a token does not go on with it

-- a space ends each token
space-ends : (t : Seen) (rest : List ℕ) → Ends (what_of t) (32 ∷ rest)
space-ends (Key key) rest = refl
space-ends (Named w) rest = refl
space-ends (Number n) rest = refl
space-ends (Marked m.Open) rest = refl
space-ends (Marked _) rest = refl

-- brackets go on with nothing
open-ends : (rest : List ℕ) → Ends (what.Mark m.Open) rest
open-ends [] = tt
open-ends (b ∷ bs) = refl

brace-ends : (rest : List ℕ) → Ends (what.Mark m.BraceOpen) rest
brace-ends [] = tt
brace-ends (b ∷ bs) = refl

-- what stands behind a word where no space does
word-tight : (u : Seen) (rest : List ℕ) → (is_tight u || is_opening u) ≡ true → NoWord (token_bytes u ++ rest)
word-tight (Marked m.Open) rest e = refl
word-tight (Marked m.Close) rest e = refl
word-tight (Marked m.BraceOpen) rest e = refl
word-tight (Marked m.BraceClose) rest e = refl
word-tight (Marked m.Comma) rest e = refl
word-tight (Marked m.Semicolon) rest e = refl
word-tight (Marked _) rest e = absurd cc
word-tight (Key key) rest e = absurd cc
word-tight (Named w) rest e = absurd cc
word-tight (Number n) rest e = absurd cc

-- closing brackets and separators
tight-word : (u : Seen) → is_tight u ≡ true → (is_tight u || is_opening u) ≡ true
tight-word u e = left (is_tight u) (is_opening u) e
  where
    left : (a c : Bool) → a ≡ true → (a || c) ≡ true
    left true c e = refl
    left false c e = absurd cc

-- no mark goes on with a closing bracket or a separator
mark-closing : (mark : Mark) (rest : List ℕ) (u : Seen) → is_tight u ≡ true → Ends (what.Mark mark) (token_bytes u ++ rest)
mark-closing mark rest (Marked m.Close) e = close mark
  where
    close : (x : Mark) → Ends (what.Mark x) (41 ∷ rest)
    close m.Open = refl
    close _ = refl
mark-closing mark rest (Marked m.BraceClose) e = close mark
  where
    close : (x : Mark) → Ends (what.Mark x) (125 ∷ rest)
    close m.Open = refl
    close _ = refl
mark-closing mark rest (Marked m.Comma) e = close mark
  where
    close : (x : Mark) → Ends (what.Mark x) (44 ∷ rest)
    close m.Open = refl
    close _ = refl
mark-closing mark rest (Marked m.Semicolon) e = close mark
  where
    close : (x : Mark) → Ends (what.Mark x) (59 ∷ rest)
    close m.Open = refl
    close _ = refl
mark-closing mark rest (Marked _) e = absurd cc
mark-closing mark rest (Key key) e = absurd cc
mark-closing mark rest (Named w) e = absurd cc
mark-closing mark rest (Number n) e = absurd cc

word-ends : (w rest : List ℕ) → NoWord rest → Ends (what.Word w) rest
word-ends w [] e = tt
word-ends w (b ∷ bs) e = e

number-ends : (n : ℕ) (rest : List ℕ) → NoWord rest → Ends (what.Number n) rest
number-ends n [] e = tt
number-ends n (b ∷ bs) e = e

-- a space, or a token that needs none
behind-if : (t u : Seen) (rest : List ℕ) (v : Bool) → (v ≡ true → Ends (what_of t) (token_bytes u ++ rest)) →
    Ends (what_of t) (space_if_not v ++ (token_bytes u ++ rest))
behind-if t u rest true h = h refl
behind-if t u rest false h = space-ends t (token_bytes u ++ rest)

behind-key : (key : Keyword) (last : Last) (u : Seen) (rest : List ℕ) → (last ≡ Word) ⊎ (last ≡ Other) →
    Ends (what_of (Key key)) (gap last u ++ (token_bytes u ++ rest))
behind-key key last u rest (inl is) = subst (λ z. Ends (what_of (Key key)) (gap z u ++ (token_bytes u ++ rest))) (sym is)
    (behind-if (Key key) u rest (is_tight u || is_opening u)
    (λ e. word-ends (spelling_of key) (token_bytes u ++ rest) (word-tight u rest e)))
behind-key key last u rest (inr is) = subst (λ z. Ends (what_of (Key key)) (gap z u ++ (token_bytes u ++ rest))) (sym is)
    (behind-if (Key key) u rest (is_tight u) (λ e. word-ends (spelling_of key) (token_bytes u ++ rest)
    (word-tight u rest (tight-word u e))))

key-last : (key : Keyword) → (last_of (Key key) ≡ Word) ⊎ (last_of (Key key) ≡ Other)
key-last k.If = inr refl
key-last _ = inl refl

behind-mark : (mark : Mark) (u : Seen) (rest : List ℕ) → Ends (what.Mark mark)
    (gap (last_of (Marked mark)) u ++ (token_bytes u ++ rest))
behind-mark m.Open u rest = open-ends (token_bytes u ++ rest)
behind-mark m.BraceOpen u rest = brace-ends (token_bytes u ++ rest)
behind-mark m.Close u rest = behind-if (Marked m.Close) u rest (is_tight u) (mark-closing m.Close rest u)
behind-mark m.BraceClose u rest = behind-if (Marked m.BraceClose) u rest (is_tight u) (mark-closing m.BraceClose rest u)
behind-mark m.Comma u rest = behind-if (Marked m.Comma) u rest (is_tight u) (mark-closing m.Comma rest u)
behind-mark m.Semicolon u rest = behind-if (Marked m.Semicolon) u rest (is_tight u) (mark-closing m.Semicolon rest u)
behind-mark m.Colon u rest = behind-if (Marked m.Colon) u rest (is_tight u) (mark-closing m.Colon rest u)
behind-mark m.Becomes u rest = behind-if (Marked m.Becomes) u rest (is_tight u) (mark-closing m.Becomes rest u)
behind-mark m.Plus u rest = behind-if (Marked m.Plus) u rest (is_tight u) (mark-closing m.Plus rest u)
behind-mark m.Minus u rest = behind-if (Marked m.Minus) u rest (is_tight u) (mark-closing m.Minus rest u)
behind-mark m.Equal u rest = behind-if (Marked m.Equal) u rest (is_tight u) (mark-closing m.Equal rest u)
behind-mark m.Unequal u rest = behind-if (Marked m.Unequal) u rest (is_tight u) (mark-closing m.Unequal rest u)
behind-mark m.Less u rest = behind-if (Marked m.Less) u rest (is_tight u) (mark-closing m.Less rest u)
behind-mark m.LessEqual u rest = behind-if (Marked m.LessEqual) u rest (is_tight u) (mark-closing m.LessEqual rest u)
behind-mark m.Both u rest = behind-if (Marked m.Both) u rest (is_tight u) (mark-closing m.Both rest u)
behind-mark m.Either u rest = behind-if (Marked m.Either) u rest (is_tight u) (mark-closing m.Either rest u)

none-ends : (x : What) → Ends x []
none-ends x = tt

ends-behind : (t : Seen) (ts : List Seen) → Ends (what_of t) (text_after (last_of t) ts)
ends-behind t [] = none-ends (what_of t)
ends-behind (Key key) (u ∷ us) = behind-key key (last_of (Key key)) u (text_after (last_of u) us) (key-last key)
ends-behind (Named w) (u ∷ us) = behind-if (Named w) u (text_after (last_of u) us) (is_tight u || is_opening u)
    (λ e. word-ends w (token_bytes u ++ text_after (last_of u) us) (word-tight u (text_after (last_of u) us) e))
ends-behind (Number n) (u ∷ us) = behind-if (Number n) u (text_after (last_of u) us) (is_tight u)
    (λ e. number-ends n (token_bytes u ++ text_after (last_of u) us)
    (word-tight u (text_after (last_of u) us) (tight-word u e)))
ends-behind (Marked mark) (u ∷ us) = behind-mark mark u (text_after (last_of u) us)

-- ---- the tokens of a line

-- the bytes from a place on have tokens that are seen as these
abbrev pub Found : ℕ → ℕ → List ℕ → List Seen → Type 0
Found profile at bytes ts = (found : List Token) × (tokens_from 0 at bytes ≡ Some found) × (map (seen profile) found ≡ ts)

blank-found : (profile at : ℕ) (bytes : List ℕ) (ts : List Seen) → Found profile (at + 1) bytes ts →
    Found profile at (32 ∷ bytes) ts
unfolding tokens_from
blank-found profile at bytes ts h = h

token-found : (profile at : ℕ) (t : Seen) (rest : List ℕ) (ts : List Seen) → Stays profile t → Ends (what_of t) rest →
    Found profile (at + length (token_bytes t)) rest ts → Found profile at (token_bytes t ++ rest) (t ∷ ts)
token-found profile at t rest ts h e (found, is, same) =
    let bytes = token_bytes t in
    let token = token_at at (length bytes) (what_of t) in
    let one = one-found bytes rest at (what_of t) (dark-first bytes (token-some profile t h) (token-dark profile t h))
    (token-lexed profile t rest h e) in (
      token ∷ found,
      one ∙ ap (option_map (λ us. token ∷ us)) is,
      ap (λ s. s ∷ map (seen profile) found) (seen-again profile t h) ∙ ap (λ us. t ∷ us) same,
    )

space-is : (v : Bool) → (space_if_not v ≡ []) ⊎ (space_if_not v ≡ 32 ∷ [])
space-is true = inl refl
space-is false = inr refl

gap-is : (last : Last) (t : Seen) → (gap last t ≡ []) ⊎ (gap last t ≡ 32 ∷ [])
gap-is Begin t = inl refl
gap-is Opening t = inl refl
gap-is Word t = space-is (is_tight t || is_opening t)
gap-is Other t = space-is (is_tight t)

behind-gap : (profile at : ℕ) (space bytes : List ℕ) (ts : List Seen) → (space ≡ []) ⊎ (space ≡ 32 ∷ []) →
    ((from : ℕ) → Found profile from bytes ts) → Found profile at (space ++ bytes) ts
behind-gap profile at space bytes ts (inl none) h = subst (λ g. Found profile at (g ++ bytes) ts) (sym none) (h at)
behind-gap profile at space bytes ts (inr one) h = subst (λ g. Found profile at (g ++ bytes) ts) (sym one)
    (blank-found profile at bytes ts (h (at + 1)))

text-found : (profile : ℕ) (ts : List Seen) (last : Last) (at : ℕ) → Each (Stays profile) ts →
    Found profile at (text_after last ts) ts
unfolding tokens_from
text-found profile [] last at h = ([], refl, refl)
text-found profile (t ∷ ts) last at (h, hs) =
    behind-gap profile at (gap last t) (token_bytes t ++ text_after (last_of t) ts) (t ∷ ts) (gap-is last t)
    (λ from. token-found profile from t (text_after (last_of t) ts) ts h (ends-behind t ts)
    (text-found profile ts (last_of t) (from + length (token_bytes t)) hs))

indent-found : (profile n : ℕ) (bytes : List ℕ) (ts : List Seen) → ((from : ℕ) → Found profile from bytes ts) → (at : ℕ) →
    Found profile at (spaces n ++ bytes) ts
indent-found profile zero bytes ts h at = h at
indent-found profile (suc n) bytes ts h at =
    blank-found profile at (32 ∷ (spaces n ++ bytes)) ts (blank-found profile (at + 1) (spaces n ++ bytes) ts
    (indent-found profile n bytes ts h (at + 1 + 1)))

-- ---- the code of a line

-- a byte of a line that is no comment and no end
abbrev is_clean : ℕ → Bool
is_clean b = is_allowed b && not (b == 35)

abbrev Clean : List ℕ → Type 0
Clean bytes = list_all is_clean bytes ≡ true

clean-append : (xs ys : List ℕ) → Clean xs → Clean ys → Clean (xs ++ ys)
clean-append [] ys h e = e
clean-append (x ∷ xs) ys h e = let p = and_parts (is_clean x) (list_all is_clean xs) h in and_from (is_clean x)
    (list_all is_clean (xs ++ ys)) p.0 (clean-append xs ys p.1 e)

dark-clean : (b : ℕ) → is_dark b ≡ true → is_clean b ≡ true
dark-clean b e =
    let p = and_parts (is_allowed b) (not (b == 35) && not (is_blank b)) e in
    and_from (is_allowed b) (not (b == 35)) p.0 (and_parts (not (b == 35)) (not (is_blank b)) p.1).0

space-clean : (v : Bool) → Clean (space_if_not v)
space-clean true = refl
space-clean false = refl

gap-clean : (last : Last) (t : Seen) → Clean (gap last t)
gap-clean Begin t = refl
gap-clean Opening t = refl
gap-clean Word t = space-clean (is_tight t || is_opening t)
gap-clean Other t = space-clean (is_tight t)

text-clean : (profile : ℕ) (ts : List Seen) (last : Last) → Each (Stays profile) ts → Clean (text_after last ts)
text-clean profile [] last h = refl
text-clean profile (t ∷ ts) last (h, hs) =
    clean-append (gap last t) (token_bytes t ++ text_after (last_of t) ts) (gap-clean last t)
    (clean-append (token_bytes t) (text_after (last_of t) ts)
    (all-imply is_dark is_clean dark-clean (token_bytes t) (token-dark profile t h)) (text-clean profile ts (last_of t) hs))

spaces-clean : (n : ℕ) → Clean (spaces n)
spaces-clean zero = refl
spaces-clean (suc n) = spaces-clean n

all-taken : (p : ℕ → Bool) (xs : List ℕ) → list_all p xs ≡ true → take (prefix_len p xs) xs ≡ xs
all-taken p [] h = refl
all-taken p (x ∷ xs) h =
    let parts = and_parts (p x) (list_all p xs) h in
    step (p x) (prefix_len p xs) parts.0 ∙ ap (λ ys. x ∷ ys) (all-taken p xs parts.1)
  where
    step : (v : Bool) (n : ℕ) → v ≡ true → take (cond v (1 + n) 0) (x ∷ xs) ≡ x ∷ take n xs
    step true n e = let more : 1 + n ≡ suc n = omega arith in ap (λ j. take j (x ∷ xs)) more
    step false n e = absurd cc

code-is : (bytes : List ℕ) → Clean bytes → code_of bytes ≡ bytes
code-is bytes h =
    all-taken (λ b. not (b == 35)) bytes (all-imply is_clean (λ b. not (b == 35))
    (λ b e. (and_parts (is_allowed b) (not (b == 35)) e).1) bytes h)

tokens-found : (number start : ℕ) (bytes : List ℕ) (found : List Token) → Clean bytes →
    tokens_from 0 start bytes ≡ Some found → line_tokens number start bytes ≡ Ok found
tokens-found number start bytes found h is =
    ap (λ (code : List ℕ). cond (list_all is_allowed code) (tokens_of number start code) (Err (NotAscii number)))
    (code-is bytes h)
    ∙ cond-true (list_all is_allowed bytes) (tokens_of number start bytes) (Err (NotAscii number))
    (all-imply is_clean is_allowed (λ b e. (and_parts (is_allowed b) (not (b == 35)) e).0) bytes h)
    ∙ ap (or_bad number) is

-- ---- lines

no-ten : is_clean 10 ≡ true → ⊥
no-ten h = cc

no-feed-by : (v : Bool) (b : ℕ) → is_line_feed b ≡ v → is_clean b ≡ true → v ≡ false
no-feed-by false b is e = refl
no-feed-by true b is e = absurd (no-ten (subst (λ n. is_clean n ≡ true) (eqb-true b 10 is) e))

no-feed : (b : ℕ) → is_clean b ≡ true → is_line_feed b ≡ false
no-feed b e = no-feed-by (is_line_feed b) b refl e

first-line : (bytes rest : List ℕ) → Clean bytes → lines_of (bytes ++ (10 ∷ rest)) ≡ bytes ∷ lines_of rest
first-line [] rest h = refl
first-line (b ∷ bs) rest h =
    let p = and_parts (is_clean b) (list_all is_clean bs) h in
    cond-false (is_line_feed b) ([] ∷ lines_of (bs ++ (10 ∷ rest))) (onto_first b (lines_of (bs ++ (10 ∷ rest)))) (no-feed b p.0)
    ∙ ap (onto_first b) (first-line bs rest p.1)

-- lines, numbered one by one
abbrev pub numbered : ℕ → Lines → Lines
numbered number [] = []
numbered number (q ∷ qs) = (number, q.1) ∷ numbered (number + 1) qs

spelling-some : (x : Form Expr) → (t : Seen) × (ts : List Seen) × (spelling x ≡ t ∷ ts)
spelling-some f.Begin = (_, _, refl)
spelling-some _ = (_, _, refl)

with-some : (profile number : ℕ) (found : List Token) (ls : List Line) (t : Seen) (ts : List Seen) →
    map (seen profile) found ≡ t ∷ ts → with_line number found ls ≡ record { number = number; tokens = found } ∷ ls
with-some profile number [] ls t ts e = absurd cc
with-some profile number (x ∷ xs) ls t ts e = refl

-- a form that is read back
abbrev pub Back : ℕ → ℕ × Form Expr → Type 0
Back profile q = (fits_form profile q.1 ≡ true) × Each (Stays profile) (spelling q.1)

abbrev body : ℕ → Form Expr → List ℕ
body begins form = spaces begins ++ text_after Begin (spelling form)

regroup : (a b rest : List ℕ) → (a ++ (b ++ (10 ∷ []))) ++ rest ≡ (a ++ b) ++ (10 ∷ rest)
regroup a b rest = append_assoc a (b ++ (10 ∷ [])) rest ∙ ap (λ z. a ++ z) (append_assoc b (10 ∷ []) rest)
    ∙ sym (append_assoc a b (10 ∷ rest))

-- lines that are lexed to lines with these forms
abbrev Lexes : ℕ → ℕ → ℕ → List (List ℕ) → Lines → Type 0
Lexes profile number start pieces qs = (ls : List Line) × (lines_from number start pieces ≡ Ok ls)
    × SpellAll profile ls (numbered number qs)

line-before : (profile number start : ℕ) (bytes : List ℕ) (pieces : List (List ℕ)) (q : ℕ × Form Expr) (qs : Lines) →
    Clean bytes → Back profile q → Found profile start bytes (spelling q.1)
    → Lexes profile (number + 1) (start + length bytes + 1) pieces qs → Lexes profile number start (bytes ∷ pieces) (q ∷ qs)
unfolding lines_from
line-before profile number start bytes pieces q qs clean back (found, is, same) (ls, more, spell) =
    let some = spelling-some q.1 in
    let one = tokens-found number start bytes found clean is in
    let line : Line = record { number = number; tokens = found } in (
      line ∷ ls,
      ap (λ (r : Result (List Token) LexError). r >>= λ ts. lines_from (number + 1) (start + length bytes + 1) pieces >>=
          λ rest. Ok (with_line number ts rest)) one
          ∙ ap (λ (r : Result (List Line) LexError). r >>= λ rest. Ok (with_line number found rest)) more
          ∙ ap Ok (with-some profile number found ls some.0 some.1 (same ∙ some.2)),
      (refl, back.0, same, spell),
    )

pub lines-lexed : (profile : ℕ) (qs : Lines) (begins number start : ℕ) → Each (Back profile) qs →
    Lexes profile number start (lines_of (lines_text begins qs)) qs
unfolding lines_from
lines-lexed profile [] begins number start h = ([], refl, tt)
lines-lexed profile (q ∷ qs) begins number start (h, hs) =
    let n = begins_at begins q.1 in
    let more = begins_behind begins q.1 in
    let bytes = body n q.1 in
    let rest = lines_text more qs in
    let clean = clean-append (spaces n) (text_after Begin (spelling q.1)) (spaces-clean n)
    (text-clean profile (spelling q.1) Begin h.1) in
    let cut : lines_of (line_text n q.1 ++ rest) ≡ bytes ∷ lines_of rest =
    ap lines_of (regroup (spaces n) (text_after Begin (spelling q.1)) rest) ∙ first-line bytes rest clean in
    let found = indent-found profile n (text_after Begin (spelling q.1)) (spelling q.1)
    (λ from. text-found profile (spelling q.1) Begin from h.1) start in
    let all = line-before profile number start bytes (lines_of rest) q qs clean h found
    (lines-lexed profile qs more (number + 1) (start + length bytes + 1) hs) in
    subst (λ pieces. Lexes profile number start pieces (q ∷ qs)) (sym cut) all

-- a text, of which the lines are known
pub text-lexed : (text : List ℕ) (ls : List Line) → lines_from 1 0 (lines_of text) ≡ Ok ls →
    lexed text ≡ Ok (record { all = length (lines_of text); list = ls })
unfolding lexed
text-lexed text ls e =
    ap (λ (r : Result (List Line) LexError). r >>= λ rest. Ok (record { all = length (lines_of text); list = rest })) e
