-- What the lexer finds in a text are lines as they stand in a text.
use Rattle.std.proofs.Common.{◌≡◌, ℕ, zero, suc, ◌+◌, ◌-◌, Bool, true, false, cond, ◌||◌, List, [], ◌∷◌, ◌++◌, length, take}
use Rattle.std.proofs.Common.{Option, Some, None, Result, Ok, Err, refl, ap, ◌∙◌, subst, arith}
use Rattle.std.specs.Prelude.{not, nat_le}
use Rattle.std.specs.List.{list_all, position_or_len, prefix_len}
use Rattle.std.specs.Option.{option_map}
use Rattle.std.proofs.lemmas.Bool.{and_from, leb-true}
use Rattle.tw_base.specs.Answers.{◌>>=◌}
use Rattle.tw_base.specs.Lists.{Each}
use Rattle.tw_lex.specs.declared.token.LexError.{LexError}
use Rattle.tw_lex.specs.declared.token.LexError.TheVariants.{NotAscii}
use Rattle.tw_lex.specs.declared.token.Lexed.{Lexed}
use Rattle.tw_lex.specs.declared.token.Line.{Line}
use Rattle.tw_lex.specs.declared.token.Mark.{Mark}
use Rattle.tw_lex.specs.declared.token.Token.{Token}
use Rattle.tw_lex.specs.declared.token.What.{What}
use Rattle.tw_lex.specs.declared.token.What.TheVariants as what
use Rattle.tw_lex.specs.Bytes.{is_allowed, is_blank, is_digit, is_word_start, is_word_byte, code_of}
use Rattle.tw_lex.specs.Lexemes.{lexeme, mark_at, number_at, number_of, or_single, pair_mark, single_mark, word_at, word_run}
use Rattle.tw_lex.specs.Lines.{lexed, line_tokens, lines_from, lines_of, or_bad, tokens_from, tokens_of, with_line}
use Rattle.teapot_tree.specs.Grammar.{is_letter_or_digit, starts_word}
use Rattle.teapot_parse.specs.Given.{AreTextLines, IsTextToken}
use Rattle.teapot_parse.specs.Laws.{LexedAreTextLines, TextGivesTree}
use Rattle.teapot_parse.proofs.Builds.{each-parts}
use Rattle.teapot_parse.proofs.Found.{parsed-found}

-- ---- a token

abbrev IsText : Option (What × ℕ) → Type 0
IsText None = Unit {0}
IsText (Some found) = IsTextToken found.0

if_text : (v : Bool) (x y : Option (What × ℕ)) → (v ≡ true → IsText x) → IsText y → IsText (cond v x y)
if_text true x y p q = p refl
if_text false x y p q = q

start-first : (s d : Bool) (b n : ℕ) (bs : List ℕ) → s ≡ true → starts_word (b ∷ take n bs) ≡ true →
    starts_word (take (cond (not (not (s || d))) (1 + n) 0) (b ∷ bs)) ≡ true
start-first true d b n bs e h = let more : 1 + n ≡ suc n = omega arith in ap (λ k. starts_word (take k (b ∷ bs))) more ∙ h
start-first false d b n bs e h = absurd cc

run-starts : (b : ℕ) (bs : List ℕ) → is_word_start b ≡ true → starts_word (word_run (b ∷ bs)) ≡ true
run-starts b bs e = start-first (is_word_start b) (is_digit b) b (position_or_len (λ x. not (is_word_byte x)) bs) bs e e

not-not : (b : Bool) → not (not b) ≡ b
not-not true = refl
not-not false = refl

-- twice not is the test itself
twice : (λ b. not (not (is_word_byte b))) ≡ is_word_byte
twice = λ j b. not-not (is_word_byte b) j

front-one : (p : ℕ → Bool) (v : Bool) (x : ℕ) (xs : List ℕ) (n : ℕ) → p x ≡ v → list_all p (take n xs) ≡ true →
    list_all p (take (cond v (1 + n) 0) (x ∷ xs)) ≡ true
front-one p true x xs n e rest =
    let more : 1 + n ≡ suc n = omega arith in
    ap (λ k. list_all p (take k (x ∷ xs))) more ∙ and_from (p x) (list_all p (take n xs)) e rest
front-one p false x xs n e rest = refl

-- the longest front that passes does
front-passes : (p : ℕ → Bool) (xs : List ℕ) → list_all p (take (prefix_len p xs) xs) ≡ true
front-passes p [] = refl
front-passes p (x ∷ xs) = front-one p (p x) x xs (prefix_len p xs) refl (front-passes p xs)

run-passes : (bytes : List ℕ) → list_all is_letter_or_digit (word_run bytes) ≡ true
run-passes bytes = subst (λ p. list_all p (word_run bytes) ≡ true) twice (front-passes (λ b. not (not (is_word_byte b))) bytes)

number-text : (o : Option ℕ) (len : ℕ) → IsText (option_map (λ n. (what.Number n, len)) o)
number-text None len = tt
number-text (Some n) len = tt

one-text : (o : Option Mark) → IsText (option_map (λ m. (what.Mark m, 1)) o)
one-text None = tt
one-text (Some m) = tt

single-text : (o : Option Mark) (b : ℕ) → IsText (or_single o b)
single-text None b = one-text (single_mark b)
single-text (Some m) b = tt

mark-text : (bytes : List ℕ) → IsText (mark_at bytes)
mark-text [] = tt
mark-text (b ∷ []) = one-text (single_mark b)
mark-text (b ∷ c ∷ bs) = single-text (pair_mark b c) b

lexeme-text : (bytes : List ℕ) → IsText (lexeme bytes)
unfolding lexeme
lexeme-text [] = tt
lexeme-text (b ∷ bs) =
    let bytes = b ∷ bs in
    let run = word_run bytes in
    if_text (is_word_start b) (word_at run) (cond (is_digit b) (number_at run) (mark_at bytes))
    (λ start. if_text (nat_le (length run) 64) (Some (what.Word run, length run)) None
    (λ short. (run-starts b bs start, run-passes bytes, leb-true (length run) 64 short)) tt)
    (if_text (is_digit b) (number_at run) (mark_at bytes) (λ _. number-text (number_of run) (length run)) (mark-text bytes))

-- ---- the tokens of a line

abbrev AreText : List Token → Type 0
AreText ts = Each (λ (t : Token). IsTextToken t.what) ts

abbrev MayBeText : Option (List Token) → Type 0
MayBeText None = Unit {0}
MayBeText (Some ts) = AreText ts

-- a token and those after it
abbrev put_token : ℕ → Option (What × ℕ) → (ℕ → Option (List Token)) → Option (List Token)
put_token at None rest = None
put_token at (Some found) rest = option_map (λ ts. record { start = at; end = at + found.1; what = found.0 } ∷ ts)
    (rest (found.1 - 1))

before-text : (t : Token) (rest : Option (List Token)) → IsTextToken t.what → MayBeText rest →
    MayBeText (option_map (λ ts. t ∷ ts) rest)
before-text t None h k = tt
before-text t (Some ts) h k = (h, k)

put-text : (at : ℕ) (found : Option (What × ℕ)) (rest : ℕ → Option (List Token)) → IsText found →
    ((skip : ℕ) → MayBeText (rest skip)) → MayBeText (put_token at found rest)
put-text at None rest h k = tt
put-text at (Some found) rest h k = before-text (record { start = at; end = at + found.1; what = found.0 })
    (rest (found.1 - 1)) h (k (found.1 - 1))

if_may : (v : Bool) (x y : Option (List Token)) → MayBeText x → MayBeText y → MayBeText (cond v x y)
if_may true x y p q = p
if_may false x y p q = q

tokens-text : (skip at : ℕ) (bytes : List ℕ) → MayBeText (tokens_from skip at bytes)
unfolding tokens_from
tokens-text zero at [] = tt
tokens-text (suc skip) at [] = tt
tokens-text (suc skip) at (b ∷ bs) = tokens-text skip (at + 1) bs
tokens-text zero at (b ∷ bs) =
    if_may (is_blank b) (tokens_from zero (at + 1) bs) (put_token at (lexeme (b ∷ bs)) (λ skip. tokens_from skip (at + 1) bs))
    (tokens-text zero (at + 1) bs)
    (put-text at (lexeme (b ∷ bs)) (λ skip. tokens_from skip (at + 1) bs) (lexeme-text (b ∷ bs))
    (λ skip. tokens-text skip (at + 1) bs))

abbrev GivesText : Result (List Token) LexError → Type 0
GivesText (Ok ts) = AreText ts
GivesText (Err e) = Unit {0}

or_bad-text : (number : ℕ) (o : Option (List Token)) → MayBeText o → GivesText (or_bad number o)
or_bad-text number None h = tt
or_bad-text number (Some ts) h = h

if_gives : (v : Bool) (number : ℕ) (r : Result (List Token) LexError) → GivesText r → GivesText (cond v r (Err (NotAscii number)))
if_gives true number r h = h
if_gives false number r h = tt

line-text : (number start : ℕ) (line : List ℕ) → GivesText (line_tokens number start line)
line-text number start line =
    let code = code_of line in
    if_gives (list_all is_allowed code) number (tokens_of number start code)
    (or_bad-text number (tokens_from 0 start code) (tokens-text 0 start code))

-- ---- the lines of a text

abbrev GivesLines : Result (List Line) LexError → Type 0
GivesLines (Ok ls) = AreTextLines ls
GivesLines (Err e) = Unit {0}

with-text : (number : ℕ) (ts : List Token) (ls : List Line) → AreText ts → AreTextLines ls → AreTextLines (with_line number ts ls)
with-text number [] ls h k = k
with-text number (t ∷ ts) ls h k = (h, k)

rest-text : (number : ℕ) (ts : List Token) (rest : Result (List Line) LexError) → AreText ts → GivesLines rest →
    GivesLines (rest >>= λ ls. Ok (with_line number ts ls))
rest-text number ts (Ok ls) h k = with-text number ts ls h k
rest-text number ts (Err e) h k = tt

line-and-rest : (number : ℕ) (found : Result (List Token) LexError) (rest : Result (List Line) LexError) → GivesText found →
    GivesLines rest → GivesLines (found >>= λ ts. rest >>= λ ls. Ok (with_line number ts ls))
line-and-rest number (Ok ts) rest h k = rest-text number ts rest h k
line-and-rest number (Err e) rest h k = tt

lines-text : (number start : ℕ) (pieces : List (List ℕ)) → GivesLines (lines_from number start pieces)
unfolding lines_from
lines-text number start [] = tt
lines-text number start (line ∷ rest) =
    line-and-rest number (line_tokens number start line) (lines_from (number + 1) (start + length line + 1) rest)
    (line-text number start line) (lines-text (number + 1) (start + length line + 1) rest)

abbrev GivesLexed : Result Lexed LexError → Type 0
GivesLexed (Ok found) = AreTextLines found.list
GivesLexed (Err e) = Unit {0}

all-text : (all : ℕ) (found : Result (List Line) LexError) → GivesLines found →
    GivesLexed (found >>= λ ls. Ok (record { all = all; list = ls }))
all-text all (Ok ls) h = h
all-text all (Err e) h = tt

pub lexed-are-text-lines : LexedAreTextLines
unfolding lexed
lexed-are-text-lines text found e =
    subst GivesLexed e (all-text (length (lines_of text)) (lines_from 1 0 (lines_of text)) (lines-text 1 0 (lines_of text)))

pub text-gives-tree : TextGivesTree
text-gives-tree text found before lines behind p after e parts read =
    let all = subst AreTextLines parts (lexed-are-text-lines text found e) in
    let these =
    (each-parts (λ (l : Line). Each (λ (t : Token). IsTextToken t.what) l.tokens) lines behind
    (each-parts (λ (l : Line). Each (λ (t : Token). IsTextToken t.what) l.tokens) before (lines ++ behind) all).1).0 in
    parsed-found lines p after these read
