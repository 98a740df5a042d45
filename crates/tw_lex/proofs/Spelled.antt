-- The token at the front of bytes is spelled by them, and the byte behind it does not go on with it.
use Rattle.std.proofs.Common.{◌≡◌, ℕ, suc, ◌+◌, ◌^◌, Bool, true, false, cond, ◌&&◌, List, [], ◌∷◌, length, take, drop, Option}
use Rattle.std.proofs.Common.{Some, None, IfSome, refl, sym, ap, ◌∙◌, subst, arith}
use Rattle.std.specs.Prelude.{not, ◌==◌, nat_le, nat_lt, is_some}
use Rattle.std.specs.Option.{option_map}
use Rattle.std.specs.List.{list_all, prefix_len}
use Rattle.std.proofs.lemmas.Bool.{and_from, and_parts, or_left, eqb-true}
use Rattle.std.proofs.lemmas.List.Folds.{length-prefix_len}
use Rattle.tw_lex.specs.declared.token.What.{What}
use Rattle.tw_lex.specs.declared.token.What.TheVariants.{Word, Number, Mark as AMark}
use Rattle.tw_lex.specs.declared.token.Mark.{Mark}
use Rattle.tw_lex.specs.declared.token.Mark.TheVariants.{Open, Close, BraceOpen, BraceClose, Comma, Semicolon, Colon, Becomes}
use Rattle.tw_lex.specs.declared.token.Mark.TheVariants.{Plus, Minus, Equal, Unequal, Less, LessEqual, Both, Either}
use Rattle.tw_lex.specs.Bytes.{is_digit, is_word_start, is_word_byte}
use Rattle.tw_lex.specs.Lexemes.{lexeme, decimal_value, mark_at, or_single, single_mark, pair_mark, word_run, word_at, number_at}
use Rattle.tw_lex.specs.Laws.{spelling, BeginsWord, IsSpelled, is_longer, extends, Ends}

abbrev Good : List ℕ → Option (What × ℕ) → Type 0
Good bytes found = IfSome found (λ x. IsSpelled x.0 (take x.1 bytes) × Ends x.0 (drop x.1 bytes))

if_good : (bytes : List ℕ) (b : Bool) (x y : Option (What × ℕ)) → (b ≡ true → Good bytes x) → (b ≡ false → Good bytes y) →
    Good bytes (cond b x y)
if_good bytes true x y p q = p refl
if_good bytes false x y p q = q refl

-- ---- marks

abbrev SpelledBy : List ℕ → Option Mark → Type 0
SpelledBy bytes found = IfSome found (λ m. spelling m ≡ bytes)

if_single : (v : Bool) (b k : ℕ) (m : Mark) (rest : Option Mark) → (v ≡ true → b ≡ k) → spelling m ≡ k ∷ [] →
    SpelledBy (b ∷ []) rest → SpelledBy (b ∷ []) (cond v (Some m) rest)
if_single true b k m rest is s r = s ∙ ap (λ n. n ∷ []) (sym (is refl))
if_single false b k m rest is s r = r

single : (b k : ℕ) (m : Mark) (rest : Option Mark) → spelling m ≡ k ∷ [] → SpelledBy (b ∷ []) rest →
    SpelledBy (b ∷ []) (cond (b == k) (Some m) rest)
single b k m rest s r = if_single (b == k) b k m rest (eqb-true b k) s r

single_mark-spelled : (b : ℕ) → SpelledBy (b ∷ []) (single_mark b)
single_mark-spelled b =
    single b 40 Open _ refl (single b 41 Close _ refl (single b 123 BraceOpen _ refl (single b 125 BraceClose _ refl
    (single b 44 Comma _ refl (single b 59 Semicolon _ refl (single b 58 Colon _ refl (single b 43 Plus _ refl
    (single b 45 Minus _ refl
    (single b 61 Equal _ refl
    (single b 60 Less _ refl (single b 38 Both _ refl (single b 124 Either None refl tt))))))))))))

if_pair : (v : Bool) (b c k l : ℕ) (m : Mark) (rest : Option Mark) → (v ≡ true → (b ≡ k) × (c ≡ l)) → spelling m ≡ k ∷ l ∷ [] →
    SpelledBy (b ∷ c ∷ []) rest
    → SpelledBy (b ∷ c ∷ []) (cond v (Some m) rest)
if_pair true b c k l m rest is s r = let p = is refl in s ∙ ap (λ n. n ∷ l ∷ []) (sym p.0) ∙ ap (λ n. b ∷ n ∷ []) (sym p.1)
if_pair false b c k l m rest is s r = r

pair : (b c k l : ℕ) (m : Mark) (rest : Option Mark) → spelling m ≡ k ∷ l ∷ [] → SpelledBy (b ∷ c ∷ []) rest →
    SpelledBy (b ∷ c ∷ []) (cond ((b == k) && (c == l)) (Some m) rest)
pair b c k l m rest s r = if_pair ((b == k) && (c == l)) b c k l m rest
    (λ e. let p = and_parts (b == k) (c == l) e in (eqb-true b k p.0, eqb-true c l p.1)) s r

pair_mark-spelled : (b c : ℕ) → SpelledBy (b ∷ c ∷ []) (pair_mark b c)
pair_mark-spelled b c = pair b c 58 61 Becomes _ refl (pair b c 60 62 Unequal _ refl (pair b c 60 61 LessEqual None refl tt))

one-good : (b : ℕ) (bs : List ℕ) (found : Option Mark) → SpelledBy (b ∷ []) found →
    ((m : Mark) → spelling m ≡ b ∷ [] → Ends (AMark m) bs) → Good (b ∷ bs) (option_map (λ m. (AMark m, 1)) found)
one-good b bs None s f = tt
one-good b bs (Some m) s f = (sym s, f m s)

ends-pair : (m : Mark) (b c : ℕ) (bs : List ℕ) → spelling m ≡ b ∷ c ∷ [] → Ends (AMark m) bs
ends-pair m b c [] s = tt
ends-pair m b c (x ∷ bs) s = ap (λ l. is_longer l x) s

two-good : (b c : ℕ) (bs : List ℕ) (found : Option Mark) → pair_mark b c ≡ found → SpelledBy (b ∷ c ∷ []) found →
    Good (b ∷ c ∷ bs) (or_single found b)
two-good b c bs None e s = one-good b (c ∷ bs) (single_mark b) (single_mark-spelled b)
    (λ m one. ap (λ l. is_longer l c) one ∙ ap is_some e)
two-good b c bs (Some m) e s = (sym s, ends-pair m b c bs s)

mark_at-good : (bytes : List ℕ) → Good bytes (mark_at bytes)
mark_at-good [] = tt
mark_at-good (b ∷ []) = one-good b [] (single_mark b) (single_mark-spelled b) (λ m s. tt)
mark_at-good (b ∷ c ∷ bs) = two-good b c bs (pair_mark b c) refl (pair_mark-spelled b c)

-- ---- words and numbers

front-one : (p : ℕ → Bool) (v : Bool) (x : ℕ) (xs : List ℕ) (n : ℕ) → p x ≡ v → list_all p (take n xs) ≡ true →
    list_all p (take (cond v (1 + n) 0) (x ∷ xs)) ≡ true
front-one p true x xs n e rest =
    let more : 1 + n ≡ suc n = omega arith in
    ap (λ k. list_all p (take k (x ∷ xs))) more ∙ and_from (p x) (list_all p (take n xs)) e rest
front-one p false x xs n e rest = refl

pub front-passes : (p : ℕ → Bool) (xs : List ℕ) → list_all p (take (prefix_len p xs) xs) ≡ true
front-passes p [] = refl
front-passes p (x ∷ xs) = front-one p (p x) x xs (prefix_len p xs) refl (front-passes p xs)

abbrev pub Stops : (ℕ → Bool) → List ℕ → Type 0
Stops p [] = Unit {0}
Stops p (x ∷ xs) = p x ≡ false

stops-one : (p : ℕ → Bool) (v : Bool) (x : ℕ) (xs : List ℕ) (n : ℕ) → p x ≡ v → Stops p (drop n xs) →
    Stops p (drop (cond v (1 + n) 0) (x ∷ xs))
stops-one p true x xs n e rest =
    let more : 1 + n ≡ suc n = omega arith in
    subst (λ k. Stops p (drop k (x ∷ xs))) (sym more) rest
stops-one p false x xs n e rest = e

pub front-stops : (p : ℕ → Bool) (xs : List ℕ) → Stops p (drop (prefix_len p xs) xs)
front-stops p [] = tt
front-stops p (x ∷ xs) = stops-one p (p x) x xs (prefix_len p xs) refl (front-stops p xs)

not-not : (b : Bool) → not (not b) ≡ b
not-not true = refl
not-not false = refl

-- a run of a word is the longest front of its bytes
twice : (λ b. not (not (is_word_byte b))) ≡ is_word_byte
twice = λ j b. not-not (is_word_byte b) j

run-is : (bytes : List ℕ) → word_run bytes ≡ take (prefix_len is_word_byte bytes) bytes
run-is bytes = ap (λ p. take (prefix_len p bytes) bytes) twice

run-length : (bytes : List ℕ) → length (word_run bytes) ≡ prefix_len is_word_byte bytes
run-length bytes = ap length (run-is bytes) ∙ length-prefix_len is_word_byte bytes

take-run : (bytes : List ℕ) → take (length (word_run bytes)) bytes ≡ word_run bytes
take-run bytes = ap (λ n. take n bytes) (run-length bytes) ∙ sym (run-is bytes)

run-passes : (bytes : List ℕ) → list_all is_word_byte (take (length (word_run bytes)) bytes) ≡ true
run-passes bytes = ap (λ n. list_all is_word_byte (take n bytes)) (run-length bytes) ∙ front-passes is_word_byte bytes

ends-from : (what : What) (xs : List ℕ) → ((b : ℕ) → extends what b ≡ is_word_byte b) → Stops is_word_byte xs → Ends what xs
ends-from what [] f s = tt
ends-from what (x ∷ xs) f s = f x ∙ s

run-ends : (what : What) (bytes : List ℕ) → ((b : ℕ) → extends what b ≡ is_word_byte b) →
    Ends what (drop (length (word_run bytes)) bytes)
run-ends what bytes f =
    ends-from what _ f (subst (λ n. Stops is_word_byte (drop n bytes)) (sym (run-length bytes))
    (front-stops is_word_byte bytes))

begins-front : (v : Bool) (b : ℕ) (bs : List ℕ) (n : ℕ) → v ≡ true → is_word_start b ≡ true →
    BeginsWord (take (cond v (1 + n) 0) (b ∷ bs))
begins-front true b bs n e start =
    let more : suc n ≡ 1 + n = omega arith in
    subst (λ k. BeginsWord (take k (b ∷ bs))) more start
begins-front false b bs n e start = absurd (cc)

run-begins : (b : ℕ) (bs : List ℕ) → is_word_start b ≡ true → BeginsWord (take (length (word_run (b ∷ bs))) (b ∷ bs))
run-begins b bs start =
    subst (λ n. BeginsWord (take n (b ∷ bs))) (sym (run-length (b ∷ bs)))
    (begins-front (is_word_byte b) b bs (prefix_len is_word_byte bs) (or_left (is_word_start b) (is_digit b) start) start)

word-good : (v : Bool) (bytes : List ℕ) → BeginsWord (take (length (word_run bytes)) bytes) →
    Good bytes (cond v (Some (Word (word_run bytes), length (word_run bytes))) None)
word-good true bytes begins = ((take-run bytes, begins, run-passes bytes), run-ends (Word (word_run bytes)) bytes (λ b. refl))
word-good false bytes begins = tt

number-good : (v : Bool) (bytes : List ℕ) → (v ≡ true → list_all is_digit (word_run bytes) ≡ true)
    → Good bytes (option_map (λ n. (Number n, length (word_run bytes))) (cond v (Some (decimal_value (word_run bytes))) None))
number-good true bytes digits = (
  (ap decimal_value (take-run bytes), ap (list_all is_digit) (take-run bytes) ∙ digits refl),
  run-ends (Number (decimal_value (word_run bytes))) bytes (λ b. refl),
)
number-good false bytes digits = tt

lexeme-good : (bytes : List ℕ) → Good bytes (lexeme bytes)
unfolding lexeme
lexeme-good [] = tt
lexeme-good (b ∷ bs) =
    let bytes = b ∷ bs in
    let run = word_run bytes in
    if_good bytes (is_word_start b) (word_at run) (cond (is_digit b) (number_at run) (mark_at bytes))
    (λ start. word-good (nat_le (length run) 64) bytes (run-begins b bs start))
    (λ _. if_good bytes (is_digit b) (number_at run) (mark_at bytes)
    (λ _. number-good (list_all is_digit run && nat_lt (decimal_value run) (2 ^ 64)) bytes
    (λ e. (and_parts (list_all is_digit run) (nat_lt (decimal_value run) (2 ^ 64)) e).0))
    (λ _. mark_at-good bytes))

pub lexeme-spelled : (bytes : List ℕ) (what : What) (len : ℕ) → lexeme bytes ≡ Some (what, len) →
    IsSpelled what (take len bytes) × Ends what (drop len bytes)
lexeme-spelled bytes what len e = subst (Good bytes) e (lexeme-good bytes)
