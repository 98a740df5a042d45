-- No line of a text that has a token is left out.
use Rattle.std.proofs.Common.{◌≡◌, ℕ, zero, suc, ◌+◌, ◌-◌, Bool, true, false, cond, List, [], ◌∷◌, length, Option, Some, None}
use Rattle.std.proofs.Common.{Result, Ok, Err, refl, sym, subst, arith}
use Rattle.std.specs.Prelude.{◌==◌, slice_get}
use Rattle.std.specs.List.{list_all}
use Rattle.std.specs.Option.{option_map}
use Rattle.std.proofs.lemmas.Bool.{and_from, or_left, or_right, eq-eqb}
use Rattle.tw_base.specs.Answers.{◌>>=◌}
use Rattle.tw_lex.specs.declared.token.Token.{Token}
use Rattle.tw_lex.specs.declared.token.What.{What}
use Rattle.tw_lex.specs.declared.token.Line.{Line}
use Rattle.tw_lex.specs.declared.token.LexError.{LexError}
use Rattle.tw_lex.specs.Bytes.{is_blank, is_allowed, code_of}
use Rattle.tw_lex.specs.Lexemes.{lexeme}
use Rattle.tw_lex.specs.Lines.{put_token, tokens_from, or_bad, line_tokens, with_line, lines_of, lines_from, lexed}
use Rattle.tw_lex.specs.Laws.{is_listed, NoLineIsLeftOut}
use Rattle.tw_lex.proofs.LinesFound.{allowed-ok, ok-is, found-is}

-- ---- code with no token is blank

some-first : (t : Token) (rest : Option (List Token)) → option_map (λ ts. t ∷ ts) rest ≡ Some [] → ⊥
some-first t None e = cc
some-first t (Some ts) e = cc

blank-more : (v : Bool) (at b : ℕ) (bs : List ℕ) (found : Option (What × ℕ)) (rest : Option (List Token))
    (more : ℕ → Option (List Token)) → is_blank b ≡ v
    → (rest ≡ Some [] → list_all is_blank bs ≡ true) → cond v rest (put_token at found more) ≡ Some [] →
    list_all is_blank (b ∷ bs) ≡ true
blank-more true at b bs found rest more v ih e = and_from (is_blank b) (list_all is_blank bs) v (ih e)
blank-more false at b bs None rest more v ih e = absurd (cc)
blank-more false at b bs (Some f) rest more v ih e =
    absurd (some-first (record { start = at; end = at + f.1; what = f.0 }) (more (f.1 - 1)) e)

blank-code : (at : ℕ) (bytes : List ℕ) → tokens_from 0 at bytes ≡ Some [] → list_all is_blank bytes ≡ true
unfolding tokens_from
blank-code at [] e = refl
blank-code at (b ∷ bs) e =
    blank-more (is_blank b) at b bs (lexeme (b ∷ bs)) (tokens_from 0 (at + 1) bs) (λ skip. tokens_from skip (at + 1) bs) refl
    (blank-code (at + 1) bs) e

ok-some : (number : ℕ) (found : Option (List Token)) (ts : List Token) → or_bad number found ≡ Ok ts → found ≡ Some ts
ok-some number None ts e = absurd (cc)
ok-some number (Some us) ts e = cc

blank-line : (number start : ℕ) (line : List ℕ) → line_tokens number start line ≡ Ok [] → list_all is_blank (code_of line) ≡ true
blank-line number start line e =
    let code = code_of line in
    blank-code start code (ok-some number (tokens_from 0 start code) []
    (allowed-ok (list_all is_allowed code) number start code [] e))

-- ---- a line that has a token is listed

listed-first : (number start : ℕ) (line : List ℕ) (ts : List Token) (ls : List Line) → line_tokens number start line ≡ Ok ts →
    list_all is_blank (code_of line) ≡ false
    → is_listed number (with_line number ts ls) ≡ true
listed-first number start line [] ls e some = let blank = blank-line number start line e in absurd (cc)
listed-first number start line (t ∷ ts) ls e some = or_left (number == number) (is_listed number ls) (eq-eqb number number refl)

listed-later : (number other : ℕ) (ts : List Token) (ls : List Line) → is_listed other ls ≡ true →
    is_listed other (with_line number ts ls) ≡ true
listed-later number other [] ls h = h
listed-later number other (t ∷ ts) ls h = or_right (number == other) (is_listed other ls) h

-- what holds of a line with what is behind it, holds of the lines
on-step : (P : List Line → Type 0) (number : ℕ) (found : Result (List Token) LexError) (rest : Result (List Line) LexError)
    (ls : List Line)
    → ((ts : List Token) (more : List Line) → found ≡ Ok ts → rest ≡ Ok more → P (with_line number ts more)) →
    (found >>= λ ts. rest >>= λ ls. Ok (with_line number ts ls)) ≡ Ok ls → P ls
on-step P number (Ok ts) (Ok more) ls f e = subst P (ok-is e) (f ts more refl refl)
on-step P number (Ok ts) (Err g) ls f e = absurd (cc)
on-step P number (Err g) rest ls f e = absurd (cc)

none-left : (number start : ℕ) (lines : List (List ℕ)) (ls : List Line) → lines_from number start lines ≡ Ok ls →
    (k : ℕ) (line : List ℕ) → slice_get lines k ≡ Some line
    → list_all is_blank (code_of line) ≡ false → is_listed (number + k) ls ≡ true
unfolding lines_from
none-left number start [] ls e k line at some = absurd (cc)
none-left number start (first ∷ rest) ls e zero line at some =
    let here : first ≡ line = cc in
    let same : number ≡ number + 0 = omega arith in
    on-step (λ ls. is_listed (number + 0) ls ≡ true) number (line_tokens number start first)
    (lines_from (number + 1) (start + length first + 1) rest) ls
    (λ ts more is _. subst (λ n. is_listed n (with_line number ts more) ≡ true) same
    (listed-first number start first ts more is (subst (λ l. list_all is_blank (code_of l) ≡ false) (sym here) some)))
    e
none-left number start (first ∷ rest) ls e (suc k) line at some =
    let same : number + 1 + k ≡ number + suc k = omega arith in
    on-step (λ ls. is_listed (number + suc k) ls ≡ true) number (line_tokens number start first)
    (lines_from (number + 1) (start + length first + 1) rest) ls
    (λ ts more _ is. subst (λ n. is_listed n (with_line number ts more) ≡ true) same
    (listed-later number (number + 1 + k) ts more (none-left (number + 1)
    (start + length first + 1) rest more is k line at some)))
    e

pub no_line_is_left_out : NoLineIsLeftOut
unfolding lexed
no_line_is_left_out text found e before line at some =
    let same : 1 + before ≡ before + 1 = omega arith in
    subst (λ n. is_listed n found.list ≡ true) same
    (none-left 1 0 (lines_of text) found.list (found-is (lines_from 1 0 (lines_of text)) (length (lines_of text)) found e)
    before line at some)
