-- A fault of a text is that of its first line with a fault.
use Rattle.std.proofs.Common.{◌≡◌, ℕ, ◌+◌, Bool, true, false, cond, List, [], ◌∷◌, length, Option, Some, None, Result, Ok, Err}
use Rattle.std.proofs.Common.{refl, sym, ap, ◌∙◌, inl, inr}
use Rattle.std.specs.Prelude.{◌⊎◌}
use Rattle.std.specs.List.{list_all}
use Rattle.tw_base.specs.Answers.{◌>>=◌}
use Rattle.tw_lex.specs.declared.token.Token.{Token}
use Rattle.tw_lex.specs.declared.token.Line.{Line}
use Rattle.tw_lex.specs.declared.token.LexError.{LexError}
use Rattle.tw_lex.specs.declared.token.LexError.TheVariants.{NotAscii, BadToken, Memory}
use Rattle.tw_lex.specs.Bytes.{is_allowed, code_of}
use Rattle.tw_lex.specs.Lines.{tokens_from, tokens_of, or_bad, line_tokens, with_line, lines_of, lines_from, lexed}
use Rattle.tw_lex.specs.Laws.{IsFaultOf, IsFirstFault, FaultsAreFirst}

-- the error, or another where there is none
abbrev error_of : {X : Type 0} → Result X LexError → LexError
error_of (Ok x) = Memory
error_of (Err e) = e

err-is : {X : Type 0} {u v : Result X LexError} → u ≡ v → error_of u ≡ error_of v
err-is e = ap error_of e

bad-is : (number : ℕ) (found : Option (List Token)) (e : LexError) → or_bad number found ≡ Err e →
    (e ≡ BadToken number) × (found ≡ None)
bad-is number None e is = (sym (err-is is), refl)
bad-is number (Some ts) e is = absurd (cc)

fault-is : (v : Bool) (number start : ℕ) (line : List ℕ) (e : LexError) → list_all is_allowed (code_of line) ≡ v
    → cond v (tokens_of number start (code_of line)) (Err (NotAscii number)) ≡ Err e → IsFaultOf number start line e
fault-is true number start line e allowed is = let p = bad-is number (tokens_from 0 start (code_of line)) e is in inr
    (p.0, allowed, p.1)
fault-is false number start line e allowed is = inl (sym (err-is is), allowed)

rest-is : (ts : List Token) (number : ℕ) (rest : Result (List Line) LexError) (e : LexError) →
    (rest >>= λ ls. Ok (with_line number ts ls)) ≡ Err e → rest ≡ Err e
rest-is ts number (Ok ls) e is = absurd (cc)
rest-is ts number (Err f) e is = ap Err (err-is is)

line-is : (number start : ℕ) (line : List ℕ) (rest : Result (List Line) LexError) (found : Result (List Token) LexError)
    (e : LexError) (P : Type 0) → line_tokens number start line ≡ found
    → (found >>= λ ts. rest >>= λ ls. Ok (with_line number ts ls)) ≡ Err e → (rest ≡ Err e → P) →
    IsFaultOf number start line e ⊎ (((ts : List Token) × (line_tokens number start line ≡ Ok ts)) × P)
line-is number start line rest (Ok ts) e P here is f = inr ((ts, here), f (rest-is ts number rest e is))
line-is number start line rest (Err f) e P here is g =
    inl (fault-is (list_all is_allowed (code_of line)) number start line e refl (here ∙ ap Err (err-is is)))

first-fault : (number start : ℕ) (lines : List (List ℕ)) (e : LexError) → lines_from number start lines ≡ Err e →
    IsFirstFault number start lines e
unfolding lines_from
first-fault number start [] e is = absurd (cc)
first-fault number start (line ∷ rest) e is =
    line-is number start line (lines_from (number + 1) (start + length line + 1) rest) (line_tokens number start line) e
    (IsFirstFault (number + 1) (start + length line + 1) rest e) refl is
    (first-fault (number + 1) (start + length line + 1) rest e)

lexed-is : {X : Type 0} (found : Result (List Line) LexError) (f : List Line → X) (e : LexError) →
    (found >>= λ ls. Ok (f ls)) ≡ Err e → found ≡ Err e
lexed-is (Ok ls) f e is = absurd (cc)
lexed-is (Err g) f e is = ap Err (err-is is)

pub faults_are_first : FaultsAreFirst
unfolding lexed
faults_are_first text e is = first-fault 1 0 (lines_of text) e (lexed-is (lines_from 1 0 (lines_of text)) _ e is)
