-- A text has no more lines than bytes.
use Rattle.std.proofs.Common.{◌≡◌, ℕ, ◌+◌, ◌≤◌, Bool, true, false, List, [], ◌∷◌, length, Result, Ok, Err, ap, subst, cond, arith}
use Rattle.std.specs.List.{onto_first}
use Rattle.tw_base.specs.Answers.{◌>>=◌}
use Rattle.tw_lex.specs.declared.token.Line.{Line}
use Rattle.tw_lex.specs.declared.token.Lexed.{Lexed}
use Rattle.tw_lex.specs.declared.token.LexError.{LexError}
use Rattle.tw_lex.specs.Bytes.{is_line_feed}
use Rattle.tw_lex.specs.Lines.{lines_of, lines_from, lexed}

onto : (b : ℕ) (ls : List (List ℕ)) → length (onto_first b ls) ≤ length ls + 1
onto b [] = omega arith
onto b (l ∷ ls) = omega arith

one_more : (v : Bool) (b : ℕ) (ls : List (List ℕ)) → length (cond v ([] ∷ ls) (onto_first b ls)) ≤ length ls + 1
one_more true b ls = omega arith
one_more false b ls = onto b ls

few_lines : (text : List ℕ) → length (lines_of text) ≤ length text
few_lines [] = omega arith
few_lines (b ∷ bs) = omega (arith, one_more (is_line_feed b) b (lines_of bs), few_lines bs)

lexed-count : (text : List ℕ) (found : Lexed) → lexed text ≡ Ok found → found.all ≤ length text
unfolding lexed
lexed-count text found e = go (lines_from 1 0 (lines_of text)) e
  where
    go : (r : Result (List Line) LexError) → (r >>= λ ls. Ok (record { all = length (lines_of text); list = ls })) ≡ Ok found →
        found.all ≤ length text
    go (Ok ls) f =
        let same : record { all = length (lines_of text); list = ls } ≡ found = cc f in
        subst (λ n. n ≤ length text) (ap (λ x. x.all) same) (few_lines text)
    go (Err k) f = absurd (cc f)

pub lexed-fits : (text : List ℕ) (found : Lexed) → lexed text ≡ Ok found → found.all ≤ length text + 1
lexed-fits text found e = omega (arith, lexed-count text found e)
