-- Going over the lines of a program.
use Rattle.std.proofs.Common.{◌≡◌, ℕ, ◌+◌, ◌<◌, ◌≤◌, List, [], ◌∷◌, ◌++◌, length, get_or, drop, Some, None, Result, Ok, Err}
use Rattle.std.proofs.Common.{refl, sym, ap, ◌∙◌}
use Rattle.std.proofs.lemmas.List.{drop_more, drop_all}
use Rattle.tw_base.specs.Answers.{◌>>=◌}
use Rattle.tw_lex.specs.declared.token.Line.{Line}
use Rattle.mini_asm.specs.declared.form.Form.{Form}
use Rattle.mini_asm.specs.declared.form.Written.{Written}
use Rattle.mini_asm.specs.declared.parse.ProgramError.{ProgramError}
use Rattle.mini_asm.specs.declared.parse.ProgramError.TheVariants.{BadLine}
use Rattle.mini_asm.specs.Spelling.{form_of}
use Rattle.mini_asm.specs.Assembled.{written_of}
use Rattle.mini_asm.proofs.Fronts.{with_front, regroup, with_front-end}

module _ (version : ℕ) (lines : List Line) (front : List Written) (total : Result (List Written) ProgramError) where
  pub turn : (at : ℕ) (l : Line) (form : Form) → at < length lines → l ≡ get_or lines at l → Some form ≡ form_of version l.tokens
      → with_front front (written_of version (drop at lines)) ≡ total
      → with_front (front ++ record { line = l.number; form = form } ∷ []) (written_of version (drop (at + 1) lines)) ≡ total
  unfolding written_of
  turn at l form lt is spells so_far =
      let w : Written = record { line = l.number; form = form } in
      let d : drop at lines ≡ l ∷ drop (at + 1) lines = drop_more lines at l lt ∙ ap (λ x. x ∷ drop (at + 1) lines) (sym is) in
      let one : written_of version (drop at lines) ≡ (written_of version (drop (at + 1) lines) >>= λ ws. Ok ((w ∷ []) ++ ws)) =
      rw (d, ← spells) refl in
      sym (regroup front (w ∷ []) _) ∙ ap (with_front front) (sym one) ∙ so_far

  pub fault : (at : ℕ) (l : Line) → at < length lines → l ≡ get_or lines at l → None ≡ form_of version l.tokens
      → with_front front (written_of version (drop at lines)) ≡ total → total ≡ Err (BadLine l.number)
  unfolding written_of
  fault at l lt is spells so_far =
      let d : drop at lines ≡ l ∷ drop (at + 1) lines = drop_more lines at l lt ∙ ap (λ x. x ∷ drop (at + 1) lines) (sym is) in
      let one : written_of version (drop at lines) ≡ Err (BadLine l.number) = rw (d, ← spells) refl in
      sym so_far ∙ ap (with_front front) one

  pub end : (at : ℕ) → length lines ≤ at → with_front front (written_of version (drop at lines)) ≡ total → total ≡ Ok front
  unfolding written_of
  end at le so_far =
      let none : written_of version (drop at lines) ≡ Ok [] = rw (drop_all at lines le) refl in
      sym so_far ∙ with_front-end front _ none
