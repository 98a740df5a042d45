-- What a program has to do with its lines.
use Rattle.std.specs.Prelude.{◌≡◌, ℕ, List, [], ◌∷◌, ◌++◌, Option, Some, None}
use Rattle.tw_lex.specs.declared.token.Line.{Line}
use Rattle.mini_asm.specs.declared.form.Form.{Form}
use Rattle.mini_asm.specs.declared.form.Form.TheVariants.{Label, Code}
use Rattle.mini_asm.specs.declared.form.Written.{Written}
use Rattle.mini_asm.specs.declared.instr.Instr.{Instr}
use Rattle.mini_asm.specs.Spelling.{form_of}
use Rattle.mini_asm.specs.Assembled.{code_count, jump_to}

-- the items of two lists stand in this relation, one by one
abbrev pub Pairwise : {X Y : Type 0} → (X → Y → Type 0) → List X → List Y → Type 0
Pairwise R [] [] = Unit {0}
Pairwise R [] (y ∷ ys) = ⊥
Pairwise R (x ∷ xs) [] = ⊥
Pairwise R (x ∷ xs) (y ∷ ys) = R x y × Pairwise R xs ys

-- the line, as it was read
pub record IsRead (version : ℕ) (l : Line) (w : Written) : Type 0 where
  pub line : w.line ≡ l.number
  pub form : form_of version l.tokens ≡ Some w.form

-- a jump goes to the place of its label
abbrev pub IsCodeOf : (List ℕ → Option ℕ) → Form → Instr → Type 0
IsCodeOf places (Label name) i = ⊥
IsCodeOf places (Code written None) i = i ≡ written
IsCodeOf places (Code written (Some target)) i = (place : ℕ) × (places target ≡ Some place) × (i ≡ jump_to written place)

-- a line with this label, and before it as many instructions as the place says
pub record StandsAt (ws : List Written) (name : List ℕ) (place : ℕ) : Type 0 where
  pub before : List Written
  pub line : ℕ
  pub after : List Written
  pub there : ws ≡ before ++ record { line = line; form = Label name } ∷ after
  pub counts : code_count before ≡ place
