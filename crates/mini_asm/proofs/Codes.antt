-- The instructions of a program's lines, and that they are in range.
use Rattle.std.proofs.Common.{◌≡◌, ℕ, suc, ◌+◌, ◌<◌, ◌≤◌, Bool, true, false, cond, List, [], ◌∷◌, ◌++◌, length, get_or, drop}
use Rattle.std.proofs.Common.{Option, Some, None, Result, Ok, Err, refl, sym, ap, subst, ◌∙◌, arith}
use Rattle.std.specs.Prelude.{All}
use Rattle.std.specs.List.{filter}
use Rattle.std.specs.Str.{bytes_eq}
use Rattle.std.proofs.lemmas.List.{drop_all, length-append}
use Rattle.std.proofs.lemmas.List.Elements.{All-nil, All-cons, All-head, All-tail, All-append}
use Rattle.tw_base.specs.Answers.{◌>>=◌, Fails}
use Rattle.tw_base.proofs.Answering.{Fails-along}
use Rattle.tw_lex.specs.declared.token.Line.{Line}
use Rattle.mini_asm.specs.declared.form.Form.{Form}
use Rattle.mini_asm.specs.declared.form.Form.TheVariants.{Label, Code}
use Rattle.mini_asm.specs.declared.form.Written.{Written}
use Rattle.mini_asm.specs.declared.instr.Instr.{Instr}
use Rattle.mini_asm.specs.declared.instr.Instr.TheVariants as instrs
use Rattle.mini_asm.specs.declared.parse.ProgramError.{ProgramError}
use Rattle.mini_asm.specs.declared.parse.ProgramError.TheVariants.{TooLong, LabelTwice, NoLabel}
use Rattle.mini_asm.specs.Programs.{IsInstr, IsProgram}
use Rattle.mini_asm.specs.Assembled.{IsForm, is_code_form, is_code, code_count, code_line, place_past, place_of, twice, jump_to}
use Rattle.mini_asm.specs.Assembled.{or_no_label, code_of, codes_of, refuse, assembled, written_of, program_of, is_memory}
use Rattle.mini_asm.proofs.Fronts.{with_front, regroup, with_front-end}
use Rattle.mini_asm.proofs.Places.{drop_here, code_count-few}

-- ---- the loop over the lines

module _ (places : List ℕ → Option ℕ) (ws : List Written) (front : List Instr) (total : Result (List Instr) ProgramError) where
  pub turn : (at : ℕ) (w : Written) (found : List Instr) → at < length ws → w ≡ get_or ws at w →
      code_of places w.line w.form ≡ Ok found
      → with_front front (codes_of places (drop at ws)) ≡ total →
      with_front (front ++ found) (codes_of places (drop (at + 1) ws)) ≡ total
  unfolding codes_of
  turn at w found lt is e so_far =
      let one : codes_of places (drop at ws) ≡ (codes_of places (drop (at + 1) ws) >>= λ rest. Ok (found ++ rest)) =
      rw (drop_here ws at w lt is, e) refl in
      sym (regroup front found _) ∙ ap (with_front front) (sym one) ∙ so_far

  pub fault : (at : ℕ) (w : Written) (e : ProgramError) → at < length ws → w ≡ get_or ws at w →
      Fails is_memory e (code_of places w.line w.form)
      → with_front front (codes_of places (drop at ws)) ≡ total → Fails is_memory e total
  unfolding codes_of
  fault at w e lt is due so_far = Fails-along is_memory e (code_of places w.line w.form) total (λ d.
      let one : codes_of places (drop at ws) ≡ Err e = rw (drop_here ws at w lt is, d) refl in
      sym so_far ∙ ap (with_front front) one) due

  pub end : (at : ℕ) → length ws ≤ at → with_front front (codes_of places (drop at ws)) ≡ total → total ≡ Ok front
  unfolding codes_of
  end at le so_far =
      let none : codes_of places (drop at ws) ≡ Ok [] = rw (drop_all at ws le) refl in
      sym so_far ∙ with_front-end front _ none

-- ---- the instruction of a jump

pub code_of-found : (places : List ℕ → Option ℕ) (line : ℕ) (form : Form) (i x : Instr) (o : Option (List ℕ)) (target : List ℕ)
    (found : Option ℕ) (p : ℕ)
    → form ≡ Code i o → o ≡ Some target → found ≡ places target → found ≡ Some p → x ≡ jump_to i p →
    code_of places line form ≡ Ok (x ∷ [])
code_of-found places line form i x o target found p is to same at jumps = rw (is, to, ← same, at, jumps) refl

pub code_of-none : (places : List ℕ → Option ℕ) (line : ℕ) (form : Form) (i : Instr) (o : Option (List ℕ)) (target : List ℕ)
    (found : Option ℕ)
    → form ≡ Code i o → o ≡ Some target → found ≡ places target → found ≡ None → code_of places line form ≡ Err (NoLabel line)
code_of-none places line form i o target found is to same at = rw (is, to, ← same, at) refl

-- ---- the instructions are in range

-- no label's place is past the last instruction
past_count : (form : Form) (w : Written) (ws : List Written) (name : List ℕ) (o : Option ℕ) →
    ((p : ℕ) → o ≡ Some p → p ≤ code_count ws)
    → (p : ℕ) → place_past form name o ≡ Some p → p ≤ length
    (cond (is_code_form form) (w ∷ filter is_code ws) (filter is_code ws))
past_count (Code i t) w ws name None below p e = absurd (cc)
past_count (Code i t) w ws name (Some q) below p e =
    let le : q ≤ code_count ws = below q refl in
    let same : suc q ≡ p = cc in
    omega (arith, le, same)
past_count (Label l) w ws name o below p e = label_count (bytes_eq l name) o ws below p e
  where
    label_count : (b : Bool) (o : Option ℕ) (ws : List Written) → ((p : ℕ) → o ≡ Some p → p ≤ code_count ws) → (p : ℕ) →
        cond b (Some 0) o ≡ Some p → p ≤ code_count ws
    label_count true o ws below p e = let same : 0 ≡ p = cc in omega (arith, same)
    label_count false o ws below p e = below p e

pub place_of-le : (ws : List Written) (name : List ℕ) (p : ℕ) → place_of ws name ≡ Some p → p ≤ code_count ws
unfolding place_of
place_of-le [] name p e = absurd (cc)
place_of-le (w ∷ ws) name p e = past_count w.form w ws name (place_of ws name) (place_of-le ws name) p e

-- the instructions of a part of the lines
record InRange (n count : ℕ) (is : List Instr) : Type 0 where
  pub each : All (IsInstr n) is
  pub many : length is ≡ count

open_within : (n : ℕ) (i : Instr) → IsInstr 0 i → IsInstr n i
open_within n (instrs.Li d k) h = h
open_within n (instrs.Mov d a) h = h
open_within n (instrs.Add d a b) h = h
open_within n (instrs.Sub d a b) h = h
open_within n (instrs.And d a b) h = h
open_within n (instrs.Or d a b) h = h
open_within n (instrs.Xor d a b) h = h
open_within n (instrs.Ld d a k) h = h
open_within n (instrs.St s a k) h = h
open_within n (instrs.Beq a b place) h = let le : place ≤ 0 = h.1 in (h.0, omega arith)
open_within n (instrs.Bne a b place) h = let le : place ≤ 0 = h.1 in (h.0, omega arith)
open_within n (instrs.Blt a b place) h = let le : place ≤ 0 = h.1 in (h.0, omega arith)
open_within n (instrs.Jmp place) h = let le : place ≤ 0 = h.1 in (h.0, omega arith)
open_within n (instrs.Print a) h = h
open_within n instrs.Halt h = h
open_within n (instrs.Faa d s a k) h = h

jump_within : (n : ℕ) (i : Instr) (p : ℕ) → IsInstr 0 i → p ≤ n → IsInstr n (jump_to i p)
jump_within n (instrs.Li d k) p h le = h
jump_within n (instrs.Mov d a) p h le = h
jump_within n (instrs.Add d a b) p h le = h
jump_within n (instrs.Sub d a b) p h le = h
jump_within n (instrs.And d a b) p h le = h
jump_within n (instrs.Or d a b) p h le = h
jump_within n (instrs.Xor d a b) p h le = h
jump_within n (instrs.Ld d a k) p h le = h
jump_within n (instrs.St s a k) p h le = h
jump_within n (instrs.Beq a b place) p h le = (h.0, le)
jump_within n (instrs.Bne a b place) p h le = (h.0, le)
jump_within n (instrs.Blt a b place) p h le = (h.0, le)
jump_within n (instrs.Jmp place) p h le = (h.0, le)
jump_within n (instrs.Print a) p h le = h
jump_within n instrs.Halt p h le = h
jump_within n (instrs.Faa d s a k) p h le = h

one_code : (n : ℕ) (i : Instr) → IsInstr n i → InRange n 1 (i ∷ [])
one_code n i h = record { each = All-cons (IsInstr n) i [] h (All-nil (IsInstr n)); many = refl }

code_in_range : (n line : ℕ) (places : List ℕ → Option ℕ) (form : Form) (is : List Instr) →
    ((name : List ℕ) (p : ℕ) → places name ≡ Some p → p ≤ n) → IsForm form
    → code_of places line form ≡ Ok is → InRange n (cond (is_code_form form) 1 0) is
code_in_range n line places (Label l) is below h e =
    let same : [] ≡ is = cc in
    subst (λ x. InRange n 0 x) same (record { each = All-nil (IsInstr n); many = refl })
code_in_range n line places (Code i None) is below h e =
    let same : i ∷ [] ≡ is = cc in
    subst (λ x. InRange n 1 x) same (one_code n i (open_within n i h))
code_in_range n line places (Code i (Some target)) is below h e = jump (places target) refl e
  where
    jump : (o : Option ℕ) → places target ≡ o → or_no_label line i o ≡ Ok is → InRange n 1 is
    jump None at e = absurd (cc)
    jump (Some p) at e =
        let same : jump_to i p ∷ [] ≡ is = cc in
        subst (λ x. InRange n 1 x) same (one_code n (jump_to i p) (jump_within n i p h (below target p at)))

pub bind_ok : {A B E P : Type 0} (r : Result A E) (f : A → Result B E) (y : B) → (r >>= f) ≡ Ok y →
    ((x : A) → r ≡ Ok x → f x ≡ Ok y → P) → P
bind_ok (Ok x) f y e k = k x refl e
bind_ok (Err z) f y e k = absurd (cc)

both_in_range : (n : ℕ) (form : Form) (w : Written) (ws : List Written) (front rest is : List Instr) →
    InRange n (cond (is_code_form form) 1 0) front → InRange n (code_count ws) rest → front ++ rest ≡ is
    → InRange n (length (cond (is_code_form form) (w ∷ filter is_code ws) (filter is_code ws))) is
both_in_range n form w ws front rest is a b same =
    let P : List Instr → Type 0 = All (IsInstr n) in
    record {
      each = subst P same (All-append (IsInstr n) front rest a.each b.each);
      many = sym (ap length same) ∙ length-append front rest ∙ counted form (length front) (length rest) a.many b.many;
    }
  where
    counted : (form : Form) (k m : ℕ) → k ≡ cond (is_code_form form) 1 0 → m ≡ code_count ws →
        k + m ≡ length (cond (is_code_form form) (w ∷ filter is_code ws) (filter is_code ws))
    counted (Label l) k m p q = omega arith
    counted (Code i t) k m p q = omega arith

codes_in_range : (n : ℕ) (places : List ℕ → Option ℕ) → ((name : List ℕ) (p : ℕ) → places name ≡ Some p → p ≤ n) →
    (ws : List Written) → All (λ w. IsForm w.form) ws
    → (is : List Instr) → codes_of places ws ≡ Ok is → InRange n (code_count ws) is
unfolding codes_of
codes_in_range n places below [] forms is e =
    let same : [] ≡ is = cc in
    subst (λ x. InRange n 0 x) same (record { each = All-nil (IsInstr n); many = refl })
codes_in_range n places below (w ∷ ws) forms is e =
    bind_ok (code_of places w.line w.form) _ is e (λ front at more.
    bind_ok (codes_of places ws) _ is more (λ rest later same.
    both_in_range n w.form w ws front rest is
    (code_in_range n w.line places w.form front below (All-head (λ v. IsForm v.form) w ws forms) at)
    (codes_in_range n places below ws (All-tail (λ v. IsForm v.form) w ws forms) rest later)
    (cc)))

pub codes-program : (ws : List Written) (is : List Instr) → All (λ w. IsForm w.form) ws → code_count ws ≤ 4096 →
    codes_of (place_of ws) ws ≡ Ok is → IsProgram is
codes-program ws is forms short e =
    let range = codes_in_range (code_count ws) (place_of ws) (place_of-le ws) ws forms is e in
    record {
      short = omega (arith, range.many);
      each = let P : ℕ → Type 0 = λ n. All (IsInstr n) is in subst P (sym range.many) range.each;
    }

-- ---- the whole program

module _ (version : ℕ) (lines : List Line) where
  pub unread : (e : ProgramError) → Fails is_memory e (written_of version lines) → Fails is_memory e (program_of version lines)
  unfolding program_of
  unread e due = Fails-along is_memory e (written_of version lines) _ (λ d. rw d refl) due

  module _ (ws : List Written) (read : written_of version lines ≡ Ok ws) where
    pub too_long : (line : ℕ) → code_line 4096 ws ≡ Some line → program_of version lines ≡ Err (TooLong line)
    unfolding program_of assembled
    too_long line e = rw (read, e) refl

    module _ (short : code_line 4096 ws ≡ None) where
      pub label_fault : (e : ProgramError) → Fails is_memory e (refuse LabelTwice (twice [] ws)) →
          Fails is_memory e (program_of version lines)
      unfolding program_of assembled
      label_fault e due = Fails-along is_memory e (refuse LabelTwice (twice [] ws)) _ (λ d. rw (read, short, d) refl) due

      module _ (once : twice [] ws ≡ None) (places : List ℕ → Option ℕ)
          (looked : (name : List ℕ) → places name ≡ place_of ws name) where
        same_places : places ≡ place_of ws
        same_places = λ j name. looked name j

        pub codes_are : codes_of places ws ≡ program_of version lines
        unfolding program_of assembled
        codes_are = ap (λ f. codes_of f ws) same_places ∙ rw (read, short, once) refl

        pub code_fault : (e : ProgramError) → Fails is_memory e (codes_of places ws) →
            Fails is_memory e (program_of version lines)
        code_fault e due = subst (λ (r : Result (List Instr) ProgramError). Fails is_memory e r) codes_are due

        pub program-valid : (is : List Instr) → All (λ w. IsForm w.form) ws → codes_of places ws ≡ Ok is → IsProgram is
        program-valid is forms e = codes-program ws is forms (code_count-few 4096 ws short)
            (sym (ap (λ f. codes_of f ws) same_places) ∙ e)
