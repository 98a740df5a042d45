-- The numbers of a program that is read off lines of numbers of 64 bits.
use Rattle.std.proofs.Common.{◌≡◌, ◌∙◌, ℕ, zero, suc, ◌+◌, ◌≤◌, ◌==◌, cond, Bool, true, false, List, [], ◌∷◌, ◌++◌, length}
use Rattle.std.proofs.Common.{Option, Some, None, Result, Ok, refl, sym, subst, arith, length-append}
use Rattle.std.specs.Prelude.{slice_get}
use Rattle.std.specs.List.{filter}
use Rattle.tw_base.specs.Answers.{◌>>?◌}
use Rattle.tw_base.specs.Lists.{Each}
use Rattle.tw_lex.specs.declared.token.Line.{Line}
use Rattle.tw_lex.specs.declared.token.Token.{Token}
use Rattle.tw_lex.specs.declared.token.What.{What}
use Rattle.tw_lex.specs.declared.token.What.TheVariants as whats
use Rattle.mini_asm.specs.declared.form.Form.{Form}
use Rattle.mini_asm.specs.declared.form.Form.TheVariants.{Label, Code}
use Rattle.mini_asm.specs.declared.form.Written.{Written}
use Rattle.mini_asm.specs.declared.instr.Instr.{Instr}
use Rattle.mini_asm.specs.declared.instr.Instr.TheVariants as i
use Rattle.mini_asm.specs.declared.instr.Keyword.{Keyword}
use Rattle.mini_asm.specs.declared.instr.Keyword.TheVariants.{Li, Mov, Add, Sub, And, Or, Xor, Ld, St, Beq, Bne, Blt, Jmp}
use Rattle.mini_asm.specs.declared.instr.Keyword.TheVariants.{Print, Halt, Faa}
use Rattle.mini_asm.specs.declared.parse.ProgramError.{ProgramError}
use Rattle.mini_asm.specs.declared.parse.ProgramError.TheVariants.{LabelTwice, TooLong}
use Rattle.mini_asm.specs.Assembled.{assembled, code_count, code_line, code_of, codes_of, is_code, is_code_form, jump_to}
use Rattle.mini_asm.specs.Assembled.{or_no_label, place_of, program_of, refuse, twice, written_of}
use Rattle.mini_asm.specs.Laws.{IsRead, Pairwise}
use Rattle.mini_asm.specs.Programs.{GoesWithin}
use Rattle.mini_asm.specs.Spelling.{form_of, has_one_label, instr_of, instr_with, is_of_version, keyword_at, label_of, label_or}
use Rattle.mini_asm.specs.Spelling.{number_at, number_of_token, one_register, register_address, register_at, register_number}
use Rattle.mini_asm.specs.Spelling.{target_of, three_registers, two_registers, two_registers_address, two_registers_label}
use Rattle.mini_asm.proofs.Codes.{bind_ok, place_of-le}
use Rattle.mini_asm.proofs.Places.{code_count-few}
use Rattle.mini_asm.proofs.Spelled.{lines-read}
use Rattle.teapot_meaning.proofs.Found.{each_both}
use Rattle.run_reports.specs.Numbers.{HasSmallNumber}
use Rattle.printed_reports.specs.Named.{Small}
use Rattle.input_numbers.specs.Small.{ReadProgramsAreSmall, SmallLine, SmallToken, SmallWhat}

-- ---- an instruction as it is spelled

-- its number has 64 bits, and its jump, if it is one, has the place 0
abbrev Fine : Instr → Type 0
Fine x = HasSmallNumber x × GoesWithin 0 x

abbrev FineOne : Option Instr → Type 0
FineOne None = Unit {0}
FineOne (Some x) = Fine x

through : {X : Type 0} (o : Option X) (f : X → Instr) → ((x : X) → Fine (f x)) → FineOne (o >>? λ x. Some (f x))
through None f go = tt
through (Some x) f go = go x

abbrev SmallNumber : Option ℕ → Type 0
SmallNumber None = Unit {0}
SmallNumber (Some n) = Small n

what-small : (w : What) → SmallWhat w → SmallNumber (number_of_token w)
what-small (whats.Word w) h = tt
what-small (whats.Number n) h = h
what-small (whats.Mark m) h = tt

at-small : (ts : List Token) (at : ℕ) → Each SmallToken ts → SmallNumber (slice_get ts at >>? λ t. number_of_token t.what)
at-small [] at h = tt
at-small (t ∷ ts) zero (h, hs) = what-small t.what h
at-small (t ∷ ts) (suc at) (h, hs) = at-small ts at hs

-- a register and a number
abbrev SmallPair : Option (ℕ × ℕ) → Type 0
SmallPair None = Unit {0}
SmallPair (Some r) = Small r.1

pair-small : (o : Option ℕ) (d : ℕ) → SmallNumber o → SmallPair (o >>? λ n. Some (d, n))
pair-small None d h = tt
pair-small (Some n) d h = h

register-small : (o p : Option ℕ) → SmallNumber p → SmallPair (o >>? λ d. p >>? λ n. Some (d, n))
register-small None p h = tt
register-small (Some d) p h = pair-small p d h

read-small : (ts : List Token) → Each SmallToken ts → SmallPair (register_number ts)
read-small ts h = by (length ts == 3) (register-small (register_at ts 1) (number_at ts 2) (at-small ts 2 h))
  where
    by : (b : Bool) → SmallPair (register_at ts 1 >>? λ d. number_at ts 2 >>? λ n. Some (d, n))
        → SmallPair (cond b (register_at ts 1 >>? λ d. number_at ts 2 >>? λ n. Some (d, n)) None)
    by true one = one
    by false one = tt

li-fine : (o : Option (ℕ × ℕ)) → SmallPair o → FineOne (o >>? λ r. Some (i.Li r.0 r.1))
li-fine None h = tt
li-fine (Some r) h = (h, tt)

if-fine : (b : Bool) (x : Instr) → Fine x → FineOne (cond b (Some x) None)
if-fine true x h = h
if-fine false x h = tt

with-fine : (k : Keyword) (ts : List Token) → Each SmallToken ts → FineOne (instr_with k ts)
unfolding instr_with
with-fine Li ts h = li-fine (register_number ts) (read-small ts h)
with-fine Mov ts h = through (two_registers ts) (λ r. i.Mov r.0 r.1) (λ r. (tt, tt))
with-fine Add ts h = through (three_registers ts) (λ r. i.Add r.0 r.1 r.2) (λ r. (tt, tt))
with-fine Sub ts h = through (three_registers ts) (λ r. i.Sub r.0 r.1 r.2) (λ r. (tt, tt))
with-fine And ts h = through (three_registers ts) (λ r. i.And r.0 r.1 r.2) (λ r. (tt, tt))
with-fine Or ts h = through (three_registers ts) (λ r. i.Or r.0 r.1 r.2) (λ r. (tt, tt))
with-fine Xor ts h = through (three_registers ts) (λ r. i.Xor r.0 r.1 r.2) (λ r. (tt, tt))
with-fine Ld ts h = through (register_address ts) (λ r. i.Ld r.0 r.1 r.2) (λ r. (tt, tt))
with-fine St ts h = through (register_address ts) (λ r. i.St r.0 r.1 r.2) (λ r. (tt, tt))
with-fine Beq ts h = through (two_registers_label ts) (λ r. i.Beq r.0 r.1 0) (λ r. (tt, omega arith))
with-fine Bne ts h = through (two_registers_label ts) (λ r. i.Bne r.0 r.1 0) (λ r. (tt, omega arith))
with-fine Blt ts h = through (two_registers_label ts) (λ r. i.Blt r.0 r.1 0) (λ r. (tt, omega arith))
with-fine Jmp ts h = if-fine (has_one_label ts) (i.Jmp 0) (tt, omega arith)
with-fine Print ts h = through (one_register ts) (λ a. i.Print a) (λ a. (tt, tt))
with-fine Halt ts h = if-fine (length ts == 1) i.Halt (tt, tt)
with-fine Faa ts h = through (two_registers_address ts) (λ r. i.Faa r.0 r.1 r.2 r.3) (λ r. (tt, tt))

instr-fine : (version : ℕ) (ts : List Token) → Each SmallToken ts → FineOne (instr_of version ts)
unfolding instr_of
instr-fine version ts h = by (keyword_at ts 0)
  where
    versioned : (b : Bool) (k : Keyword) → FineOne (instr_with k ts) → FineOne (cond b (instr_with k ts) None)
    versioned true k one = one
    versioned false k one = tt

    by : (o : Option Keyword) → FineOne (o >>? λ k. cond (is_of_version version k) (instr_with k ts) None)
    by None = tt
    by (Some k) = versioned (is_of_version version k) k (with-fine k ts h)

-- ---- a line

abbrev FineForm : Form → Type 0
FineForm (Label l) = Unit {0}
FineForm (Code x t) = Fine x

abbrev FineSome : Option Form → Type 0
FineSome None = Unit {0}
FineSome (Some form) = FineForm form

form-fine : (version : ℕ) (ts : List Token) → Each SmallToken ts → FineSome (form_of version ts)
unfolding form_of
form-fine version ts h = by (label_of ts) (coded (instr_of version ts) (instr-fine version ts h))
  where
    coded : (o : Option Instr) → FineOne o → FineSome (o >>? λ x. Some (Code x (target_of x ts)))
    coded None k = tt
    coded (Some x) k = k

    by : (o : Option (List ℕ)) → FineSome (instr_of version ts >>? λ x. Some (Code x (target_of x ts)))
        → FineSome (label_or o (instr_of version ts >>? λ x. Some (Code x (target_of x ts))))
    by None one = one
    by (Some l) one = tt

written-fine : (version : ℕ) (lines : List Line) (ws : List Written) → Each SmallLine lines → Pairwise (IsRead version) lines ws
    → Each (λ w. FineForm w.form) ws
written-fine version [] [] h r = tt
written-fine version [] (w ∷ ws) h r = absurd r
written-fine version (l ∷ ls) [] h r = absurd r
written-fine version (l ∷ ls) (w ∷ ws) (h, hs) (r, rs) =
    (subst FineSome r.form (form-fine version l.tokens h), written-fine version ls ws hs rs)

-- ---- jumps

jump-number : (x : Instr) (place : ℕ) → HasSmallNumber x → HasSmallNumber (jump_to x place)
jump-number (i.Li d n) place h = h
jump-number (i.Mov d a) place h = tt
jump-number (i.Add d a b) place h = tt
jump-number (i.Sub d a b) place h = tt
jump-number (i.And d a b) place h = tt
jump-number (i.Or d a b) place h = tt
jump-number (i.Xor d a b) place h = tt
jump-number (i.Ld d a n) place h = tt
jump-number (i.St s a n) place h = tt
jump-number (i.Beq a b at) place h = tt
jump-number (i.Bne a b at) place h = tt
jump-number (i.Blt a b at) place h = tt
jump-number (i.Jmp at) place h = tt
jump-number (i.Print a) place h = tt
jump-number i.Halt place h = tt
jump-number (i.Faa d s a n) place h = tt

jump-within : (x : Instr) (place end : ℕ) → place ≤ end → GoesWithin end (jump_to x place)
jump-within (i.Beq a b at) place end le = le
jump-within (i.Bne a b at) place end le = le
jump-within (i.Blt a b at) place end le = le
jump-within (i.Jmp at) place end le = le
jump-within (i.Li d n) place end le = tt
jump-within (i.Mov d a) place end le = tt
jump-within (i.Add d a b) place end le = tt
jump-within (i.Sub d a b) place end le = tt
jump-within (i.And d a b) place end le = tt
jump-within (i.Or d a b) place end le = tt
jump-within (i.Xor d a b) place end le = tt
jump-within (i.Ld d a n) place end le = tt
jump-within (i.St s a n) place end le = tt
jump-within (i.Print a) place end le = tt
jump-within i.Halt place end le = tt
jump-within (i.Faa d s a n) place end le = tt

open-within : (x : Instr) (end : ℕ) → GoesWithin 0 x → GoesWithin end x
open-within (i.Beq a b at) end h = omega (arith, h)
open-within (i.Bne a b at) end h = omega (arith, h)
open-within (i.Blt a b at) end h = omega (arith, h)
open-within (i.Jmp at) end h = omega (arith, h)
open-within (i.Li d n) end h = tt
open-within (i.Mov d a) end h = tt
open-within (i.Add d a b) end h = tt
open-within (i.Sub d a b) end h = tt
open-within (i.And d a b) end h = tt
open-within (i.Or d a b) end h = tt
open-within (i.Xor d a b) end h = tt
open-within (i.Ld d a n) end h = tt
open-within (i.St s a n) end h = tt
open-within (i.Print a) end h = tt
open-within i.Halt end h = tt
open-within (i.Faa d s a n) end h = tt

-- ---- instructions

-- as many as are asked for, each with a number of 64 bits, and a place up to this end
record AreFine (end count : ℕ) (program : List Instr) : Type 0 where
  numbers : Each HasSmallNumber program
  within : Each (GoesWithin end) program
  many : length program ≡ count

ok-codes : (a b : List Instr) (r : Result (List Instr) ProgramError) → r ≡ Ok a → r ≡ Ok b → a ≡ b
ok-codes a b r p q = cc

one-code : (end line : ℕ) (places : List ℕ → Option ℕ) (form : Form) (front : List Instr)
    → ((name : List ℕ) (at : ℕ) → places name ≡ Some at → at ≤ end) → FineForm form → code_of places line form ≡ Ok front
    → AreFine end (cond (is_code_form form) 1 0) front
one-code end line places (Label l) front below h e = subst (AreFine end 0) (ok-codes [] front _ refl e)
    (record { numbers = tt; within = tt; many = refl })
one-code end line places (Code x None) front below h e =
    subst (AreFine end 1) (ok-codes (x ∷ []) front _ refl e)
    (record { numbers = (h.0, tt); within = (open-within x end h.1, tt); many = refl })
one-code end line places (Code x (Some target)) front below h e = jump (places target) refl e
  where
    jump : (o : Option ℕ) → places target ≡ o → or_no_label line x o ≡ Ok front → AreFine end 1 front
    jump None at found = absurd cc
    jump (Some place) at found =
        subst (AreFine end 1) (ok-codes (jump_to x place ∷ []) front _ refl found)
        (record {
          numbers = (jump-number x place h.0, tt);
          within =
              (jump-within x place end (below target place at), tt);
          many = refl;
        })

both-codes : (end : ℕ) (form : Form) (w : Written) (ws : List Written) (front rest : List Instr)
    → AreFine end (cond (is_code_form form) 1 0) front → AreFine end (code_count ws) rest
    → AreFine end (length (cond (is_code_form form) (w ∷ filter is_code ws) (filter is_code ws))) (front ++ rest)
both-codes end form w ws front rest a b = record {
  numbers = each_both HasSmallNumber front rest a.numbers b.numbers;
  within = each_both (GoesWithin end) front rest a.within b.within;
  many = length-append front rest ∙ counted form (length front) (length rest) a.many b.many;
}
  where
    counted : (f : Form) (k m : ℕ) → k ≡ cond (is_code_form f) 1 0 → m ≡ code_count ws → k + m ≡ length
        (cond (is_code_form f) (w ∷ filter is_code ws) (filter is_code ws))
    counted (Label l) k m p q = omega arith
    counted (Code x t) k m p q = omega arith

codes-fine : (end : ℕ) (places : List ℕ → Option ℕ) (ws : List Written) (program : List Instr)
    → ((name : List ℕ) (at : ℕ) → places name ≡ Some at → at ≤ end) → Each (λ w. FineForm w.form) ws
    → codes_of places ws ≡ Ok program → AreFine end (code_count ws) program
unfolding codes_of
codes-fine end places [] program below h e = subst (AreFine end 0) (ok-codes [] program _ refl e)
    (record { numbers = tt; within = tt; many = refl })
codes-fine end places (w ∷ ws) program below (h, hs) e =
    bind_ok (code_of places w.line w.form) _ program e (λ front at more.
    bind_ok (codes_of places ws) _ program more (λ rest later same.
    subst (AreFine end (code_count (w ∷ ws))) (ok-codes (front ++ rest) program _ refl same)
    (both-codes end w.form w ws front rest (one-code end w.line places w.form front below h at)
    (codes-fine end places ws rest below hs later))))

-- ---- the whole

not-refused : (fault : ℕ → ProgramError) (o : Option ℕ) (u : Unit {0}) → refuse fault o ≡ Ok u → o ≡ None
not-refused fault None u e = refl
not-refused fault (Some line) u e = absurd cc

pub programs-small : ReadProgramsAreSmall
unfolding program_of assembled
programs-small version lines program h e =
    bind_ok (written_of version lines) _ program e (λ ws read rest.
    bind_ok (refuse TooLong (code_line 4096 ws)) _ program rest (λ short p more.
    bind_ok (refuse LabelTwice (twice [] ws)) _ program more (λ once q codes.
    let few : code_count ws ≤ 4096 = code_count-few 4096 ws (not-refused TooLong (code_line 4096 ws) short p) in
    let fine = codes-fine (code_count ws) (place_of ws) ws program (place_of-le ws)
    (written-fine version lines ws h (lines-read version lines ws read)) codes in
    record {
      short = omega (arith, fine.many, few);
      within = subst (λ n. Each (GoesWithin n) program) (sym fine.many) fine.within;
      numbers = fine.numbers;
    })))
