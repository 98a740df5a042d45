-- A program of the first version has no fetch-and-add.
use Rattle.std.proofs.Common.{◌≡◌, ℕ, ◌<◌, Bool, true, false, cond, List, [], ◌∷◌, length, Option, Some, None, Ok, refl, sym}
use Rattle.std.proofs.Common.{ap, subst, ◌∙◌, arith}
use Rattle.std.specs.Prelude.{nat_le, ◌==◌}
use Rattle.std.specs.List.{filter}
use Rattle.std.proofs.lemmas.Bool.Decides.{nat_tests}
use Rattle.tw_base.specs.Answers.{◌>>?◌}
use Rattle.tw_base.specs.Lists.{Each}
use Rattle.tw_lex.specs.declared.token.Line.{Line}
use Rattle.tw_lex.specs.declared.token.Token.{Token}
use Rattle.mini_asm.specs.declared.form.Form.{Form}
use Rattle.mini_asm.specs.declared.form.Form.TheVariants.{Label, Code}
use Rattle.mini_asm.specs.declared.form.Written.{Written}
use Rattle.mini_asm.specs.declared.instr.Instr.{Instr}
use Rattle.mini_asm.specs.declared.instr.Instr.TheVariants as instrs
use Rattle.mini_asm.specs.declared.instr.Keyword.{Keyword}
use Rattle.mini_asm.specs.declared.instr.Keyword.TheVariants.{Li, Mov, Add, Sub, And, Or, Xor, Ld, St, Beq, Bne, Blt, Jmp}
use Rattle.mini_asm.specs.declared.instr.Keyword.TheVariants.{Print, Halt, Faa}
use Rattle.mini_asm.specs.Programs.{is_faa, has_faa}
use Rattle.mini_asm.specs.Spelling.{is_of_version, keyword_at, register_number, one_register, two_registers, three_registers}
use Rattle.mini_asm.specs.Spelling.{register_address, two_registers_label, has_one_label, instr_with, instr_of, label_of}
use Rattle.mini_asm.specs.Spelling.{label_or, target_of, form_of}
use Rattle.mini_asm.specs.Assembled.{is_code, jump_to, place_of, program_of}
use Rattle.mini_asm.specs.Laws.{Pairwise, IsRead, IsCodeOf}
use Rattle.mini_asm.proofs.Spelled.{program-spelled}

-- ---- a line

made : {X : Type 0} (o : Option X) (f : X → Instr) (i : Instr) → ((x : X) → is_faa (f x) ≡ false) →
    (o >>? λ x. Some (f x)) ≡ Some i → is_faa i ≡ false
made None f i other e = absurd (cc)
made (Some x) f i other e =
    let same : f x ≡ i = cc in
    ap is_faa (sym same) ∙ other x

made_if : (b : Bool) (j i : Instr) → is_faa j ≡ false → cond b (Some j) None ≡ Some i → is_faa i ≡ false
made_if false j i other e = absurd (cc)
made_if true j i other e =
    let same : j ≡ i = cc in
    ap is_faa (sym same) ∙ other

instr_with-other : (version : ℕ) (k : Keyword) (ts : List Token) (i : Instr) → version < 2 → is_of_version version k ≡ true →
    instr_with k ts ≡ Some i → is_faa i ≡ false
unfolding instr_with
instr_with-other version Li ts i first has e = made (register_number ts) (λ r. instrs.Li r.0 r.1) i (λ r. refl) e
instr_with-other version Mov ts i first has e = made (two_registers ts) (λ r. instrs.Mov r.0 r.1) i (λ r. refl) e
instr_with-other version Add ts i first has e = made (three_registers ts) (λ r. instrs.Add r.0 r.1 r.2) i (λ r. refl) e
instr_with-other version Sub ts i first has e = made (three_registers ts) (λ r. instrs.Sub r.0 r.1 r.2) i (λ r. refl) e
instr_with-other version And ts i first has e = made (three_registers ts) (λ r. instrs.And r.0 r.1 r.2) i (λ r. refl) e
instr_with-other version Or ts i first has e = made (three_registers ts) (λ r. instrs.Or r.0 r.1 r.2) i (λ r. refl) e
instr_with-other version Xor ts i first has e = made (three_registers ts) (λ r. instrs.Xor r.0 r.1 r.2) i (λ r. refl) e
instr_with-other version Ld ts i first has e = made (register_address ts) (λ r. instrs.Ld r.0 r.1 r.2) i (λ r. refl) e
instr_with-other version St ts i first has e = made (register_address ts) (λ r. instrs.St r.0 r.1 r.2) i (λ r. refl) e
instr_with-other version Beq ts i first has e = made (two_registers_label ts) (λ r. instrs.Beq r.0 r.1 0) i (λ r. refl) e
instr_with-other version Bne ts i first has e = made (two_registers_label ts) (λ r. instrs.Bne r.0 r.1 0) i (λ r. refl) e
instr_with-other version Blt ts i first has e = made (two_registers_label ts) (λ r. instrs.Blt r.0 r.1 0) i (λ r. refl) e
instr_with-other version Jmp ts i first has e = made_if (has_one_label ts) (instrs.Jmp 0) i refl e
instr_with-other version Print ts i first has e = made (one_register ts) (λ a. instrs.Print a) i (λ r. refl) e
instr_with-other version Halt ts i first has e = made_if (length ts == 1) instrs.Halt i refl e
instr_with-other version Faa ts i first has e = absurd (none version first has)
  where
    none : (n : ℕ) → n < 2 → nat_le 2 n ≡ true → ⊥
    none n first has = grind (arith, nat_tests)

instr_of-other : (version : ℕ) (ts : List Token) (i : Instr) → version < 2 → instr_of version ts ≡ Some i → is_faa i ≡ false
unfolding instr_of
instr_of-other version ts i first e = by_keyword (keyword_at ts 0) e
  where
    tested : (k : Keyword) (b : Bool) → is_of_version version k ≡ b → cond b (instr_with k ts) None ≡ Some i → is_faa i ≡ false
    tested k false has e = absurd (cc)
    tested k true has e = instr_with-other version k ts i first has e

    by_keyword : (o : Option Keyword) → (o >>? λ k. cond (is_of_version version k) (instr_with k ts) None) ≡ Some i →
        is_faa i ≡ false
    by_keyword None e = absurd (cc)
    by_keyword (Some k) e = tested k (is_of_version version k) refl e

-- a line that is no fetch-and-add
abbrev IsOther : Form → Type 0
IsOther (Label name) = Unit {0}
IsOther (Code i target) = is_faa i ≡ false

form_of-other : (version : ℕ) (ts : List Token) (form : Form) → version < 2 → form_of version ts ≡ Some form → IsOther form
unfolding form_of
form_of-other version ts form first e = by_label (label_of ts) e
  where
    by_instr : (o : Option Instr) → instr_of version ts ≡ o → (o >>? λ i. Some (Code i (target_of i ts))) ≡ Some form →
        IsOther form
    by_instr None is e = absurd (cc)
    by_instr (Some i) is e =
        let same : Code i (target_of i ts) ≡ form = cc in
        subst IsOther same (instr_of-other version ts i first is)

    by_label : (o : Option (List ℕ)) → label_or o (instr_of version ts >>? λ i. Some (Code i (target_of i ts))) ≡ Some form →
        IsOther form
    by_label (Some l) e =
        let same : Label l ≡ form = cc in
        subst IsOther same tt
    by_label None e = by_instr (instr_of version ts) refl e

-- ---- all lines

lines_other : (version : ℕ) (lines : List Line) (ws : List Written) → version < 2 → Pairwise (IsRead version) lines ws →
    Each (λ w. IsOther w.form) ws
lines_other version [] [] first read = tt
lines_other version [] (w ∷ ws) first read = absurd read
lines_other version (l ∷ ls) [] first read = absurd read
lines_other version (l ∷ ls) (w ∷ ws) first read = (
  form_of-other version l.tokens w.form first read.0.form,
  lines_other version ls ws first read.1,
)

codes_other : (ws : List Written) → Each (λ w. IsOther w.form) ws → Each (λ w. IsOther w.form) (filter is_code ws)
codes_other [] other = tt
codes_other (w ∷ ws) other = kept (is_code w) (codes_other ws other.1)
  where
    kept : (b : Bool) → Each (λ v. IsOther v.form) (filter is_code ws) →
        Each (λ v. IsOther v.form) (cond b (w ∷ filter is_code ws) (filter is_code ws))
    kept true rest = (other.0, rest)
    kept false rest = rest

jump_to-other : (i : Instr) (place : ℕ) → is_faa (jump_to i place) ≡ is_faa i
jump_to-other (instrs.Li d k) place = refl
jump_to-other (instrs.Mov d a) place = refl
jump_to-other (instrs.Add d a b) place = refl
jump_to-other (instrs.Sub d a b) place = refl
jump_to-other (instrs.And d a b) place = refl
jump_to-other (instrs.Or d a b) place = refl
jump_to-other (instrs.Xor d a b) place = refl
jump_to-other (instrs.Ld d a k) place = refl
jump_to-other (instrs.St s a k) place = refl
jump_to-other (instrs.Beq a b old) place = refl
jump_to-other (instrs.Bne a b old) place = refl
jump_to-other (instrs.Blt a b old) place = refl
jump_to-other (instrs.Jmp old) place = refl
jump_to-other (instrs.Print a) place = refl
jump_to-other instrs.Halt place = refl
jump_to-other (instrs.Faa d s a k) place = refl

code_other : (places : List ℕ → Option ℕ) (form : Form) (i : Instr) → IsOther form → IsCodeOf places form i → is_faa i ≡ false
code_other places (Label name) i other is = absurd is
code_other places (Code written None) i other is = ap is_faa is ∙ other
code_other places (Code written (Some target)) i other is = ap is_faa is.2 ∙ jump_to-other written is.0 ∙ other

instrs_other : (places : List ℕ → Option ℕ) (ws : List Written) (is : List Instr) → Each (λ w. IsOther w.form) ws →
    Pairwise (λ (w : Written) i. IsCodeOf places w.form i) ws is
    → has_faa is ≡ false
instrs_other places [] [] other coded = refl
instrs_other places [] (i ∷ is) other coded = absurd coded
instrs_other places (w ∷ ws) [] other coded = absurd coded
instrs_other places (w ∷ ws) (i ∷ is) other coded = rw (code_other places w.form i other.0 coded.0)
    (instrs_other places ws is other.1 coded.1)

pub program_of-other : (version : ℕ) (lines : List Line) (is : List Instr) → program_of version lines ≡ Ok is → version < 2 →
    has_faa is ≡ false
program_of-other version lines is e first =
    let spelled = program-spelled version lines is e in
    let ws : List Written = spelled.0 in
    instrs_other (place_of ws) (filter is_code ws) is (codes_other ws (lines_other version lines ws first spelled.1)) spelled.2
