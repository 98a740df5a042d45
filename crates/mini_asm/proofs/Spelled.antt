-- The instructions of a program are those of its lines.
use Rattle.std.proofs.Common.{◌≡◌, ℕ, suc, Bool, true, false, cond, List, [], ◌∷◌, ◌++◌, length, Option, Some, None, Result, Ok}
use Rattle.std.proofs.Common.{refl, sym, ap, subst, ◌∙◌}
use Rattle.std.specs.List.{filter}
use Rattle.std.specs.Str.{bytes_eq}
use Rattle.std.proofs.lemmas.Slice.Eq.{bytes_eq-Decides}
use Rattle.tw_lex.specs.declared.token.Line.{Line}
use Rattle.mini_asm.specs.declared.form.Form.{Form}
use Rattle.mini_asm.specs.declared.form.Form.TheVariants.{Label, Code}
use Rattle.mini_asm.specs.declared.form.Written.{Written}
use Rattle.mini_asm.specs.declared.instr.Instr.{Instr}
use Rattle.mini_asm.specs.declared.parse.ProgramError.{ProgramError}
use Rattle.mini_asm.specs.declared.parse.ProgramError.TheVariants.{TooLong, LabelTwice}
use Rattle.mini_asm.specs.Spelling.{form_of}
use Rattle.mini_asm.specs.Assembled.{or_bad_line, is_code_form, is_code, code_line, place_past, place_of, twice, jump_to}
use Rattle.mini_asm.specs.Assembled.{or_no_label, code_of, codes_of, refuse, assembled, written_of, program_of}
use Rattle.mini_asm.specs.Laws.{Pairwise, IsRead, IsCodeOf, StandsAt}
use Rattle.mini_asm.proofs.Codes.{bind_ok}

ok_same : {A E : Type 0} (x y : A) → ◌≡◌ {A = Result A E} (Ok x) (Ok y) → x ≡ y
ok_same x y e = cc

-- ---- lines as they were read

read_line : (version : ℕ) (l : Line) (w : Written) (o : Option Form) → form_of version l.tokens ≡ o →
    or_bad_line l.number o ≡ Ok w → IsRead version l w
read_line version l w None at e = absurd (cc)
read_line version l w (Some form) at e =
    let same : record { line = l.number; form = form } ≡ w = ok_same {E = ProgramError} _ w e in
    record { line = ap (λ (v : Written). v.line) (sym same); form = at ∙ ap (λ (v : Written). Some v.form) same }

pub lines-read : (version : ℕ) (lines : List Line) (ws : List Written) → written_of version lines ≡ Ok ws →
    Pairwise (IsRead version) lines ws
unfolding written_of
lines-read version [] ws e = subst (λ x. Pairwise (IsRead version) [] x) (ok_same {E = ProgramError} [] ws e) tt
lines-read version (l ∷ ls) ws e =
    bind_ok (or_bad_line l.number (form_of version l.tokens)) _ ws e (λ w at more.
    bind_ok (written_of version ls) _ ws more (λ rest later same.
    subst (λ x. Pairwise (IsRead version) (l ∷ ls) x) (ok_same {E = ProgramError} (w ∷ rest) ws same)
    (read_line version l w (form_of version l.tokens) refl at, lines-read version ls rest later)))

-- ---- instructions

coded : (places : List ℕ → Option ℕ) (line : ℕ) (form : Form) (w : Written) (ws : List Written) (front rest : List Instr) →
    w.form ≡ form → code_of places line form ≡ Ok front
    → Pairwise (λ (v : Written) i. IsCodeOf places v.form i) (filter is_code ws) rest
    → Pairwise (λ (v : Written) i. IsCodeOf places v.form i)
    (cond (is_code_form form) (w ∷ filter is_code ws) (filter is_code ws)) (front ++ rest)
coded places line (Label name) w ws front rest is e later =
    subst (λ x. Pairwise (λ (v : Written) i. IsCodeOf places v.form i) (filter is_code ws) (x ++ rest))
    (ok_same {E = ProgramError} [] front e) later
coded places line (Code i None) w ws front rest is e later =
    subst (λ x. Pairwise (λ (v : Written) i. IsCodeOf places v.form i) (w ∷ filter is_code ws) (x ++ rest))
    (ok_same {E = ProgramError} (i ∷ []) front e)
    (subst (λ f. IsCodeOf places f i) (sym is) refl, later)
coded places line (Code i (Some target)) w ws front rest is e later = jump (places target) refl e
  where
    jump : (o : Option ℕ) → places target ≡ o → or_no_label line i o ≡ Ok front →
        Pairwise (λ (v : Written) i. IsCodeOf places v.form i) (w ∷ filter is_code ws) (front ++ rest)
    jump None at found = absurd (cc)
    jump (Some p) at found =
        subst (λ x. Pairwise (λ (v : Written) i. IsCodeOf places v.form i) (w ∷ filter is_code ws) (x ++ rest))
        (ok_same {E = ProgramError} (jump_to i p ∷ []) front found)
        (subst (λ f. IsCodeOf places f (jump_to i p)) (sym is) (p, at, refl), later)

codes-coded : (places : List ℕ → Option ℕ) (ws : List Written) (is : List Instr) → codes_of places ws ≡ Ok is →
    Pairwise (λ (w : Written) i. IsCodeOf places w.form i) (filter is_code ws) is
unfolding codes_of
codes-coded places [] is e = subst (λ x. Pairwise (λ (w : Written) i. IsCodeOf places w.form i) [] x)
    (ok_same {E = ProgramError} [] is e) tt
codes-coded places (w ∷ ws) is e =
    bind_ok (code_of places w.line w.form) _ is e (λ front at more.
    bind_ok (codes_of places ws) _ is more (λ rest later same.
    subst (λ x. Pairwise (λ (v : Written) i. IsCodeOf places v.form i) (filter is_code (w ∷ ws)) x)
    (ok_same {E = ProgramError} (front ++ rest) is same)
    (coded places w.line w.form w ws front rest refl at (codes-coded places ws rest later))))

pub program-spelled : (version : ℕ) (lines : List Line) (is : List Instr) → program_of version lines ≡ Ok is
    → (ws : List Written) × Pairwise (IsRead version) lines ws
    × Pairwise (λ (w : Written) i. IsCodeOf (place_of ws) w.form i) (filter is_code ws) is
unfolding program_of assembled
program-spelled version lines is e =
    bind_ok (written_of version lines) _ is e (λ ws read rest.
    bind_ok (refuse TooLong (code_line 4096 ws)) _ is rest (λ short p more.
    bind_ok (refuse LabelTwice (twice [] ws)) _ is more (λ once q codes.
    (ws, lines-read version lines ws read, codes-coded (place_of ws) ws is codes))))

-- ---- labels

one_more : (w : Written) (form : Form) (ws : List Written) (name : List ℕ) (o : Option ℕ) (p : ℕ) → w.form ≡ form →
    ((q : ℕ) → o ≡ Some q → StandsAt ws name q) → place_past form name o ≡ Some p → StandsAt (w ∷ ws) name p
one_more w (Label l) ws name o p is next e = at_label (bytes_eq l name) refl e
  where
    at_label : (b : Bool) → bytes_eq l name ≡ b → cond b (Some 0) o ≡ Some p → StandsAt (w ∷ ws) name p
    at_label true same found =
        let here : l ≡ name = (bytes_eq-Decides l name).0 same in
        let form : w.form ≡ Label name = is ∙ ap Label here in
        let zero_is : 0 ≡ p = cc in
        record {
          before = [];
          line = w.line;
          after = ws;
          there = ap (λ f. record { line = w.line; form = f } ∷ ws) form;
          counts = zero_is;
        }
    at_label false other found =
        let r : StandsAt ws name p = next p found in
        record {
          before = w ∷ r.before;
          line = r.line;
          after = r.after;
          there = ap (λ x. w ∷ x) r.there;
          counts = ap (λ f. length (cond (is_code_form f) (w ∷ filter is_code r.before) (filter is_code r.before))) is ∙ r.counts;
        }
one_more w (Code i t) ws name None p is next e = absurd (cc)
one_more w (Code i t) ws name (Some q) p is next e =
    let r : StandsAt ws name q = next q refl in
    let same : suc q ≡ p = cc in
    record {
      before = w ∷ r.before;
      line = r.line;
      after = r.after;
      there = ap (λ x. w ∷ x) r.there;
      counts = ap (λ f. length (cond (is_code_form f) (w ∷ filter is_code r.before) (filter is_code r.before))) is
          ∙ ap suc r.counts ∙ same;
    }

pub place_of-stands : (ws : List Written) (name : List ℕ) (p : ℕ) → place_of ws name ≡ Some p → StandsAt ws name p
unfolding place_of
place_of-stands [] name p e = absurd (cc)
place_of-stands (w ∷ ws) name p e = one_more w w.form ws name (place_of ws name) p refl (place_of-stands ws name) e
