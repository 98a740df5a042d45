-- The first line at which a limit is passed, as a line of the text: the lines before it pass none.
use Rattle.std.proofs.Common.{◌≡◌, ℕ, [], ◌∷◌, ◌++◌, Option, Some, None, refl, ap, ◌∙◌, subst}
use Rattle.std.specs.Prelude.{fold}
use Rattle.teapot_tree.specs.declared.expr.Expr.{Expr}
use Rattle.teapot_lines.specs.declared.form.Form.{Form}
use Rattle.teapot_lines.specs.Spelling.{cut_form}
use Rattle.teapot_parse.specs.declared.count.Counts.{Counts}
use Rattle.teapot_parse.specs.declared.count.Many.{Many}
use Rattle.teapot_parse.specs.Counting.{no_counts, over, or_over, first_over}
use Rattle.teapot_parse.specs.Refusing.{counts_with, IsFirstOver}
use Rattle.teapot_parse.specs.Trees.{Lines}
use Rattle.teapot_parse.proofs.Builds.{cut_lines}

-- the same, counted on from some counts
abbrev passed_from : Counts → Lines → ℕ × Form Expr → Option Many
passed_from c before q = over (counts_with (fold counts_with c before) q) (cut_form q.1)

record IsFirstFrom (c : Counts) (qs : Lines) (what : Many) (n : ℕ) : Type 0 where
  before : Lines
  line : ℕ × Form Expr
  behind : Lines
  whole : qs ≡ before ++ line ∷ behind
  number : line.0 ≡ n
  passes : passed_from c before line ≡ Some what
  earlier : (front : Lines) (q : ℕ × Form Expr) (more : Lines) → before ≡ front ++ q ∷ more → passed_from c front q ≡ None

-- the first of one line more, which passes none
earlier-more : (c : Counts) (q : ℕ × Form Expr) (before : Lines) → passed_from c [] q ≡ None
    → ((front : Lines) (r : ℕ × Form Expr) (more : Lines) → before ≡ front ++ r ∷ more →
    passed_from (counts_with c q) front r ≡ None)
    → (front : Lines) (r : ℕ × Form Expr) (more : Lines) → q ∷ before ≡ front ++ r ∷ more → passed_from c front r ≡ None
earlier-more c q before here later [] r more e =
    let same : q ≡ r = cc in
    subst (λ (x : ℕ × Form Expr). passed_from c [] x ≡ None) same here
earlier-more c q before here later (x ∷ front) r more e =
    let same : q ≡ x = cc in
    let rest : before ≡ front ++ r ∷ more = cc in
    subst (λ (x : ℕ × Form Expr). passed_from (counts_with c x) front r ≡ None) same (later front r more rest)

none-before : (c : Counts) (front : Lines) (r : ℕ × Form Expr) (more : Lines) → [] ≡ front ++ r ∷ more →
    passed_from c front r ≡ None
none-before c [] r more e = absurd cc
none-before c (x ∷ front) r more e = absurd cc

over-same : (a b : Many × ℕ) → Some a ≡ Some b → (a.0 ≡ b.0) × (a.1 ≡ b.1)
over-same a b e =
    let same : a ≡ b = cc in
    (ap (λ (x : Many × ℕ). x.0) same, ap (λ (x : Many × ℕ). x.1) same)

step-first : (c : Counts) (q : ℕ × Form Expr) (qs : Lines) (o : Option Many) (rest : Option (Many × ℕ)) (what : Many) (n : ℕ) →
    passed_from c [] q ≡ o
    → (rest ≡ Some (what, n) → IsFirstFrom (counts_with c q) qs what n) → or_over o q.0 rest ≡ Some (what, n) →
    IsFirstFrom c (q ∷ qs) what n
step-first c q qs (Some w) rest what n here later e =
    let same = over-same (w, q.0) (what, n) e in
    record {
      before = [];
      line = q;
      behind = qs;
      whole = refl;
      number = same.1;
      passes = here ∙ ap Some same.0;
      earlier = none-before c;
    }
step-first c q qs None rest what n here later e =
    let f = later e in
    record {
      before = q ∷ f.before;
      line = f.line;
      behind = f.behind;
      whole = ap (λ (l : Lines). q ∷ l) f.whole;
      number = f.number;
      passes = f.passes;
      earlier = earlier-more c q f.before here f.earlier;
    }

first-from : (c : Counts) (qs : Lines) (what : Many) (n : ℕ) → first_over c (cut_lines qs) ≡ Some (what, n) →
    IsFirstFrom c qs what n
unfolding first_over
first-from c [] what n e = absurd cc
first-from c (q ∷ qs) what n e = step-first c q qs (passed_from c [] q)
    (first_over (counts_with c q) (cut_lines qs)) what n refl (first-from (counts_with c q) qs what n) e

pub first_over-first : (qs : Lines) (what : Many) (n : ℕ) → first_over no_counts (cut_lines qs) ≡ Some (what, n) →
    IsFirstOver qs what n
first_over-first qs what n e =
    let f = first-from no_counts qs what n e in
    record {
      before = f.before;
      line = f.line;
      behind = f.behind;
      whole = f.whole;
      number = f.number;
      passes = f.passes;
      earlier = f.earlier;
    }

first-back : (c : Counts) (before : Lines) (line : ℕ × Form Expr) (behind : Lines) (what : Many) →
    passed_from c before line ≡ Some what
    → ((front : Lines) (q : ℕ × Form Expr) (more : Lines) → before ≡ front ++ q ∷ more → passed_from c front q ≡ None) →
    first_over c (cut_lines (before ++ line ∷ behind)) ≡ Some (what, line.0)
unfolding first_over
first-back c [] line behind what passes earlier =
    ap (λ o. or_over o line.0 (first_over (counts_with c line) (cut_lines behind))) passes
first-back c (q ∷ before) line behind what passes earlier =
    ap (λ o. or_over o q.0 (first_over (counts_with c q) (cut_lines (before ++ line ∷ behind)))) (earlier [] q before refl)
    ∙ first-back (counts_with c q) before line behind what passes
    (λ front r more e. earlier (q ∷ front) r more (ap (λ (l : Lines). q ∷ l) e))

pub first_over-back : (qs : Lines) (what : Many) (n : ℕ) → IsFirstOver qs what n →
    first_over no_counts (cut_lines qs) ≡ Some (what, n)
first_over-back qs what n f =
    ap (λ (l : Lines). first_over no_counts (cut_lines l)) f.whole
    ∙ first-back no_counts f.before f.line f.behind what f.passes f.earlier
    ∙ ap (λ (k : ℕ). Some (what, k)) f.number
