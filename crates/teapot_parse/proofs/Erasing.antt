-- What is read does not depend on the lines of Begin, End and Else.
use Rattle.std.proofs.Common.{◌≡◌, ℕ, List, [], ◌∷◌, map, Option, Some, None, Ok, refl, ap, sym, ◌∙◌}
use Rattle.tw_lex.specs.declared.token.Line.{Line}
use Rattle.teapot_tree.specs.declared.expr.Expr.{Expr}
use Rattle.teapot_lines.specs.declared.form.Form.{Form}
use Rattle.teapot_lines.specs.declared.form.Form.TheVariants as f
use Rattle.teapot_lines.specs.Seen.{seen}
use Rattle.teapot_lines.specs.Lines.{form_of}
use Rattle.teapot_lines.specs.Spelling.{cut_form}
use Rattle.teapot_lines.proofs.FormLaws.{form-again}
use Rattle.teapot_parse.specs.declared.build.Parts.{Parts}
use Rattle.teapot_parse.specs.declared.count.Counts.{Counts}
use Rattle.teapot_parse.specs.declared.count.Many.{Many}
use Rattle.teapot_parse.specs.declared.judge.Kind.{Kind}
use Rattle.teapot_parse.specs.Building.{built_on, with_line}
use Rattle.teapot_parse.specs.Counting.{counted, over, or_over, first_over}
use Rattle.teapot_parse.specs.Given.{SpellAll, erased_at, erased}
use Rattle.teapot_parse.specs.Nesting.{kind_of, kinds}
use Rattle.teapot_parse.specs.Parsing.{forms_read}
use Rattle.teapot_parse.specs.Trees.{Lines}
use Rattle.teapot_parse.proofs.Builds.{cut_lines}

pub erased-form : (line : ℕ) (form : Form Expr) → (erased_at line form).1 ≡ form
erased-form line f.Begin = refl
erased-form line f.End = refl
erased-form line f.Else = refl
erased-form line _ = refl

-- the kind of a line
abbrev pub kind_at : ℕ × Form Expr → Kind
kind_at q = kind_of (cut_form q.1)

pub kinds-at : (qs : Lines) → kinds (cut_lines qs) ≡ map kind_at qs
kinds-at [] = refl
kinds-at (q ∷ qs) = ap (λ ks. kind_at q ∷ ks) (kinds-at qs)

pub kinds-erased : (qs : Lines) → map kind_at (map erased qs) ≡ map kind_at qs
kinds-erased [] = refl
kinds-erased (q ∷ qs) = ap (λ x. kind_of (cut_form x) ∷ map kind_at (map erased qs)) (erased-form q.0 q.1)
    ∙ ap (λ ks. kind_at q ∷ ks) (kinds-erased qs)

line-erased : (line : ℕ) (form : Form Expr) (s : Parts) → with_line (erased_at line form).0
    (cut_form (erased_at line form).1) s ≡ with_line line (cut_form form) s
line-erased line f.Begin s = refl
line-erased line f.End s = refl
line-erased line f.Else s = refl
line-erased line _ s = refl

pub built-erased : (qs : Lines) (s : Parts) → built_on s (cut_lines (map erased qs)) ≡ built_on s (cut_lines qs)
unfolding built_on
built-erased [] s = refl
built-erased (q ∷ qs) s = line-erased q.0 q.1 (built_on s (cut_lines (map erased qs)))
    ∙ ap (with_line q.0 (cut_form q.1)) (built-erased qs s)

or_none : (o : Option Many) (line line' : ℕ) (r r' : Option (Many × ℕ)) → or_over o line r ≡ None → (r ≡ None → r' ≡ None) →
    or_over o line' r' ≡ None
or_none None line line' r r' e k = k e
or_none (Some what) line line' r r' e k = absurd cc

pub over-erased : (qs : Lines) (c : Counts) → first_over c (cut_lines (map erased qs)) ≡ None → first_over c (cut_lines qs) ≡ None
unfolding first_over
over-erased [] c e = refl
over-erased (q ∷ qs) c e =
    let same = erased-form q.0 q.1 in
    let at : or_over (over (counted c (cut_form q.1)) (cut_form q.1)) (erased q).0
    (first_over (counted c (cut_form q.1)) (cut_lines (map erased qs))) ≡ None =
    ap (λ x. or_over (over (counted c (cut_form x)) (cut_form x)) (erased q).0
    (first_over (counted c (cut_form x)) (cut_lines (map erased qs)))) (sym same) ∙ e in
    or_none (over (counted c (cut_form q.1)) (cut_form q.1)) (erased q).0 q.0 _ _ at (over-erased qs (counted c (cut_form q.1)))

-- the forms that the lines spell are read
pub forms-again : (profile : ℕ) (ls : List Line) (qs : Lines) → SpellAll profile ls qs → forms_read profile ls ≡ Ok (cut_lines qs)
unfolding forms_read
forms-again profile [] [] h = refl
forms-again profile [] (q ∷ qs) h = absurd h
forms-again profile (l ∷ ls) [] h = absurd h
forms-again profile (l ∷ ls) (q ∷ qs) (number, fits, tokens, more) =
    let one : form_of profile (map (seen profile) l.tokens) ≡ Some (cut_form q.1) = ap (form_of profile) tokens
    ∙ form-again profile q.1 fits in
    rw (one, forms-again profile ls qs more, number) refl
