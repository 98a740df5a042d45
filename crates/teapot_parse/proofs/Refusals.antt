-- What each refusal says of the lines.
use Rattle.std.proofs.Common.{◌≡◌, ℕ, List, [], ◌∷◌, map, Option, Some, None, Result, Ok, Err, IfSome, refl, ap, sym, ◌∙◌}
use Rattle.std.proofs.Common.{subst, inl, inr}
use Rattle.std.specs.Prelude.{slice_get}
use Rattle.std.specs.List.{flat_map}
use Rattle.std.specs.Option.{option_map}
use Rattle.std.proofs.lemmas.Option.{slice_get-map}
use Rattle.tw_base.specs.Lists.{Each}
use Rattle.tw_base.specs.Answers.{◌>>=◌}
use Rattle.tw_lex.specs.declared.token.Line.{Line}
use Rattle.teapot_tree.specs.declared.expr.Expr.{Expr}
use Rattle.teapot_tree.specs.declared.protocol.Handler.{Handler}
use Rattle.teapot_tree.specs.declared.protocol.Protocol.{Protocol}
use Rattle.teapot_tree.specs.declared.protocol.State.{State}
use Rattle.teapot_tree.specs.Bodies.{body_of}
use Rattle.teapot_tree.specs.Parts.{eaches, exprs_of}
use Rattle.teapot_lines.specs.declared.cut.Cut.{Cut}
use Rattle.teapot_lines.specs.declared.form.Form.{Form}
use Rattle.teapot_lines.specs.Seen.{Seen, seen}
use Rattle.teapot_lines.specs.Lines.{form_of}
use Rattle.teapot_lines.specs.Spelling.{IsForm}
use Rattle.teapot_lines.proofs.FormLaws.{form-found, form-again}
use Rattle.teapot_parse.specs.declared.count.Many.{Many}
use Rattle.teapot_parse.specs.declared.judge.Judged.{Judged}
use Rattle.teapot_parse.specs.declared.judge.Judged.TheVariants.{Nested, Bad, Missing}
use Rattle.teapot_parse.specs.declared.placed.Placed.{Placed}
use Rattle.teapot_parse.specs.declared.reading.ParseError.{ParseError}
use Rattle.teapot_parse.specs.declared.reading.ParseError.TheVariants.{BadLine, BadNest, TooMany, Memory}
use Rattle.teapot_parse.specs.Building.{built, no_parts}
use Rattle.teapot_parse.specs.Counting.{no_counts, first_over}
use Rattle.teapot_parse.specs.Given.{SpellAll}
use Rattle.teapot_parse.specs.Laws.{Judges}
use Rattle.teapot_parse.specs.Nesting.{judged, kinds}
use Rattle.teapot_parse.specs.Parsing.{profile_of, forms_read, or_bad_line, line_or, nests_if, within_if, whole, parsed}
use Rattle.teapot_parse.specs.Refusing.{HasForm, IsFirstOfNoForm, cut_line, line_at, Refuses}
use Rattle.teapot_parse.specs.Shapes.{IsNested}
use Rattle.teapot_parse.specs.Trees.{Lines, lines_of}
use Rattle.teapot_parse.proofs.Again.{each-map}
use Rattle.teapot_parse.proofs.Bounds.{all-shallow}
use Rattle.teapot_parse.proofs.Builds.{cut_lines, IsShallow, built-protocol}
use Rattle.teapot_parse.proofs.Erasing.{kind_at, kinds-at, built-erased}
use Rattle.teapot_parse.proofs.Found.{forms-found, over-back, plains}
use Rattle.teapot_parse.proofs.Founds.{IsRead, IsReadState, tree-found}
use Rattle.teapot_parse.proofs.Goods.{ExprsAt, flat-each, handlers-each, protocol-parts, exprs-good}
use Rattle.teapot_parse.proofs.Judging.{judges-is}
use Rattle.teapot_parse.proofs.Overs.{first_over-first}

err-same : {Y : Type 0} (a b : ParseError) (r : Result Y ParseError) → r ≡ Err a → r ≡ Err b → a ≡ b
err-same a b r x y = cc

-- ---- lines of no form

pub has-form : (profile : ℕ) (ts : List Seen) (g : Form Cut) → form_of profile ts ≡ Some g → HasForm profile ts
has-form profile ts g e = let x = subst (λ o. IfSome o (IsForm profile ts)) e (form-found profile ts) in (x.0, x.1, x.3)

pub no-form : (profile : ℕ) (ts : List Seen) → form_of profile ts ≡ None → HasForm profile ts → ⊥
no-form profile ts e (x, fits, is) = some_none (form_of profile ts) _ e (ap (form_of profile) is ∙ form-again profile x fits)
  where
    some_none : (o : Option (Form Cut)) (g : Form Cut) → o ≡ None → o ≡ Some g → ⊥
    some_none o g a b = cc

-- what a failed reading of the forms says
abbrev FirstBad : ℕ → List Line → ParseError → Type 0
FirstBad profile ls (BadLine n) = IsFirstOfNoForm profile ls n
FirstBad profile ls (BadNest n) = ⊥
FirstBad profile ls (TooMany what n) = ⊥
FirstBad profile ls Memory = ⊥

first-on : (profile : ℕ) (l : Line) (ls : List Line) → HasForm profile (map (seen profile) l.tokens) → (e : ParseError) →
    FirstBad profile ls e → FirstBad profile (l ∷ ls) e
first-on profile l ls has (BadLine n) h = inr (has, h)
first-on profile l ls has (BadNest n) h = h
first-on profile l ls has (TooMany what n) h = h
first-on profile l ls has Memory h = h

first-step : (profile : ℕ) (l : Line) (ls : List Line) (o : Option (Form Cut)) (r : Result (List Placed) ParseError) →
    form_of profile (map (seen profile) l.tokens) ≡ o → ((e : ParseError) → r ≡ Err e → FirstBad profile ls e) →
    (e : ParseError)
    → (or_bad_line l.number o >>= λ g. r >>= λ fs. Ok (record { line = l.number; form = g } ∷ fs)) ≡ Err e →
    FirstBad profile (l ∷ ls) e
first-step profile l ls None r is below e d =
    subst (FirstBad profile (l ∷ ls)) (err-same (BadLine l.number) e _ refl d)
    (inl (no-form profile (map (seen profile) l.tokens) is, refl))
first-step profile l ls (Some g) (Ok fs) is below e d = absurd cc
first-step profile l ls (Some g) (Err x) is below e d = first-on profile l ls
    (has-form profile (map (seen profile) l.tokens) g is) e (below e cc)

first-bad : (profile : ℕ) (ls : List Line) (e : ParseError) → forms_read profile ls ≡ Err e → FirstBad profile ls e
unfolding forms_read
first-bad profile [] e d = absurd cc
first-bad profile (l ∷ ls) e d = first-step profile l ls (form_of profile (map (seen profile) l.tokens))
    (forms_read profile ls) refl (first-bad profile ls) e d

-- ---- the other refusals

pub line-same : (qs : Lines) (at after : ℕ) → line_or after (slice_get (cut_lines qs) at) ≡ line_at after (slice_get qs at)
line-same qs at after = ap (line_or after) (slice_get-map cut_line qs at) ∙ of_option (slice_get qs at)
  where
    of_option : (o : Option (ℕ × Form Expr)) → line_or after (option_map cut_line o) ≡ line_at after o
    of_option None = refl
    of_option (Some q) = refl

pub whole-of : (qs : Lines) (after : ℕ) → IsNested (map kind_at qs) → first_over no_counts (cut_lines qs) ≡ None →
    (q : Protocol) × (whole (built (cut_lines qs)) after ≡ Ok q)
whole-of qs after nested none =
    let tree = tree-found qs nested in
    let q = tree.0 in
    let none_of : first_over no_counts (cut_lines (lines_of q)) ≡ None =
    ap (λ ls. first_over no_counts (cut_lines ls)) (sym tree.1) ∙ over-back qs no_counts none in
    let shallow = all-shallow (lines_of q) no_counts none_of in
    let reads : Each (λ (s : State). Each IsRead s.handlers) q.states =
    each-map IsReadState (λ (s : State). Each IsRead s.handlers) (λ s x. x.1) q.states tree.2 in
    let noeach = each-map IsRead (λ (h : Handler). eaches (body_of h.body) ≡ 0) (λ h x. x.1)
    (flat_map (λ (s : State). s.handlers) q.states) (flat-each IsRead (λ (s : State). s.handlers) q.states reads) in
    let exprs = handlers-each (ExprsAt IsShallow) (λ (x : Handler). Each IsShallow (exprs_of x))
    (λ (x : Handler). eaches (body_of x.body) ≡ 0) (λ x n ls. exprs-good IsShallow x n ls) q.states noeach
    (protocol-parts (ExprsAt IsShallow) q shallow).4 in (
      q,
      ap (λ s. whole s after) (sym (built-erased qs no_parts) ∙ ap (λ ls. built (cut_lines ls)) tree.1)
          ∙ built-protocol q (plains q.states tree.2 exprs) after,
    )

ok_err : (r : Result Protocol ParseError) (q : Protocol) (e : ParseError) → r ≡ Ok q → r ≡ Err e → ⊥
ok_err r q e a b = cc

few-refuses : (lines : List Line) (after : ℕ) (qs : Lines) → SpellAll (profile_of lines) lines qs → IsNested (map kind_at qs) →
    (o : Option (Many × ℕ)) → first_over no_counts (cut_lines qs) ≡ o → (e : ParseError)
    → (within_if o >>= λ v. whole (built (cut_lines qs)) after) ≡ Err e → Refuses lines after e
few-refuses lines after qs spell nested None is e d = let w =
    whole-of qs after nested is in absurd (ok_err (whole (built (cut_lines qs)) after) w.0 e w.1 d)
few-refuses lines after qs spell nested (Some over) is e d =
    subst (Refuses lines after) (err-same (TooMany over.0 over.1) e _ refl d)
    (qs, spell, nested, first_over-first qs over.0 over.1 is)

nest-refuses : (lines : List Line) (after : ℕ) (qs : Lines) → SpellAll (profile_of lines) lines qs → (j : Judged) →
    judged (kinds (cut_lines qs)) ≡ j → (e : ParseError)
    → (nests_if j (cut_lines qs) after >>= λ u. within_if (first_over no_counts (cut_lines qs)) >>= λ v. whole
    (built (cut_lines qs)) after) ≡ Err e → Refuses lines after e
nest-refuses lines after qs spell Nested is e d =
    let nested : IsNested (map kind_at qs) = subst IsNested (kinds-at qs)
    (subst (Judges (kinds (cut_lines qs))) is (judges-is (kinds (cut_lines qs)))) in
    few-refuses lines after qs spell nested (first_over no_counts (cut_lines qs)) refl e d
nest-refuses lines after qs spell (Bad at) is e d =
    let h : Judges (map kind_at qs) (Bad at) = subst (λ ks. Judges ks (Bad at)) (kinds-at qs)
    (subst (Judges (kinds (cut_lines qs))) is (judges-is (kinds (cut_lines qs)))) in
    subst (Refuses lines after) (err-same (BadNest (line_or after (slice_get (cut_lines qs) at))) e _ refl d)
    (qs, spell, inl (at, h.0, h.1, line-same qs at after))
nest-refuses lines after qs spell Missing is e d =
    let h : Judges (map kind_at qs) Missing = subst (λ ks. Judges ks Missing) (kinds-at qs)
    (subst (Judges (kinds (cut_lines qs))) is (judges-is (kinds (cut_lines qs)))) in
    subst (Refuses lines after) (err-same (BadNest after) e _ refl d) (qs, spell, inr (h.0, h.1, refl))

bad-refuses : (lines : List Line) (after : ℕ) (e : ParseError) → FirstBad (profile_of lines) lines e → Refuses lines after e
bad-refuses lines after (BadLine n) h = h
bad-refuses lines after (BadNest n) h = absurd h
bad-refuses lines after (TooMany what n) h = absurd h
bad-refuses lines after Memory h = h

forms-refuse : (lines : List Line) (after : ℕ) (r : Result (List Placed) ParseError) →
    forms_read (profile_of lines) lines ≡ r → (e : ParseError)
    → (r >>= λ fs. nests_if (judged (kinds fs)) fs after >>= λ u. within_if (first_over no_counts fs) >>= λ v. whole
    (built fs) after) ≡ Err e → Refuses lines after e
forms-refuse lines after (Err x) is e d = subst (Refuses lines after) (err-same x e _ refl d)
    (bad-refuses lines after x (first-bad (profile_of lines) lines x is))
forms-refuse lines after (Ok fs) is e d =
    let forms = forms-found (profile_of lines) lines fs is in
    nest-refuses lines after forms.0 forms.1 (judged (kinds (cut_lines forms.0))) refl e
    (subst (λ gs. (nests_if (judged (kinds gs)) gs after >>= λ u. within_if (first_over no_counts gs) >>= λ v. whole
    (built gs) after) ≡ Err e) forms.2 d)

pub parsed-refuses : (lines : List Line) (after : ℕ) (e : ParseError) → parsed lines after ≡ Err e → Refuses lines after e
unfolding parsed
parsed-refuses lines after e d = forms-refuse lines after (forms_read (profile_of lines) lines) refl e d
