-- Where what a refusal says holds, it is the answer.
use Rattle.std.proofs.Common.{◌≡◌, ℕ, ◌+◌, ◌<◌, List, [], ◌∷◌, ◌++◌, map, take, drop, Option, Some, None, Result, Ok, Err, refl}
use Rattle.std.proofs.Common.{ap, sym, ◌∙◌, subst, append_assoc, inl, inr, arith}
use Rattle.std.proofs.lemmas.Bool.{cases_order}
use Rattle.std.proofs.lemmas.List.{append-nil, take-append-drop, take-take}
use Rattle.tw_base.specs.Answers.{◌>>=◌}
use Rattle.tw_lex.specs.declared.token.Line.{Line}
use Rattle.teapot_lines.specs.declared.cut.Cut.{Cut}
use Rattle.teapot_lines.specs.declared.form.Form.{Form}
use Rattle.teapot_lines.specs.Seen.{Seen, seen}
use Rattle.teapot_lines.specs.Lines.{form_of}
use Rattle.teapot_parse.specs.declared.judge.Judged.{Judged}
use Rattle.teapot_parse.specs.declared.judge.Judged.TheVariants.{Nested, Bad, Missing}
use Rattle.teapot_parse.specs.declared.judge.Kind.{Kind}
use Rattle.teapot_parse.specs.declared.placed.Placed.{Placed}
use Rattle.teapot_parse.specs.declared.reading.ParseError.{ParseError}
use Rattle.teapot_parse.specs.declared.reading.ParseError.TheVariants.{BadLine, BadNest, TooMany, Memory}
use Rattle.teapot_parse.specs.Given.{SpellAll}
use Rattle.teapot_parse.specs.Laws.{Judges}
use Rattle.teapot_parse.specs.Nesting.{judged, kinds}
use Rattle.teapot_parse.specs.Parsing.{profile_of, forms_read, or_bad_line, nests_if, parsed}
use Rattle.teapot_parse.specs.Refusing.{HasForm, IsFirstOfNoForm, IsBadNest, kinds_of, Refuses}
use Rattle.teapot_parse.specs.Shapes.{IsNested, CanGoOn}
use Rattle.teapot_parse.specs.Trees.{Lines}
use Rattle.teapot_parse.proofs.Builds.{cut_lines}
use Rattle.teapot_parse.proofs.Erasing.{kinds-at, forms-again}
use Rattle.teapot_parse.proofs.Judging.{judges-is}
use Rattle.teapot_parse.proofs.Nests.{nested-judged}
use Rattle.teapot_parse.proofs.Overs.{first_over-back}
use Rattle.teapot_parse.proofs.Refusals.{has-form, no-form, line-same}

-- ---- lines of no form

no-form-read : (profile : ℕ) (ts : List Seen) (o : Option (Form Cut)) → form_of profile ts ≡ o → (HasForm profile ts → ⊥) →
    o ≡ None
no-form-read profile ts None e none = refl
no-form-read profile ts (Some g) e none = absurd (none (has-form profile ts g e))

first-read : (profile : ℕ) (l : Line) (n : ℕ) (o : Option (Form Cut)) (rest : Result (List Placed) ParseError) →
    rest ≡ Err (BadLine n) → HasForm profile (map (seen profile) l.tokens)
    → form_of profile (map (seen profile) l.tokens) ≡ o →
    (or_bad_line l.number o >>= λ g. rest >>= λ fs. Ok (record { line = l.number; form = g } ∷ fs)) ≡ Err (BadLine n)
first-read profile l n (Some g) rest bad has e = ap (λ r. r >>= λ fs. Ok (record { line = l.number; form = g } ∷ fs)) bad
first-read profile l n None rest bad has e = absurd (no-form profile (map (seen profile) l.tokens) e has)

bad-line-read : (profile : ℕ) (ls : List Line) (n : ℕ) → IsFirstOfNoForm profile ls n → forms_read profile ls ≡ Err (BadLine n)
unfolding forms_read
bad-line-read profile [] n h = absurd h
bad-line-read profile (l ∷ ls) n (inl (none, is)) =
    let unread = no-form-read profile (map (seen profile) l.tokens) (form_of profile (map (seen profile) l.tokens)) refl none in
    ap (λ o. or_bad_line l.number o >>= λ g. forms_read profile ls >>= λ fs. Ok (record { line = l.number; form = g } ∷ fs))
    unread ∙ ap (λ k. Err (BadLine k)) is
bad-line-read profile (l ∷ ls) n (inr (has, later)) =
    first-read profile l n (form_of profile (map (seen profile) l.tokens)) (forms_read profile ls)
    (bad-line-read profile ls n later) has refl

-- ---- lines that do not nest

front-goes : (ks : List Kind) (n : ℕ) → CanGoOn ks → CanGoOn (take n ks)
front-goes ks n (more, nested) =
    let all : take n ks ++ (drop n ks ++ more) ≡ ks ++ more = sym (append_assoc (take n ks) (drop n ks) more)
    ∙ ap (λ l. l ++ more) (take-append-drop n ks) in
    (drop n ks ++ more, subst IsNested (sym all) nested)

nested-goes : (ks : List Kind) → IsNested ks → CanGoOn ks
nested-goes ks nested = ([], subst IsNested (sym (append-nil ks)) nested)

-- a front that goes on is no longer than one that does not
no-further : (ks : List Kind) (at other : ℕ) → at < other → (CanGoOn (take (at + 1) ks) → ⊥) → CanGoOn (take other ks) → ⊥
no-further ks at other lt not goes =
    not (subst CanGoOn (take-take (at + 1) other ks (omega arith)) (front-goes (take other ks) (at + 1) goes))

bad-same : (ks : List Kind) (at other : ℕ) → CanGoOn (take at ks) → (CanGoOn (take (at + 1) ks) → ⊥) →
    CanGoOn (take other ks) → (CanGoOn (take (other + 1) ks) → ⊥) → other ≡ at
bad-same ks at other goes not goes2 not2 = elim (cases_order at other) [
  | inl same ↦ sym same
  | inr (inl lt) ↦ absurd (no-further ks at other lt not goes2)
  | inr (inr gt) ↦ absurd (no-further ks other at gt not2 goes)
]

is-bad : (ks : List Kind) (at : ℕ) → CanGoOn (take at ks) → (CanGoOn (take (at + 1) ks) → ⊥) → (j : Judged) → Judges ks j →
    j ≡ Bad at
is-bad ks at goes not Nested h = absurd (not (front-goes ks (at + 1) (nested-goes ks h)))
is-bad ks at goes not (Bad other) h = ap Bad (bad-same ks at other goes not h.0 h.1)
is-bad ks at goes not Missing h = absurd (not (front-goes ks (at + 1) h.0))

is-missing : (ks : List Kind) → CanGoOn ks → (IsNested ks → ⊥) → (j : Judged) → Judges ks j → j ≡ Missing
is-missing ks goes not Nested h = absurd (not h)
is-missing ks goes not (Bad other) h = absurd (h.1 (front-goes ks (other + 1) goes))
is-missing ks goes not Missing h = refl

-- ---- the whole

nest-parsed : (lines : List Line) (after n : ℕ) (qs : Lines) (j : Judged) → SpellAll (profile_of lines) lines qs →
    judged (kinds_of qs) ≡ j → nests_if j (cut_lines qs) after ≡ Err (BadNest n) → parsed lines after ≡ Err (BadNest n)
unfolding parsed
nest-parsed lines after n qs j spell is bad =
    let here : judged (kinds (cut_lines qs)) ≡ j = ap judged (kinds-at qs) ∙ is in
    rw (forms-again (profile_of lines) lines qs spell, here, bad) refl

bad-parsed : (lines : List Line) (after n : ℕ) (qs : Lines) → SpellAll (profile_of lines) lines qs → IsBadNest qs after n →
    parsed lines after ≡ Err (BadNest n)
bad-parsed lines after n qs spell (inl (at, goes, not, is)) =
    nest-parsed lines after n qs (Bad at) spell (is-bad (kinds_of qs) at goes not (judged (kinds_of qs))
    (judges-is (kinds_of qs)))
    (ap (λ k. Err (BadNest k)) (line-same qs at after ∙ sym is))
bad-parsed lines after n qs spell (inr (goes, not, is)) =
    nest-parsed lines after n qs Missing spell (is-missing (kinds_of qs) goes not (judged (kinds_of qs))
    (judges-is (kinds_of qs))) (ap (λ k. Err (BadNest k)) (sym is))

bad-line-parsed : (lines : List Line) (after n : ℕ) → IsFirstOfNoForm (profile_of lines) lines n →
    parsed lines after ≡ Err (BadLine n)
unfolding parsed
bad-line-parsed lines after n h = rw (bad-line-read (profile_of lines) lines n h) refl

pub refuses-parsed : (lines : List Line) (after : ℕ) (e : ParseError) → Refuses lines after e → parsed lines after ≡ Err e
unfolding parsed
refuses-parsed lines after (BadLine n) h = bad-line-parsed lines after n h
refuses-parsed lines after (BadNest n) (qs, spell, bad) = bad-parsed lines after n qs spell bad
refuses-parsed lines after (TooMany what n) (qs, spell, nested, first) =
    let here : judged (kinds (cut_lines qs)) ≡ Nested = ap judged (kinds-at qs) ∙ nested-judged (kinds_of qs) nested in
    rw (forms-again (profile_of lines) lines qs spell, here, first_over-back qs what n first) refl
refuses-parsed lines after Memory h = absurd h
