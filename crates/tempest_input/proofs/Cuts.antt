-- Where a part of a layout stops: the lines up to there can go on, and with the next one they cannot.
use Rattle.std.proofs.Common.{◌≡◌, inl, inr, ℕ, zero, suc, Bool, true, false, cond, List, [], ◌∷◌, ◌++◌, Option, Some, None}
use Rattle.std.proofs.Common.{Result, Ok, Err, refl, sym, ap, ◌∙◌, append_assoc}
use Rattle.std.proofs.lemmas.List.{append-nil}
use Rattle.std.specs.Prelude.{◌==◌, codes}
use Rattle.tw_base.specs.Answers.{◌>>=◌}
use Rattle.tw_lex.specs.declared.token.Line.{Line}
use Rattle.tw_lex.specs.declared.token.Token.{Token}
use Rattle.tw_lex.specs.declared.token.What.{What}
use Rattle.tw_lex.specs.declared.token.What.TheVariants as whats
use Rattle.tempest_input.specs.declared.head.Head.{Head}
use Rattle.tempest_input.specs.declared.head.Head.TheVariants as heads
use Rattle.tempest_input.specs.declared.head.Field.{Field}
use Rattle.tempest_input.specs.declared.head.Shipped.{Shipped}
use Rattle.tempest_input.specs.declared.layout.Section.{Section}
use Rattle.tempest_input.specs.declared.layout.Choice.{Choice}
use Rattle.tempest_input.specs.declared.layout.Choice.TheVariants as choices
use Rattle.tempest_input.specs.declared.layout.Ending.{Ending}
use Rattle.tempest_input.specs.declared.layout.Ending.TheVariants as endings
use Rattle.tempest_input.specs.declared.error.InputError.{InputError}
use Rattle.tempest_input.specs.Heads.{head_of}
use Rattle.tempest_input.specs.Layout.{behind, body_as, body_in, choice_as, choice_in, ending_in, ends_so, field_as, field_in}
use Rattle.tempest_input.specs.Layout.{is_end, misfit, node_in, number_in, section_in, sections_as, sections_below, with_line}
use Rattle.tempest_input.specs.Laws.{IsBody, IsChoice, IsSections}
use Rattle.tempest_input.proofs.Parts.{EndingOf, behind_all, bind-err, end-not, err-same, node-says, section-back, starts}

-- ---- lines to go on with

abbrev pub written : What → Token
written what = record { start = 0; end = 0; what = what }

-- `end`
abbrev pub end_line : Line
end_line = record { number = 0; tokens = written (whats.Word (codes "end")) ∷ [] }

-- a word and 1
abbrev pub one_line : List ℕ → Line
one_line word = record { number = 0; tokens = written (whats.Word word) ∷ written (whats.Number 1) ∷ [] }

pub ends : head_of end_line.tokens ≡ heads.End
unfolding head_of
ends = refl

-- `report`
abbrev pub report_line : Line
report_line = record { number = 0; tokens = written (whats.Word (codes "report")) ∷ [] }

reports : head_of report_line.tokens ≡ heads.Report
unfolding head_of
reports = refl

-- ---- one field

pub field-err : (field : Field) (all : ℕ) (lines : List Line) (e : InputError) → field_in field all lines ≡ Err e →
    (e ≡ misfit all lines) × (number_in field (starts lines) ≡ None)
unfolding field_in
field-err field all [] e is = (sym (err-same (misfit all []) e is), refl)
field-err field all (l ∷ ls) e is = go (number_in field (head_of l.tokens)) refl is
  where
    go : (o : Option ℕ) → number_in field (head_of l.tokens) ≡ o → field_as o all l ls ≡ Err e →
        (e ≡ misfit all (l ∷ ls)) × (number_in field (head_of l.tokens) ≡ None)
    go (Some n) at f = absurd (cc f)
    go None at f = (sym (err-same (misfit all (l ∷ ls)) e f), at)

pub no-field : (field : Field) (all : ℕ) (lines : List Line) → number_in field (starts lines) ≡ None →
    field_in field all lines ≡ Err (misfit all lines)
unfolding field_in
no-field field all [] is = refl
no-field field all (l ∷ ls) is = ap (λ o. field_as o all l ls) is

-- ---- the lines of a section

pub body-cut : (all : ℕ) (lines : List Line) (e : InputError) → body_in all lines ≡ Err e → (e ≡ misfit all []) × IsBody lines
unfolding body_in
body-cut all [] e is = (sym (err-same (misfit all []) e is), tt)
body-cut all (l ∷ ls) e is = go (is_end (head_of l.tokens)) refl (λ k f. body-cut all ls k f) is
  where
    go : (v : Bool) → is_end (head_of l.tokens) ≡ v → ((k : InputError) → body_in all ls ≡ Err k →
        (k ≡ misfit all []) × IsBody ls) → body_as v l ls (body_in all ls) ≡ Err e → (e ≡ misfit all []) × IsBody (l ∷ ls)
    go true at later f = absurd (cc f)
    go false at later f = elim (bind-err (body_in all ls) (λ b. Ok (with_line l b)) e f)
        as (λ p. (e ≡ misfit all []) × IsBody (l ∷ ls)) [
          | inl p ↦
              let q = later e p in
              (q.0, (end-not (head_of l.tokens) at, q.1))
          | inr p ↦ absurd (cc p.2)
        ]

-- ---- sections

-- one more line, and these are sections
abbrev pub AreCut : List Line → Line → Type 0
AreCut lines last = (ss : List Section) × IsSections ss (lines ++ last ∷ [])

section-cut : (node all : ℕ) (l : Line) (ls : List Line) (e : InputError) (last : Line) →
    head_of l.tokens ≡ heads.Program node → head_of last.tokens ≡ heads.End → section_in node all (l ∷ ls) ≡ Err e
    → (e ≡ misfit all []) × AreCut (l ∷ ls) last
section-cut node all l ls e last opens closes is =
    elim (bind-err (body_in all ls) (λ b. Ok (record { line = l.number; node = node; body = b.0 }, b.1)) e is)
    as (λ p. (e ≡ misfit all []) × AreCut (l ∷ ls) last) [
      | inl p ↦
          let q = body-cut all ls e p in
          let lines : List Line = (l ∷ ls) ++ last ∷ [] in (
            q.0,
            (
              record { line = l.number; node = node; body = record { lines = ls; end = last.number } } ∷ [],
              (
                lines,
                [],
                sym (append-nil lines),
                record {
                  opening = l;
                  closing = last;
                  lines_are = refl;
                  opens = opens;
                  line = refl;
                  body = q.1;
                  closes = closes;
                  last = refl;
                },
                refl,
              ),
            ),
          )
      | inr p ↦ absurd (cc p.2)
    ]

pub sections-cut : (all most : ℕ) (lines : List Line) (e : InputError) (last : Line) → head_of last.tokens ≡ heads.End →
    sections_below most all lines ≡ Err e → (e ≡ misfit all []) × AreCut lines last
unfolding sections_below
sections-cut all zero lines e last closes is = absurd (cc is)
sections-cut all (suc k) [] e last closes is = absurd (cc is)
sections-cut all (suc k) (l ∷ ls) e last closes is = go (node_in (head_of l.tokens)) refl
    (λ rest x f. sections-cut all k rest x last closes f) is
  where
    go : (o : Option ℕ) → node_in (head_of l.tokens) ≡ o → ((rest : List Line) (x : InputError) →
        sections_below k all rest ≡ Err x → (x ≡ misfit all []) × AreCut rest last)
        → sections_as o all (l ∷ ls) (λ rest. sections_below k all rest) ≡ Err e → (e ≡ misfit all []) × AreCut (l ∷ ls) last
    go None at later f = absurd (cc f)
    go (Some node) at later f =
        let opens = node-says (head_of l.tokens) node at in
        elim (bind-err (section_in node all (l ∷ ls)) (λ s. sections_below k all s.1 >>= λ r. Ok (s.0 ∷ r.0, r.1)) e f)
        as (λ p. (e ≡ misfit all []) × AreCut (l ∷ ls) last) [
          | inl p ↦ section-cut node all l ls e last opens closes p
          | inr p ↦
              let s = section-back node all l ls p.0 opens p.1 in
              elim (bind-err (sections_below k all p.0.1) (λ r. Ok (p.0.0 ∷ r.0, r.1)) e p.2)
              as (λ q. (e ≡ misfit all []) × AreCut (l ∷ ls) last) [
                | inl q ↦
                    let t = later p.0.1 e q in (
                      t.0,
                      (
                        p.0.0 ∷ t.1.0,
                        (
                          s.0,
                          p.0.1 ++ last ∷ [],
                          ap (λ z. z ++ last ∷ []) s.1
                              ∙ append_assoc s.0 p.0.1 (last ∷ []),
                          s.2,
                          t.1.1,
                        ),
                      ),
                    )
                | inr q ↦ absurd (cc q.2)
              ]
        ]

-- ---- the protocol

-- one more line, and these choose a protocol
abbrev pub IsCut : ℕ → List Line → Line → Type 0
IsCut version lines last = (c : Choice) × IsChoice version c (lines ++ last ∷ [])

-- the lines of a protocol's section do not end
pub choice-cut : (version all : ℕ) (lines : List Line) (e : InputError) (last : Line) → head_of last.tokens ≡ heads.End →
    choice_in version all lines ≡ Err e
    → (e ≡ misfit all []) × IsCut version lines last
unfolding choice_in
choice-cut version all [] e last closes is = absurd (cc is)
choice-cut version all (l ∷ ls) e last closes is = go (head_of l.tokens) refl is
  where
    shipped : (which : Shipped) (v : Bool) → ◌≡◌ {A = Result (Choice × List Line) InputError}
        (cond v (Ok (choices.Shipped l.number which, ls)) (Ok (choices.Default, l ∷ ls))) (Err e)
        → (e ≡ misfit all []) × IsCut version (l ∷ ls) last
    shipped which true f = absurd (cc f)
    shipped which false f = absurd (cc f)

    go : (h : Head) → head_of l.tokens ≡ h → choice_as version all h l ls ≡ Err e →
        (e ≡ misfit all []) × IsCut version (l ∷ ls) last
    go heads.Protocol at f = elim (bind-err (body_in all ls) (λ b. Ok (choices.Own l.number b.0, b.1)) e f)
        as (λ p. (e ≡ misfit all []) × IsCut version (l ∷ ls) last) [
          | inl p ↦
              let q = body-cut all ls e p in (
                q.0,
                (
                  choices.Own l.number (record { lines = ls; end = last.number }),
                  record {
                    opening = l;
                    closing = last;
                    lines_are = refl;
                    opens = at;
                    line_is = refl;
                    body_is = q.1;
                    closes = closes;
                    last_is = refl;
                  },
                ),
              )
          | inr p ↦ absurd (cc p.2)
        ]
    go (heads.Shipped which) at f = shipped which (version == 2) f
    go _ at f = absurd (cc f)

-- ---- the end

abbrev pub last_lines : Ending → List Line
last_lines endings.Text = []
last_lines endings.Report = report_line ∷ []

pub last-lines-end : (ending : Ending) (all : ℕ) → EndingOf ending all (last_lines ending) (behind_all all [])
last-lines-end endings.Text all = ((refl, refl), refl)
last-lines-end endings.Report all = ((report_line, refl, reports), refl)

pub ending-cut : (ending : Ending) (all : ℕ) (lines : List Line) (e : InputError) → ending_in ending all lines ≡ Err e →
    (e ≡ misfit all lines) × (ends_so ending lines ≡ false)
unfolding ending_in
ending-cut ending all lines e is = go (ends_so ending lines) refl is
  where
    go : (v : Bool) → ends_so ending lines ≡ v → cond v (Ok (behind_all all (behind lines))) (Err (misfit all lines)) ≡ Err e →
        (e ≡ misfit all lines) × (ends_so ending lines ≡ false)
    go true at f = absurd (cc f)
    go false at f = (sym (err-same (misfit all lines) e f), at)

pub no-ending : (ending : Ending) (all : ℕ) (lines : List Line) → ends_so ending lines ≡ false →
    ending_in ending all lines ≡ Err (misfit all lines)
unfolding ending_in
no-ending ending all lines fails = ap (λ v. cond v (Ok (behind_all all (behind lines))) (Err (misfit all lines))) fails

pub ends-alike : (ending : Ending) (next : Line) (more left : List Line) →
    ends_so ending (next ∷ more) ≡ ends_so ending (next ∷ left)
ends-alike endings.Text next more left = refl
ends-alike endings.Report next more left = refl
