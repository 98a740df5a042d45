-- The parts of a layout: what each reads, and that it reads what is written.
use Rattle.std.proofs.Common.{◌≡◌, ◌⊎◌, inl, inr, ℕ, zero, suc, ◌+◌, ◌≤◌, Bool, true, false, List, [], ◌∷◌, ◌++◌, length}
use Rattle.std.proofs.Common.{Option, Some, None, Result, Ok, Err, refl, sym, ap, subst, cond, ◌∙◌, append_assoc, arith}
use Rattle.std.proofs.lemmas.List.{length-append}
use Rattle.std.proofs.lemmas.Bool.{eqb-true}
use Rattle.std.specs.Prelude.{◌==◌}
use Rattle.tw_base.specs.Answers.{◌>>=◌}
use Rattle.tw_lex.specs.declared.token.Line.{Line}
use Rattle.tempest_input.specs.declared.head.Head.{Head}
use Rattle.tempest_input.specs.declared.head.Head.TheVariants as heads
use Rattle.tempest_input.specs.declared.head.Field.{Field}
use Rattle.tempest_input.specs.declared.head.Field.TheVariants.{Version, Nodes, Words, Blocks, Budget}
use Rattle.tempest_input.specs.declared.head.Shipped.{Shipped}
use Rattle.tempest_input.specs.declared.layout.Numbered.{Numbered}
use Rattle.tempest_input.specs.declared.layout.Init.{Init}
use Rattle.tempest_input.specs.declared.layout.Body.{Body}
use Rattle.tempest_input.specs.declared.layout.Section.{Section}
use Rattle.tempest_input.specs.declared.layout.Choice.{Choice}
use Rattle.tempest_input.specs.declared.layout.Choice.TheVariants as choices
use Rattle.tempest_input.specs.declared.layout.Ending.{Ending}
use Rattle.tempest_input.specs.declared.layout.Ending.TheVariants as endings
use Rattle.tempest_input.specs.declared.error.InputError.{InputError}
use Rattle.tempest_input.specs.Heads.{head_of}
use Rattle.tempest_input.specs.Layout.{body_as, body_in, budget_as, budget_in, choice_as, choice_in, ending_in, field_as}
use Rattle.tempest_input.specs.Layout.{field_in, init_in, inits_in, is_end, is_field, is_report, misfit, next_node, node_in}
use Rattle.tempest_input.specs.Layout.{number_in, section_in, sections_as, sections_below, sections_in, with_init, with_line}
use Rattle.tempest_input.specs.Laws.{IsBody, IsBudget, IsChoice, IsEnding, IsField, IsInits, IsSection, IsSections}

pub bind-ok : {A B E : Type 0} (r : Result A E) (f : A → Result B E) (y : B) → (r >>= f) ≡ Ok y →
    (x : A) × (r ≡ Ok x) × (f x ≡ Ok y)
bind-ok (Ok x) f y e = (x, refl, e)
bind-ok (Err k) f y e = absurd (cc e)

pub ok-same : {A E : Type 0} (x y : A) → ◌≡◌ {A = Result A E} (Ok x) (Ok y) → x ≡ y
ok-same x y e = cc e

pub err-same : {A E : Type 0} (e f : E) → ◌≡◌ {A = Result A E} (Err e) (Err f) → e ≡ f
err-same e f h = cc h

pub bind-err : {A B E : Type 0} (r : Result A E) (f : A → Result B E) (e : E) → (r >>= f) ≡ Err e →
    (r ≡ Err e) ⊎ ((x : A) × (r ≡ Ok x) × (f x ≡ Err e))
bind-err (Ok x) f e h = inr (x, refl, h)
bind-err {B} {E} (Err k) f e h =
    let same : k ≡ e = cc h in
    inl (ap Err same)

-- ---- heads

-- what the next line says
abbrev pub starts : List Line → Head
starts [] = heads.Other
starts (l ∷ ls) = head_of l.tokens

field-same : (f g : Field) → is_field f g ≡ true → f ≡ g
field-same Version Version e = refl
field-same Nodes Nodes e = refl
field-same Words Words e = refl
field-same Blocks Blocks e = refl
field-same Budget Budget e = refl
field-same _ _ e = absurd (cc e)

number-own : (f : Field) (n : ℕ) → number_in f (heads.Number f n) ≡ Some n
number-own Version n = refl
number-own Nodes n = refl
number-own Words n = refl
number-own Blocks n = refl
number-own Budget n = refl

number-says : (f : Field) (h : Head) (n : ℕ) → number_in f h ≡ Some n → h ≡ heads.Number f n
number-says f (heads.Number g m) n e = go (is_field g f) refl e
  where
    go : (b : Bool) → is_field g f ≡ b → cond b (Some m) None ≡ Some n → heads.Number g m ≡ heads.Number f n
    go true is e =
        let same : m ≡ n = cc e in
        rw (field-same g f is, same) refl
    go false is e = absurd (cc e)
number-says f (heads.Init a v) n e = absurd (cc e)
number-says f (heads.Program k) n e = absurd (cc e)
number-says f heads.Protocol n e = absurd (cc e)
number-says f (heads.Shipped s) n e = absurd (cc e)
number-says f heads.End n e = absurd (cc e)
number-says f heads.Report n e = absurd (cc e)
number-says f heads.Other n e = absurd (cc e)

end-says : (h : Head) → is_end h ≡ true → h ≡ heads.End
end-says heads.End e = refl
end-says _ e = absurd (cc e)

not-end : (h : Head) → ¬ (h ≡ heads.End) → is_end h ≡ false
not-end heads.End n = absurd (n refl)
not-end _ n = refl

pub end-not : (h : Head) → is_end h ≡ false → ¬ (h ≡ heads.End)
end-not h is e = absurd (cc (sym is ∙ ap is_end e))

init-says : (line : ℕ) (h : Head) (i : Init) → init_in line h ≡ Some i → (h ≡ heads.Init i.address i.value) × (line ≡ i.line)
init-says line (heads.Init a v) i e =
    let same : record { line = line; address = a; value = v } ≡ i = cc e in
    (λ j. heads.Init (same j).address (same j).value, ap (λ z. z.line) same)
init-says line (heads.Number f n) i e = absurd (cc e)
init-says line (heads.Program k) i e = absurd (cc e)
init-says line heads.Protocol i e = absurd (cc e)
init-says line (heads.Shipped s) i e = absurd (cc e)
init-says line heads.End i e = absurd (cc e)
init-says line heads.Report i e = absurd (cc e)
init-says line heads.Other i e = absurd (cc e)

pub node-says : (h : Head) (n : ℕ) → node_in h ≡ Some n → h ≡ heads.Program n
node-says (heads.Program k) n e = ap heads.Program (cc e)
node-says _ n e = absurd (cc e)

-- ---- one field

pub field-back : (field : Field) (all : ℕ) (lines : List Line) (r : Numbered × List Line) → field_in field all lines ≡ Ok r →
    (l : Line) × (lines ≡ l ∷ r.1) × IsField field r.0 l
unfolding field_in
field-back field all [] r e = absurd (cc e)
field-back field all (l ∷ ls) r e = go (number_in field (head_of l.tokens)) refl e
  where
    go : (o : Option ℕ) → number_in field (head_of l.tokens) ≡ o → field_as o all l ls ≡ Ok r →
        (m : Line) × (l ∷ ls ≡ m ∷ r.1) × IsField field r.0 m
    go (Some k) is f =
        let same : ◌≡◌ {A = Numbered × List Line} (record { line = l.number; value = k }, ls) r = cc f in (
          l,
          ap (λ z. l ∷ z.1) same,
          (
            number-says field (head_of l.tokens) k is
                ∙ ap (λ z. heads.Number field z.0.value) same,
            ap (λ z. z.0.line) same,
          ),
        )
    go None is f = absurd (cc f)

pub field-on : (field : Field) (all : ℕ) (l : Line) (rest : List Line) (n : Numbered) → IsField field n l →
    field_in field all (l ∷ rest) ≡ Ok (n, rest)
unfolding field_in
field-on field all l rest n h =
    let is : number_in field (head_of l.tokens) ≡ Some n.value = ap (number_in field) h.0 ∙ number-own field n.value in
    ap (λ o. field_as o all l rest) is ∙ ap Ok (λ j. (record { line = h.1 j; value = n.value }, rest))

-- ---- the budget

-- where no budget is found, the next line is none
abbrev pub NoBudget : Option Numbered → List Line → Type 0
NoBudget None rest = number_in Budget (starts rest) ≡ None
NoBudget (Some n) rest = Unit {0}

pub budget-back : (lines : List Line) → (part : List Line) × (lines ≡ part ++ (budget_in lines).1)
    × IsBudget (budget_in lines).0 part × NoBudget (budget_in lines).0 (budget_in lines).1
unfolding budget_in
budget-back [] = ([], refl, refl, refl)
budget-back (l ∷ ls) = go (number_in Budget (head_of l.tokens)) refl
  where
    go : (o : Option ℕ) → number_in Budget (head_of l.tokens) ≡ o →
        (part : List Line) × (l ∷ ls ≡ part ++ (budget_as o l ls).1) × IsBudget (budget_as o l ls).0 part
        × NoBudget (budget_as o l ls).0 (budget_as o l ls).1
    go (Some k) is = (l ∷ [], refl, (l, refl, (number-says Budget (head_of l.tokens) k is, refl)), tt)
    go None is = ([], refl, refl, is)

pub budget-on : (b : Option Numbered) (part rest : List Line) → IsBudget b part → NoBudget b rest →
    ◌≡◌ {A = Option Numbered × List Line} (budget_in (part ++ rest)) (b, rest)
unfolding budget_in
budget-on None part [] h n = rw h refl
budget-on None part (l ∷ ls) h n = rw (h, n) refl
budget-on (Some k) part rest h n =
    let is : number_in Budget (head_of h.0.tokens) ≡ Some k.value = ap (number_in Budget) h.2.0 in
    rw h.1 (ap (λ o. budget_as o h.0 rest) is ∙ (λ j. (Some (record { line = h.2.1 j; value = k.value }), rest)))

-- ---- words at the start

abbrev pub NoInit : List Line → Type 0
NoInit rest = (line : ℕ) → init_in line (starts rest) ≡ None

init-none : (line : ℕ) (h : Head) → init_in line h ≡ None → (other : ℕ) → init_in other h ≡ None
init-none line (heads.Init a v) e other = absurd (cc e)
init-none line _ e other = refl

abbrev InitsOf : List Line → List Init × List Line → Type 0
InitsOf lines r = (part : List Line) × (lines ≡ part ++ r.1) × IsInits r.0 part × NoInit r.1

pub inits-back : (lines : List Line) → InitsOf lines (inits_in lines)
unfolding inits_in
inits-back [] = ([], refl, tt, λ line. refl)
inits-back (l ∷ ls) = go (init_in l.number (head_of l.tokens)) refl (inits-back ls)
  where
    go : (o : Option Init) → init_in l.number (head_of l.tokens) ≡ o → InitsOf ls (inits_in ls) →
        InitsOf (l ∷ ls) (with_init o l ls (inits_in ls))
    go (Some i) is b =
        let p = init-says l.number (head_of l.tokens) i is in
        (l ∷ b.0, ap (λ z. l ∷ z) b.1, (p.0, p.1, b.2), b.3)
    go None is b = ([], refl, tt, init-none l.number (head_of l.tokens) is)

pub inits-on : (given : List Init) (part rest : List Line) → IsInits given part → NoInit rest →
    ◌≡◌ {A = List Init × List Line} (inits_in (part ++ rest)) (given, rest)
unfolding inits_in
inits-on [] [] [] h n = refl
inits-on [] [] (l ∷ ls) h n = rw (n l.number) refl
inits-on [] (l ∷ ls) rest h n = absurd h
inits-on (i ∷ given) [] rest h n = absurd h
inits-on (i ∷ given) (l ∷ ls) rest h n =
    let one : init_in l.number (head_of l.tokens) ≡ Some i = ap (init_in l.number) h.0
    ∙ (λ j. Some (record { line = h.1 j; address = i.address; value = i.value })) in
    ap (λ o. with_init o l (ls ++ rest) (inits_in (ls ++ rest))) one
    ∙ ap (λ (r : List Init × List Line). (i ∷ r.0, r.1)) (inits-on given ls rest h.2 n)

-- ---- the lines of a section

abbrev BodyOf : List Line → Body × List Line → Type 0
BodyOf lines b = (last : Line) × (lines ≡ b.0.lines ++ last ∷ b.1) × IsBody b.0.lines × (head_of last.tokens ≡ heads.End)
    × (last.number ≡ b.0.end)

pub body-back : (all : ℕ) (lines : List Line) (b : Body × List Line) → body_in all lines ≡ Ok b → BodyOf lines b
unfolding body_in
body-back all [] b e = absurd (cc e)
body-back all (l ∷ ls) b e = go (is_end (head_of l.tokens)) refl (λ x f. body-back all ls x f) e
  where
    go : (v : Bool) → is_end (head_of l.tokens) ≡ v → ((x : Body × List Line) → body_in all ls ≡ Ok x → BodyOf ls x) →
        body_as v l ls (body_in all ls) ≡ Ok b → BodyOf (l ∷ ls) b
    go true is later f =
        let same : ◌≡◌ {A = Body × List Line} (record { lines = []; end = l.number }, ls) b = cc f in
        subst (BodyOf (l ∷ ls)) same (l, refl, tt, end-says (head_of l.tokens) is, refl)
    go false is later f =
        let p = bind-ok (body_in all ls) (λ b. Ok (with_line l b)) b f in
        let same : with_line l p.0 ≡ b = ok-same (with_line l p.0) b p.2 in
        let r = later p.0 p.1 in
        subst (BodyOf (l ∷ ls)) same (r.0, ap (λ z. l ∷ z) r.1, (end-not (head_of l.tokens) is, r.2), r.3, r.4)

pub body-on : (all : ℕ) (body rest : List Line) (last : Line) → IsBody body → head_of last.tokens ≡ heads.End →
    body_in all (body ++ last ∷ rest) ≡ Ok (record { lines = body; end = last.number }, rest)
unfolding body_in
body-on all [] rest last h e = ap (λ x. body_as (is_end x) last rest (body_in all rest)) e
body-on all (l ∷ body) rest last h e =
    ap (λ v. body_as v l (body ++ last ∷ rest) (body_in all (body ++ last ∷ rest))) (not-end (head_of l.tokens) h.0)
    ∙ ap (λ r. r >>= λ b. Ok (with_line l b)) (body-on all body rest last h.1 e)

-- ---- sections

abbrev SectionOf : List Line → Section × List Line → Type 0
SectionOf lines s = (front : List Line) × (lines ≡ front ++ s.1) × IsSection s.0 front

pub section-back : (node all : ℕ) (l : Line) (ls : List Line) (s : Section × List Line) →
    head_of l.tokens ≡ heads.Program node → section_in node all (l ∷ ls) ≡ Ok s → SectionOf (l ∷ ls) s
section-back node all l ls s h e =
    let p = bind-ok (body_in all ls) (λ b. Ok (record { line = l.number; node = node; body = b.0 }, b.1)) s e in
    let same : ◌≡◌ {A = Section × List Line} (record { line = l.number; node = node; body = p.0.0 }, p.0.1) s = cc p.2 in
    let b = body-back all ls p.0 p.1 in
    subst (SectionOf (l ∷ ls)) same (
      l ∷ (p.0.0.lines ++ b.0 ∷ []),
      ap (λ z. l ∷ z) (b.1 ∙ sym (append_assoc p.0.0.lines (b.0 ∷ []) p.0.1)),
      record { opening = l; closing = b.0; lines_are = refl; opens = h; line = refl; body = b.2; closes = b.3; last = b.4 },
    )

section-some : (s : Section) (front : List Line) → IsSection s front → 1 ≤ length front
section-some s front h = rw h.lines_are (omega arith)

section-on : (all : ℕ) (s : Section) (front rest : List Line) → IsSection s front →
    (next_node (front ++ rest) ≡ Some s.node) × (section_in s.node all (front ++ rest) ≡ Ok (s, rest))
section-on all s front rest h =
    let at : front ++ rest ≡ h.opening ∷ (s.body.lines ++ h.closing ∷ rest) = ap (λ z. z ++ rest) h.lines_are
    ∙ ap (λ z. h.opening ∷ z) (append_assoc s.body.lines (h.closing ∷ []) rest) in (
      ap next_node at ∙ ap node_in h.opens,
      ap (section_in s.node all) at
          ∙ ap (λ r. r >>= λ b. Ok (record { line = h.opening.number; node = s.node; body = b.0 }, b.1))
          (body-on all s.body.lines rest h.closing h.body h.closes)
          ∙ ap Ok (λ j. (
            record { line = h.line j; node = s.node; body = record { lines = s.body.lines; end = h.last j } },
            rest,
          )),
    )

abbrev SectionsOf : List Line → List Section × List Line → Type 0
SectionsOf lines r = (part : List Line) × (lines ≡ part ++ r.1) × IsSections r.0 part × (next_node r.1 ≡ None)

more-sections : (l : Line) (ls : List Line) (s : Section × List Line) (t r : List Section × List Line) → SectionOf (l ∷ ls) s →
    SectionsOf s.1 t → ◌≡◌ {A = List Section × List Line} (s.0 ∷ t.0, t.1) r → SectionsOf (l ∷ ls) r
more-sections l ls s t r h k same = subst (SectionsOf (l ∷ ls)) same
    (h.0 ++ k.0, h.1 ∙ ap (λ z. h.0 ++ z) k.1 ∙ sym (append_assoc h.0 k.0 t.1), (h.0, k.0, refl, h.2, k.2), k.3)

shorter : (l : Line) (ls front back : List Line) (k : ℕ) → length (l ∷ ls) ≤ suc k → l ∷ ls ≡ front ++ back →
    1 ≤ length front → length back ≤ k
shorter l ls front back k le e some =
    let n : length (l ∷ ls) ≡ length front + length back = ap length e ∙ length-append front back in
    omega (arith, le, n, some)

pub sections-back : (all most : ℕ) (lines : List Line) (r : List Section × List Line) → length lines ≤ most →
    sections_below most all lines ≡ Ok r → SectionsOf lines r
unfolding sections_below
sections-back all zero [] r le e =
    let same : ◌≡◌ {A = List Section × List Line} ([], []) r = cc e in
    subst (SectionsOf []) same ([], refl, refl, refl)
sections-back all zero (l ∷ ls) r le e = absurd (omega (arith, le))
sections-back all (suc k) [] r le e =
    let same : ◌≡◌ {A = List Section × List Line} ([], []) r = cc e in
    subst (SectionsOf []) same ([], refl, refl, refl)
sections-back all (suc k) (l ∷ ls) r le e = go (node_in (head_of l.tokens)) refl
    (λ rest x fits f. sections-back all k rest x fits f) e
  where
    go : (o : Option ℕ) → node_in (head_of l.tokens) ≡ o → ((rest : List Line) (x : List Section × List Line) →
        length rest ≤ k → sections_below k all rest ≡ Ok x → SectionsOf rest x)
        → sections_as o all (l ∷ ls) (λ rest. sections_below k all rest) ≡ Ok r → SectionsOf (l ∷ ls) r
    go None is later f =
        let same : ◌≡◌ {A = List Section × List Line} ([], l ∷ ls) r = cc f in
        subst (SectionsOf (l ∷ ls)) same ([], refl, refl, is)
    go (Some node) is later f =
        let p = bind-ok (section_in node all (l ∷ ls)) (λ s. sections_below k all s.1 >>= λ r. Ok (s.0 ∷ r.0, r.1)) r f in
        let s = section-back node all l ls p.0 (node-says (head_of l.tokens) node is) p.1 in
        let q = bind-ok (sections_below k all p.0.1) (λ r. Ok (p.0.0 ∷ r.0, r.1)) r p.2 in
        let t = later p.0.1 q.0 (shorter l ls s.0 p.0.1 k le s.1 (section-some p.0.0 s.0 s.2)) q.1 in
        more-sections l ls p.0 q.0 r s t (cc q.2)

pub sections-on : (all most : ℕ) (ss : List Section) (part rest : List Line) → length ss ≤ most → IsSections ss part →
    next_node rest ≡ None → sections_below most all (part ++ rest) ≡ Ok (ss, rest)
unfolding sections_below
sections-on all zero [] part rest le h n = rw h refl
sections-on all zero (s ∷ ss) part rest le h n = absurd (omega (arith, le))
sections-on all (suc k) [] part rest le h n = rw (h, n) refl
sections-on all (suc k) (s ∷ ss) part rest le h n =
    let at : part ++ rest ≡ h.0 ++ (h.1 ++ rest) = ap (λ z. z ++ rest) h.2 ∙ append_assoc h.0 h.1 rest in
    let one = section-on all s h.0 (h.1 ++ rest) h.3 in
    let more : sections_below k all (h.1 ++ rest) ≡ Ok (ss, rest) = sections-on all k ss h.1 rest (omega (arith, le)) h.4 n in
    rw (at, one.0, one.1, more) refl

sections-few : (ss : List Section) (part : List Line) → IsSections ss part → length ss ≤ length part
sections-few [] part h = omega arith
sections-few (s ∷ ss) part h =
    let n : length part ≡ length h.0 + length h.1 = ap length h.2 ∙ length-append h.0 h.1 in
    omega (arith, n, section-some s h.0 h.3, sections-few ss h.1 h.4)

pub all-sections-on : (all : ℕ) (ss : List Section) (part rest : List Line) → IsSections ss part → next_node rest ≡ None →
    sections_in all (part ++ rest) ≡ Ok (ss, rest)
all-sections-on all ss part rest h n = sections-on all (length (part ++ rest)) ss part rest
    (omega (arith, length-append part rest, sections-few ss part h)) h n

-- ---- the protocol

-- where no protocol is chosen, the next line does not begin a choice
abbrev pub chooses : ℕ → Head → Bool
chooses version heads.Protocol = true
chooses version (heads.Shipped which) = version == 2
chooses version _ = false

abbrev pub NoChoice : ℕ → Choice → List Line → Type 0
NoChoice version choices.Default rest = chooses version (starts rest) ≡ false
NoChoice version (choices.Own line body) rest = Unit {0}
NoChoice version (choices.Shipped line which) rest = Unit {0}

abbrev pub ChoiceOf : ℕ → List Line → Choice × List Line → Type 0
ChoiceOf version lines c = (part : List Line) × (lines ≡ part ++ c.1) × IsChoice version c.0 part × NoChoice version c.0 c.1

pub choice-back : (version all : ℕ) (lines : List Line) (c : Choice × List Line) → choice_in version all lines ≡ Ok c →
    ChoiceOf version lines c
unfolding choice_in
choice-back version all [] c e =
    let same : ◌≡◌ {A = Choice × List Line} (choices.Default, []) c = cc e in
    subst (ChoiceOf version []) same ([], refl, refl, refl)
choice-back version all (l ∷ ls) c e = go (head_of l.tokens) refl e
  where
    none : chooses version (head_of l.tokens) ≡ false → ◌≡◌ {A = Result (Choice × List Line) InputError}
        (Ok (choices.Default, l ∷ ls)) (Ok c) → ChoiceOf version (l ∷ ls) c
    none fails f = subst (ChoiceOf version (l ∷ ls)) (ok-same (choices.Default, l ∷ ls) c f) ([], refl, refl, fails)

    shipped : (which : Shipped) → head_of l.tokens ≡ heads.Shipped which → (v : Bool) → (version == 2) ≡ v
        → ◌≡◌ {A = Result (Choice × List Line) InputError} (cond v (Ok (choices.Shipped l.number which, ls))
        (Ok (choices.Default, l ∷ ls))) (Ok c) → ChoiceOf version (l ∷ ls) c
    shipped which is true two f =
        subst (ChoiceOf version (l ∷ ls)) (ok-same (choices.Shipped l.number which, ls) c f)
        (l ∷ [], refl, (l, refl, eqb-true version 2 two, is, refl), tt)
    shipped which is false two f = none (ap (chooses version) is ∙ two) f

    go : (h : Head) → head_of l.tokens ≡ h → choice_as version all h l ls ≡ Ok c → ChoiceOf version (l ∷ ls) c
    go heads.Protocol is f =
        let p = bind-ok (body_in all ls) (λ b. Ok (choices.Own l.number b.0, b.1)) c f in
        let b = body-back all ls p.0 p.1 in
        subst (ChoiceOf version (l ∷ ls)) (ok-same (choices.Own l.number p.0.0, p.0.1) c p.2) (
          l ∷ (p.0.0.lines ++ b.0 ∷ []),
          ap (λ z. l ∷ z) (b.1 ∙ sym (append_assoc p.0.0.lines (b.0 ∷ []) p.0.1)),
          record {
            opening = l;
            closing = b.0;
            lines_are = refl;
            opens = is;
            line_is = refl;
            body_is = b.2;
            closes = b.3;
            last_is = b.4;
          },
          tt,
        )
    go (heads.Shipped which) is f = shipped which is (version == 2) refl f
    go _ is f = none (ap (chooses version) is) f

chosen-none : (version all : ℕ) (rest : List Line) → chooses version (starts rest) ≡ false →
    choice_in version all rest ≡ Ok (choices.Default, rest)
unfolding choice_in
chosen-none version all [] fails = refl
chosen-none version all (l ∷ ls) fails = go (head_of l.tokens) fails
  where
    go : (h : Head) → chooses version h ≡ false → choice_as version all h l ls ≡ Ok (choices.Default, l ∷ ls)
    go heads.Protocol fails = absurd (cc fails)
    go (heads.Shipped which) fails = ap (λ v. cond v (Ok (choices.Shipped l.number which, ls)) (Ok (choices.Default, l ∷ ls)))
        fails
    go _ fails = refl

pub choice-on : (version all : ℕ) (part rest : List Line) (c : Choice) → IsChoice version c part → NoChoice version c rest →
    choice_in version all (part ++ rest) ≡ Ok (c, rest)
unfolding choice_in
choice-on version all part rest choices.Default h fails = ap (λ z. choice_in version all (z ++ rest)) h
    ∙ chosen-none version all rest fails
choice-on version all part rest (choices.Own line body) h fails =
    let at : part ++ rest ≡ h.opening ∷ (body.lines ++ h.closing ∷ rest) = ap (λ z. z ++ rest) h.lines_are
    ∙ ap (λ z. h.opening ∷ z) (append_assoc body.lines (h.closing ∷ []) rest) in
    rw (at, h.opens, body-on all body.lines rest h.closing h.body_is h.closes)
    (λ j. Ok (choices.Own (h.line_is j) (record { lines = body.lines; end = h.last_is j }), rest))
choice-on version all part rest (choices.Shipped line which) h fails =
    rw (h.1, h.3, h.2) (ap (λ n. Ok (choices.Shipped n which, rest)) h.4)

-- ---- the end

report-says : (h : Head) → is_report h ≡ true → h ≡ heads.Report
report-says heads.Report e = refl
report-says _ e = absurd (cc e)

abbrev pub behind_all : ℕ → List Line → Body
behind_all all lines = record { lines = lines; end = all + 1 }

abbrev pub EndingOf : Ending → ℕ → List Line → Body → Type 0
EndingOf ending all lines report = IsEnding ending report lines × (report.end ≡ all + 1)

ended : (all : ℕ) (lines : List Line) (b : Body) → behind_all all lines ≡ b → (b.lines ≡ lines) × (b.end ≡ all + 1)
ended all lines b e = (sym (ap (λ (z : Body). z.lines) e), sym (ap (λ (z : Body). z.end) e))

pub ending-back : (ending : Ending) (all : ℕ) (lines : List Line) (b : Body) → ending_in ending all lines ≡ Ok b →
    EndingOf ending all lines b
unfolding ending_in
ending-back endings.Text all [] b e =
    let p = ended all [] b (ok-same (behind_all all []) b e) in
    ((refl, p.0), p.1)
ending-back endings.Text all (l ∷ ls) b e = absurd (cc e)
ending-back endings.Report all [] b e = absurd (cc e)
ending-back endings.Report all (l ∷ ls) b e = go (is_report (head_of l.tokens)) refl e
  where
    go : (v : Bool) → is_report (head_of l.tokens) ≡ v → cond v (Ok (behind_all all ls)) (Err (misfit all (l ∷ ls))) ≡ Ok b →
        EndingOf endings.Report all (l ∷ ls) b
    go true is f =
        let p = ended all ls b (ok-same (behind_all all ls) b f) in
        ((l, ap (λ z. l ∷ z) (sym p.0), report-says (head_of l.tokens) is), p.1)
    go false is f = absurd (cc f)

body-is : (b : Body) (lines : List Line) (end : ℕ) → b.lines ≡ lines → b.end ≡ end → record { lines = lines; end = end } ≡ b
body-is b lines end is last = λ j. record { lines = sym is j; end = sym last j }

pub ending-on : (ending : Ending) (all : ℕ) (lines : List Line) (b : Body) → EndingOf ending all lines b →
    ending_in ending all lines ≡ Ok b
unfolding ending_in
ending-on endings.Text all lines b h = ap (ending_in endings.Text all) h.0.0 ∙ ap Ok (body-is b [] (all + 1) h.0.1 h.1)
ending-on endings.Report all lines b h =
    ap (ending_in endings.Report all) h.0.1
    ∙ ap (λ x. cond (is_report x) (Ok (behind_all all b.lines)) (Err (misfit all (h.0.0 ∷ b.lines)))) h.0.2
    ∙ ap Ok (body-is b b.lines (all + 1) refl h.1)
