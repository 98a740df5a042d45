-- What stands behind the first line of a report, part by part.
use Rattle.std.proofs.Common.{◌≡◌, ℕ, ◌≤◌, Bool, true, List, [], ◌∷◌, length, drop, get_or, Result, Ok, Err, refl, ap, sym, ◌∙◌}
use Rattle.std.proofs.Common.{arith}
use Rattle.tw_base.specs.Shape.{Sizes}
use Rattle.tw_lex.specs.declared.token.Line.{Line}
use Rattle.tw_lex.specs.declared.token.Token.{Token}
use Rattle.report_reader.specs.declared.lines.Printed.{Printed}
use Rattle.report_reader.specs.Slots.{fits}
use Rattle.report_reader.specs.Forms.{head_form}
use Rattle.report_reader.specs.declared.error.AuditError.{AuditError}
use Rattle.report_reader.specs.declared.kind.LineKind.TheVariants as kinds
use Rattle.report_reader.specs.Reading.{behind, event_kinds, front, history_in, numbered, past_counts, past_head, past_nodes}
use Rattle.report_reader.specs.Reading.{report_with, told_in}

-- the lines of a report up to its nodes
pub record Above (shape : Sizes) (prints words registers nodes : List Line) : Type 0 where
  pub words_are : words ≡ behind shape (kinds.Print ∷ []) prints
  pub registers_are : registers ≡ behind shape (kinds.Word ∷ []) words
  pub nodes_are : nodes ≡ behind shape (kinds.Register ∷ []) registers

nodes-at : (shape : Sizes) (prints words registers nodes : List Line) → Above shape prints words registers nodes →
    behind shape (kinds.Register ∷ []) (behind shape (kinds.Word ∷ []) (behind shape (kinds.Print ∷ []) prints)) ≡ nodes
nodes-at shape prints words registers nodes a =
    ap (λ (l : List Line). behind shape (kinds.Register ∷ []) (behind shape (kinds.Word ∷ []) l)) (sym a.words_are)
    ∙ ap (λ (l : List Line). behind shape (kinds.Register ∷ []) l) (sym a.registers_are) ∙ sym a.nodes_are

pub nodes-fault : (shape : Sizes) (after : ℕ) (prints words registers nodes : List Line) (e : AuditError) →
    Above shape prints words registers nodes →
    past_nodes shape after nodes ≡ Err e → told_in shape after prints ≡ Err e
unfolding told_in
nodes-fault shape after prints words registers nodes e a f =
    let here = ap (past_nodes shape after) (nodes-at shape prints words registers nodes a) ∙ f in rw here refl

pub counts-fault : (shape : Sizes) (after : ℕ) (prints words registers nodes counts : List Line) (e : AuditError) →
    Above shape prints words registers nodes →
    past_nodes shape after nodes ≡ Ok counts → past_counts shape after counts ≡ Err e → told_in shape after prints ≡ Err e
unfolding told_in
counts-fault shape after prints words registers nodes counts e a n f =
    let here = ap (past_nodes shape after) (nodes-at shape prints words registers nodes a) ∙ n in rw (here, f) refl

pub history-fault : (shape : Sizes) (after : ℕ) (prints words registers nodes counts events ending : List Line)
    (e : AuditError) → Above shape prints words registers nodes →
    past_nodes shape after nodes ≡ Ok counts → past_counts shape after counts ≡ Ok events →
    ending ≡ behind shape event_kinds events →
    history_in shape after ending ≡ Err e → told_in shape after prints ≡ Err e
unfolding told_in
history-fault shape after prints words registers nodes counts events ending e a n k h f =
    let here = ap (past_nodes shape after) (nodes-at shape prints words registers nodes a) ∙ n in
    let told = ap (history_in shape after) (sym h) ∙ f in
    rw (here, k, told) refl

pub numbers-fault : (shape : Sizes) (after : ℕ) (prints words registers nodes counts events ending told : List Line)
    (history : Line) (e : AuditError) →
    Above shape prints words registers nodes → past_nodes shape after nodes ≡ Ok counts →
    past_counts shape after counts ≡ Ok events → ending ≡ behind shape event_kinds events →
    told ≡ front shape event_kinds events → history_in shape after ending ≡ Ok history → numbered 0 told ≡ Err e →
    told_in shape after prints ≡ Err e
unfolding told_in
numbers-fault shape after prints words registers nodes counts events ending told history e a n k h t y f =
    let here = ap (past_nodes shape after) (nodes-at shape prints words registers nodes a) ∙ n in
    let last = ap (history_in shape after) (sym h) ∙ y in
    let numbers = ap (numbered 0) (sym t) ∙ f in
    rw (here, k, last, numbers) refl

pub told-is : (shape : Sizes) (after : ℕ) (prints words registers nodes counts events ending told : List Line) (history : Line)
    (count : ℕ) →
    Above shape prints words registers nodes → past_nodes shape after nodes ≡ Ok counts →
    past_counts shape after counts ≡ Ok events → ending ≡ behind shape event_kinds events →
    told ≡ front shape event_kinds events → history_in shape after ending ≡ Ok history → numbered 0 told ≡ Ok count →
    told_in shape after prints ≡
    Ok (report_with (front shape (kinds.Print ∷ []) prints) (front shape (kinds.Word ∷ []) words)
    (front shape (kinds.Register ∷ []) registers) (front shape (kinds.Node ∷ []) nodes) told history)
unfolding told_in
told-is shape after prints words registers nodes counts events ending told history count a n k h t y f =
    let here = ap (past_nodes shape after) (nodes-at shape prints words registers nodes a) ∙ n in
    let last = ap (history_in shape after) (sym h) ∙ y in
    let numbers = ap (numbered 0) (sym t) ∙ f in
    rw (here, k, last, numbers) (rw (a.nodes_are, a.registers_are, a.words_are, t) refl)

pub told-with : (shape : Sizes) (after : ℕ) (prints words registers nodes told : List Line) (history : Line)
    (prints_told words_told registers_told nodes_told : List Line) (report : Printed) →
    told_in shape after prints ≡
    Ok (report_with (front shape (kinds.Print ∷ []) prints) (front shape (kinds.Word ∷ []) words)
    (front shape (kinds.Register ∷ []) registers) (front shape (kinds.Node ∷ []) nodes) told history) →
    prints_told ≡ front shape (kinds.Print ∷ []) prints → words_told ≡ front shape (kinds.Word ∷ []) words →
    registers_told ≡ front shape (kinds.Register ∷ []) registers →
    nodes_told ≡ front shape (kinds.Node ∷ []) nodes → report
    ≡ report_with prints_told words_told registers_told nodes_told told history → told_in shape after prints ≡ Ok report
told-with shape after prints words registers nodes told history prints_told words_told registers_told nodes_told report all p w
    r n e =
    all
    ∙ ap (λ (l : List Line). Ok (report_with l (front shape (kinds.Word ∷ []) words)
    (front shape (kinds.Register ∷ []) registers) (front shape (kinds.Node ∷ []) nodes) told history)) (sym p)
    ∙ ap (λ (l : List Line). Ok (report_with prints_told l (front shape (kinds.Register ∷ []) registers)
    (front shape (kinds.Node ∷ []) nodes) told history)) (sym w)
    ∙ ap (λ (l : List Line). Ok (report_with prints_told words_told l (front shape (kinds.Node ∷ []) nodes) told history)) (sym r)
    ∙ ap (λ (l : List Line). Ok (report_with prints_told words_told registers_told l told history)) (sym n)
    ∙ ap (λ (x : Printed). Ok x) (sym e)

-- an answer of lines, and the same lines
pub ok-of : (r : Result (List Line) AuditError) (xs ys : List Line) → r ≡ Ok xs → ys ≡ xs → r ≡ Ok ys
ok-of r xs ys e h = e ∙ ap (λ (l : List Line). Ok l) (sym h)

-- the first line is a report's
pub head-past : (version : ℕ) (shape : Sizes) (after : ℕ) (lines : List Line) (l : Line) (ts : List Token) (r : Bool) →
    1 ≤ length lines → l ≡ get_or lines 0 l → ts ≡ l.tokens →
    r ≡ fits shape 0 (head_form version shape) ts → r ≡ true → past_head version shape after lines ≡ Ok (drop 1 lines)
unfolding past_head
head-past version shape after [] l ts r h here is says fit = absurd (omega arith)
head-past version shape after (x ∷ xs) l ts r h here is says fit =
    let first : fits shape 0 (head_form version shape) x.tokens ≡ true =
    ap (λ (y : Line). fits shape 0 (head_form version shape) y.tokens) (sym here)
    ∙ ap (fits shape 0 (head_form version shape)) (sym is) ∙ sym says ∙ fit in
    rw first refl
