-- The instructions of a report, line by line.
use Rattle.std.proofs.Common.{◌≡◌, ℕ, ◌+◌, ◌<◌, ◌≤◌, List, ◌∷◌, length, drop, get_or, Result, Ok, Err, refl, ap, sym, ◌∙◌}
use Rattle.std.proofs.lemmas.List.{at_drop_all, at_drop_more}
use Rattle.teapot_tree.specs.declared.protocol.Protocol.{Protocol}
use Rattle.report_reader.specs.declared.error.AuditError.{AuditError}
use Rattle.report_reader.specs.declared.lines.PrintedLine.{PrintedLine}
use Rattle.report_audit.specs.declared.execute.Executed.{Executed}
use Rattle.report_audit.specs.Executing.{executed, line_executed}

pub goes : (p q : Protocol) (x y : Executed) (lines : List PrintedLine) (i : ℕ) (l : PrintedLine)
    (all : Result Executed AuditError) → q ≡ p → i < length lines → l ≡ get_or lines i l →
    line_executed q x l ≡ Ok y → executed p x (drop i lines) ≡ all → executed p y (drop (i + 1) lines) ≡ all
unfolding executed
goes p q x y lines i l all same lt at e inv =
    let here : line_executed p x l ≡ Ok y = ap (λ (r : Protocol). line_executed r x l) (sym same) ∙ e in
    sym (at_drop_more (λ (ls : List PrintedLine). executed p x ls) lines i l lt
    ∙ ap (λ (k : PrintedLine). executed p x (k ∷ drop (i + 1) lines)) (sym at) ∙ rw here refl) ∙ inv

pub stops : (p q : Protocol) (x : Executed) (lines : List PrintedLine) (i : ℕ) (l : PrintedLine) (e : AuditError)
    (all : Result Executed AuditError) → q ≡ p → i < length lines →
    l ≡ get_or lines i l → executed p x (drop i lines) ≡ all → line_executed q x l ≡ Err e → all ≡ Err e
unfolding executed
stops p q x lines i l e all same lt at inv f =
    let here : line_executed p x l ≡ Err e = ap (λ (r : Protocol). line_executed r x l) (sym same) ∙ f in
    sym inv ∙ at_drop_more (λ (ls : List PrintedLine). executed p x ls) lines i l lt
    ∙ ap (λ (k : PrintedLine). executed p x (k ∷ drop (i + 1) lines)) (sym at) ∙ rw here refl

pub ends : (p : Protocol) (x : Executed) (lines : List PrintedLine) (i : ℕ) (all : Result Executed AuditError) →
    length lines ≤ i → executed p x (drop i lines) ≡ all → all ≡ Ok x
unfolding executed
ends p x lines i all h inv = sym inv ∙ at_drop_all (λ (ls : List PrintedLine). executed p x ls) lines i h
