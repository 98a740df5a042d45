-- Lines that say what is due.
use Rattle.std.proofs.Common.{◌≡◌, ℕ, if◌then◌else◌, Bool, true, false, List, [], ◌∷◌, map, Some, None, refl, ap, ◌∙◌, eqb-true}
use Rattle.std.proofs.lemmas.Bool.{and_parts}
use Rattle.std.proofs.lemmas.Slice.Eq.{bytes_eq-Decides}
use Rattle.tw_base.specs.Lists.{Each}
use Rattle.tw_lex.specs.declared.token.What.{What}
use Rattle.tw_lex.specs.declared.token.What.TheVariants.{Word, Number, Mark}
use Rattle.mini_asm.specs.Run.{Machine}
use Rattle.report_reader.specs.declared.lines.PrintedLine.{PrintedLine}
use Rattle.printed_lines.specs.Saying.{same_what, says}
use Rattle.printed_lines.specs.Tokens.{whats}
use Rattle.report_audit.specs.declared.due.Due.{Due}
use Rattle.report_audit.specs.Lines.{due_tokens, first_other, is_due}
use Rattle.report_audit.specs.Nodes.{is_right, wrong_node}
use Rattle.audit_meaning.specs.Laws.{AreDue}

same-is : (d t : What) → same_what d t ≡ true → t ≡ d
same-is (Word due) (Word word) e = ap (λ (w : List ℕ). Word w) ((bytes_eq-Decides word due).0 e)
same-is (Number due) (Number n) e = ap (λ (k : ℕ). Number k) (eqb-true n due e)
same-is (Word due) (Number n) e = absurd (cc e)
same-is (Word due) (Mark m) e = absurd (cc e)
same-is (Number due) (Word word) e = absurd (cc e)
same-is (Number due) (Mark m) e = absurd (cc e)
same-is (Mark due) t e = absurd (cc e)

pub says-is : (ds ts : List What) → says ds ts ≡ true → ts ≡ ds
unfolding says
says-is [] [] e = refl
says-is [] (t ∷ ts) e = absurd (cc e)
says-is (d ∷ ds) [] e = absurd (cc e)
says-is (d ∷ ds) (t ∷ ts) e =
    let parts = and_parts (same_what d t) (says ds ts) e in
    ap (λ (x : What). x ∷ ts) (same-is d t parts.0) ∙ ap (λ (xs : List What). d ∷ xs) (says-is ds ts parts.1)

-- where no line differs from what is due, the lines say that
pub due-said : (due : List Due) (lines : List PrintedLine) (next : ℕ) → first_other due lines next ≡ None → AreDue due lines
unfolding first_other
due-said [] [] next e = refl
due-said (d ∷ ds) [] next e = absurd (cc e)
due-said [] (l ∷ ls) next e = absurd (cc e)
due-said (d ∷ ds) (l ∷ ls) next e = go (is_due (Some d) l.tokens) refl e (λ f. due-said ds ls next f)
  where
    go : (b : Bool) → is_due (Some d) l.tokens ≡ b → (if b then first_other ds ls next else Some l.line) ≡ None →
        (first_other ds ls next ≡ None → AreDue ds ls) → AreDue (d ∷ ds) (l ∷ ls)
    go true is f rest =
        ap (λ (ts : List What). ts ∷ map (λ (x : PrintedLine). whats x.tokens) ls) (says-is (due_tokens d) (whats l.tokens) is)
        ∙ ap (λ (xs : List (List What)). due_tokens d ∷ xs) (rest f)
    go false is f rest = absurd (cc f)

-- where no line of a node is wrong, each is right
pub nodes-right : (events : List PrintedLine) (m : Machine) (lines : List PrintedLine) → wrong_node events m lines ≡ None →
    Each (λ l. is_right events m l.tokens ≡ true) lines
unfolding wrong_node
nodes-right events m [] e = tt
nodes-right events m (l ∷ ls) e = go (is_right events m l.tokens) refl e (λ f. nodes-right events m ls f)
  where
    go : (b : Bool) → is_right events m l.tokens ≡ b → (if b then wrong_node events m ls else Some l.line) ≡ None →
        (wrong_node events m ls ≡ None → Each (λ x. is_right events m x.tokens ≡ true) ls) →
        Each (λ x. is_right events m x.tokens ≡ true) (l ∷ ls)
    go true is f rest = (is, rest f)
    go false is f rest = absurd (cc f)
