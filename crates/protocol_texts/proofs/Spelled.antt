-- The canonical text of a tree in the notation.
use Rattle.std.proofs.Common.{◌≡◌, ◌∙◌, ℕ, ◌+◌, ◌-◌, List, [], ◌∷◌, ◌++◌, append_assoc, map, refl, ap, sym, arith}
use Rattle.std.specs.List.{flat_map}
use Rattle.tw_lex.specs.declared.token.Mark.TheVariants as m
use Rattle.teapot_tree.specs.declared.expr.Expr.TheFolds.{fold-roll-Expr}
use Rattle.teapot_tree.specs.declared.keyword.Keyword.TheVariants as k
use Rattle.teapot_tree.specs.declared.protocol.Param.{Param}
use Rattle.teapot_tree.specs.declared.protocol.Trigger.{Trigger}
use Rattle.teapot_tree.specs.declared.protocol.Trigger.TheVariants.{RdFault, WrFault, Named, Default}
use Rattle.teapot_tree.specs.Bodies.{body_of}
use Rattle.teapot_lines.specs.Exprs.{one_spelled, spelled, two_spelled, way}
use Rattle.teapot_lines.specs.Seen as see
use Rattle.teapot_lines.specs.Seen.{Seen}
use Rattle.teapot_lines.specs.declared.form.Form.TheVariants as f
use Rattle.teapot_parse.specs.Trees.{Lines, body_lines, handler_form, handler_lines, local_line, state_lines}
use Rattle.teapot_print.specs.declared.printer.Last.TheVariants.{Begin}
use Rattle.teapot_print.specs.Text.{line_text, lines_text, spaces, text_after}
use Rattle.stache_tree.specs.Code.{Code, Term, Done, Assign, When, Last, Send, SendAll, SetTag, SetState, Suspend, Resume}
use Rattle.stache_tree.specs.Code.{Error, Install, Enqueue, WakeUp, Number, Empty, Src, Home, Var, One, Count, Two, expr_of}
use Rattle.stache_tree.specs.Code.{label, stmts_of}
use Rattle.stache_tree.proofs.Bodies.{body-is, code_body}
use Rattle.stache_rules.proofs.Doors.{Door, Told, handler_of, state_of}

abbrev pub term_spelled : Term → List Seen
term_spelled (Number n) = see.Number n ∷ []
term_spelled Empty = see.Key k.Empty ∷ []
term_spelled Src = see.Key k.Src ∷ []
term_spelled Home = see.Key k.Home ∷ []
term_spelled (Var name) = see.Named name ∷ []
term_spelled (One a) = one_spelled k.One (term_spelled a)
term_spelled (Count a) = one_spelled k.Count (term_spelled a)
term_spelled (Two op a b) = two_spelled (way op) (term_spelled a) (term_spelled b)

spelled-is : (t : Term) → spelled (expr_of t) ≡ term_spelled t
unfolding spelled
spelled-is (Number n) = rw fold-roll-Expr
spelled-is Empty = rw fold-roll-Expr
spelled-is Src = rw fold-roll-Expr
spelled-is Home = rw fold-roll-Expr
spelled-is (Var name) = rw fold-roll-Expr
spelled-is (One a) = rw fold-roll-Expr (rw (spelled-is a))
spelled-is (Count a) = rw fold-roll-Expr (rw (spelled-is a))
spelled-is (Two op a b) = rw fold-roll-Expr (rw (spelled-is a, spelled-is b))

-- a line of these tokens
abbrev pub tokens_text : ℕ → List Seen → List ℕ
tokens_text n ts = spaces n ++ (text_after Begin ts ++ 10 ∷ [])

abbrev assign_tokens : List ℕ → List Seen → List Seen
assign_tokens name ts = see.Named name ∷ see.Marked m.Becomes ∷ (ts ++ [])

abbrev if_tokens : List Seen → List Seen
if_tokens ts = see.Key k.If ∷ (ts ++ [])

abbrev each_tokens : List ℕ → List Seen → List Seen
each_tokens name ts = see.Key k.ForEach ∷ see.Named name ∷ (ts ++ [])

abbrev send_tokens : List ℕ → List Seen → List Seen
send_tokens name ts = see.Key k.Send ∷ see.Marked m.Open ∷ (ts
    ++ (see.Marked m.Comma ∷ see.Named name ∷ (see.Marked m.Close ∷ [])))

abbrev send_all_tokens : List ℕ → List Seen → List Seen
send_all_tokens name ts = see.Key k.SendAll ∷ see.Marked m.Open ∷
    (ts ++ (see.Marked m.Comma ∷ see.Named name ∷ (see.Marked m.Close ∷ [])))

-- the text of statements at which so many Begins are open
abbrev pub code_text : ℕ → Code → List ℕ
code_text n Done = []
code_text n (Assign name e c) = tokens_text n (assign_tokens name (term_spelled e)) ++ code_text n c
code_text n (When e first c) =
    tokens_text n (if_tokens (term_spelled e)) ++ (line_text n f.Begin
    ++ (code_text (n + 1) first ++ (line_text n f.End ++ code_text n c)))
code_text n (Last name e c) =
    tokens_text n (each_tokens name (term_spelled e)) ++ (line_text n f.Begin ++ (line_text n f.End ++ code_text n c))
code_text n (Send to name c) = tokens_text n (send_tokens name (term_spelled to)) ++ code_text n c
code_text n (SendAll to name c) = tokens_text n (send_all_tokens name (term_spelled to)) ++ code_text n c
code_text n (SetTag tag c) = line_text n (f.SetTag tag) ++ code_text n c
code_text n (SetState name c) = line_text n (f.SetState name []) ++ code_text n c
code_text n (Suspend name c) = line_text n (f.Suspend label name [] label) ++ code_text n c
code_text n (Resume name c) = line_text n (f.Resume name) ++ code_text n c
code_text n (Error name c) = line_text n (f.Error name) ++ code_text n c
code_text n (Install c) = line_text n f.Install ++ code_text n c
code_text n (Enqueue c) = line_text n f.Enqueue ++ code_text n c
code_text n (WakeUp c) = line_text n f.WakeUp ++ code_text n c

on-line : (l x a b r : List ℕ) → l ≡ x → a ≡ b ++ r → l ++ a ≡ (x ++ b) ++ r
on-line l x a b r h q = ap (λ y. y ++ a) h ∙ (ap (λ y. x ++ y) q ∙ sym (append_assoc x b r))

next-line : (x a b r : List ℕ) → a ≡ b ++ r → x ++ a ≡ (x ++ b) ++ r
next-line x a b r q = on-line x x a b r refl q

two-lines : (x y a b r : List ℕ) → a ≡ b ++ r → x ++ (y ++ a) ≡ (x ++ (y ++ b)) ++ r
two-lines x y a b r q = next-line x (y ++ a) (y ++ b) r (next-line y a b r q)

at-end : (n : ℕ) (rest : Lines) → lines_text (n + 1) ((0, f.End) ∷ rest) ≡ line_text n f.End ++ lines_text n rest
at-end n rest =
    let less : n + 1 - 1 ≡ n = omega arith in
    ap (λ i. line_text i f.End ++ lines_text i rest) less

pub text-is : (n : ℕ) (c : Code) (rest : Lines) → lines_text n (body_lines (code_body c) ++ rest) ≡ code_text n c
    ++ lines_text n rest
text-is n Done rest = refl
text-is n (Assign name e c) rest = on-line _ _ _ _ _ (ap (λ ts. tokens_text n (assign_tokens name ts)) (spelled-is e))
    (text-is n c rest)
text-is n (When e first c) rest =
    on-line _ _ _ _ _ (ap (λ ts. tokens_text n (if_tokens ts)) (spelled-is e))
    (next-line _ _ _ _
    (ap (lines_text (n + 1)) (append_assoc (body_lines (code_body first)) ((0, f.End) ∷ body_lines (code_body c)) rest)
    ∙ (text-is (n + 1) first ((0, f.End) ∷ (body_lines (code_body c) ++ rest))
    ∙ (ap (λ y. code_text (n + 1) first ++ y) (at-end n (body_lines (code_body c) ++ rest)
    ∙ next-line (line_text n f.End) _ _ _ (text-is n c rest))
    ∙ sym (append_assoc (code_text (n + 1) first) (line_text n f.End ++ code_text n c) (lines_text n rest))))))
text-is n (Last name e c) rest =
    on-line _ _ _ _ _ (ap (λ ts. tokens_text n (each_tokens name ts)) (spelled-is e))
    (next-line (line_text n f.Begin) _ _ _ (at-end n (body_lines (code_body c) ++ rest)
    ∙ next-line (line_text n f.End) _ _ _ (text-is n c rest)))
text-is n (Send to name c) rest = on-line _ _ _ _ _ (ap (λ ts. tokens_text n (send_tokens name ts)) (spelled-is to))
    (text-is n c rest)
text-is n (SendAll to name c) rest = on-line _ _ _ _ _ (ap (λ ts. tokens_text n (send_all_tokens name ts)) (spelled-is to))
    (text-is n c rest)
text-is n (SetTag tag c) rest = next-line _ _ _ _ (text-is n c rest)
text-is n (SetState name c) rest = next-line _ _ _ _ (text-is n c rest)
text-is n (Suspend name c) rest = next-line _ _ _ _ (text-is n c rest)
text-is n (Resume name c) rest = next-line _ _ _ _ (text-is n c rest)
text-is n (Error name c) rest = next-line _ _ _ _ (text-is n c rest)
text-is n (Install c) rest = next-line _ _ _ _ (text-is n c rest)
text-is n (Enqueue c) rest = next-line _ _ _ _ (text-is n c rest)
text-is n (WakeUp c) rest = next-line _ _ _ _ (text-is n c rest)

-- ---- handlers and states

-- a handler's own variables, and what stands behind them
abbrev pub behind_locals : List Param → List ℕ → List ℕ
behind_locals [] text = text
behind_locals (a ∷ locals) text = line_text 2 (f.Local a.name a.ty) ++ behind_locals locals text

abbrev pub door_text : Door → List ℕ
door_text d = line_text 1 (handler_form d.trigger []) ++ (line_text 1 f.Begin
    ++ behind_locals d.locals (code_text 2 d.code ++ line_text 1 f.End))

behind_head : (locals : List Param) (c : Code) (rest : Lines) →
    lines_text 2 ((map local_line locals ++ (body_lines (body_of (stmts_of c)) ++ (0, f.End) ∷ [])) ++ rest)
    ≡ behind_locals locals (code_text 2 c ++ line_text 1 f.End) ++ lines_text 1 rest
behind_head [] c rest =
    ap (λ b. lines_text 2 ((body_lines b ++ (0, f.End) ∷ []) ++ rest)) (body-is c)
    ∙ (ap (lines_text 2) (append_assoc (body_lines (code_body c)) ((0, f.End) ∷ []) rest)
    ∙ (text-is 2 c ((0, f.End) ∷ rest)
    ∙ sym (append_assoc (code_text 2 c) (line_text 1 f.End) (lines_text 1 rest))))
behind_head (a ∷ locals) c rest = next-line (line_text 2 (f.Local a.name a.ty)) _ _ (lines_text 1 rest)
    (behind_head locals c rest)

handler-text : (t : Trigger) (locals : List Param) (c : Code) (rest : Lines) →
    lines_text 1 (handler_lines (handler_of (record { trigger = t; locals = locals; code = c })) ++ rest)
    ≡ door_text (record { trigger = t; locals = locals; code = c }) ++ lines_text 1 rest
handler-text RdFault locals c rest = two-lines (line_text 1 (handler_form RdFault [])) (line_text 1 f.Begin) _
    (behind_locals locals (code_text 2 c ++ line_text 1 f.End)) (lines_text 1 rest) (behind_head locals c rest)
handler-text WrFault locals c rest = two-lines (line_text 1 (handler_form WrFault [])) (line_text 1 f.Begin) _
    (behind_locals locals (code_text 2 c ++ line_text 1 f.End)) (lines_text 1 rest) (behind_head locals c rest)
handler-text (Named name) locals c rest = two-lines (line_text 1 (handler_form (Named name) [])) (line_text 1 f.Begin) _
    (behind_locals locals (code_text 2 c ++ line_text 1 f.End)) (lines_text 1 rest) (behind_head locals c rest)
handler-text Default locals c rest = two-lines (line_text 1 (handler_form Default [])) (line_text 1 f.Begin) _
    (behind_locals locals (code_text 2 c ++ line_text 1 f.End)) (lines_text 1 rest) (behind_head locals c rest)

abbrev pub doors_text : List Door → List ℕ
doors_text [] = []
doors_text (d ∷ ds) = door_text d ++ doors_text ds

doors-text : (ds : List Door) (rest : Lines) → lines_text 1 (flat_map handler_lines (map handler_of ds) ++ rest)
    ≡ doors_text ds ++ lines_text 1 rest
doors-text [] rest = refl
doors-text (d ∷ ds) rest =
    ap (lines_text 1) (append_assoc (handler_lines (handler_of d)) (flat_map handler_lines (map handler_of ds)) rest)
    ∙ (handler-text d.trigger d.locals d.code (flat_map handler_lines (map handler_of ds) ++ rest)
    ∙ (ap (λ y. door_text d ++ y) (doors-text ds rest)
    ∙ sym (append_assoc (door_text d) (doors_text ds) (lines_text 1 rest))))

abbrev pub state_text : Told → List ℕ
state_text t = line_text 0 (f.State t.name [] t.cont) ++ (line_text 0 f.Begin ++ (doors_text t.doors ++ line_text 0 f.End))

abbrev pub states_text : List Told → List ℕ
states_text [] = []
states_text (t ∷ ts) = state_text t ++ states_text ts

state-text : (t : Told) (rest : Lines) → lines_text 0 (state_lines (state_of t) ++ rest) ≡ state_text t ++ lines_text 0 rest
state-text t rest =
    two-lines (line_text 0 (f.State t.name [] t.cont)) (line_text 0 f.Begin) _ (doors_text t.doors ++ line_text 0 f.End)
    (lines_text 0 rest)
    (ap (lines_text 1) (append_assoc (flat_map handler_lines (map handler_of t.doors)) ((0, f.End) ∷ []) rest)
    ∙ (doors-text t.doors ((0, f.End) ∷ rest)
    ∙ sym (append_assoc (doors_text t.doors) (line_text 0 f.End) (lines_text 0 rest))))

pub states-text : (ts : List Told) → lines_text 0 (flat_map state_lines (map state_of ts)) ≡ states_text ts
states-text [] = refl
states-text (t ∷ ts) = state-text t (flat_map state_lines (map state_of ts)) ∙ ap (λ y. state_text t ++ y) (states-text ts)
