-- The statements of a handler as plain data, and the tests that look into expressions.
use Rattle.std.proofs.Common.{◌≡◌, ◌∙◌, ℕ, Bool, true, not, ◌&&◌, List, [], ◌∷◌, ◌++◌, map, refl, ap, sym}
use Rattle.std.specs.List.{flat_map, list_all}
use Rattle.std.proofs.lemmas.List.{map-append}
use Rattle.tw_base.specs.declared.name.Name.{Name}
use Rattle.teapot_tree.specs.declared.protocol.ValType.TheVariants.{Node, Set, Bool as Truth}
use Rattle.teapot_tree.specs.Bodies.{Simple, assign, send, send_all, set_tag, set_state, suspend, resume, install, enqueue}
use Rattle.teapot_tree.specs.Bodies.{wake_up, error, body_of}
use Rattle.teapot_tree.specs.Paths.{Deed, does, tests, repeats, Step, step, steps_in}
use Rattle.teapot_tree.specs.Rules.{are_fit, has_wrong_type, is_fit, is_message, message_types, uses_undeclared}
use Rattle.teapot_tree.specs.Scopes.{Scope, assignable, is_among, is_of, locals_in, type_among, visible}
use Rattle.teapot_rules.specs.Lists.{line_if}
use Rattle.teapot_rules.specs.Walks.{step_lines}
use Rattle.stache_tree.specs.Code.{Code, Term, Done, Assign, When, Last, Send, SendAll, SetTag, SetState, Suspend, Resume}
use Rattle.stache_tree.specs.Code.{Error, Install, Enqueue, WakeUp, expr_of, label, stmts_of}
use Rattle.stache_tree.proofs.Bodies.{body-is, code_body}
use Rattle.stache_rules.proofs.Terms.{term-names, term-type, term_names, term_type}

-- what a statement does, with its expression, if it has one
pub data Act : Type 0 where
  sets lasts : Name → Term → Act
  sends sends_all : Term → Name → Act
  asks : Term → Act
  other : Simple → Act

abbrev pub deed_of : Act → Deed
deed_of (sets n e) = does (assign n (expr_of e))
deed_of (lasts n e) = repeats n (expr_of e)
deed_of (sends e n) = does (send (expr_of e) n [])
deed_of (sends_all e n) = does (send_all (expr_of e) n [])
deed_of (asks e) = tests (expr_of e)
deed_of (other s) = does s

abbrev pub acts : Code → List Act
acts Done = []
acts (Assign name e c) = sets name e ∷ acts c
acts (When e first c) = asks e ∷ (acts first ++ acts c)
acts (Last name e c) = lasts name e ∷ acts c
acts (Send to name c) = sends to name ∷ acts c
acts (SendAll to name c) = sends_all to name ∷ acts c
acts (SetTag tag c) = other (set_tag tag) ∷ acts c
acts (SetState name c) = other (set_state name []) ∷ acts c
acts (Suspend name c) = other (suspend label name [] label) ∷ acts c
acts (Resume name c) = other (resume name) ∷ acts c
acts (Error name c) = other (error name) ∷ acts c
acts (Install c) = other install ∷ acts c
acts (Enqueue c) = other enqueue ∷ acts c
acts (WakeUp c) = other wake_up ∷ acts c

abbrev pub step_of : Act → Step
step_of a = step 0 (deed_of a)

steps-are : (c : Code) → steps_in (code_body c) ≡ map step_of (acts c)
steps-are Done = refl
steps-are (Assign name e c) = ap (λ z. step_of (sets name e) ∷ z) (steps-are c)
steps-are (When e first c) = ap (λ z. step_of (asks e) ∷ z) ((λ i. steps-are first i ++ steps-are c i)
    ∙ sym (map-append step_of (acts first) (acts c)))
steps-are (Last name e c) = ap (λ z. step_of (lasts name e) ∷ z) (steps-are c)
steps-are (Send to name c) = ap (λ z. step_of (sends to name) ∷ z) (steps-are c)
steps-are (SendAll to name c) = ap (λ z. step_of (sends_all to name) ∷ z) (steps-are c)
steps-are (SetTag tag c) = ap (λ z. step_of (other (set_tag tag)) ∷ z) (steps-are c)
steps-are (SetState name c) = ap (λ z. step_of (other (set_state name [])) ∷ z) (steps-are c)
steps-are (Suspend name c) = ap (λ z. step_of (other (suspend label name [] label)) ∷ z) (steps-are c)
steps-are (Resume name c) = ap (λ z. step_of (other (resume name)) ∷ z) (steps-are c)
steps-are (Error name c) = ap (λ z. step_of (other (error name)) ∷ z) (steps-are c)
steps-are (Install c) = ap (λ z. step_of (other install) ∷ z) (steps-are c)
steps-are (Enqueue c) = ap (λ z. step_of (other enqueue) ∷ z) (steps-are c)
steps-are (WakeUp c) = ap (λ z. step_of (other wake_up) ∷ z) (steps-are c)

pub flat-as : {X Y : Type 0} (f : X → Y) (g : Y → List ℕ) (h : X → List ℕ) → ((x : X) → g (f x) ≡ h x) → (xs : List X) →
    flat_map g (map f xs) ≡ flat_map h xs
flat-as f g h e [] = refl
flat-as f g h e (x ∷ xs) = λ i. e x i ++ flat-as f g h e xs i

abbrev pub act_lines : (Act → Bool) → Code → List ℕ
act_lines test c = flat_map (λ a. line_if (test a) 0) (acts c)

lines-are : (test : Deed → Bool) (own : Act → Bool) → ((a : Act) → test (deed_of a) ≡ own a) → (c : Code) →
    step_lines test (body_of (stmts_of c)) ≡ act_lines own c
lines-are test own e c =
    ap (step_lines test) (body-is c)
    ∙ (ap (λ z. flat_map (λ (s : Step). line_if (test s.deed) s.line) z) (steps-are c)
    ∙ flat-as step_of (λ (s : Step). line_if (test s.deed) s.line) (λ a. line_if (own a) 0) (λ a. ap (λ v. line_if v 0) (e a))
    (acts c))

-- ---- the tests

abbrev pub knows : Scope → List Name → Bool
knows c names = list_all (is_among (visible c)) names && true

abbrev pub undeclared : Scope → Act → Bool
undeclared c (sets n e) = not (is_among (assignable c) n && knows c (term_names e))
undeclared c (lasts n e) = not (is_among (locals_in c) n && knows c (term_names e))
undeclared c (sends e n) = not (is_message c n && knows c (term_names e))
undeclared c (sends_all e n) = not (is_message c n && knows c (term_names e))
undeclared c (asks e) = not (knows c (term_names e))
undeclared c (other s) = uses_undeclared c (does s)

undeclared-as : (c : Scope) (a : Act) → uses_undeclared c (deed_of a) ≡ undeclared c a
undeclared-as c (sets n e) = ap (λ ws. not (is_among (assignable c) n && knows c ws)) (term-names e)
undeclared-as c (lasts n e) = ap (λ ws. not (is_among (locals_in c) n && knows c ws)) (term-names e)
undeclared-as c (sends e n) = ap (λ ws. not (is_message c n && knows c ws)) (term-names e)
undeclared-as c (sends_all e n) = ap (λ ws. not (is_message c n && knows c ws)) (term-names e)
undeclared-as c (asks e) = ap (λ ws. not (knows c ws)) (term-names e)
undeclared-as c (other s) = refl

abbrev pub mistyped : Scope → Act → Bool
mistyped c (sets n e) = not (is_fit (type_among (assignable c) n) (term_type (visible c) e))
mistyped c (lasts n e) = not (is_of Node (type_among (locals_in c) n) && is_of Set (term_type (visible c) e))
mistyped c (sends e n) = not (is_of Node (term_type (visible c) e) && are_fit (message_types c n) [])
mistyped c (sends_all e n) = not (is_of Set (term_type (visible c) e) && are_fit (message_types c n) [])
mistyped c (asks e) = not (is_of Truth (term_type (visible c) e))
mistyped c (other s) = has_wrong_type c (does s)

mistyped-as : (c : Scope) (a : Act) → has_wrong_type c (deed_of a) ≡ mistyped c a
mistyped-as c (sets n e) = ap (λ o. not (is_fit (type_among (assignable c) n) o)) (term-type (visible c) e)
mistyped-as c (lasts n e) = ap (λ o. not (is_of Node (type_among (locals_in c) n) && is_of Set o)) (term-type (visible c) e)
mistyped-as c (sends e n) = ap (λ o. not (is_of Node o && are_fit (message_types c n) [])) (term-type (visible c) e)
mistyped-as c (sends_all e n) = ap (λ o. not (is_of Set o && are_fit (message_types c n) [])) (term-type (visible c) e)
mistyped-as c (asks e) = ap (λ o. not (is_of Truth o)) (term-type (visible c) e)
mistyped-as c (other s) = refl

pub undeclared-lines : (c : Scope) (k : Code) → step_lines (uses_undeclared c) (body_of (stmts_of k)) ≡ act_lines (undeclared c) k
undeclared-lines c k = lines-are (uses_undeclared c) (undeclared c) (undeclared-as c) k

pub mistyped-lines : (c : Scope) (k : Code) → step_lines (has_wrong_type c) (body_of (stmts_of k)) ≡ act_lines (mistyped c) k
mistyped-lines c k = lines-are (has_wrong_type c) (mistyped c) (mistyped-as c) k
