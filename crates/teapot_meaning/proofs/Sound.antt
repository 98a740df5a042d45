-- The statements of an accepted protocol keep the rules.
use Rattle.std.proofs.Common.{◌≡◌, ◌∙◌, ℕ, Bool, true, false, not, List, [], ◌∷◌, ◌++◌, Some, None, map, refl, ap, sym, subst}
use Rattle.std.proofs.Common.{arith, inl, inr}
use Rattle.std.specs.Prelude.{◌&&◌, ◌⊎◌, unwrap_or, Contains}
use Rattle.std.specs.List.{list_all}
use Rattle.std.proofs.lemmas.List.Folds.{list_all-append, list_all-map}
use Rattle.teapot_tree.specs.declared.protocol.Handler.{Handler}
use Rattle.teapot_tree.specs.declared.protocol.Protocol.{Protocol}
use Rattle.teapot_tree.specs.declared.protocol.State.{State}
use Rattle.teapot_tree.specs.declared.protocol.ValType.TheVariants.{Node}
use Rattle.teapot_tree.specs.declared.rule.Rule.TheVariants.{Undeclared, WrongType, ArgCount, ContDropped, NoData}
use Rattle.teapot_tree.specs.declared.stmt.Do.{Do, out-Do, out-roll-Do, fold-Do, fold_out-Do, map-Do}
use Rattle.teapot_tree.specs.declared.stmt.Do.TheOpen.{Do-F}
use Rattle.teapot_tree.specs.declared.stmt.Stmt.{Stmt, fold-Stmt, fold_out-Stmt}
use Rattle.teapot_tree.specs.Bodies.{Simple, assign, send, send_all, set_tag, set_state, suspend, resume, install, enqueue}
use Rattle.teapot_tree.specs.Bodies.{wake_up, error, Body, done, plain, branch, branches, loop, each, body_of, do_of, stmt}
use Rattle.teapot_tree.specs.Bodies.{tree_of}
use Rattle.teapot_tree.specs.Parts.{eaches}
use Rattle.teapot_tree.specs.Paths.{Deed, does, tests, repeats, Step, steps_in}
use Rattle.teapot_tree.specs.Rules.{Any, AtHandler, AtStep, answers_undeclared, counts_wrongly, IsAccepted, is_declared}
use Rattle.teapot_tree.specs.Rules.{uses_undeclared, is_typed, has_wrong_type, is_counted, has_wrong_count, drops_cont}
use Rattle.teapot_tree.specs.Rules.{lacks_data}
use Rattle.teapot_tree.specs.Scopes.{Scope, is_of, locals_in, type_among}
use Rattle.teapot_tree.proofs.Iso.{tree-body}
use Rattle.teapot_meaning.specs.Layers.{Layer, what_of}
use Rattle.teapot_meaning.proofs.Found.{any_at, both, each_at, each_flat, first_of_both, is_false, not_false, not_true}
use Rattle.teapot_meaning.proofs.Found.{second_of_both}

-- what a statement keeps by itself
abbrev pub keeps : Scope → Deed → Bool
keeps c d = is_declared c d && (is_typed c d && (is_counted c d && (not (drops_cont c d) && not (lacks_data c d))))

pub record Keeps (c : Scope) (d : Deed) : Type 0 where
  pub declared : is_declared c d ≡ true
  pub typed : is_typed c d ≡ true
  pub counted : is_counted c d ≡ true
  pub kept : drops_cont c d ≡ false
  pub carried : lacks_data c d ≡ false

pub unpacked : (c : Scope) (d : Deed) → keeps c d ≡ true → Keeps c d
unpacked c d e =
    let f = second_of_both (is_declared c d) _ e in
    let g = second_of_both (is_typed c d) _ f in
    let h = second_of_both (is_counted c d) _ g in
    record {
      declared = first_of_both (is_declared c d) _ e;
      typed = first_of_both (is_typed c d) _ f;
      counted = first_of_both (is_counted c d) _ g;
      kept = not_false (drops_cont c d) (first_of_both (not (drops_cont c d)) _ h);
      carried = not_false (lacks_data c d) (second_of_both (not (drops_cont c d)) _ h);
    }

-- ---- statements, with those in them

abbrev pub all_true : List Bool → Bool
all_true bs = list_all (λ b. b) bs

abbrev pub sound_step : Scope → Do-F Bool Bool → Bool
sound_step c (Do-F.Assign n e) = keeps c (does (assign n e))
sound_step c (Do-F.If e xs ys) = keeps c (tests e) && (all_true xs && all_true (unwrap_or ys []))
sound_step c (Do-F.Send e n xs) = keeps c (does (send e n xs))
sound_step c (Do-F.SendAll e n xs) = keeps c (does (send_all e n xs))
sound_step c (Do-F.SetTag t) = keeps c (does (set_tag t))
sound_step c (Do-F.SetState n xs) = keeps c (does (set_state n xs))
sound_step c (Do-F.Suspend l n xs p) = keeps c (does (suspend l n xs p))
sound_step c (Do-F.Resume n) = keeps c (does (resume n))
sound_step c Do-F.Install = keeps c (does install)
sound_step c Do-F.Enqueue = keeps c (does enqueue)
sound_step c Do-F.WakeUp = keeps c (does wake_up)
sound_step c (Do-F.Error n) = keeps c (does (error n))
sound_step c (Do-F.ForEach n e xs) = keeps c (repeats n e) && all_true xs
sound_step c (Do-F.Each n s xs) = is_of Node (type_among (locals_in c) n) && all_true xs

unfoldable pub is_sound : Scope → Stmt → Bool
is_sound c = fold-Stmt Bool Bool (sound_step c) (λ s. s.what)

abbrev pub are_sound : Scope → List Stmt → Bool
are_sound c ss = list_all (is_sound c) ss

abbrev pub layer_sound : Scope → Layer → Bool
layer_sound c (Do-F.Assign n e) = keeps c (does (assign n e))
layer_sound c (Do-F.If e xs ys) = keeps c (tests e) && (are_sound c xs && are_sound c (unwrap_or ys []))
layer_sound c (Do-F.Send e n xs) = keeps c (does (send e n xs))
layer_sound c (Do-F.SendAll e n xs) = keeps c (does (send_all e n xs))
layer_sound c (Do-F.SetTag t) = keeps c (does (set_tag t))
layer_sound c (Do-F.SetState n xs) = keeps c (does (set_state n xs))
layer_sound c (Do-F.Suspend l n xs p) = keeps c (does (suspend l n xs p))
layer_sound c (Do-F.Resume n) = keeps c (does (resume n))
layer_sound c Do-F.Install = keeps c (does install)
layer_sound c Do-F.Enqueue = keeps c (does enqueue)
layer_sound c Do-F.WakeUp = keeps c (does wake_up)
layer_sound c (Do-F.Error n) = keeps c (does (error n))
layer_sound c (Do-F.ForEach n e xs) = keeps c (repeats n e) && are_sound c xs
layer_sound c (Do-F.Each n s xs) = is_of Node (type_among (locals_in c) n) && are_sound c xs

by_layer : (c : Scope) (l : Layer) →
    sound_step c (map-Do Do Stmt Bool Bool (fold-Do Bool Bool (sound_step c) (λ s. s.what)) (is_sound c) l) ≡ layer_sound c l
unfolding is_sound
by_layer c (Do-F.If e xs None) = ap (λ b. keeps c (tests e) && (b && true)) (list_all-map (λ b. b) (is_sound c) xs)
by_layer c (Do-F.If e xs (Some ys)) =
    ap (λ b. keeps c (tests e) && (b && all_true (map (is_sound c) ys))) (list_all-map (λ b. b) (is_sound c) xs)
    ∙ ap (λ b. keeps c (tests e) && (are_sound c xs && b)) (list_all-map (λ b. b) (is_sound c) ys)
by_layer c (Do-F.ForEach n e xs) = ap (λ b. keeps c (repeats n e) && b) (list_all-map (λ b. b) (is_sound c) xs)
by_layer c (Do-F.Each n s xs) = ap (λ b. is_of Node (type_among (locals_in c) n) && b) (list_all-map (λ b. b) (is_sound c) xs)
by_layer c (Do-F.Assign n e) = refl
by_layer c (Do-F.Send e n xs) = refl
by_layer c (Do-F.SendAll e n xs) = refl
by_layer c (Do-F.SetTag t) = refl
by_layer c (Do-F.SetState n xs) = refl
by_layer c (Do-F.Suspend l n xs p) = refl
by_layer c (Do-F.Resume n) = refl
by_layer c Do-F.Install = refl
by_layer c Do-F.Enqueue = refl
by_layer c Do-F.WakeUp = refl
by_layer c (Do-F.Error n) = refl

pub sound-is : (c : Scope) (s : Stmt) → is_sound c s ≡ layer_sound c (what_of s)
unfolding is_sound
sound-is c s = fold_out-Stmt Bool Bool (sound_step c) (λ x. x.what) s
    ∙ (fold_out-Do Bool Bool (sound_step c) (λ x. x.what) s.what ∙ by_layer c (out-Do s.what))

-- a statement, by what it does
pub sound_at : (c : Scope) (s : Stmt) (l : Layer) → what_of s ≡ l → is_sound c s ≡ layer_sound c l
sound_at c s l e = sound-is c s ∙ ap (layer_sound c) e

pub sound_both : (c : Scope) (xs ys : List Stmt) → are_sound c xs ≡ true → are_sound c ys ≡ true → are_sound c (xs ++ ys) ≡ true
sound_both c xs ys e f = list_all-append (is_sound c) xs ys ∙ both _ _ e f

-- ---- from the text

layer_simple : (c : Scope) (a : Simple) → layer_sound c (do_of a) ≡ keeps c (does a)
layer_simple c (assign n e) = refl
layer_simple c (send e n xs) = refl
layer_simple c (send_all e n xs) = refl
layer_simple c (set_tag t) = refl
layer_simple c (set_state n xs) = refl
layer_simple c (suspend l n xs p) = refl
layer_simple c (resume n) = refl
layer_simple c install = refl
layer_simple c enqueue = refl
layer_simple c wake_up = refl
layer_simple c (error n) = refl

stmt_sound : (c : Scope) (line : ℕ) (l : Layer) → layer_sound c l ≡ true → is_sound c (stmt line l) ≡ true
stmt_sound c line l e = sound_at c (stmt line l) l (out-roll-Do l) ∙ e

abbrev pub all_keep : Scope → List Step → Bool
all_keep c steps = list_all (λ s. keeps c s.deed) steps

split : (c : Scope) (xs ys : List Step) → all_keep c (xs ++ ys) ≡ true → (all_keep c xs ≡ true) × (all_keep c ys ≡ true)
split c xs ys e =
    let f = sym (list_all-append (λ s. keeps c s.deed) xs ys) ∙ e in
    (first_of_both _ _ f, second_of_both _ _ f)

sound_tree : (c : Scope) (b : Body) → eaches b ≡ 0 → all_keep c (steps_in b) ≡ true → are_sound c (tree_of b) ≡ true
sound_tree c done n e = refl
sound_tree c (plain line a b) n e =
    both _ _ (stmt_sound c line (do_of a) (layer_simple c a ∙ first_of_both (keeps c (does a)) _ e))
    (sound_tree c b n (second_of_both (keeps c (does a)) _ e))
sound_tree c (branch line t x b) n e =
    let parts = split c (steps_in x) (steps_in b) (second_of_both (keeps c (tests t)) _ e) in
    both _ _ (stmt_sound c line (Do-F.If t (tree_of x) None)
    (both _ _ (first_of_both (keeps c (tests t)) _ e) (both _ _ (sound_tree c x (omega arith) parts.0) refl)))
    (sound_tree c b (omega arith) parts.1)
sound_tree c (branches line t x y b) n e =
    let parts = split c (steps_in x) (steps_in y ++ steps_in b) (second_of_both (keeps c (tests t)) _ e) in
    let more = split c (steps_in y) (steps_in b) parts.1 in
    both _ _ (stmt_sound c line (Do-F.If t (tree_of x) (Some (tree_of y)))
    (both _ _ (first_of_both (keeps c (tests t)) _ e) (both _ _ (sound_tree c x (omega arith) parts.0)
    (sound_tree c y (omega arith) more.0)))) (sound_tree c b (omega arith) more.1)
sound_tree c (loop line v t x b) n e =
    let parts = split c (steps_in x) (steps_in b) (second_of_both (keeps c (repeats v t)) _ e) in
    both _ _ (stmt_sound c line (Do-F.ForEach v t (tree_of x))
    (both _ _ (first_of_both (keeps c (repeats v t)) _ e) (sound_tree c x (omega arith) parts.0)))
    (sound_tree c b (omega arith) parts.1)
sound_tree c (each line v s x b) n e = absurd (omega arith)

-- ---- from the rules

abbrev Free : (Deed → Bool) → List Step → Type 0
Free f xs = (line : ℕ) → Any (λ (s : Step). (s.line ≡ line) × (f s.deed ≡ true)) xs → ⊥

head_free : (f : Deed → Bool) (s : Step) (xs : List Step) → Free f (s ∷ xs) → f s.deed ≡ false
head_free f s xs free = is_false (f s.deed) (λ e. free s.line (inl (refl, e)))

tail_free : (f : Deed → Bool) (s : Step) (xs : List Step) → Free f (s ∷ xs) → Free f xs
tail_free f s xs free = λ line a. free line (inr a)

kept_all : (c : Scope) (xs : List Step) → Free (uses_undeclared c) xs → Free (has_wrong_type c) xs →
    Free (has_wrong_count c) xs → Free (drops_cont c) xs → Free (lacks_data c) xs → all_keep c xs ≡ true
kept_all c [] u t n k d = refl
kept_all c (s ∷ xs) u t n k d =
    let declared = first_of_both (is_declared c s.deed) _ (un_not _ (head_free (uses_undeclared c) s xs u)) in
    let typed = un_not (is_typed c s.deed) (head_free (has_wrong_type c) s xs t) in
    let counted = un_not (is_counted c s.deed) (head_free (has_wrong_count c) s xs n) in
    let kept = not_true (drops_cont c s.deed) (head_free (drops_cont c) s xs k) in
    let carried = not_true (lacks_data c s.deed) (head_free (lacks_data c) s xs d) in
    both _ _ (both _ _ declared (both _ _ typed (both _ _ counted (both _ _ kept carried))))
    (kept_all c xs (tail_free _ s xs u) (tail_free _ s xs t) (tail_free _ s xs n) (tail_free _ s xs k) (tail_free _ s xs d))
  where
    un_not : (b : Bool) → not b ≡ false → b ≡ true
    un_not true e = refl
    un_not false e = cc

abbrev pub scope_of : Protocol → State → Handler → Scope
scope_of p t h = record { protocol = p; state = t; handler = h }

-- whatever breaks a rule in this handler breaks it in the protocol
pub in_handler : (p : Protocol) (t : State) (h : Handler) (P : Scope → Type 0) → Contains p.states t → Contains t.handlers h →
    P (scope_of p t h)
    → Any (λ (s : State). Any (λ (k : Handler). P (scope_of p s k)) s.handlers) p.states
in_handler p t h P c d x = any_at _ p.states t c (any_at _ t.handlers h d x)

pub sound_body : (p : Protocol) (t : State) (h : Handler) → IsAccepted p → Contains p.states t → Contains t.handlers h →
    are_sound (scope_of p t h) h.body ≡ true
sound_body p t h a i j =
    let c = scope_of p t h in
    let none : eaches (body_of h.body) ≡ 0 = each_at (λ (k : Handler). eaches (body_of k.body) ≡ 0) t.handlers h j
    (each_flat _ (λ (s : State). s.handlers) p.states t i a.tree.no_each) in
    let all : all_keep c (steps_in (body_of h.body)) ≡ true = kept_all c (steps_in (body_of h.body))
    (λ line x. a.keeps line Undeclared
    (inr (in_handler p t h (λ s. AtHandler (answers_undeclared p s.handler.on) s line ⊎ AtStep uses_undeclared s line) i j
    (inr x))))
    (λ line x. a.keeps line WrongType (in_handler p t h (λ s. AtStep has_wrong_type s line) i j x))
    (λ line x. a.keeps line ArgCount
    (inr (in_handler p t h (λ s. AtHandler (counts_wrongly p s.handler.on s.handler.args) s line
    ⊎ AtStep has_wrong_count s line) i j (inr x))))
    (λ line x. a.keeps line ContDropped (in_handler p t h (λ s. AtStep drops_cont s line) i j x))
    (λ line x. a.keeps line NoData (in_handler p t h (λ s. AtStep lacks_data s line) i j x)) in
    subst (λ ss. are_sound c ss ≡ true) (tree-body h.body) (sound_tree c (body_of h.body) none all)
