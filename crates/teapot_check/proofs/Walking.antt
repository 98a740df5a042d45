-- The walk over a list of statements, a statement at a time.
use Rattle.std.proofs.Common.{◌≡◌, ℕ, ◌+◌, ◌<◌, ◌≤◌, nat_lt, Bool, true, List, [], ◌++◌, drop, length, get_or, Option, Some}
use Rattle.std.proofs.Common.{None, refl, ap, sym, ◌∙◌, subst}
use Rattle.std.specs.Prelude.{◌||◌}
use Rattle.std.proofs.Math.ListN.{drop_of_length-le}
use Rattle.std.proofs.lemmas.List.{append-nil}
use Rattle.tw_base.specs.declared.name.Name.{Name}
use Rattle.teapot_tree.specs.declared.expr.Expr.{Expr}
use Rattle.teapot_tree.specs.declared.stmt.Do.{Do}
use Rattle.teapot_tree.specs.declared.stmt.Do.TheOpen.{Do-F}
use Rattle.teapot_tree.specs.declared.stmt.Stmt.{Stmt}
use Rattle.teapot_tree.specs.Bodies.{assign, send, send_all, set_tag, set_state, suspend, resume, install, enqueue, wake_up}
use Rattle.teapot_tree.specs.Bodies.{error, body_of}
use Rattle.teapot_tree.specs.Paths.{Deed, does, tests, repeats, goes_on}
use Rattle.teapot_rules.specs.Deeds.{deed_step}
use Rattle.teapot_rules.specs.Lists.{line_if, lesser, least}
use Rattle.teapot_rules.specs.Stmts.{layer_body, stmt_body}
use Rattle.teapot_rules.specs.Walks.{meets, walk}
use Rattle.teapot_rules.proofs.Appending.{lesser-assoc, lesser-none}
use Rattle.teapot_rules.proofs.Stepping.{walk_step, walk_branch, walk_branches, walk_loop}

module _ (one : Deed → Bool) (test : Bool → Bool → Deed → Bool) (ss : List Stmt) (i : ℕ) (s : Stmt) (had more : Bool) where
  -- what was found so far, with one statement more
  pub walk_more : (due found here : Option ℕ) → i < length ss → s ≡ get_or ss i s
      → due ≡ lesser found (least (walk one test (body_of (drop i ss)) had more))
      → here ≡ least (walk one test (stmt_body s) had (nat_lt (i + 1) (length ss) || more))
      → due ≡ lesser (lesser found here) (least (walk one test (body_of (drop (i + 1) ss)) (had || meets one (stmt_body s)) more))
  walk_more due found here lt is e h =
      e
      ∙ ap (lesser found) (walk_step one test ss i s had more lt is)
      ∙ sym (lesser-assoc found (least (walk one test (stmt_body s) had (nat_lt (i + 1) (length ss) || more)))
      (least (walk one test (body_of (drop (i + 1) ss)) (had || meets one (stmt_body s)) more)))
      ∙ ap (λ z. lesser (lesser found z)
      (least (walk one test (body_of (drop (i + 1) ss)) (had || meets one (stmt_body s)) more))) (sym h)

  pub walk_end : (due found : Option ℕ) → length ss ≤ i → due
      ≡ lesser found (least (walk one test (body_of (drop i ss)) had more)) → found ≡ due
  walk_end due found le e =
      sym (e ∙ ap (λ z. lesser found (least (walk one test (body_of z) had more))) (drop_of_length-le ss le)
      ∙ lesser-none found)

-- ---- one statement, by its kind

plain-nil : (xs : List ℕ) → least xs ≡ least (xs ++ [])
plain-nil xs = ap least (sym (append-nil xs))

module _ (one : Deed → Bool) (test : Bool → Bool → Deed → Bool) (line : ℕ) (had more : Bool) where
  abbrev Own : Do-F Do Stmt → Option ℕ → Type 0
  Own l own = own ≡ least (line_if (test had more (deed_step l)) line)

  abbrev Due : Do-F Do Stmt → Option ℕ → Type 0
  Due l found = found ≡ least (walk one test (layer_body line l) had more)

  if-none : (e : Expr) (xs : List Stmt) (own first : Option ℕ) → Own (Do-F.If e xs None) own →
      first ≡ least (walk one test (body_of xs) (had || one (tests e)) more) → Due (Do-F.If e xs None) (lesser own first)
  if-none e xs own first o f = let w = walk_branch one test line e (body_of xs) had more in cc

  if-some : (e : Expr) (xs ys : List Stmt) (own first second : Option ℕ) → Own (Do-F.If e xs (Some ys)) own
      → first ≡ least (walk one test (body_of xs) (had || one (tests e)) more) →
      second ≡ least (walk one test (body_of ys) (had || one (tests e)) more)
      → Due (Do-F.If e xs (Some ys)) (lesser own (lesser first second))
  if-some e xs ys own first second o f s = let w = walk_branches one test line e (body_of xs) (body_of ys) had more in cc

  for-each : (v : Name) (e : Expr) (xs : List Stmt) (own inner : Option ℕ) → Own (Do-F.ForEach v e xs) own
      → inner ≡ least (walk one test (body_of xs) (had || one (repeats v e) || meets one (body_of xs)) true) →
      Due (Do-F.ForEach v e xs) (lesser own inner)
  for-each v e xs own inner o f = let w = walk_loop one test line v e (body_of xs) had more in cc

  pub walk_if : (l : Do-F Do Stmt) (e : Expr) (xs : List Stmt) (own first : Option ℕ) → l ≡ Do-F.If e xs None → Own l own →
      first ≡ least (walk one test (body_of xs) (had || one (deed_step l)) more) → Due l (lesser own first)
  walk_if l e xs own first is = subst (λ z. Own z own → first
      ≡ least (walk one test (body_of xs) (had || one (deed_step z)) more) → Due z (lesser own first)) (sym is)
      (if-none e xs own first)

  pub walk_if_else : (l : Do-F Do Stmt) (e : Expr) (xs ys : List Stmt) (own first second : Option ℕ) →
      l ≡ Do-F.If e xs (Some ys) → Own l own
      → first ≡ least (walk one test (body_of xs) (had || one (deed_step l)) more) →
      second ≡ least (walk one test (body_of ys) (had || one (deed_step l)) more) → Due l (lesser own (lesser first second))
  walk_if_else l e xs ys own first second is =
      subst (λ z. Own z own → first ≡ least (walk one test (body_of xs) (had || one (deed_step z)) more) →
      second ≡ least (walk one test (body_of ys) (had || one (deed_step z)) more) →
      Due z (lesser own (lesser first second)))
      (sym is) (if-some e xs ys own first second)

  pub walk_for_each : (l : Do-F Do Stmt) (v : Name) (e : Expr) (xs : List Stmt) (own inner : Option ℕ) →
      l ≡ Do-F.ForEach v e xs → Own l own
      → inner ≡ least (walk one test (body_of xs) (had || one (deed_step l) || meets one (body_of xs)) true) →
      Due l (lesser own inner)
  walk_for_each l v e xs own inner is =
      subst (λ z. Own z own →
      inner ≡ least (walk one test (body_of xs) (had || one (deed_step z) || meets one (body_of xs)) true) →
      Due z (lesser own inner)) (sym is) (for-each v e xs own inner)

  -- a statement that holds no others, or a loop on its way
  pub walk_plain : (l : Do-F Do Stmt) (own : Option ℕ) → ((e : Expr) (xs : List Stmt) (o : Option (List Stmt)) →
      l ≡ Do-F.If e xs o → ⊥) → ((v : Name) (e : Expr) (xs : List Stmt) → l ≡ Do-F.ForEach v e xs → ⊥) → Own l own → Due l own
  walk_plain (Do-F.Assign n e) own not_if not_each o = o ∙ plain-nil (line_if (test had more (does (assign n e))) line)
  walk_plain (Do-F.If e xs u) own not_if not_each o = absurd (not_if e xs u refl)
  walk_plain (Do-F.Send e n xs) own not_if not_each o = o ∙ plain-nil (line_if (test had more (does (send e n xs))) line)
  walk_plain (Do-F.SendAll e n xs) own not_if not_each o = o ∙ plain-nil (line_if (test had more (does (send_all e n xs))) line)
  walk_plain (Do-F.SetTag t) own not_if not_each o = o ∙ plain-nil (line_if (test had more (does (set_tag t))) line)
  walk_plain (Do-F.SetState n xs) own not_if not_each o = o ∙ plain-nil (line_if (test had more (does (set_state n xs))) line)
  walk_plain (Do-F.Suspend k n xs p) own not_if not_each o = o
      ∙ plain-nil (line_if (test had more (does (suspend k n xs p))) line)
  walk_plain (Do-F.Resume n) own not_if not_each o = o ∙ plain-nil (line_if (test had more (does (resume n))) line)
  walk_plain Do-F.Install own not_if not_each o = o ∙ plain-nil (line_if (test had more (does install)) line)
  walk_plain Do-F.Enqueue own not_if not_each o = o ∙ plain-nil (line_if (test had more (does enqueue)) line)
  walk_plain Do-F.WakeUp own not_if not_each o = o ∙ plain-nil (line_if (test had more (does wake_up)) line)
  walk_plain (Do-F.Error n) own not_if not_each o = o ∙ plain-nil (line_if (test had more (does (error n))) line)
  walk_plain (Do-F.ForEach v e xs) own not_if not_each o = absurd (not_each v e xs refl)
  walk_plain (Do-F.Each n s xs) own not_if not_each o = o ∙ plain-nil (line_if (test had more goes_on) line)
