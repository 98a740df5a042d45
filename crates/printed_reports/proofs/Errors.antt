-- The names of errors are names of the tree.
use Rattle.std.proofs.Common.{◌≡◌, ℕ, Bool, true, false, cond, List, [], ◌∷◌, ◌++◌, map, Some, None, refl, sym, ap, ◌∙◌, subst}
use Rattle.std.specs.List.{flat_map, fold, list_any}
use Rattle.std.specs.Str.{bytes_eq}
use Rattle.tw_base.specs.Lists.{Each}
use Rattle.tw_base.specs.declared.name.Name.{Name}
use Rattle.teapot_tree.specs.declared.protocol.Handler.{Handler}
use Rattle.teapot_tree.specs.declared.protocol.Param.{Param}
use Rattle.teapot_tree.specs.declared.protocol.Protocol.{Protocol}
use Rattle.teapot_tree.specs.declared.protocol.State.{State}
use Rattle.teapot_tree.specs.declared.stmt.Do.{Do, fold-Do, fold-roll-Do, map-Do}
use Rattle.teapot_tree.specs.declared.stmt.Do.TheOpen.{Do-F}
use Rattle.teapot_tree.specs.declared.stmt.Stmt.{Stmt, fold_out-Stmt}
use Rattle.teapot_tree.specs.Bodies.{Simple, assign, send, send_all, set_tag, set_state, suspend, resume, install, enqueue}
use Rattle.teapot_tree.specs.Bodies.{wake_up, error, Body, done, plain, branch, branches, loop, each, body_of, do_of, stmt}
use Rattle.teapot_tree.specs.Bodies.{tree_of}
use Rattle.teapot_tree.specs.Parts.{exprs_of, handler_names, names_in, names_of, option_words, simple_words, state_names}
use Rattle.teapot_tree.specs.Parts.{trigger_words, words_in}
use Rattle.teapot_tree.proofs.Iso.{tree-body}
use Rattle.teapot_meaning.specs.Names.{error_names, errors_in, errors_of, errors_step, joined, noted, state_errors}
use Rattle.teapot_meaning.proofs.Found.{each_both, each_left, each_right}

-- the errors of what a statement does, made from those of its parts
abbrev pub of_do : Do → List Name
of_do = fold-Do (List Name) (List Name) errors_step (λ s. s.what)

pub joined-map : (ss : List Stmt) → joined (map errors_of ss) ≡ errors_in ss
joined-map [] = refl
joined-map (s ∷ ss) = ap (λ names. errors_of s ++ names) (joined-map ss)

module _ (P : Name → Type 0) where
  errors-of-stmt : (line : ℕ) (d : Do-F Do Stmt) → errors_of (stmt line d) ≡ errors_step
      (map-Do Do Stmt (List Name) (List Name) of_do errors_of d)
  unfolding errors_of
  errors-of-stmt line d = fold_out-Stmt (List Name) (List Name) errors_step (λ x. x.what) (stmt line d)
      ∙ fold-roll-Do (List Name) (List Name) errors_step (λ x. x.what) d

  simple-errors : (s : Simple) → Each P (simple_words s)
      → Each P (errors_step (map-Do Do Stmt (List Name) (List Name) of_do errors_of (do_of s)))
  simple-errors (assign n e) h = tt
  simple-errors (send e n xs) h = tt
  simple-errors (send_all e n xs) h = tt
  simple-errors (set_tag t) h = tt
  simple-errors (set_state n xs) h = tt
  simple-errors (suspend l n xs q) h = tt
  simple-errors (resume n) h = tt
  simple-errors install h = tt
  simple-errors enqueue h = tt
  simple-errors wake_up h = tt
  simple-errors (error n) h = h

  -- the errors of a statement and of those behind it
  before : (line : ℕ) (d : Do-F Do Stmt) (rest : List Stmt)
      → Each P (errors_step (map-Do Do Stmt (List Name) (List Name) of_do errors_of d)) → Each P (errors_in rest)
      → Each P (errors_in (stmt line d ∷ rest))
  before line d rest h k = each_both P (errors_of (stmt line d)) (errors_in rest)
      (subst (Each P) (sym (errors-of-stmt line d)) h) k

  inside : (ss : List Stmt) → Each P (errors_in ss) → Each P (joined (map errors_of ss))
  inside ss h = subst (Each P) (sym (joined-map ss)) h

  body-errors : (b : Body) → Each P (words_in b) → Each P (errors_in (tree_of b))
  body-errors done h = tt
  body-errors (plain line s b) h =
      before line (do_of s) (tree_of b) (simple-errors s (each_left P (simple_words s) (words_in b) h))
      (body-errors b (each_right P (simple_words s) (words_in b) h))
  body-errors (branch line e x b) h =
      let first = inside (tree_of x) (body-errors x (each_left P (words_in x) (words_in b) h)) in
      before line (Do-F.If e (tree_of x) None) (tree_of b) (each_both P (joined (map errors_of (tree_of x))) [] first tt)
      (body-errors b (each_right P (words_in x) (words_in b) h))
  body-errors (branches line e x y b) h =
      let more = each_right P (words_in x) (words_in y ++ words_in b) h in
      let first = inside (tree_of x) (body-errors x (each_left P (words_in x) (words_in y ++ words_in b) h)) in
      let second = inside (tree_of y) (body-errors y (each_left P (words_in y) (words_in b) more)) in
      before line (Do-F.If e (tree_of x) (Some (tree_of y))) (tree_of b) (each_both P (joined (map errors_of (tree_of x)))
      (joined (map errors_of (tree_of y))) first second)
      (body-errors b (each_right P (words_in y) (words_in b) more))
  body-errors (loop line n e x b) (name, h) =
      before line (Do-F.ForEach n e (tree_of x)) (tree_of b)
      (inside (tree_of x) (body-errors x (each_left P (words_in x) (words_in b) h)))
      (body-errors b (each_right P (words_in x) (words_in b) h))
  body-errors (each line n s x b) (name, h) =
      before line (Do-F.Each n s (tree_of x)) (tree_of b)
      (inside (tree_of x) (body-errors x (each_left P (words_in x) (words_in b) h)))
      (body-errors b (each_right P (words_in x) (words_in b) h))

  handler-errors : (h : Handler) → Each P (handler_names h) → Each P (errors_in h.body)
  handler-errors h names =
      let b = body_of h.body in
      let locals = map (λ (a : Param). a.name) h.locals in
      let exprs = flat_map names_in (exprs_of h) in
      let r1 = each_right P (trigger_words h.on) (h.args ++ (locals ++ (words_in b ++ exprs))) names in
      let r2 = each_right P h.args (locals ++ (words_in b ++ exprs)) r1 in
      let r3 = each_right P locals (words_in b ++ exprs) r2 in
      subst (λ ss. Each P (errors_in ss)) (tree-body h.body) (body-errors b (each_left P (words_in b) exprs r3))

  -- what holds of what each is made of
  flat-both : {X : Type 0} (f g : X → List Name) → ((x : X) → Each P (f x) → Each P (g x)) → (xs : List X)
      → Each P (flat_map f xs) → Each P (flat_map g xs)
  flat-both f g go [] h = tt
  flat-both f g go (x ∷ xs) h =
      each_both P (g x) (flat_map g xs) (go x (each_left P (f x) (flat_map f xs) h))
      (flat-both f g go xs (each_right P (f x) (flat_map f xs) h))

  state-errors : (s : State) → Each P (state_names s) → Each P (state_errors s)
  state-errors s (name, names) =
      let params = map (λ (a : Param). a.name) s.params in
      let r1 = each_right P params (option_words s.cont ++ flat_map handler_names s.handlers) names in
      flat-both handler_names (λ h. errors_in h.body) handler-errors s.handlers
      (each_right P (option_words s.cont) (flat_map handler_names s.handlers) r1)

  noted-each : (names : List Name) (name : Name) → Each P names → P name → Each P (noted names name)
  noted-each names name h k = by (list_any (λ n. bytes_eq n name) names)
    where
      by : (v : Bool) → Each P (cond v names (names ++ name ∷ []))
      by true = h
      by false = each_both P names (name ∷ []) h (k, tt)

  fold-each : (more names : List Name) → Each P names → Each P more → Each P (fold noted names more)
  fold-each [] names h k = h
  fold-each (name ∷ more) names h (k, ks) = fold-each more (noted names name) (noted-each names name h k) ks

  -- what holds of each name of the tree holds of each error's name
  pub error-names : (p : Protocol) → Each P (names_of p) → Each P (error_names p)
  unfolding error_names
  error-names p (name, names) =
      let r1 = each_right P (map (λ m. m.name) p.messages) _ names in
      let r2 = each_right P (map (λ a. a.name) p.infos) _ r1 in
      let r3 = each_right P (map (λ s. s.state) p.starts) _ r2 in
      fold-each (flat_map state_errors p.states) [] tt (flat-both state_names state_errors state-errors p.states r3)
