-- The table of errors does not look at lines.
use Rattle.std.proofs.Common.{◌≡◌, ◌∙◌, List, [], ◌∷◌, ◌++◌, Some, None, map, refl, ap, sym, subst}
use Rattle.std.specs.List.{flat_map, fold}
use Rattle.tw_base.specs.declared.name.Name.{Name}
use Rattle.teapot_tree.specs.declared.protocol.Handler.{Handler}
use Rattle.teapot_tree.specs.declared.protocol.Protocol.{Protocol}
use Rattle.teapot_tree.specs.declared.protocol.State.{State}
use Rattle.teapot_tree.specs.declared.stmt.Do.{Do, roll-Do, fold-Do, fold-roll-Do, map-Do}
use Rattle.teapot_tree.specs.declared.stmt.Do.TheOpen.{Do-F, Stmt-F}
use Rattle.teapot_tree.specs.declared.stmt.Stmt.{Stmt, fold_out-Stmt, roll-Stmt, ind-Stmt, map-Stmt}
use Rattle.teapot_tree.specs.Bare.{bare, bare_do, bare_handler, bare_protocol, bare_state}
use Rattle.teapot_meaning.specs.Names.{error_names, errors_in, errors_of, errors_step, joined, noted, state_errors}

abbrev of_do : Do → List Name
of_do = fold-Do (List Name) (List Name) errors_step (λ s. s.what)

abbrev SameDo : Do → Type 0
SameDo d = of_do (bare_do d) ≡ of_do d

abbrev SameStmt : Stmt → Type 0
SameStmt s = errors_of (bare s) ≡ errors_of s

abbrev DoPart : Type 0
DoPart = (d : Do) × SameDo d

abbrev StmtPart : Type 0
StmtPart = (s : Stmt) × SameStmt s

abbrev whole_of : Do-F DoPart StmtPart → Do-F Do Stmt
whole_of = map-Do DoPart StmtPart Do Stmt (λ p. p.0) (λ p. p.0)

errors-out : (s : Stmt) → errors_of s ≡ of_do s.what
unfolding errors_of
errors-out s = fold_out-Stmt (List Name) (List Name) errors_step (λ x. x.what) s

bare-out : (s : Stmt) → bare s ≡ record { what = bare_do s.what; line = 0 }
unfolding bare bare_do
bare-out s = fold_out-Stmt Do Stmt roll-Do (λ x. record { what = x.what; line = 0 }) s

do-roll : (l : Do-F Do Stmt) → of_do (roll-Do l) ≡ errors_step (map-Do Do Stmt (List Name) (List Name) of_do errors_of l)
unfolding errors_of
do-roll l = fold-roll-Do (List Name) (List Name) errors_step (λ x. x.what) l

bare-roll : (l : Do-F Do Stmt) → bare_do (roll-Do l) ≡ roll-Do (map-Do Do Stmt Do Stmt bare_do bare l)
unfolding bare bare_do
bare-roll l = fold-roll-Do Do Stmt roll-Do (λ x. record { what = x.what; line = 0 }) l

parts : (ps : List StmtPart) → joined (map errors_of (map bare (map (λ p. p.0) ps))) ≡ joined (map errors_of (map (λ p. p.0) ps))
parts [] = refl
parts (p ∷ ps) = ap (λ ns. ns ++ joined (map errors_of (map bare (map (λ q. q.0) ps)))) p.1
    ∙ ap (λ ns. errors_of p.0 ++ ns) (parts ps)

by_layer : (y : Do-F DoPart StmtPart) →
    errors_step (map-Do Do Stmt (List Name) (List Name) of_do errors_of (map-Do Do Stmt Do Stmt bare_do bare (whole_of y)))
    ≡ errors_step (map-Do Do Stmt (List Name) (List Name) of_do errors_of (whole_of y))
by_layer (Do-F.If e xs None) = ap (λ ns. ns ++ []) (parts xs)
by_layer (Do-F.If e xs (Some ys)) = ap (λ ns. ns ++ joined (map errors_of (map bare (map (λ p. p.0) ys)))) (parts xs)
    ∙ ap (λ ns. joined (map errors_of (map (λ p. p.0) xs)) ++ ns) (parts ys)
by_layer (Do-F.ForEach n e xs) = parts xs
by_layer (Do-F.Each n s xs) = parts xs
by_layer (Do-F.Assign n e) = refl
by_layer (Do-F.Send e n xs) = refl
by_layer (Do-F.SendAll e n xs) = refl
by_layer (Do-F.SetTag t) = refl
by_layer (Do-F.SetState n xs) = refl
by_layer (Do-F.Suspend l n xs p) = refl
by_layer (Do-F.Resume n) = refl
by_layer Do-F.Install = refl
by_layer Do-F.Enqueue = refl
by_layer Do-F.WakeUp = refl
by_layer (Do-F.Error n) = refl

do_level : (y : Do-F DoPart StmtPart) → SameDo (roll-Do (whole_of y))
do_level y = ap of_do (bare-roll (whole_of y)) ∙ (do-roll (map-Do Do Stmt Do Stmt bare_do bare (whole_of y))
    ∙ (by_layer y ∙ sym (do-roll (whole_of y))))

stmt_level : (y : Stmt-F DoPart StmtPart) → SameStmt (roll-Stmt (map-Stmt DoPart StmtPart Do Stmt (λ p. p.0) (λ p. p.0) y))
stmt_level y =
    let s = roll-Stmt (map-Stmt DoPart StmtPart Do Stmt (λ p. p.0) (λ p. p.0) y) in
    ap errors_of (bare-out s) ∙ (errors-out (record { what = bare_do s.what; line = 0 }) ∙ (y.what.1 ∙ sym (errors-out s)))

pub errors-bare : (s : Stmt) → errors_of (bare s) ≡ errors_of s
errors-bare = ind-Stmt SameDo SameStmt (λ x y is. subst (λ z. SameDo (roll-Do z)) is (do_level y))
    (λ x y is. subst (λ z. SameStmt (roll-Stmt z)) is (stmt_level y))

flat_bare : {X Y : Type 0} (f : X → Y) (g : Y → List Name) (h : X → List Name) → ((x : X) → g (f x) ≡ h x) → (xs : List X) →
    flat_map g (map f xs) ≡ flat_map h xs
flat_bare f g h e [] = refl
flat_bare f g h e (x ∷ xs) = ap (λ ns. ns ++ flat_map g (map f xs)) (e x) ∙ ap (λ ns. h x ++ ns) (flat_bare f g h e xs)

pub error_names-bare : (p : Protocol) → error_names (bare_protocol p) ≡ error_names p
unfolding error_names
error_names-bare p =
    let body : (h : Handler) → errors_in (bare_handler h).body ≡ errors_in h.body =
    λ h. flat_bare bare errors_of errors_of errors-bare h.body in
    let state : (s : State) → state_errors (bare_state s) ≡ state_errors s =
    λ s. flat_bare bare_handler (λ h. errors_in h.body) (λ h. errors_in h.body) body s.handlers in
    ap (fold noted []) (flat_bare bare_state state_errors state_errors state p.states)
