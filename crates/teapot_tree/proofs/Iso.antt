-- Lists of statements and bodies are the same, written in two ways.
use Rattle.std.proofs.Common.{◌≡◌, ℕ, List, [], ◌∷◌, map, Some, None, refl, ap, sym, ◌∙◌, subst}
use Rattle.teapot_tree.specs.declared.stmt.Stmt.{Stmt, fold_out-Stmt, roll-Stmt, ind-Stmt, map-Stmt}
use Rattle.teapot_tree.specs.declared.stmt.Do.{Do, fold-Do, roll-Do, fold-roll-Do, map-Do}
use Rattle.teapot_tree.specs.declared.stmt.Do.TheOpen.{Do-F, Stmt-F}
use Rattle.teapot_tree.specs.Bodies.{Simple, assign, send, send_all, set_tag, set_state, suspend, resume, install, enqueue}
use Rattle.teapot_tree.specs.Bodies.{wake_up, error, Body, done, plain, branch, branches, loop, each, before_all, put_step, put}
use Rattle.teapot_tree.specs.Bodies.{body_on, body_of, do_of, stmt, tree_of}

abbrev pub Put : Type 0
Put = Body → Body

abbrev pub PutAt : Type 0
PutAt = ℕ → Body → Body

abbrev pub put_do : Do → PutAt
put_do = fold-Do PutAt Put put_step (λ s. s.what s.line)

put_do-roll : (d : Do-F Do Stmt) → put_do (roll-Do d) ≡ put_step (map-Do Do Stmt PutAt Put put_do put d)
unfolding put
put_do-roll d = fold-roll-Do PutAt Put put_step (λ s. s.what s.line) d

put-out : (s : Stmt) → put s ≡ put_do s.what s.line
unfolding put
put-out s = fold_out-Stmt PutAt Put put_step (λ s. s.what s.line) s

put-is : (line : ℕ) (d : Do-F Do Stmt) (b : Body) → put (stmt line d) b ≡ put_step (map-Do Do Stmt PutAt Put put_do put d) line b
put-is line d b = ap (λ (g : Put). g b) (put-out (stmt line d)) ∙ ap (λ (g : PutAt). g line b) (put_do-roll d)

pub before-is : (ss : List Stmt) (b : Body) → before_all (map put ss) b ≡ body_on ss b
before-is [] b = refl
before-is (s ∷ ss) b = ap (put s) (before-is ss b)

-- a statement before others, by what it does
pub put-layer : (s : Stmt) (l : Do-F Do Stmt) (b : Body) → roll-Do l ≡ s.what →
    put s b ≡ put_step (map-Do Do Stmt (ℕ → Body → Body) (Body → Body) put_do put l) s.line b
put-layer s l b e = ap (λ (g : Put). g b) (put-out s) ∙ ap (λ w. put_do w s.line b) (sym e)
    ∙ ap (λ (g : PutAt). g s.line b) (put_do-roll l)

-- ---- a body, as statements, as a body

simple-put : (line : ℕ) (s : Simple) (b : Body) → put_step (map-Do Do Stmt PutAt Put put_do put (do_of s)) line b ≡ plain line s b
simple-put line (assign n e) b = refl
simple-put line (send e n xs) b = refl
simple-put line (set_state n xs) b = refl
simple-put line (suspend l n xs p) b = refl
simple-put line (send_all e n xs) b = refl
simple-put line (set_tag t) b = refl
simple-put line (resume n) b = refl
simple-put line install b = refl
simple-put line enqueue b = refl
simple-put line wake_up b = refl
simple-put line (error n) b = refl

pub body-tree : (b : Body) → body_of (tree_of b) ≡ b
body-tree done = refl
body-tree (plain line s b) = put-is line (do_of s) (body_of (tree_of b)) ∙ simple-put line s (body_of (tree_of b))
    ∙ ap (plain line s) (body-tree b)
body-tree (branch line e x b) =
    put-is line (Do-F.If e (tree_of x) None) (body_of (tree_of b))
    ∙ ap (λ z. branch line e z (body_of (tree_of b))) (before-is (tree_of x) done ∙ body-tree x)
    ∙ ap (branch line e x) (body-tree b)
body-tree (branches line e x y b) =
    put-is line (Do-F.If e (tree_of x) (Some (tree_of y))) (body_of (tree_of b))
    ∙ ap (λ z. branches line e z (before_all (map put (tree_of y)) done) (body_of (tree_of b)))
    (before-is (tree_of x) done ∙ body-tree x)
    ∙ ap (λ z. branches line e x z (body_of (tree_of b))) (before-is (tree_of y) done ∙ body-tree y)
    ∙ ap (branches line e x y) (body-tree b)
body-tree (loop line n e x b) =
    put-is line (Do-F.ForEach n e (tree_of x)) (body_of (tree_of b))
    ∙ ap (λ z. loop line n e z (body_of (tree_of b))) (before-is (tree_of x) done ∙ body-tree x)
    ∙ ap (loop line n e x) (body-tree b)
body-tree (each line n s x b) =
    put-is line (Do-F.Each n s (tree_of x)) (body_of (tree_of b))
    ∙ ap (λ z. each line n s z (body_of (tree_of b))) (before-is (tree_of x) done ∙ body-tree x)
    ∙ ap (each line n s x) (body-tree b)

-- ---- statements, as a body, as statements

abbrev PutsDo : Do → Type 0
PutsDo d = (line : ℕ) (b : Body) → tree_of (put_do d line b) ≡ record { what = d; line = line } ∷ tree_of b

abbrev Puts : Stmt → Type 0
Puts s = (b : Body) → tree_of (put s b) ≡ s ∷ tree_of b

abbrev DoPart : Type 0
DoPart = (d : Do) × PutsDo d

abbrev StmtPart : Type 0
StmtPart = (s : Stmt) × Puts s

abbrev whole_of : Do-F DoPart StmtPart → Do-F Do Stmt
whole_of = map-Do DoPart StmtPart Do Stmt (λ p. p.0) (λ p. p.0)

parts : (ps : List StmtPart) → tree_of (before_all (map put (map (λ p. p.0) ps)) done) ≡ map (λ p. p.0) ps
parts [] = refl
parts (p ∷ ps) = p.1 (before_all (map put (map (λ p. p.0) ps)) done) ∙ ap (λ ss. p.0 ∷ ss) (parts ps)

by_layer : (y : Do-F DoPart StmtPart) (line : ℕ) (b : Body) →
    tree_of (put_step (map-Do Do Stmt PutAt Put put_do put (whole_of y)) line b) ≡ stmt line (whole_of y) ∷ tree_of b
by_layer (Do-F.Assign n e) line b = refl
by_layer (Do-F.If e xs None) line b = ap (λ ss. stmt line (Do-F.If e ss None) ∷ tree_of b) (parts xs)
by_layer (Do-F.If e xs (Some ys)) line b =
    ap (λ ss. stmt line (Do-F.If e ss (Some (tree_of (before_all (map put (map (λ p. p.0) ys)) done)))) ∷ tree_of b) (parts xs)
    ∙ ap (λ ss. stmt line (Do-F.If e (map (λ p. p.0) xs) (Some ss)) ∷ tree_of b) (parts ys)
by_layer (Do-F.Send e n xs) line b = refl
by_layer (Do-F.SetState n xs) line b = refl
by_layer (Do-F.Suspend l n xs p) line b = refl
by_layer (Do-F.SendAll e n xs) line b = refl
by_layer (Do-F.SetTag t) line b = refl
by_layer (Do-F.Resume n) line b = refl
by_layer Do-F.Install line b = refl
by_layer Do-F.Enqueue line b = refl
by_layer Do-F.WakeUp line b = refl
by_layer (Do-F.Error n) line b = refl
by_layer (Do-F.ForEach n e xs) line b = ap (λ ss. stmt line (Do-F.ForEach n e ss) ∷ tree_of b) (parts xs)
by_layer (Do-F.Each n s xs) line b = ap (λ ss. stmt line (Do-F.Each n s ss) ∷ tree_of b) (parts xs)

do_level : (y : Do-F DoPart StmtPart) → PutsDo (roll-Do (whole_of y))
do_level y line b = ap (λ (g : PutAt). tree_of (g line b)) (put_do-roll (whole_of y)) ∙ by_layer y line b

stmt_level : (y : Stmt-F DoPart StmtPart) → Puts (roll-Stmt (map-Stmt DoPart StmtPart Do Stmt (λ p. p.0) (λ p. p.0) y))
stmt_level y b =
    ap (λ (g : Put). tree_of (g b)) (put-out (roll-Stmt (map-Stmt DoPart StmtPart Do Stmt (λ p. p.0) (λ p. p.0) y)))
    ∙ y.what.1 y.line b

puts : (s : Stmt) → Puts s
puts = ind-Stmt PutsDo Puts (λ x y is. subst (λ z. PutsDo (roll-Do z)) is (do_level y))
    (λ x y is. subst (λ z. Puts (roll-Stmt z)) is (stmt_level y))

pub tree-body : (ss : List Stmt) → tree_of (body_of ss) ≡ ss
tree-body [] = refl
tree-body (s ∷ ss) = puts s (body_of ss) ∙ ap (λ ts. s ∷ ts) (tree-body ss)
