-- Lists of statements as plain data.
use Rattle.std.specs.Prelude.{ℕ, Bool, List, [], ◌∷◌, Some, None}
use Rattle.tw_base.specs.declared.name.Name.{Name}
use Rattle.tw_base.specs.declared.value.Tag.{Tag}
use Rattle.teapot_tree.specs.declared.expr.Expr.{Expr}
use Rattle.teapot_tree.specs.declared.stmt.Stmt.{Stmt, fold-Stmt}
use Rattle.teapot_tree.specs.declared.stmt.Do.{Do, roll-Do}
use Rattle.teapot_tree.specs.declared.stmt.Do.TheOpen.{Do-F}

-- a statement that holds no other
pub data Simple : Type 0 where
  assign : Name → Expr → Simple
  send : Expr → Name → List Expr → Simple
  send_all : Expr → Name → List Expr → Simple
  set_tag : Tag → Simple
  set_state : Name → List Expr → Simple
  suspend : Name → Name → List Expr → Name → Simple
  resume : Name → Simple
  install : Simple
  enqueue : Simple
  wake_up : Simple
  error : Name → Simple

-- statements, each with its line: none, or the first and those after it. An If is a branch where it has no Else
pub data Body : Type 0 where
  done : Body
  plain : ℕ → Simple → Body → Body
  branch : ℕ → Expr → Body → Body → Body
  branches : ℕ → Expr → Body → Body → Body → Body
  loop : ℕ → Name → Expr → Body → Body → Body
  each : ℕ → Name → List Bool → Body → Body → Body

-- ---- statements as a body

abbrev pub before_all : List (Body → Body) → Body → Body
before_all [] b = b
before_all (g ∷ gs) b = g (before_all gs b)

abbrev pub put_step : Do-F (ℕ → Body → Body) (Body → Body) → ℕ → Body → Body
put_step (Do-F.Assign n e) line b = plain line (assign n e) b
put_step (Do-F.If e xs None) line b = branch line e (before_all xs done) b
put_step (Do-F.If e xs (Some ys)) line b = branches line e (before_all xs done) (before_all ys done) b
put_step (Do-F.Send e n xs) line b = plain line (send e n xs) b
put_step (Do-F.SendAll e n xs) line b = plain line (send_all e n xs) b
put_step (Do-F.SetTag t) line b = plain line (set_tag t) b
put_step (Do-F.SetState n xs) line b = plain line (set_state n xs) b
put_step (Do-F.Suspend l n xs p) line b = plain line (suspend l n xs p) b
put_step (Do-F.Resume n) line b = plain line (resume n) b
put_step Do-F.Install line b = plain line install b
put_step Do-F.Enqueue line b = plain line enqueue b
put_step Do-F.WakeUp line b = plain line wake_up b
put_step (Do-F.Error n) line b = plain line (error n) b
put_step (Do-F.ForEach n e xs) line b = loop line n e (before_all xs done) b
put_step (Do-F.Each n s xs) line b = each line n s (before_all xs done) b

-- a statement before others
unfoldable pub put : Stmt → Body → Body
put = fold-Stmt (ℕ → Body → Body) (Body → Body) put_step (λ s. s.what s.line)

abbrev pub body_on : List Stmt → Body → Body
body_on [] b = b
body_on (s ∷ ss) b = put s (body_on ss b)

abbrev pub body_of : List Stmt → Body
body_of ss = body_on ss done

-- ---- a body as statements

abbrev pub do_of : Simple → Do-F Do Stmt
do_of (assign n e) = Do-F.Assign n e
do_of (send e n xs) = Do-F.Send e n xs
do_of (send_all e n xs) = Do-F.SendAll e n xs
do_of (set_tag t) = Do-F.SetTag t
do_of (set_state n xs) = Do-F.SetState n xs
do_of (suspend l n xs p) = Do-F.Suspend l n xs p
do_of (resume n) = Do-F.Resume n
do_of install = Do-F.Install
do_of enqueue = Do-F.Enqueue
do_of wake_up = Do-F.WakeUp
do_of (error n) = Do-F.Error n

abbrev pub stmt : ℕ → Do-F Do Stmt → Stmt
stmt line d = record { what = roll-Do d; line = line }

abbrev pub tree_of : Body → List Stmt
tree_of done = []
tree_of (plain line s b) = stmt line (do_of s) ∷ tree_of b
tree_of (branch line e x b) = stmt line (Do-F.If e (tree_of x) None) ∷ tree_of b
tree_of (branches line e x y b) = stmt line (Do-F.If e (tree_of x) (Some (tree_of y))) ∷ tree_of b
tree_of (loop line n e x b) = stmt line (Do-F.ForEach n e (tree_of x)) ∷ tree_of b
tree_of (each line n s x b) = stmt line (Do-F.Each n s (tree_of x)) ∷ tree_of b
