-- The ways through a handler.
use Rattle.std.specs.Prelude.{◌≡◌, ℕ, ◌+◌, ◌*◌, Bool, true, false, List, [], ◌∷◌, ◌++◌, ◌⊎◌}
use Rattle.tw_base.specs.declared.name.Name.{Name}
use Rattle.teapot_tree.specs.declared.expr.Expr.{Expr}
use Rattle.teapot_tree.specs.Bodies.{Simple, send, send_all, suspend, resume, install, enqueue, Body, done, plain, branch}
use Rattle.teapot_tree.specs.Bodies.{branches, loop, each}

-- what a statement does where it is met: an If tests, a ForEach repeats. A loop on its way stands in no text
pub data Deed : Type 0 where
  does : Simple → Deed
  tests : Expr → Deed
  repeats : Name → Expr → Deed
  goes_on : Deed

pub record Step : Type 0 where
  pub line : ℕ
  pub deed : Deed

abbrev pub step : ℕ → Deed → Step
step line d = record { line = line; deed = d }

-- all that stand there, in the order of the text
abbrev pub steps_in : Body → List Step
steps_in done = []
steps_in (plain line s b) = step line (does s) ∷ steps_in b
steps_in (branch line e x b) = step line (tests e) ∷ (steps_in x ++ steps_in b)
steps_in (branches line e x y b) = step line (tests e) ∷ (steps_in x ++ (steps_in y ++ steps_in b))
steps_in (loop line n e x b) = step line (repeats n e) ∷ (steps_in x ++ steps_in b)
steps_in (each line n s x b) = step line goes_on ∷ steps_in b

-- the statements that are met: one branch of each If, where a missing Else is an empty branch, and the body of each
-- ForEach no time, once or twice. An If and a ForEach are statements of the path themselves
pub data Path : Body → List Step → Type 0 where
  ends : Path done []
  goes : {n : ℕ} {s : Simple} {b : Body} {p : List Step} → Path b p → Path (plain n s b) (step n (does s) ∷ p)
  taken : {n : ℕ} {e : Expr} {x b : Body} {p q : List Step} → Path x p → Path b q →
      Path (branch n e x b) (step n (tests e) ∷ (p ++ q))
  passed : {n : ℕ} {e : Expr} {x b : Body} {q : List Step} → Path b q → Path (branch n e x b) (step n (tests e) ∷ q)
  first : {n : ℕ} {e : Expr} {x y b : Body} {p q : List Step} → Path x p → Path b q →
      Path (branches n e x y b) (step n (tests e) ∷ (p ++ q))
  second : {n : ℕ} {e : Expr} {x y b : Body} {p q : List Step} → Path y p → Path b q →
      Path (branches n e x y b) (step n (tests e) ∷ (p ++ q))
  never : {n : ℕ} {v : Name} {e : Expr} {x b : Body} {q : List Step} → Path b q → Path (loop n v e x b) (step n (repeats v e) ∷ q)
  once : {n : ℕ} {v : Name} {e : Expr} {x b : Body} {p q : List Step} → Path x p → Path b q →
      Path (loop n v e x b) (step n (repeats v e) ∷ (p ++ q))
  twice : {n : ℕ} {v : Name} {e : Expr} {x b : Body} {p r q : List Step} → Path x p → Path x r → Path b q →
      Path (loop n v e x b) (step n (repeats v e) ∷ (p ++ (r ++ q)))
  over : {n : ℕ} {v : Name} {s : List Bool} {x b : Body} {q : List Step} → Path b q → Path (each n v s x b) (step n goes_on ∷ q)

-- ---- what is met on a path

abbrev pub is_enqueue : Deed → Bool
is_enqueue (does enqueue) = true
is_enqueue _ = false

abbrev pub is_install : Deed → Bool
is_install (does install) = true
is_install _ = false

abbrev pub is_suspend : Deed → Bool
is_suspend (does (suspend l n xs p)) = true
is_suspend _ = false

abbrev pub is_resume : Deed → Bool
is_resume (does (resume n)) = true
is_resume _ = false

-- a statement of the kind stands on the path at the line
abbrev pub Meets : (Deed → Bool) → ℕ → List Step → Type 0
Meets kind line [] = ⊥
Meets kind line (s ∷ p) = ((s.line ≡ line) × (kind s.deed ≡ true)) ⊎ Meets kind line p

-- one of the second kind, at the line, follows one of the first kind
abbrev pub Follows : (Deed → Bool) → (Deed → Bool) → ℕ → List Step → Type 0
Follows one other line [] = ⊥
Follows one other line (s ∷ p) = ((one s.deed ≡ true) × Meets other line p) ⊎ Follows one other line p

abbrev pub is_some_path : List Step → Bool
is_some_path [] = false
is_some_path (s ∷ p) = true

-- one of the kind, at the line, is not the last statement
abbrev pub NotLast : (Deed → Bool) → ℕ → List Step → Type 0
NotLast kind line [] = ⊥
NotLast kind line (s ∷ p) = ((s.line ≡ line) × (kind s.deed ≡ true) × (is_some_path p ≡ true)) ⊎ NotLast kind line p

-- ---- how many messages a path sends

abbrev pub sends : Simple → ℕ
sends (send e n xs) = 1
sends (send_all e n xs) = 8
sends _ = 0

-- on some path, each body of a ForEach being taken once and counted eight times
pub data Sends : Body → ℕ → Type 0 where
  nothing : Sends done 0
  counted : {n : ℕ} {s : Simple} {b : Body} {k : ℕ} → Sends b k → Sends (plain n s b) (sends s + k)
  if_taken : {n : ℕ} {e : Expr} {x b : Body} {k m : ℕ} → Sends x k → Sends b m → Sends (branch n e x b) (k + m)
  if_passed : {n : ℕ} {e : Expr} {x b : Body} {m : ℕ} → Sends b m → Sends (branch n e x b) m
  if_first : {n : ℕ} {e : Expr} {x y b : Body} {k m : ℕ} → Sends x k → Sends b m → Sends (branches n e x y b) (k + m)
  if_second : {n : ℕ} {e : Expr} {x y b : Body} {k m : ℕ} → Sends y k → Sends b m → Sends (branches n e x y b) (k + m)
  repeated : {n : ℕ} {v : Name} {e : Expr} {x b : Body} {k m : ℕ} → Sends x k → Sends b m → Sends (loop n v e x b) (8 * k + m)
  passed_over : {n : ℕ} {v : Name} {s : List Bool} {x b : Body} {m : ℕ} → Sends b m → Sends (each n v s x b) m
