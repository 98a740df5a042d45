-- How many suspensions a state holds, and how many statements are left to do.
use Rattle.std.specs.Prelude.{ℕ, ◌+◌, ◌*◌, Bool, List, [], length, sum, sum_by, take, unwrap_or}
use Rattle.tw_base.specs.NodeSets.{members}
use Rattle.teapot_tree.specs.declared.stmt.Do.TheOpen.{Do-F}
use Rattle.teapot_tree.specs.declared.stmt.Stmt.{Stmt, fold-Stmt}
use Rattle.teapot_meaning.specs.declared.state.Running.{Running}
use Rattle.teapot_meaning.specs.declared.state.StateVal.{StateVal, fold-StateVal}

unfoldable pub depth : StateVal → ℕ
depth = fold-StateVal ℕ ℕ (λ k. k.saved + 1) (λ s. unwrap_or s.cont 0)

-- the nodes of a set, which are below 8, in rising order
abbrev pub nodes_in : List Bool → List ℕ
nodes_in set = members (take 8 set)

-- one level of a statement, with the weights of the statements in it
abbrev pub weighed : Do-F ℕ ℕ → ℕ
weighed (Do-F.If e first second) = sum first + sum (unwrap_or second []) + 1
weighed (Do-F.ForEach x e body) = 8 * (sum body + 1) + 2
weighed (Do-F.Each x set body) = length (nodes_in set) * (sum body + 1) + 1
weighed _ = 1

abbrev pub weight : Stmt → ℕ
weight = fold-Stmt ℕ ℕ weighed (λ s. s.what)

abbrev pub weight_of_all : List Stmt → ℕ
weight_of_all stmts = sum_by weight stmts

-- the statements that can be resumed from a state
abbrev pub kept_weight : StateVal → ℕ
kept_weight = fold-StateVal ℕ ℕ (λ k. weight_of_all k.rest + k.saved) (λ s. unwrap_or s.cont 0)

-- what is left to do at most
abbrev pub work : List Stmt → Running → ℕ
work stmts r = weight_of_all stmts + kept_weight r.here.state
