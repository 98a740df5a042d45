-- How many statements a handler holds, and how many steps it takes.
use Rattle.std.specs.Prelude.{ℕ, ◌+◌, ◌≤◌, List, length}
use Rattle.tw_base.specs.Lists.{Each}
use Rattle.teapot_tree.specs.declared.protocol.Handler.{Handler}
use Rattle.teapot_tree.specs.declared.protocol.Protocol.{Protocol}
use Rattle.teapot_tree.specs.declared.stmt.Stmt.{Stmt}
use Rattle.teapot_tree.specs.Bodies.{body_of}
use Rattle.teapot_tree.specs.Parts.{handlers_of}
use Rattle.teapot_tree.specs.Paths.{steps_in}
use Rattle.teapot_meaning.specs.Goes.{Goes, ends, goes_on}
use Rattle.teapot_meaning.specs.declared.state.Ended.{Ended}
use Rattle.teapot_meaning.specs.declared.state.Running.{Running}

-- each statement that leads on is a step, and so is the end
abbrev pub steps : {p : Protocol} {stmts : List Stmt} {r : Running} {e : Ended} → Goes p stmts r e → ℕ
steps (ends h) = 1
steps (goes_on h more) = steps more + 1

-- no handler holds more statements than this
abbrev pub HoldAtMost : ℕ → Protocol → Type 0
HoldAtMost n p = Each (λ (h : Handler). length (steps_in (body_of h.body)) ≤ n) (handlers_of p)
