-- What statements cost at most, where each statement has a price.
use Rattle.std.specs.Prelude.{ℕ, ◌+◌, ◌*◌, max, List, length, unwrap_or}
use Rattle.teapot_tree.specs.declared.stmt.Stmt.{Stmt}
use Rattle.teapot_tree.specs.Bodies.{Simple, Body, done, plain, branch, branches, loop, each, body_of}
use Rattle.teapot_tree.specs.Paths.{sends}
use Rattle.teapot_meaning.specs.Depth.{nodes_in}
use Rattle.teapot_meaning.specs.declared.state.StateVal.{StateVal, fold-StateVal}

-- of a statement that holds no other, and of a test or a turn of a loop
pub record Price : Type 0 where
  pub simple : Simple → ℕ
  pub turn : ℕ

-- a message costs one, and nothing else costs
abbrev pub by_messages : Price
by_messages = record { simple = sends; turn = 0 }

-- a step costs one
abbrev pub by_steps : Price
by_steps = record { simple = λ s. 1; turn = 1 }

-- the most that a path of a text costs; a loop on its way is taken like one that begins
abbrev pub in_text : Price → Body → ℕ
in_text c done = 0
in_text c (plain line s b) = c.simple s + in_text c b
in_text c (branch line e x b) = c.turn + in_text c x + in_text c b
in_text c (branches line e x y b) = c.turn + max (in_text c x) (in_text c y) + in_text c b
in_text c (loop line v e x b) = 8 * (c.turn + in_text c x) + 2 * c.turn + in_text c b
in_text c (each line v set x b) = 8 * (c.turn + in_text c x) + c.turn + in_text c b

-- the same, where a loop on its way has the nodes that are left
abbrev pub ahead : Price → Body → ℕ
ahead c done = 0
ahead c (plain line s b) = c.simple s + ahead c b
ahead c (branch line e x b) = c.turn + in_text c x + ahead c b
ahead c (branches line e x y b) = c.turn + max (in_text c x) (in_text c y) + ahead c b
ahead c (loop line v e x b) = 8 * (c.turn + in_text c x) + 2 * c.turn + ahead c b
ahead c (each line v set x b) = length (nodes_in set) * (c.turn + in_text c x) + c.turn + ahead c b

-- the most that is ahead from some statement on, where a loop on its way may begin anew
abbrev pub peak : Price → Body → ℕ
peak c done = 0
peak c (plain line s b) = max (c.simple s + ahead c b) (peak c b)
peak c (branch line e x b) = max (c.turn + in_text c x + ahead c b) (peak c b)
peak c (branches line e x y b) = max (c.turn + max (in_text c x) (in_text c y) + ahead c b) (peak c b)
peak c (loop line v e x b) = max (8 * (c.turn + in_text c x) + 2 * c.turn + ahead c b) (peak c b)
peak c (each line v set x b) = max (8 * (c.turn + in_text c x) + c.turn + ahead c b) (peak c b)

abbrev pub ahead_of : Price → List Stmt → ℕ
ahead_of c stmts = ahead c (body_of stmts)

-- what the statements cost that can be resumed from a state
abbrev pub owed : Price → StateVal → ℕ
owed c = fold-StateVal ℕ ℕ (λ k. ahead_of c k.rest + k.saved) (λ s. unwrap_or s.cont 0)
