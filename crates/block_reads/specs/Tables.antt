-- What each protocol has of its own of a block: its tree, what its continuations serve and leave to be done, and which blocks
-- are its own.
use Rattle.std.specs.Prelude.{ℕ, List, Option, Some, None}
use Rattle.teapot_tree.specs.declared.protocol.Protocol.{Protocol}
use Rattle.teapot_meaning.specs.declared.state.Bound.{Bound}
use Rattle.teapot_meaning.specs.declared.state.Here.{Here}
use Rattle.block_spots.specs.Cases.{HomeAcks, NoRest, OfRo, OfRw, Rest, State}
use Rattle.block_spots.specs.Views.{Reads}
use Rattle.stache_tree.specs.Code.{Code}
use Rattle.stache_tree.specs.Tree.{IsStache}
use Rattle.stache_d_tree.specs.Tree.{IsStacheD}
use Rattle.stache_l_tree.specs.Tree.{IsStacheL}
use Rattle.stache_table.specs.Blocks.{src}
use Rattle.stache_table.specs.Runs.{Later}
use Rattle.stache_table.specs.Blocks as table
use Rattle.stache_d_table.specs.Blocks as table_d
use Rattle.stache_l_table.specs.Blocks as table_l
use Rattle.stache_check.specs.declared.directory.Directory.{Directory}
use Rattle.stache_check.specs.declared.directory.Directory.TheVariants.{Stache, StacheD, StacheL}

abbrev pub IsProtocol : Directory → Protocol → Type 0
IsProtocol Stache = IsStache
IsProtocol StacheD = IsStacheD
IsProtocol StacheL = IsStacheL

-- whose request a continuation serves
abbrev pub reads_under : Directory → Reads
reads_under Stache = table.reads
reads_under StacheD = table_d.reads
reads_under StacheL = table.reads

-- what a continuation leaves to be done
abbrev pub rest_under : Directory → State → Rest → Code
rest_under Stache = table.rest_at
rest_under StacheD = table_d.rest_at
rest_under StacheL = table_l.rest_at

-- the variables of a continuation that serves this node: under Stache_L that of a reader has the node that was chosen, too
abbrev pub vars_of_l : State → Rest → ℕ → ℕ → List Bound
vars_of_l HomeAcks (OfRo a) node chosen = table_l.src_and node chosen
vars_of_l s r node chosen = src node

abbrev pub vars_under : Directory → State → Rest → ℕ → ℕ → List Bound
vars_under Stache s r node chosen = src node
vars_under StacheD s r node chosen = src node
vars_under StacheL s r node chosen = vars_of_l s r node chosen

abbrev pub serving_under : Directory → State → Rest → ℕ → ℕ → ℕ → Option Later
serving_under d s r node left chosen =
    Some (record { rest = rest_under d s r; vars = vars_under d s r node chosen; came = None; state = left })

-- a node's own faults are served for the node itself
abbrev pub later_under : Directory → ℕ → State → ℕ → ℕ → Rest → Option Later
later_under d me s left chosen NoRest = None
later_under d me s left chosen (OfRo a) = serving_under d s (OfRo a) a left chosen
later_under d me s left chosen (OfRw a) = serving_under d s (OfRw a) a left chosen
later_under d me s left chosen r = serving_under d s r me left chosen

abbrev pub IsLiteralUnder : Directory → Here → Type 0
IsLiteralUnder Stache = table.IsLiteral
IsLiteralUnder StacheD = table_d.IsLiteral
IsLiteralUnder StacheL = table_l.IsLiteral
