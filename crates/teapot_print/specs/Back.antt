-- Reading what is printed.
use Rattle.std.specs.Prelude.{◌≡◌, ℕ, Ok}
use Rattle.tw_lex.specs.declared.token.Lexed.{Lexed}
use Rattle.tw_lex.specs.Lines.{lexed}
use Rattle.teapot_tree.specs.declared.protocol.Protocol.{Protocol}
use Rattle.teapot_tree.specs.Bare.{bare_protocol}
use Rattle.teapot_tree.specs.Grammar.{IsTree}
use Rattle.teapot_parse.specs.Parsing.{parsed}
use Rattle.teapot_print.specs.Text.{canon}

-- The canonical text of a tree of the grammar has no fault, and its lines are read as a tree of the grammar that is
-- the same but for line numbers.
abbrev pub CanonIsReadBack : Type 0
CanonIsReadBack =
    (p : Protocol) → IsTree p
    → (found : Lexed) × (q : Protocol) × (lexed (canon p) ≡ Ok found) × ((after : ℕ) → parsed found.list after ≡ Ok q)
    × IsTree q × (bare_protocol q ≡ bare_protocol p)
