-- The tree that a text gives.
use Rattle.std.specs.Prelude.{◌≡◌, ℕ, List, Option, Some, None, Result, Ok, Err}
use Rattle.tw_lex.specs.declared.token.Lexed.{Lexed}
use Rattle.tw_lex.specs.declared.token.LexError.{LexError}
use Rattle.tw_lex.specs.Lines.{lexed}
use Rattle.teapot_tree.specs.Bare.{bare_protocol}
use Rattle.teapot_tree.specs.Grammar.{IsTree}
use Rattle.teapot_tree.specs.Rules.{IsAccepted}
use Rattle.teapot_tree.specs.declared.protocol.Protocol.{Protocol}
use Rattle.teapot_parse.specs.declared.reading.ParseError.{ParseError}
use Rattle.teapot_parse.specs.Parsing.{parsed}

abbrev pub read_in : Result Protocol ParseError → Option Protocol
read_in (Ok p) = Some p
read_in (Err e) = None

abbrev pub tree_in : Result Lexed LexError → Option Protocol
tree_in (Ok found) = read_in (parsed found.list found.all)
tree_in (Err e) = None

-- the protocol that the text is, if it is one
unfoldable pub protocol_of : List ℕ → Option Protocol
protocol_of text = tree_in (lexed text)

-- the text is read, as a tree of the grammar, and the tree is this one but for line numbers
abbrev pub IsTextOf : Protocol → List ℕ → Type 0
IsTextOf tree text = (p : Protocol) × (protocol_of text ≡ Some p) × IsTree p × (bare_protocol p ≡ tree)

-- the text is read, and the protocol that it is breaks no rule
abbrev pub IsAcceptedText : List ℕ → Type 0
IsAcceptedText text = (p : Protocol) × (protocol_of text ≡ Some p) × IsAccepted p
