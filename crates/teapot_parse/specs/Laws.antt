-- What the pass finds out, and what is known of the lines of a text.
use Rattle.std.specs.Prelude.{◌≡◌, ℕ, ◌+◌, ◌++◌, List, take, Ok}
use Rattle.tw_lex.specs.declared.token.Lexed.{Lexed}
use Rattle.tw_lex.specs.declared.token.Line.{Line}
use Rattle.tw_lex.specs.Lines.{lexed}
use Rattle.teapot_tree.specs.declared.protocol.Protocol.{Protocol}
use Rattle.teapot_tree.specs.Grammar.{IsTree}
use Rattle.teapot_parse.specs.declared.judge.Kind.{Kind}
use Rattle.teapot_parse.specs.declared.judge.Judged.{Judged}
use Rattle.teapot_parse.specs.declared.judge.Judged.TheVariants.{Nested, Bad, Missing}
use Rattle.teapot_parse.specs.Given.{AreTextLines, IsGiven}
use Rattle.teapot_parse.specs.Parsing.{parsed}
use Rattle.teapot_parse.specs.Shapes.{IsNested, CanGoOn}

-- the lines nest; or this is the first line up to which they are the front of no list that nests; or only the end is missing
abbrev pub Judges : List Kind → Judged → Type 0
Judges ks Nested = IsNested ks
Judges ks (Bad at) = CanGoOn (take at ks) × ¬ CanGoOn (take (at + 1) ks)
Judges ks Missing = CanGoOn ks × ¬ IsNested ks

-- the lines that the lexer finds in a text are lines as they stand in a text
abbrev pub LexedAreTextLines : Type 0
LexedAreTextLines = (text : List ℕ) (found : Lexed) → lexed text ≡ Ok found → AreTextLines found.list

-- lines of a text that follow each other and are read give a tree of the grammar, and spell its forms in its order
abbrev pub TextGivesTree : Type 0
TextGivesTree =
    (text : List ℕ) (found : Lexed) (before lines behind : List Line) (p : Protocol) (after : ℕ) → lexed text ≡ Ok found →
    found.list ≡ before ++ (lines ++ behind)
    → parsed lines after ≡ Ok p → IsTree p × IsGiven lines p
