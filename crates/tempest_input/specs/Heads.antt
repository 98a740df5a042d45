-- The lines of the layout: what a line outside of the sections says.
use Rattle.std.specs.Prelude.{ℕ, if◌then◌else◌, codes, List, [], ◌∷◌, Option, Some, None}
use Rattle.std.specs.Str.{bytes_eq}
use Rattle.tw_lex.specs.declared.token.What.{What}
use Rattle.tw_lex.specs.declared.token.What.TheVariants as whats
use Rattle.tw_lex.specs.declared.token.Token.{Token}
use Rattle.tempest_input.specs.declared.head.Head.{Head}
use Rattle.tempest_input.specs.declared.head.Head.TheVariants as heads
use Rattle.tempest_input.specs.declared.head.Field.TheVariants.{Version, Nodes, Words, Blocks, Budget}
use Rattle.tempest_input.specs.declared.head.Shipped.{Shipped}
use Rattle.tempest_input.specs.declared.head.Shipped.TheVariants as shipped

-- a line of one word
abbrev pub word_head : List ℕ → Head
word_head w =
    if bytes_eq w (codes "protocol") then heads.Protocol else
    if bytes_eq w (codes "end") then heads.End else
    if bytes_eq w (codes "report") then heads.Report else heads.Other

-- a line of a word and a number
abbrev pub number_head : List ℕ → ℕ → Head
number_head w n =
    if bytes_eq w (codes "tempest") then heads.Number Version n else
    if bytes_eq w (codes "nodes") then heads.Number Nodes n else
    if bytes_eq w (codes "words") then heads.Number Words n else
    if bytes_eq w (codes "blocks") then heads.Number Blocks n else
    if bytes_eq w (codes "budget") then heads.Number Budget n else
    if bytes_eq w (codes "program") then heads.Program n else heads.Other

-- the protocol of a name
abbrev pub shipped_as : List ℕ → Option Shipped
shipped_as name =
    if bytes_eq name (codes "Stache") then Some shipped.Stache else
    if bytes_eq name (codes "Stache_D") then Some shipped.StacheD else
    if bytes_eq name (codes "Stache_L") then Some shipped.StacheL else None

abbrev pub shipped_head : Option Shipped → Head
shipped_head (Some which) = heads.Shipped which
shipped_head None = heads.Other

-- a line of two words
abbrev pub words_head : List ℕ → List ℕ → Head
words_head w v = if bytes_eq w (codes "shipped") then shipped_head (shipped_as v) else heads.Other

abbrev pub init_head : List ℕ → ℕ → ℕ → Head
init_head w a v = if bytes_eq w (codes "init") then heads.Init a v else heads.Other

abbrev pub one_head : What → Head
one_head (whats.Word w) = word_head w
one_head (whats.Number n) = heads.Other
one_head (whats.Mark m) = heads.Other

abbrev pub after_word : List ℕ → What → Head
after_word w (whats.Word v) = words_head w v
after_word w (whats.Number n) = number_head w n
after_word w (whats.Mark m) = heads.Other

abbrev pub two_head : What → What → Head
two_head (whats.Word w) b = after_word w b
two_head (whats.Number n) b = heads.Other
two_head (whats.Mark m) b = heads.Other

abbrev pub after_number : List ℕ → ℕ → What → Head
after_number w a (whats.Number v) = init_head w a v
after_number w a (whats.Word v) = heads.Other
after_number w a (whats.Mark m) = heads.Other

abbrev pub after_first : List ℕ → What → What → Head
after_first w (whats.Number a) c = after_number w a c
after_first w (whats.Word v) c = heads.Other
after_first w (whats.Mark m) c = heads.Other

abbrev pub three_head : What → What → What → Head
three_head (whats.Word w) b c = after_first w b c
three_head (whats.Number n) b c = heads.Other
three_head (whats.Mark m) b c = heads.Other

-- what the tokens of a line say
unfoldable pub head_of : List Token → Head
head_of [] = heads.Other
head_of (a ∷ []) = one_head a.what
head_of (a ∷ b ∷ []) = two_head a.what b.what
head_of (a ∷ b ∷ c ∷ []) = three_head a.what b.what c.what
head_of (a ∷ b ∷ c ∷ d ∷ ts) = heads.Other
