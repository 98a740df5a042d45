-- A token as the grammar sees it: its words are keywords or names.
use Rattle.std.specs.Prelude.{ℕ, List, Option, Some, None}
use Rattle.teapot_tree.specs.declared.keyword.Keyword.{Keyword}
use Rattle.teapot_tree.specs.Keywords.{keyword_of}
use Rattle.tw_lex.specs.declared.token.Mark.{Mark}
use Rattle.tw_lex.specs.declared.token.Token.{Token}
use Rattle.tw_lex.specs.declared.token.What.{What}
use Rattle.tw_lex.specs.declared.token.What.TheVariants as what

pub data Seen : Type 0 where
  Key : Keyword → Seen
  Named : List ℕ → Seen
  Number : ℕ → Seen
  Marked : Mark → Seen

abbrev pub seen_word : List ℕ → Option Keyword → Seen
seen_word word (Some key) = Key key
seen_word word None = Named word

abbrev pub seen_what : ℕ → What → Seen
seen_what profile (what.Word w) = seen_word w (keyword_of profile w)
seen_what profile (what.Number n) = Number n
seen_what profile (what.Mark m) = Marked m

-- which words are keywords depends on the profile
abbrev pub seen : ℕ → Token → Seen
seen profile t = seen_what profile t.what
