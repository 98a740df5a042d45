-- What is proved of the shipped text.
use Rattle.protocol_texts.specs.Texts.{IsTextOf}
use Rattle.shipped_text.specs.Text.{shipped_text}
use Rattle.stache_tree.specs.Tree.{stache}

-- the text is read, as a tree of the grammar, and the tree is Stache
abbrev pub TextIsStache : Type 0
TextIsStache = IsTextOf stache shipped_text
