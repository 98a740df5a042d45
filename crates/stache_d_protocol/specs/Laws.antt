-- What is proved of the text of Stache_D.
use Rattle.protocol_texts.specs.Texts.{IsTextOf}
use Rattle.stache_d_text.specs.Text.{text_of_d}
use Rattle.stache_d_tree.specs.Tree.{stache_d}

-- the text is read, as a tree of the grammar, and the tree is Stache_D
abbrev pub TextIsStacheD : Type 0
TextIsStacheD = IsTextOf stache_d text_of_d
