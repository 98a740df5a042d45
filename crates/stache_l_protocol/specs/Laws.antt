-- What is proved of the text of Stache_L.
use Rattle.protocol_texts.specs.Texts.{IsTextOf}
use Rattle.stache_l_text.specs.Text.{text_of_l}
use Rattle.stache_l_tree.specs.Tree.{stache_l}

-- the text is read, as a tree of the grammar, and the tree is Stache_L
abbrev pub TextIsStacheL : Type 0
TextIsStacheL = IsTextOf stache_l text_of_l
