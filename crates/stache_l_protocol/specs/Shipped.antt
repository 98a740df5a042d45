-- The tree that the text of Stache_L gives.
use Rattle.std.specs.Prelude.{Option}
use Rattle.teapot_tree.specs.declared.protocol.Protocol.{Protocol}
use Rattle.protocol_texts.specs.Texts.{protocol_of}
use Rattle.stache_l_text.specs.Text.{text_of_l}

-- the protocol that the text is
abbrev pub shipped_l : Option Protocol
shipped_l = protocol_of text_of_l
