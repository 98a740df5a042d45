-- The tree that the text of Stache_D gives.
use Rattle.std.specs.Prelude.{Option}
use Rattle.teapot_tree.specs.declared.protocol.Protocol.{Protocol}
use Rattle.protocol_texts.specs.Texts.{protocol_of}
use Rattle.stache_d_text.specs.Text.{text_of_d}

-- the protocol that the text is
abbrev pub shipped_d : Option Protocol
shipped_d = protocol_of text_of_d
