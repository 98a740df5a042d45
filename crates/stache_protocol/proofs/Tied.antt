-- The tree that the shipped text gives is the literal one, line numbers aside.
use Rattle.std.proofs.Common.{◌≡◌, ◌∙◌, length, refl}
use Rattle.std.specs.Fmt.{digits}
use Rattle.teapot_print.specs.Back.{CanonIsReadBack}
use Rattle.shipped_text.specs.Text.{shipped_text}
use Rattle.stache_tree.specs.Tree.{stache}
use Rattle.stache_tree.proofs.Bares.{shipped as literal}
use Rattle.stache_rules.proofs.Doors.{told, told-is}
use Rattle.stache_rules.proofs.Given.{tree-is}
use Rattle.protocol_texts.proofs.Spelled.{states_text}
use Rattle.protocol_texts.proofs.Tied.{canon-is, head_text, text_of}
use Rattle.stache_protocol.specs.Laws.{TextIsStache}

pub text-length : length shipped_text ≡ 3390
unfolding shipped_text
text-length = refl

text-same : head_text stache (states_text told) ≡ shipped_text
unfolding shipped_text digits
text-same = refl

pub text_is_stache : CanonIsReadBack → TextIsStache
text_is_stache back = text_of back stache shipped_text tree-is literal (canon-is stache told told-is ∙ text-same)
