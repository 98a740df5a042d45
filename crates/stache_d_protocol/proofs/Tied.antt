-- The tree that the text of Stache_D gives is the literal one, line numbers aside.
use Rattle.std.proofs.Common.{◌≡◌, ◌∙◌, length, refl}
use Rattle.std.specs.Fmt.{digits}
use Rattle.teapot_print.specs.Back.{CanonIsReadBack}
use Rattle.stache_d_text.specs.Text.{text_of_d}
use Rattle.stache_d_tree.specs.Tree.{stache_d}
use Rattle.stache_d_tree.proofs.Bares.{literal}
use Rattle.stache_d_rules.proofs.Doors.{told_d, told_d-is}
use Rattle.stache_d_rules.proofs.Given.{tree-is}
use Rattle.protocol_texts.proofs.Spelled.{states_text}
use Rattle.protocol_texts.proofs.Tied.{canon-is, head_text, text_of}
use Rattle.stache_d_protocol.specs.Laws.{TextIsStacheD}

pub text-length : length text_of_d ≡ 3635
unfolding text_of_d
text-length = refl

text-same : head_text stache_d (states_text told_d) ≡ text_of_d
unfolding text_of_d digits
text-same = refl

pub text_is_d : CanonIsReadBack → TextIsStacheD
text_is_d back = text_of back stache_d text_of_d tree-is literal (canon-is stache_d told_d told_d-is ∙ text-same)
