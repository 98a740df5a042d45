-- The tree that the text of Stache_L gives is the literal one, line numbers aside.
use Rattle.std.proofs.Common.{◌≡◌, ◌∙◌, length, refl}
use Rattle.std.specs.Fmt.{digits}
use Rattle.teapot_print.specs.Back.{CanonIsReadBack}
use Rattle.stache_l_text.specs.Text.{text_of_l}
use Rattle.stache_l_tree.specs.Tree.{stache_l}
use Rattle.stache_l_tree.proofs.Bares.{literal}
use Rattle.stache_l_rules.proofs.Doors.{told_l, told_l-is}
use Rattle.stache_l_rules.proofs.Given.{tree-is}
use Rattle.protocol_texts.proofs.Spelled.{states_text}
use Rattle.protocol_texts.proofs.Tied.{canon-is, head_text, text_of}
use Rattle.stache_l_protocol.specs.Laws.{TextIsStacheL}

pub text-length : length text_of_l ≡ 3608
unfolding text_of_l
text-length = refl

text-same : head_text stache_l (states_text told_l) ≡ text_of_l
unfolding text_of_l digits
text-same = refl

pub text_is_l : CanonIsReadBack → TextIsStacheL
text_is_l back = text_of back stache_l text_of_l tree-is literal (canon-is stache_l told_l told_l-is ∙ text-same)
