use Rattle.std.proofs.Common.{ap, arith, length, subst, sym}
use Rattle.std.proofs.lemmas.Result.{IfOk-weaker}
use Rattle.stache_d_text.specs.Text.{text_of_d}
use Rattle.stache_d_tree.specs.Tree.{stache_d as literal}
use Rattle.protocol_texts.specs.Texts.{IsAcceptedText}
use Rattle.protocol_texts.proofs.Tied.{accepted-text, is-literal}
use Rattle.stache_d_protocol.proofs.Tied.{text-length}
use Rattle.stache_d_protocol.proofs.shipped.stache_d.Goals as goal

pub accepted_protocol-requires-clause-room : goal.accepted_protocol-requires-clause-room
accepted_protocol-requires-clause-room c = omega (arith, text-length, ap (λ t. length t) c.stache_d_text.ensures)

pub accepted_protocol-requires-clause-accepted : goal.accepted_protocol-requires-clause-accepted
accepted_protocol-requires-clause-accepted c =
    subst IsAcceptedText (sym c.stache_d_text.ensures) (accepted-text literal text_of_d c.text_is_stache_d.ensures
    c.stache_d_is_accepted.ensures)

pub returns-clause-text : goal.returns-clause-text
returns-clause-text c = rw c.stache_d_text.ensures at c.accepted_protocol.ensures

pub returns-clause-tree : goal.returns-clause-tree
returns-clause-tree c = IfOk-weaker _ _ _ (is-literal literal text_of_d c.text_is_stache_d.ensures)
    (rw c.stache_d_text.ensures at c.accepted_protocol.ensures)
