use Rattle.std.proofs.Common.{◌≡◌, ◌+◌, true, sym, subst}
use Rattle.std.specs.Bool.{Decides}
use Rattle.block_spots.specs.Cases.{State}
use Rattle.coherence_inv.specs.Coherent.{GivesBack}
use Rattle.coherence_reads.proofs.standing.stands_put.Goals as goal

pub returns-then-gives_back : goal.returns-then-gives_back
returns-then-gives_back c = λ s ro wr n k h i j.
    let left : Decides c.gives_back.result (GivesBack s.state ro wr s.down s.up) =
    subst (λ (z : State). Decides c.gives_back.result (GivesBack z ro wr s.down s.up)) (sym h.state)
    (c.gives_back.ensures ro wr s.down s.up h.ro h.wr h.down h.up) in
    let right = c.is_zero.ensures (n + k) (c.plus.ensures n k i j) in
    let yes : c.gives_back.result ≡ true = cc in
    (λ r. (left.0 yes, right.0 r), λ p. right.1 p.1)
