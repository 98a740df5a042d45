-- What Stache sends is what Stache_D sends, and of Stache's sorts.
use Rattle.std.proofs.Common.{◌≡◌, ℕ, Bool, ◌&&◌, List, [], ◌∷◌}
use Rattle.std.specs.Bool.{Decides}
use Rattle.tw_base.specs.Lists.{Each}
use Rattle.block_spots.specs.Notes.{Note, NRdFault, NWrFault, NGetRo, NGetRw, NDataRo, NDataRw, NPut, NInv, NAck, NRecall}
use Rattle.block_spots.specs.Notes.{NRecallRo, NPutRo}
use Rattle.coherence_inv.specs.Parts.{IsDown, IsUp}
use Rattle.stache_d_inv.specs.Parts as parts_d
use Rattle.note_reads.specs.Notes.{IsOfStache}
use Rattle.note_reads.proofs.Lists.{both_so}

down_as : (w : ℕ) (n : Note) → parts_d.IsDown w n → IsOfStache n → IsDown w n
down_as w NRdFault p q = p
down_as w NWrFault p q = p
down_as w NGetRo p q = p
down_as w NGetRw p q = p
down_as w (NDataRo ws) p q = p
down_as w (NDataRw ws) p q = p
down_as w (NPut ws) p q = p
down_as w NInv p q = p
down_as w NAck p q = p
down_as w NRecall p q = p
down_as w NRecallRo p q = absurd q
down_as w (NPutRo ws) p q = absurd q

down_back : (w : ℕ) (n : Note) → IsDown w n → parts_d.IsDown w n × IsOfStache n
down_back w NRdFault p = absurd p
down_back w NWrFault p = absurd p
down_back w NGetRo p = absurd p
down_back w NGetRw p = absurd p
down_back w (NDataRo ws) p = (p, tt)
down_back w (NDataRw ws) p = (p, tt)
down_back w (NPut ws) p = absurd p
down_back w NInv p = (p, tt)
down_back w NAck p = absurd p
down_back w NRecall p = (p, tt)
down_back w NRecallRo p = absurd p
down_back w (NPutRo ws) p = absurd p

up_as : (w : ℕ) (n : Note) → parts_d.IsUp w n → IsOfStache n → IsUp w n
up_as w NRdFault p q = p
up_as w NWrFault p q = p
up_as w NGetRo p q = p
up_as w NGetRw p q = p
up_as w (NDataRo ws) p q = p
up_as w (NDataRw ws) p q = p
up_as w (NPut ws) p q = p
up_as w NInv p q = p
up_as w NAck p q = p
up_as w NRecall p q = p
up_as w NRecallRo p q = absurd q
up_as w (NPutRo ws) p q = absurd q

up_back : (w : ℕ) (n : Note) → IsUp w n → parts_d.IsUp w n × IsOfStache n
up_back w NRdFault p = absurd p
up_back w NWrFault p = absurd p
up_back w NGetRo p = absurd p
up_back w NGetRw p = absurd p
up_back w (NDataRo ws) p = absurd p
up_back w (NDataRw ws) p = absurd p
up_back w (NPut ws) p = (p, tt)
up_back w NInv p = absurd p
up_back w NAck p = (p, tt)
up_back w NRecall p = absurd p
up_back w NRecallRo p = absurd p
up_back w (NPutRo ws) p = absurd p

each_as : (P Q R : Note → Type 0) → ((n : Note) → P n → Q n → R n) → (ns : List Note) → Each P ns → Each Q ns → Each R ns
each_as P Q R f [] p q = tt
each_as P Q R f (n ∷ ns) p q = (f n p.0 q.0, each_as P Q R f ns p.1 q.1)

each_back : (P Q R : Note → Type 0) → ((n : Note) → R n → P n × Q n) → (ns : List Note) → Each R ns → Each P ns × Each Q ns
each_back P Q R f [] r = (tt, tt)
each_back P Q R f (n ∷ ns) r =
    let p = f n r.0 in let more = each_back P Q R f ns r.1 in
    ((p.0, more.0), (p.1, more.1))

of_stache : (P Q R : Note → Type 0) → ((n : Note) → P n → Q n → R n) → ((n : Note) → R n → P n × Q n) →
    (ns : List Note) (a b r : Bool) →
    Decides a (Each P ns) → Decides b (Each Q ns) → r ≡ a && b → Decides r (Each R ns)
of_stache P Q R f g ns a b r h k e =
    let d = both_so a b r (Each P ns) (Each Q ns) h k e in
    (λ y. let p = d.0 y in each_as P Q R f ns p.0 p.1, λ y. d.1 (each_back P Q R g ns y))

pub down_of_stache : (w : ℕ) (ns : List Note) (a b r : Bool) → Decides a (Each (parts_d.IsDown w) ns) →
    Decides b (Each IsOfStache ns) → r ≡ a && b → Decides r (Each (IsDown w) ns)
down_of_stache w = of_stache (parts_d.IsDown w) IsOfStache (IsDown w) (down_as w) (down_back w)

pub up_of_stache : (w : ℕ) (ns : List Note) (a b r : Bool) → Decides a (Each (parts_d.IsUp w) ns) →
    Decides b (Each IsOfStache ns) → r ≡ a && b → Decides r (Each (IsUp w) ns)
up_of_stache w = of_stache (parts_d.IsUp w) IsOfStache (IsUp w) (up_as w) (up_back w)
