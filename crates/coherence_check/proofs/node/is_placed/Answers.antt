use Rattle.std.proofs.Common.{subst, sym}
use Rattle.std.specs.Bool.{Decides}
use Rattle.stache_check.specs.declared.directory.Directory.{Directory}
use Rattle.coherence_check.specs.Under.{IsPlacedUnder}
use Rattle.coherence_check.proofs.node.is_placed.Goals as goal

pub returns-in-Stache : goal.returns-in-Stache
returns-in-Stache c = subst (λ (d : Directory). Decides c.is_placed_of_stache.result (IsPlacedUnder d c.args.here.now))
    (sym c.in-Stache.is) c.is_placed_of_stache.ensures

pub returns-in-StacheD : goal.returns-in-StacheD
returns-in-StacheD c = subst (λ (d : Directory). Decides c.is_placed_of_d.result (IsPlacedUnder d c.args.here.now))
    (sym c.in-StacheD.is) c.is_placed_of_d.ensures

pub returns-in-StacheL : goal.returns-in-StacheL
returns-in-StacheL c = subst (λ (d : Directory). Decides c.is_placed_of_l.result (IsPlacedUnder d c.args.here.now))
    (sym c.in-StacheL.is) c.is_placed_of_l.ensures
