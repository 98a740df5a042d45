use Rattle.std.proofs.Common.{subst, sym}
use Rattle.std.specs.Bool.{Decides}
use Rattle.tw_base.specs.Lists.{Each}
use Rattle.stache_check.specs.declared.directory.Directory.{Directory}
use Rattle.coherence_reads.specs.Directories.{IsUpUnder}
use Rattle.coherence_reads.proofs.Sorts.{up_of_stache}
use Rattle.coherence_reads.proofs.fits.are_up.Goals as goal

pub returns-in-Stache : goal.returns-in-Stache
returns-in-Stache c = λ w ws ns h. subst (λ (d : Directory). Decides c.both.result (Each (IsUpUnder d w) ns))
    (sym c.in-Stache.is) (up_of_stache w ns _ _ _ h.ups h.shared c.both.ensures)

pub returns-in-StacheL : goal.returns-in-StacheL
returns-in-StacheL c = λ w ws ns h. subst (λ (d : Directory). Decides c.both-in-StacheL.result (Each (IsUpUnder d w) ns))
    (sym c.in-StacheL.is) (up_of_stache w ns _ _ _ h.ups h.shared c.both-in-StacheL.ensures)
