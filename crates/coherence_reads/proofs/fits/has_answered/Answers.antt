use Rattle.std.proofs.Common.{subst, sym}
use Rattle.std.specs.Bool.{Decides}
use Rattle.stache_check.specs.declared.directory.Directory.{Directory}
use Rattle.coherence_reads.specs.Directories.{AnsweredUnder}
use Rattle.coherence_reads.specs.Seeing.{here_in}
use Rattle.coherence_reads.proofs.fits.has_answered.Goals as goal

pub returns-in-StacheD : goal.returns-in-StacheD
returns-in-StacheD c =
    λ w ws s h. subst (λ (d : Directory). Decides c.answered_its_words.result (AnsweredUnder d (here_in c.args.home.now) s))
    (sym c.in-StacheD.is) (c.answered_its_words.ensures w ws s h)
