use Rattle.coherence_reads.proofs.Away.{put_away}
use Rattle.block_reads.specs.Whose.{state_in}
use Rattle.coherence_reads.proofs.standing.has_put.Goals as goal

pub returns : goal.returns
returns c = λ n k ws i j. put_away (state_in c.args.place) n k ws c.is_away.result (c.is_away.ensures n k i j)
