use Rattle.std.proofs.Common.{◌≡◌, ℕ, subst}
use borrow.Author.Count.{below_more}
use Rattle.dsm_model.specs.Globals.{setup_of, world_of}
use Rattle.coherence_check.specs.Under.{InPartsUnder}
use Rattle.coherence_check.proofs.Loops.{some_is}
use Rattle.coherence_check.proofs.decide.decide.Goals as goal

pub loop-number-preserved : goal.loop-number-preserved
loop-number-preserved c =
    let P : ℕ → Type 0 = λ b. InPartsUnder c.args.directory (setup_of c.args.g.now) (world_of c.args.g.now) b in
    let e : c.unwrap-block.result ≡ c.loop-number.number = some_is _ _ _ _ c.new.ensures c.unwrap-block.ensures in
    below_more P c.loop-number.number c.loop-number.invariant (subst P e c.in_default.ensures)
