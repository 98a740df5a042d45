use Rattle.code_text.specs.Texts.{rest_of}
use Rattle.printed_text.proofs.Growing.{grown_at}
use Rattle.code_text.proofs.rests.add_rests.Goals as goal

pub loop-number-preserved : goal.loop-number-preserved
loop-number-preserved c =
    grown_at (rest_of c.args.door) c.args.out.now c.loop-number.out c.add_rest.new.out c.args.rests.now c.loop-number.number
    (record { at = 0; door = 0; live = 0 })
    c.loop-number-test.true c.loop-number.invariant c.in_ok-add_rest.ensures
