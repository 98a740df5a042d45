use Rattle.tw_wire_tests.proofs.Tying.{tied-new}
use Rattle.tw_wire_tests.proofs.rounds.new_wires.Goals as goal

pub returns-in-Ok-clause-tied : goal.returns-in-Ok-clause-tied
returns-in-Ok-clause-tied c = (tied-new c.args.n c.in-Ok.made.0 c.in-Ok.made.1.items c.in-Ok.ensures).1
