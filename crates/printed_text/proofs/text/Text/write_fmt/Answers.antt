use Rattle.printed_text.proofs.Writing.{written}
use Rattle.printed_text.proofs.text.Text.write_fmt.Goals as goal

pub returns-in-Ok : goal.returns-in-Ok
returns-in-Ok g c = written c.args.self.now c.write.new.self (g.D.Display.output c.args.value) c.in-Ok.ensures.writes
