use Rattle.std.proofs.Common.{◌∷◌, [], ap, append_assoc}
use Rattle.teapot_print.specs.Text.{spaces}
use Rattle.teapot_print.proofs.Puts.{spaces-more}
use Rattle.teapot_print.proofs.printer.Printer.begin.Goals as goal

pub spaces-preserved : goal.spaces-preserved
spaces-preserved c = rw (c.in_ok-add.ensures, c.spaces.invariant, spaces-more c.spaces.counter)
    (ap (λ bs. record c.args.self.now { text = bs }) (append_assoc c.args.self.now.text (spaces c.spaces.counter)
    (32 ∷ 32 ∷ [])))
