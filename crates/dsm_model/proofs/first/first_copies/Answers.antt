use Rattle.std.proofs.Common.{◌*◌}
use Rattle.dsm_model.proofs.Starting.{init-all}
use Rattle.dsm_model.proofs.first.first_copies.Goals as goal

pub new-requires : goal.new-requires
new-requires c =
    let s = c.args.setup.now in
    rw (c.init.ensures.value, c.shape.ensures.value) (init-all (s.shape.words * s.shape.blocks) s.init c.init.ensures.valid.init)
