use Rattle.teapot_tree.specs.Bare.{bare_handler}
use Rattle.stache_check.proofs.Bares.{map_five}
use Rattle.stache_check.proofs.states_l.is_home_ro_l.Goals as goal

pub returns-else-not-is_handler-3 : goal.returns-else-not-is_handler-3
returns-else-not-is_handler-3 c =
    let k = map_five bare_handler c.args.handlers.now c.a-item.result c.b-item.result c.c-item.result c.d-item.result
    c.e-item.result _ _ _ _ _ c.in-len5.len_at_least c.in-len5.len_below c.a-item.is c.b-item.is c.c-item.is c.d-item.is
    c.e-item.is in (
      λ r. k.1 (
        c.is_handler.ensures.0 (cc),
        c.is_handler-in-len5.ensures.0 (cc),
        c.is_handler_choosing.ensures.0 (cc),
        c.is_handler-in-len5-2.ensures.0 (cc),
        c.is_handler-in-len5-3.ensures.0 r,
      ),
      λ h. c.is_handler-in-len5-3.ensures.1 (k.0 h).4,
    )
