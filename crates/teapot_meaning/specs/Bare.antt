-- Blocks whose statements have every line 0.
use Rattle.teapot_tree.specs.Bare.{bare_all}
use Rattle.teapot_meaning.specs.declared.state.Cont.{Cont, roll-Cont, fold-Cont}
use Rattle.teapot_meaning.specs.declared.state.Ended.{Ended}
use Rattle.teapot_meaning.specs.declared.state.Here.{Here}
use Rattle.teapot_meaning.specs.declared.state.Next.{Next}
use Rattle.teapot_meaning.specs.declared.state.Next.TheVariants.{On, Over}
use Rattle.teapot_meaning.specs.declared.state.Running.{Running}
use Rattle.teapot_meaning.specs.declared.state.StateVal.{StateVal, roll-StateVal, fold-StateVal}

unfoldable pub bare_val : StateVal → StateVal
bare_val =
    fold-StateVal Cont StateVal
    (λ k. roll-Cont (record { rest = bare_all k.rest; vars = k.vars; came = k.came; saved = k.saved })) roll-StateVal

unfoldable pub bare_cont : Cont → Cont
bare_cont =
    fold-Cont Cont StateVal (λ k. roll-Cont (record { rest = bare_all k.rest; vars = k.vars; came = k.came; saved = k.saved }))
    roll-StateVal

abbrev pub bare_here : Here → Here
bare_here h = record h { state = bare_val h.state }

abbrev pub bare_running : Running → Running
bare_running r = record r { here = bare_here r.here }

abbrev pub bare_ended : Ended → Ended
bare_ended e = record e { here = bare_here e.here }

abbrev pub bare_next : Next → Next
bare_next (On stmts r) = On (bare_all stmts) (bare_running r)
bare_next (Over e) = Over (bare_ended e)
