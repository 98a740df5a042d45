-- What a statement does where it is met, and the scope of a handler, as the code has them.
use Rattle.std.specs.Prelude.{Bool, false, ◌&&◌}
use Rattle.teapot_tree.specs.declared.stmt.Do.{Do, out-Do}
use Rattle.teapot_tree.specs.declared.stmt.Do.TheOpen.{Do-F}
use Rattle.teapot_tree.specs.declared.stmt.Stmt.{Stmt}
use Rattle.teapot_tree.specs.declared.rule.Rule.{Rule}
use Rattle.teapot_tree.specs.declared.rule.Rule.TheVariants.{Undeclared, Twice, WrongType, ArgCount, ContDropped, ResumeNotLast}
use Rattle.teapot_tree.specs.declared.rule.Rule.TheVariants.{ResumeForeign, AfterSuspend, NoData}
use Rattle.teapot_tree.specs.Bodies.{assign, send, send_all, set_tag, set_state, suspend, resume, install, enqueue, wake_up}
use Rattle.teapot_tree.specs.Bodies.{error}
use Rattle.teapot_tree.specs.Paths.{Deed, does, tests, repeats, goes_on, is_enqueue, is_suspend, is_resume}
use Rattle.teapot_tree.specs.Rules.{uses_undeclared, has_wrong_type, has_wrong_count, drops_cont, resumes_foreign, lacks_data}
use Rattle.teapot_tree.specs.Rules.{is_late}
use Rattle.teapot_tree.specs.Scopes.{Scope}
use Rattle.teapot_rules.specs.declared.handler_scope.Scope.{Scope as Scoped}

abbrev pub scope_of : Scoped → Scope
scope_of c = record { protocol = c.protocol.now; state = c.state.now; handler = c.handler.now }

abbrev pub deed_step : Do-F Do Stmt → Deed
deed_step (Do-F.Assign n e) = does (assign n e)
deed_step (Do-F.If e xs o) = tests e
deed_step (Do-F.Send e n xs) = does (send e n xs)
deed_step (Do-F.SendAll e n xs) = does (send_all e n xs)
deed_step (Do-F.SetTag t) = does (set_tag t)
deed_step (Do-F.SetState n xs) = does (set_state n xs)
deed_step (Do-F.Suspend l n xs p) = does (suspend l n xs p)
deed_step (Do-F.Resume n) = does (resume n)
deed_step Do-F.Install = does install
deed_step Do-F.Enqueue = does enqueue
deed_step Do-F.WakeUp = does wake_up
deed_step (Do-F.Error n) = does (error n)
deed_step (Do-F.ForEach n e xs) = repeats n e
deed_step (Do-F.Each n s xs) = goes_on

abbrev pub deed_of : Do → Deed
deed_of d = deed_step (out-Do d)

-- ---- rules that speak of statements

-- what has to come before for the rule to be broken
abbrev pub comes_first : Rule → Deed → Bool
comes_first Twice d = is_enqueue d
comes_first AfterSuspend d = is_suspend d
comes_first _ d = false

-- whether a statement breaks the rule, where it is known whether what has to come before did and whether one follows
abbrev pub breaks_at : Scope → Rule → Bool → Bool → Deed → Bool
breaks_at c Undeclared had more d = uses_undeclared c d
breaks_at c Twice had more d = had && is_enqueue d
breaks_at c WrongType had more d = has_wrong_type c d
breaks_at c ArgCount had more d = has_wrong_count c d
breaks_at c ContDropped had more d = drops_cont c d
breaks_at c ResumeNotLast had more d = is_resume d && more
breaks_at c ResumeForeign had more d = resumes_foreign c d
breaks_at c AfterSuspend had more d = had && is_late c.protocol.profile d
breaks_at c NoData had more d = lacks_data c d
breaks_at c _ had more d = false
