-- What a handler passes at one look: where each statement passes, and the few rules beside that, no rule is broken in it.
use Rattle.std.specs.Prelude.{◌≡◌, ◌≤◌, Bool, true, false, not, ◌&&◌, ◌||◌, List, [], ◌∷◌, ◌++◌, Option, Some, None, is_some}
use Rattle.std.specs.Prelude.{length}
use Rattle.std.specs.Str.{bytes_eq}
use Rattle.tw_base.specs.declared.name.Name.{Name}
use Rattle.teapot_tree.specs.declared.expr.Expr.{Expr}
use Rattle.teapot_tree.specs.declared.protocol.ValType.{ValType}
use Rattle.teapot_tree.specs.declared.protocol.ValType.TheVariants.{Node, Set, Bool as Truth}
use Rattle.teapot_tree.specs.declared.rule.Rule.TheVariants.{AfterSuspend, ResumeNotLast, Twice}
use Rattle.teapot_tree.specs.Bodies.{assign, send, send_all, set_state, suspend, resume, install}
use Rattle.teapot_tree.specs.Paths.{Deed, does, tests, repeats, is_enqueue, is_install, is_resume}
use Rattle.teapot_tree.specs.Rules.{answers_undeclared, are_fit, body_in, counts_wrongly, has_cont, is_message}
use Rattle.teapot_tree.specs.Rules.{is_message_count, is_state, is_state_count, lacks_data}
use Rattle.teapot_tree.specs.Rules.{message_types, resumes_foreign, state_types, type_in, types_in}
use Rattle.teapot_tree.specs.Scopes.{Scope, Variable, assignable, is_among, is_of, locals_in, message_of, state_of, type_among}
use Rattle.teapot_tree.specs.Scopes.{visible}
use Rattle.teapot_check.specs.declared.passing.Look.{Look}
use Rattle.teapot_check.specs.declared.passing.Look.TheVariants as look
use Rattle.teapot_rules.specs.Faults.{body_lines, same_truth}
use Rattle.teapot_rules.specs.Walks.{most}

-- some type is declared, and it is found
abbrev pub is_given : Option ValType → Option ValType → Bool
is_given None found = false
is_given (Some ty) found = is_of ty found

abbrev pub takes_message : Scope → Name → List Expr → Bool
takes_message c n xs =
    is_message c n && (is_message_count (message_of c.protocol n) (length xs) && are_fit (message_types c n) (types_in c xs))

abbrev pub takes_state : Scope → Name → List Expr → Bool
takes_state c n xs =
    is_state c n && (is_state_count (state_of c.protocol n) (length xs) && are_fit (state_types c n) (types_in c xs))

abbrev pub passes : Scope → Deed → Bool
passes c (does (assign n e)) = is_given (type_among (assignable c) n) (type_in c e)
passes c (does (send e n xs)) = is_of Node (type_in c e) && takes_message c n xs
passes c (does (send_all e n xs)) = is_of Set (type_in c e) && takes_message c n xs
passes c (does (set_state n xs)) = same_truth (is_some c.state.cont) (has_cont (state_of c.protocol n)) && takes_state c n xs
passes c (does (suspend l n xs p)) = bytes_eq p l && (has_cont (state_of c.protocol n) && takes_state c n xs)
passes c (does (resume n)) = not (resumes_foreign c (does (resume n)))
passes c (does install) = not (lacks_data c (does install))
passes c (tests e) = is_of Truth (type_in c e)
passes c (repeats n e) = is_of Node (type_among (locals_in c) n) && is_of Set (type_in c e)
passes c _ = true

-- at which a rule may be broken that looks at what comes before or behind
abbrev pub is_placed : Deed → Bool
is_placed d = is_enqueue d || (is_install d || is_resume d)

-- what is looked for among statements
abbrev pub looked : Look → Scope → Deed → Bool
looked look.Stopped c d = not (passes c d)
looked look.Placed c d = is_placed d

-- whether a variable has the name of an earlier one, where some are known to stand before them
abbrev pub recurs : List Variable → List Variable → Bool
recurs before [] = false
recurs before (v ∷ vs) = is_among before v.name || recurs (before ++ v ∷ []) vs

-- no rule is broken that looks at what comes before or behind
pub record KeepsOrder (c : Scope) : Type 0 where
  pub twice : body_lines Twice c ≡ []
  pub last : body_lines ResumeNotLast c ≡ []
  pub late : body_lines AfterSuspend c ≡ []

-- no rule is broken by the line of a handler, by its variables or by the count of its messages
pub record HeadsWell (c : Scope) : Type 0 where
  pub declared : answers_undeclared c.protocol c.handler.on ≡ false
  pub counted : counts_wrongly c.protocol c.handler.on c.handler.args ≡ false
  pub few : most (body_in c) ≤ 32
  pub differ : recurs [] (visible c) ≡ false
