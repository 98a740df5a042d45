-- Names among parameters and arguments.
use Rattle.std.specs.Prelude.{Bool, true, ◌&&◌, List, ◌++◌, find, Option}
use Rattle.std.specs.List.{list_any}
use Rattle.std.specs.Option.{option_map}
use Rattle.std.specs.Str.{bytes_eq}
use Rattle.tw_base.specs.declared.name.Name.{Name}
use Rattle.teapot_tree.specs.declared.expr.Expr.{Expr}
use Rattle.teapot_tree.specs.declared.expr.Expr.TheOpen.{Expr-F}
use Rattle.teapot_tree.specs.declared.expr.Expr.TheFolds.{fold-Expr}
use Rattle.teapot_tree.specs.declared.protocol.Param.{Param}
use Rattle.teapot_tree.specs.declared.protocol.ValType.{ValType}
use Rattle.teapot_tree.specs.Scopes.{Scope, Variable, is_among, typed, args_of, taken_message, locals_in}

abbrev pub among_params : List Param → Name → Bool
among_params ps n = list_any (λ (a : Param). bytes_eq a.name n) ps

abbrev pub type_in_params : List Param → Name → Option ValType
type_in_params ps n = option_map (λ (a : Param). a.ty) (find (λ (a : Param). bytes_eq a.name n) ps)

abbrev pub among_names : List Name → Name → Bool
among_names ns n = list_any (λ m. bytes_eq m n) ns

abbrev pub seen_step : List Variable → Expr-F Bool → Bool
seen_step vs (Expr-F.Var n) = is_among vs n
seen_step vs (Expr-F.One a) = a
seen_step vs (Expr-F.Not a) = a
seen_step vs (Expr-F.Count a) = a
seen_step vs (Expr-F.Two op a b) = a && b
seen_step vs _ = true

-- whether each name in an expression is among the variables
unfoldable pub all_seen : List Variable → Expr → Bool
all_seen vs = fold-Expr Bool (seen_step vs)

-- the message's arguments and the locals
abbrev pub inner : Scope → List Variable
inner c = typed c.handler.args (args_of (taken_message c.protocol c.handler.on)) ++ locals_in c
