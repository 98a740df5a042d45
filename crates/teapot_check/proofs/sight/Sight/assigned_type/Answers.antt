use Rattle.std.proofs.Common.{◌≡◌, Some, None, ◌∙◌}
use Rattle.teapot_tree.specs.Scopes.{infos_in, type_among}
use Rattle.teapot_rules.specs.Deeds.{scope_of}
use Rattle.teapot_check.proofs.Tables.{assigned_info, assigned_local, infos_are}
use Rattle.teapot_check.proofs.sight.Sight.assigned_type.Goals as goal

pub returns-in-Some : goal.returns-in-Some
returns-in-Some c =
    let s = scope_of c.args.self.now.scope in
    let n = c.args.name.now in
    let infos = infos_are c.variables.result.now s c.variables.ensures in
    let found : Some c.in-Some.ty ≡ type_among (infos_in s) n = cc in
    assigned_info s n c.in-Some.ty found

pub returns-in-None : goal.returns-in-None
returns-in-None c =
    let s = scope_of c.args.self.now.scope in
    let n = c.args.name.now in
    let infos = infos_are c.variables.result.now s c.variables.ensures in
    let none : None ≡ type_among (infos_in s) n = cc in
    c.local_type.ensures ∙ assigned_local s n none
