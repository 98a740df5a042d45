use Rattle.std.proofs.Common.{◌≡◌, true, false}
use Rattle.teapot_rules.specs.Deeds.{scope_of}
use Rattle.teapot_rules.specs.Names.{among_params}
use Rattle.teapot_rules.proofs.Seeing.{assignable_info, assignable_local}
use Rattle.teapot_rules.proofs.scope.assigned_type.Goals as goal

pub returns-then-is_param : goal.returns-then-is_param
returns-then-is_param c =
    let h : among_params c.args.scope.now.protocol.now.infos c.args.name.now ≡ true = cc in
    let e = assignable_info (scope_of c.args.scope.now) c.args.name.now h in
    cc

pub returns : goal.returns
returns c =
    let h : among_params c.args.scope.now.protocol.now.infos c.args.name.now ≡ false = cc in
    let e = assignable_local (scope_of c.args.scope.now) c.args.name.now h in
    cc
