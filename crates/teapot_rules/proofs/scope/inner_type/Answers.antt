use Rattle.std.proofs.Common.{◌≡◌, true, false}
use Rattle.teapot_rules.specs.Deeds.{scope_of}
use Rattle.teapot_rules.specs.Names.{among_names}
use Rattle.teapot_rules.proofs.Seeing.{inner_arg, inner_local}
use Rattle.teapot_rules.proofs.scope.inner_type.Goals as goal

pub returns-then-is_arg : goal.returns-then-is_arg
returns-then-is_arg c =
    let h : among_names c.args.scope.now.handler.now.args c.args.name.now ≡ true = cc in
    let e = inner_arg (scope_of c.args.scope.now) c.args.name.now h in
    cc

pub returns : goal.returns
returns c =
    let h : among_names c.args.scope.now.handler.now.args c.args.name.now ≡ false = cc in
    let e = inner_local (scope_of c.args.scope.now) c.args.name.now h in
    cc
