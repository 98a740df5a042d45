use Rattle.std.proofs.Common.{◌≡◌, true, false}
use Rattle.teapot_rules.specs.Deeds.{scope_of}
use Rattle.teapot_rules.specs.Names.{among_params}
use Rattle.teapot_rules.proofs.Seeing.{visible_info, visible_param, visible_inner}
use Rattle.teapot_rules.proofs.scope.name_type.Goals as goal

pub returns-then-is_param : goal.returns-then-is_param
returns-then-is_param c =
    let h : among_params c.args.scope.now.protocol.now.infos c.args.name.now ≡ true = cc in
    let e = visible_info (scope_of c.args.scope.now) c.args.name.now h in
    cc

pub returns-then-is_param-2 : goal.returns-then-is_param-2
returns-then-is_param-2 c =
    let h : among_params c.args.scope.now.protocol.now.infos c.args.name.now ≡ false = cc in
    let k : among_params c.args.scope.now.state.now.params c.args.name.now ≡ true = cc in
    let e = visible_param (scope_of c.args.scope.now) c.args.name.now h k in
    cc

pub returns : goal.returns
returns c =
    let h : among_params c.args.scope.now.protocol.now.infos c.args.name.now ≡ false = cc in
    let k : among_params c.args.scope.now.state.now.params c.args.name.now ≡ false = cc in
    let e = visible_inner (scope_of c.args.scope.now) c.args.name.now h k in
    cc
