use Rattle.std.proofs.Common.{◌≡◌, Some, None, slice_get, ap, sym, ◌∙◌}
use Rattle.std.specs.Option.{option_and_then}
use Rattle.teapot_tree.specs.Scopes.{args_of, taken_message}
use Rattle.teapot_rules.proofs.Placing.{place_of, typed_placed}
use Rattle.teapot_rules.proofs.scope.arg_type.Goals as goal

pub returns : goal.returns
returns c =
    let n = c.args.name.now in
    let ts = args_of (taken_message c.args.scope.now.protocol.now c.args.scope.now.handler.now.on) in
    let here : Some c.in_ok-at.at ≡ place_of c.args.scope.now.handler.now.args n = c.in_ok-at.ensures
    ∙ ap (λ ns. place_of ns n) c.args.scope.now.tabled in
    c.type_at.ensures
    ∙ ap (λ zs. slice_get zs c.in_ok-at.at) c.taken_types.ensures
    ∙ ap (option_and_then (slice_get ts)) here
    ∙ sym (typed_placed c.args.scope.now.handler.now.args ts n)

pub returns-in_err-at : goal.returns-in_err-at
returns-in_err-at c =
    let n = c.args.name.now in
    let ts = args_of (taken_message c.args.scope.now.protocol.now c.args.scope.now.handler.now.on) in
    let here : None ≡ place_of c.args.scope.now.handler.now.args n = c.in_err-at.ensures
    ∙ ap (λ ns. place_of ns n) c.args.scope.now.tabled in
    c.from_residual.ensures ∙ ap (option_and_then (slice_get ts)) here ∙ sym (typed_placed c.args.scope.now.handler.now.args ts n)
