use Rattle.std.proofs.Common.{map, length}
use Rattle.std.proofs.lemmas.Result.{err_from_is_err_and}
use Rattle.teapot_lines.specs.Seen.{seen}
use Rattle.teapot_lines.proofs.Items.{items-on, items-done, items-bad, items-over, passed}
use Rattle.teapot_lines.proofs.lists.more_items.Goals as goal

pub returns-in_default : goal.returns-in_default
returns-in_default g c =
    items-done g.I.Item.due c.items.found (length c.args.tokens.now) c.items.counter
    (map (seen c.args.profile) c.items.rest.now) _ c.items-test.true c.in_default.ensures c.items.invariant

pub returns-in_err-item : goal.returns-in_err-item
returns-in_err-item g c =
    let p = err_from_is_err_and c.from_residual.result c.from_residual.ensures.1 in
    rw (p.1, p.2) (passed c.in_err-item.field-0.0 (g.I.Item.due (map (seen c.args.profile) c.in-Some.after.now)) _
    c.in_err-item.ensures (λ none.
    items-bad g.I.Item.due c.items.found (length c.args.tokens.now) c.items.counter
    (map (seen c.args.profile) c.items.rest.now) (map (seen c.args.profile) c.in-Some.after.now) _ c.items-test.true
    c.in-Some.ensures none c.items.invariant))

pub items-preserved : goal.items-preserved
items-preserved g c =
    rw c.in_ok-push.ensures.ok (items-on g.I.Item.due c.items.found (length c.args.tokens.now) c.items.counter
    (map (seen c.args.profile) c.items.rest.now) (map (seen c.args.profile) c.in-Some.after.now)
    (map (seen c.args.profile) c.in_ok-item.after.now) c.in_ok-item.item _
    c.items-test.true c.in-Some.ensures c.in_ok-item.ensures c.items.invariant)

pub returns : goal.returns
returns g c = items-over g.I.Item.due c.items.found (length c.args.tokens.now) c.items.counter
    (map (seen c.args.profile) c.items.rest.now) _ c.items-test.false c.items.invariant
