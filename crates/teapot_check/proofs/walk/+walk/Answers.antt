use Rattle.std.proofs.Common.{ap, sym, ◌∙◌}
use Rattle.std.specs.Prelude.{◌||◌}
use Rattle.teapot_tree.specs.declared.stmt.Do.{out-Do, out-roll-Do}
use Rattle.teapot_tree.specs.declared.stmt.Do.TheOpen.{Do-F}
use Rattle.teapot_tree.specs.declared.stmt.Do.TheVariants as v
use Rattle.teapot_tree.specs.Bodies.{body_of}
use Rattle.teapot_rules.specs.Deeds.{scope_of, comes_first, breaks_at}
use Rattle.teapot_rules.specs.Lists.{least, lesser, line_if}
use Rattle.teapot_rules.specs.Walks.{walk}
use Rattle.teapot_check.proofs.Walking.{walk_more, walk_if_else}
use Rattle.teapot_check.proofs.walk.+walk.Goals as goal

pub walk-loop-at-preserved : goal.walk-loop-at-preserved
walk-loop-at-preserved t c =
    let one = comes_first c.args.rule in
    let test = breaks_at (scope_of c.args.sight.now.scope) c.args.rule in
    let e = walk_more one test c.args.stmts.now c.loop-at.at c.index-stmts-at.result c.loop-at.came c.args.more
    (least (walk one test (body_of c.args.stmts.now) c.args.had c.args.more))
    c.loop-at.least c.walk_in.result c.loop-at-test.true c.index-stmts-at.is c.loop-at.invariant c.walk_in.ensures in
    cc

pub walk_in-returns-in-Some : goal.walk_in-returns-in-Some
walk_in-returns-in-Some t c =
    let one = comes_first c.args.rule in
    let test = breaks_at (scope_of c.args.sight.now.scope) c.args.rule in
    let what = c.args.stmt.now.what in
    let is = ap out-Do (c.in-If.is ∙ sym (v.rolls-If c.in-If.field-0 c.in-If.first c.in-If.second))
    ∙ out-roll-Do (Do-F.If c.in-If.field-0 c.in-If.first c.in-If.second)
    ∙ ap (λ z. Do-F.If c.in-If.field-0 c.in-If.first z) c.in-Some.is in
    let own = c.line_if-own.ensures ∙ ap (λ z. least (line_if z c.args.stmt.now.line)) c.breaks_at.ensures in
    let first = c.walk-first.ensures
    ∙ ap (λ z. least (walk one test (body_of z) (c.args.had || c.comes_first.result) c.args.more)) c.items.ensures
    ∙ ap (λ z. least (walk one test (body_of c.in-If.first) (c.args.had || z) c.args.more)) c.comes_first.ensures in
    let second = c.walk-second.ensures
    ∙ ap (λ z. least (walk one test (body_of z) (c.args.had || c.comes_first.result) c.args.more)) c.items-in-Some.ensures
    ∙ ap (λ z. least (walk one test (body_of c.in-Some.second) (c.args.had || z) c.args.more)) c.comes_first.ensures in
    let e = walk_if_else one test c.args.stmt.now.line c.args.had c.args.more
    (out-Do what) c.in-If.field-0 c.in-If.first c.in-Some.second c.line_if-own.result c.walk-first.result
    c.walk-second.result is own first second in
    c.lesser-in-Some-2.ensures ∙ ap (λ z. lesser c.line_if-own.result z) c.lesser-in-Some.ensures ∙ e
