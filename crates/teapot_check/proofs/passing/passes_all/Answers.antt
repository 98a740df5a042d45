use Rattle.std.proofs.Common.{◌≡◌, false, rules}
use Rattle.teapot_tree.specs.Rules.{body_in}
use Rattle.teapot_rules.specs.Deeds.{scope_of}
use Rattle.teapot_rules.specs.Walks.{meets}
use Rattle.teapot_check.specs.declared.passing.Look.TheVariants.{Stopped}
use Rattle.teapot_check.specs.Passing.{HeadsWell, looked}
use Rattle.teapot_check.proofs.Kept.{no_rule_broken}
use Rattle.teapot_check.proofs.passing.passes_all.Goals as goal

pub returns : goal.returns
returns c =
    let s = scope_of c.args.sight.now.scope in
    let heads : HeadsWell s = search rules in
    let fine : meets (looked Stopped s) (body_in s) ≡ false = cc in
    λ holds. no_rule_broken s heads fine (c.keeps_order.ensures holds)
