use Rattle.std.proofs.Common.{ap, sym, ◌∙◌}
use Rattle.std.specs.Option.{option_or}
use Rattle.teapot_tree.proofs.Spelled.{keyword_is, keyword_of_none}
use Rattle.teapot_tree.proofs.keyword.keyword_of.Goals as goal

pub returns-in_err-first : goal.returns-in_err-first
returns-in_err-first c = c.from_residual.ensures
    ∙ sym (keyword_of_none c.args.profile c.args.word.now c.in_err-first.ensures.value)

pub returns : goal.returns
returns c =
    c.or.ensures
    ∙ ap (λ o. option_or o c.for_each.result) c.with_letter.ensures
    ∙ ap (option_or _) c.for_each.ensures
    ∙ sym (keyword_is c.args.profile _ c.args.word.now c.in_ok-first.ensures.value)
