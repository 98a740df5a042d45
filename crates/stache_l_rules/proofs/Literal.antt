-- The literal tree of Stache_L breaks no rule: the lines of each rule, over plain data, are none.
use Rattle.std.proofs.Common.{◌≡◌, ◌∙◌, [], refl}
use Rattle.teapot_tree.specs.declared.rule.Rule.{Rule}
use Rattle.teapot_tree.specs.declared.rule.Rule.TheVariants.{Undeclared, Twice, WrongType, ArgCount, NoDefault, ContDropped}
use Rattle.teapot_tree.specs.declared.rule.Rule.TheVariants.{ResumeNotLast, ResumeForeign, AfterSuspend, NoData, TooManySends}
use Rattle.teapot_tree.specs.declared.rule.Rule.TheVariants.{NotTwoStarts}
use Rattle.teapot_rules.specs.Faults.{handler_lines, in_handlers, lines}
use Rattle.stache_l_tree.specs.Tree.{stache_l, states_l}
use Rattle.stache_rules.proofs.Literal.{IsFineOutside, all_told, handlers-told, none}
use Rattle.stache_l_rules.proofs.Doors.{told_l, told_l-is}

none-told : (r : Rule) → all_told r stache_l told_l ≡ []
unfolding all_told states_l
none-told Undeclared = refl
none-told Twice = refl
none-told WrongType = refl
none-told ArgCount = refl
none-told NoDefault = refl
none-told ContDropped = refl
none-told ResumeNotLast = refl
none-told ResumeForeign = refl
none-told AfterSuspend = refl
none-told NoData = refl
none-told TooManySends = refl
none-told NotTwoStarts = refl

fine-outside : IsFineOutside stache_l
unfolding states_l
fine-outside = record {
  starts = refl;
  wrong = refl;
  messages = refl;
  infos = refl;
  states = refl;
  conts = refl;
  handlers = refl;
  defaults = refl;
  two = refl;
}

within-is : (r : Rule) → in_handlers (handler_lines r) stache_l ≡ []
within-is r = handlers-told r stache_l told_l told_l-is ∙ none-told r

pub no-lines : (r : Rule) → lines stache_l r ≡ []
no-lines r = none stache_l fine-outside within-is r
