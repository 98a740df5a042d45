-- The literal tree of Stache_D breaks no rule: the lines of each rule, over plain data, are none.
use Rattle.std.proofs.Common.{◌≡◌, ◌∙◌, [], refl}
use Rattle.teapot_tree.specs.declared.rule.Rule.{Rule}
use Rattle.teapot_tree.specs.declared.rule.Rule.TheVariants.{Undeclared, Twice, WrongType, ArgCount, NoDefault, ContDropped}
use Rattle.teapot_tree.specs.declared.rule.Rule.TheVariants.{ResumeNotLast, ResumeForeign, AfterSuspend, NoData, TooManySends}
use Rattle.teapot_tree.specs.declared.rule.Rule.TheVariants.{NotTwoStarts}
use Rattle.teapot_rules.specs.Faults.{handler_lines, in_handlers, lines}
use Rattle.stache_d_tree.specs.Tree.{stache_d, states_d}
use Rattle.stache_rules.proofs.Literal.{IsFineOutside, all_told, handlers-told, none}
use Rattle.stache_d_rules.proofs.Doors.{told_d, told_d-is}

none-told : (r : Rule) → all_told r stache_d told_d ≡ []
unfolding all_told states_d
none-told Undeclared = refl
none-told Twice = refl
none-told WrongType = refl
none-told ArgCount = refl
none-told NoDefault = refl
none-told ContDropped = refl
none-told ResumeNotLast = refl
none-told ResumeForeign = refl
none-told AfterSuspend = refl
none-told NoData = refl
none-told TooManySends = refl
none-told NotTwoStarts = refl

fine-outside : IsFineOutside stache_d
unfolding states_d
fine-outside = record {
  starts = refl;
  wrong = refl;
  messages = refl;
  infos = refl;
  states = refl;
  conts = refl;
  handlers = refl;
  defaults = refl;
  two = refl;
}

within-is : (r : Rule) → in_handlers (handler_lines r) stache_d ≡ []
within-is r = handlers-told r stache_d told_d told_d-is ∙ none-told r

pub no-lines : (r : Rule) → lines stache_d r ≡ []
no-lines r = none stache_d fine-outside within-is r
