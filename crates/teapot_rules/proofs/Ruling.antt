-- The one walk is, for each rule, that rule's walk.
use Rattle.std.proofs.Common.{◌≡◌, false}
use Rattle.teapot_tree.specs.declared.rule.Rule.{Rule}
use Rattle.teapot_tree.specs.declared.rule.Rule.TheVariants.{Undeclared, Twice, WrongType, ArgCount, NoDefault, ContDropped}
use Rattle.teapot_tree.specs.declared.rule.Rule.TheVariants.{ResumeNotLast, ResumeForeign, AfterSuspend, NoData, TooManySends}
use Rattle.teapot_tree.specs.declared.rule.Rule.TheVariants.{NotTwoStarts}
use Rattle.teapot_tree.specs.Paths.{is_enqueue, is_suspend}
use Rattle.teapot_tree.specs.Rules.{uses_undeclared, has_wrong_type, has_wrong_count, drops_cont, resumes_foreign, lacks_data}
use Rattle.teapot_tree.specs.Rules.{is_late, body_in}
use Rattle.teapot_tree.specs.Scopes.{Scope}
use Rattle.teapot_rules.specs.Deeds.{comes_first, breaks_at}
use Rattle.teapot_rules.specs.Faults.{body_lines}
use Rattle.teapot_rules.specs.Walks.{walk}
use Rattle.teapot_rules.proofs.Appending.{follow-walk, last-walk, steps-walk}

pub walk_lines : (r : Rule) (c : Scope) → walk (comes_first r) (breaks_at c r) (body_in c) false false ≡ body_lines r c
walk_lines Undeclared c = steps-walk (comes_first Undeclared) (uses_undeclared c) (body_in c) false false
walk_lines Twice c = follow-walk is_enqueue is_enqueue (body_in c) false false
walk_lines WrongType c = steps-walk (comes_first WrongType) (has_wrong_type c) (body_in c) false false
walk_lines ArgCount c = steps-walk (comes_first ArgCount) (has_wrong_count c) (body_in c) false false
walk_lines NoDefault c = steps-walk (comes_first NoDefault) (λ d. false) (body_in c) false false
walk_lines ContDropped c = steps-walk (comes_first ContDropped) (drops_cont c) (body_in c) false false
walk_lines ResumeNotLast c = last-walk (comes_first ResumeNotLast) (body_in c) false false
walk_lines ResumeForeign c = steps-walk (comes_first ResumeForeign) (resumes_foreign c) (body_in c) false false
walk_lines AfterSuspend c = follow-walk is_suspend (is_late c.protocol.profile) (body_in c) false false
walk_lines NoData c = steps-walk (comes_first NoData) (lacks_data c) (body_in c) false false
walk_lines TooManySends c = steps-walk (comes_first TooManySends) (λ d. false) (body_in c) false false
walk_lines NotTwoStarts c = steps-walk (comes_first NotTwoStarts) (λ d. false) (body_in c) false false
