use Rattle.std.proofs.Common.{◌≡◌, nat_lt, ap, ◌∙◌, sym}
use Rattle.std.specs.List.{flat_map}
use Rattle.teapot_tree.specs.declared.protocol.State.{State}
use Rattle.teapot_tree.specs.declared.rule.Rule.TheVariants.{Undeclared, Twice, WrongType, ArgCount, ContDropped, ResumeNotLast}
use Rattle.teapot_tree.specs.declared.rule.Rule.TheVariants.{ResumeForeign, AfterSuspend, NoData, TooManySends}
use Rattle.teapot_rules.specs.Faults.{again_handlers, again_starts, lines, names_cont}
use Rattle.teapot_rules.specs.Lists.{least, lesser, line_if}
use Rattle.teapot_check.proofs.Gathering.{inner_lines}
use Rattle.teapot_check.proofs.Ruled.{undeclared_at, wrong_at, undeclared_lines, arg_count_lines, twice_lines, two_starts_lines}
use Rattle.teapot_check.proofs.checker.first_line.Goals as goal

pub returns-in-Undeclared : goal.returns-in-Undeclared
returns-in-Undeclared c =
    let p = c.args.p.now in
    let starts = c.undeclared_starts.ensures ∙ ap (λ z. least (undeclared_at p z)) c.items.ensures in
    let inner = inner_lines p c.args.sights.now c.args.rule Undeclared c.in_ok-inner.inner c.requires c.in_ok-inner.ensures
    c.in-Undeclared.is in
    let e = undeclared_lines p c.undeclared_starts.result c.in_ok-inner.inner starts inner in
    c.lesser.ensures ∙ e ∙ sym (ap (λ z. least (lines p z)) c.in-Undeclared.is)

pub returns-in-Twice : goal.returns-in-Twice
returns-in-Twice c =
    let p = c.args.p.now in
    let conts = c.clashing_conts.ensures ∙ ap (λ z. least (flat_map (λ (s : State). line_if (names_cont s) s.line) z))
    c.items-states.ensures in
    let handlers = c.second_handlers.ensures ∙ ap (λ z. least (flat_map (λ (s : State). again_handlers s.handlers) z))
    c.items-states.ensures in
    let inner = inner_lines p c.args.sights.now c.args.rule Twice c.in_ok-inner.inner c.requires c.in_ok-inner.ensures
    c.in-Twice.is in
    let e = twice_lines p c.twice_declared.result c.clashing_conts.result c.second_handlers.result c.in_ok-inner.inner
    c.twice_declared.ensures conts handlers inner in
    c.lesser-in-Twice.ensures
    ∙ ap (λ z. lesser c.twice_declared.result z) (c.lesser-outer.ensures
    ∙ ap (λ z. lesser c.clashing_conts.result z) c.lesser-handlers.ensures)
    ∙ e ∙ sym (ap (λ z. least (lines p z)) c.in-Twice.is)

pub returns-in-ArgCount : goal.returns-in-ArgCount
returns-in-ArgCount c =
    let p = c.args.p.now in
    let starts = c.wrong_starts.ensures ∙ ap (λ z. least (wrong_at p z)) c.items-in-ArgCount.ensures in
    let inner = inner_lines p c.args.sights.now c.args.rule ArgCount c.in_ok-inner.inner c.requires c.in_ok-inner.ensures
    c.in-ArgCount.is in
    let e = arg_count_lines p c.wrong_starts.result c.in_ok-inner.inner starts inner in
    c.lesser-in-ArgCount.ensures ∙ e ∙ sym (ap (λ z. least (lines p z)) c.in-ArgCount.is)

pub returns-in-NotTwoStarts : goal.returns-in-NotTwoStarts
returns-in-NotTwoStarts c =
    let p = c.args.p.now in
    let again : c.again.result ≡ least (again_starts p.starts) = c.again.ensures
    ∙ ap (λ z. least (again_starts z)) c.items-in-NotTwoStarts.ensures in
    let few = c.line_if-few.ensures ∙ ap (λ z. least (line_if (nat_lt z 2) p.line)) c.len.ensures in
    let e = two_starts_lines p c.again.result c.line_if-few.result again few in
    c.lesser-in-NotTwoStarts.ensures ∙ e ∙ sym (ap (λ z. least (lines p z)) c.in-NotTwoStarts.is)

pub returns-in-WrongType : goal.returns-in-WrongType
returns-in-WrongType c =
    let inner = inner_lines c.args.p.now c.args.sights.now c.args.rule WrongType c.in_ok-inner.inner c.requires
    c.in_ok-inner.ensures c.in-WrongType.is in
    inner ∙ sym (ap (λ z. least (lines c.args.p.now z)) c.in-WrongType.is)

pub returns-in-ContDropped : goal.returns-in-ContDropped
returns-in-ContDropped c =
    let inner = inner_lines c.args.p.now c.args.sights.now c.args.rule ContDropped c.in_ok-inner.inner c.requires
    c.in_ok-inner.ensures c.in-ContDropped.is in
    inner ∙ sym (ap (λ z. least (lines c.args.p.now z)) c.in-ContDropped.is)

pub returns-in-ResumeNotLast : goal.returns-in-ResumeNotLast
returns-in-ResumeNotLast c =
    let inner = inner_lines c.args.p.now c.args.sights.now c.args.rule ResumeNotLast c.in_ok-inner.inner c.requires
    c.in_ok-inner.ensures c.in-ResumeNotLast.is in
    inner ∙ sym (ap (λ z. least (lines c.args.p.now z)) c.in-ResumeNotLast.is)

pub returns-in-ResumeForeign : goal.returns-in-ResumeForeign
returns-in-ResumeForeign c =
    let inner = inner_lines c.args.p.now c.args.sights.now c.args.rule ResumeForeign c.in_ok-inner.inner c.requires
    c.in_ok-inner.ensures c.in-ResumeForeign.is in
    inner ∙ sym (ap (λ z. least (lines c.args.p.now z)) c.in-ResumeForeign.is)

pub returns-in-AfterSuspend : goal.returns-in-AfterSuspend
returns-in-AfterSuspend c =
    let inner = inner_lines c.args.p.now c.args.sights.now c.args.rule AfterSuspend c.in_ok-inner.inner c.requires
    c.in_ok-inner.ensures c.in-AfterSuspend.is in
    inner ∙ sym (ap (λ z. least (lines c.args.p.now z)) c.in-AfterSuspend.is)

pub returns-in-NoData : goal.returns-in-NoData
returns-in-NoData c =
    let inner = inner_lines c.args.p.now c.args.sights.now c.args.rule NoData c.in_ok-inner.inner c.requires
    c.in_ok-inner.ensures c.in-NoData.is in
    inner ∙ sym (ap (λ z. least (lines c.args.p.now z)) c.in-NoData.is)

pub returns-in-TooManySends : goal.returns-in-TooManySends
returns-in-TooManySends c =
    let inner = inner_lines c.args.p.now c.args.sights.now c.args.rule TooManySends c.in_ok-inner.inner c.requires
    c.in_ok-inner.ensures c.in-TooManySends.is in
    inner ∙ sym (ap (λ z. least (lines c.args.p.now z)) c.in-TooManySends.is)
