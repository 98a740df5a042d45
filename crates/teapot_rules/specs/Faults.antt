-- The lines at which a protocol breaks each rule, by walks.
use Rattle.std.specs.Prelude.{ℕ, nat_lt, Bool, true, false, not, List, [], ◌++◌, length, is_none}
use Rattle.std.specs.List.{list_any, flat_map}
use Rattle.std.specs.Str.{bytes_eq}
use Rattle.tw_base.specs.declared.name.Name.{Name}
use Rattle.teapot_tree.specs.declared.protocol.Handler.{Handler}
use Rattle.teapot_tree.specs.declared.protocol.MessageDecl.{MessageDecl}
use Rattle.teapot_tree.specs.declared.protocol.Param.{Param}
use Rattle.teapot_tree.specs.declared.protocol.Protocol.{Protocol}
use Rattle.teapot_tree.specs.declared.protocol.Start.{Start}
use Rattle.teapot_tree.specs.declared.protocol.State.{State}
use Rattle.teapot_tree.specs.declared.protocol.Trigger.{Trigger}
use Rattle.teapot_tree.specs.declared.protocol.Trigger.TheVariants as t
use Rattle.teapot_tree.specs.declared.rule.Rule.{Rule}
use Rattle.teapot_tree.specs.declared.rule.Rule.TheVariants.{Undeclared, Twice, WrongType, ArgCount, NoDefault, ContDropped}
use Rattle.teapot_tree.specs.declared.rule.Rule.TheVariants.{ResumeNotLast, ResumeForeign, AfterSuspend, NoData, TooManySends}
use Rattle.teapot_tree.specs.declared.rule.Rule.TheVariants.{NotTwoStarts}
use Rattle.teapot_tree.specs.Paths.{is_enqueue, is_suspend, is_resume}
use Rattle.teapot_tree.specs.Rules.{uses_undeclared, has_wrong_type, has_wrong_count, drops_cont, resumes_foreign, lacks_data}
use Rattle.teapot_tree.specs.Rules.{answers_undeclared, counts_wrongly, is_wrong_start, has_default, is_cont, is_late}
use Rattle.teapot_tree.specs.Rules.{visible_names, body_in}
use Rattle.teapot_tree.specs.Scopes.{Scope, state_of}
use Rattle.teapot_rules.specs.Lists.{line_if, again}
use Rattle.teapot_rules.specs.Walks.{step_lines, follow, not_last, most}

abbrev pub in_handlers : (Scope → List ℕ) → Protocol → List ℕ
in_handlers f p =
    flat_map (λ (s : State). flat_map (λ (h : Handler). f (record { protocol = p; state = s; handler = h })) s.handlers)
    p.states

abbrev pub same_trigger : Trigger → Trigger → Bool
same_trigger t.RdFault t.RdFault = true
same_trigger t.WrFault t.WrFault = true
same_trigger (t.Named a) (t.Named b) = bytes_eq a b
same_trigger t.Default t.Default = true
same_trigger _ _ = false

abbrev pub same_truth : Bool → Bool → Bool
same_truth true b = b
same_truth false b = not b

abbrev pub names_cont : State → Bool
names_cont s = list_any (λ (a : Param). is_cont s.cont a.name) s.params

abbrev pub again_messages : List MessageDecl → List ℕ
again_messages ms = again (λ x y. bytes_eq y.name x.name) (λ (m : MessageDecl). m.line) [] ms

abbrev pub again_params : List Param → List ℕ
again_params ps = again (λ x y. bytes_eq y.name x.name) (λ (a : Param). a.line) [] ps

abbrev pub again_states : List State → List ℕ
again_states ss = again (λ x y. bytes_eq y.name x.name) (λ (s : State). s.line) [] ss

abbrev pub again_handlers : List Handler → List ℕ
again_handlers hs = again (λ x y. same_trigger y.on x.on) (λ (h : Handler). h.line) [] hs

abbrev pub again_starts : List Start → List ℕ
again_starts ss = again (λ x y. same_truth y.home x.home) (λ (s : Start). s.line) [] ss

abbrev pub again_names : List (Name × ℕ) → List ℕ
again_names ns = again (λ (x : Name × ℕ) (y : Name × ℕ). bytes_eq y.0 x.0) (λ (x : Name × ℕ). x.1) [] ns

-- the lines of the statements of a handler that break the rule
abbrev pub body_lines : Rule → Scope → List ℕ
body_lines Undeclared c = step_lines (uses_undeclared c) (body_in c)
body_lines Twice c = follow is_enqueue is_enqueue (body_in c) false
body_lines WrongType c = step_lines (has_wrong_type c) (body_in c)
body_lines ArgCount c = step_lines (has_wrong_count c) (body_in c)
body_lines NoDefault c = step_lines (λ d. false) (body_in c)
body_lines ContDropped c = step_lines (drops_cont c) (body_in c)
body_lines ResumeNotLast c = not_last is_resume (body_in c) false
body_lines ResumeForeign c = step_lines (resumes_foreign c) (body_in c)
body_lines AfterSuspend c = follow is_suspend (is_late c.protocol.profile) (body_in c) false
body_lines NoData c = step_lines (lacks_data c) (body_in c)
body_lines TooManySends c = step_lines (λ d. false) (body_in c)
body_lines NotTwoStarts c = step_lines (λ d. false) (body_in c)

-- the lines of a handler at which it breaks the rule
abbrev pub handler_lines : Rule → Scope → List ℕ
handler_lines Undeclared c = line_if (answers_undeclared c.protocol c.handler.on) c.handler.line ++ body_lines Undeclared c
handler_lines Twice c = again_names (visible_names c) ++ body_lines Twice c
handler_lines WrongType c = body_lines WrongType c
handler_lines ArgCount c = line_if (counts_wrongly c.protocol c.handler.on c.handler.args) c.handler.line ++ body_lines ArgCount c
handler_lines NoDefault c = []
handler_lines ContDropped c = body_lines ContDropped c
handler_lines ResumeNotLast c = body_lines ResumeNotLast c
handler_lines ResumeForeign c = body_lines ResumeForeign c
handler_lines AfterSuspend c = body_lines AfterSuspend c
handler_lines NoData c = body_lines NoData c
handler_lines TooManySends c = line_if (nat_lt 32 (most (body_in c))) c.handler.line
handler_lines NotTwoStarts c = []

-- the lines of a protocol at which it breaks the rule
abbrev pub lines : Protocol → Rule → List ℕ
lines p Undeclared =
    flat_map (λ (s : Start). line_if (is_none (state_of p s.state)) s.line) p.starts
    ++ in_handlers (handler_lines Undeclared) p
lines p Twice =
    again_messages p.messages
    ++ (again_params p.infos
    ++ (again_states p.states
    ++ (flat_map (λ (s : State). line_if (names_cont s) s.line) p.states
    ++ (flat_map (λ (s : State). again_handlers s.handlers) p.states
    ++ in_handlers (handler_lines Twice) p))))
lines p WrongType = in_handlers (handler_lines WrongType) p
lines p ArgCount =
    flat_map (λ (s : Start). line_if (is_wrong_start (state_of p s.state)) s.line) p.starts
    ++ in_handlers (handler_lines ArgCount) p
lines p NoDefault = flat_map (λ (s : State). line_if (not (has_default s)) s.line) p.states
lines p ContDropped = in_handlers (handler_lines ContDropped) p
lines p ResumeNotLast = in_handlers (handler_lines ResumeNotLast) p
lines p ResumeForeign = in_handlers (handler_lines ResumeForeign) p
lines p AfterSuspend = in_handlers (handler_lines AfterSuspend) p
lines p NoData = in_handlers (handler_lines NoData) p
lines p TooManySends = in_handlers (handler_lines TooManySends) p
lines p NotTwoStarts = again_starts p.starts ++ line_if (nat_lt (length p.starts) 2) p.line
