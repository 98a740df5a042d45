-- A protocol with every line 0 breaks each rule as often as with its lines, each time at line 0.
use Rattle.std.proofs.Common.{◌≡◌, ◌∙◌, ℕ, Bool, false, not, ◌&&◌, List, [], ◌∷◌, ◌++◌, map, length, is_none, refl, ap, sym}
use Rattle.std.specs.Prelude.{nat_lt}
use Rattle.std.specs.List.{flat_map, list_all, list_any}
use Rattle.std.specs.Str.{bytes_eq}
use Rattle.std.proofs.lemmas.List.{length-map, map-append}
use Rattle.tw_base.specs.declared.name.Name.{Name}
use Rattle.teapot_tree.specs.declared.protocol.Handler.{Handler}
use Rattle.teapot_tree.specs.declared.protocol.MessageDecl.{MessageDecl}
use Rattle.teapot_tree.specs.declared.protocol.Param.{Param}
use Rattle.teapot_tree.specs.declared.protocol.Protocol.{Protocol}
use Rattle.teapot_tree.specs.declared.protocol.Start.{Start}
use Rattle.teapot_tree.specs.declared.protocol.State.{State}
use Rattle.teapot_tree.specs.declared.protocol.Trigger.{Trigger}
use Rattle.teapot_tree.specs.declared.protocol.Trigger.TheVariants as t
use Rattle.teapot_tree.specs.declared.rule.Rule.{Rule}
use Rattle.teapot_tree.specs.declared.rule.Rule.TheVariants.{Undeclared, Twice, WrongType, ArgCount, NoDefault, ContDropped}
use Rattle.teapot_tree.specs.declared.rule.Rule.TheVariants.{ResumeNotLast, ResumeForeign, AfterSuspend, NoData, TooManySends}
use Rattle.teapot_tree.specs.declared.rule.Rule.TheVariants.{NotTwoStarts}
use Rattle.teapot_tree.specs.Bare.{bare_handler, bare_message, bare_param, bare_protocol, bare_start, bare_state}
use Rattle.teapot_tree.specs.Rules.{answers_undeclared, body_in, counts_wrongly, has_default, is_cont, is_default}
use Rattle.teapot_tree.specs.Rules.{is_wrong_start, visible_names}
use Rattle.teapot_tree.specs.Scopes.{Scope, state_of}
use Rattle.teapot_rules.specs.Deeds.{breaks_at, comes_first}
use Rattle.teapot_rules.specs.Faults.{again_handlers, again_messages, again_names, again_params, again_starts, again_states}
use Rattle.teapot_rules.specs.Faults.{body_lines, handler_lines, in_handlers, lines, names_cont, same_trigger, same_truth}
use Rattle.teapot_rules.specs.Lists.{again, line_if}
use Rattle.teapot_rules.specs.Walks.{most, walk}
use Rattle.teapot_rules.proofs.Ruling.{walk_lines}
use Rattle.stache_rules.proofs.Unlined.{any-map, body-bare, flat-zeros, joined, line-as, most-bare, one_line, walk-bare, zeros}
use Rattle.stache_rules.proofs.Unseen.{bare_scope, breaks-bare, message-count, message-none, state-none, wrong-start}

-- ---- what stands twice

again-zeros : {X Y : Type 0} (f : X → Y) (same : Y → Y → Bool) (line : Y → ℕ) (mine : X → ℕ) → ((x : X) → line (f x) ≡ 0) →
    (seen xs : List X) → again same line (map f seen) (map f xs) ≡ zeros (again (λ x y. same (f x) (f y)) mine seen xs)
again-zeros f same line mine z seen [] = refl
again-zeros f same line mine z seen (x ∷ xs) =
    joined (line_if (list_any (λ y. same (f x) (f y)) seen) (mine x)) (again (λ x y. same (f x) (f y)) mine (seen ++ x ∷ []) xs)
    ((λ i. line_if (any-map f (same (f x)) seen i) (z x i)) ∙ one_line (list_any (λ y. same (f x) (f y)) seen) (mine x))
    (ap (λ s. again same line s (map f xs)) (sym (map-append f seen (x ∷ [])))
    ∙ again-zeros f same line mine z (seen ++ x ∷ []) xs)

abbrev unlined : Name × ℕ → Name × ℕ
unlined x = (x.0, 0)

abbrev named_at : Param → Name × ℕ
named_at a = (a.name, a.line)

abbrev with_line : ℕ → Name → Name × ℕ
with_line line n = (n, line)

params-named : (ps : List Param) → map named_at (map bare_param ps) ≡ map unlined (map named_at ps)
params-named [] = refl
params-named (a ∷ ps) = ap (λ xs. unlined (named_at a) ∷ xs) (params-named ps)

args-named : (line : ℕ) (ns : List Name) → map (with_line 0) ns ≡ map unlined (map (with_line line) ns)
args-named line [] = refl
args-named line (n ∷ ns) = ap (λ xs. with_line 0 n ∷ xs) (args-named line ns)

both_named : (xs ys : List (Name × ℕ)) {us vs : List (Name × ℕ)} → us ≡ map unlined xs → vs ≡ map unlined ys →
    us ++ vs ≡ map unlined (xs ++ ys)
both_named xs ys h k = (λ i. h i ++ k i) ∙ sym (map-append unlined xs ys)

visible-named : (c : Scope) → visible_names (bare_scope c) ≡ map unlined (visible_names c)
visible-named c =
    both_named (map named_at c.protocol.infos) (map named_at c.state.params
    ++ (map (with_line c.handler.line) c.handler.args ++ map named_at c.handler.locals)) (params-named c.protocol.infos)
    (both_named (map named_at c.state.params) (map (with_line c.handler.line) c.handler.args ++ map named_at c.handler.locals)
    (params-named c.state.params)
    (both_named (map (with_line c.handler.line) c.handler.args) (map named_at c.handler.locals)
    (args-named c.handler.line c.handler.args) (params-named c.handler.locals)))

names-zeros : (c : Scope) → again_names (visible_names (bare_scope c)) ≡ zeros (again_names (visible_names c))
names-zeros c = ap again_names (visible-named c) ∙ again-zeros unlined (λ x y. bytes_eq y.0 x.0) (λ x. x.1) (λ x. x.1)
    (λ x. refl) [] (visible_names c)

-- ---- handlers

body-zeros : (r : Rule) (c : Scope) → body_lines r (bare_scope c) ≡ zeros (body_lines r c)
body-zeros r c =
    sym (walk_lines r (bare_scope c))
    ∙ ((λ i. walk (comes_first r) (λ had more d. breaks-bare c r had more d i) (body_in (bare_scope c)) false false)
    ∙ (ap (λ b. walk (comes_first r) (breaks_at c r) b false false) (body-bare c.handler.body)
    ∙ (walk-bare (comes_first r) (breaks_at c r) (body_in c) false false ∙ ap zeros (walk_lines r c))))

answers-bare : (p : Protocol) (g : Trigger) → answers_undeclared (bare_protocol p) g ≡ answers_undeclared p g
answers-bare p t.RdFault = refl
answers-bare p t.WrFault = refl
answers-bare p (t.Named n) = message-none p n
answers-bare p t.Default = refl

counts-bare : (p : Protocol) (g : Trigger) (args : List Name) → counts_wrongly (bare_protocol p) g args ≡ counts_wrongly p g args
counts-bare p t.RdFault args = refl
counts-bare p t.WrFault args = refl
counts-bare p (t.Named n) args = ap not (message-count p n (length args))
counts-bare p t.Default args = refl

handler-zeros : (r : Rule) (c : Scope) → handler_lines r (bare_scope c) ≡ zeros (handler_lines r c)
handler-zeros Undeclared c =
    joined (line_if (answers_undeclared c.protocol c.handler.on) c.handler.line) (body_lines Undeclared c)
    (line-as (answers_undeclared (bare_protocol c.protocol) c.handler.on)
    (answers_undeclared c.protocol c.handler.on) c.handler.line (answers-bare c.protocol c.handler.on))
    (body-zeros Undeclared c)
handler-zeros Twice c = joined (again_names (visible_names c)) (body_lines Twice c) (names-zeros c) (body-zeros Twice c)
handler-zeros WrongType c = body-zeros WrongType c
handler-zeros ArgCount c =
    joined (line_if (counts_wrongly c.protocol c.handler.on c.handler.args) c.handler.line) (body_lines ArgCount c)
    (line-as (counts_wrongly (bare_protocol c.protocol) c.handler.on c.handler.args)
    (counts_wrongly c.protocol c.handler.on c.handler.args) c.handler.line
    (counts-bare c.protocol c.handler.on c.handler.args))
    (body-zeros ArgCount c)
handler-zeros NoDefault c = refl
handler-zeros ContDropped c = body-zeros ContDropped c
handler-zeros ResumeNotLast c = body-zeros ResumeNotLast c
handler-zeros ResumeForeign c = body-zeros ResumeForeign c
handler-zeros AfterSuspend c = body-zeros AfterSuspend c
handler-zeros NoData c = body-zeros NoData c
handler-zeros TooManySends c =
    line-as (nat_lt 32 (most (body_in (bare_scope c)))) (nat_lt 32 (most (body_in c))) c.handler.line
    (ap (λ n. nat_lt 32 n) (ap most (body-bare c.handler.body) ∙ most-bare (body_in c)))
handler-zeros NotTwoStarts c = refl

inner : (r : Rule) (p : Protocol) → in_handlers (handler_lines r) (bare_protocol p) ≡ zeros (in_handlers (handler_lines r) p)
inner r p =
    flat-zeros bare_state
    (λ (s : State). flat_map (λ (h : Handler). handler_lines r (record { protocol = bare_protocol p; state = s; handler = h }))
    s.handlers)
    (λ (s : State). flat_map (λ (h : Handler). handler_lines r (record { protocol = p; state = s; handler = h })) s.handlers)
    (λ s. flat-zeros bare_handler
    (λ (h : Handler). handler_lines r (record { protocol = bare_protocol p; state = bare_state s; handler = h }))
    (λ (h : Handler). handler_lines r (record { protocol = p; state = s; handler = h }))
    (λ h. handler-zeros r (record { protocol = p; state = s; handler = h })) s.handlers)
    p.states

-- ---- protocols

all-map : {X Y : Type 0} (f : X → Y) (t : Y → Bool) (xs : List X) → list_all t (map f xs) ≡ list_all (λ x. t (f x)) xs
all-map f t [] = refl
all-map f t (x ∷ xs) = ap (λ v. t (f x) && v) (all-map f t xs)

default-bare : (s : State) → has_default (bare_state s) ≡ has_default s
default-bare s = ap not (all-map bare_handler (λ (h : Handler). not (is_default h.on)) s.handlers)

undeclared_starts : (p : Protocol) → flat_map (λ (s : Start). line_if (is_none (state_of (bare_protocol p) s.state)) s.line)
    (map bare_start p.starts) ≡ zeros (flat_map (λ (s : Start). line_if (is_none (state_of p s.state)) s.line) p.starts)
undeclared_starts p =
    flat-zeros bare_start (λ (s : Start). line_if (is_none (state_of (bare_protocol p) s.state)) s.line)
    (λ (s : Start). line_if (is_none (state_of p s.state)) s.line)
    (λ s. line-as (is_none (state_of (bare_protocol p) s.state)) (is_none (state_of p s.state)) s.line (state-none p s.state))
    p.starts

wrong_starts : (p : Protocol) → flat_map (λ (s : Start). line_if (is_wrong_start (state_of (bare_protocol p) s.state)) s.line)
    (map bare_start p.starts) ≡ zeros (flat_map (λ (s : Start). line_if (is_wrong_start (state_of p s.state)) s.line) p.starts)
wrong_starts p =
    flat-zeros bare_start (λ (s : Start). line_if (is_wrong_start (state_of (bare_protocol p) s.state)) s.line)
    (λ (s : Start). line_if (is_wrong_start (state_of p s.state)) s.line)
    (λ s. line-as (is_wrong_start (state_of (bare_protocol p) s.state)) (is_wrong_start (state_of p s.state)) s.line
    (wrong-start p s.state)) p.starts

clashing : (ss : List State) → flat_map (λ (s : State). line_if (names_cont s) s.line) (map bare_state ss)
    ≡ zeros (flat_map (λ (s : State). line_if (names_cont s) s.line) ss)
clashing ss =
    flat-zeros bare_state (λ (s : State). line_if (names_cont s) s.line) (λ (s : State). line_if (names_cont s) s.line)
    (λ s. line-as (names_cont (bare_state s)) (names_cont s) s.line
    (any-map bare_param (λ (a : Param). is_cont s.cont a.name) s.params)) ss

handlers_again : (ss : List State) → flat_map (λ (s : State). again_handlers s.handlers) (map bare_state ss)
    ≡ zeros (flat_map (λ (s : State). again_handlers s.handlers) ss)
handlers_again ss =
    flat-zeros bare_state (λ (s : State). again_handlers s.handlers) (λ (s : State). again_handlers s.handlers)
    (λ s. again-zeros bare_handler (λ x y. same_trigger y.on x.on) (λ (h : Handler). h.line) (λ (h : Handler). h.line)
    (λ h. refl) [] s.handlers) ss

no_default : (ss : List State) → flat_map (λ (s : State). line_if (not (has_default s)) s.line) (map bare_state ss)
    ≡ zeros (flat_map (λ (s : State). line_if (not (has_default s)) s.line) ss)
no_default ss =
    flat-zeros bare_state (λ (s : State). line_if (not (has_default s)) s.line)
    (λ (s : State). line_if (not (has_default s)) s.line)
    (λ s. line-as (not (has_default (bare_state s))) (not (has_default s)) s.line (ap not (default-bare s))) ss

pub lines-zeros : (p : Protocol) (r : Rule) → lines (bare_protocol p) r ≡ zeros (lines p r)
lines-zeros p Undeclared =
    joined (flat_map (λ (s : Start). line_if (is_none (state_of p s.state)) s.line) p.starts)
    (in_handlers (handler_lines Undeclared) p) (undeclared_starts p) (inner Undeclared p)
lines-zeros p Twice =
    joined (again_messages p.messages) _ (again-zeros bare_message (λ x y. bytes_eq y.name x.name)
    (λ (m : MessageDecl). m.line) (λ (m : MessageDecl). m.line) (λ m. refl) [] p.messages)
    (joined (again_params p.infos) _ (again-zeros bare_param (λ x y. bytes_eq y.name x.name) (λ (a : Param). a.line)
    (λ (a : Param). a.line) (λ a. refl) [] p.infos)
    (joined (again_states p.states) _ (again-zeros bare_state (λ x y. bytes_eq y.name x.name) (λ (s : State). s.line)
    (λ (s : State). s.line) (λ s. refl) [] p.states)
    (joined (flat_map (λ (s : State). line_if (names_cont s) s.line) p.states) _ (clashing p.states)
    (joined (flat_map (λ (s : State). again_handlers s.handlers) p.states) (in_handlers (handler_lines Twice) p)
    (handlers_again p.states) (inner Twice p)))))
lines-zeros p WrongType = inner WrongType p
lines-zeros p ArgCount =
    joined (flat_map (λ (s : Start). line_if (is_wrong_start (state_of p s.state)) s.line) p.starts)
    (in_handlers (handler_lines ArgCount) p) (wrong_starts p) (inner ArgCount p)
lines-zeros p NoDefault = no_default p.states
lines-zeros p ContDropped = inner ContDropped p
lines-zeros p ResumeNotLast = inner ResumeNotLast p
lines-zeros p ResumeForeign = inner ResumeForeign p
lines-zeros p AfterSuspend = inner AfterSuspend p
lines-zeros p NoData = inner NoData p
lines-zeros p TooManySends = inner TooManySends p
lines-zeros p NotTwoStarts =
    joined (again_starts p.starts) (line_if (nat_lt (length p.starts) 2) p.line)
    (again-zeros bare_start (λ x y. same_truth y.home x.home) (λ (s : Start). s.line) (λ (s : Start). s.line)
    (λ s. refl) [] p.starts)
    (line-as (nat_lt (length (map bare_start p.starts)) 2) (nat_lt (length p.starts) 2) p.line
    (ap (λ n. nat_lt n 2) (length-map p.starts bare_start)))
