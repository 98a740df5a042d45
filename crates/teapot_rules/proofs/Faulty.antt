-- The lines that the walks find are those at which a rule is broken.
use Rattle.std.proofs.Common.{◌≡◌, ℕ, ◌<◌, Bool, true, false, not, List, [], ◌∷◌, ◌++◌, map, length, Option, Some, None}
use Rattle.std.proofs.Common.{is_none, refl, ap, sym, subst, inl, inr, ◌⊎◌, nat_lt}
use Rattle.std.specs.Prelude.{◌↔◌}
use Rattle.std.specs.List.{flat_map, list_any}
use Rattle.std.specs.Str.{bytes_eq}
use Rattle.std.proofs.lemmas.Bool.Decides.{Decides-ltb}
use Rattle.std.proofs.lemmas.Slice.Eq.{bytes_eq-Decides}
use Rattle.tw_base.specs.declared.name.Name.{Name}
use Rattle.teapot_tree.specs.declared.protocol.Handler.{Handler}
use Rattle.teapot_tree.specs.declared.protocol.MessageDecl.{MessageDecl}
use Rattle.teapot_tree.specs.declared.protocol.Param.{Param}
use Rattle.teapot_tree.specs.declared.protocol.Protocol.{Protocol}
use Rattle.teapot_tree.specs.declared.protocol.Start.{Start}
use Rattle.teapot_tree.specs.declared.protocol.State.{State}
use Rattle.teapot_tree.specs.declared.protocol.Trigger.{Trigger}
use Rattle.teapot_tree.specs.declared.protocol.Trigger.TheVariants as t
use Rattle.teapot_tree.specs.declared.rule.Rule.{Rule}
use Rattle.teapot_tree.specs.declared.rule.Rule.TheVariants.{Undeclared, Twice, WrongType, ArgCount, NoDefault, ContDropped}
use Rattle.teapot_tree.specs.declared.rule.Rule.TheVariants.{ResumeNotLast, ResumeForeign, AfterSuspend, NoData, TooManySends}
use Rattle.teapot_tree.specs.declared.rule.Rule.TheVariants.{NotTwoStarts}
use Rattle.teapot_tree.specs.Bodies.{Body}
use Rattle.teapot_tree.specs.Paths.{Deed, Step, steps_in, Sends, Follows, NotLast, is_enqueue, is_suspend, is_resume}
use Rattle.teapot_tree.specs.Rules.{Any, Again, Breaks, InHandler, OnPath, AtStep, uses_undeclared, has_wrong_type}
use Rattle.teapot_tree.specs.Rules.{has_wrong_count, drops_cont, resumes_foreign, lacks_data, answers_undeclared}
use Rattle.teapot_tree.specs.Rules.{counts_wrongly, is_wrong_start, has_default, is_cont, is_late, visible_names, body_in}
use Rattle.teapot_tree.specs.Scopes.{Scope, state_of}
use Rattle.teapot_rules.specs.Lists.{Lists, line_if}
use Rattle.teapot_rules.specs.Walks.{step_lines, follow, not_last, most}
use Rattle.teapot_rules.specs.Faults.{in_handlers, same_trigger, same_truth, names_cont, again_messages, again_params}
use Rattle.teapot_rules.specs.Faults.{again_states, again_handlers, again_starts, again_names, lines}
use Rattle.teapot_rules.proofs.Listing.{lists-if, lists-append, lists-flat, lists-other}
use Rattle.teapot_rules.proofs.Againing.{lists-again}
use Rattle.teapot_rules.proofs.Follows.{or-split, or-left, or-right, follow-is}
use Rattle.teapot_rules.proofs.Lasts.{not_last-is}
use Rattle.teapot_rules.proofs.Counts.{most-is}

lists-steps : (test : Deed → Bool) (b : Body) → Lists (step_lines test b)
    (λ line. Any (λ (s : Step). (s.line ≡ line) × (test s.deed ≡ true)) (steps_in b))
lists-steps test b = lists-flat (λ (s : Step). line_if (test s.deed) s.line)
    (λ (s : Step) line. (s.line ≡ line) × (test s.deed ≡ true)) (λ (s : Step). lists-if (test s.deed) s.line) (steps_in b)

lists-handlers : (f : Scope → List ℕ) (P : Scope → ℕ → Type 0) → ((c : Scope) → Lists (f c) (P c)) → (p : Protocol) →
    Lists (in_handlers f p) (λ line. InHandler (λ c. P c line) p)
lists-handlers f P each p =
    lists-flat (λ (s : State). flat_map (λ (h : Handler). f (record { protocol = p; state = s; handler = h })) s.handlers)
    (λ (s : State) line. Any (λ (h : Handler). P (record { protocol = p; state = s; handler = h }) line) s.handlers)
    (λ (s : State). lists-flat (λ (h : Handler). f (record { protocol = p; state = s; handler = h }))
    (λ (h : Handler) line. P (record { protocol = p; state = s; handler = h }) line)
    (λ (h : Handler). each (record { protocol = p; state = s; handler = h })) s.handlers)
    p.states

-- ---- tests

bytes-is : (a b : Name) → (bytes_eq a b ≡ true) ↔ (a ≡ b)
bytes-is a b = bytes_eq-Decides a b

trigger-is : (a b : Trigger) → (same_trigger a b ≡ true) ↔ (a ≡ b)
trigger-is t.RdFault t.RdFault = (λ h. refl, λ h. refl)
trigger-is t.RdFault t.WrFault = (λ h. absurd (cc), λ h. absurd (cc))
trigger-is t.RdFault (t.Named n) = (λ h. absurd (cc), λ h. absurd (cc))
trigger-is t.RdFault t.Default = (λ h. absurd (cc), λ h. absurd (cc))
trigger-is t.WrFault t.RdFault = (λ h. absurd (cc), λ h. absurd (cc))
trigger-is t.WrFault t.WrFault = (λ h. refl, λ h. refl)
trigger-is t.WrFault (t.Named n) = (λ h. absurd (cc), λ h. absurd (cc))
trigger-is t.WrFault t.Default = (λ h. absurd (cc), λ h. absurd (cc))
trigger-is (t.Named m) t.RdFault = (λ h. absurd (cc), λ h. absurd (cc))
trigger-is (t.Named m) t.WrFault = (λ h. absurd (cc), λ h. absurd (cc))
trigger-is (t.Named m) (t.Named n) = (λ h. ap (λ z. t.Named z) ((bytes-is m n).0 h), λ h. (bytes-is m n).1 (cc))
trigger-is (t.Named m) t.Default = (λ h. absurd (cc), λ h. absurd (cc))
trigger-is t.Default t.RdFault = (λ h. absurd (cc), λ h. absurd (cc))
trigger-is t.Default t.WrFault = (λ h. absurd (cc), λ h. absurd (cc))
trigger-is t.Default (t.Named n) = (λ h. absurd (cc), λ h. absurd (cc))
trigger-is t.Default t.Default = (λ h. refl, λ h. refl)

truth-is : (a b : Bool) → (same_truth a b ≡ true) ↔ (a ≡ b)
truth-is true true = (λ h. refl, λ h. refl)
truth-is true false = (λ h. absurd (cc), λ h. absurd (cc))
truth-is false true = (λ h. absurd (cc), λ h. absurd (cc))
truth-is false false = (λ h. refl, λ h. refl)

cont-is : (k : Option Name) (n : Name) → (is_cont k n ≡ true) ↔ (k ≡ Some n)
cont-is None n = (λ h. absurd (cc), λ h. absurd (cc))
cont-is (Some k) n = (λ h. ap (λ z. Some z) ((bytes-is k n).0 h), λ h. (bytes-is k n).1 (cc))

any-is : {X : Type 0} (test : X → Bool) (P : X → Type 0) → ((x : X) → (test x ≡ true) ↔ P x) → (xs : List X) →
    (list_any test xs ≡ true) ↔ Any P xs
any-is test P f [] = (λ h. absurd (cc), λ h. absurd h)
any-is test P f (x ∷ xs) = (
  λ h. elim (or-split (test x) (list_any test xs) h) [ inl k ↦ inl ((f x).0 k) | inr k ↦ inr ((any-is test P f xs).0 k) ],
  λ h. elim h [
    | inl k ↦ or-left (test x) (list_any test xs) ((f x).1 k)
    | inr k ↦ or-right (test x) (list_any test xs)
        ((any-is test P f xs).1 k)
  ],
)

not-is : (b : Bool) → (not b ≡ true) ↔ (b ≡ false)
not-is true = (λ h. absurd (cc), λ h. absurd (cc))
not-is false = (λ h. refl, λ h. refl)

pub less-is : (a b : ℕ) → (nat_lt a b ≡ true) ↔ (a < b)
less-is a b = Decides-ltb a b

-- a test on a line, said otherwise
lists-test : (b : Bool) (n : ℕ) (P : Type 0) → (b ≡ true) ↔ P → Lists (line_if b n) (λ line. (n ≡ line) × P)
lists-test b n P f = lists-other (line_if b n) (lists-if b n) (λ line. (λ h. (h.0, f.0 h.1), λ h. (h.0, f.1 h.1)))

map-same : (ns : List (Name × ℕ)) → map (λ (x : Name × ℕ). (x.0, x.1)) ns ≡ ns
map-same [] = refl
map-same (n ∷ ns) = ap (λ z. n ∷ z) (map-same ns)

names-again : (ns : List (Name × ℕ)) → Lists (again_names ns) (λ line. Again ns line)
names-again ns line =
    let f = lists-again (λ (x : Name × ℕ) (y : Name × ℕ). bytes_eq y.0 x.0) (λ (x : Name × ℕ). x.1) (λ (x : Name × ℕ). x.0)
    (λ (x : Name × ℕ) (y : Name × ℕ). bytes-is y.0 x.0) ns line in
    let e : map (λ (x : Name × ℕ). (x.0, x.1)) ns ≡ ns = map-same ns in
    (λ h. subst (λ z. Again z line) e (f.0 h), λ h. f.1 (subst (λ z. Again z line) (sym e) h))

-- ---- rule by rule

pub lines-are : (p : Protocol) (r : Rule) → Lists (lines p r) (λ line. Breaks p line r)
lines-are p Undeclared =
    lists-append (flat_map (λ (s : Start). line_if (is_none (state_of p s.state)) s.line) p.starts)
    (in_handlers (λ c. line_if (answers_undeclared p c.handler.on) c.handler.line
    ++ step_lines (uses_undeclared c) (body_in c)) p)
    (lists-flat (λ (s : Start). line_if (is_none (state_of p s.state)) s.line)
    (λ (s : Start) line. (s.line ≡ line) × (is_none (state_of p s.state) ≡ true))
    (λ (s : Start). lists-if (is_none (state_of p s.state)) s.line) p.starts)
    (lists-handlers (λ c. line_if (answers_undeclared p c.handler.on) c.handler.line
    ++ step_lines (uses_undeclared c) (body_in c))
    (λ c line. ((c.handler.line ≡ line) × (answers_undeclared p c.handler.on ≡ true)) ⊎ AtStep uses_undeclared c line)
    (λ c. lists-append (line_if (answers_undeclared p c.handler.on) c.handler.line)
    (step_lines (uses_undeclared c) (body_in c)) (lists-if (answers_undeclared p c.handler.on) c.handler.line)
    (lists-steps (uses_undeclared c) (body_in c))) p)
lines-are p Twice =
    lists-append (again_messages p.messages) _ (lists-again (λ (x : MessageDecl) (y : MessageDecl). bytes_eq y.name x.name)
    (λ (m : MessageDecl). m.line) (λ (m : MessageDecl). m.name)
    (λ (x : MessageDecl) (y : MessageDecl). bytes-is y.name x.name) p.messages)
    (lists-append (again_params p.infos) _ (lists-again (λ (x : Param) (y : Param). bytes_eq y.name x.name)
    (λ (a : Param). a.line) (λ (a : Param). a.name) (λ (x : Param) (y : Param). bytes-is y.name x.name) p.infos)
    (lists-append (again_states p.states) _ (lists-again (λ (x : State) (y : State). bytes_eq y.name x.name)
    (λ (s : State). s.line) (λ (s : State). s.name) (λ (x : State) (y : State). bytes-is y.name x.name) p.states)
    (lists-append (flat_map (λ (s : State). line_if (names_cont s) s.line) p.states) _
    (lists-flat (λ (s : State). line_if (names_cont s) s.line)
    (λ (s : State) line. (s.line ≡ line) × Any (λ (a : Param). s.cont ≡ Some a.name) s.params)
    (λ (s : State). lists-test (names_cont s) s.line (Any (λ (a : Param). s.cont ≡ Some a.name) s.params)
    (any-is (λ (a : Param). is_cont s.cont a.name) (λ (a : Param). s.cont ≡ Some a.name)
    (λ (a : Param). cont-is s.cont a.name) s.params)) p.states)
    (lists-append (flat_map (λ (s : State). again_handlers s.handlers) p.states)
    (in_handlers (λ c. again_names (visible_names c) ++ follow is_enqueue is_enqueue (body_in c) false) p)
    (lists-flat (λ (s : State). again_handlers s.handlers) (λ (s : State) line. Again
    (map (λ (h : Handler). (h.on, h.line)) s.handlers) line)
    (λ (s : State). lists-again (λ (x : Handler) (y : Handler). same_trigger y.on x.on) (λ (h : Handler). h.line)
    (λ (h : Handler). h.on) (λ (x : Handler) (y : Handler). trigger-is y.on x.on) s.handlers) p.states)
    (lists-handlers (λ c. again_names (visible_names c) ++ follow is_enqueue is_enqueue (body_in c) false)
    (λ c line. Again (visible_names c) line ⊎ OnPath (Follows is_enqueue is_enqueue line) c)
    (λ c. lists-append (again_names (visible_names c)) (follow is_enqueue is_enqueue (body_in c) false)
    (names-again (visible_names c)) (follow-is is_enqueue is_enqueue (body_in c))) p)))))
lines-are p WrongType = lists-handlers (λ c. step_lines (has_wrong_type c) (body_in c)) (AtStep has_wrong_type)
    (λ c. lists-steps (has_wrong_type c) (body_in c)) p
lines-are p ArgCount =
    lists-append (flat_map (λ (s : Start). line_if (is_wrong_start (state_of p s.state)) s.line) p.starts)
    (in_handlers (λ c. line_if (counts_wrongly p c.handler.on c.handler.args) c.handler.line
    ++ step_lines (has_wrong_count c) (body_in c)) p)
    (lists-flat (λ (s : Start). line_if (is_wrong_start (state_of p s.state)) s.line)
    (λ (s : Start) line. (s.line ≡ line) × (is_wrong_start (state_of p s.state) ≡ true))
    (λ (s : Start). lists-if (is_wrong_start (state_of p s.state)) s.line) p.starts)
    (lists-handlers (λ c. line_if (counts_wrongly p c.handler.on c.handler.args) c.handler.line
    ++ step_lines (has_wrong_count c) (body_in c))
    (λ c line. ((c.handler.line ≡ line) × (counts_wrongly p c.handler.on c.handler.args ≡ true)) ⊎ AtStep has_wrong_count c line)
    (λ c. lists-append (line_if (counts_wrongly p c.handler.on c.handler.args) c.handler.line)
    (step_lines (has_wrong_count c) (body_in c)) (lists-if (counts_wrongly p c.handler.on c.handler.args) c.handler.line)
    (lists-steps (has_wrong_count c) (body_in c))) p)
lines-are p NoDefault = lists-flat (λ (s : State). line_if (not (has_default s)) s.line)
    (λ (s : State) line. (s.line ≡ line) × (has_default s ≡ false))
    (λ (s : State). lists-test (not (has_default s)) s.line (has_default s ≡ false) (not-is (has_default s))) p.states
lines-are p ContDropped = lists-handlers (λ c. step_lines (drops_cont c) (body_in c)) (AtStep drops_cont)
    (λ c. lists-steps (drops_cont c) (body_in c)) p
lines-are p ResumeNotLast = lists-handlers (λ c. not_last is_resume (body_in c) false)
    (λ c line. OnPath (NotLast is_resume line) c) (λ c. not_last-is is_resume (body_in c)) p
lines-are p ResumeForeign = lists-handlers (λ c. step_lines (resumes_foreign c) (body_in c)) (AtStep resumes_foreign)
    (λ c. lists-steps (resumes_foreign c) (body_in c)) p
lines-are p AfterSuspend = lists-handlers (λ c. follow is_suspend (is_late p.profile) (body_in c) false)
    (λ c line. OnPath (Follows is_suspend (is_late p.profile) line) c)
    (λ c. follow-is is_suspend (is_late p.profile) (body_in c)) p
lines-are p NoData = lists-handlers (λ c. step_lines (lacks_data c) (body_in c)) (AtStep lacks_data)
    (λ c. lists-steps (lacks_data c) (body_in c)) p
lines-are p TooManySends =
    lists-handlers (λ c. line_if (nat_lt 32 (most (body_in c))) c.handler.line)
    (λ c line. (c.handler.line ≡ line) × ((n : ℕ) × Sends (body_in c) n × (32 < n)))
    (λ c. lists-test (nat_lt 32 (most (body_in c))) c.handler.line ((n : ℕ) × Sends (body_in c) n × (32 < n))
    (let f = less-is 32 (most (body_in c)) in let g = most-is (body_in c) in (λ h. g.0 (f.0 h), λ h. f.1 (g.1 h)))) p
lines-are p NotTwoStarts =
    lists-append (again_starts p.starts) (line_if (nat_lt (length p.starts) 2) p.line)
    (lists-again (λ (x : Start) (y : Start). same_truth y.home x.home) (λ (s : Start). s.line) (λ (s : Start). s.home)
    (λ (x : Start) (y : Start). truth-is y.home x.home) p.starts)
    (lists-test (nat_lt (length p.starts) 2) p.line (length p.starts < 2) (less-is (length p.starts) 2))
