-- The literal tree breaks no rule: the lines of each rule, over plain data, are none.
use Rattle.std.proofs.Common.{◌≡◌, ◌∙◌, ℕ, false, not, List, [], ◌++◌, map, length, is_none, refl, ap, sym}
use Rattle.std.specs.Prelude.{nat_lt}
use Rattle.std.specs.List.{flat_map}
use Rattle.teapot_tree.specs.declared.protocol.Handler.{Handler}
use Rattle.teapot_tree.specs.declared.protocol.Protocol.{Protocol}
use Rattle.teapot_tree.specs.declared.protocol.Start.{Start}
use Rattle.teapot_tree.specs.declared.protocol.State.{State}
use Rattle.teapot_tree.specs.declared.rule.Rule.{Rule}
use Rattle.teapot_tree.specs.declared.rule.Rule.TheVariants.{Undeclared, Twice, WrongType, ArgCount, NoDefault, ContDropped}
use Rattle.teapot_tree.specs.declared.rule.Rule.TheVariants.{ResumeNotLast, ResumeForeign, AfterSuspend, NoData, TooManySends}
use Rattle.teapot_tree.specs.declared.rule.Rule.TheVariants.{NotTwoStarts}
use Rattle.teapot_tree.specs.Rules.{answers_undeclared, counts_wrongly, has_default, is_wrong_start, visible_names}
use Rattle.teapot_tree.specs.Scopes.{Scope, state_of}
use Rattle.teapot_rules.specs.Deeds.{breaks_at, comes_first}
use Rattle.teapot_rules.specs.Faults.{again_handlers, again_messages, again_names, again_params, again_starts, again_states}
use Rattle.teapot_rules.specs.Faults.{body_lines, handler_lines, in_handlers, lines, names_cont}
use Rattle.teapot_rules.specs.Lists.{line_if}
use Rattle.teapot_rules.specs.Walks.{most, walk}
use Rattle.teapot_rules.proofs.Ruling.{walk_lines}
use Rattle.stache_tree.specs.Tree.{stache, states}
use Rattle.stache_tree.proofs.Bodies.{body-is, code_body}
use Rattle.stache_rules.proofs.Acts.{act_lines, flat-as, mistyped, mistyped-lines, undeclared, undeclared-lines}
use Rattle.stache_rules.proofs.Doors.{Door, Told, handler_of, state_of as told_state, told, told-is}

abbrev pub scope_at : Protocol → Told → Door → Scope
scope_at p t d = record { protocol = p; state = told_state t; handler = handler_of d }

-- the lines of a handler's statements, over its code
abbrev pub walked : Rule → Protocol → Told → Door → List ℕ
walked r p t d = walk (comes_first r) (breaks_at (scope_at p t d) r) (code_body d.code) false false

walked-is : (r : Rule) (p : Protocol) (t : Told) (d : Door) → body_lines r (scope_at p t d) ≡ walked r p t d
walked-is r p t d = sym (walk_lines r (scope_at p t d)) ∙ ap
    (λ b. walk (comes_first r) (breaks_at (scope_at p t d) r) b false false) (body-is d.code)

abbrev pub told_lines : Rule → Protocol → Told → Door → List ℕ
told_lines Undeclared p t d = line_if (answers_undeclared p d.trigger) 0 ++ act_lines (undeclared (scope_at p t d)) d.code
told_lines Twice p t d = again_names (visible_names (scope_at p t d)) ++ walked Twice p t d
told_lines WrongType p t d = act_lines (mistyped (scope_at p t d)) d.code
told_lines ArgCount p t d = line_if (counts_wrongly p d.trigger []) 0 ++ walked ArgCount p t d
told_lines NoDefault p t d = []
told_lines ContDropped p t d = walked ContDropped p t d
told_lines ResumeNotLast p t d = walked ResumeNotLast p t d
told_lines ResumeForeign p t d = walked ResumeForeign p t d
told_lines AfterSuspend p t d = walked AfterSuspend p t d
told_lines NoData p t d = walked NoData p t d
told_lines TooManySends p t d = line_if (nat_lt 32 (most (code_body d.code))) 0
told_lines NotTwoStarts p t d = []

told-lines : (r : Rule) (p : Protocol) (t : Told) (d : Door) → handler_lines r (scope_at p t d) ≡ told_lines r p t d
told-lines Undeclared p t d = ap (λ xs. line_if (answers_undeclared p d.trigger) 0 ++ xs)
    (undeclared-lines (scope_at p t d) d.code)
told-lines Twice p t d = ap (λ xs. again_names (visible_names (scope_at p t d)) ++ xs) (walked-is Twice p t d)
told-lines WrongType p t d = mistyped-lines (scope_at p t d) d.code
told-lines ArgCount p t d = ap (λ xs. line_if (counts_wrongly p d.trigger []) 0 ++ xs) (walked-is ArgCount p t d)
told-lines NoDefault p t d = refl
told-lines ContDropped p t d = walked-is ContDropped p t d
told-lines ResumeNotLast p t d = walked-is ResumeNotLast p t d
told-lines ResumeForeign p t d = walked-is ResumeForeign p t d
told-lines AfterSuspend p t d = walked-is AfterSuspend p t d
told-lines NoData p t d = walked-is NoData p t d
told-lines TooManySends p t d = ap (λ b. line_if (nat_lt 32 (most b)) 0) (body-is d.code)
told-lines NotTwoStarts p t d = refl

unfoldable pub all_told : Rule → Protocol → List Told → List ℕ
all_told r p ts = flat_map (λ (t : Told). flat_map (λ (d : Door). told_lines r p t d) t.doors) ts

pub handlers-told : (r : Rule) (p : Protocol) (ts : List Told) → p.states ≡ map told_state ts →
    in_handlers (handler_lines r) p ≡ all_told r p ts
unfolding all_told
handlers-told r p ts e =
    ap (λ ss. flat_map
    (λ (s : State). flat_map (λ (h : Handler). handler_lines r (record { protocol = p; state = s; handler = h }))
    s.handlers) ss) e
    ∙ flat-as told_state
    (λ (s : State). flat_map (λ (h : Handler). handler_lines r (record { protocol = p; state = s; handler = h }))
    s.handlers) (λ (t : Told). flat_map (λ (d : Door). told_lines r p t d) t.doors)
    (λ t. flat-as handler_of (λ (h : Handler). handler_lines r (record { protocol = p; state = told_state t; handler = h }))
    (λ (d : Door). told_lines r p t d) (λ d. told-lines r p t d) t.doors)
    ts

none-told : (r : Rule) → all_told r stache told ≡ []
unfolding all_told states
none-told Undeclared = refl
none-told Twice = refl
none-told WrongType = refl
none-told ArgCount = refl
none-told NoDefault = refl
none-told ContDropped = refl
none-told ResumeNotLast = refl
none-told ResumeForeign = refl
none-told AfterSuspend = refl
none-told NoData = refl
none-told TooManySends = refl
none-told NotTwoStarts = refl

-- ---- what stands outside the handlers

pub record IsFineOutside (p : Protocol) : Type 0 where
  pub starts : flat_map (λ (s : Start). line_if (is_none (state_of p s.state)) s.line) p.starts ≡ []
  pub wrong : flat_map (λ (s : Start). line_if (is_wrong_start (state_of p s.state)) s.line) p.starts ≡ []
  pub messages : again_messages p.messages ≡ []
  pub infos : again_params p.infos ≡ []
  pub states : again_states p.states ≡ []
  pub conts : flat_map (λ (s : State). line_if (names_cont s) s.line) p.states ≡ []
  pub handlers : flat_map (λ (s : State). again_handlers s.handlers) p.states ≡ []
  pub defaults : flat_map (λ (s : State). line_if (not (has_default s)) s.line) p.states ≡ []
  pub two : again_starts p.starts ++ line_if (nat_lt (length p.starts) 2) p.line ≡ []

fine-outside : IsFineOutside stache
unfolding states
fine-outside = record {
  starts = refl;
  wrong = refl;
  messages = refl;
  infos = refl;
  states = refl;
  conts = refl;
  handlers = refl;
  defaults = refl;
  two = refl;
}

nothing : {xs ys : List ℕ} → xs ≡ [] → ys ≡ [] → xs ++ ys ≡ []
nothing h k = λ i. h i ++ k i

pub none : (p : Protocol) → IsFineOutside p → ((r : Rule) → in_handlers (handler_lines r) p ≡ []) → (r : Rule) → lines p r ≡ []
none p out within Undeclared = nothing out.starts (within Undeclared)
none p out within Twice =
    nothing out.messages (nothing out.infos (nothing out.states (nothing out.conts (nothing out.handlers (within Twice)))))
none p out within WrongType = within WrongType
none p out within ArgCount = nothing out.wrong (within ArgCount)
none p out within NoDefault = out.defaults
none p out within ContDropped = within ContDropped
none p out within ResumeNotLast = within ResumeNotLast
none p out within ResumeForeign = within ResumeForeign
none p out within AfterSuspend = within AfterSuspend
none p out within NoData = within NoData
none p out within TooManySends = within TooManySends
none p out within NotTwoStarts = out.two

within-is : (r : Rule) → in_handlers (handler_lines r) stache ≡ []
within-is r = handlers-told r stache told told-is ∙ none-told r

pub no-lines : (r : Rule) → lines stache r ≡ []
no-lines r = none stache fine-outside within-is r
