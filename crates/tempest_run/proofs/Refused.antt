-- A text sets something up or is refused, at one line for one reason.
use Rattle.std.proofs.Common.{◌≡◌, ◌⊎◌, ◌∙◌, ℕ, List, Option, Some, None, Result, Ok, Err, refl, sym, ap, subst, inl, inr}
use Rattle.tw_base.specs.Answers.{◌>>=◌}
use Rattle.tw_lex.specs.declared.token.Line.{Line}
use Rattle.teapot_tree.specs.declared.protocol.Protocol.{Protocol}
use Rattle.teapot_tree.specs.declared.rule.Rule.{Rule}
use Rattle.teapot_tree.specs.Grammar.{IsTree}
use Rattle.teapot_tree.specs.Rules.{IsFirstBreak}
use Rattle.teapot_rules.specs.declared.fault.Fault.{Fault}
use Rattle.teapot_rules.specs.Firsts.{all_rules, first_of_rules}
use Rattle.teapot_rules.proofs.Firstly.{is_first}
use Rattle.teapot_parse.specs.declared.reading.ParseError.{ParseError}
use Rattle.teapot_parse.specs.declared.reading.ParseError.TheVariants as teapot
use Rattle.teapot_parse.specs.Given.{AreTextLines, IsGiven}
use Rattle.teapot_parse.specs.Laws.{LexedAreTextLines}
use Rattle.teapot_parse.specs.Parsing.{parsed}
use Rattle.teapot_parse.specs.Refusing.{Refuses}
use Rattle.stache_protocol.specs.Laws.{TextIsStache}
use Rattle.stache_d_protocol.specs.Laws.{TextIsStacheD}
use Rattle.stache_l_protocol.specs.Laws.{TextIsStacheL}
use Rattle.dsm_runs.specs.Setups.{Setup}
use Rattle.tempest_input.specs.declared.error.InputError.{InputError}
use Rattle.tempest_input.specs.declared.error.InputError.TheVariants.{Refused, Memory}
use Rattle.tempest_input.specs.declared.error.Why.{Why}
use Rattle.tempest_input.specs.declared.head.Shipped.{Shipped}
use Rattle.tempest_input.specs.declared.head.Shipped.TheVariants.{Stache, StacheD, StacheL}
use Rattle.tempest_input.specs.declared.layout.Body.{Body}
use Rattle.tempest_input.specs.declared.layout.Choice.{Choice}
use Rattle.tempest_input.specs.declared.layout.Choice.TheVariants as choices
use Rattle.tempest_input.specs.declared.layout.Ending.{Ending}
use Rattle.tempest_input.specs.Laws.{InputIsNoMemory, LayoutIsReadBothWays, RefusalIsOfAKind as EarlyIsOfAKind}
use Rattle.tempest_input.specs.Settings.{Settings, settings_and_report}
use Rattle.tempest_run.specs.Inputs.{IsOfText, accepted, broken_rule, in_protocol, input_of, or_memory, protocol_of}
use Rattle.tempest_run.specs.Inputs.{section_protocol, shipped_protocol, under, unless_broken, unread}
use Rattle.tempest_run.specs.Refusals.{HasSection, IsRefused, RefusalIsOfAKind, RefusalIsOne, TextIsNeverBoth, TextIsNoMemory}
use Rattle.tempest_run.specs.Refusals.{TextIsValidOrRefused, breaks, early, no_tree}
use Rattle.tempest_run.proofs.Accepting.{first_broken}
use Rattle.tempest_run.proofs.Sections.{settings-of-text}

-- the laws below, that the definitions of this crate are over
pub record Laws : Type 0 where
  pub early : EarlyIsOfAKind
  pub no_memory : InputIsNoMemory
  pub layout : LayoutIsReadBothWays
  pub text_lines : LexedAreTextLines
  pub given : (lines : List Line) (p : Protocol) (after : ℕ) → AreTextLines lines → parsed lines after ≡ Ok p →
      IsTree p × IsGiven lines p
  pub read : (lines : List Line) (p : Protocol) (after : ℕ) → IsTree p → IsGiven lines p → parsed lines after ≡ Ok p
  pub refuses : (lines : List Line) (after : ℕ) (e : ParseError) → parsed lines after ≡ Err e → Refuses lines after e
  pub refused : (lines : List Line) (after : ℕ) (e : ParseError) → Refuses lines after e → parsed lines after ≡ Err e
  pub stache : TextIsStache
  pub stache_d : TextIsStacheD
  pub stache_l : TextIsStacheL

-- what comes of the settings of a text
abbrev set_up : Result (Settings × Body) InputError → Result (Setup × Body) InputError
set_up r = r >>= λ i. protocol_of i.0.protocol >>= λ p. Ok (under i.0 p, i.1)

abbrev joined : Settings × Body → Result Protocol InputError → Result (Setup × Body) InputError
joined i r = r >>= λ p. Ok (under i.0 p, i.1)

input-is : (ending : Ending) (text : List ℕ) → input_of ending text ≡ set_up (settings_and_report ending text)
unfolding input_of
input-is ending text = refl

joined-err : (i : Settings × Body) (r : Result Protocol InputError) (e : InputError) → joined i r ≡ Err e → r ≡ Err e
joined-err i (Ok p) e h = absurd (cc h)
joined-err i (Err x) e h = let same : x ≡ e = cc h in ap Err same

-- each shipped protocol is there
shipped-is : Laws → (which : Shipped) (e : InputError) → shipped_protocol which ≡ Err e → ⊥
shipped-is laws Stache e h = let there = ap or_memory laws.stache.1 in absurd (cc (there, h))
shipped-is laws StacheD e h = let there = ap or_memory laws.stache_d.1 in absurd (cc (there, h))
shipped-is laws StacheL e h = let there = ap or_memory laws.stache_l.1 in absurd (cc (there, h))

-- ---- a refusal that is found is of a kind

broken-is : (p : Protocol) (f : Option Fault) (line : ℕ) (why : Why) → first_of_rules p all_rules ≡ f →
    unless_broken f p ≡ Err (Refused line why)
    → (rule : Rule) × IsFirstBreak p line rule × (why ≡ broken_rule rule)
broken-is p None line why is h = absurd (cc h)
broken-is p (Some f) line why is h =
    let at : f.line ≡ line = cc h in
    let for : broken_rule f.rule ≡ why = cc h in
    (f.rule, subst (λ n. IsFirstBreak p n f.rule) at (is_first p f is), sym for)

accepted-is : (p : Protocol) (line : ℕ) (why : Why) → accepted p ≡ Err (Refused line why) →
    (rule : Rule) × IsFirstBreak p line rule × (why ≡ broken_rule rule)
unfolding accepted
accepted-is p line why h = broken-is p (first_of_rules p all_rules) line why refl h

section-back : Laws → (ending : Ending) (text : List ℕ) (body : Body) (line : ℕ) (why : Why) → HasSection ending text body →
    AreTextLines body.lines → section_protocol body ≡ Err (Refused line why)
    → IsRefused ending text line why
unfolding section_protocol
section-back laws ending text body line why has lines h = go (parsed body.lines body.end) refl h
  where
    go : (r : Result Protocol ParseError) → parsed body.lines body.end ≡ r →
        (in_protocol r >>= λ p. accepted p) ≡ Err (Refused line why) → IsRefused ending text line why
    go (Ok p) is f =
        let tree = laws.given body.lines p body.end lines is in
        let first = accepted-is p line why f in
        breaks body p first.0 has tree.0 tree.1 first.1 first.2
    go (Err e) is f =
        let for : unread e ≡ Refused line why = cc f in
        no_tree body e has (laws.refuses body.lines body.end e is) for

choice-back : Laws → (ending : Ending) (text : List ℕ) (s : Settings × Body) (choice : Choice) (line : ℕ) (why : Why) →
    settings_and_report ending text ≡ Ok s → s.0.protocol ≡ choice → IsOfText choice
    → protocol_of choice ≡ Err (Refused line why) → IsRefused ending text line why
unfolding protocol_of
choice-back laws ending text s choices.Default line why is own lines h = absurd (shipped-is laws Stache (Refused line why) h)
choice-back laws ending text s (choices.Own l body) line why is own lines h =
    section-back laws ending text body line why (record { settings = s.0; report = s.1; line = l; set = is; own = own }) lines h
choice-back laws ending text s (choices.Shipped l which) line why is own lines h =
    absurd (shipped-is laws which (Refused line why) h)

kind-back : Laws → (ending : Ending) (text : List ℕ) (line : ℕ) (why : Why) → input_of ending text ≡ Err (Refused line why) →
    IsRefused ending text line why
kind-back laws ending text line why h = go (settings_and_report ending text) refl (sym (input-is ending text) ∙ h)
  where
    go : (r : Result (Settings × Body) InputError) → settings_and_report ending text ≡ r → set_up r ≡ Err (Refused line why) →
        IsRefused ending text line why
    go (Ok s) is f =
        choice-back laws ending text s s.0.protocol line why is refl
        (settings-of-text laws.text_lines laws.layout ending text s is)
        (joined-err s (protocol_of s.0.protocol) (Refused line why) f)
    go (Err e) is f =
        let same : e ≡ Refused line why = cc f in
        early ((laws.early ending text line why).0 (is ∙ ap Err same))

-- ---- a refusal of a kind is found

set-on : (ending : Ending) (text : List ℕ) (s : Settings × Body) (r : Result Protocol InputError) →
    settings_and_report ending text ≡ Ok s → protocol_of s.0.protocol ≡ r → input_of ending text ≡ joined s r
set-on ending text s r is own = input-is ending text ∙ ap set_up is ∙ ap (joined s) own

section-on : (ending : Ending) (text : List ℕ) (body : Body) (r : Result Protocol InputError) (e : InputError) →
    HasSection ending text body → section_protocol body ≡ r → r ≡ Err e → input_of ending text ≡ Err e
unfolding protocol_of
section-on ending text body r e has is h =
    set-on ending text (has.settings, has.report) (section_protocol body) has.set (ap protocol_of has.own)
    ∙ ap (joined (has.settings, has.report)) (is ∙ h)

tree-on : Laws → (body : Body) (e : ParseError) → Refuses body.lines body.end e → section_protocol body ≡ Err (unread e)
unfolding section_protocol
tree-on laws body e refuses = ap (λ r. in_protocol r >>= λ p. accepted p) (laws.refused body.lines body.end e refuses)

break-on : Laws → (body : Body) (p : Protocol) (line : ℕ) (rule : Rule) → IsTree p → IsGiven body.lines p →
    IsFirstBreak p line rule
    → section_protocol body ≡ Err (Refused line (broken_rule rule))
unfolding section_protocol accepted
break-on laws body p line rule tree given first =
    ap (λ r. in_protocol r >>= λ p. accepted p) (laws.read body.lines p body.end tree given)
    ∙ ap (λ f. unless_broken f p) (first_broken p line rule tree first)

kind-on : Laws → (ending : Ending) (text : List ℕ) (line : ℕ) (why : Why) → IsRefused ending text line why →
    input_of ending text ≡ Err (Refused line why)
kind-on laws ending text line why (early h) = input-is ending text ∙ ap set_up ((laws.early ending text line why).1 h)
kind-on laws ending text line why (no_tree body e has refuses for) =
    section-on ending text body (Err (unread e)) (Refused line why) has (tree-on laws body e refuses) (ap Err for)
kind-on laws ending text line why (breaks body p rule has tree given first for) =
    section-on ending text body (Err (Refused line (broken_rule rule))) (Refused line why) has
    (break-on laws body p line rule tree given first) (ap (λ w. Err (Refused line w)) (sym for))

pub kinds : Laws → RefusalIsOfAKind
kinds laws ending text line why = (kind-back laws ending text line why, kind-on laws ending text line why)

-- ---- want of memory is no property of a text

unread-memory : (lines : List Line) (after : ℕ) (e : ParseError) → Refuses lines after e → unread e ≡ Memory → ⊥
unread-memory lines after (teapot.BadLine n) r h = absurd (cc h)
unread-memory lines after (teapot.BadNest n) r h = absurd (cc h)
unread-memory lines after (teapot.TooMany what n) r h = absurd (cc h)
unread-memory lines after teapot.Memory r h = r

broken-memory : (p : Protocol) (f : Option Fault) → unless_broken f p ≡ Err Memory → ⊥
broken-memory p None h = absurd (cc h)
broken-memory p (Some f) h = absurd (cc h)

section-memory : Laws → (body : Body) → section_protocol body ≡ Err Memory → ⊥
unfolding section_protocol accepted
section-memory laws body h = go (parsed body.lines body.end) refl h
  where
    go : (r : Result Protocol ParseError) → parsed body.lines body.end ≡ r → (in_protocol r >>= λ p. accepted p) ≡ Err Memory → ⊥
    go (Ok p) is f = broken-memory p (first_of_rules p all_rules) f
    go (Err e) is f = let for : unread e ≡ Memory = cc f in unread-memory body.lines body.end e
        (laws.refuses body.lines body.end e is) for

choice-memory : Laws → (choice : Choice) → protocol_of choice ≡ Err Memory → ⊥
unfolding protocol_of
choice-memory laws choices.Default h = shipped-is laws Stache Memory h
choice-memory laws (choices.Own l body) h = section-memory laws body h
choice-memory laws (choices.Shipped l which) h = shipped-is laws which Memory h

pub no-memory : Laws → TextIsNoMemory
no-memory laws ending text h = go (settings_and_report ending text) refl (sym (input-is ending text) ∙ h)
  where
    go : (r : Result (Settings × Body) InputError) → settings_and_report ending text ≡ r → set_up r ≡ Err Memory → ⊥
    go (Ok s) is f = choice-memory laws s.0.protocol (joined-err s (protocol_of s.0.protocol) Memory f)
    go (Err e) is f = let same : e ≡ Memory = cc f in laws.no_memory ending text (is ∙ ap Err same)

-- ---- one of the two, and one refusal

pub valid_or_refused : Laws → TextIsValidOrRefused
valid_or_refused laws ending text = go (input_of ending text) refl
  where
    go : (r : Result (Setup × Body) InputError) → input_of ending text ≡ r
        → ((s : Setup) × (report : Body) × (input_of ending text ≡ Ok (s, report)))
        ⊎ ((line : ℕ) × (why : Why) × IsRefused ending text line why)
    go (Ok s) is = inl (s.0, s.1, is)
    go (Err (Refused line why)) is = inr (line, why, kind-back laws ending text line why is)
    go (Err Memory) is = absurd (no-memory laws ending text is)

pub never_both : Laws → TextIsNeverBoth
never_both laws ending text s report line why is refused = let other =
    kind-on laws ending text line why refused in absurd (cc (is, other))

pub one_refusal : Laws → RefusalIsOne
one_refusal laws ending text line other why reason a b =
    let x = kind-on laws ending text line why a in
    let y = kind-on laws ending text other reason b in
    let same : ◌≡◌ {A = Result (Setup × Body) InputError} (Err (Refused line why)) (Err (Refused other reason)) = sym x ∙ y in
    (cc same, cc same)
