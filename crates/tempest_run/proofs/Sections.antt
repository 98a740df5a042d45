-- The lines of a text's section are lines as they stand in a text.
use Rattle.std.proofs.Common.{◌≡◌, ℕ, ◌*◌, List, [], ◌∷◌, ◌++◌, Result, Ok, Err, refl, ap, sym, subst}
use Rattle.tw_base.specs.Answers.{◌>>=◌}
use Rattle.tw_base.specs.Lists.{Each}
use Rattle.tw_lex.specs.Lines.{lexed}
use Rattle.tw_lex.specs.declared.token.Line.{Line}
use Rattle.tw_lex.specs.declared.token.Lexed.{Lexed}
use Rattle.tw_lex.specs.declared.token.LexError.{LexError}
use Rattle.tw_lex.specs.declared.token.LexError.TheVariants.{NotAscii, BadToken, Memory}
use Rattle.teapot_parse.specs.Given.{AreTextLines}
use Rattle.teapot_parse.specs.Laws.{LexedAreTextLines}
use Rattle.tempest_input.specs.declared.layout.Choice.{Choice}
use Rattle.tempest_input.specs.declared.layout.Choice.TheVariants as choices
use Rattle.tempest_input.specs.declared.layout.Body.{Body}
use Rattle.tempest_input.specs.declared.layout.Ending.{Ending}
use Rattle.tempest_input.specs.declared.layout.Layout.{Layout}
use Rattle.tempest_input.specs.declared.error.InputError.{InputError}
use Rattle.tempest_input.specs.Laws.{IsChoice, IsLaidOut, LayoutIsReadBothWays}
use Rattle.tempest_input.specs.Layout.{laid_out}
use Rattle.tempest_input.specs.Numbers.{nodes_of, sizes_of, words_of}
use Rattle.tempest_input.specs.Settings.{Settings, in_line, layout_of, parsed, settings_and_report, settings_of}
use Rattle.tempest_run.specs.Inputs.{IsOfText}

each-behind : {X : Type 0} (P : X → Type 0) (front rest : List X) → Each P (front ++ rest) → Each P rest
each-behind P [] rest h = h
each-behind P (x ∷ front) rest h = each-behind P front rest h.1

each-front : {X : Type 0} (P : X → Type 0) (front rest : List X) → Each P (front ++ rest) → Each P front
each-front P [] rest h = tt
each-front P (x ∷ front) rest h = (h.0, each-front P front rest h.1)

own-of-text : (version : ℕ) (choice : Choice) (lines : List Line) → IsChoice version choice lines → AreTextLines lines →
    IsOfText choice
own-of-text version choices.Default lines h all = tt
own-of-text version (choices.Own line body) lines h all =
    let inner = subst AreTextLines h.lines_are all in
    each-front _ body.lines (h.closing ∷ []) inner.1
own-of-text version (choices.Shipped line which) lines h all = tt

section-of-text : (ending : Ending) (all : ℕ) (lines : List Line) (l : Layout) (report : Body) → AreTextLines lines →
    IsLaidOut ending all lines l report → IsOfText l.protocol
section-of-text ending all lines l report are h =
    let whole = subst AreTextLines h.lines_are are in
    let rest = h.protocol ++ h.behind in
    let behind =
    each-behind _ h.programs rest (each-behind _ h.inits (h.programs ++ rest)
    (each-behind _ h.budget (h.inits ++ (h.programs ++ rest)) whole.1.1.1.1)) in
    own-of-text l.version.value l.protocol h.protocol h.protocol_is (each-front _ h.protocol h.behind behind)

-- ---- what is found in a text

bind-ok : {A B E : Type 0} (r : Result A E) (f : A → Result B E) (y : B) → (r >>= f) ≡ Ok y → (x : A) × (r ≡ Ok x) × (f x ≡ Ok y)
bind-ok (Ok x) f y e = (x, refl, e)
bind-ok (Err x) f y e = absurd cc

in_line-ok : (r : Result Lexed LexError) (found : Lexed) → in_line r ≡ Ok found → r ≡ Ok found
in_line-ok (Ok x) found e = ap again e
  where
    again : Result Lexed InputError → Result Lexed LexError
    again (Ok d) = Ok d
    again (Err x) = Err Memory
in_line-ok (Err (NotAscii line)) found e = absurd cc
in_line-ok (Err (BadToken line)) found e = absurd cc
in_line-ok (Err Memory) found e = absurd cc

abbrev protocol_or : Choice → Result Settings InputError → Choice
protocol_or c (Ok s) = s.protocol
protocol_or c (Err e) = c

settings-protocol : (l : Layout) (s : Settings) → settings_of l ≡ Ok s → s.protocol ≡ l.protocol
unfolding settings_of
settings-protocol l s e =
    let sizes = bind-ok (sizes_of l) _ s e in
    let words = bind-ok (words_of (sizes.0.words * sizes.0.blocks) l.inits) _ s sizes.2 in
    let nodes = bind-ok (nodes_of sizes.0.nodes l.programs) _ s words.2 in
    let programs = bind-ok (parsed l.version.value l.programs) _ s nodes.2 in
    sym (ap (protocol_or l.protocol) programs.2)

-- the section of a text's settings
pub settings-of-text : LexedAreTextLines → LayoutIsReadBothWays → (ending : Ending) (text : List ℕ) (i : Settings × Body) →
    settings_and_report ending text ≡ Ok i → IsOfText i.0.protocol
unfolding layout_of
settings-of-text lines layout ending text i e =
    let laid = bind-ok (layout_of ending text) (λ l. settings_of l.0 >>= λ s. Ok (s, l.1)) i e in
    let l : Layout × Body = laid.0 in
    let set = bind-ok (settings_of l.0) (λ s. Ok (s, l.1)) i laid.2 in
    let lexes = bind-ok (in_line (lexed text)) (λ found. laid_out ending found.all found.list) l laid.1 in
    let found : Lexed = lexes.0 in
    let own = section-of-text ending found.all found.list l.0 l.1 (lines text found (in_line-ok (lexed text) found lexes.1))
    ((layout ending found.all found.list l.0 l.1).0 lexes.2) in
    let here : IsOfText set.0.protocol = subst IsOfText (sym (settings-protocol l.0 set.0 set.1)) own in
    subst (λ (x : Settings × Body). IsOfText x.0.protocol) (in_pair (set.0, l.1) i set.2) here
  where
    in_pair : (x y : Settings × Body) → ◌≡◌ {A = Result (Settings × Body) InputError} (Ok x) (Ok y) → x ≡ y
    in_pair x y f = cc f
