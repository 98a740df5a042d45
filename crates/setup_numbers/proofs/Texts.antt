-- What is read from a text has numbers of 64 bits.
use Rattle.std.proofs.Common.{◌≡◌, ◌++◌, Result, Ok, Err, refl, ap, subst}
use Rattle.tw_base.specs.Lists.{Each}
use Rattle.tw_lex.specs.declared.token.LexError.{LexError}
use Rattle.tw_lex.specs.declared.token.LexError.TheVariants as lexical
use Rattle.tw_lex.specs.declared.token.Lexed.{Lexed}
use Rattle.tw_lex.specs.Lines.{lexed}
use Rattle.mini_asm.proofs.Codes.{bind_ok}
use Rattle.teapot_meaning.proofs.Found.{each_left, each_right}
use Rattle.input_numbers.specs.Small.{NumbersOfTextsAreSmall, SmallLine}
use Rattle.tempest_input.specs.declared.error.InputError.{InputError}
use Rattle.tempest_input.specs.declared.layout.Body.{Body}
use Rattle.tempest_input.specs.Laws.{LayoutIsReadBothWays}
use Rattle.tempest_input.specs.Settings.{Settings, in_line, layout_of, settings_of}
use Rattle.setup_numbers.specs.Settings.{AreSmallSettings, ReadSettingsAreSmall, SettingsOfSmallLines}

lines-found : (r : Result Lexed LexError) (found : Lexed) → in_line r ≡ Ok found → r ≡ Ok found
lines-found (Ok l) found e = let same : l ≡ found = cc in ap (λ (x : Lexed). Ok x) same
lines-found (Err (lexical.NotAscii line)) found e = absurd cc
lines-found (Err (lexical.BadToken line)) found e = absurd cc
lines-found (Err lexical.Memory) found e = absurd cc

first-same : (s t : Settings) (b c : Body) (r : Result (Settings × Body) InputError) → r ≡ Ok (s, b) → r ≡ Ok (t, c) → s ≡ t
first-same s t b c r p q =
    let same : (s, b) ≡ (t, c) = cc in
    ap (λ (x : Settings × Body). x.0) same

pub read-small : NumbersOfTextsAreSmall → LayoutIsReadBothWays → SettingsOfSmallLines → ReadSettingsAreSmall
unfolding layout_of
read-small texts layouts settings ending text s report e =
    bind_ok (layout_of ending text) _ (s, report) e (λ l at rest.
    bind_ok (in_line (lexed text)) _ l at (λ found in_text laid.
    bind_ok (settings_of l.0) _ (s, report) rest (λ t of same.
    let small = texts text found (lines-found (lexed text) found in_text) in
    let is = (layouts ending found.all found.list l.0 l.1).0 laid in
    let parts = (subst (Each SmallLine) is.lines_are small).1.1.1.1 in
    let behind = each_right SmallLine is.budget (is.inits ++ (is.programs ++ (is.protocol ++ is.behind))) parts in
    let programs = each_right SmallLine is.inits (is.programs ++ (is.protocol ++ is.behind)) behind in
    subst AreSmallSettings (first-same t s l.1 report _ refl same)
    (settings l.0 t is.inits is.programs is.inits_are is.programs_are
    (each_left SmallLine is.inits (is.programs ++ (is.protocol ++ is.behind)) behind)
    (each_left SmallLine is.programs (is.protocol ++ is.behind) programs) of))))
