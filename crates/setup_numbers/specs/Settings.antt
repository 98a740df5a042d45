-- What a text sets up has numbers of 64 bits.
use Rattle.std.specs.Prelude.{◌≡◌, ℕ, List, Ok}
use Rattle.tw_base.specs.Lists.{Each}
use Rattle.tw_lex.specs.declared.token.Line.{Line}
use Rattle.printed_reports.specs.Named.{Small}
use Rattle.run_reports.specs.Numbers.{IsSmallProgram}
use Rattle.input_numbers.specs.Small.{SmallLine}
use Rattle.tempest_input.specs.declared.layout.Body.{Body}
use Rattle.tempest_input.specs.declared.layout.Ending.{Ending}
use Rattle.tempest_input.specs.declared.layout.Layout.{Layout}
use Rattle.tempest_input.specs.Laws.{IsInits, IsSections}
use Rattle.tempest_input.specs.Settings.{Settings, settings_and_report, settings_of}

pub record AreSmallSettings (s : Settings) : Type 0 where
  pub programs : Each IsSmallProgram s.programs
  pub init : Each (λ given. Small given.1) s.init

-- The settings of a layout are small where the lines of its words and of its programs are.
abbrev pub SettingsOfSmallLines : Type 0
SettingsOfSmallLines =
    (l : Layout) (s : Settings) (inits programs : List Line) → IsInits l.inits inits → IsSections l.programs programs →
    Each SmallLine inits → Each SmallLine programs → settings_of l ≡ Ok s → AreSmallSettings s

-- What is read from a text, with a report behind it or without, is small.
abbrev pub ReadSettingsAreSmall : Type 0
ReadSettingsAreSmall =
    (ending : Ending) (text : List ℕ) (s : Settings) (report : Body) → settings_and_report ending text ≡ Ok (s, report) →
    AreSmallSettings s
