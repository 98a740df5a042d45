-- What a text is refused for, from its tokens to the rules of its protocol.
use Rattle.std.specs.Prelude.{◌≡◌, ◌⊎◌, ℕ, List, Ok, Err}
use Rattle.teapot_tree.specs.declared.protocol.Protocol.{Protocol}
use Rattle.teapot_tree.specs.declared.rule.Rule.{Rule}
use Rattle.teapot_tree.specs.Grammar.{IsTree}
use Rattle.teapot_tree.specs.Rules.{IsFirstBreak}
use Rattle.teapot_parse.specs.declared.reading.ParseError.{ParseError}
use Rattle.teapot_parse.specs.Given.{IsGiven}
use Rattle.teapot_parse.specs.Refusing.{Refuses}
use Rattle.dsm_runs.specs.Setups.{Setup}
use Rattle.tempest_input.specs.declared.error.InputError.TheVariants.{Refused, Memory}
use Rattle.tempest_input.specs.declared.error.Why.{Why}
use Rattle.tempest_input.specs.declared.layout.Body.{Body}
use Rattle.tempest_input.specs.declared.layout.Choice.TheVariants.{Own}
use Rattle.tempest_input.specs.declared.layout.Ending.{Ending}
use Rattle.tempest_input.specs.Laws.{IsRefused as IsRefusedEarly}
use Rattle.tempest_input.specs.Settings.{Settings, settings_and_report}
use Rattle.tempest_run.specs.Inputs.{broken_rule, input_of, unread}

-- the text has settings, and a protocol of its own: these lines
pub record HasSection (ending : Ending) (text : List ℕ) (body : Body) : Type 0 where
  pub settings : Settings
  pub report : Body
  pub line : ℕ
  pub set : settings_and_report ending text ≡ Ok (settings, report)
  pub own : settings.protocol ≡ Own line body

-- What a text is refused for, kind by kind in the order of refusals: each kind says that those above it do not apply.
pub data IsRefused (ending : Ending) (text : List ℕ) (line : ℕ) (why : Why) : Type 0 where
  -- its tokens, its layout, the numbers of its header or its programs have their first fault there
  early : IsRefusedEarly ending text line why → IsRefused ending text line why
  -- the lines of its protocol have their first fault there: a line of no form, one that cannot stand at its place, or one behind
  -- which there is too much of something
  no_tree : (body : Body) (e : ParseError) → HasSection ending text body → Refuses body.lines body.end e →
      unread e ≡ Refused line why → IsRefused ending text line why
  -- the lines of its protocol spell a tree, which breaks its first rule there
  breaks : (body : Body) (p : Protocol) (rule : Rule) → HasSection ending text body → IsTree p → IsGiven body.lines p →
      IsFirstBreak p line rule → why ≡ broken_rule rule
      → IsRefused ending text line why

-- a text sets something up or is refused at a line
abbrev pub TextIsValidOrRefused : Type 0
TextIsValidOrRefused =
    (ending : Ending) (text : List ℕ)
    → ((s : Setup) × (report : Body) × (input_of ending text ≡ Ok (s, report)))
    ⊎ ((line : ℕ) × (why : Why) × IsRefused ending text line why)

-- never both
abbrev pub TextIsNeverBoth : Type 0
TextIsNeverBoth =
    (ending : Ending) (text : List ℕ) (s : Setup) (report : Body) (line : ℕ) (why : Why) → input_of ending text ≡ Ok (s, report)
    → ¬ IsRefused ending text line why

-- and at one line for one reason
abbrev pub RefusalIsOne : Type 0
RefusalIsOne =
    (ending : Ending) (text : List ℕ) (line other : ℕ) (why reason : Why) → IsRefused ending text line why →
    IsRefused ending text other reason
    → (line ≡ other) × (why ≡ reason)

-- the refusal that is found is of one of the kinds, and each of a kind is found
abbrev pub RefusalIsOfAKind : Type 0
RefusalIsOfAKind =
    (ending : Ending) (text : List ℕ) (line : ℕ) (why : Why)
    → (input_of ending text ≡ Err (Refused line why) → IsRefused ending text line why)
    × (IsRefused ending text line why → input_of ending text ≡ Err (Refused line why))

-- want of memory is no property of a text
abbrev pub TextIsNoMemory : Type 0
TextIsNoMemory = (ending : Ending) (text : List ℕ) → ¬ (input_of ending text ≡ Err Memory)
