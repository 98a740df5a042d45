-- The command of which `clap` reads the words.
use Rattle.std.specs.Prelude.{◌≡◌, ℕ, if◌then◌else◌, codes, Bool, true, List, Some}
use Rattle.clap.specs.Matches.{first_value, one_text}
use Rattle.clap.specs.Words.{App, Rule, new_app, new_rule, with_rule}
use Rattle.clap.specs.declared.builder.action.ArgAction.TheVariants.{SetTrue}
use Rattle.clap.specs.declared.parser.matches.Found.{Found}
use Rattle.tempest_words.specs.Lines.{Line}

-- its words are all arguments, and none of them is for help
abbrev pub bare_app : App
bare_app = record (new_app (codes "tempest")) {
  top = record
      (new_app (codes "tempest")).top { no_binary_name = true; disable_help_flag = true };
}

abbrev pub flag : List ℕ → Rule
flag name = record (new_rule name) { long = Some name; action = Some SetTrue }

abbrev pub option : List ℕ → Rule
option name = record (new_rule name) { long = Some name }

abbrev pub positionals_app : App
positionals_app = with_rule (with_rule bare_app (new_rule (codes "command"))) (new_rule (codes "number"))

abbrev pub flags_app : App
flags_app = with_rule (with_rule (with_rule positionals_app (flag (codes "journal"))) (flag (codes "counts")))
    (flag (codes "meaning"))

-- two positionals, three flags, and one option
abbrev pub tempest_app : App
tempest_app = with_rule flags_app (option (codes "batch"))

-- ---- what was found

abbrev pub flag_text : Bool → List ℕ
flag_text set = if set then codes "true" else codes "false"

-- the entries are those of a line
pub record Holds (f : Found) (l : Line) : Type 0 where
  pub command : first_value f (codes "command") ≡ l.command
  pub number : first_value f (codes "number") ≡ l.number
  pub journal : one_text f (codes "journal") ≡ Some (flag_text l.journal)
  pub counts : one_text f (codes "counts") ≡ Some (flag_text l.counts)
  pub meaning : one_text f (codes "meaning") ≡ Some (flag_text l.meaning)
  pub batch : first_value f (codes "batch") ≡ l.batch
