-- What the words of the command line ask for.
use Rattle.std.specs.Prelude.{ℕ, ◌^◌, ◌&&◌, ◌||◌, if◌then◌else◌, codes, not, nat_le, nat_lt, is_some, Bool, true, List, [], ◌∷◌}
use Rattle.std.specs.Prelude.{Option, Some, None}
use Rattle.std.specs.Str.{bytes_eq}
use Rattle.tw_base.specs.Answers.{◌>>?◌}
use Rattle.tw_lex.specs.Lexemes.{number_of as digits_of}
use Rattle.tempest_words.specs.declared.request.Asked.{Asked}
use Rattle.tempest_words.specs.declared.request.Command.{Command}
use Rattle.tempest_words.specs.declared.request.Command.TheVariants as commands
use Rattle.tempest_words.specs.Lines.{Line, parted}

-- ---- numbers

-- one or more digits, of a value below 2^32
abbrev pub number_of : List ℕ → Option ℕ
number_of [] = None
number_of (b ∷ bs) = digits_of (b ∷ bs) >>? λ n. if nat_lt n (2 ^ 32) then Some n else None

-- a batch is from 1 to 1,000, and 16 where none is given
abbrev pub batch_of : Option (List ℕ) → Option ℕ
batch_of None = Some 16
batch_of (Some w) = number_of w >>? λ n. if nat_le 1 n && nat_le n 1000 then Some n else None

-- ---- commands

-- of those that take no number
abbrev pub plain_command : List ℕ → Option Command
plain_command w =
    if bytes_eq w (codes "run") then Some commands.Run else
    (if bytes_eq w (codes "check") then Some commands.Check else
    (if bytes_eq w (codes "code") then Some commands.Code else
    (if bytes_eq w (codes "show") then Some commands.Show else
    (if bytes_eq w (codes "table") then Some commands.Table else
    (if bytes_eq w (codes "audit") then Some commands.Audit else None)))))

-- of those that take one
abbrev pub numbered_command : List ℕ → ℕ → Option Command
numbered_command w n =
    if bytes_eq w (codes "serial") then Some (commands.Serial n) else
    (if bytes_eq w (codes "sample") then Some (commands.Sample n) else
    (if bytes_eq w (codes "replay") then Some (commands.Replay n) else None))

abbrev pub command_by : List ℕ → Option (List ℕ) → Option Command
command_by w None = plain_command w
command_by w (Some number) = number_of number >>? numbered_command w

abbrev pub command_of : Line → Option Command
command_of l = l.command >>? λ w. command_by w l.number

-- ---- options

abbrev pub has_report_option : Line → Bool
has_report_option l = l.journal || (l.counts || l.meaning)

-- the options are some that the command takes
abbrev pub takes_options : Command → Line → Bool
takes_options commands.Run l = not l.meaning
takes_options (commands.Serial stride) l = not (is_some l.batch) && not (l.counts && l.meaning)
takes_options (commands.Sample number) l = not (has_report_option l)
takes_options commands.Check l = not (is_some l.batch) && not (has_report_option l)
takes_options commands.Code l = not (is_some l.batch) && not (has_report_option l)
takes_options commands.Show l = not (is_some l.batch) && not (has_report_option l)
takes_options commands.Table l = not (is_some l.batch) && not (has_report_option l)
takes_options commands.Audit l = not (is_some l.batch) && not (has_report_option l)
takes_options (commands.Replay events) l = not (is_some l.batch) && not (has_report_option l)

abbrev pub with_options : Line → Command → ℕ → Option Asked
with_options l command batch =
    if takes_options command l
    then Some (record { command = command; journal = l.journal; counts = l.counts; meaning = l.meaning; batch = batch })
    else None

-- ---- the whole

abbrev pub asked_by : Line → Option Asked
asked_by l = command_of l >>? λ command. batch_of l.batch >>? with_options l command

-- what the words ask for, if they are a command
unfoldable pub asked : List (List ℕ) → Option Asked
asked words = parted words >>? asked_by
