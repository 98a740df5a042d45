-- A line of words, parted into what is no option and the options.
use Rattle.std.specs.Prelude.{ℕ, ◌==◌, if◌then◌else◌, codes, is_some, take, drop, Bool, true, false, List, [], ◌∷◌, Option}
use Rattle.std.specs.Prelude.{Some, None}
use Rattle.std.specs.Option.{option_map}
use Rattle.std.specs.Str.{bytes_eq}
use Rattle.tw_base.specs.Answers.{◌>>?◌}

-- the first word that is no option, the second, and the options
pub record Line : Type 0 where
  pub command : Option (List ℕ)
  pub number : Option (List ℕ)
  pub journal : Bool
  pub counts : Bool
  pub meaning : Bool
  pub batch : Option (List ℕ)

-- ---- the words from left to right

-- what was read so far; `awaits` says that the next word is the batch, and `ended` that `--` was met
pub record Read : Type 0 where
  pub line : Line
  pub awaits : Bool
  pub ended : Bool

abbrev pub nothing : Read
nothing = record {
  line = record { command = None; number = None; journal = false; counts = false; meaning = false; batch = None };
  awaits = false;
  ended = false;
}

-- each option stands at most once
abbrev pub with_journal : Line → Option Line
with_journal l = if l.journal then None else Some (record l { journal = true })

abbrev pub with_counts : Line → Option Line
with_counts l = if l.counts then None else Some (record l { counts = true })

abbrev pub with_meaning : Line → Option Line
with_meaning l = if l.meaning then None else Some (record l { meaning = true })

abbrev pub with_batch : List ℕ → Line → Option Line
with_batch w l = if is_some l.batch then None else Some (record l { batch = Some w })

abbrev pub place_word : Option (List ℕ) → Option (List ℕ) → List ℕ → Line → Option Line
place_word None number w l = Some (record l { command = Some w })
place_word (Some c) None w l = Some (record l { number = Some w })
place_word (Some c) (Some n) w l = None

-- with a word that is no option: first the command, then its number, and no third
abbrev pub with_word : List ℕ → Line → Option Line
with_word w l = place_word l.command l.number w l

abbrev pub begins_with_a_dash : List ℕ → Bool
begins_with_a_dash [] = false
begins_with_a_dash (b ∷ bs) = b == 45

-- what an option, or a word that is none, adds to the line
abbrev pub with_option : List ℕ → Line → Option Line
with_option w l =
    if bytes_eq w (codes "--journal") then with_journal l else
    (if bytes_eq w (codes "--counts") then with_counts l else
    (if bytes_eq w (codes "--meaning") then with_meaning l else
    (if bytes_eq (take 8 w) (codes "--batch=") then with_batch (drop 8 w) l else
    (if begins_with_a_dash w then None else with_word w l))))

abbrev pub on_line : (Line → Option Line) → Read → Option Read
on_line f r = option_map (λ l. record r { line = l }) (f r.line)

-- with a word before `--`, of which none waits for its value
abbrev pub with_any : List ℕ → Read → Option Read
with_any w r =
    if bytes_eq w (codes "--") then Some (record r { ended = true }) else
    (if bytes_eq w (codes "--batch") then Some (record r { awaits = true }) else on_line (with_option w) r)

-- with the next word: `--batch` takes it, whatever it is, and behind `--` no word is an option
abbrev pub next : List ℕ → Read → Option Read
next w r =
    if r.awaits then on_line (with_batch w) (record r { awaits = false }) else
    (if r.ended then on_line (with_word w) r else with_any w r)

abbrev pub words_read : Read → List (List ℕ) → Option Read
words_read r [] = Some r
words_read r (w ∷ ws) = next w r >>? λ q. words_read q ws

-- no word is missing
abbrev pub line_of : Read → Option Line
line_of r = if r.awaits then None else Some r.line

-- how the words part, if they do
abbrev pub parted : List (List ℕ) → Option Line
parted words = words_read nothing words >>? line_of
