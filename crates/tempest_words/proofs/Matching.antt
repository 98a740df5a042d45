-- What `clap` answers to all the words, beside what they ask for.
use Rattle.std.proofs.Common.{◌≡◌, ℕ, ◌||◌, Bool, true, false, List, [], ◌∷◌, Option, Some, None, is_some, if◌then◌else◌, refl}
use Rattle.std.proofs.Common.{sym, ap, ap₂, ◌∙◌, subst, codes}
use Rattle.std.specs.Prelude.{fold, slice_get}
use Rattle.std.specs.Option.{option_and_then, option_map}
use Rattle.std.specs.Str.{bytes_eq}
use Rattle.tw_base.specs.Answers.{◌>>?◌}
use Rattle.clap.specs.Faults.{default_fault, defaults_fault, entered_fault, fault_of, is_simple_and_free, level_fault}
use Rattle.clap.specs.Faults.{settle_fault, walk_fault}
use Rattle.clap.specs.Kinds.{Kinds, or_else}
use Rattle.clap.specs.Matches.{first_value, one_text}
use Rattle.clap.specs.Simple.{App, entered, is_simple, matches_of}
use Rattle.clap.specs.Walk.{Row, Rule, Text, Walk, first_of, has_row, more_values, nothing_held, one_of, row_text, rows_of}
use Rattle.clap.specs.Walk.{settled, settled_rows, walk, walk_from, walked, with_default, with_values}
use Rattle.clap.specs.declared.builder.value_parser.Reading.TheVariants.{AsWritten}
use Rattle.clap.specs.declared.parser.matches.Found.{Found}
use Rattle.clap.specs.declared.parser.matches.ValueSource.TheVariants.{DefaultValue}
use Rattle.clap.proofs.WalkLemmas.{first_value-rows, one_text-rows}
use Rattle.tempest_words.specs.Lines.{Line, nothing, parted}
use Rattle.tempest_words.specs.Parting.{Holds, flag_text, tempest_app}
use Rattle.tempest_words.specs.Words.{asked_by}
use Rattle.tempest_words.proofs.Advancing.{nothing_settles}
use Rattle.tempest_words.proofs.Rows.{at_row-new, has_row-row, or_row, or_row-None, row, row-append, value_row}
use Rattle.tempest_words.proofs.Rules.{batch_rule, flag_rule, positional_rule, rules, shape}
use Rattle.tempest_words.proofs.Settling.{IsFault, Outcome, Shows, end_rows, end_rows-is, faults, faults-is, flag_row, held}
use Rattle.tempest_words.proofs.Settling.{refused, taken}
use Rattle.tempest_words.proofs.Walking.{both, first}

-- ---- the command

pub app_is_simple : is_simple tempest_app ≡ true
app_is_simple = refl

pub app_is_free : is_simple_and_free tempest_app ≡ true
app_is_free = refl

-- ---- faults behind the words

skipped : (b : Bool) (k : Kinds) → (if b || true then [] else k) ≡ []
skipped true k = refl
skipped false k = refl

either : (b : Bool) (k : Kinds) → (if b || false then k else k) ≡ k
either true k = refl
either false k = refl

positional_fine : (id : Text) (place : ℕ) (rows : List Row) → default_fault rows (positional_rule id place) ≡ []
positional_fine id place rows = skipped (has_row id rows) []

batch_fine : (rows : List Row) → default_fault rows batch_rule ≡ []
batch_fine rows = skipped (has_row (codes "batch") rows) []

flag_fine : (id : Text) (rows : List Row) → default_fault rows (flag_rule id) ≡ []
flag_fine id rows = either (has_row id rows) []

abbrev IsFine : List Rule → Type 0
IsFine these = (rows : List Row) → defaults_fault rows these ≡ []

one_fine : (a : Rule) (rest : List Rule) → ((rows : List Row) → default_fault rows a ≡ []) → IsFine rest → IsFine (a ∷ rest)
unfolding defaults_fault
one_fine a rest here later rows = ap₂ or_else (here rows) (later (with_default rows a))

none_fine : IsFine []
unfolding defaults_fault
none_fine rows = refl

flag_fines : (id : Text) (rest : List Rule) → IsFine rest → IsFine (flag_rule id ∷ rest)
flag_fines id rest later = one_fine (flag_rule id) rest (flag_fine id) later

defaults_fine : IsFine rules
defaults_fine =
    let batch : IsFine (batch_rule ∷ []) = one_fine batch_rule [] batch_fine none_fine in
    let meaning = flag_fines (codes "meaning") (batch_rule ∷ []) batch in
    let counts = flag_fines (codes "counts") (flag_rule (codes "meaning") ∷ batch_rule ∷ []) meaning in
    let journal = flag_fines (codes "journal")
    (flag_rule (codes "counts") ∷ flag_rule (codes "meaning") ∷ batch_rule ∷ []) counts in
    one_fine (positional_rule (codes "command") 1) _ (positional_fine (codes "command") 1)
    (one_fine (positional_rule (codes "number") 2) _ (positional_fine (codes "number") 2) journal)

abbrev pub start : Walk
start = walk_from nothing_held

or_else-nil : (a : Kinds) → or_else a [] ≡ a
or_else-nil [] = refl
or_else-nil (k ∷ ks) = refl

abbrev app : App
app = record { top = shape; subs = [] }

not_entered : (stop : Option (Text × List Text)) → entered app stop ≡ None
not_entered None = refl
not_entered (Some p) = refl

not_at_fault : (stop : Option (Text × List Text)) → entered_fault app stop ≡ []
not_at_fault None = refl
not_at_fault (Some p) = refl

pub fault_of-faults : (ws : List Text) → fault_of tempest_app ws ≡ faults start ws
fault_of-faults ws =
    let stop : Option (Text × List Text) = (walk rules [] nothing_held ws).stopped in
    let first_faults : Kinds = walk_fault shape [] start ws in
    let last : Kinds = settle_fault rules false (walk rules [] nothing_held ws).held in
    ap₂ (λ o k. level_fault shape [] nothing_held ws (is_some o) k) (not_entered stop) (not_at_fault stop)
    ∙ ap (λ d. or_else first_faults (or_else last (or_else d [])))
    (defaults_fine (settled rules (walk rules [] nothing_held ws).held).rows)
    ∙ ap (or_else first_faults) (or_else-nil last) ∙ sym (faults-is start ws)

-- ---- rows behind the words

abbrev default_row : Text → Row
default_row id = record { id = id; values = codes "false" ∷ []; count = None; source = Some DefaultValue; reading = AsWritten }

same_rows : (b : Bool) (rows : List Row) → (if b then rows else rows) ≡ rows
same_rows true rows = refl
same_rows false rows = refl

no_default : (id : Text) (place : ℕ) (rows : List Row) → with_default rows (positional_rule id place) ≡ rows
no_default id place rows = same_rows (has_row id rows) rows

no_batch : (rows : List Row) → with_default rows batch_rule ≡ rows
no_batch rows = same_rows (has_row (codes "batch") rows) rows

abbrev or_default : Bool → Text → List Row → List Row
or_default there id rows = if there then rows else with_values id AsWritten DefaultValue (codes "false" ∷ []) rows

row-default_other : (id own : Text) (rows : List Row) (o : Option Row) → bytes_eq own id ≡ false → row id rows ≡ o
    → row id (with_default rows (flag_rule own)) ≡ o
row-default_other id own rows o apart e = go (has_row own rows) refl
  where
    go : (b : Bool) → has_row own rows ≡ b → row id (or_default b own rows) ≡ o
    go true there = e
    go false none =
        ap (row id) (at_row-new own (more_values DefaultValue (codes "false" ∷ [])) (default_row own ∷ []) rows none)
        ∙ row-append id rows (default_row own)
        ∙ ap (λ t. or_row (row id rows) (if t then Some (default_row own) else None)) apart ∙ or_row-None (row id rows) ∙ e

row-default_same : (id : Text) (rows : List Row) (set : Bool) → bytes_eq id id ≡ true → row id rows ≡ flag_row id set
    → row id (with_default rows (flag_rule id)) ≡ Some (if set then value_row id (codes "true") else default_row id)
row-default_same id rows true is e = ap (λ b. row id (or_default b id rows)) (has_row-row id rows ∙ ap is_some e) ∙ e
row-default_same id rows false is e =
    let none : has_row id rows ≡ false = has_row-row id rows ∙ ap is_some e in
    ap (λ b. row id (or_default b id rows)) none
    ∙ ap (row id) (at_row-new id (more_values DefaultValue (codes "false" ∷ [])) (default_row id ∷ []) rows none)
    ∙ row-append id rows (default_row id)
    ∙ ap₂ (λ o t. or_row o (if t then Some (default_row id) else None)) e is

-- all rows, with those of flags that are not given
abbrev with_flags : List Row → List Row
with_flags rows = with_default (with_default (with_default rows (flag_rule (codes "journal"))) (flag_rule (codes "counts")))
    (flag_rule (codes "meaning"))

fold_defaults : (rows : List Row) → fold with_default rows rules ≡ with_flags rows
fold_defaults rows =
    no_batch (with_flags
    (with_default (with_default rows (positional_rule (codes "command") 1)) (positional_rule (codes "number") 2)))
    ∙ ap with_flags (no_default (codes "number") 2 (with_default rows (positional_rule (codes "command") 1))
    ∙ no_default (codes "command") 1 rows)

matches-rows : (ws : List Text) → matches_of tempest_app ws ≡ with_flags (end_rows start ws)
matches-rows ws =
    fold_defaults (settled_rows rules (fold (walked rules []) start ws).held.pending
    (fold (walked rules []) start ws).held.rows)
    ∙ ap with_flags (sym (end_rows-is start ws))

first_of-value : (id : Text) (rows : List Row) (o : Option Text) → row id rows ≡ option_map (value_row id) o
    → first_of id rows ≡ o
first_of-value id rows o e = ap (option_and_then (λ r. slice_get r.values 0)) e ∙ go o
  where
    go : (o : Option Text) → option_and_then (λ (r : Row). slice_get r.values 0) (option_map (value_row id) o) ≡ o
    go None = refl
    go (Some v) = refl

one_of-flag : (id : Text) (rows : List Row) (set : Bool)
    → row id rows ≡ Some (if set then value_row id (codes "true") else default_row id) → one_of id rows ≡ Some (flag_text set)
one_of-flag id rows set e = ap (option_and_then row_text) e ∙ go set
  where
    go : (set : Bool) → row_text (if set then value_row id (codes "true") else default_row id) ≡ Some (flag_text set)
    go true = refl
    go false = refl

module _ (rows : List Row) (l : Line) (shows : Shows rows l) where
  abbrev once : List Row
  once = with_default rows (flag_rule (codes "journal"))

  abbrev twice : List Row
  twice = with_default once (flag_rule (codes "counts"))

  -- of an id that no flag has
  apart : (id : Text) (o : Option Row) → bytes_eq (codes "journal") id ≡ false → bytes_eq (codes "counts") id ≡ false
      → bytes_eq (codes "meaning") id ≡ false
      → row id rows ≡ o → row id (with_flags rows) ≡ o
  apart id o j c m e =
      row-default_other id (codes "meaning") twice o m
      (row-default_other id (codes "counts") once o c (row-default_other id (codes "journal") rows o j e))

  pub holds : (f : Found) → rows_of f ≡ with_flags rows → Holds f l
  holds f is =
      let value : (id : Text) (o : Option Text) → row id (with_flags rows) ≡ option_map (value_row id) o
      → first_value f id ≡ o =
      λ id o e. first_value-rows f id ∙ ap (first_of id) is ∙ first_of-value id (with_flags rows) o e in
      let flag : (id : Text) (set : Bool)
      → row id (with_flags rows) ≡ Some (if set then value_row id (codes "true") else default_row id)
      → one_text f id ≡ Some (flag_text set) =
      λ id set e. one_text-rows f id ∙ ap (one_of id) is ∙ one_of-flag id (with_flags rows) set e in
      record {
        command = value (codes "command") l.command (apart (codes "command") _ refl refl refl shows.command);
        number = value (codes "number") l.number (apart (codes "number") _ refl refl refl shows.number);
        journal =
            flag (codes "journal") l.journal
            (row-default_other (codes "journal") (codes "meaning") twice _ refl
            (row-default_other (codes "journal") (codes "counts") once _ refl
            (row-default_same (codes "journal") rows l.journal refl shows.journal)));
        counts =
            flag (codes "counts") l.counts
            (row-default_other (codes "counts") (codes "meaning") twice _ refl
            (row-default_same (codes "counts") once l.counts refl
            (row-default_other (codes "counts") (codes "journal") rows _ refl shows.counts)));
        meaning =
            flag (codes "meaning") l.meaning
            (row-default_same (codes "meaning") twice l.meaning refl
            (row-default_other (codes "meaning") (codes "counts") once _ refl
            (row-default_other (codes "meaning") (codes "journal") rows _ refl shows.meaning)));
        batch = value (codes "batch") l.batch (apart (codes "batch") _ refl refl refl shows.batch);
      }

-- ---- the whole

nothing_shows : Shows [] nothing.line
nothing_shows = record { command = refl; number = refl; journal = refl; counts = refl; meaning = refl; batch = refl }

outcome : (ws : List Text) → Outcome start ws (parted ws >>? asked_by)
outcome ws = (both ws).0 [] None [] nothing.line 1 false (nothing_settles []) nothing_shows (first refl refl refl)

-- words without a fault
pub record Taken (ws : List Text) (f : Found) : Type 0 where
  pub line : Line
  pub holds : Holds f line
  pub asks : parted ws >>? asked_by ≡ asked_by line

pub taken_words : (ws : List Text) (f : Found) → fault_of tempest_app ws ≡ [] → rows_of f ≡ matches_of tempest_app ws
    → Taken ws f
taken_words ws f fine is = go (outcome ws)
  where
    go : Outcome start ws (parted ws >>? asked_by) → Taken ws f
    go (refused faulty e) = absurd (subst IsFault (sym (fault_of-faults ws) ∙ fine) faulty)
    go (taken l none shows e) = record {
      line = l;
      holds = holds (end_rows start ws) l shows f
          (is ∙ matches-rows ws);
      asks = e;
    }

-- words with one
pub refused_words : (ws : List Text) → IsFault (fault_of tempest_app ws) → parted ws >>? asked_by ≡ None
refused_words ws faulty = go (outcome ws)
  where
    go : Outcome start ws (parted ws >>? asked_by) → parted ws >>? asked_by ≡ None
    go (refused is e) = e
    go (taken l none shows e) = absurd (subst IsFault (fault_of-faults ws ∙ none) faulty)
