-- Where the walk of `clap` stands between two words, and what is to come of it.
use Rattle.std.proofs.Common.{◌≡◌, ℕ, Bool, true, false, List, [], ◌∷◌, Option, Some, None, if◌then◌else◌, refl, sym, ap, ◌∙◌}
use Rattle.std.proofs.Common.{subst, codes}
use Rattle.std.specs.Prelude.{fold}
use Rattle.std.specs.Option.{option_map}
use Rattle.tw_base.specs.Answers.{◌>>?◌}
use Rattle.clap.specs.Faults.{settle_fault, turn_fault, walk_fault}
use Rattle.clap.specs.Kinds.{Kinds, or_else}
use Rattle.clap.specs.Walk.{Held, Row, Text, Waiting, Walk, idle, option, settled_rows, walked}
use Rattle.tempest_words.specs.declared.request.Asked.{Asked}
use Rattle.tempest_words.specs.Lines.{Line, Read, line_of, next, words_read}
use Rattle.tempest_words.specs.Words.{asked_by}
use Rattle.tempest_words.proofs.Rows.{row, value_row}
use Rattle.tempest_words.proofs.Rules.{rules, shape}

-- ---- where the walk stands

abbrev pub Pending : Type 0
Pending = Option (Text × List Text)

abbrev pub held : List Row → Pending → Held
held rows pending = record { rows = rows; pending = pending; skip = 0 }

abbrev pub walk_at : Held → Waiting → ℕ → Bool → Walk
walk_at k waiting position ended = record {
  held = k;
  waiting = waiting;
  position = position;
  is_trailing = ended;
  stopped = None;
}

-- what waits for a value, or nothing does
abbrev pub waiting_by : Bool → Waiting
waiting_by true = option (codes "batch")
waiting_by false = idle

abbrev pub batch_pending : Pending
batch_pending = Some (codes "batch", [])

-- before a word that may be anything
abbrev pub idle_at : List Row → Pending → ℕ → Walk
idle_at rows pending position = walk_at (held rows pending) idle position false

-- before the word that is the batch
abbrev pub awaiting : List Row → ℕ → Walk
awaiting rows position = walk_at (held rows batch_pending) (waiting_by true) position false

-- what is pending has its value, so that these are the rows as soon as it is used
pub record Settles (rows : List Row) (pending : Pending) (shown : List Row) : Type 0 where
  pub fault : settle_fault rules false (held rows pending) ≡ []
  pub uses : settled_rows rules pending rows ≡ shown

-- ---- faults

abbrev pub IsFault : Kinds → Type 0
IsFault [] = ⊥
IsFault (k ∷ ks) = Unit {0}

-- the faults of these words from here on, and of what is pending behind them
pub faults : Walk → List Text → Kinds
faults w ws = or_else (walk_fault shape [] w ws) (settle_fault rules false (fold (walked rules []) w ws).held)

-- the rows behind them
pub end_rows : Walk → List Text → List Row
end_rows w ws = settled_rows rules (fold (walked rules []) w ws).held.pending (fold (walked rules []) w ws).held.rows

pub faults-is : (w : Walk) (ws : List Text)
    → faults w ws ≡ or_else (walk_fault shape [] w ws) (settle_fault rules false (fold (walked rules []) w ws).held)
unfolding faults
faults-is w ws = refl

pub end_rows-is : (w : Walk) (ws : List Text)
    → end_rows w ws ≡ settled_rows rules (fold (walked rules []) w ws).held.pending (fold (walked rules []) w ws).held.rows
unfolding end_rows
end_rows-is w ws = refl

pub faults-nil : (w : Walk) → faults w [] ≡ settle_fault rules false w.held
unfolding faults walk_fault
faults-nil w = refl

pub end_rows-nil : (w : Walk) → end_rows w [] ≡ settled_rows rules w.held.pending w.held.rows
unfolding end_rows
end_rows-nil w = refl

pub end_rows-cons : (w on : Walk) (x : Text) (ws : List Text) → walked rules [] w x ≡ on → end_rows w (x ∷ ws) ≡ end_rows on ws
unfolding end_rows
end_rows-cons w on x ws e = ap
    (λ (v : Walk). settled_rows rules (fold (walked rules []) v ws).held.pending (fold (walked rules []) v ws).held.rows) e

faults-turn : (w : Walk) (x : Text) (ws : List Text)
    → faults w (x ∷ ws) ≡ or_else (or_else (turn_fault shape [] w x) (walk_fault shape [] (walked rules [] w x) ws))
    (settle_fault rules false (fold (walked rules []) (walked rules [] w x) ws).held)
unfolding faults walk_fault
faults-turn w x ws = refl

-- a word without a fault
pub faults-cons : (w on : Walk) (x : Text) (ws : List Text) → turn_fault shape [] w x ≡ [] → walked rules [] w x ≡ on
    → faults w (x ∷ ws) ≡ faults on ws
faults-cons w on x ws none e =
    faults-turn w x ws
    ∙ ap (λ t. or_else (or_else t (walk_fault shape [] (walked rules [] w x) ws))
    (settle_fault rules false (fold (walked rules []) (walked rules [] w x) ws).held)) none
    ∙ ap (λ (v : Walk). or_else (walk_fault shape [] v ws) (settle_fault rules false (fold (walked rules []) v ws).held)) e
    ∙ sym (faults-is on ws)

fault_first : (a b c : Kinds) → IsFault a → IsFault (or_else (or_else a b) c)
fault_first [] b c is = absurd is
fault_first (k ∷ ks) b c is = tt

-- a word with a fault
pub faults-here : (w : Walk) (x : Text) (ws : List Text) → IsFault (turn_fault shape [] w x) → IsFault (faults w (x ∷ ws))
faults-here w x ws is =
    subst IsFault (sym (faults-turn w x ws))
    (fault_first (turn_fault shape [] w x) (walk_fault shape [] (walked rules [] w x) ws)
    (settle_fault rules false (fold (walked rules []) (walked rules [] w x) ws).held) is)

-- ---- what the words ask for

-- from here on
abbrev pub asked_from : Read → List Text → Option Asked
asked_from r ws = words_read r ws >>? line_of >>? asked_by

pub asked-on : (r q : Read) (x : Text) (ws : List Text) → next x r ≡ Some q → asked_from r (x ∷ ws) ≡ asked_from q ws
asked-on r q x ws e = ap (λ o. (o >>? λ p. words_read p ws) >>? line_of >>? asked_by) e

pub asked-not : (r : Read) (x : Text) (ws : List Text) → next x r ≡ None → asked_from r (x ∷ ws) ≡ None
asked-not r x ws e = ap (λ o. (o >>? λ p. words_read p ws) >>? line_of >>? asked_by) e

-- ---- the two beside each other

abbrev pub flag_row : Text → Bool → Option Row
flag_row id set = if set then Some (value_row id (codes "true")) else None

-- the rows are those of a line
pub record Shows (rows : List Row) (l : Line) : Type 0 where
  pub command : row (codes "command") rows ≡ option_map (value_row (codes "command")) l.command
  pub number : row (codes "number") rows ≡ option_map (value_row (codes "number")) l.number
  pub journal : row (codes "journal") rows ≡ flag_row (codes "journal") l.journal
  pub counts : row (codes "counts") rows ≡ flag_row (codes "counts") l.counts
  pub meaning : row (codes "meaning") rows ≡ flag_row (codes "meaning") l.meaning
  pub batch : row (codes "batch") rows ≡ option_map (value_row (codes "batch")) l.batch

-- either the words are at fault, and ask for nothing, or their rows are those of the line that says what they ask for
pub data Outcome (w : Walk) (ws : List Text) (asked : Option Asked) : Type 0 where
  refused : IsFault (faults w ws) → asked ≡ None → Outcome w ws asked
  taken : (l : Line) → faults w ws ≡ [] → Shows (end_rows w ws) l → asked ≡ asked_by l → Outcome w ws asked

pub outcome-on : (w on : Walk) (x : Text) (ws : List Text) (asked later : Option Asked) → turn_fault shape [] w x ≡ []
    → walked rules [] w x ≡ on → asked ≡ later
    → Outcome on ws later → Outcome w (x ∷ ws) asked
outcome-on w on x ws asked later none e same (refused is nothing) = refused
    (subst IsFault (sym (faults-cons w on x ws none e)) is) (same ∙ nothing)
outcome-on w on x ws asked later none e same (taken l fine shows is) =
    taken l (faults-cons w on x ws none e ∙ fine) (subst (λ rs. Shows rs l) (sym (end_rows-cons w on x ws e)) shows) (same ∙ is)

pub outcome-here : (w : Walk) (x : Text) (ws : List Text) (asked : Option Asked) → IsFault (turn_fault shape [] w x)
    → asked ≡ None → Outcome w (x ∷ ws) asked
outcome-here w x ws asked is nothing = refused (faults-here w x ws is) nothing
