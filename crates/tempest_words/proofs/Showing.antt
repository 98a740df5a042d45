-- Rows that show a line, with one more of its parts.
use Rattle.std.proofs.Common.{◌≡◌, Bool, true, false, List, [], ◌∷◌, ◌++◌, Option, Some, None, is_some, if◌then◌else◌, refl, ap}
use Rattle.std.proofs.Common.{◌∙◌, codes}
use Rattle.std.specs.Option.{option_map}
use Rattle.std.specs.Str.{bytes_eq}
use Rattle.clap.specs.Walk.{Row, Text, has_row}
use Rattle.tempest_words.specs.Lines.{Line}
use Rattle.tempest_words.proofs.Rows.{has_row-row, or_row, or_row-None, row, row-append, value_row}
use Rattle.tempest_words.proofs.Settling.{Shows, flag_row}

other : (id own v : Text) (rows : List Row) (o : Option Row) → bytes_eq own id ≡ false → row id rows ≡ o
    → row id (rows ++ value_row own v ∷ []) ≡ o
other id own v rows o apart e =
    row-append id rows (value_row own v) ∙ ap (λ t. or_row (row id rows) (if t then Some (value_row own v) else None)) apart
    ∙ or_row-None (row id rows) ∙ e

same : (id v : Text) (rows : List Row) → bytes_eq id id ≡ true → row id rows ≡ None
    → row id (rows ++ value_row id v ∷ []) ≡ Some (value_row id v)
same id v rows is none =
    row-append id rows (value_row id v) ∙ ap (λ t. or_row (row id rows) (if t then Some (value_row id v) else None)) is
    ∙ ap (λ o. or_row o (Some (value_row id v))) none

module _ (rows : List Row) (l : Line) (shows : Shows rows l) where
  pub has_value : (id : Text) (o : Option Text) → row id rows ≡ option_map (value_row id) o → has_row id rows ≡ is_some o
  has_value id o e = has_row-row id rows ∙ ap is_some e ∙ go o
    where
      go : (o : Option Text) → is_some (option_map (value_row id) o) ≡ is_some o
      go None = refl
      go (Some v) = refl

  pub has_flag : (id : Text) (set : Bool) → row id rows ≡ flag_row id set → has_row id rows ≡ set
  has_flag id set e = has_row-row id rows ∙ ap is_some e ∙ go set
    where
      go : (set : Bool) → is_some (flag_row id set) ≡ set
      go true = refl
      go false = refl

  abbrev with_row : Text → Text → List Row
  with_row id v = rows ++ value_row id v ∷ []

  pub shows_command : (v : Text) → l.command ≡ None → Shows (with_row (codes "command") v) (record l { command = Some v })
  shows_command v none = record {
    command = same (codes "command") v rows refl (shows.command ∙ ap (option_map (value_row (codes "command"))) none);
    number = other (codes "number") (codes "command") v rows _ refl shows.number;
    journal = other (codes "journal") (codes "command") v rows _ refl shows.journal;
    counts = other (codes "counts") (codes "command") v rows _ refl shows.counts;
    meaning = other (codes "meaning") (codes "command") v rows _ refl shows.meaning;
    batch = other (codes "batch") (codes "command") v rows _ refl shows.batch;
  }

  pub shows_number : (v : Text) → l.number ≡ None → Shows (with_row (codes "number") v) (record l { number = Some v })
  shows_number v none = record {
    command = other (codes "command") (codes "number") v rows _ refl shows.command;
    number = same (codes "number") v rows refl (shows.number ∙ ap (option_map (value_row (codes "number"))) none);
    journal = other (codes "journal") (codes "number") v rows _ refl shows.journal;
    counts = other (codes "counts") (codes "number") v rows _ refl shows.counts;
    meaning = other (codes "meaning") (codes "number") v rows _ refl shows.meaning;
    batch = other (codes "batch") (codes "number") v rows _ refl shows.batch;
  }

  pub shows_batch : (v : Text) → l.batch ≡ None → Shows (with_row (codes "batch") v) (record l { batch = Some v })
  shows_batch v none = record {
    command = other (codes "command") (codes "batch") v rows _ refl shows.command;
    number = other (codes "number") (codes "batch") v rows _ refl shows.number;
    journal = other (codes "journal") (codes "batch") v rows _ refl shows.journal;
    counts = other (codes "counts") (codes "batch") v rows _ refl shows.counts;
    meaning = other (codes "meaning") (codes "batch") v rows _ refl shows.meaning;
    batch = same (codes "batch") v rows refl (shows.batch ∙ ap (option_map (value_row (codes "batch"))) none);
  }

  pub shows_journal : l.journal ≡ false → Shows (with_row (codes "journal") (codes "true")) (record l { journal = true })
  shows_journal none = record {
    command = other (codes "command") (codes "journal") (codes "true") rows _ refl shows.command;
    number = other (codes "number") (codes "journal") (codes "true") rows _ refl shows.number;
    journal = same (codes "journal") (codes "true") rows refl (shows.journal ∙ ap (flag_row (codes "journal")) none);
    counts = other (codes "counts") (codes "journal") (codes "true") rows _ refl shows.counts;
    meaning = other (codes "meaning") (codes "journal") (codes "true") rows _ refl shows.meaning;
    batch = other (codes "batch") (codes "journal") (codes "true") rows _ refl shows.batch;
  }

  pub shows_counts : l.counts ≡ false → Shows (with_row (codes "counts") (codes "true")) (record l { counts = true })
  shows_counts none = record {
    command = other (codes "command") (codes "counts") (codes "true") rows _ refl shows.command;
    number = other (codes "number") (codes "counts") (codes "true") rows _ refl shows.number;
    journal = other (codes "journal") (codes "counts") (codes "true") rows _ refl shows.journal;
    counts = same (codes "counts") (codes "true") rows refl (shows.counts ∙ ap (flag_row (codes "counts")) none);
    meaning = other (codes "meaning") (codes "counts") (codes "true") rows _ refl shows.meaning;
    batch = other (codes "batch") (codes "counts") (codes "true") rows _ refl shows.batch;
  }

  pub shows_meaning : l.meaning ≡ false → Shows (with_row (codes "meaning") (codes "true")) (record l { meaning = true })
  shows_meaning none = record {
    command = other (codes "command") (codes "meaning") (codes "true") rows _ refl shows.command;
    number = other (codes "number") (codes "meaning") (codes "true") rows _ refl shows.number;
    journal = other (codes "journal") (codes "meaning") (codes "true") rows _ refl shows.journal;
    counts = other (codes "counts") (codes "meaning") (codes "true") rows _ refl shows.counts;
    meaning = same (codes "meaning") (codes "true") rows refl (shows.meaning ∙ ap (flag_row (codes "meaning")) none);
    batch = other (codes "batch") (codes "meaning") (codes "true") rows _ refl shows.batch;
  }
