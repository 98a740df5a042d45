-- Rows of matches that grow by a row of a new id.
use Rattle.std.proofs.Common.{◌≡◌, ◌||◌, Bool, true, false, cond, List, [], ◌∷◌, ◌++◌, Option, Some, None, is_some, refl, ap}
use Rattle.std.specs.Prelude.{find}
use Rattle.std.specs.Str.{bytes_eq}
use Rattle.clap.specs.Walk.{Row, Text, at_row, has_row}
use Rattle.clap.specs.declared.builder.value_parser.Reading.TheVariants.{AsWritten}
use Rattle.clap.specs.declared.parser.matches.ValueSource.TheVariants.{CommandLine}

-- the row of an id
abbrev pub row : Text → List Row → Option Row
row id rows = find (λ r. bytes_eq r.id id) rows

-- of one value, given by the words
abbrev pub value_row : Text → Text → Row
value_row id value = record { id = id; values = value ∷ []; count = None; source = Some CommandLine; reading = AsWritten }

abbrev pub or_row : Option Row → Option Row → Option Row
or_row (Some r) next = Some r
or_row None next = next

pub or_row-None : (o : Option Row) → or_row o None ≡ o
or_row-None (Some r) = refl
or_row-None None = refl

pub has_row-row : (id : Text) (rows : List Row) → has_row id rows ≡ is_some (row id rows)
has_row-row id [] = refl
has_row-row id (r ∷ rows) = go (bytes_eq r.id id) (has_row-row id rows)
  where
    go : (b : Bool) → has_row id rows ≡ is_some (row id rows) → (b || has_row id rows) ≡ is_some (cond b (Some r) (row id rows))
    go true e = refl
    go false e = e

pub row-append : (id : Text) (rows : List Row) (r : Row)
    → row id (rows ++ r ∷ []) ≡ or_row (row id rows) (cond (bytes_eq r.id id) (Some r) None)
row-append id [] r = refl
row-append id (x ∷ rows) r = go (bytes_eq x.id id) (row-append id rows r)
  where
    go : (b : Bool) → row id (rows ++ r ∷ []) ≡ or_row (row id rows) (cond (bytes_eq r.id id) (Some r) None)
        → cond b (Some x) (row id (rows ++ r ∷ [])) ≡ or_row (cond b (Some x) (row id rows))
        (cond (bytes_eq r.id id) (Some r) None)
    go true e = refl
    go false e = e

pub at_row-new : (id : Text) (change : Row → List Row) (missing rows : List Row) → has_row id rows ≡ false
    → at_row id change missing rows ≡ rows ++ missing
at_row-new id change missing [] none = refl
at_row-new id change missing (r ∷ rows) none = go (bytes_eq r.id id) none (at_row-new id change missing rows)
  where
    go : (b : Bool) → (b || has_row id rows) ≡ false
        → (has_row id rows ≡ false → at_row id change missing rows ≡ rows ++ missing)
        → cond b (change r ++ rows) (r ∷ at_row id change missing rows) ≡ r ∷ (rows ++ missing)
    go true e rest = absurd (cc)
    go false e rest = ap (λ rs. r ∷ rs) (rest e)
