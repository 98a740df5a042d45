-- What the store keeps, as its callers see it.
use Rattle.std.specs.Prelude.{◌≡◌, ◌≢◌, ℕ, zero, suc, ◌+◌, List, [], ◌∷◌, Option, Some, None, is_some, count_by, slice_index_or}
use Rattle.std.specs.Option.{option_and_then}
use Rattle.cont_store.specs.declared.record.Record.{Record}
use Rattle.cont_store.specs.declared.record.RecordKey.{RecordKey}

-- the record or nothing at each place of the three classes; so many more can be saved without memory
pub record Store : Type 0 where
  pub small : List (Option Record)
  pub medium : List (Option Record)
  pub large : List (Option Record)
  pub spare : ℕ

-- the places of a class; there are three classes
abbrev pub places_of : Store → ℕ → List (Option Record)
places_of s zero = s.small
places_of s (suc zero) = s.medium
places_of s (suc (suc zero)) = s.large
places_of s (suc (suc (suc _))) = []

-- the record that a key names
abbrev pub record_at : Store → RecordKey → Option Record
record_at s key = slice_index_or (places_of s key.class) key.at None

-- how many keys name a record
abbrev pub record_count : Store → ℕ
record_count s = count_by is_some s.small + count_by is_some s.medium + count_by is_some s.large

-- the key names this, every other key what it named before
pub record Changes (old new : Store) (key : RecordKey) (named : Option Record) : Type 0 where
  pub changed : record_at new key ≡ named
  pub others : (other : RecordKey) → other ≢ key → record_at new other ≡ record_at old other

-- a record, and those that are found from its parent
abbrev pub chained : Option Record → (Option RecordKey → List Record) → List Record
chained None older = []
chained (Some r) older = r ∷ older r.parent

-- at most so many records from a key on, the newest first, each the parent of the one before
abbrev pub chain_of : Store → Option RecordKey → ℕ → List Record
chain_of s key zero = []
chain_of s key (suc depth) = chained (option_and_then (record_at s) key) (λ parent. chain_of s parent depth)
