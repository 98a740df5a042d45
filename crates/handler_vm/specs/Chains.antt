-- The records of a block's suspensions in the store.
use Rattle.std.specs.Prelude.{ℕ, ◌≡◌, ◌≢◌, ◌+◌, List, [], ◌∷◌, Option, Some, None, length, map, slice_get, take, ⊤}
use Rattle.tw_base.specs.Lists.{Each}
use Rattle.tw_base.specs.declared.value.Data.{Data}
use Rattle.teapot_tree.specs.declared.protocol.Protocol.{Protocol}
use Rattle.cont_store.specs.declared.record.Record.{Record}
use Rattle.cont_store.specs.declared.record.RecordKey.{RecordKey}
use Rattle.cont_store.specs.Store.{Store, chain_of, record_at}
use Rattle.handler_code.specs.Doors.{filled}
use Rattle.handler_code.specs.Machine.{Saved, state_arity}

-- the records that are found from a key on, of which there are at most eight, the newest first
abbrev pub records_of : Store → Option RecordKey → List Record
records_of store key = chain_of store key 8

-- These are the records from the key on, each the parent of the one before, and each tells how many there are from it on.
pub data Chained (store : Store) : Option RecordKey → List Record → Type 0 where
  ends : Chained store None []
  heads :
      {key : RecordKey} {r : Record} {older : List Record} →
      record_at store key ≡ Some r →
      r.depth ≡ length older + 1 →
      Chained store r.parent older →
      Chained store (Some key) (r ∷ older)

-- the data, if there is any, has as many words as a block
abbrev pub IsFull : ℕ → Option Data → Type 0
IsFull words None = ⊤
IsFull words (Some d) = length d ≡ words

-- all places of the record are there, and its data are a whole block
pub record IsWholeRecord (words : ℕ) (r : Record) : Type 0 where
  pub values : length r.values ≡ 21
  pub args : length r.args ≡ 4
  pub came : IsFull words r.came

-- the store names each record of the chain, and each is whole
pub record IsChain (words : ℕ) (store : Store) (key : Option RecordKey) : Type 0 where
  pub named : Chained store key (records_of store key)
  pub whole : Each (IsWholeRecord words) (records_of store key)

-- a record as the machine of ops sees it; its slots are all 21
abbrev pub saved_of : Protocol → Record → Saved
saved_of p r = record {
  rest = r.rest;
  values = r.values;
  came = r.came;
  state = r.state;
  args = take (state_arity (slice_get p.states r.state)) r.args;
}

abbrev pub saved_from : Protocol → Store → Option RecordKey → List Saved
saved_from p store key = map (saved_of p) (records_of store key)

-- the same with 0 in the slots past its own, up to all 21
abbrev pub widened : Saved → Saved
widened s = record s { values = filled 21 s.values }

-- the key names a record of the chain
pub data IsOn (store : Store) : Option RecordKey → RecordKey → Type 0 where
  newest : {key : RecordKey} → IsOn store (Some key) key
  older :
      {key other : RecordKey} {r : Record} →
      record_at store key ≡ Some r →
      IsOn store r.parent other →
      IsOn store (Some key) other

-- Of the records that were there, those of the chain alone may go, and the newest of the chain as it is now alone may be new.
-- What is on the chain as it is now was on it before, or its key named nothing.
pub record KeepsOthers (old new : Store) (was now : Option RecordKey) : Type 0 where
  pub stay : (key : RecordKey) (r : Record) → record_at old key ≡ Some r → (IsOn old was key → ⊥) → record_at new key ≡ Some r
  pub come : (key : RecordKey) → record_at old key ≡ None → now ≢ Some key → record_at new key ≡ None
  pub fresh : (key : RecordKey) → IsOn new now key → (IsOn old was key → ⊥) → record_at old key ≡ None

-- the chain as it is now is part of the chain that was, and all else in the store is the same
pub record Spares (old new : Store) (was now : Option RecordKey) : Type 0 where
  pub on : (key : RecordKey) → IsOn new now key → IsOn old was key
  pub others : (key : RecordKey) → (IsOn old was key → ⊥) → record_at new key ≡ record_at old key

-- Whatever store the run began in: if all but the run's chain is kept so far, it is to the end.
abbrev pub KeepsOthersFrom : ℕ → Store → Store → Option RecordKey → Option RecordKey → Type 0
KeepsOthersFrom words mid new cont now =
    (old : Store) (was : Option RecordKey) → Spares old mid was cont → IsChain words old was → KeepsOthers old new was now
