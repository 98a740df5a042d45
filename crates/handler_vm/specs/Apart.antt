-- Chains that have no record in common.
use Rattle.std.specs.Prelude.{ℕ, ◌≡◌, ◌≢◌, Option}
use Rattle.cont_store.specs.declared.record.RecordKey.{RecordKey}
use Rattle.cont_store.specs.Store.{Store}
use Rattle.handler_vm.specs.Chains.{IsChain, IsOn, KeepsOthers, records_of}

abbrev pub AreApart : Store → Option RecordKey → Option RecordKey → Type 0
AreApart store a b = (key : RecordKey) → IsOn store a key → IsOn store b key → ⊥

-- each block's chain is whole, and no two have a record in common
pub record AreChains (words : ℕ) (store : Store) (conts : ℕ → Option RecordKey) : Type 0 where
  pub whole : (block : ℕ) → IsChain words store (conts block)
  pub apart : (a b : ℕ) → a ≢ b → AreApart store (conts a) (conts b)

-- all chains are whole and apart again, and those of the other blocks have the records that they had
pub record StayApart (words : ℕ) (old new : Store) (block : ℕ) (was now : ℕ → Option RecordKey) : Type 0 where
  pub chains : AreChains words new now
  pub others : (other : ℕ) → other ≢ block → records_of new (now other) ≡ records_of old (was other)

-- a run at one block that leaves a whole chain there, and keeps what is not on it
abbrev pub ChainsStayApart : Type 0
ChainsStayApart =
    (words : ℕ) (old new : Store) (block : ℕ) (was now : ℕ → Option RecordKey) →
    AreChains words old was →
    KeepsOthers old new (was block) (now block) →
    IsChain words new (now block) →
    ((other : ℕ) → other ≢ block → now other ≡ was other) →
    StayApart words old new block was now
