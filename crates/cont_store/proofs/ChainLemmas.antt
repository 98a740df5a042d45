-- A change at one key leaves the chains alone that do not pass it.
use Rattle.std.proofs.Common.{◌≡◌, ◌≢◌, ℕ, zero, suc, ◌∷◌, Option, Some, None, refl, ap, ◌∙◌}
use Rattle.cont_store.specs.declared.record.Record.{Record}
use Rattle.cont_store.specs.declared.record.RecordKey.{RecordKey}
use Rattle.cont_store.specs.Store.{Store, record_at, Changes, chained, chain_of}

-- a fact of the parent, where there is a record
abbrev pub OfParent : (Option RecordKey → Type 0) → Option Record → Type 0
OfParent Older None = Unit {0}
OfParent Older (Some r) = Older r.parent

-- the same, and there is a record
abbrev pub IsLinked : (Option RecordKey → Type 0) → Option Record → Type 0
IsLinked Older None = ⊥
IsLinked Older (Some r) = Older r.parent

-- the key is none of the chain's
abbrev pub Avoids : Store → RecordKey → ℕ → Option RecordKey → Type 0
Avoids s key zero from = Unit {0}
Avoids s key (suc depth) None = Unit {0}
Avoids s key (suc depth) (Some k) = (k ≢ key) × OfParent (λ parent. Avoids s key depth parent) (record_at s k)

-- each key of the chain names a record
abbrev pub NamesRecords : Store → ℕ → Option RecordKey → Type 0
NamesRecords s zero from = Unit {0}
NamesRecords s (suc depth) None = Unit {0}
NamesRecords s (suc depth) (Some k) = IsLinked (λ parent. NamesRecords s depth parent) (record_at s k)

-- what a free key is given is in no chain that stands
pub Avoids-free : (s : Store) (key : RecordKey) → record_at s key ≡ None → (depth : ℕ) (from : Option RecordKey) →
    NamesRecords s depth from → Avoids s key depth from
Avoids-free s key free zero from whole = tt
Avoids-free s key free (suc depth) None whole = tt
Avoids-free s key free (suc depth) (Some k) whole = (
  λ same. not_free (record_at s k) (ap (record_at s) same ∙ free) whole,
  older (λ parent stands. Avoids-free s key free depth parent stands) (record_at s k) whole,
)
  where
    not_free : (named : Option Record) → named ≡ None → IsLinked (λ parent. NamesRecords s depth parent) named → ⊥
    not_free None is linked = linked
    not_free (Some r) is linked = cc

    older : ((parent : Option RecordKey) → NamesRecords s depth parent → Avoids s key depth parent) → (named : Option Record) →
        IsLinked (λ parent. NamesRecords s depth parent) named → OfParent (λ parent. Avoids s key depth parent) named
    older rest None linked = tt
    older rest (Some r) linked = rest r.parent linked

pub chain_of-changes : (old new : Store) (key : RecordKey) (named : Option Record) → Changes old new key named →
    (depth : ℕ) (from : Option RecordKey) → Avoids old key depth from → chain_of new from depth ≡ chain_of old from depth
chain_of-changes old new key named changes zero from avoids = refl
chain_of-changes old new key named changes (suc depth) None avoids = refl
chain_of-changes old new key named changes (suc depth) (Some k) avoids =
    ap (λ r. chained r (λ parent. chain_of new parent depth)) (changes.others k avoids.0)
    ∙ older (λ parent aside. chain_of-changes old new key named changes depth parent aside) (record_at old k) avoids.1
  where
    older : ((parent : Option RecordKey) → Avoids old key depth parent →
        chain_of new parent depth ≡ chain_of old parent depth) → (first : Option Record) →
        OfParent (λ parent. Avoids old key depth parent) first →
        chained first (λ parent. chain_of new parent depth) ≡ chained first (λ parent. chain_of old parent depth)
    older rest None aside = refl
    older rest (Some r) aside = ap (λ rs. r ∷ rs) (rest r.parent aside)
