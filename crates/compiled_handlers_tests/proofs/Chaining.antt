-- Chains of records in a store, and in another that names the same records.
use Rattle.std.proofs.Common.{◌≡◌, ℕ, List, Option, Some, refl, sym, subst, ◌∙◌}
use Rattle.std.specs.Prelude.{IsSome}
use Rattle.tw_base.specs.Lists.{Each}
use Rattle.cont_store.specs.declared.record.Record.{Record}
use Rattle.cont_store.specs.declared.record.RecordKey.{RecordKey}
use Rattle.cont_store.specs.Store.{Store, record_at}
use Rattle.handler_vm.specs.Chains.{Chained, heads, IsChain, IsWholeRecord, records_of}
use Rattle.handler_vm.proofs.Chaining.{chain_few, chain_is, moved}
use Rattle.compiled_handlers_tests.specs.Named.{IsNamed}

-- a store that names the same records has the same chain
pub same_chain : (words : ℕ) (old new : Store) (key : Option RecordKey) →
    ((k : RecordKey) → record_at new k ≡ record_at old k) → IsChain words old key →
    IsChain words new key × (records_of new key ≡ records_of old key)
same_chain words old new key same chain =
    let there : Chained new key (records_of old key) = moved chain.named (λ k s h low. same k ∙ h) in
    let is : records_of new key ≡ records_of old key = chain_is there 8 (chain_few old key 8) in (
      record {
        named = subst (Chained new key) (sym is) there;
        whole = subst (Each (IsWholeRecord words)) (sym is) chain.whole;
      },
      is,
    )

-- ---- the newest record, and the older ones

pub newest_there : {store : Store} {key : RecordKey} {rs : List Record} → Chained store (Some key) rs →
    IsSome (record_at store key)
newest_there (heads e d rest) = subst IsSome (sym e) refl

pub older_named : {store : Store} {key : RecordKey} {r : Record} {rs : List Record} → Chained store (Some key) rs →
    record_at store key ≡ Some r → IsNamed store r.parent
older_named {store} {r = r'} (heads {r = top} {older = more} e d rest) named =
    let both : Some top ≡ Some r' = sym e ∙ named in
    let same : top ≡ r' = cc in
    record { records = more; chained = subst (λ (x : Record). Chained store x.parent more) same rest }
