-- A record more on a chain, and one less.
use Rattle.std.proofs.Common.{◌≡◌, ℕ, ◌+◌, ◌<◌, ◌≤◌, List, ◌∷◌, Option, Some, None, length, sym, ap, subst, ◌∙◌, arith}
use Rattle.tw_base.specs.Lists.{Each}
use Rattle.cont_store.specs.declared.record.Record.{Record}
use Rattle.cont_store.specs.declared.record.RecordKey.{RecordKey}
use Rattle.cont_store.specs.Store.{Changes, Store, record_at}
use Rattle.handler_vm.specs.Chains.{Chained, IsChain, IsWholeRecord, records_of}
use Rattle.handler_vm.proofs.Chaining.{chain_few, chain_is, newest_of, put_on, taken_out}

-- the newest record, and the chain without it
pub record Unwound (words : ℕ) (old new : Store) (key : RecordKey) (r : Record) : Type 0 where
  pub records : records_of old (Some key) ≡ r ∷ records_of new r.parent
  pub chain : IsChain words new r.parent
  pub whole : IsWholeRecord words r

pub unwound : (words : ℕ) (old new : Store) (key : RecordKey) (r : Record) → IsChain words old (Some key) →
    record_at old key ≡ Some r → Changes old new key None → Unwound words old new key r
unwound words old new key r chain e change =
    let n = newest_of chain.named in
    let both : Some n.top ≡ Some r = sym n.named ∙ e in
    let same : n.top ≡ r = cc in
    let rest : Chained new n.top.parent n.older = taken_out n.named n.depth change n.rest in
    let few : length n.older ≤ 8 = omega (arith, chain_few old (Some key) 8, ap length n.is) in
    let found : records_of new n.top.parent ≡ n.older = chain_is rest 8 few in
    let whole : Each (IsWholeRecord words) (n.top ∷ n.older) = subst (Each (IsWholeRecord words)) n.is chain.whole in
    let there : Unwound words old new key n.top = record {
      records = n.is ∙ ap (λ rs. n.top ∷ rs) (sym found);
      chain = record {
        named = subst (Chained new n.top.parent) (sym found) rest;
        whole = subst (Each (IsWholeRecord words)) (sym found) whole.1;
      };
      whole = whole.0;
    } in
    subst (λ (x : Record). Unwound words old new key x) same there

pub record Wound (words : ℕ) (new : Store) (key : RecordKey) (r : Record) (rs : List Record) : Type 0 where
  pub records : records_of new (Some key) ≡ r ∷ rs
  pub chain : IsChain words new (Some key)

pub wound : (words : ℕ) (old new : Store) (cont : Option RecordKey) (key : RecordKey) (r : Record) → IsChain words old cont →
    record_at old key ≡ None → Changes old new key (Some r)
    → r.parent ≡ cont → r.depth ≡ length (records_of old cont) + 1 → length (records_of old cont) < 8 → IsWholeRecord words r →
    Wound words new key r (records_of old cont)
wound words old new cont key r chain free change is d low whole =
    let all : Chained new (Some key) (r ∷ records_of old cont) = put_on free change is d chain.named in
    let found : records_of new (Some key) ≡ r ∷ records_of old cont = chain_is all 8 (omega (arith, low)) in
    record {
      records = found;
      chain = record {
        named = subst (Chained new (Some key)) (sym found) all;
        whole = subst (Each (IsWholeRecord words)) (sym found) (whole, chain.whole);
      };
    }
