-- The chains of the other blocks.
use Rattle.std.proofs.Common.{◌≡◌, ◌∙◌, inl, inr, ℕ, List, Option, Some, sym, ap, subst}
use Rattle.std.specs.Prelude.{◌≢◌}
use Rattle.std.proofs.lemmas.Bool.{cases_eq}
use Rattle.tw_base.specs.Lists.{Each}
use Rattle.cont_store.specs.declared.record.Record.{Record}
use Rattle.cont_store.specs.declared.record.RecordKey.{RecordKey}
use Rattle.cont_store.specs.Store.{Store, record_at}
use Rattle.handler_vm.specs.Apart.{AreApart, AreChains, ChainsStayApart}
use Rattle.handler_vm.specs.Chains.{Chained, ends, heads, IsChain, IsOn, IsWholeRecord, newest, older, KeepsOthers, records_of}
use Rattle.handler_vm.proofs.Chaining.{chain_few, chain_is, on_named}

module _ (old new : Store) (was now : Option RecordKey) (keeps : KeepsOthers old new was now) where
  still : {o : Option RecordKey} {rs : List Record} → Chained old o rs → AreApart old was o → Chained new o rs
  still ends apart = ends
  still (heads {key = key} {r = r} e d rest) apart = heads (keeps.stay key r e (λ h. apart key h newest)) d
      (still rest (λ k h q. apart k h (older e q)))

  back : {o : Option RecordKey} {rs : List Record} → Chained old o rs → AreApart old was o → {k : RecordKey} → IsOn new o k →
      IsOn old o k
  back ends apart h = elim h [ ]
  back (heads e d rest) apart newest = newest
  back (heads {key = key} {r = r} e d rest) apart {k} (older {r = y} f h) =
      let there : record_at new key ≡ Some r = keeps.stay key r e (λ q. apart key q newest) in
      let both : Some y ≡ Some r = sym f ∙ there in
      let is : y ≡ r = cc in
      older e (back rest (λ j q p. apart j q (older e p)) (subst (λ (z : Record). IsOn new z.parent k) is h))

  -- the run's own chain and another
  own : {o : Option RecordKey} {rs : List Record} → Chained old o rs → AreApart old was o → AreApart new now o
  own chain apart k h q =
      let before = back chain apart q in on_named chain before (keeps.fresh k h (λ p. apart k p before))

  same_records : (words : ℕ) (o : Option RecordKey) → IsChain words old o → AreApart old was o →
      records_of new o ≡ records_of old o
  same_records words o chain apart = chain_is (still chain.named apart) 8 (chain_few old o 8)

  still_chain : (words : ℕ) (o : Option RecordKey) → IsChain words old o → AreApart old was o → IsChain words new o
  still_chain words o chain apart =
      let same = sym (same_records words o chain apart) in
      record {
        named = subst (Chained new o) same (still chain.named apart);
        whole = subst (Each (IsWholeRecord words)) same chain.whole;
      }

turned : {s : Store} {a b : Option RecordKey} → AreApart s a b → AreApart s b a
turned h k p q = h k q p

module _ (words : ℕ) (old new : Store) (block : ℕ) (was now : ℕ → Option RecordKey) (chains : AreChains words old was)
    (keeps : KeepsOthers old new (was block) (now block)) (chain : IsChain words new (now block))
    (same : (other : ℕ) → other ≢ block → now other ≡ was other) where
  from_own : (k : ℕ) → k ≢ block → AreApart old (was block) (was k)
  from_own k d = chains.apart block k (λ e. d (sym e))

  whole : (k : ℕ) → IsChain words new (now k)
  whole k = elim (cases_eq k block) [
    | inl e ↦ subst (λ n. IsChain words new (now n)) (sym e) chain
    | inr d ↦ subst (IsChain words new) (sym (same k d)) (still_chain old new (was block) (now block) keeps words (was k)
        (chains.whole k) (from_own k d))
  ]

  beside : (k : ℕ) → k ≢ block → AreApart new (now block) (now k)
  beside k d = subst (λ (o : Option RecordKey). AreApart new (now block) o) (sym (same k d))
      (own old new (was block) (now block) keeps (chains.whole k).named (from_own k d))

  off : (i j : ℕ) → i ≢ block → j ≢ block → i ≢ j → AreApart new (now i) (now j)
  off i j di dj d k h q =
      chains.apart i j d k
      (back old new (was block) (now block) keeps (chains.whole i).named (from_own i di)
      (subst (λ (o : Option RecordKey). IsOn new o k) (same i di) h))
      (back old new (was block) (now block) keeps (chains.whole j).named (from_own j dj)
      (subst (λ (o : Option RecordKey). IsOn new o k) (same j dj) q))

  apart : (i j : ℕ) → i ≢ j → AreApart new (now i) (now j)
  apart i j d = elim (cases_eq i block) [
    | inl e ↦ subst (λ n. AreApart new (now n) (now j)) (sym e) (beside j (λ q. d (e ∙ sym q)))
    | inr di ↦ elim (cases_eq j block) [
      | inl e ↦ subst (λ n. AreApart new (now i) (now n)) (sym e) (turned (beside i di))
      | inr dj ↦ off i j di dj d
    ]
  ]

  others : (k : ℕ) → k ≢ block → records_of new (now k) ≡ records_of old (was k)
  others k d = ap (records_of new) (same k d) ∙ same_records old new (was block) (now block) keeps words (was k)
      (chains.whole k) (from_own k d)

pub stay_apart : ChainsStayApart
stay_apart words old new block was now chains keeps chain same =
    record {
      chains = record {
        whole = whole words old new block was now chains keeps chain same;
        apart = apart words old new block was now chains keeps chain same;
      };
      others = others words old new block was now chains keeps chain same;
    }
