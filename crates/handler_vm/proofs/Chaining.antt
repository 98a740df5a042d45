-- Chains of records in the store.
use Rattle.std.proofs.Common.{◌≡◌, ℕ, zero, suc, ◌+◌, ◌-◌, ◌≤◌, List, [], ◌∷◌, ◌++◌, Option, Some, None, length, refl, sym, ap}
use Rattle.std.proofs.Common.{subst, ◌∙◌, arith}
use Rattle.std.specs.Prelude.{map, replicate}
use Rattle.std.specs.Option.{option_and_then}
use Rattle.std.proofs.lemmas.List.{append-nil}
use Rattle.tw_base.specs.Lists.{Each}
use Rattle.tw_base.specs.declared.value.Value.{Value}
use Rattle.tw_base.specs.declared.value.Value.TheVariants.{Int}
use Rattle.teapot_tree.specs.declared.protocol.Protocol.{Protocol}
use Rattle.cont_store.specs.declared.record.Record.{Record}
use Rattle.cont_store.specs.declared.record.RecordKey.{RecordKey}
use Rattle.cont_store.specs.Store.{Changes, Store, chain_of, chained, record_at}
use Rattle.handler_code.specs.Doors.{filled}
use Rattle.handler_vm.specs.Chains.{Chained, ends, heads, IsOn, newest, older, IsWholeRecord, KeepsOthers, saved_of, Spares}
use Rattle.handler_vm.specs.Chains.{widened}

-- ---- the records of a chain are those that are found

found : (store : Store) (key : RecordKey) (r : Record) (n : ℕ) → record_at store key ≡ Some r →
    chain_of store (Some key) (suc n) ≡ r ∷ chain_of store r.parent n
found store key r n e = ap (λ o. chained o (λ parent. chain_of store parent n)) e

pub chain_is : {store : Store} {key : Option RecordKey} {rs : List Record} → Chained store key rs → (n : ℕ) → length rs ≤ n →
    chain_of store key n ≡ rs
chain_is ends zero few = refl
chain_is ends (suc n) few = refl
chain_is (heads e d rest) zero few = absurd (omega arith)
chain_is {store} (heads {key = key} {r = r} e d rest) (suc n) few = found store key r n e
    ∙ ap (λ rs. r ∷ rs) (chain_is rest n (omega (arith, few)))

option_few : (o : Option Record) (f : Option RecordKey → List Record) (n : ℕ) →
    ((parent : Option RecordKey) → length (f parent) ≤ n) → length (chained o f) ≤ n + 1
option_few None f n h = omega arith
option_few (Some r) f n h = omega (arith, h r.parent)

pub chain_few : (store : Store) (key : Option RecordKey) (n : ℕ) → length (chain_of store key n) ≤ n
chain_few store key zero = omega arith
chain_few store key (suc n) =
    omega (
      arith,
      option_few (option_and_then (record_at store) key) (λ parent. chain_of store parent n) n
          (λ parent. chain_few store parent n),
    )

-- ---- the newest record and the older ones

pub record Newest (store : Store) (key : RecordKey) (rs : List Record) : Type 0 where
  pub top : Record
  pub older : List Record
  pub is : rs ≡ top ∷ older
  pub named : record_at store key ≡ Some top
  pub depth : top.depth ≡ length older + 1
  pub rest : Chained store top.parent older

pub newest_of : {store : Store} {key : RecordKey} {rs : List Record} → Chained store (Some key) rs → Newest store key rs
newest_of (heads {r = r} {older = more} e d rest) = record { top = r; older = more; is = refl; named = e; depth = d; rest = rest }

pub none_of : {store : Store} {rs : List Record} → Chained store None rs → rs ≡ []
none_of ends = refl

-- ---- another store that has the records of the chain

pub moved : {store other : Store} {key : Option RecordKey} {rs : List Record} → Chained store key rs
    → ((k : RecordKey) (r : Record) → record_at store k ≡ Some r → r.depth ≤ length rs → record_at other k ≡ Some r) →
    Chained other key rs
moved ends has = ends
moved (heads {key = key} {r = r} e d rest) has =
    heads (has key r e (omega (arith, d))) d (moved rest (λ k s h low. has k s h (omega (arith, low))))

-- the newest is taken out
pub taken_out : {store other : Store} {key : RecordKey} {r : Record} {rs : List Record} → record_at store key ≡ Some r →
    r.depth ≡ length rs + 1
    → Changes store other key None → {parent : Option RecordKey} → Chained store parent rs → Chained other parent rs
taken_out {store} {other} {key} {r} {rs} e d change chain =
    moved chain (λ k s h low. change.others k (λ same. let both : Some s ≡ Some r = sym h ∙ ap (record_at store) same
    ∙ e in let is : s ≡ r = cc in omega (arith, ap (λ (x : Record). x.depth) is, d, low)) ∙ h)

-- a record is put on top
pub put_on : {store other : Store} {key : RecordKey} {r : Record} {parent : Option RecordKey} {rs : List Record} →
    record_at store key ≡ None → Changes store other key (Some r)
    → r.parent ≡ parent → r.depth ≡ length rs + 1 → Chained store parent rs → Chained other (Some key) (r ∷ rs)
put_on {store} {other} {key} {r} {parent} {rs} free change is d chain =
    let below : Chained other parent rs =
    moved chain (λ k s h low. change.others k (λ same. let both : Some s ≡ None = sym h ∙ ap (record_at store) same
    ∙ free in cc) ∙ h) in
    heads change.changed d (subst (λ k. Chained other k rs) (sym is) below)

-- ---- whole records are as wide as all slots

all_wide : (xs : List Value) → length xs ≡ 21 → filled 21 xs ≡ xs
all_wide xs e = let none : 21 - length xs ≡ 0 = omega (arith, e) in ap (λ n. xs ++ replicate n (Int 0)) none ∙ append-nil xs

pub widened_all : (p : Protocol) (words : ℕ) (rs : List Record) → Each (IsWholeRecord words) rs →
    map (saved_of p) rs ≡ map widened (map (saved_of p) rs)
widened_all p words [] whole = refl
widened_all p words (r ∷ rs) whole =
    let here : saved_of p r ≡ widened (saved_of p r) = λ j. record
    (saved_of p r) { values = sym (all_wide r.values whole.0.values) j } in
    ap (λ s. s ∷ map (saved_of p) rs) here ∙ ap (λ ss. widened (saved_of p r) ∷ ss) (widened_all p words rs whole.1)

-- ---- what else the store keeps

pub spares_all : (store : Store) (key : Option RecordKey) → Spares store store key key
spares_all store key = record { on = λ k h. h; others = λ k h. refl }

pub spares_more : {a b c : Store} {x y z : Option RecordKey} → Spares a b x y → Spares b c y z → Spares a c x z
spares_more s t = record { on = λ k h. s.on k (t.on k h); others = λ k off. t.others k (λ h. off (s.on k h)) ∙ s.others k off }

gone : {store other : Store} {key : RecordKey} {r : Record} (k : RecordKey) → Changes store other key None →
    record_at other k ≡ Some r → record_at store k ≡ Some r
gone {store} {other} {key} {r} k change h =
    sym (change.others k (λ same. let none : Some r ≡ None = sym h ∙ ap (record_at other) same ∙ change.changed in cc)) ∙ h

still_on : {store other : Store} {key : RecordKey} → Changes store other key None → {from : Option RecordKey} {k : RecordKey} →
    IsOn other from k → IsOn store from k
still_on change newest = newest
still_on change (older {key = from} e h) = older (gone from change e) (still_on change h)

pub spares_taken : {store other : Store} {key : RecordKey} {r : Record} → record_at store key ≡ Some r →
    Changes store other key None → Spares store other (Some key) r.parent
spares_taken {store} {other} {key} {r} e change = record {
  on = λ k h. older e (still_on change h);
  others = λ k off. change.others k (λ same. off (subst (λ (z : RecordKey). IsOn store (Some key) z) (sym same) newest));
}

pub on_named : {store : Store} {key : Option RecordKey} {rs : List Record} → Chained store key rs → {k : RecordKey} →
    IsOn store key k → record_at store k ≡ None → ⊥
on_named ends h none = elim h [ ]
on_named (heads e d rest) newest none = cc
on_named {store} (heads {r = r} e d rest) {k} (older {r = s} f h) none =
    let both : Some r ≡ Some s = sym e ∙ f in
    let is : s ≡ r = cc in
    on_named rest (subst (λ (z : Record). IsOn store z.parent k) is h) none

-- ---- what the whole run keeps

pub keeps_spared : {old new : Store} {was now : Option RecordKey} {rs : List Record} → Chained old was rs →
    Spares old new was now → KeepsOthers old new was now
keeps_spared chain s = record {
  stay = λ key r e off. s.others key off ∙ e;
  come = λ key none fresh. s.others key (λ h. on_named chain h none) ∙ none;
  fresh = λ key h off. absurd (off (s.on key h));
}

-- what is on the chain after a record was saved beside it was on it before
was_on : {mid new : Store} {key : RecordKey} {r : Record} {now : Option RecordKey} {rs : List Record} → Chained mid now rs →
    record_at mid key ≡ None → Changes mid new key (Some r) → {k : RecordKey} → IsOn new now k → IsOn mid now k
was_on ends free change h = elim h [ ]
was_on (heads e d rest) free change newest = newest
was_on {mid} {new} {key} (heads {key = top} {r = x} e d rest) free change {k} (older {r = y} f h) =
    let there : record_at new top ≡ Some x = change.others top
    (λ same. let both : Some x ≡ None = sym e ∙ ap (record_at mid) same ∙ free in cc) ∙ e in
    let both : Some y ≡ Some x = sym f ∙ there in
    let is : y ≡ x = cc in
    older e (was_on rest free change (subst (λ (z : Record). IsOn new z.parent k) is h))

-- a record is saved on top of what is left of the chain
pub keeps_saved : {old mid new : Store} {was now : Option RecordKey} {rs more : List Record} {key : RecordKey} {r : Record} →
    Chained old was rs → Spares old mid was now → Chained mid now more → r.parent ≡ now
    → record_at mid key ≡ None → Changes mid new key (Some r) → KeepsOthers old new was (Some key)
keeps_saved {old} {mid} {new} {was} {now} {rs} {more} {key} {r} chain s left parent free change = record {
  stay = λ k x e off.
      let mid_has : record_at mid k ≡ Some x = s.others k off ∙ e in
      change.others k (λ same. let both : Some x ≡ None = sym mid_has ∙ ap (record_at mid) same ∙ free in cc) ∙ mid_has;
  come = λ k none other. change.others k (λ same. other (ap Some (sym same))) ∙ s.others k (λ h. on_named chain h none) ∙ none;
  fresh = λ k h off. at h off;
}
  where
    at : {k : RecordKey} → IsOn new (Some key) k → (IsOn old was k → ⊥) → record_at old k ≡ None
    at newest off = sym (s.others key off) ∙ free
    at {k} (older {r = y} e h) off =
        let both : Some y ≡ Some r = sym e ∙ change.changed in
        let is : y ≡ r = cc in
        let from : IsOn new now k = subst (λ (z : Option RecordKey). IsOn new z k)
        (ap (λ (x : Record). x.parent) is ∙ parent) h in
        absurd (off (s.on k (was_on left free change from)))
