-- A run that ends, and one that stays sound.
use Rattle.std.proofs.Common.{◌≡◌, ℕ, ◌<◌, ◌≤◌, true, false, List, Option, length, refl, sym, subst, arith}
use Rattle.std.specs.Prelude.{nat_le, slice_get}
use Rattle.std.proofs.lemmas.Bool.Decides.{nat_tests}
use Rattle.tw_base.specs.declared.entry.End.{End}
use Rattle.tw_base.specs.declared.message.Message.{Message}
use Rattle.tw_base.specs.declared.value.Data.{Data}
use Rattle.teapot_tree.specs.declared.protocol.Protocol.{Protocol}
use Rattle.cont_store.specs.declared.record.RecordKey.{RecordKey}
use Rattle.cont_store.specs.Store.{Store}
use Rattle.handler_code.specs.Machine.{state_arity, stopped}
use Rattle.handler_vm.specs.declared.running.Running.{Running}
use Rattle.handler_vm.specs.Chains.{IsChain, IsFull, records_of, saved_from}
use Rattle.handler_vm.specs.Inside.{IsSound, IsStop, machine_of}
use Rattle.handler_vm.proofs.Chaining.{widened_all}

pub stop_is : (p : Protocol) (r : Running) (sent : List Message) (store : Store) (end : End) → IsSound p r store →
    IsStop p r sent store end (stopped (machine_of p r sent (saved_from p store r.cont)) end)
stop_is p r sent store end s = record {
  around = refl;
  state = refl;
  args = refl;
  arity = s.arity;
  chain = widened_all p (length r.words) (records_of store r.cont) s.chain.whole;
  whole = s.chain;
  how = refl;
  ops = refl;
  records = refl;
}

pub sound_kept :
    (p : Protocol) (was new : Running) (store : Store) → IsSound p was store →
    length new.args ≡ state_arity (slice_get p.states new.state) → new.came ≡ was.came
    → length new.words ≡ length was.words → new.cont ≡ was.cont → new.records ≡ was.records → IsSound p new store
sound_kept p was new store s arity came words cont records = record {
  arity = arity;
  came = subst (λ (o : Option Data). IsFull (length new.words) o) (sym came)
      (subst (λ (n : ℕ). IsFull n was.came) (sym words) s.came);
  none_made = subst (λ (n : ℕ). n ≡ 0) (sym records) s.none_made;
  chain = subst (λ (k : Option RecordKey). IsChain (length new.words) store k) (sym cont)
      (subst (λ (n : ℕ). IsChain n store was.cont) (sym words) s.chain);
  spare = s.spare;
}

pub is_deep : (n : ℕ) → 8 ≤ n → nat_le 8 n ≡ true
is_deep n h = grind (arith, nat_tests)

pub is_shallow : (n : ℕ) → n < 8 → nat_le 8 n ≡ false
is_shallow n h = grind (arith, nat_tests)
