-- A chain of records that are there.
use Rattle.std.specs.Prelude.{List, Option}
use Rattle.cont_store.specs.declared.record.Record.{Record}
use Rattle.cont_store.specs.declared.record.RecordKey.{RecordKey}
use Rattle.cont_store.specs.Store.{Store}
use Rattle.handler_vm.specs.Chains.{Chained}

-- the store names a record for the key, and for the parent of each record from there on
pub record IsNamed (store : Store) (key : Option RecordKey) : Type 0 where
  pub records : List Record
  pub chained : Chained store key records
