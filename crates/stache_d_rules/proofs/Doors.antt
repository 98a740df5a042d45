-- The states of Stache_D by their handlers' codes.
use Rattle.std.proofs.Common.{◌≡◌, List, [], ◌∷◌, Some, None, map, refl}
use Rattle.std.specs.Prelude.{codes}
use Rattle.teapot_tree.specs.declared.protocol.Trigger.TheVariants.{RdFault, WrFault, Named, Default}
use Rattle.stache_tree.specs.Tree.{cache_inv_else, cache_inv_on_rd_fault, cache_inv_on_wr_fault, cache_ro_else, cache_ro_on_inv}
use Rattle.stache_tree.specs.Tree.{cache_ro_on_wr_fault, cache_rw_else, cache_rw_on_recall, cache_wait_ro_else}
use Rattle.stache_tree.specs.Tree.{cache_wait_ro_on_data_ro, cache_wait_rw_else, cache_wait_rw_on_data_rw, cache_wait_rw_on_inv}
use Rattle.stache_tree.specs.Tree.{home_acks_else, home_acks_on_ack, home_excl_else, home_excl_on_get_rw, home_excl_on_wr_fault}
use Rattle.stache_tree.specs.Tree.{home_put_else, home_put_on_put, home_ro_else, home_ro_on_get_ro, home_ro_on_get_rw}
use Rattle.stache_tree.specs.Tree.{home_ro_on_rd_fault, home_ro_on_wr_fault, home_rw_else, home_rw_on_get_ro, home_rw_on_get_rw}
use Rattle.stache_d_tree.specs.Tree.{states_d, cache_rw_on_recall_ro, home_excl_on_get_ro_d, home_excl_on_rd_fault_d}
use Rattle.stache_d_tree.specs.Tree.{home_put_on_put_ro}
use Rattle.stache_rules.proofs.Doors.{Told, door, state_of}

abbrev pub told_d : List Told
told_d =
    record {
      name = codes "Home_RW";
      cont = None;
      doors = door (Named (codes "GET_RO")) home_rw_on_get_ro ∷ door
          (Named (codes "GET_RW")) home_rw_on_get_rw ∷ door Default home_rw_else ∷ [];
    }
    ∷ record {
      name = codes "Home_RO";
      cont = None;
      doors = door RdFault home_ro_on_rd_fault ∷ door WrFault
          home_ro_on_wr_fault ∷ door (Named (codes "GET_RO")) home_ro_on_get_ro ∷ door
          (Named (codes "GET_RW")) home_ro_on_get_rw ∷ door Default home_ro_else ∷ [];
    }
    ∷ record {
      name = codes "Home_Excl";
      cont = None;
      doors = door RdFault home_excl_on_rd_fault_d ∷ door WrFault
          home_excl_on_wr_fault ∷ door (Named (codes "GET_RO")) home_excl_on_get_ro_d ∷ door
          (Named (codes "GET_RW")) home_excl_on_get_rw ∷ door Default home_excl_else ∷ [];
    }
    ∷ record {
      name = codes "Home_Acks";
      cont = Some (codes "C");
      doors = door (Named (codes "ACK")) home_acks_on_ack ∷ door Default home_acks_else ∷ [];
    }
    ∷ record {
      name = codes "Home_Put";
      cont = Some (codes "C");
      doors = door (Named (codes "PUT")) home_put_on_put ∷ door
          (Named (codes "PUT_RO")) home_put_on_put_ro ∷ door Default home_put_else ∷ [];
    }
    ∷ record {
      name = codes "Cache_Inv";
      cont = None;
      doors = door RdFault cache_inv_on_rd_fault ∷ door WrFault
          cache_inv_on_wr_fault ∷ door Default cache_inv_else ∷ [];
    }
    ∷ record {
      name = codes "Cache_RO";
      cont = None;
      doors = door WrFault cache_ro_on_wr_fault ∷ door
          (Named (codes "INV")) cache_ro_on_inv ∷ door Default cache_ro_else ∷ [];
    }
    ∷ record {
      name = codes "Cache_RW";
      cont = None;
      doors = door (Named (codes "RECALL")) cache_rw_on_recall ∷ door
          (Named (codes "RECALL_RO")) cache_rw_on_recall_ro ∷ door Default cache_rw_else ∷ [];
    }
    ∷ record {
      name = codes "Cache_Wait_RO";
      cont = Some (codes "C");
      doors = door (Named (codes "DATA_RO")) cache_wait_ro_on_data_ro ∷ door Default cache_wait_ro_else ∷ [];
    }
    ∷ record {
      name = codes "Cache_Wait_RW";
      cont = Some (codes "C");
      doors = door (Named (codes "DATA_RW")) cache_wait_rw_on_data_rw ∷ door
          (Named (codes "INV")) cache_wait_rw_on_inv ∷ door Default cache_wait_rw_else ∷ [];
    }
    ∷ []

pub told_d-is : states_d ≡ map state_of told_d
unfolding states_d
told_d-is = refl
