-- The record that is kept in a room for four or for eight values.
use Rattle.cont_store.specs.declared.record.Record.{Record}
use Rattle.cont_store.specs.declared.packed.Small.{Small}
use Rattle.cont_store.specs.declared.packed.Medium.{Medium}
use Rattle.cont_store.specs.Packing.{unpacked}

abbrev pub small_whole : Small → Record
small_whole s =
    record {
      rest = s.rest;
      values = unpacked 21 s.mask s.values;
      came = s.came;
      state = s.state;
      args = s.args;
      parent = s.parent;
      depth = s.depth;
    }

abbrev pub medium_whole : Medium → Record
medium_whole m =
    record {
      rest = m.rest;
      values = unpacked 21 m.mask m.values;
      came = m.came;
      state = m.state;
      args = m.args;
      parent = m.parent;
      depth = m.depth;
    }
