-- A node as it starts.
use Rattle.std.specs.Prelude.{ℕ, Bool, List, [], None, map, nat_eq, replicate}
use Rattle.std.specs.List.{range_with_len}
use Rattle.tw_base.specs.declared.value.Value.TheVariants.{Int}
use Rattle.mini_asm.specs.Run.{first_cpu}
use Rattle.teapot_meaning.specs.Does.{zero_of}
use Rattle.cont_store.specs.Store.{Store}
use Rattle.handler_code.specs.declared.code.Code.{Code}
use Rattle.handler_code.specs.Doors.{filled}
use Rattle.handler_vm.specs.declared.cell.Cell.{Cell}
use Rattle.dsm_runs.specs.declared.mode.Mode.TheVariants.{Running}
use Rattle.dsm_runs.specs.Setups.{Setup, first_copies, home_of, start_line, start_state}
use Rattle.node_meaning.specs.Nodes.{Parts, Shown}

-- a block's cell at node i: no arguments, nothing to be resumed, and the infos as they are declared
abbrev pub start_cell : Setup → ℕ → ℕ → Cell
start_cell s i block = record {
  state = start_state s (start_line s (nat_eq (home_of s block) i));
  args = replicate 4 (Int 0);
  cont = None;
  infos = filled 8 (map (λ info. zero_of info.ty) s.protocol.infos);
}

abbrev pub start_cells : Setup → ℕ → List Cell
start_cells s i = map (start_cell s i) (range_with_len 0 s.shape.blocks)

abbrev pub start_parts : Parts
start_parts = record {
  mode = Running;
  failed = None;
  clock = 0;
  cpu = first_cpu;
  deferred = [];
  instructions = 0;
  handled = 0;
  sent = 0;
}

-- node i, with a store of no use yet
abbrev pub start_shown : Setup → Code → ℕ → Store → Bool → Shown
start_shown s code i conts ready = record {
  setup = s;
  code = code;
  me = i;
  parts = start_parts;
  cells = start_cells s i;
  copies = first_copies s i;
  conts = conts;
  log = [];
  fronts = replicate 16 None;
  accepted = replicate 16 0;
  waiting = [];
  posted = replicate 16 0;
  ops = 0;
  records = 0;
  ready = ready;
}
