-- A setup that is none.
use Rattle.std.specs.Prelude.{[]}
use Rattle.dsm_runs.specs.Setups.{Setup}

abbrev pub no_setup : Setup
no_setup = record {
  version = 1;
  shape = record { nodes = 1; words = 1; blocks = 1; budget = 1 };
  init = [];
  programs = [];
  protocol = record { name = []; profile = 1; line = 0; messages = []; infos = []; starts = []; states = [] };
}
