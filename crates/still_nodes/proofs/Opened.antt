-- Nodes that were run otherwise, with what is left cut into rows, are whole.
use Rattle.std.proofs.Common.{◌≡◌, ◌*◌, ◌≤◌, List, [], subst, sym, arith}
use Rattle.tw_base.specs.declared.entry.Entry.{Entry}
use Rattle.tw_base.specs.declared.message.Message.{Message}
use Rattle.handler_code.specs.declared.code.Code.{Code}
use Rattle.dsm_runs.specs.Setups.{IsSetup, Setup}
use Rattle.dsm_runs.specs.Worlds.{World}
use Rattle.node_meaning.specs.Nodes.{Shown}
use Rattle.still_meaning.specs.Stills.{IsStill, AreWhole, StillShown}
use Rattle.still_nodes.specs.Opening.{opened_still, rows_of}
use Rattle.still_nodes.proofs.Cutting.{length-rows_of, rows_are_full}

opened_whole :
    (s : Setup) (code : Code) (nodes : List Shown) (left : List (List Message)) → IsSetup s →
    ((g : World) × IsStill (opened_still s code nodes left) g) → AreWhole (opened_still s code nodes left)
opened_whole s code nodes left setup state =
    let n = s.shape.nodes in
    let few : n ≤ 8 = setup.limits.nodes in
    record {
      setup = setup;
      rows = length-rows_of (2 * n) n left;
      places = rows_are_full (2 * n) n left (omega arith);
      state = state.0;
      still = state.1;
    }

pub made_whole :
    (s : Setup) (code : Code) (nodes : List Shown) (left : List (List Message)) (rows : List (List (List Message)))
    (taken : List Entry) →
    rows ≡ rows_of (2 * s.shape.nodes) s.shape.nodes left → taken ≡ [] → IsSetup s →
    ((g : World) × IsStill (opened_still s code nodes left) g) →
    AreWhole (record { setup = s; code = code; nodes = nodes; rows = rows; taken = taken })
made_whole s code nodes left rows taken cut none setup state =
    let now : StillShown = record { setup = s; code = code; nodes = nodes; rows = rows; taken = taken } in
    let same : opened_still s code nodes left ≡ now = λ j.
    record { setup = s; code = code; nodes = nodes; rows = sym cut j; taken = sym none j } in
    subst (λ (v : StillShown). AreWhole v) same (opened_whole s code nodes left setup state)
