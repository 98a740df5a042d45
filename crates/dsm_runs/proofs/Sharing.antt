-- A setup may be shared by threads.
use denote.Param.Send.{IsSync, sendable}
use Rattle.mini_asm.proofs.program.Program.TheSendSync as program
use Rattle.teapot_tree.proofs.Sharing.{protocol_field_sync}
use Rattle.tw_base.proofs.listed.Listed.TheSendSync as listed
use Rattle.tw_base.proofs.shape.Shape.TheSendSync as shape
use Rattle.dsm_runs.specs.contracts.setup.Setup as setup

pub setup_sync : IsSync setup.the_row
setup_sync = search (sendable, listed.the_sync, program.the_sync, shape.the_sync, protocol_field_sync) depth 20 fits 20000
