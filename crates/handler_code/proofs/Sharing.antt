-- Threads may share code.
use denote.Param.Send.{IsSync, sendable}
use Rattle.tw_base.proofs.listed.Listed.TheSendSync as listed
use Rattle.handler_code.proofs.code.OpCode.TheSendSync as op_code
use Rattle.handler_code.proofs.code.Door.TheSendSync as door
use Rattle.handler_code.proofs.code.Rest.TheSendSync as rest
use Rattle.handler_code.specs.contracts.code.Code as code

pub code_sync : IsSync code.the_row
code_sync = search (sendable, listed.the_sync, op_code.the_sync, door.the_sync, rest.the_sync) depth 20

pub code_field_sync : IsSync code.the_field.row
code_field_sync = search (sendable, listed.the_sync, op_code.the_sync, door.the_sync, rest.the_sync) depth 20
