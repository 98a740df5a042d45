-- Threads may share a cluster, since its seats may pass from thread to thread.
use mathlib.Core.List.{[], ◌∷◌}
use mir.Syntax.{Sym, Width}
use denote.Plain.{UInt}
use denote.Struct.Field.{row_field}
use denote.Struct.Tuple.{TupleAt, type_at}
use denote.RattleType.{RattleType}
use denote.Param.Send.{IsSend, IsSync, sendable}
use denote.Param.SendFields.{as_row_send, declared_send, declared_sync}
use denote.Ref.{NamedLft}
use Rattle.std.proofs.option.Option.TheSendSync as option
use Rattle.std.proofs.sync.Mutex.TheSendSync as mutex
use Rattle.std.specs.contracts.sync.Mutex as mutex_type
use Rattle.dsm_runs.proofs.Sharing.{setup_sync}
use Rattle.handler_code.proofs.Sharing.{code_sync}
use Rattle.node_seats.proofs.Sharing.{seat_send}
use Rattle.node_seats.specs.declared.naming.Naming.{Ghosts}
use Rattle.tw_wire.proofs.wires.Wires.TheSendSync as wires
use Rattle.node_runtime.specs.contracts.cluster.Cluster as cluster

ruleset place = (sendable, option.the_sync, mutex.the_sync, seat_send)

pub cluster_sync : (a : NamedLft) (N : RattleType) (g : Ghosts N.Denot) → IsSend N → IsSync (cluster.the_row a N g)
cluster_sync a N g leaves =
    declared_sync (cluster.the_type a N g) (
      search (sendable, setup_sync) depth 8,
      (
        search (sendable, code_sync) depth 8,
        (
          search (sendable, wires.the_sync) depth 8,
          (
            search place depth 12,
            (
              search place depth 12,
              (
                search place depth 12,
                (
                  search place depth 12,
                  (
                    search place depth 12,
                    (
                      search place depth 12,
                      (
                        search place depth 12,
                        (
                          search place depth 12,
                          tt,
                        ),
                      ),
                    ),
                  ),
                ),
              ),
            ),
          ),
        ),
      ),
    )

pub number_send : (w : Width) → IsSend (UInt w)
number_send w = search sendable

-- a closure that captures six values
pub captured_send :
    (ν : Sym) (A B C D E F : RattleType) → IsSend A → IsSend B → IsSend C → IsSend D → IsSend E → IsSend F →
    IsSend (TupleAt ν (A ∷ B ∷ C ∷ D ∷ E ∷ F ∷ []))
captured_send ν A B C D E F a b c d e f =
    declared_send (type_at ν (A ∷ B ∷ C ∷ D ∷ E ∷ F ∷ [])) (
      as_row_send (row_field A) a,
      (
        as_row_send (row_field B) b,
        (
          as_row_send (row_field C) c,
          (as_row_send (row_field D) d, (as_row_send (row_field E) e, (as_row_send (row_field F) f, tt))),
        ),
      ),
    )
