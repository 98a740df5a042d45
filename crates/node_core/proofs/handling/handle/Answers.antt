use Rattle.std.proofs.Common.{◌≡◌, Some, length, ap, arith, refl}
use Rattle.std.specs.List.{slice_index_or}
use Rattle.handler_vm.specs.declared.cell.Cell.{Cell}
use Rattle.node_meaning.specs.Handling.{after_at}
use Rattle.node_meaning.specs.Nodes.{no_cell}
use Rattle.node_core.specs.States.{shown_of}
use Rattle.node_core.proofs.HandlerRuns.{bounded_by, can_settle, cell_read, cells_there, few_sends, handled_done, queue_there}
use Rattle.node_core.proofs.handling.handle.Goals as goal

pub settle-requires-clause-can : goal.settle-requires-clause-can
settle-requires-clause-can c = can_settle c.args.setup.now c.args.code.now c.args.me c.args.state.now c.run-ran.new.state
    c.args.message.now c.run-ran.result c.requires c.run-ran.ensures

pub settle-requires-clause-bounded : goal.settle-requires-clause-bounded
settle-requires-clause-bounded c = bounded_by c.args.setup.now c.args.code.now c.args.me c.args.state.now c.run-ran.new.state
    c.args.message.now c.run-ran.result c.nodes_are_ready_for_handlers.ensures.runs c.requires c.run-ran.ensures

pub settle-requires-clause-block : goal.settle-requires-clause-block
settle-requires-clause-block c = queue_there c.args.setup.now c.args.code.now c.args.me c.args.state.now c.run-ran.new.state
    c.args.message.now c.run-ran.result c.requires c.run-ran.ensures

pub overflow_cast-sends : goal.overflow_cast-sends
overflow_cast-sends c =
    let few = few_sends c.args.setup.now c.args.code.now c.args.me c.args.state.now c.run-ran.new.state c.settle.new.state
    c.args.message.now c.run-ran.result c.args.stamp c.sends.result.now c.nodes_are_ready_for_handlers.ensures.runs
    c.requires c.run-ran.ensures c.settle.ensures c.sends.ensures in
    omega (arith, few.0)

pub returns : goal.returns
returns c =
    let few = few_sends c.args.setup.now c.args.code.now c.args.me c.args.state.now c.run-ran.new.state c.settle.new.state
    c.args.message.now c.run-ran.result c.args.stamp c.sends.result.now c.nodes_are_ready_for_handlers.ensures.runs
    c.requires c.run-ran.ensures c.settle.ensures c.sends.ensures in
    let there = cells_there c.args.setup.now c.args.code.now c.args.me c.args.state.now c.run-ran.new.state
    c.settle.new.state c.args.message.now c.run-ran.result c.args.stamp c.requires c.run-ran.ensures c.settle.ensures in
    let cell = cell_read c.args.setup.now c.args.me c.args.message.now.block c.settle.new.state.cells.items
    c.settle.new.state.cells.items c.from.result c.get.result c.index.result.now there refl c.from.ensures c.get.ensures.value
    c.index.ensures in
    let there_cell : c.index.result.now.state
    ≡ (slice_index_or c.settle.new.state.cells.items c.args.message.now.block
    (no_cell c.args.setup.now c.args.me c.args.message.now.block)).state = ap (λ (x : Cell). x.state)
    cell in
    let left : Some (record {
      block = c.args.message.now.block;
      state =
          c.index.result.now.state;
      tag = c.tag.result;
      end =
          c.run-ran.result.end;
    }) ≡ Some (after_at (shown_of c.args.setup.now c.args.code.now c.args.me c.settle.new.state)
    c.args.message.now.block c.run-ran.result) =
    λ j. Some (record {
      block = c.args.message.now.block;
      state = there_cell j;
      tag = c.tag.ensures.value j;
      end =
          c.run-ran.result.end;
    }) in
    handled_done c.args.setup.now c.args.code.now c.args.me c.args.state.now c.run-ran.new.state c.settle.new.state
    c.args.message.now c.run-ran.result c.args.stamp c.args.act c.push.new.self
    (record {
      stamp = c.args.stamp;
      node = c.args.me;
      act = c.args.act;
      sends = length c.sends.result.now;
      after = Some
          (record {
            block = c.args.message.now.block;
            state =
                c.index.result.now.state;
            tag = c.tag.result;
            end =
                c.run-ran.result.end;
          });
    })
    c.run-ran.ensures c.settle.ensures (ap (λ l. l.list) c.push.ensures) refl refl refl few.1 left
