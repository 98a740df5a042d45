use Rattle.std.proofs.Common.{◌∙◌, ◌%◌, refl, ap, sym, arith}
use Rattle.std.specs.Vec.{with_item}
use Rattle.node_core.proofs.HandlerRuns.{cell_read, finds, run_done, table_there}
use Rattle.node_core.proofs.handling.run.Goals as goal

pub handle-ran-requires-clause-stands : goal.handle-ran-requires-clause-stands
handle-ran-requires-clause-stands c =
    finds c.args.setup.now c.args.code.now c.args.me c.args.state.now c.args.message.now c.protocol.result.now
    c.home-home.result c.index_mut-cell.result.now c.requires c.protocol.ensures.value
    (c.home-home.ensures ∙ ap (λ z. c.args.message.now.block % z.nodes) c.shape.ensures.value)
    (cell_read c.args.setup.now c.args.me c.args.message.now.block c.args.state.now.cells.items c.args.state.now.cells.items
    c.from-at.result c.get.result c.index_mut-cell.result.now (omega (arith, c.requires.ready.block, c.requires.cells)) refl
    c.from-at.ensures c.get.ensures.value c.index_mut-cell.ensures.value)

pub handle-ran-requires-clause-doors : goal.handle-ran-requires-clause-doors
handle-ran-requires-clause-doors c = table_there c.args.setup.now c.args.code.now c.args.me c.args.state.now
    c.args.message.now c.protocol.result.now c.requires c.protocol.ensures.value

pub returns : goal.returns
returns c =
    run_done c.args.setup.now c.args.code.now c.args.me c.args.state.now c.args.message.now c.protocol.result.now
    c.home-home.result c.from-at.result c.index_mut-cell.result.now c.handle-ran.new.cell
    (with_item c.args.state.now.cells c.from-at.result c.handle-ran.new.cell)
    c.handle-ran.new.blocks c.handle-ran.new.conts c.handle-ran.new.around c.handle-ran.result
    c.requires c.protocol.ensures.value
    (c.home-home.ensures ∙ ap (λ z. c.args.message.now.block % z.nodes) c.shape.ensures.value)
    (cell_read c.args.setup.now c.args.me c.args.message.now.block c.args.state.now.cells.items c.args.state.now.cells.items
    c.from-at.result c.get.result c.index_mut-cell.result.now (omega (arith, c.requires.ready.block, c.requires.cells)) refl
    c.from-at.ensures c.get.ensures.value c.index_mut-cell.ensures.value)
    (c.from-at.ensures ∙ c.get.ensures.value)
    refl
    (record {
      meant = c.handle-ran.ensures.meant;
      machine = c.handle-ran.ensures.machine;
      chain = c.handle-ran.ensures.chain;
      others = c.handle-ran.ensures.others;
    })
    c.handle-ran.ensures.few
    (c.has_infos-2.ensures ∙ sym c.has_infos.ensures)
