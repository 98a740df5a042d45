use Rattle.journal.specs.Reports.{register_line}
use Rattle.printed_text.proofs.Enumerating.{flat_map-enumerate_from-more, grown_by}
use Rattle.journal.proofs.node_lines.add_registers.Goals as goal

pub loop-register-preserved : goal.loop-register-preserved
loop-register-preserved c =
    grown_by c.args.out.now c.loop-register.out c.add_register.new.out _ _ _ c.loop-register.invariant
    c.in_ok-add_register.ensures (flat_map-enumerate_from-more
    (register_line c.args.node) c.args.regs.now c.loop-register.register _ c.loop-register-test.true)
