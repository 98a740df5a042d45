use Rattle.journal.specs.Reports.{word_line}
use Rattle.printed_text.proofs.Enumerating.{flat_map-enumerate_from-more, grown_by}
use Rattle.journal.proofs.node_lines.add_words.Goals as goal

pub loop-address-preserved : goal.loop-address-preserved
loop-address-preserved c =
    grown_by c.args.out.now c.loop-address.out c.add_word.new.out _ _ _ c.loop-address.invariant c.in_ok-add_word.ensures
    (flat_map-enumerate_from-more word_line c.args.words.now c.loop-address.address _ c.loop-address-test.true)
