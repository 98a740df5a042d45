use Rattle.setup_numbers.proofs.Texts.{read-small}
use Rattle.setup_numbers.proofs.laws.read_settings_are_small.Goals as goal

pub returns : goal.returns
returns c =
    read-small c.numbers_of_texts_are_small.ensures c.layout_is_read_both_ways.ensures c.settings_of_small_lines.ensures
