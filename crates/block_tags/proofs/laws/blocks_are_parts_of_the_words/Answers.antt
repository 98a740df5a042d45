use Rattle.block_tags.proofs.Slices.{slice_word, slice_written, slice_unwritten}
use Rattle.block_tags.proofs.laws.blocks_are_parts_of_the_words.Goals as goal

pub returns-clause-word : goal.returns-clause-word
returns-clause-word c m address some = slice_word m.shape.words address m.words some

pub returns-clause-written : goal.returns-clause-written
returns-clause-written c m address value some = slice_written m.shape.words address value m.words some

pub returns-clause-others : goal.returns-clause-others
returns-clause-others c m address value block some other = slice_unwritten m.shape.words address value block m.words some other
