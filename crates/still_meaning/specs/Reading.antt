-- What is read of nodes on one thread, at the end of a run.
use Rattle.std.specs.Prelude.{ℕ, ◌/◌, ◌%◌, Option, Some, None, slice_get, slice_index}
use Rattle.tw_base.specs.declared.value.Tag.{Tag}
use Rattle.tw_base.specs.declared.value.Tag.TheVariants.{Invalid}
use Rattle.block_tags.specs.Copies.{block_words, tag_of}
use Rattle.mini_asm.specs.Run.{first_cpu}
use Rattle.dsm_runs.specs.declared.outcome.Outcome.TheVariants.{Halted}
use Rattle.journal.specs.declared.finals.Final.{Final}
use Rattle.journal.specs.Finals.{counted_final}
use Rattle.node_meaning.specs.Nodes.{Shown, tested}
use Rattle.still_meaning.specs.Stills.{StillShown}

-- of one node, if it is there

abbrev pub tag_of_node : Option Shown → ℕ → Tag
tag_of_node None block = Invalid
tag_of_node (Some n) block = tag_of n.copies block

abbrev pub word_of_node : Option Shown → ℕ → ℕ
word_of_node None address = 0
word_of_node (Some n) address =
    slice_index (block_words n.copies (address / n.setup.shape.words)) (address % n.setup.shape.words)

-- with the ops that its handlers made, and the records that they saved
abbrev pub end_of_node : Option Shown → Final
end_of_node None = record { outcome = Halted; cpu = first_cpu; instructions = 0; handled = 0; ops = 0; records = 0 }
end_of_node (Some n) = counted_final n.setup (tested n) n.ops n.records

-- of all

abbrev pub tag_at : StillShown → ℕ → ℕ → Tag
tag_at s i block = tag_of_node (slice_get s.nodes i) block

abbrev pub word_at : StillShown → ℕ → ℕ → ℕ
word_at s i address = word_of_node (slice_get s.nodes i) address

abbrev pub end_at : StillShown → ℕ → Final
end_at s i = end_of_node (slice_get s.nodes i)
