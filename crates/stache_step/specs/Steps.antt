-- Which row applies, and what it says of the end that a message comes to.
use Rattle.std.specs.Prelude.{ℕ, ◌≡◌, codes, [], Option, Some, None, slice_get}
use Rattle.tw_base.specs.NodeSets.{has}
use Rattle.tw_base.specs.declared.entry.End.TheVariants.{Failed}
use Rattle.tw_base.specs.declared.message.Message.{Message}
use Rattle.teapot_tree.specs.declared.protocol.Protocol.{Protocol}
use Rattle.teapot_meaning.specs.Bare.{bare_ended, bare_here}
use Rattle.teapot_meaning.specs.Does.{Does}
use Rattle.teapot_meaning.specs.Names.{error_number}
use Rattle.teapot_meaning.specs.declared.state.Ended.{Ended}
use Rattle.teapot_meaning.specs.declared.state.Here.{Here}
use Rattle.block_spots.specs.Cases as cases
use Rattle.block_spots.specs.Cases.{Effect, members, without_node}
use Rattle.block_spots.specs.Notes as marks
use Rattle.block_spots.specs.Views.{seen_kind, seen_message}
use Rattle.stache_tree.specs.Tree.{IsStache, stache}
use Rattle.stache_table.specs.Blocks.{Block, IsBlock, Matches, read, seen}
use Rattle.stache_table.specs.Laws.{IsCome}
use Rattle.stache_table.specs.Numbered.{Says, TableRow, row_at, rows}
use Rattle.note_reads.specs.Notes.{note_in}
use Rattle.note_reads.specs.declared.note.Note.{Note}

-- of which kind of message a note is
abbrev pub kind_of_note : marks.Note → cases.Kind
kind_of_note marks.NRdFault = cases.RdFault
kind_of_note marks.NWrFault = cases.WrFault
kind_of_note marks.NGetRo = cases.GetRo
kind_of_note marks.NGetRw = cases.GetRw
kind_of_note (marks.NDataRo ws) = cases.DataRo
kind_of_note (marks.NDataRw ws) = cases.DataRw
kind_of_note (marks.NPut ws) = cases.Put
kind_of_note marks.NInv = cases.Inv
kind_of_note marks.NAck = cases.Ack
kind_of_note marks.NRecall = cases.Recall
kind_of_note marks.NRecallRo = cases.RecallRo
kind_of_note (marks.NPutRo ws) = cases.PutRo

abbrev pub kind_in : Note → cases.Kind
kind_in came = kind_of_note (note_in came)

-- The number of the row that applies, by what is read off the block: its state, whose request its continuation serves, how
-- many sharers are not the sender, and how many ACKs are due.
abbrev pub row_for : Here → Message → Option ℕ
row_for here m =
    row_at (read here).state (seen_kind m.kind) (read here).rest (members 8 (without_node (has (read here).set) m.from))
    (read here).acks

-- the message comes to the end that the row says
pub record IsRowsEnd (here : Here) (m : Message) (e : Ended) (r : TableRow) : Type 0 where
  pub effect : Effect
  pub after : Block
  pub matches : Matches here.block here.me here.home (bare_ended e) effect after
  pub says : Says 8 here.home here.me r (seen (read here)) (seen_message m) effect

-- the handler met its Error, with the block as it was and nothing sent
pub record IsErrorsEnd (here : Here) (e : Ended) : Type 0 where
  pub end : e.end ≡ Failed (error_number stache (codes "Unexpected"))
  pub kept : bare_here e.here ≡ bare_here here
  pub sends : e.sends ≡ []

-- by the number of a row
abbrev pub IsEndBy : Here → Message → Ended → Option ℕ → Type 0
IsEndBy here m e (Some k) = (r : TableRow) × (slice_get rows k ≡ Some r) × IsRowsEnd here m e r
IsEndBy here m e None = IsErrorsEnd here e

-- Under the shipped protocol, at a block with the tag and the continuation of its state, a message of the protocol comes to
-- the end that the row of this number says, and to its Error where there is no row.
abbrev pub RowIsMeant : Here → Message → Option ℕ → Type 0
RowIsMeant here m row =
    (p : Protocol) (x : Block) (e : Ended) → IsStache p → IsBlock here x → IsCome m here (seen_kind m.kind) → Does p here m e
    → IsEndBy here m e row

-- No row of another number says of itself what the message does there.
abbrev pub OnlyRow : Here → Message → Option ℕ → Type 0
OnlyRow here m row =
    (p : Protocol) (x : Block) (e : Ended) (k : ℕ) (r : TableRow) → IsStache p → IsBlock here x →
    IsCome m here (seen_kind m.kind) → Does p here m e
    → slice_get rows k ≡ Some r → IsRowsEnd here m e r → row ≡ Some k
