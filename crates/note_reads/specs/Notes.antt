-- What the decider keeps of the messages of a block in a list.
use Rattle.std.specs.Prelude.{ℕ, ◌≡◌, ◌≤◌, List, [], ◌∷◌, length}
use Rattle.std.specs.Bool.{Decides}
use Rattle.tw_base.specs.Lists.{Each, how_many}
use Rattle.block_spots.specs.Notes as marks
use Rattle.block_spots.specs.Views.{words_in}
use Rattle.coherence_inv.specs.Coherent.{HasWords, IsFault, IsGet}
use Rattle.stache_d_inv.specs.Coherent.{HasAnswered}
use Rattle.stache_d_inv.specs.Parts.{IsDown, IsUp}
use Rattle.note_reads.specs.Counts.{IsCount}
use Rattle.note_reads.specs.declared.note.Note.{Note}
use Rattle.note_reads.specs.declared.note.Note.TheVariants as n
use Rattle.note_reads.specs.declared.few.Few.{Few}
use Rattle.note_reads.specs.declared.few.Few.TheVariants as f
use Rattle.note_reads.specs.declared.summary.Sort.{Sort}
use Rattle.note_reads.specs.declared.summary.Sort.TheVariants as s
use Rattle.note_reads.specs.declared.summary.Summary.{Summary}

abbrev pub note_in : Note → marks.Note
note_in n.RdFault = marks.NRdFault
note_in n.WrFault = marks.NWrFault
note_in n.GetRo = marks.NGetRo
note_in n.GetRw = marks.NGetRw
note_in (n.DataRo d) = marks.NDataRo (words_in d)
note_in (n.DataRw d) = marks.NDataRw (words_in d)
note_in (n.Put d) = marks.NPut (words_in d)
note_in n.Inv = marks.NInv
note_in n.Ack = marks.NAck
note_in n.Recall = marks.NRecall
note_in n.RecallRo = marks.NRecallRo
note_in (n.PutRo d) = marks.NPutRo (words_in d)

-- the notes, where they are at most two
abbrev pub IsFew : Few → List marks.Note → Type 0
IsFew f.Empty ns = ns ≡ []
IsFew (f.One a) ns = ns ≡ note_in a ∷ []
IsFew (f.Two a b) ns = ns ≡ note_in a ∷ note_in b ∷ []
IsFew f.More ns = 3 ≤ length ns

-- the count of the notes of a sort
abbrev pub of_sort : Sort → marks.Note → ℕ
of_sort s.GetRo = marks.is_get_ro
of_sort s.GetRw = marks.is_get_rw
of_sort s.DataRo = marks.is_data_ro
of_sort s.DataRw = marks.is_data_rw
of_sort s.RdFault = marks.is_rd_fault
of_sort s.WrFault = marks.is_wr_fault

-- Stache has such a message
abbrev pub IsOfStache : marks.Note → Type 0
IsOfStache marks.NRecallRo = ⊥
IsOfStache (marks.NPutRo ws) = ⊥
IsOfStache _ = Unit {0}

-- what the parts of coherence ask of a list of notes, where a block has w words and copies are compared with these
pub record IsSummary (w : ℕ) (words : List ℕ) (x : Summary) (ns : List marks.Note) : Type 0 where
  pub few : IsFew x.few ns
  pub get_ro : IsCount x.get_ro (how_many marks.is_get_ro ns)
  pub get_rw : IsCount x.get_rw (how_many marks.is_get_rw ns)
  pub data_ro : IsCount x.data_ro (how_many marks.is_data_ro ns)
  pub data_rw : IsCount x.data_rw (how_many marks.is_data_rw ns)
  pub rd_fault : IsCount x.rd_fault (how_many marks.is_rd_fault ns)
  pub wr_fault : IsCount x.wr_fault (how_many marks.is_wr_fault ns)
  pub gets : Decides x.gets (Each IsGet ns)
  pub faults : Decides x.faults (Each IsFault ns)
  pub downs : Decides x.downs (Each (IsDown w) ns)
  pub ups : Decides x.ups (Each (IsUp w) ns)
  pub shared : Decides x.shared (Each IsOfStache ns)
  pub same : Decides x.same (Each (HasWords words) ns)
  pub answered : Decides x.answered (Each (HasAnswered words) ns)
