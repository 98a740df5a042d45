use Rattle.std.proofs.Common.{ℕ, ◌+◌, List, [], ◌∷◌, ◌++◌, subst, sym}
use Rattle.tw_base.specs.Lists.{how_many}
use Rattle.block_spots.specs.Notes as marks
use Rattle.coherence_inv.specs.Coherent.{HasWords, IsFault, IsGet}
use Rattle.stache_d_inv.specs.Coherent.{HasAnswered}
use Rattle.stache_d_inv.specs.Parts.{IsDown, IsUp}
use Rattle.note_reads.specs.declared.count.Count.{Count}
use Rattle.note_reads.specs.Counts.{IsCount}
use Rattle.note_reads.specs.Notes.{IsOfStache, note_in}
use Rattle.note_reads.proofs.Lists.{each_more, one_more}
use Rattle.note_reads.proofs.summary.Summary.and.Goals as goal

tallied : (f : marks.Note → ℕ) (r : Count) (ns : List marks.Note) (x : marks.Note) → IsCount r (how_many f ns + f x) →
    IsCount r (how_many f (ns ++ x ∷ []))
tallied f r ns x h = subst (IsCount r) (sym (one_more f ns x)) h

pub returns : goal.returns
returns c = λ ns h.
    let x = note_in c.args.note.now in record {
      few = c.and.ensures ns h.few;
      get_ro = tallied marks.is_get_ro _ ns x (c.counted.ensures _ h.get_ro);
      get_rw = tallied marks.is_get_rw _ ns x (c.counted-2.ensures _ h.get_rw);
      data_ro = tallied marks.is_data_ro _ ns x (c.counted-3.ensures _ h.data_ro);
      data_rw = tallied marks.is_data_rw _ ns x (c.counted-4.ensures _ h.data_rw);
      rd_fault = tallied marks.is_rd_fault _ ns x (c.counted-5.ensures _ h.rd_fault);
      wr_fault = tallied marks.is_wr_fault _ ns x (c.counted-6.ensures _ h.wr_fault);
      gets = each_more IsGet ns x _ _ _ h.gets c.is_get.ensures c.both.ensures;
      faults = each_more IsFault ns x _ _ _ h.faults c.is_fault.ensures c.both-2.ensures;
      downs = each_more (IsDown c.args.count) ns x _ _ _ h.downs c.is_down.ensures c.both-3.ensures;
      ups = each_more (IsUp c.args.count) ns x _ _ _ h.ups c.is_up.ensures c.both-4.ensures;
      shared = each_more IsOfStache ns x _ _ _ h.shared c.is_of_stache.ensures c.both-5.ensures;
      same = each_more (HasWords c.args.words) ns x _ _ _ h.same c.has_words.ensures c.both-6.ensures;
      answered = each_more (HasAnswered c.args.words) ns x _ _ _ h.answered c.has_answered.ensures c.both-7.ensures;
    }
