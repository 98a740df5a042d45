-- A node, as part 4 sees it with a block of this home.
use Rattle.std.specs.Prelude.{◌≡◌, ℕ, true}
use Rattle.std.specs.Bool.{Decides}
use Rattle.block_spots.specs.Sketches.{Loads, Local, Stores}
use Rattle.coherence_inv.specs.Coherent.{own_rd, own_wr}
use Rattle.dsm_runs.specs.declared.mode.Mode.TheVariants as mode
use Rattle.note_reads.specs.Counts.{IsCount}
use Rattle.block_reads.specs.Whose.{rest_in, state_in}
use Rattle.coherence_check.specs.declared.waits.Node.{Node}

pub record IsNode (x : Node) (h : ℕ) (l : Local) (i b : ℕ) : Type 0 where
  pub own : Decides x.own (i ≡ h)
  pub blocked : Decides x.blocked (l.mode ≡ mode.Blocked b)
  pub woken : Decides x.woken (l.mode ≡ mode.Woken)
  pub may : Decides x.may (l.may ≡ true)
  pub loads : Decides x.loads (l.next ≡ Loads b)
  pub stores : Decides x.stores (l.next ≡ Stores b)
  pub state : state_in x.place ≡ (l.blocks b).state
  pub tag : x.tag ≡ (l.blocks b).tag
  pub rd_fault : IsCount x.rd_fault (own_rd l i b)
  pub wr_fault : IsCount x.wr_fault (own_wr l i b)
  pub rest : rest_in x.whose ≡ (l.blocks b).rest
