-- A sketch in which nothing has happened yet is coherent.
use Rattle.std.proofs.Common.{◌≡◌, ◌≢◌, ℕ, ◌<◌, false, List, [], arith, ap, ◌∙◌}
use Rattle.tw_base.specs.declared.message.Chan.{Chan}
use Rattle.tw_base.specs.declared.message.Chan.TheVariants.{Zero}
use Rattle.tw_base.specs.declared.value.Tag.TheVariants.{Invalid, ReadWrite}
use Rattle.block_spots.specs.Cases.{HomeRw, CacheInv, NoRest}
use Rattle.block_spots.specs.Notes.{notes, kept_notes}
use Rattle.block_spots.specs.Sketches.{Layout, Sketch, home_at, spot_at, IsPlain}
use Rattle.coherence_frame.specs.Coherent.{AtBlock, AtNode, Coherent}
use Rattle.coherence_frame.proofs.Instructions.{at_rest}
use Rattle.coherence_frame.proofs.Views.{kept_notes_nil, notes_nil}
use Rattle.coherence_frame.proofs.Rows.{Plan}

-- each block is at home alone, no message is anywhere, and each node runs
pub record IsStart (s : Layout) (flat : ℕ → List ℕ) (g : Sketch) : Type 0 where
  pub home : (b : ℕ) → s.home b < s.nodes
  pub words : (b : ℕ) → b < s.blocks → (home_at g b (s.home b)).words ≡ flat b
  pub modes : (i : ℕ) → IsPlain (g.locals i).mode
  pub deferred : (i : ℕ) → (g.locals i).deferred ≡ []
  pub wires : (f t : ℕ) (c : Chan) → g.wires f t c ≡ []
  pub rests : (i b : ℕ) → b < s.blocks → ((g.locals i).blocks b).rest ≡ NoRest
  pub sharers : (b k : ℕ) → b < s.blocks → (home_at g b (s.home b)).sharers k ≡ false
  pub homes : (b : ℕ) → b < s.blocks → ((home_at g b (s.home b)).state ≡ HomeRw) × ((home_at g b (s.home b)).tag ≡ ReadWrite)
  pub caches : (i b : ℕ) → b < s.blocks → i ≢ s.home b → (((g.locals i).blocks b).state ≡ CacheInv)
      × (((g.locals i).blocks b).tag ≡ Invalid)

module _ (plan : Plan) where
  module _ (s : Layout) (flat : ℕ → List ℕ) (g : Sketch) (z : IsStart s flat g) where
    no_notes : (b f t : ℕ) (c : Chan) → notes b (g.wires f t c) ≡ []
    no_notes b f t c = ap (notes b) (z.wires f t c) ∙ notes_nil b

    no_kept : (b j n : ℕ) → kept_notes b j (g.locals n).deferred ≡ []
    no_kept b j n = ap (kept_notes b j) (z.deferred n) ∙ kept_notes_nil b j

    start_block : (b : ℕ) → b < s.blocks → AtBlock plan.words s.nodes (s.home b) (flat b) (home_at g b (s.home b))
        (spot_at g b (s.home b))
    unfolding spot_at
    start_block b lb = record {
      caches = λ i l d. plan.says.start_cache s.nodes (s.home b) _ i _ (z.homes b lb).0 (z.rests _ b lb) (z.caches i b lb d).0
          (z.caches i b lb d).1 (z.rests i b lb) (no_notes b _ _ _) (no_kept b _ _) (no_notes b _ _ _) (no_notes b _ _ _);
      at_home = plan.says.start_home s.nodes (s.home b) _ _ (z.homes b lb).0 (z.homes b lb).1 (z.rests _ b lb)
          (λ k. z.sharers b k lb) (no_notes b _ _ _) (no_kept b _ _) (no_notes b _ _ _) (no_notes b _ _ _);
      acks = λ p. absurd (let q : (home_at g b (s.home b)).state ≡ HomeRw = (z.homes b lb).0 in cc);
      tie = rw ((z.homes b lb).0) (z.words b lb);
    }

    start_node : (i b : ℕ) → b < s.blocks → AtNode plan.words s (g.locals i) i b
    start_node i b lb = at_rest plan s (g.locals i) i b (record {
      ro = λ d p. (let q : ((g.locals i).blocks b).state ≡ CacheInv = (z.caches i b lb d).0 in cc);
      write = λ d p. (let q : ((g.locals i).blocks b).state ≡ CacheInv = (z.caches i b lb d).0 in cc);
      rd = λ _. rw (no_kept b i i) (omega arith);
      wr = λ _. rw (no_kept b i i) (omega arith);
      held = λ _. rw (z.rests i b lb) (omega arith);
    }) (z.modes i)

    pub start_coherent : Coherent plan.words s flat g
    start_coherent = record {
      homes = z.home;
      block = start_block;
      elsewhere = λ b lb. record {
        between = λ f t c lf lt _ _. no_notes b f t c;
        from_home = λ t _ _. no_notes b _ t Zero;
        deferred = λ n j _ _. no_kept b j n;
        strangers = λ j _. no_kept b j _;
      };
      node = λ i b _ lb. start_node i b lb;
      settled = λ b _ _. rw (z.deferred (s.home b)) tt;
      sent = λ f t c. rw (z.wires f t c) tt;
    }
