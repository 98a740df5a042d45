use Rattle.std.proofs.Common.{◌≡◌, ℕ, List, map, ap, sym, subst, ◌∙◌}
use Rattle.tw_base.specs.declared.message.Chan.TheVariants.{Zero, One}
use Rattle.teapot_meaning.specs.declared.state.Here.{Here}
use Rattle.teapot_meaning.specs.declared.state.StateVal.{out-StateVal}
use Rattle.block_spots.specs.Notes.{kept_notes, notes}
use Rattle.block_spots.specs.Sketches.{spot_at}
use Rattle.block_spots.specs.Views.{seen_message, seen_waiting, state_numbered}
use Rattle.dsm_model.specs.Globals.{setup_of, world_of}
use Rattle.dsm_runs.specs.declared.mode.Waiting.{Waiting}
use Rattle.dsm_runs.specs.Setups.{home_of}
use Rattle.block_reads.specs.Tables.{reads_under}
use Rattle.note_reads.specs.Notes.{IsSummary}
use Rattle.coherence_check.proofs.spot.spot_at.Goals as goal

pub returns : goal.returns
unfolding spot_at
returns c =
    let s = setup_of c.args.g.now in
    let w = world_of c.args.g.now in
    let b = c.args.block in
    let i = c.args.node in
    let own = c.args.at_home in
    let h : c.home-to.result ≡ home_of s b = c.home-to.ensures.value in record {
      state = sym (c.place_seen.ensures ∙ ap (λ (x : Here). state_numbered (out-StateVal x.state).state) c.block-here.ensures);
      rest = sym (c.rest_under.ensures ∙ ap (λ (x : Here). reads_under c.args.directory (out-StateVal x.state).cont)
          c.block-here.ensures);
      tag = sym (ap (λ (x : Here). x.tag) c.block-here.ensures);
      words = sym (ap (λ (x : Here). x.words) c.block-here.ensures);
      ask = subst (λ (k : ℕ). IsSummary s.shape.words own c.said.result (notes b (map seen_message (w.wires i k Zero)))) h
          c.said.ensures;
      kept = subst (λ (k : ℕ). IsSummary k own c.kept_of.result
          (kept_notes b i (map seen_waiting (w.locals (home_of s b)).deferred))) c.words.ensures
          (subst (λ (ds : List Waiting). IsSummary c.words.result own c.kept_of.result (kept_notes b i (map seen_waiting ds)))
          (c.deferred.ensures ∙ ap (λ (k : ℕ). (w.locals k).deferred) h) c.kept_of.ensures);
      down = subst (λ (k : ℕ). IsSummary s.shape.words own c.said-2.result (notes b (map seen_message (w.wires k i One)))) h
          c.said-2.ensures;
      up = subst (λ (k : ℕ). IsSummary s.shape.words c.block-here.result.now.words c.said-3.result
          (notes b (map seen_message (w.wires i k One)))) h c.said-3.ensures;
    }
