-- How a handling of a message is seen in the sketch.
use Rattle.std.proofs.Common.{Bool, true, false, ◌≡◌, ℕ, List, [], ◌∷◌, map, Option, Some, None, arith, refl, sym, ap, subst}
use Rattle.std.proofs.Common.{◌∙◌, inl, inr, ◌⊎◌}
use Rattle.std.proofs.lemmas.List.{map-append}
use Rattle.std.proofs.lemmas.Bool.Decides.{nat_tests}
use Rattle.tw_base.specs.Lists.{Each}
use Rattle.tw_base.specs.declared.entry.After.{After}
use Rattle.tw_base.specs.declared.message.Message.{Message}
use Rattle.teapot_tree.specs.declared.protocol.Protocol.{Protocol}
use Rattle.teapot_meaning.specs.declared.state.Here.{Here as Place}
use Rattle.teapot_meaning.specs.declared.state.Out.{Out}
use Rattle.dsm_runs.specs.declared.mode.Waiting.{Waiting}
use Rattle.dsm_runs.specs.Events.{Handles as Handling, failure, mode_after, free as free_there, freed_if as freed_there}
use Rattle.dsm_runs.specs.Events.{with_kept as kept_there}
use Rattle.dsm_runs.specs.Locals.{Local}
use Rattle.dsm_runs.specs.Messages.{chan_of, outgoing}
use Rattle.dsm_runs.specs.Setups.{Setup}
use Rattle.block_spots.specs.Cases as cases
use Rattle.block_spots.specs.Cases.{Effect, No, Stale, channel_of}
use Rattle.block_spots.specs.Sketches.{freed_if, with_kept}
use Rattle.block_spots.specs.Views.{seen_here, seen_kind, seen_message, seen_waiting}
use Rattle.stache_table.specs.Blocks.{kept_of, seen_out}
use Rattle.coherence_frame.proofs.Scheme.{IsShown, Scheme}

-- ---- deferred messages

freed_seen : (b : ℕ) (fr : Bool) (ws : List Waiting) → map seen_waiting (freed_there fr b ws)
    ≡ freed_if fr b (map seen_waiting ws)
freed_seen b false ws = refl
freed_seen b true [] = refl
freed_seen b true (w ∷ ws) = ap (λ rest. seen_waiting (free_there b w) ∷ rest) (freed_seen b true ws)

deferred_seen : (k : cases.Kept) (fr : Bool) (m : Message) (b : ℕ) (ws : List Waiting) → (k ≡ No) ⊎ (fr ≡ false) →
    map seen_waiting (kept_there (kept_of k) m (freed_there fr b ws))
    ≡ freed_if fr b (with_kept k (seen_message m) (map seen_waiting ws))
deferred_seen No fr m b ws h = freed_seen b fr ws
deferred_seen Stale false m b ws h = map-append seen_waiting ws _
deferred_seen Stale true m b ws (inl q) = absurd cc
deferred_seen Stale true m b ws (inr q) = absurd cc

-- ---- sends

abbrev pub OnDeclaredChannel : Protocol → Out → Type 0
OnDeclaredChannel p o = chan_of p o.kind ≡ channel_of (seen_kind o.kind)

sends_seen : (p : Protocol) (i b stamp : ℕ) (os : List Out) → Each (OnDeclaredChannel p) os →
    map seen_message (outgoing p i b stamp os) ≡ map (seen_out b i) os
sends_seen p i b stamp [] h = refl
sends_seen p i b stamp (o ∷ os) h =
    ap (λ c. let x : cases.Message = record {
      kind = seen_kind o.kind;
      block = b;
      from = i;
      to = o.to;
      chan = c;
      payload = (seen_out b i o).payload;
    } in x ∷ map seen_message (outgoing p i b stamp os)) h.0
    ∙ ap (λ rest. seen_out b i o ∷ rest) (sends_seen p i b stamp os h.1)

module _ (scheme : Scheme) where
  never_both : (st : cases.State) (n home i : ℕ) (h : cases.Here) (m : cases.Message) (f : Effect) →
      scheme.table n home i h m ≡ Some f → (f.kept ≡ No) ⊎ (f.freed ≡ false)
  never_both st n home i h m f d = grind (arith, nat_tests)

  -- ---- one handling

  pub record HandledAs (m : Message) (l l2 : Local) (sends : List Message) (f : Effect) : Type 0 where
    pub failed : l2.failed ≡ None
    pub placed : scheme.wording.IsPlaced (l2.blocks m.block)
    pub here : seen_here scheme.wording.reads (l2.blocks m.block) ≡ f.here
    pub mode : l2.mode ≡ mode_after f.woke m.block l.mode
    pub deferred : map seen_waiting l2.deferred ≡ freed_if f.freed m.block
        (with_kept f.kept (seen_message m) (map seen_waiting l.deferred))
    pub outs : map seen_message sends ≡ f.sends

  module _ (s : Setup) (i stamp : ℕ) (m : Message) (l l2 : Local) (sends : List Message) (after : Option After)
      (r : Handling s i stamp m l l2 sends after) (f : Effect)
      (row : scheme.table s.shape.nodes (l.blocks m.block).home (l.blocks m.block).me
      (seen_here scheme.wording.reads (l.blocks m.block)) (seen_message m) ≡ Some f)
      (shown : IsShown scheme.wording (l.blocks m.block) r.ended f) (me : (l.blocks m.block).me ≡ i)
      (block : m.block ≡ (l.blocks m.block).block)
      (channels : Each (OnDeclaredChannel s.protocol) r.ended.sends) where
    pub handled_as : HandledAs m l l2 sends f
    handled_as = record {
      failed = r.failed ∙ ap failure shown.end;
      placed = subst (λ (h : Place). scheme.wording.IsPlaced h) (sym r.here) shown.placed;
      here = ap (seen_here scheme.wording.reads) r.here ∙ shown.here;
      mode = r.mode ∙ ap (λ w. mode_after w m.block l.mode) (sym shown.woke);
      deferred =
          ap (map seen_waiting) (r.deferred ∙ ap (λ x. kept_there x m (freed_there r.ended.freed m.block l.deferred))
          shown.kept ∙ ap (λ x. kept_there (kept_of f.kept) m (freed_there x m.block l.deferred)) (sym shown.freed))
          ∙ deferred_seen f.kept f.freed m m.block l.deferred
          (scheme.sends.never_both s.shape.nodes (l.blocks m.block).home (l.blocks m.block).me
          (seen_here scheme.wording.reads (l.blocks m.block)) (seen_message m) f row);
      outs = ap (map seen_message) r.outs ∙ sends_seen s.protocol i m.block stamp r.ended.sends channels ∙ at_block;
    }
      where
        at_block : map (seen_out m.block i) r.ended.sends ≡ f.sends
        at_block = ap (λ b. map (seen_out b i) r.ended.sends) block
            ∙ ap (λ j. map (seen_out (l.blocks m.block).block j) r.ended.sends) (sym me) ∙ sym shown.sends
