-- What holds of a node by itself holds after an event in which a handler ran.
use Rattle.std.proofs.Common.{◌≡◌, ℕ, ◌+◌, ◌<◌, ◌≤◌, Bool, true, false, if◌then◌else◌, List, [], ◌∷◌, Option, Some, None}
use Rattle.std.proofs.Common.{length, refl, ap, sym, ◌∙◌, subst, arith}
use Rattle.std.specs.Prelude.{map, option_to_list, slice_index}
use Rattle.std.specs.List.{filter}
use Rattle.std.proofs.lemmas.List.{length-map}
use Rattle.tw_base.specs.Lists.{Each}
use Rattle.tw_base.specs.Shape.{handler_budget_of}
use Rattle.tw_base.specs.declared.entry.Entry.{Entry}
use Rattle.tw_base.specs.declared.message.Chan.{Chan}
use Rattle.tw_base.specs.declared.message.Message.{Message}
use Rattle.block_tags.specs.Copies.{Copies, IsWhole}
use Rattle.teapot_meaning.specs.declared.state.Kept.{Kept}
use Rattle.teapot_meaning.specs.declared.state.Kept.TheVariants as kept
use Rattle.value_nodes.specs.Within.{IsMessageWithin}
use Rattle.dsm_runs.specs.declared.mode.Waiting.{Waiting}
use Rattle.dsm_runs.specs.Events.{free, freed_if, with_kept}
use Rattle.dsm_runs.specs.Invariants.{IsDeferredAt}
use Rattle.dsm_runs.specs.Messages.{on_wire, place}
use Rattle.dsm_runs.specs.Replays.{Course}
use Rattle.dsm_runs.specs.Worlds.{takes_from}
use Rattle.dsm_runs.proofs.Lists.{Each-append}
use Rattle.node_meaning.specs.Laws.{LowerLaws}
use Rattle.node_meaning.specs.Nodes.{Parts, Shown, accepted_at, front_at, posted_at, tally_of}
use Rattle.node_meaning.specs.Sending.{stamped}
use Rattle.node_meaning.specs.Stands.{IsFit, IsFront, IsTallyWithin, IsWell, StandsFor}
use Rattle.node_meaning.proofs.Blocks.{written_whole}
use Rattle.node_meaning.proofs.Course.{cell_left, ended, few_sent, full, low, meant}
use Rattle.node_meaning.proofs.Posting.{each_more, length-filter_le, length-posted_all, more_of, next_after}
use Rattle.node_meaning.proofs.Ran.{cells_within, chains_within, posted_more, sent_postable, stay_apart, waits_more}
use Rattle.node_meaning.proofs.HandledParts.{Handled, kept_on}

-- ---- what is deferred

abbrev HoldsNodes : ℕ → Waiting → Type 0
HoldsNodes n w = IsMessageWithin n w.message

freed_within : (n b : ℕ) (ws : List Waiting) → Each (HoldsNodes n) ws → Each (HoldsNodes n) (map (free b) ws)
freed_within n b [] h = tt
freed_within n b (w ∷ ws) h = (h.0, freed_within n b ws h.1)

freed_if_within : (n b : ℕ) (freed : Bool) (ws : List Waiting) → Each (HoldsNodes n) ws
    → Each (HoldsNodes n) (freed_if freed b ws)
freed_if_within n b true ws h = freed_within n b ws h
freed_if_within n b false ws h = h

kept_within : (n : ℕ) (k : Kept) (m : Message) (ws : List Waiting) → IsMessageWithin n m → Each (HoldsNodes n) ws
    → Each (HoldsNodes n) (with_kept k m ws)
kept_within n kept.No m ws w h = h
kept_within n kept.Stale m ws w h = Each-append (HoldsNodes n) ws _ h (w, tt)
kept_within n kept.Eligible m ws w h = Each-append (HoldsNodes n) ws _ h (w, tt)

-- ---- fronts

-- a front that is kept still was kept before
still_kept : (taken : Bool) (was now : Option Message) (m : Message) → now ≡ (if taken then None else was) → now ≡ Some m
    → was ≡ Some m
still_kept true was now m e is = let bad : None ≡ Some m = sym e ∙ is in absurd cc
still_kept false was now m e is = sym e ∙ is

-- as many are handled as were accepted and are kept no more
accepted_few : (taken : Bool) (was : Option Message) (accepted before after : ℕ)
    → accepted ≤ before + length (option_to_list was) → before ≤ after → (taken ≡ true → before + 1 ≤ after)
    → accepted ≤ after + length (option_to_list (if taken then None else was))
accepted_few true None accepted before after h less more = omega (arith, h, less)
accepted_few true (Some m) accepted before after h less more = omega (arith, h, more refl)
accepted_few false was accepted before after h less more = omega (arith, h, less)

module _ (lower : LowerLaws) (old left : Shown) (found : Parts) (m : Message) (entry : Entry) (well : IsWell old)
    (q : IsDeferredAt old.setup old.me m) (within : IsMessageWithin old.setup.shape.nodes m)
    (h : Handled old (kept_on old left) found m entry) where
  abbrev new : Shown
  new = kept_on old left

  module _ (c : Course) (stands : StandsFor old c) where
    copies_whole : IsWhole new.copies
    copies_whole =
        subst (λ (x : Copies). IsWhole x) (sym (meant lower old left found m entry well q within h c stands).blocks)
        (written_whole old.copies m.block (ended lower old left found m entry well q within h c stands).here.tag
        (ended lower old left found m entry well q within h c stands).here.words well.copies
        (low lower old left found m entry well q within h c stands) (full lower old left found m entry well q within h c stands))

    tally_within : IsTallyWithin old.setup.shape.nodes (tally_of new)
    tally_within = record {
      cells = cells_within lower old left found m entry well q within h
          (cell_left lower old left found m entry well q within h c stands);
      chains = chains_within lower old left found m entry well q within h
          (cell_left lower old left found m entry well q within h c stands);
    }

    module _
        (fit_sends : Each (λ x. IsFit old.setup old.me x.to x) (map (stamped entry.stamp) h.sent))
        (same_sent : found.sent ≡ old.parts.sent)
        (may_send : old.parts.sent < handler_budget_of old.setup.shape)
        (handled_more : old.parts.handled ≤ found.handled)
        (handled_one : (f : ℕ) (ch : Chan) → takes_from entry.act f ch ≡ true → old.parts.handled + 1 ≤ found.handled)
        (deferred_within : Each (λ w. IsMessageWithin old.setup.shape.nodes w.message) found.deferred) where
      waiting_fit : Each (λ x. IsFit old.setup old.me x.to x) new.waiting
      waiting_fit =
          subst (λ (ms : List Message). Each (λ x. IsFit old.setup old.me x.to x) ms)
          (sym (waits_more lower old left found m entry well q within h))
          (Each-append (λ x. IsFit old.setup old.me x.to x) old.waiting (more_of entry.stamp h.sent old.posted) well.waiting
          (each_more (λ x. IsFit old.setup old.me x.to x)
          (λ x k y. record {
            on = record {
              is_message = y.on.is_message;
              named = y.on.named;
              from = y.on.from;
              to =
                  y.on.to;
              block = y.on.block;
            };
            within = y.within;
            receiver = y.receiver;
          }) entry.stamp h.sent old.posted fit_sends))

      sent_after : new.parts.sent ≡ old.parts.sent + length h.sent
      sent_after = ap (λ (x : Parts). x.sent) h.parts ∙ ap (λ k. k + length h.sent) same_sent

      handled_after : new.parts.handled ≡ found.handled
      handled_after = ap (λ (x : Parts). x.handled) h.parts

      few_posted : (t : ℕ) (ch : Chan) → posted_at new t ch ≤ new.parts.sent
      few_posted t ch =
          let put : ℕ = length (filter (on_wire old.me t ch) (map (stamped entry.stamp) h.sent)) in
          let now : posted_at new t ch ≡ posted_at old t ch + put = ap (λ (xs : List ℕ). slice_index xs (place t ch))
          (posted_more lower old left found m entry well q within h)
          ∙ next_after old.me t ch entry.stamp h.sent old.posted well.all_posted
          (sent_postable lower old left found m entry well q within h) in
          let most : put ≤ length (map (stamped entry.stamp) h.sent) = length-filter_le old.me t ch
          (map (stamped entry.stamp) h.sent) in
          let long : length (map (stamped entry.stamp) h.sent) ≡ length h.sent = length-map h.sent _ in
          omega (arith, now, most, long, sent_after, well.few_posted t ch)

      fronts_kept : (f : ℕ) (ch : Chan) (x : Message) → front_at new f ch ≡ Some x → IsFront new f ch x
      fronts_kept f ch x is =
          let was : IsFront old f ch x = well.fronts f ch x
          (still_kept (takes_from entry.act f ch) (front_at old f ch) (front_at new f ch) x (h.fronts f ch) is) in
          record { fit = was.fit; chan = was.chan; number = was.number }

      few_accepted : (f : ℕ) (ch : Chan) → accepted_at old f ch ≤ new.parts.handled + length (option_to_list (front_at new f ch))
      few_accepted f ch =
          rw (handled_after, h.fronts f ch)
          (accepted_few (takes_from entry.act f ch) (front_at old f ch) (accepted_at old f ch) old.parts.handled
          found.handled (well.few_accepted f ch) handled_more (handled_one f ch))

      pub well_after : IsWell new
      well_after = record {
        setup = well.setup;
        code = well.code;
        short = well.short;
        at_node = well.at_node;
        copies = copies_whole;
        shape = ap (λ (x : Copies). x.shape) (meant lower old left found m entry well q within h c stands).blocks ∙ well.shape;
        cells = h.cells ∙ well.cells;
        chains = (stay_apart lower old left found m entry well q within h).chains;
        within = tally_within;
        all_fronts = h.all_fronts ∙ well.all_fronts;
        all_accepted = well.all_accepted;
        all_posted = ap length (posted_more lower old left found m entry well q within h)
            ∙ length-posted_all h.sent old.posted ∙ well.all_posted;
        fronts = fronts_kept;
        waiting = waiting_fit;
        deferred =
            subst (λ (ws : List Waiting). Each (HoldsNodes old.setup.shape.nodes) ws)
            (sym (ap (λ (x : Parts). x.deferred) h.parts))
            (kept_within old.setup.shape.nodes h.ran.kept m (freed_if h.ran.freed m.block found.deferred) within
            (freed_if_within old.setup.shape.nodes m.block h.ran.freed found.deferred deferred_within));
        few_sent = omega (
          arith,
          sent_after,
          may_send,
          well.setup.limits.budget,
          few_sent lower old left found m entry well q
              within h c stands,
        );
        few_posted = few_posted;
        few_accepted = few_accepted;
      }
