-- A course goes on by the event in which a handler ran, and the node stands for where it gets.
use Rattle.std.proofs.Common.{◌≡◌, ℕ, ◌+◌, Bool, true, false, if◌then◌else◌, List, [], ◌++◌, Option, Some, None, length, refl}
use Rattle.std.proofs.Common.{ap, sym, ◌∙◌, subst, arith, length-append}
use Rattle.std.specs.Prelude.{option_to_list}
use Rattle.std.specs.List.{filter}
use Rattle.std.proofs.lemmas.List.{length-map}
use Rattle.tw_base.specs.Lists.{Each}
use Rattle.tw_base.specs.declared.entry.Entry.{Entry}
use Rattle.tw_base.specs.declared.message.Chan.{Chan}
use Rattle.tw_base.specs.declared.message.Message.{Message}
use Rattle.value_nodes.specs.Within.{IsMessageWithin}
use Rattle.dsm_runs.specs.Beside.{ReplaysBeside}
use Rattle.dsm_runs.specs.Events.{Acts, LocalStep, latest}
use Rattle.dsm_runs.specs.Invariants.{IsDeferredAt, KeepsNode}
use Rattle.dsm_runs.specs.Locals.{Local}
use Rattle.dsm_runs.specs.Messages.{on_wire, posted}
use Rattle.dsm_runs.specs.Replays.{Course, ReplaysOne, begin}
use Rattle.dsm_runs.specs.Worlds.{taken, takes_from}
use Rattle.dsm_runs.proofs.Besides.{log_goes_on_beside}
use Rattle.dsm_runs.proofs.Lists.{Each-append, Each-filter, Each-numbered, nat_eq_refl}
use Rattle.dsm_runs.proofs.RunStates.{events_keep}
use Rattle.dsm_runs.proofs.Stamps.{each_both, passes}
use Rattle.node_meaning.specs.Laws.{LowerLaws}
use Rattle.node_meaning.specs.Nodes.{Parts, Shown, accepted_at, front_at, tally_of}
use Rattle.node_meaning.specs.Stands.{GoesOn, IsFit, IsWell, StandsFor}
use Rattle.node_meaning.specs.Tallies.{Counts, CountsIf, first_tally, handled_message}
use Rattle.node_meaning.proofs.Course.{blocks_stand, counted, local_after, more, sends, sent_numbers, sent_onto}
use Rattle.node_meaning.proofs.Posting.{on_it}
use Rattle.node_meaning.proofs.Ran.{sent_fit}
use Rattle.node_meaning.proofs.HandledParts.{Handled, kept_on}

-- ---- what is taken

-- what was accepted from a wire is what was taken from it and what is kept of it
taken_count : (taken_now : Bool) (front kept : Option Message) (took : List Message) (accepted : ℕ)
    → (taken_now ≡ true → front ≡ kept) → length took + length (option_to_list kept) ≡ accepted
    → length (took ++ (if taken_now then option_to_list front else [])) + length
    (option_to_list (if taken_now then None else kept)) ≡ accepted
taken_count true front kept took accepted same h = rw (same refl) (omega (arith, h, length-append took (option_to_list kept)))
taken_count false front kept took accepted same h = omega (arith, h, length-append took [])

-- a message of a wire is fit for its end
fit_there : (n : Shown) (t : ℕ) (ch : Chan) (ms : List Message) → Each (λ m. IsFit n.setup n.me m.to m) ms
    → Each (IsFit n.setup n.me t) (filter (on_wire n.me t ch) ms)
fit_there n t ch ms h =
    each_both (λ m. IsFit n.setup n.me m.to m) (λ m. on_wire n.me t ch m ≡ true) (IsFit n.setup n.me t)
    (filter (on_wire n.me t ch) ms)
    (λ m x on. subst (λ k. IsFit n.setup n.me k m) (on_it n.me t ch m on).0 x)
    (Each-filter (λ m. IsFit n.setup n.me m.to m) (on_wire n.me t ch) ms h) (passes (on_wire n.me t ch) ms)

module _ (lower : LowerLaws) (old left : Shown) (found : Parts) (m : Message) (entry : Entry) (well : IsWell old)
    (q : IsDeferredAt old.setup old.me m) (within : IsMessageWithin old.setup.shape.nodes m)
    (h : Handled old (kept_on old left) found m entry) where
  abbrev new : Shown
  new = kept_on old left

  module _ (c : Course) (stands : StandsFor old c) (front : Option Message) where
    abbrev local2 : Local
    local2 = local_after lower old left found m entry well q within h c stands

    abbrev sent2 : List Message
    sent2 = sends lower old left found m entry well q within h

    abbrev pub after : Course
    after = record {
      local = local2;
      took = λ f ch. c.took f ch ++ taken entry front f old.me ch;
      sent = λ t ch. c.sent t ch ++ posted (length (c.sent t ch)) old.me t ch sent2;
    }

    module _
        (is_front : (f : ℕ) (ch : Chan) → takes_from entry.act f ch ≡ true → front ≡ front_at old f ch)
        (comes : (x : Message) → front ≡ Some x → IsDeferredAt old.setup old.me x)
        (stamp : entry.stamp ≡ latest old.parts.clock front + 1)
        (same_sent : found.sent ≡ old.parts.sent)
        (acts : Acts old.setup old.me c.local front local2 entry sent2 entry.act)
        (is_handled : handled_message old.me c.local front entry.act ≡ Some m) where
      step : LocalStep old.setup old.me c.local front local2 entry sent2
      step = record {
        at_node = well.at_node;
        node = h.node;
        stamp = stamp ∙ ap (λ l. latest l.clock front + 1) (sym stands.parts);
        clock = ap (λ x. x.clock) h.parts;
        count = h.count ∙ sym (length-map h.sent _);
        sent = ap (λ x. x.sent) h.parts ∙ ap (λ k. k + length h.sent) (same_sent ∙ sym (ap (λ l. l.sent) stands.parts))
            ∙ ap (λ k. c.local.sent + k) (sym (length-map h.sent _));
        acts = acts;
      }

      keeps : KeepsNode old.setup old.me local2 sent2
      keeps = events_keep old.setup old.me c.local front local2 entry sent2 well.setup stands.sound comes step

      pub fit_sends : Each (λ x. IsFit old.setup old.me x.to x) sent2
      fit_sends = sent_fit lower old left found m entry well q within h keeps.sent

      abbrev goes : ReplaysOne old.setup old.me c entry after
      goes = record { front = front; sends = sent2; local = step; took = λ f ch. refl; sent = λ t ch. refl }

      counts : Counts old.setup old.code old.me c.local front entry.act (tally_of old) (tally_of new)
      counts = subst (λ (o : Option Message). CountsIf old.setup old.code old.me c.local o (tally_of old) (tally_of new))
          (sym is_handled) (counted lower old left found m entry well q within h c stands)

      replays : ReplaysBeside (Counts old.setup old.code) old.setup old.me (begin old.setup old.me)
          (first_tally old.setup old.me) new.log after (tally_of new)
      replays =
          subst (λ (l : List Entry). ReplaysBeside (Counts old.setup old.code) old.setup old.me (begin old.setup old.me)
          (first_tally old.setup old.me) l after (tally_of new)) (sym h.log)
          (log_goes_on_beside (Counts old.setup old.code) old.setup old.me old.log (begin old.setup old.me) c after
          (first_tally old.setup old.me) (tally_of old) (tally_of new) entry stands.replays goes counts)

      took_count : (f : ℕ) (ch : Chan) → length (c.took f ch ++ taken entry front f old.me ch) + length
          (option_to_list (front_at new f ch)) ≡ accepted_at old f ch
      took_count f ch =
          rw (h.fronts f ch, h.node, nat_eq_refl old.me)
          (taken_count (takes_from entry.act f ch) front (front_at old f ch) (c.took f ch) (accepted_at old f ch)
          (is_front f ch) (stands.took f ch))

      fit_more : (t : ℕ) (ch : Chan) → Each (IsFit old.setup old.me t)
          (c.sent t ch ++ posted (length (c.sent t ch)) old.me t ch sent2)
      fit_more t ch =
          Each-append (IsFit old.setup old.me t) (c.sent t ch) (posted (length (c.sent t ch)) old.me t ch sent2) (stands.fit t ch)
          (Each-numbered (IsFit old.setup old.me t) (λ x k y. record {
            on = record {
              is_message = y.on.is_message;
              named = y.on.named;
              from = y.on.from;
              to = y.on.to;
              block =
                  y.on.block;
            };
            within = y.within;
            receiver = y.receiver;
          })
          (length (c.sent t ch)) (filter (on_wire old.me t ch) sent2) (fit_there old t ch sent2 fit_sends))

      stands_after : StandsFor new after
      stands_after = record {
        replays = replays;
        parts = refl;
        blocks = blocks_stand lower old left found m entry well q within h c stands;
        sound = keeps.node;
        took = took_count;
        sent = sent_numbers lower old left found m entry well q within h c stands;
        fit = fit_more;
      }

      pub goes_on : GoesOn old new c entry front (more lower old left found m entry well q within h)
      goes_on = record {
        after = after;
        goes = goes;
        takes = refl;
        stands = stands_after;
        sent = λ t ch. ap (λ (ms : List Message). c.sent t ch ++ ms)
            (sent_onto lower old left found m entry well q within h c stands t ch);
        counted = counts;
      }
