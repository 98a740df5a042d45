-- Each step of the model, act by act: the step of the sketch, what it leaves at its node, and what it reads and writes.
use Rattle.coherence_frame.proofs.Replying.{answered, fits_at, deferred_from}
use Rattle.coherence_frame.proofs.Coming.{message_coming}
use Rattle.coherence_frame.proofs.Scheme.{IsComing, Scheme, plan_of}
use Rattle.std.proofs.Common.{Bool, true, false, ◌≡◌, ℕ, ◌<◌, ◌≤◌, List, [], ◌∷◌, ◌++◌, map, Option, Some, None, arith, refl}
use Rattle.std.proofs.Common.{sym, ap, subst, ◌∙◌, inl, inr, length}
use Rattle.std.specs.Prelude.{slice_index, slice_set}
use Rattle.std.proofs.Math.Nat.{mul_comm}
use Rattle.std.proofs.lemmas.Bool.{cases_eq}
use Rattle.std.proofs.lemmas.List.{map-append}
use Rattle.std.proofs.lemmas.Nat.{div_below}
use Rattle.tw_base.specs.Lists.{Each}
use Rattle.tw_base.specs.declared.entry.Act.{Act}
use Rattle.tw_base.specs.declared.entry.After.{After}
use Rattle.tw_base.specs.declared.entry.Entry.{Entry}
use Rattle.tw_base.specs.declared.message.Chan.{Chan}
use Rattle.tw_base.specs.declared.message.Kind.{Kind}
use Rattle.tw_base.specs.declared.message.Message.{Message}
use Rattle.tw_base.specs.declared.value.Tag.{Tag}
use Rattle.tw_base.specs.declared.value.Tag.TheVariants.{Invalid, ReadOnly, ReadWrite}
use Rattle.block_tags.specs.Copies.{block_slice, permits}
use Rattle.mini_asm.specs.Run.{Machine}
use Rattle.mini_asm.specs.declared.cpu.Cpu.{Cpu}
use Rattle.mini_asm.specs.declared.cpu.Next.{Next as Needs}
use Rattle.teapot_meaning.specs.Fits.{is_known}
use Rattle.teapot_meaning.specs.declared.state.Here.{Here as Place}
use Rattle.dsm_runs.specs.declared.mode.Mode.{Mode}
use Rattle.dsm_runs.specs.declared.mode.Waiting.{Waiting}
use Rattle.dsm_runs.specs.Flat.{IsDue, words_after}
use Rattle.dsm_runs.specs.Events.{Acts, Completes as Completing, Delivers as Delivering, Faults as Faulting}
use Rattle.dsm_runs.specs.Events.{Handles as Handling, IsRefused, Redelivers as Redelivering, SameBlocks, Stores as Storing}
use Rattle.dsm_runs.specs.Events.{tag_here, word_here}
use Rattle.dsm_runs.specs.Invariants.{IsDeferredAt, IsOnTheWay, IsRunState, is_fault}
use Rattle.dsm_runs.specs.Messages.{fault as fault_there}
use Rattle.dsm_runs.specs.Setups.{IsSetup, Setup, asked, block_of, home_of, offset_of, size_of}
use Rattle.dsm_runs.specs.Worlds.{Step as Stepping, World, takes_from}
use Rattle.dsm_runs.proofs.Asking.{AsksWell, asked_well}
use Rattle.dsm_runs.proofs.Facts.{TakesFront, delivery}
use Rattle.block_spots.specs.Sketches.{Deed, DDeliver, DFault, DRedeliver, DStay, DWrite, IsPlain, Step, fault}
use Rattle.block_spots.specs.Views.{layout, seen_message, seen_waiting}
use Rattle.block_tags.proofs.Slices.{slice_unwritten, slice_word, slice_written}
use Rattle.coherence_frame.proofs.Deeds.{faults_of, handlers_of, sends_of}
use Rattle.coherence_frame.proofs.Kept.{flat_after, read_is_current, unwritten, written}
use Rattle.coherence_frame.proofs.Rows.{IsAnswered}
use Rattle.coherence_frame.proofs.NoErrors.{deferred_answered, fault_answered, front_answered}
use Rattle.coherence_frame.specs.Coherent.{Coherent}
use Rattle.coherence_frame.specs.Potential.{is_fault_event, is_handler_event}
use Rattle.coherence_frame.specs.Parts.{First, IsCoherent, Second, seen, IsTreeOf}
use Rattle.coherence_frame.proofs.Again.{placed_handled, placed_stored}
use Rattle.coherence_frame.proofs.Sending.{on_channels, sent_known}
use Rattle.coherence_frame.proofs.Simulating.{Answered, completes, delivered_counted, faulted_counted, redelivered_counted}
use Rattle.coherence_frame.proofs.Simulating.{stays, writes}
use Rattle.tw_base.specs.declared.entry.Act.TheVariants as act
use Rattle.mini_asm.specs.declared.cpu.Next.TheVariants as next
use Rattle.dsm_runs.specs.declared.mode.Mode.TheVariants as mode

-- ---- addresses

pub block_within : (s : Setup) (address : ℕ) → IsSetup s → address < size_of s → block_of s address < s.shape.blocks
block_within s address is lt = div_below address s.shape.words s.shape.blocks is.limits.some_word
    (subst (λ k. address < k) (mul_comm s.shape.words s.shape.blocks) lt)

pub refused_block : (s : Setup) (n : Needs) (store : Bool) (b : ℕ) (tag : Tag) → IsSetup s → AsksWell (size_of s) n →
    IsRefused s n store b tag → b < s.shape.blocks
refused_block s (next.Access true address value) store b tag is well h =
    subst (λ k. k < s.shape.blocks) (sym h.1) (block_within s address is well)
refused_block s (next.Access false address value) store b tag is well h =
    subst (λ k. k < s.shape.blocks) (sym h.1) (block_within s address is well.0)
refused_block s (next.Faa address added) store b tag is well h =
    subst (λ k. k < s.shape.blocks) (sym h.1) (block_within s address is well)
refused_block s (next.Trap why) store b tag is well h = absurd h
refused_block s next.Halt store b tag is well h = absurd h
refused_block s (next.Print value) store b tag is well h = absurd h
refused_block s next.Step store b tag is well h = absurd h

stores_load : (t : Tag) → permits t true ≡ true → permits t false ≡ true
stores_load ReadWrite h = refl
stores_load ReadOnly h = refl
stores_load Invalid h = absurd cc

some_same : (x y : Message) → Some x ≡ Some y → x ≡ y
some_same x y e = cc

module _ (scheme : Scheme) where
  -- ---- what is seen model.wording of a step

  -- a step and the sketch's count the same
  pub record Counts (s : Setup) (g : World) (e : Entry) (h : World) (deed : Deed)
      (step : Step scheme.table (layout s) (seen scheme.wording s g) deed (seen scheme.wording s h)) : Type 0 where
    pub handlers : handlers_of deed ≡ is_handler_event e.act
    pub faults : faults_of deed ≡ is_fault_event e.act
    pub sends : sends_of (plan_of scheme) (layout s) (seen scheme.wording s g) deed (seen scheme.wording s h) step ≡ e.sends

  -- the step of the sketch; its node has not failed and its blocks are whole; what was read was due, and the words written
  -- in the flat memory are those of the sketch
  pub record IsSeen (s : Setup) (m : Machine) (g : World) (e : Entry) (h : World) : Type 0 where
    pub deed : Deed
    pub step : Step scheme.table (layout s) (seen scheme.wording s g) deed (seen scheme.wording s h)
    pub counts : Counts s g e h deed step
    pub unfailed : (h.locals e.node).failed ≡ None
    pub placed : (b : ℕ) → b < s.shape.blocks → scheme.wording.IsPlaced ((h.locals e.node).blocks b)
    pub due : IsDue e.act m.words
    pub words : (b : ℕ) → b < s.shape.blocks → flat_after deed (block_slice s.shape.words m.words) b
        ≡ block_slice s.shape.words (words_after e.act m.words) b

  module _ (s : Setup) (setup : IsSetup s) (g : World) (m : Machine) (state : IsRunState s g)
      (coherent : IsCoherent scheme.wording s g)
      (k : Coherent scheme.wording.standing (layout s) (block_slice s.shape.words m.words) (seen scheme.wording s g))
      (e : Entry) (h : World) (r : Stepping s g e h) (after : IsRunState s h) where
    tree_is : IsTreeOf scheme.wording s.protocol
    tree_is = (coherent 0 setup.limits.some_block First).stache

    li : e.node < s.shape.nodes
    li = r.local.at_node

    was : (b : ℕ) → b < s.shape.blocks → scheme.wording.IsPlaced ((g.locals e.node).blocks b)
    was b lb = (coherent b lb Second).placed e.node li

    was_unfailed : (g.locals e.node).failed ≡ None
    was_unfailed = (coherent 0 setup.limits.some_block First).unfailed e.node li

    -- ---- a message is handled

    -- the node's mode and its deferred messages are then these
    row : (stamp : ℕ) (x : Message) (md : Mode) (ds : List Waiting) (left : Option After) →
        Handling s e.node stamp x (record (g.locals e.node) { mode = md; deferred = ds }) (h.locals e.node) r.sends left
        → x.block < s.shape.blocks → IsComing scheme.wording.tree x ((g.locals e.node).blocks x.block)
        → IsAnswered (scheme.table s.shape.nodes (home_of s x.block) e.node
        (((seen scheme.wording s g).locals e.node).blocks x.block) (seen_message x))
        → Answered scheme s e.node x (record (g.locals e.node) { mode = md; deferred = ds }) (h.locals e.node) r.sends
    row stamp x md ds left d lb come some =
        answered scheme s setup tree_is e.node stamp x (record (g.locals e.node) { mode = md; deferred = ds })
        (h.locals e.node) r.sends left d ((state.nodes e.node).blocks x.block lb) (was x.block lb)
        (fits_at scheme s g e.node x.block li (coherent x.block lb)) come
        (on_channels scheme s.protocol e.node x.block stamp d.ended.sends tree_is
        (subst (λ (ms : List Message). Each (λ y. is_known s.protocol y.kind ≡ true) ms) d.outs
        (sent_known s g e h after r)))
        some

    turned : (stamp : ℕ) (x : Message) (md : Mode) (ds : List Waiting) (left : Option After) →
        Handling s e.node stamp x (record (g.locals e.node) { mode = md; deferred = ds }) (h.locals e.node) r.sends left
        → Answered scheme s e.node x (record (g.locals e.node) { mode = md; deferred = ds }) (h.locals e.node) r.sends
        → (deed : Deed) → handlers_of deed ≡ is_handler_event e.act → faults_of deed ≡ is_fault_event e.act
        → (st : Step scheme.table (layout s) (seen scheme.wording s g) deed (seen scheme.wording s h))
        × (sends_of (plan_of scheme) (layout s) (seen scheme.wording s g) deed (seen scheme.wording s h) st
        ≡ length r.sends) → ((b : ℕ) → flat_after deed (block_slice s.shape.words m.words) b
        ≡ block_slice s.shape.words m.words b)
        → IsDue e.act m.words → words_after e.act m.words ≡ m.words → IsSeen s m g e h
    turned stamp x md ds left d a deed handlers faults step same due unchanged = record {
      deed = deed;
      step = step.0;
      counts = record { handlers = handlers; faults = faults; sends = step.1 ∙ sym r.local.count };
      unfailed = a.turn.failed;
      placed = λ b lb. placed_handled scheme s e.node stamp x (record (g.locals e.node) { mode = md; deferred = ds })
          (h.locals e.node) r.sends left d a b (was b lb);
      due = due;
      words = λ b lb. same b ∙ ap (λ ws. block_slice s.shape.words ws b) (sym unchanged);
    }

    delivered_seen : (kind : Kind) (block from : ℕ) (c : Chan) (number : ℕ) → e.act ≡ act.Delivered kind block from c number →
        IsSeen s m g e h
    delivered_seen kind block from c number is =
        turned e.stamp d.message (g.locals e.node).mode (g.locals e.node).deferred e.after d.handles a (DDeliver e.node from c)
        (rw is refl) (rw is refl)
        (delivered_counted scheme s g e h r kind block from c number is
        (λ y q. subst (λ (z : Message). z.block < s.shape.blocks) (some_same d.message y (sym d.is_front ∙ q)) lb)
        (λ y q. subst (λ (z : Message). Answered scheme s e.node z (g.locals e.node) (h.locals e.node) r.sends)
        (some_same d.message y (sym d.is_front ∙ q)) a))
        (λ b. refl) (rw is tt) (rw is refl)
      where
        both : (d : Delivering s e.node (g.locals e.node) r.front (h.locals e.node) e r.sends kind block from number)
            × TakesFront g from e.node c d.message r.between
        both = delivery s g e h kind block from c number r is

        d : Delivering s e.node (g.locals e.node) r.front (h.locals e.node) e r.sends kind block from number
        d = both.0

        way : IsOnTheWay s from e.node d.message
        way = (subst (λ (ms : List Message). Each (IsOnTheWay s from e.node) ms) both.1.front (state.wires from e.node c)).0

        lb : d.message.block < s.shape.blocks
        lb = way.block

        few : d.message.from < 8
        few = let some : from < s.shape.nodes = d.from_node in let most : s.shape.nodes ≤ 8 =
            setup.limits.nodes in omega (arith, way.from, some, most)

        come : IsComing scheme.wording.tree d.message ((g.locals e.node).blocks d.message.block)
        come = message_coming scheme s.protocol s.shape.words d.message _ tree_is way.is_message
            (λ f. absurd (apart (is_fault d.message.kind) way.named f)) few
            (sym ((state.nodes e.node).blocks d.message.block lb).block)
          where
            apart : (b : Bool) → b ≡ false → b ≡ true → ⊥
            apart b p q = cc

        a : Answered scheme s e.node d.message (g.locals e.node) (h.locals e.node) r.sends
        a = row e.stamp d.message (g.locals e.node).mode (g.locals e.node).deferred e.after d.handles lb come
            (front_answered (plan_of scheme) (layout s) _ (seen scheme.wording s g) e.node from c (seen_message d.message)
            (map seen_message (r.between from e.node c)) k lb li d.from_node (ap (map seen_message) both.1.front))

    mid : (P : Waiting → Type 0) (xs : List Waiting) (y : Waiting) (ys : List Waiting) → Each P (xs ++ y ∷ ys) → P y
    mid P [] y ys p = p.0
    mid P (x ∷ xs) y ys p = mid P xs y ys p.1

    abbrev Again : Kind → ℕ → ℕ → Type 0
    Again kind block from = Redelivering s e.node (g.locals e.node) r.front (h.locals e.node) e r.sends kind block from

    redelivered_seen : (kind : Kind) (block from : ℕ) → e.act ≡ act.Redelivered kind block from →
        Redelivering s e.node (g.locals e.node) r.front (h.locals e.node) e r.sends kind block from → IsSeen s m g e h
    redelivered_seen kind block from is d =
        turned e.stamp d.message (g.locals e.node).mode (d.earlier ++ d.later) e.after d.handles (a d) (DRedeliver e.node)
        (rw is refl) (rw is refl)
        (redelivered_counted scheme s g e h r kind block from is (λ x. (lb x, a x))) (λ b. refl) (rw is tt) (rw is refl)
      where
        at : (x : Again kind block from) → IsDeferredAt s e.node x.message
        at x = mid (λ w. IsDeferredAt s e.node w.message) x.earlier _ x.later
            (subst (λ (ws : List Waiting). Each (λ w. IsDeferredAt s e.node w.message) ws) x.takes.found
            (state.nodes e.node).deferred)

        lb : (x : Again kind block from) → x.message.block < s.shape.blocks
        lb x = (at x).block

        found : (x : Again kind block from) → ((seen scheme.wording s g).locals e.node).deferred ≡ map seen_waiting x.earlier
            ++ record { message = seen_message x.message; eligible = true } ∷ map seen_waiting x.later
        found x = ap (map seen_waiting) x.takes.found ∙ map-append seen_waiting x.earlier _

        few : (x : Again kind block from) → x.message.from < 8
        few x =
            let some : x.message.from < s.shape.nodes = deferred_from (layout s) (seen scheme.wording s g) e.node
            (seen_message x.message) _ _ (k.elsewhere x.message.block (lb x)) li (found x) in
            let most : s.shape.nodes ≤ 8 = setup.limits.nodes in omega (arith, some, most)

        come : (x : Again kind block from) → IsComing scheme.wording.tree x.message ((g.locals e.node).blocks x.message.block)
        come x =
            let place = (state.nodes e.node).blocks x.message.block (lb x) in
            message_coming scheme s.protocol s.shape.words x.message _ tree_is (at x).is_message
            (λ f. (at x).own f ∙ sym place.me) (few x) (sym place.block)

        a : (x : Again kind block from) → Answered scheme s e.node x.message
            (record (g.locals e.node) { deferred = x.earlier ++ x.later }) (h.locals e.node) r.sends
        a x = row e.stamp x.message (g.locals e.node).mode (x.earlier ++ x.later) e.after x.handles (lb x) (come x)
            (deferred_answered (plan_of scheme) (layout s) _ (seen scheme.wording s g) e.node (seen_message x.message) _ _ k
            (lb x) li (found x))

    fault_comes : (store : Bool) (b i : ℕ) (here : Place) → here.me ≡ i → here.block ≡ b →
        IsComing scheme.wording.tree (fault_there store b i) here
    fault_comes true b i here p q = record { known = refl; kind = refl; block = sym q; from = sym p; carried = refl }
    fault_comes false b i here p q = record { known = refl; kind = refl; block = sym q; from = sym p; carried = refl }

    fault_is : (store : Bool) (b i : ℕ) → fault store b i ≡ seen_message (fault_there store b i)
    fault_is true b i = refl
    fault_is false b i = refl

    refused_tag : (n : Needs) (store : Bool) (b : ℕ) (tag : Tag) → IsRefused s n store b tag → permits tag store ≡ false
    refused_tag (next.Access stores address value) store b tag q = ap (permits tag) q.0 ∙ q.2
    refused_tag (next.Faa address added) store b tag q = ap (permits tag) q.0 ∙ q.2
    refused_tag (next.Trap why) store b tag q = absurd q
    refused_tag next.Halt store b tag q = absurd q
    refused_tag (next.Print value) store b tag q = absurd q
    refused_tag next.Step store b tag q = absurd q

    faulted_seen : (store : Bool) (b : ℕ) → e.act ≡ act.Fault store b →
        Faulting s e.node (g.locals e.node) r.front (h.locals e.node) e r.sends store b → IsSeen s m g e h
    faulted_seen store b is d =
        turned e.stamp (fault_there store b e.node) (mode.Blocked b) (g.locals e.node).deferred e.after d.handles a
        (DFault e.node store b) (rw is refl) (rw is refl)
        (faulted_counted scheme s g e h r store b is lb a) (λ x. refl) (rw is tt) (rw is refl)
      where
        lb : b < s.shape.blocks
        lb = refused_block s (asked s e.node (g.locals e.node).cpu) store b _ setup
            (asked_well s e.node (g.locals e.node).cpu _ refl) d.refused

        a : Answered scheme s e.node (fault_there store b e.node) (record (g.locals e.node) { mode = mode.Blocked b })
            (h.locals e.node) r.sends
        a = row e.stamp (fault_there store b e.node) (mode.Blocked b) (g.locals e.node).deferred e.after d.handles lb
            (fault_comes store b e.node _ ((state.nodes e.node).blocks b lb).me ((state.nodes e.node).blocks b lb).block)
            (subst (λ x. IsAnswered (scheme.table s.shape.nodes (home_of s b) e.node
            (((seen scheme.wording s g).locals e.node).blocks b) x)) (fault_is store b e.node)
            (fault_answered (plan_of scheme) (layout s) _ (seen scheme.wording s g) e.node b store k lb li
            d.instructs.may.ready (refused_tag (asked s e.node (g.locals e.node).cpu) store b _ d.refused)))

    -- ---- an instruction completes model

    stays_seen : (n : Needs) (cpu : Cpu) (md : Mode) → ((f : ℕ) (c : Chan) → takes_from e.act f c ≡ false) → IsPlain md →
        Completing s e.node (g.locals e.node) r.front (h.locals e.node) e r.sends n cpu md
        → 0 ≡ is_handler_event e.act → 0 ≡ is_fault_event e.act → SameBlocks (g.locals e.node) (h.locals e.node) →
        IsDue e.act m.words → words_after e.act m.words ≡ m.words → IsSeen s m g e h
    stays_seen n cpu md none plain c handlers faults same due unchanged = record {
      deed = DStay e.node;
      step = stays scheme s g e h r (completes scheme s g e h r n cpu md none plain c) same;
      counts = record { handlers = handlers; faults = faults; sends = sym (r.local.count ∙ ap length c.sends_nothing) };
      unfailed = c.failed ∙ was_unfailed;
      placed = λ b lb. subst (λ (x : Place). scheme.wording.IsPlaced x) (sym (same b)) (was b lb);
      due = due;
      words = λ b lb. ap (λ ws. block_slice s.shape.words ws b) (sym unchanged);
    }

    -- what the tag lets the node read
    words_now : (address : ℕ) → address < size_of s → permits (tag_here s (g.locals e.node).blocks address) false ≡ true →
        ((g.locals e.node).blocks (block_of s address)).words ≡ block_slice s.shape.words m.words (block_of s address)
    words_now address lt may = read_is_current (plan_of scheme) (layout s) (block_slice s.shape.words m.words)
        (seen scheme.wording s g) e.node (block_of s address) li (block_within s address setup lt) k may

    read_due : (address value : ℕ) → address < size_of s → permits (tag_here s (g.locals e.node).blocks address) false ≡ true →
        value ≡ word_here s (g.locals e.node).blocks address → value ≡ slice_index m.words address
    read_due address value lt may reads =
        reads ∙ ap (λ ws. slice_index ws (offset_of s address)) (words_now address lt may)
        ∙ slice_word s.shape.words address m.words setup.limits.some_word

    abbrev left_words : ℕ → List ℕ
    left_words address = ((h.locals e.node).blocks (block_of s address)).words

    stores_seen : (n : Needs) (cpu : Cpu) (address value : ℕ) → ((f : ℕ) (c : Chan) → takes_from e.act f c ≡ false) →
        address < size_of s → Completing s e.node (g.locals e.node) r.front (h.locals e.node) e r.sends n cpu mode.Running
        → 0 ≡ is_handler_event e.act → 0 ≡ is_fault_event e.act → Storing s (g.locals e.node) (h.locals e.node) address value →
        IsDue e.act m.words → words_after e.act m.words ≡ slice_set m.words address value → IsSeen s m g e h
    stores_seen n cpu address value none lt c handlers faults st due wrote = record {
      deed = DWrite e.node (block_of s address) (left_words address);
      step = writes scheme s g e h r address value (completes scheme s g e h r n cpu mode.Running none tt c)
          (block_within s address setup lt) st;
      counts = record { handlers = handlers; faults = faults; sends = sym (r.local.count ∙ ap length c.sends_nothing) };
      unfailed = c.failed ∙ was_unfailed;
      placed = placed_stored scheme s (g.locals e.node) (h.locals e.node) address value st was;
      due = due;
      words = λ b lb. stored b ∙ ap (λ all. block_slice s.shape.words all b) (sym wrote);
    }
      where
        here : left_words address ≡ block_slice s.shape.words (slice_set m.words address value) (block_of s address)
        here = ap (λ (x : Place). x.words) st.block ∙ ap (λ old. slice_set old (offset_of s address) value)
            (words_now address lt (stores_load _ st.allowed))
            ∙ sym (slice_written s.shape.words address value m.words setup.limits.some_word)

        stored : (b : ℕ) → flat_after (DWrite e.node (block_of s address) (left_words address))
            (block_slice s.shape.words m.words) b ≡ block_slice s.shape.words (slice_set m.words address value) b
        stored b = elim (cases_eq b (block_of s address)) [
          | inl q ↦ subst (λ x. flat_after (DWrite e.node (block_of s address) (left_words address))
              (block_slice s.shape.words m.words) x ≡ block_slice s.shape.words (slice_set m.words address value) x) (sym q)
              (written e.node (block_of s address) (left_words address) (block_slice s.shape.words m.words) ∙ here)
          | inr d ↦ unwritten e.node (block_of s address) (left_words address) (block_slice s.shape.words m.words) b d
              ∙ sym (slice_unwritten s.shape.words address value b m.words setup.limits.some_word d)
        ]

    by_act : (a : Act) → e.act ≡ a → Acts s e.node (g.locals e.node) r.front (h.locals e.node) e r.sends a → IsSeen s m g e h
    by_act (act.Load address value) is d =
        let lt : address < size_of s = (asked_well s e.node (g.locals e.node).cpu _ d.0.needed).0 in
        stays_seen _ _ _ (λ f c. rw is refl) tt d.0 (rw is refl) (rw is refl) d.1.blocks
        (rw is (read_due address value lt d.1.allowed d.1.reads)) (rw is refl)
    by_act (act.Store address value) is d =
        let lt : address < size_of s = asked_well s e.node (g.locals e.node).cpu _ d.0.needed in
        stores_seen _ _ address value (λ f c. rw is refl) lt d.0 (rw is refl) (rw is refl) d.1 (rw is tt) (rw is refl)
    by_act (act.Faa address value sum) is d =
        let lt : address < size_of s = asked_well s e.node (g.locals e.node).cpu _ d.0.needed in
        stores_seen _ _ address sum (λ f c. rw is refl) lt d.0 (rw is refl) (rw is refl) d.1.stores
        (rw is (read_due address value lt (stores_load _ d.1.stores.allowed) d.1.reads)) (rw is refl)
    by_act (act.Print value) is d = stays_seen _ _ _ (λ f c. rw is refl) tt d.0 (rw is refl) (rw is refl) d.1 (rw is tt)
        (rw is refl)
    by_act act.Halt is d = stays_seen _ _ _ (λ f c. rw is refl) tt d.0 (rw is refl) (rw is refl) d.1 (rw is tt) (rw is refl)
    by_act (act.Trapped why) is d = stays_seen _ _ _ (λ f c. rw is refl) tt d.0 (rw is refl) (rw is refl) d.1 (rw is tt)
        (rw is refl)
    by_act act.Step is d = stays_seen _ _ _ (λ f c. rw is refl) tt d.0 (rw is refl) (rw is refl) d.1 (rw is tt) (rw is refl)
    by_act (act.Fault store b) is d = faulted_seen store b is d
    by_act (act.Redelivered kind block from) is d = redelivered_seen kind block from is d
    by_act (act.Delivered kind block from c number) is d = delivered_seen kind block from c number is

    pub step_seen : IsSeen s m g e h
    step_seen = by_act e.act refl r.local.acts
