-- A step of the model, seen in the sketch, is a step of the sketch.
use Rattle.std.proofs.Common.{Bool, true, false, not, ◌≡◌, ◌&&◌, ℕ, ◌<◌, nat_lt, length, List, [], ◌∷◌, ◌++◌, map, Option, Some}
use Rattle.std.proofs.Common.{None, arith, refl, sym, ap, subst, ◌∙◌}
use Rattle.std.specs.Prelude.{is_some}
use Rattle.std.specs.List.{filter}
use Rattle.std.proofs.lemmas.Bool.{ltb-true}
use Rattle.std.proofs.lemmas.Bool.Decides.{Decides-ltb}
use Rattle.std.proofs.lemmas.List.{append-nil, length-map, map-append}
use Rattle.tw_base.specs.Lists.{Each}
use Rattle.tw_base.specs.Shape.{handler_budget_of}
use Rattle.tw_base.specs.declared.entry.Act.{Act}
use Rattle.tw_base.specs.declared.entry.After.{After}
use Rattle.tw_base.specs.declared.entry.End.{End}
use Rattle.tw_base.specs.declared.entry.Entry.{Entry}
use Rattle.tw_base.specs.declared.message.Chan.{Chan}
use Rattle.tw_base.specs.declared.message.Kind.{Kind}
use Rattle.tw_base.specs.declared.message.Message.{Message}
use Rattle.tw_base.specs.declared.value.Tag.{Tag}
use Rattle.block_tags.specs.Copies.{permits}
use Rattle.mini_asm.specs.declared.cpu.Cpu.{Cpu}
use Rattle.mini_asm.specs.declared.cpu.Next.{Next as Needs}
use Rattle.dsm_runs.specs.declared.mode.Mode.{Mode}
use Rattle.dsm_runs.specs.declared.mode.Waiting.{Waiting}
use Rattle.dsm_runs.specs.Events.{Acts, Completes as Completing, CountsHandler, Delivers as Delivering, Faults as Faulting}
use Rattle.dsm_runs.specs.Events.{Handles as Handling, IsRefused, Redelivers as Redelivering, SameBlocks, Stores as Storing}
use Rattle.dsm_runs.specs.Locals.{IsHeld, IsReady, Local, MayInstruct, last_stamp}
use Rattle.dsm_runs.specs.Messages.{fault as fault_there, posted}
use Rattle.dsm_runs.specs.Setups.{Setup, asked, block_of, home_of}
use Rattle.dsm_runs.specs.Worlds.{Step as Stepping, World, takes_from}
use Rattle.dsm_runs.proofs.Facts.{TakesFront, delivery, untaken}
use Rattle.dsm_runs.proofs.Stamps.{latest_more}
use Rattle.dsm_runs.proofs.Lists.{and_left, and_right}
use Rattle.block_spots.specs.Cases.{Effect}
use Rattle.block_spots.specs.Sketches.{Completes, DDeliver, DFault, DRedeliver, DStay, DWrite, Handles, IsPlain, OnlyAt, Step}
use Rattle.block_spots.specs.Sketches.{Wires, fault, needs, on_wire}
use Rattle.block_spots.specs.Views.{layout, seen_here, seen_local, seen_may, seen_message, seen_next, seen_waiting, sketch}
use Rattle.coherence_frame.proofs.Deeds.{sends_of}
use Rattle.coherence_frame.proofs.Posting.{posted_seen}
use Rattle.coherence_frame.proofs.Seeing.{HandledAs}
use Rattle.coherence_frame.proofs.Scheme.{Scheme, plan_of}
use Rattle.tw_base.specs.declared.entry.Act.TheVariants as act
use Rattle.mini_asm.specs.declared.cpu.Next.TheVariants as next
use Rattle.dsm_runs.specs.declared.mode.Mode.TheVariants as mode

-- ---- what an instruction event needs but the mode

none_is : (o : Option End) → not (is_some o) ≡ true → o ≡ None
none_is None e = refl
none_is (Some x) e = absurd cc

pub may_is : (s : Setup) (l : Local) → seen_may s l ≡ true → IsReady l.mode → MayInstruct s l
may_is s l e ready =
    let rest :
    (nat_lt l.instructions s.shape.budget && (nat_lt l.sent (handler_budget_of s.shape) && nat_lt l.clock last_stamp))
    ≡ true = and_right (not (is_some l.failed)) _ e in
    let more : (nat_lt l.sent (handler_budget_of s.shape) && nat_lt l.clock last_stamp) ≡ true =
    and_right (nat_lt l.instructions s.shape.budget) _ rest in
    record {
      unfailed = none_is l.failed (and_left (not (is_some l.failed)) _ e);
      ready = ready;
      instructions = ltb-true l.instructions s.shape.budget (and_left (nat_lt l.instructions s.shape.budget) _ rest);
      sent = ltb-true l.sent (handler_budget_of s.shape) (and_left (nat_lt l.sent (handler_budget_of s.shape)) _ more);
      clock = ltb-true l.clock last_stamp (and_right (nat_lt l.sent (handler_budget_of s.shape)) _ more);
    }

pub is_may : (s : Setup) (l : Local) → MayInstruct s l → seen_may s l ≡ true
is_may s l m = rw (
  m.unfailed,
  (Decides-ltb l.instructions s.shape.budget).1 m.instructions,
  (Decides-ltb l.sent (handler_budget_of s.shape)).1 m.sent,
  (Decides-ltb l.clock last_stamp).1 m.clock,
) refl

not_held : (s : Setup) (l : Local) → ¬ IsHeld s l → l.mode ≡ mode.Woken → seen_may s l ≡ false
not_held s l free woken = go (seen_may s l) refl
  where
    go : (b : Bool) → seen_may s l ≡ b → seen_may s l ≡ false
    go false e = e
    go true e = absurd (free (record { woken = woken; may = may_is s l e (rw woken tt) }))

module _ (scheme : Scheme) where
  -- ---- a row

  -- the message is handled by a row of the table
  pub record Answered (s : Setup) (i : ℕ) (m : Message) (l l2 : Local) (sends : List Message) : Type 0 where
    pub effect : Effect
    pub row : scheme.table s.shape.nodes (home_of s m.block) i (seen_here scheme.wording.reads (l.blocks m.block))
        (seen_message m) ≡ Some effect
    pub turn : HandledAs scheme m l l2 sends effect

  handles : (s : Setup) (i stamp : ℕ) (m : Message) (l l2 : Local) (sends : List Message) (after : Option After)
      (w w2 : Wires) → Handling s i stamp m l l2 sends after → Answered s i m l l2 sends
      → (seen_may s l ≡ false → seen_may s l2 ≡ false) → ((f t : ℕ) (c : Chan) →
      w2 f t c ≡ w f t c ++ filter (on_wire f t c) (map seen_message sends))
      → Handles scheme.table s.shape.nodes (home_of s m.block) i (seen_message m) (seen_local scheme.wording.reads s i l) w
      (seen_local scheme.wording.reads s i l2) w2
  handles s i stamp m l l2 sends after w w2 h a may wires = record {
    effect = a.effect;
    does = a.row;
    here = a.turn.here;
    others = λ b d. ap (seen_here scheme.wording.reads) (h.others b d);
    mode = a.turn.mode;
    next = ap (λ c. seen_next s (asked s i c)) h.cpu;
    may = may;
    deferred = a.turn.deferred;
    wires = λ f t c. wires f t c ∙ ap (λ ms. w f t c ++ filter (on_wire f t c) ms) a.turn.outs;
  }

  -- and it sends as many messages
  handles_counted : (s : Setup) (i stamp : ℕ) (m : Message) (l l2 : Local) (sends : List Message) (after : Option After)
      (w w2 : Wires) → Handling s i stamp m l l2 sends after → Answered s i m l l2 sends
      → (seen_may s l ≡ false → seen_may s l2 ≡ false) → ((f t : ℕ) (c : Chan) →
      w2 f t c ≡ w f t c ++ filter (on_wire f t c) (map seen_message sends))
      → (o : Handles scheme.table s.shape.nodes (home_of s m.block) i (seen_message m)
      (seen_local scheme.wording.reads s i l) w (seen_local scheme.wording.reads s i l2) w2)
      × (length o.effect.sends ≡ length sends)
  unfolding handles
  handles_counted s i stamp m l l2 sends after w w2 h a may wires =
      (handles s i stamp m l l2 sends after w w2 h a may wires, ap length (sym a.turn.outs) ∙ length-map sends seen_message)

  -- ---- a step

  module _ (s : Setup) (g : World) (e : Entry) (g2 : World) (r : Stepping s g e g2) where
    abbrev between_seen : Wires
    between_seen f t c = map seen_message (r.between f t c)

    only_at : OnlyAt e.node (sketch scheme.wording.reads s g) (sketch scheme.wording.reads s g2)
    only_at k d = ap (seen_local scheme.wording.reads s k) (r.others k d)

    wires_after : (f t : ℕ) (c : Chan) → (sketch scheme.wording.reads s g2).wires f t c ≡ between_seen f t c
        ++ filter (on_wire f t c) (map seen_message r.sends)
    wires_after f t c = ap (map seen_message) (r.wires f t c)
        ∙ map-append seen_message (r.between f t c) (posted (g.next f t c) f t c r.sends)
        ∙ ap (λ ms. between_seen f t c ++ ms) (posted_seen (g.next f t c) f t c r.sends)

    -- an event that takes nothing off the wires
    untaken_seen : ((f : ℕ) (c : Chan) → takes_from e.act f c ≡ false) → (f t : ℕ) (c : Chan) →
        (sketch scheme.wording.reads s g2).wires f t c ≡ (sketch scheme.wording.reads s g).wires f t c
        ++ filter (on_wire f t c) (map seen_message r.sends)
    untaken_seen none f t c = wires_after f t c ∙ ap (λ ms. map seen_message ms
        ++ filter (on_wire f t c) (map seen_message r.sends)) (sym (untaken s g e g2 r none f t c))

    -- budgets, stamps and failures do not come back
    may_falls : CountsHandler s (g.locals e.node) (g2.locals e.node) → seen_may s (g.locals e.node) ≡ false →
        seen_may s (g2.locals e.node) ≡ false
    may_falls counts was = go (seen_may s (g2.locals e.node)) refl
      where
        before : MayInstruct s (record (g2.locals e.node) { mode = mode.Running }) →
            MayInstruct s (record (g.locals e.node) { mode = mode.Running })
        before may = record {
          unfailed = counts.may.unfailed;
          ready = tt;
          instructions = omega (arith, counts.instructions, may.instructions);
          sent = omega (arith, r.local.sent, may.sent);
          clock = omega (arith, r.local.clock, r.local.stamp, latest_more (g.locals e.node).clock r.front, may.clock);
        }

        go : (b : Bool) → seen_may s (g2.locals e.node) ≡ b → seen_may s (g2.locals e.node) ≡ false
        go false q = q
        go true q = absurd (let z : seen_may s (g.locals e.node)
            ≡ true = is_may s (record (g.locals e.node) { mode = mode.Running })
            (before (may_is s (record (g2.locals e.node) { mode = mode.Running }) q tt)) in let y : true ≡ false = sym z
            ∙ was in cc)

    pub delivered_counted : (kind : Kind) (block from : ℕ) (c : Chan) (number : ℕ) →
        e.act ≡ act.Delivered kind block from c number
        → ((m : Message) → r.front ≡ Some m → m.block < s.shape.blocks)
        → ((m : Message) → r.front ≡ Some m → Answered s e.node m (g.locals e.node) (g2.locals e.node) r.sends)
        → (st : Step scheme.table (layout s) (sketch scheme.wording.reads s g) (DDeliver e.node from c)
        (sketch scheme.wording.reads s g2))
        × (sends_of (plan_of scheme) (layout s) (sketch scheme.wording.reads s g) (DDeliver e.node from c)
        (sketch scheme.wording.reads s g2) st ≡ length r.sends)
    delivered_counted kind block from c number is within answered =
        let both : (d : Delivering s e.node (g.locals e.node) r.front (g2.locals e.node) e r.sends kind block from number)
        × TakesFront g from e.node c d.message r.between = delivery s g e g2 kind block from c number r is in
        let h : (o : Handles scheme.table s.shape.nodes (home_of s both.0.message.block) e.node (seen_message both.0.message)
        (seen_local scheme.wording.reads s e.node (g.locals e.node)) between_seen
        (seen_local scheme.wording.reads s e.node (g2.locals e.node)) (sketch scheme.wording.reads s g2).wires)
        × (length o.effect.sends ≡ length r.sends) = handles_counted s e.node e.stamp both.0.message (g.locals e.node)
        (g2.locals e.node) r.sends e.after between_seen (sketch scheme.wording.reads s g2).wires both.0.handles
        (answered both.0.message both.0.is_front) (may_falls both.0.counts) wires_after in (
          record {
            at_node = r.local.at_node;
            from_node = both.0.from_node;
            free = not_held s (g.locals e.node) both.0.counts.may.free;
            message = seen_message both.0.message;
            in_shape = within both.0.message both.0.is_front;
            between = between_seen;
            takes = record {
              front = ap (map seen_message) both.1.front;
              others = λ f t c2 away. ap (map seen_message) (sym (both.1.others f t c2 away));
            };
            handles = h.0;
            others = only_at;
          },
          h.1,
        )

    pub redelivered_counted : (kind : Kind) (block from : ℕ) → e.act ≡ act.Redelivered kind block from
        → ((d : Redelivering s e.node (g.locals e.node) r.front (g2.locals e.node) e r.sends kind block from) →
        (d.message.block < s.shape.blocks) × Answered s e.node d.message
        (record (g.locals e.node) { deferred = d.earlier ++ d.later }) (g2.locals e.node) r.sends)
        → (st : Step scheme.table (layout s) (sketch scheme.wording.reads s g) (DRedeliver e.node)
        (sketch scheme.wording.reads s g2))
        × (sends_of (plan_of scheme) (layout s) (sketch scheme.wording.reads s g) (DRedeliver e.node)
        (sketch scheme.wording.reads s g2) st ≡ length r.sends)
    redelivered_counted kind block from is answered =
        let d : Redelivering s e.node (g.locals e.node) r.front (g2.locals e.node) e r.sends kind block from =
        subst (λ (a : Act). Acts s e.node (g.locals e.node) r.front (g2.locals e.node) e r.sends a) is r.local.acts in
        let h = handles_counted s e.node e.stamp d.message (record (g.locals e.node) { deferred = d.earlier ++ d.later })
        (g2.locals e.node) r.sends e.after (sketch scheme.wording.reads s g).wires
        (sketch scheme.wording.reads s g2).wires d.handles (answered d).1 (may_falls d.counts)
        (untaken_seen (λ f c. rw is refl)) in
        let hs : (o : Handles scheme.table s.shape.nodes (home_of s d.message.block) e.node (seen_message d.message)
        (record (seen_local scheme.wording.reads s e.node (g.locals e.node))
        { deferred = map seen_waiting d.earlier ++ map seen_waiting d.later }) (sketch scheme.wording.reads s g).wires
        (seen_local scheme.wording.reads s e.node (g2.locals e.node)) (sketch scheme.wording.reads s g2).wires)
        × (length o.effect.sends ≡ length r.sends) = subst
        (λ ws. (o : Handles scheme.table s.shape.nodes (home_of s d.message.block) e.node (seen_message d.message)
        (record (seen_local scheme.wording.reads s e.node (g.locals e.node)) { deferred = ws })
        (sketch scheme.wording.reads s g).wires (seen_local scheme.wording.reads s e.node (g2.locals e.node))
        (sketch scheme.wording.reads s g2).wires) × (length o.effect.sends ≡ length r.sends))
        (map-append seen_waiting d.earlier d.later) h in (
          record {
            at_node = r.local.at_node;
            free = not_held s (g.locals e.node) d.counts.may.free;
            message = seen_message d.message;
            in_shape = (answered d).0;
            earlier = map seen_waiting d.earlier;
            later = map seen_waiting d.later;
            found = ap (map seen_waiting) d.takes.found ∙ map-append seen_waiting d.earlier _;
            stale = stale d.earlier d.takes.stale;
            handles = hs.0;
            others = only_at;
          },
          hs.1,
        )
      where
        stale : (ws : List Waiting) → Each (λ w. w.eligible ≡ false) ws → Each (λ w. w.eligible ≡ false) (map seen_waiting ws)
        stale [] h = tt
        stale (w ∷ ws) h = (h.0, stale ws h.1)

    -- the access that a refused instruction needs
    refused_needs : (n : Needs) (store : Bool) (b : ℕ) (tag : Tag) → IsRefused s n store b tag →
        (seen_next s n ≡ needs store b) × (permits tag store ≡ false)
    refused_needs (next.Access stores address value) store b tag h = rw (h.0, h.1) (refl, h.2)
    refused_needs (next.Faa address added) store b tag h = rw (h.0, h.1) (refl, h.2)
    refused_needs (next.Trap why) store b tag h = absurd h
    refused_needs next.Halt store b tag h = absurd h
    refused_needs (next.Print value) store b tag h = absurd h
    refused_needs next.Step store b tag h = absurd h

    fault_seen : (store : Bool) (b i : ℕ) → seen_message (fault_there store b i) ≡ fault store b i
    fault_seen true b i = refl
    fault_seen false b i = refl

    pub faulted_counted : (store : Bool) (b : ℕ) → e.act ≡ act.Fault store b → b < s.shape.blocks
        → Answered s e.node (fault_there store b e.node) (record (g.locals e.node) { mode = mode.Blocked b })
        (g2.locals e.node) r.sends
        → (st : Step scheme.table (layout s) (sketch scheme.wording.reads s g) (DFault e.node store b)
        (sketch scheme.wording.reads s g2))
        × (sends_of (plan_of scheme) (layout s) (sketch scheme.wording.reads s g) (DFault e.node store b)
        (sketch scheme.wording.reads s g2) st ≡ length r.sends)
    faulted_counted store b is within answered =
        let d : Faulting s e.node (g.locals e.node) r.front (g2.locals e.node) e r.sends store b =
        subst (λ (a : Act). Acts s e.node (g.locals e.node) r.front (g2.locals e.node) e r.sends a) is r.local.acts in
        let needed = refused_needs (asked s e.node (g.locals e.node).cpu) store b ((g.locals e.node).blocks b).tag d.refused in
        let never : seen_may s (g.locals e.node) ≡ false → seen_may s (g2.locals e.node) ≡ false =
        λ q. absurd (let z : true ≡ false = sym (is_may s (g.locals e.node) d.instructs.may) ∙ q in cc) in
        let hs : (o : Handles scheme.table s.shape.nodes (home_of s b) e.node (fault store b e.node)
        (seen_local scheme.wording.reads s e.node (record (g.locals e.node) { mode = mode.Blocked b }))
        (sketch scheme.wording.reads s g).wires (seen_local scheme.wording.reads s e.node (g2.locals e.node))
        (sketch scheme.wording.reads s g2).wires) × (length o.effect.sends ≡ length r.sends) = subst
        (λ m. (o : Handles scheme.table s.shape.nodes (home_of s b) e.node m
        (seen_local scheme.wording.reads s e.node (record (g.locals e.node) { mode = mode.Blocked b }))
        (sketch scheme.wording.reads s g).wires (seen_local scheme.wording.reads s e.node (g2.locals e.node))
        (sketch scheme.wording.reads s g2).wires) × (length o.effect.sends ≡ length r.sends)) (fault_seen store b e.node)
        (handles_counted s e.node e.stamp (fault_there store b e.node) (record (g.locals e.node) { mode = mode.Blocked b })
        (g2.locals e.node) r.sends e.after (sketch scheme.wording.reads s g).wires
        (sketch scheme.wording.reads s g2).wires d.handles answered never (untaken_seen (λ f c. rw is refl))) in (
          record {
            at_node = r.local.at_node;
            in_shape = within;
            ready = d.instructs.may.ready;
            needed = needed.0;
            refused = needed.1;
            handles = hs.0;
            others = only_at;
          },
          hs.1,
        )

    -- ---- instructions that complete

    pub completes : (n : Needs) (cpu : Cpu) (m : Mode) → ((f : ℕ) (c : Chan) → takes_from e.act f c ≡ false) → IsPlain m
        → Completing s e.node (g.locals e.node) r.front (g2.locals e.node) e r.sends n cpu m →
        Completes (layout s) (sketch scheme.wording.reads s g) e.node (sketch scheme.wording.reads s g2)
    completes n cpu m none plain c = record {
      at_node = r.local.at_node;
      ready = c.instructs.may.ready;
      mode = subst IsPlain (sym c.mode) plain;
      deferred = ap (map seen_waiting) c.deferred;
      wires = λ f t ch. untaken_seen none f t ch ∙ ap (λ ms. (sketch scheme.wording.reads s g).wires f t ch
          ++ filter (on_wire f t ch) (map seen_message ms)) c.sends_nothing ∙ append-nil _;
      others = only_at;
    }

    pub stays : Completes (layout s) (sketch scheme.wording.reads s g) e.node (sketch scheme.wording.reads s g2) →
        SameBlocks (g.locals e.node) (g2.locals e.node) → Step scheme.table (layout s) (sketch scheme.wording.reads s g)
        (DStay e.node) (sketch scheme.wording.reads s g2)
    stays c same = record { completes = c; blocks = λ b. ap (seen_here scheme.wording.reads) (same b) }

    pub writes : (address value : ℕ) → Completes (layout s) (sketch scheme.wording.reads s g) e.node
        (sketch scheme.wording.reads s g2) → block_of s address < s.shape.blocks →
        (st : Storing s (g.locals e.node) (g2.locals e.node) address value)
        → Step scheme.table (layout s) (sketch scheme.wording.reads s g)
        (DWrite e.node (block_of s address) ((g2.locals e.node).blocks (block_of s address)).words)
        (sketch scheme.wording.reads s g2)
    writes address value c within st = record {
      completes = c;
      in_shape = within;
      allowed = st.allowed;
      here = ap (seen_here scheme.wording.reads) st.block ∙ ap
          (λ ws. record (seen_here scheme.wording.reads ((g.locals e.node).blocks (block_of s address))) { words = ws })
          (sym (ap (λ h. h.words) st.block));
      blocks = λ b d. ap (seen_here scheme.wording.reads) (st.others b d);
    }
