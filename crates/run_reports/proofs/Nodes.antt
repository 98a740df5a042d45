-- What each node and each wire has in a run of numbers of 64 bits.
use Rattle.std.proofs.Common.{◌≡◌, ◌∙◌, ℕ, zero, suc, ◌+◌, ◌*◌, ◌^◌, ◌<◌, ◌≤◌, cond, Bool, true, false, List, [], ◌∷◌, ◌++◌}
use Rattle.std.proofs.Common.{Option, Some, None, length, map, refl, sym, ap, subst, inl, inr, arith}
use Rattle.std.specs.Prelude.{◌==◌, drop, nat_eq, take}
use Rattle.std.specs.List.{filter, range_with_len, slice_index_or}
use Rattle.std.proofs.lemmas.Bool.{cases_eq}
use Rattle.tw_base.specs.Lists.{Each}
use Rattle.tw_base.specs.declared.entry.Act.{Act}
use Rattle.tw_base.specs.declared.entry.Act.TheVariants as act
use Rattle.tw_base.specs.declared.entry.After.{After}
use Rattle.tw_base.specs.declared.entry.Entry.{Entry}
use Rattle.tw_base.specs.declared.message.Chan.{Chan}
use Rattle.tw_base.specs.declared.message.Message.{Message}
use Rattle.block_tags.specs.Copies.{init_value}
use Rattle.mini_asm.specs.declared.cpu.Cpu.{Cpu}
use Rattle.mini_asm.specs.declared.cpu.Next.{Next}
use Rattle.mini_asm.specs.declared.instr.Instr.{Instr}
use Rattle.teapot_tree.specs.declared.protocol.Protocol.{Protocol}
use Rattle.teapot_tree.specs.Rules.{IsAccepted}
use Rattle.teapot_meaning.specs.Does.{Does}
use Rattle.teapot_meaning.specs.Fits.{Fits, IsMessageOf}
use Rattle.teapot_meaning.specs.declared.state.Ended.{Ended}
use Rattle.teapot_meaning.specs.declared.state.Here.{Here}
use Rattle.teapot_meaning.specs.declared.state.Kept.{Kept}
use Rattle.teapot_meaning.specs.declared.state.Kept.TheVariants as kept
use Rattle.teapot_meaning.specs.declared.state.Out.{Out}
use Rattle.teapot_meaning.specs.declared.state.StateVal.{out-roll-StateVal}
use Rattle.dsm_runs.specs.declared.mode.Mode.{Mode}
use Rattle.dsm_runs.specs.declared.mode.Mode.TheVariants as mode
use Rattle.dsm_runs.specs.declared.mode.Waiting.{Waiting}
use Rattle.dsm_runs.specs.Events.{Acts, Completes, Handles, SameBlocks, Stores, free, freed_if, with_kept, word_here}
use Rattle.dsm_runs.specs.Invariants.{IsDeferredAt, IsNodeOf, IsOnTheWay, IsRunState}
use Rattle.dsm_runs.specs.Locals.{IsFirst, Local}
use Rattle.dsm_runs.specs.Messages.{fault, numbered, on_wire, outgoing, posted}
use Rattle.dsm_runs.specs.Setups.{IsSetup, Setup, asked, block_of, finished, first_here, home_of, offset_of, program_at}
use Rattle.dsm_runs.specs.Setups.{size_of, start_line, start_state}
use Rattle.dsm_runs.specs.Worlds.{Runs, Step, World, start, taken, takes_from}
use Rattle.dsm_runs.proofs.Asking.{asked_well}
use Rattle.dsm_runs.proofs.Lists.{Each-append, Each-filter, chan_eq_refl, nat_eq_refl}
use Rattle.dsm_runs.proofs.OneEntry.{front_on_wire}
use Rattle.dsm_runs.proofs.OnWires.{each_behind}
use Rattle.dsm_runs.proofs.RunStates.{arrived, first_waits, nodes_start, refused_within, step_keeps}
use Rattle.printed_reports.specs.Named.{IsSmallAct, Small}
use Rattle.run_reports.specs.Numbers.{HasSmallNumbers, IsSmallProgram}
use Rattle.run_reports.proofs.Flat.{SmallEvent, zeros-small}
use Rattle.run_reports.proofs.Payloads.{IsSmallState, SmallData, SmallOut, does-small, plain-state}
use Rattle.run_reports.proofs.Processors.{IsSmallCpu, SmallNext, each-set, finished-small, next-small, small-index, wrap-small}

-- a message that a block handles makes it send at most so many
abbrev pub HandlersSendFew : Type 0
HandlersSendFew =
    (p : Protocol) (here : Here) (m : Message) (e : Ended) → IsAccepted p → Fits p here → IsMessageOf p (length here.words) m
    → Does p here m e → length e.sends ≤ 288

abbrev pub SmallMessage : Message → Type 0
SmallMessage m = SmallData m.payload

abbrev pub SmallWaiting : Waiting → Type 0
SmallWaiting w = SmallMessage w.message

-- ---- messages

outgoing-small : (p : Protocol) (i b stamp : ℕ) (os : List Out) → Each SmallOut os → Each SmallMessage (outgoing p i b stamp os)
outgoing-small p i b stamp [] h = tt
outgoing-small p i b stamp (o ∷ os) (h, hs) = (h, outgoing-small p i b stamp os hs)

length-outgoing : (p : Protocol) (i b stamp : ℕ) (os : List Out) → length (outgoing p i b stamp os) ≡ length os
length-outgoing p i b stamp [] = refl
length-outgoing p i b stamp (o ∷ os) = ap suc (length-outgoing p i b stamp os)

-- a message on a wire whose next number is this
abbrev pub OnWire : ℕ → Message → Type 0
OnWire next m = SmallMessage m × (m.number < next)

numbered-small : (k : ℕ) (ms : List Message) → Each SmallMessage ms → Each (OnWire (k + length ms)) (numbered k ms)
numbered-small k [] h = tt
numbered-small k (m ∷ ms) (h, hs) =
    let e : suc k + length ms ≡ k + length (m ∷ ms) = omega arith in
    ((h, omega arith), subst (λ n. Each (OnWire n) (numbered (suc k) ms)) e (numbered-small (suc k) ms hs))

filter-few : (p : Message → Bool) (ms : List Message) → length (filter p ms) ≤ length ms
filter-few p [] = omega arith
filter-few p (m ∷ ms) = by (p m) (filter-few p ms)
  where
    by : (b : Bool) → length (filter p ms) ≤ length ms → length (cond b (m ∷ filter p ms) (filter p ms)) ≤ length (m ∷ ms)
    by true h = omega arith
    by false h = omega arith

more-wire : (a b : ℕ) → a ≤ b → (ms : List Message) → Each (OnWire a) ms → Each (OnWire b) ms
more-wire a b le [] h = tt
more-wire a b le (m ∷ ms) ((data_small, lt), hs) = ((data_small, omega arith), more-wire a b le ms hs)

-- ---- a node

module _ (s : Setup) (is : IsSetup s) (small : HasSmallNumbers s) (few : HandlersSendFew) where
  abbrev p : Protocol
  p = s.protocol

  pub record IsSmallNode (i : ℕ) (l : Local) : Type 0 where
    pub cpu : IsSmallCpu (program_at s i) l.cpu
    pub words : (b : ℕ) → Each Small (l.blocks b).words
    pub states : (b : ℕ) → IsSmallState (l.blocks b).state
    pub waits : Each SmallWaiting l.deferred

  none-small : IsSmallProgram []
  none-small = record { short = omega arith; within = tt; numbers = tt }

  pub program-small : (i : ℕ) → IsSmallProgram (program_at s i)
  program-small i = by s.programs i small.programs
    where
      by : (xs : List (List Instr)) (k : ℕ) → Each IsSmallProgram xs → IsSmallProgram (slice_index_or xs k [])
      by [] k h = none-small
      by (x ∷ xs) zero (h, hs) = h
      by (x ∷ xs) (suc k) (h, hs) = by xs k hs

  freed-small : (b : ℕ) (ws : List Waiting) → Each SmallWaiting ws → Each SmallWaiting (map (free b) ws)
  freed-small b [] h = tt
  freed-small b (w ∷ ws) (h, hs) = (h, freed-small b ws hs)

  freed-if-small : (freed : Bool) (b : ℕ) (ws : List Waiting) → Each SmallWaiting ws → Each SmallWaiting (freed_if freed b ws)
  freed-if-small true b ws h = freed-small b ws h
  freed-if-small false b ws h = h

  kept-small : (k : Kept) (m : Message) (ws : List Waiting) → SmallMessage m → Each SmallWaiting ws → Each SmallWaiting
      (with_kept k m ws)
  kept-small kept.No m ws q h = h
  kept-small kept.Stale m ws q h = Each-append SmallWaiting ws _ h (q, tt)
  kept-small kept.Eligible m ws q h = Each-append SmallWaiting ws _ h (q, tt)

  first-small : (m : Message) (earlier later ws : List Waiting) → IsFirst m earlier later ws → Each SmallWaiting ws
      → SmallMessage m × Each SmallWaiting (earlier ++ later)
  first-small m earlier later ws first h = go earlier (subst (Each SmallWaiting) first.found h)
    where
      go : (xs : List Waiting) → Each SmallWaiting (xs ++ record { message = m; eligible = true } ∷ later)
          → SmallMessage m × Each SmallWaiting (xs ++ later)
      go [] k = (k.0, k.1)
      go (x ∷ xs) k = let rest = go xs k.1 in (rest.0, (k.0, rest.1))

  -- what an event leaves, and what it sends
  pub record LeavesSmall (i : ℕ) (l2 : Local) (sends : List Message) : Type 0 where
    pub node : IsSmallNode i l2
    pub sent : Each SmallMessage sends
    pub count : length sends ≤ 288

  handles-small : (i stamp : ℕ) (m : Message) (l l2 : Local) (sends : List Message) (after : Option After) → IsNodeOf s i l
      → IsSmallNode i l → IsDeferredAt s i m → SmallMessage m
      → Handles s i stamp m l l2 sends after → LeavesSmall i l2 sends
  handles-small i stamp m l l2 sends after node h waits payload r =
      let at = node.blocks m.block waits.block in
      let ended = does-small p (l.blocks m.block) m r.ended (h.words m.block) (h.states m.block) payload r.does in
      let of : IsMessageOf p (length (l.blocks m.block).words) m = subst (λ n. IsMessageOf p n m)
      (sym at.words) waits.is_message in
      let most = few p (l.blocks m.block) m r.ended is.accepted at.fits of r.does in
      record {
        node = record {
          cpu = subst (IsSmallCpu (program_at s i)) (sym r.cpu) h.cpu;
          words = λ b. elim (cases_eq b m.block) [
            | inl e ↦ subst (λ (x : Here). Each Small x.words) (sym (ap l2.blocks e ∙ r.here)) ended.words
            | inr d ↦ subst (λ (x : Here). Each Small x.words) (sym (r.others b d)) (h.words b)
          ];
          states = λ b. elim (cases_eq b m.block) [
            | inl e ↦ subst (λ (x : Here). IsSmallState x.state) (sym (ap l2.blocks e ∙ r.here)) ended.state
            | inr d ↦ subst (λ (x : Here). IsSmallState x.state) (sym (r.others b d)) (h.states b)
          ];
          waits = subst (Each SmallWaiting) (sym r.deferred)
              (kept-small r.ended.kept m _ payload (freed-if-small r.ended.freed m.block l.deferred h.waits));
        };
        sent = subst (Each SmallMessage) (sym r.outs) (outgoing-small p i m.block stamp r.ended.sends ended.sent);
        count = omega (arith, most, ap length r.outs, length-outgoing p i m.block stamp r.ended.sends);
      }

  -- an instruction that completes, and leaves blocks that are small
  completes-small : (i : ℕ) (l : Local) (front : Option Message) (l2 : Local) (e : Entry) (sends : List Message) (n : Next)
      (cpu : Cpu) (m : Mode) → IsSmallNode i l → IsSmallCpu (program_at s i) cpu
      → ((b : ℕ) → Each Small (l2.blocks b).words) → ((b : ℕ) → IsSmallState (l2.blocks b).state)
      → Completes s i l front l2 e sends n cpu m → LeavesSmall i l2 sends
  completes-small i l front l2 e sends n cpu m h done words states r = record {
    node = record {
      cpu = subst (IsSmallCpu (program_at s i)) (sym r.cpu) done;
      words = words;
      states = states;
      waits = subst (Each SmallWaiting) (sym r.deferred) h.waits;
    };
    sent = subst (Each SmallMessage) (sym r.sends_nothing) tt;
    count = omega (arith, ap length r.sends_nothing);
  }

  same-words : (i : ℕ) (l l2 : Local) → IsSmallNode i l → SameBlocks l l2 → (b : ℕ) → Each Small (l2.blocks b).words
  same-words i l l2 h same b = subst (λ (x : Here). Each Small x.words) (sym (same b)) (h.words b)

  same-states : (i : ℕ) (l l2 : Local) → IsSmallNode i l → SameBlocks l l2 → (b : ℕ) → IsSmallState (l2.blocks b).state
  same-states i l l2 h same b = subst (λ (x : Here). IsSmallState x.state) (sym (same b)) (h.states b)

  stored-words : (i : ℕ) (l l2 : Local) (address value : ℕ) → IsSmallNode i l → Small value → Stores s l l2 address value
      → (b : ℕ) → Each Small (l2.blocks b).words
  stored-words i l l2 address value h v r b = elim (cases_eq b (block_of s address)) [
    | inl e ↦ subst (λ (x : Here). Each Small x.words) (sym (ap l2.blocks e ∙ r.block))
        (each-set Small (l.blocks (block_of s address)).words (offset_of s address) value (h.words (block_of s address)) v)
    | inr d ↦ subst (λ (x : Here). Each Small x.words) (sym (r.others b d)) (h.words b)
  ]

  stored-states : (i : ℕ) (l l2 : Local) (address value : ℕ) → IsSmallNode i l → Stores s l l2 address value → (b : ℕ)
      → IsSmallState (l2.blocks b).state
  stored-states i l l2 address value h r b = elim (cases_eq b (block_of s address)) [
    | inl e ↦ subst (λ (x : Here). IsSmallState x.state) (sym (ap l2.blocks e ∙ r.block)) (h.states (block_of s address))
    | inr d ↦ subst (λ (x : Here). IsSmallState x.state) (sym (r.others b d)) (h.states b)
  ]

  pub word-small : (i : ℕ) (l : Local) (address : ℕ) → IsSmallNode i l → Small (word_here s l.blocks address)
  word-small i l address h = small-index (l.blocks (block_of s address)).words (offset_of s address)
      (h.words (block_of s address))

  asked-small : (i : ℕ) (l : Local) (n : Next) → IsSmallNode i l → asked s i l.cpu ≡ n → SmallNext n
  asked-small i l n h e = subst SmallNext e (next-small (program_at s i) l.cpu (size_of s) h.cpu.regs)

  done-small : (i : ℕ) (l : Local) (loaded : ℕ) → IsSmallNode i l → Small loaded → IsSmallCpu (program_at s i)
      (finished s i l.cpu loaded)
  done-small i l loaded h v = finished-small (program_at s i) l.cpu loaded (program-small i) h.cpu v

  fault-of : (store : Bool) (b i : ℕ) → IsMessageOf p s.shape.words (fault store b i)
  fault-of true b i = record { known = refl; types = refl; carried = λ h. absurd cc; plain = λ h. refl }
  fault-of false b i = record { known = refl; types = refl; carried = λ h. absurd cc; plain = λ h. refl }

  -- ---- an event

  -- a message that is taken from a wire is small, and its number below this
  abbrev Comes : ℕ → ℕ → Option Message → Act → Type 0
  Comes top i front a = (f : ℕ) (c : Chan) (m : Message) → takes_from a f c ≡ true → front ≡ Some m
      → IsDeferredAt s i m × OnWire top m

  record ActsSmall (i : ℕ) (a : Act) (l2 : Local) (sends : List Message) : Type 0 where
    act : IsSmallAct a
    leaves : LeavesSmall i l2 sends

  act-small : (top i : ℕ) (l : Local) (front : Option Message) (l2 : Local) (e : Entry) (sends : List Message) (a : Act)
      → top ≤ 2 ^ 64 → IsNodeOf s i l → IsSmallNode i l → Comes top i front a
      → Acts s i l front l2 e sends a → ActsSmall i a l2 sends
  act-small top i l front l2 e sends (act.Load address value) le node h comes r =
      let v : Small value = subst Small (sym r.1.reads) (word-small i l address h) in
      record {
        act = v;
        leaves = completes-small i l front l2 e sends _ _ _ h (done-small i l value h v)
            (same-words i l l2 h r.1.blocks) (same-states i l l2 h r.1.blocks) r.0;
      }
  act-small top i l front l2 e sends (act.Store address value) le node h comes r =
      let v : Small value = asked-small i l _ h r.0.needed in
      record {
        act = v;
        leaves = completes-small i l front l2 e sends _ _ _ h (done-small i l 0 h (omega arith))
            (stored-words i l l2 address value h v r.1) (stored-states i l l2 address value h r.1) r.0;
      }
  act-small top i l front l2 e sends (act.Faa address value sum) le node h comes r =
      let v : Small value = subst Small (sym r.1.reads) (word-small i l address h) in
      let t : Small sum = subst Small (sym r.1.sums) (wrap-small _) in
      record {
        act = (v, t);
        leaves = completes-small i l front l2 e sends _ _ _ h (done-small i l value h v)
            (stored-words i l l2 address sum h t r.1.stores) (stored-states i l l2 address sum h r.1.stores) r.0;
      }
  act-small top i l front l2 e sends (act.Print value) le node h comes r =
      let v : Small value = asked-small i l _ h r.0.needed in
      record {
        act = v;
        leaves = completes-small i l front l2 e sends _ _ _ h (done-small i l 0 h (omega arith))
            (same-words i l l2 h r.1) (same-states i l l2 h r.1) r.0;
      }
  act-small top i l front l2 e sends act.Halt le node h comes r =
      record {
        act = tt;
        leaves = completes-small i l front l2 e sends _ _ _ h h.cpu (same-words i l l2 h r.1)
            (same-states i l l2 h r.1) r.0;
      }
  act-small top i l front l2 e sends (act.Trapped why) le node h comes r =
      record {
        act = tt;
        leaves = completes-small i l front l2 e sends _ _ _ h h.cpu (same-words i l l2 h r.1)
            (same-states i l l2 h r.1) r.0;
      }
  act-small top i l front l2 e sends act.Step le node h comes r =
      record {
        act = tt;
        leaves = completes-small i l front l2 e sends _ _ _ h (done-small i l 0 h (omega arith))
            (same-words i l l2 h r.1) (same-states i l l2 h r.1) r.0;
      }
  act-small top i l front l2 e sends (act.Fault store b) le node h comes r =
      let within = refused_within s (asked s i l.cpu) store b _ is (asked_well s i l.cpu (asked s i l.cpu) refl) r.refused in
      let l1 : Local = record l { mode = mode.Blocked b } in
      let blocked : IsSmallNode i l1 = record { cpu = h.cpu; words = h.words; states = h.states; waits = h.waits } in
      let own : IsDeferredAt s i
      (fault store b i) = record { is_message = fault-of store b i; to = refl; own = λ e. refl; block = within } in
      record {
        act = tt;
        leaves = handles-small i e.stamp (fault store b i) l1 l2 sends e.after
            (record { blocks = node.blocks; deferred = node.deferred }) blocked own tt r.handles;
      }
  act-small top i l front l2 e sends (act.Redelivered kind block from) le node h comes r =
      let m = r.message in
      let l1 : Local = record l { deferred = r.earlier ++ r.later } in
      let waits = first_waits s i m r.earlier r.later l.deferred r.takes node.deferred in
      let parts = first-small m r.earlier r.later l.deferred r.takes h.waits in
      let before : IsSmallNode i l1 = record { cpu = h.cpu; words = h.words; states = h.states; waits = parts.1 } in
      record {
        act = tt;
        leaves = handles-small i e.stamp m l1 l2 sends e.after
            (record { blocks = node.blocks; deferred = waits.1 }) before waits.0 parts.0 r.handles;
      }
  act-small top i l front l2 e sends (act.Delivered kind block from chan number) le node h comes r =
      let m = r.message in
      let here : takes_from (act.Delivered kind block from chan number) from chan ≡ true = rw (nat_eq_refl from)
      (chan_eq_refl chan) in
      let came = comes from chan m here r.is_front in
      let below : m.number < top = came.1.1 in
      record {
        act = subst Small r.of_number
            (omega arith);
        leaves = handles-small i e.stamp m l l2 sends e.after node h came.0 came.1.0 r.handles;
      }

  -- ---- all nodes and wires

  -- after so many events
  pub record IsSmallWorld (k : ℕ) (g : World) : Type 0 where
    pub nodes : (i : ℕ) → IsSmallNode i (g.locals i)
    pub wires : (f t : ℕ) (c : Chan) → Each (OnWire (g.next f t c)) (g.wires f t c)
    pub next : (f t : ℕ) (c : Chan) → g.next f t c ≤ 288 * k

  step-small : (k : ℕ) (g : World) (e : Entry) (g2 : World) → k < 2 ^ 32 → IsRunState s g → IsSmallWorld k g → Step s g e g2
      → SmallEvent e × IsSmallWorld (k + 1) g2
  step-small k g e g2 lt state h r = (
    (omega (arith, here.leaves.count, r.local.count), here.act),
    record {
      nodes = λ i. elim (cases_eq i e.node) [
        | inl same ↦ subst (λ j. IsSmallNode j (g2.locals j)) (sym same) here.leaves.node
        | inr other ↦ subst (IsSmallNode i) (sym (r.others i other)) (h.nodes i)
      ];
      wires = λ f t c.
          let stayed = each_behind (OnWire (g.next f t c)) (taken e r.front f t c) (r.between f t c)
          (subst (Each (OnWire (g.next f t c))) (r.takes f t c) (h.wires f t c)) in
          let more = r.next f t c in
          let new = filter (on_wire f t c) r.sends in
          let sent = numbered-small (g.next f t c) new (Each-filter SmallMessage (on_wire f t c) r.sends here.leaves.sent) in
          subst (λ ms. Each (OnWire (g2.next f t c)) ms) (sym (r.wires f t c))
          (Each-append (OnWire (g2.next f t c)) (r.between f t c) (posted (g.next f t c) f t c r.sends)
          (more-wire (g.next f t c) (g2.next f t c) (omega arith) (r.between f t c) stayed)
          (subst (λ n. Each (OnWire n) (posted (g.next f t c) f t c r.sends)) (sym more) sent));
      next = λ f t c. omega (arith, h.next f t c, r.next f t c, filter-few (on_wire f t c) r.sends, here.leaves.count);
    },
  )
    where
      comes : Comes (288 * k) e.node r.front e.act
      comes f c m q front =
          let at = front_on_wire s g e g2 r f c m q front in
          let way = (subst (λ (ms : List Message). Each (IsOnTheWay s f e.node) ms) at.1 (state.wires f e.node c)).0 in
          let on = (subst (Each (OnWire (g.next f e.node c))) at.1 (h.wires f e.node c)).0 in
          let most = h.next f e.node c in
          (arrived s f e.node m way, (on.0, omega (arith, on.1, most)))

      here : ActsSmall e.node e.act (g2.locals e.node) r.sends
      here = act-small (288 * k) e.node (g.locals e.node) r.front (g2.locals e.node) e r.sends e.act (omega arith)
          (state.nodes e.node) (h.nodes e.node) comes r.local.acts

  run-small : (es : List Entry) (k : ℕ) (g g2 : World) → k + length es ≤ 2 ^ 32 → IsRunState s g → IsSmallWorld k g
      → Runs s g es g2 → Each SmallEvent es × IsSmallWorld (k + length es) g2
  run-small [] k g g2 le state h r = (tt, subst (IsSmallWorld (k + 0)) r (subst (λ n. IsSmallWorld n g) (none k) h))
    where
      none : (n : ℕ) → n ≡ n + 0
      none n = omega arith
  run-small (e ∷ es) k g g2 le state h r =
      let one = step-small k g e r.0 (omega arith) state h r.1 in
      let more = run-small es (k + 1) r.0 g2 (omega arith) (step_keeps s g e r.0 is state r.1) one.1 r.2 in
      let count : k + 1 + length es ≡ k + length (e ∷ es) = omega arith in
      ((one.0, more.0), subst (λ n. IsSmallWorld n g2) count more.1)

  -- ---- the start

  take-small : (n : ℕ) (xs : List ℕ) → Each Small xs → Each Small (take n xs)
  take-small zero xs h = tt
  take-small (suc n) [] h = tt
  take-small (suc n) (x ∷ xs) (h, hs) = (h, take-small n xs hs)

  drop-small : (n : ℕ) (xs : List ℕ) → Each Small xs → Each Small (drop n xs)
  drop-small zero xs h = h
  drop-small (suc n) [] h = tt
  drop-small (suc n) (x ∷ xs) (h, hs) = drop-small n xs hs

  given-small : (given : List (ℕ × ℕ)) (address : ℕ) → Each (λ g. Small g.1) given → Small (init_value given address)
  given-small [] address h = omega arith
  given-small (g ∷ gs) address (h, hs) = by (g.0 == address) (given-small gs address hs)
    where
      by : (b : Bool) → Small (init_value gs address) → Small (cond b g.1 (init_value gs address))
      by true rest = h
      by false rest = rest

  first-words : (xs : List ℕ) → Each Small (map (init_value s.init) xs)
  first-words [] = tt
  first-words (x ∷ xs) = (given-small s.init x small.init, first-words xs)

  start-small : IsSmallWorld 0 (start s)
  start-small = record {
    nodes = λ i. record {
      cpu = record { regs = zeros-small 16; place = omega arith };
      words = λ b. take-small s.shape.words _
          (drop-small (b * s.shape.words) _ (first-words (range_with_len 0 (s.shape.words * s.shape.blocks))));
      states = λ b. plain-state (first_here s i b).state
          (ap (λ x. x.cont)
          (out-roll-StateVal
          (record { state = start_state s (start_line s (nat_eq (home_of s b) i)); args = []; cont = None })));
      waits = tt;
    };
    wires = λ f t c. tt;
    next = λ f t c. omega arith;
  }

  pub all-small : (es : List Entry) (g : World) → length es ≤ 2 ^ 32 → Runs s (start s) es g → Each SmallEvent es × IsSmallWorld
      (0 + length es) g
  all-small es g le r = run-small es 0 (start s) g (omega arith)
      (record { nodes = λ i. nodes_start s i is; wires = λ f t c. tt }) start-small r
