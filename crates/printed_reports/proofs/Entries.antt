-- What the entries of a run and the nodes at its end name is there.
use Rattle.std.proofs.Common.{◌≡◌, ◌∙◌, ℕ, zero, suc, ◌+◌, ◌<◌, ◌≤◌, ◌==◌, cond, Bool, true, false, List, [], ◌∷◌, ◌++◌, Option}
use Rattle.std.proofs.Common.{Some, None, length, map, refl, sym, ap, subst, inl, inr, arith}
use Rattle.std.specs.Prelude.{slice_get, slice_set}
use Rattle.std.specs.List.{range_with_len}
use Rattle.std.proofs.Math.ListN.{length-set}
use Rattle.std.proofs.lemmas.Bool.{cases_eq}
use Rattle.std.proofs.lemmas.List.FromFn.{length-map-range_with_len}
use Rattle.std.proofs.lemmas.Option.{slice_get_within}
use Rattle.tw_base.specs.Lists.{Each}
use Rattle.tw_base.specs.declared.entry.Act.{Act}
use Rattle.tw_base.specs.declared.entry.Act.TheVariants as act
use Rattle.tw_base.specs.declared.entry.After.{After}
use Rattle.tw_base.specs.declared.entry.End.{End}
use Rattle.tw_base.specs.declared.entry.End.TheVariants as how
use Rattle.tw_base.specs.declared.entry.Entry.{Entry}
use Rattle.tw_base.specs.declared.message.Chan.{Chan}
use Rattle.tw_base.specs.declared.message.Message.{Message}
use Rattle.mini_asm.specs.declared.cpu.Cpu.{Cpu}
use Rattle.mini_asm.specs.declared.cpu.Next.{Next}
use Rattle.mini_asm.specs.declared.instr.Instr.{Instr}
use Rattle.mini_asm.specs.Run.{Machine}
use Rattle.mini_asm.specs.Machine.{completed, finish_of, set_reg, with_written, written}
use Rattle.teapot_tree.specs.declared.protocol.Protocol.{Protocol}
use Rattle.teapot_meaning.specs.Fits.{Fits, fits_below, is_known}
use Rattle.teapot_meaning.specs.declared.state.Kept.{Kept}
use Rattle.teapot_meaning.specs.declared.state.Kept.TheVariants as kept
use Rattle.teapot_meaning.specs.declared.state.StateVal.{StateVal, out-StateVal}
use Rattle.dsm_runs.specs.declared.mode.Mode.{Mode}
use Rattle.dsm_runs.specs.declared.mode.Mode.TheVariants as mode
use Rattle.dsm_runs.specs.declared.mode.Waiting.{Waiting}
use Rattle.dsm_runs.specs.Events.{Acts, Completes, Handles, after_of, failure, free, freed_if, with_kept}
use Rattle.dsm_runs.specs.Flat.{flat_start, flat_step, is_completed, reading}
use Rattle.dsm_runs.specs.Invariants.{IsDeferredAt, IsNodeOf, IsOnTheWay, IsRunState}
use Rattle.dsm_runs.specs.Locals.{IsFirst, Local}
use Rattle.dsm_runs.specs.Messages.{fault}
use Rattle.dsm_runs.specs.Outcomes.{is_spent, outcome_by, outcome_in, outcome_of}
use Rattle.dsm_runs.specs.Setups.{IsSetup, Setup, asked, finished, program_at, size_of}
use Rattle.dsm_runs.specs.Shown.{AsksWell}
use Rattle.dsm_runs.specs.Worlds.{Runs, Step, World, start, takes_from}
use Rattle.dsm_runs.proofs.Asking.{asked_well}
use Rattle.dsm_runs.proofs.Lists.{Each-append, chan_eq_refl, nat_eq_refl}
use Rattle.dsm_runs.proofs.OneEntry.{front_on_wire}
use Rattle.dsm_runs.proofs.RunStates.{arrived, first_waits, nodes_start, refused_within, step_keeps}
use Rattle.journal.specs.declared.history.Break.{Break}
use Rattle.journal.specs.Finals.{counted_final}
use Rattle.journal.specs.Gathered.{tag_in, told_by, word_in}
use Rattle.journal.specs.History.{break_at, break_beside, break_from, break_or}
use Rattle.printed_reports.specs.Named.{IsActOf, IsAfterOf, IsBreakOf, IsEndOf, IsEntryOf, IsFailureOf, IsFinalOf, IsLeft}
use Rattle.printed_reports.specs.Named.{IsOutcomeOf}
use Rattle.printed_reports.specs.Runs.{RunsAreTold}
use Rattle.printed_reports.proofs.Failing.{does-end}

-- ---- registers

set-registers : (regs : List ℕ) (d value : ℕ) → length (set_reg regs d value) ≡ length regs
set-registers regs d value = by (d == 0)
  where
    by : (b : Bool) → length (cond b regs (slice_set regs d value)) ≡ length regs
    by true = refl
    by false = length-set regs d value

written-registers : (w : Option (ℕ × ℕ)) (regs : List ℕ) → length (with_written w regs) ≡ length regs
written-registers None regs = refl
written-registers (Some w) regs = set-registers regs w.0 w.1

finished-registers : (program : List Instr) (cpu : Cpu) (loaded : ℕ)
    → length (finish_of program cpu loaded).regs ≡ length cpu.regs
finished-registers program cpu loaded = by (slice_get program cpu.place)
  where
    by : (o : Option Instr) → length (completed o cpu loaded).regs ≡ length cpu.regs
    by None = refl
    by (Some i) = written-registers (written i cpu.regs loaded) cpu.regs

-- ---- what a handler leaves

failure-named : (p : Protocol) (e : End) (why : End) → IsEndOf p e → failure e ≡ Some why → IsFailureOf p why
failure-named p how.Fine why h is = absurd cc
failure-named p (how.Failed number) why h is = let same : how.Failed number ≡ why = cc in subst (IsFailureOf p) same h
failure-named p how.TooDeep why h is = let same : how.TooDeep ≡ why = cc in subst (IsFailureOf p) same tt

state-below : (p : Protocol) (words n : ℕ) (x : StateVal) → fits_below n p words x → (out-StateVal x).state < length p.states
unfolding fits_below
state-below p words zero x h = absurd h
state-below p words (suc n) x h = slice_get_within p.states (out-StateVal x).state h.state h.is_state

module _ (s : Setup) (is : IsSetup s) where
  abbrev p : Protocol
  p = s.protocol

  -- a message from a node that is there
  abbrev FromNode : Waiting → Type 0
  FromNode w = w.message.from < s.shape.nodes

  -- what each node has, beside what it has in every state
  record IsToldNode (l : Local) : Type 0 where
    from : Each FromNode l.deferred
    failed : (why : End) → l.failed ≡ Some why → IsFailureOf p why
    registers : length l.cpu.regs ≡ 16

  freed-from : (b : ℕ) (ws : List Waiting) → Each FromNode ws → Each FromNode (map (free b) ws)
  freed-from b [] h = tt
  freed-from b (w ∷ ws) (h, hs) = (h, freed-from b ws hs)

  freed-if-from : (freed : Bool) (b : ℕ) (ws : List Waiting) → Each FromNode ws → Each FromNode (freed_if freed b ws)
  freed-if-from true b ws h = freed-from b ws h
  freed-if-from false b ws h = h

  kept-from : (k : Kept) (m : Message) (ws : List Waiting) → m.from < s.shape.nodes → Each FromNode ws → Each FromNode
      (with_kept k m ws)
  kept-from kept.No m ws lt h = h
  kept-from kept.Stale m ws lt h = Each-append FromNode ws _ h (lt, tt)
  kept-from kept.Eligible m ws lt h = Each-append FromNode ws _ h (lt, tt)

  first-from : (m : Message) (earlier later ws : List Waiting) → IsFirst m earlier later ws → Each FromNode ws
      → (m.from < s.shape.nodes) × Each FromNode (earlier ++ later)
  first-from m earlier later ws first h = go earlier (subst (Each FromNode) first.found h)
    where
      go : (xs : List Waiting) → Each FromNode (xs ++ record { message = m; eligible = true } ∷ later)
          → (m.from < s.shape.nodes) × Each FromNode (xs ++ later)
      go [] k = (k.0, k.1)
      go (x ∷ xs) k = let rest = go xs k.1 in (rest.0, (k.0, rest.1))

  handles-told : (i stamp : ℕ) (m : Message) (l l2 : Local) (sends : List Message) (after : Option After) → IsToldNode l
      → m.from < s.shape.nodes → Fits p (l.blocks m.block)
      → Handles s i stamp m l l2 sends after → IsToldNode l2
  handles-told i stamp m l l2 sends after h lt fits r = record {
    from = subst (Each FromNode) (sym r.deferred)
        (kept-from r.ended.kept m _ lt (freed-if-from r.ended.freed m.block l.deferred h.from));
    failed = λ why e. failure-named p r.ended.end why (does-end p (l.blocks m.block) m r.ended fits r.does) (sym r.failed ∙ e);
    registers = ap (λ (c : Cpu). length c.regs) r.cpu ∙ h.registers;
  }

  handles-left : (i stamp : ℕ) (m : Message) (l l2 : Local) (sends : List Message) (after : Option After)
      → Fits p (l.blocks m.block) → Fits p (l2.blocks m.block)
      → Handles s i stamp m l l2 sends after → IsLeft p false after
  handles-left i stamp m l l2 sends after fits new r =
      let here : Fits p r.ended.here = subst (Fits p) r.here new in
      let left : IsAfterOf p (after_of m.block r.ended) =
      record {
        state = state-below p (length r.ended.here.words) 9 r.ended.here.state here.state;
        ended = does-end p
            (l.blocks m.block) m r.ended fits r.does;
      } in
      subst (IsLeft p false) (sym r.leaves) left

  -- an instruction that completes
  completes-told : (i : ℕ) (l : Local) (front : Option Message) (l2 : Local) (e : Entry) (sends : List Message) (n : Next)
      (cpu : Cpu) (m : Mode) → IsToldNode l → length cpu.regs ≡ length l.cpu.regs
      → Completes s i l front l2 e sends n cpu m → IsToldNode l2
  completes-told i l front l2 e sends n cpu m h same r = record {
    from = subst (Each FromNode) (sym r.deferred) h.from;
    failed = λ why is_failed. h.failed why (sym r.failed ∙ is_failed);
    registers = ap (λ (c : Cpu). length c.regs) r.cpu ∙ same ∙ h.registers;
  }

  completes-left : (i : ℕ) (l : Local) (front : Option Message) (l2 : Local) (e : Entry) (sends : List Message) (n : Next)
      (cpu : Cpu) (m : Mode) → Completes s i l front l2 e sends n cpu m → IsLeft p true e.after
  completes-left i l front l2 e sends n cpu m r = subst (IsLeft p true) (sym r.no_handler) tt

  asks : (i : ℕ) (l : Local) (front : Option Message) (l2 : Local) (e : Entry) (sends : List Message) (n : Next) (cpu : Cpu)
      (m : Mode) → Completes s i l front l2 e sends n cpu m → AsksWell (size_of s) n
  asks i l front l2 e sends n cpu m r = asked_well s i l.cpu n r.needed

  -- ---- an event

  record IsToldAct (a : Act) (after : Option After) (l2 : Local) : Type 0 where
    names : IsActOf s a
    left : IsLeft p (is_completed a) after
    node : IsToldNode l2

  -- a message that is taken from a wire is one that its sender sent
  abbrev Comes : ℕ → Option Message → Act → Type 0
  Comes i front a = (f : ℕ) (c : Chan) (m : Message) → takes_from a f c ≡ true → front ≡ Some m
      → (m.from ≡ f) × IsDeferredAt s i m

  done : (i : ℕ) (l : Local) (loaded : ℕ) → length (finished s i l.cpu loaded).regs ≡ length l.cpu.regs
  done i l loaded = finished-registers (program_at s i) l.cpu loaded

  -- the block of a message, before and after
  fits-at : (i : ℕ) (l : Local) (b : ℕ) → IsNodeOf s i l → b < s.shape.blocks → Fits p (l.blocks b)
  fits-at i l b h lt = let at = h.blocks b lt in at.fits

  told-act : (i : ℕ) (l : Local) (front : Option Message) (l2 : Local) (e : Entry) (sends : List Message) (a : Act)
      → i < s.shape.nodes → IsNodeOf s i l → IsNodeOf s i l2 → IsToldNode l → Comes i front a
      → Acts s i l front l2 e sends a → IsToldAct a e.after l2
  told-act i l front l2 e sends (act.Load address value) lt old new h comes r = record {
    names = (asks i l front l2 e sends _ _ _ r.0).0;
    left = completes-left i l front l2 e sends _ _ _ r.0;
    node = completes-told i l front l2 e sends _ _ _ h (done i l value) r.0;
  }
  told-act i l front l2 e sends (act.Store address value) lt old new h comes r = record {
    names = asks i l front l2 e sends _ _ _ r.0;
    left = completes-left i l front l2 e sends _ _ _ r.0;
    node = completes-told i l front l2 e sends _ _ _ h (done i l 0) r.0;
  }
  told-act i l front l2 e sends (act.Faa address value sum) lt old new h comes r = record {
    names = asks i l front l2 e sends _ _ _ r.0;
    left = completes-left i l front l2 e sends _ _ _ r.0;
    node = completes-told i l front l2 e sends _ _ _ h (done i l value) r.0;
  }
  told-act i l front l2 e sends (act.Print value) lt old new h comes r =
      record {
        names = tt;
        left = completes-left i l front l2 e sends _ _ _ r.0;
        node = completes-told i l front l2 e sends _ _ _ h (done i l 0) r.0;
      }
  told-act i l front l2 e sends act.Halt lt old new h comes r =
      record {
        names = tt;
        left = completes-left i l front l2 e sends _ _ _ r.0;
        node = completes-told i l front l2 e sends _ _ _ h refl r.0;
      }
  told-act i l front l2 e sends (act.Trapped why) lt old new h comes r =
      record {
        names = tt;
        left = completes-left i l front l2 e sends _ _ _ r.0;
        node = completes-told i l front l2 e sends _ _ _ h refl r.0;
      }
  told-act i l front l2 e sends act.Step lt old new h comes r =
      record {
        names = tt;
        left = completes-left i l front l2 e sends _ _ _ r.0;
        node = completes-told i l front l2 e sends _ _ _ h (done i l 0) r.0;
      }
  told-act i l front l2 e sends (act.Fault store b) lt old new h comes r =
      let within = refused_within s (asked s i l.cpu) store b _ is (asked_well s i l.cpu (asked s i l.cpu) refl) r.refused in
      let blocked : IsToldNode
      (record l { mode = mode.Blocked b }) = record { from = h.from; failed = h.failed; registers = h.registers } in
      record {
        names = within;
        left = handles-left i e.stamp (fault store b i) (record l { mode = mode.Blocked b }) l2 sends e.after
            (fits-at i l b old within) (fits-at i l2 b new within) r.handles;
        node = handles-told i e.stamp (fault store b i) (record l { mode = mode.Blocked b }) l2 sends e.after blocked lt
            (fits-at i l b old within) r.handles;
      }
  told-act i l front l2 e sends (act.Redelivered kind block from) lt old new h comes r =
      let m = r.message in
      let waits = (first_waits s i m r.earlier r.later l.deferred r.takes old.deferred).0 in
      let parts = first-from m r.earlier r.later l.deferred r.takes h.from in
      let l1 : Local = record l { deferred = r.earlier ++ r.later } in
      let before : IsToldNode l1 = record { from = parts.1; failed = h.failed; registers = h.registers } in
      let known : is_known p m.kind ≡ true = waits.is_message.known in
      record {
        names = (
          subst (λ k. is_known p k ≡ true) r.of_kind known,
          subst (λ b. b < s.shape.blocks) r.of_block waits.block,
          subst
              (λ f. f < s.shape.nodes) r.of_sender parts.0,
        );
        left = handles-left i e.stamp m l1 l2 sends e.after (fits-at i l m.block old waits.block)
            (fits-at i l2 m.block new waits.block) r.handles;
        node = handles-told i e.stamp m l1 l2 sends e.after before parts.0 (fits-at i l m.block old waits.block) r.handles;
      }
  told-act i l front l2 e sends (act.Delivered kind block from chan number) lt old new h comes r =
      let m = r.message in
      let here : takes_from (act.Delivered kind block from chan number) from chan ≡ true = rw (nat_eq_refl from)
      (chan_eq_refl chan) in
      let came = comes from chan m here r.is_front in
      let waits = came.1 in
      let sender : m.from < s.shape.nodes = subst (λ f. f < s.shape.nodes) (sym came.0) r.from_node in
      let known : is_known p m.kind ≡ true = waits.is_message.known in
      record {
        names = (
          subst (λ k. is_known p k ≡ true) r.of_kind known,
          subst
              (λ b. b < s.shape.blocks) r.of_block waits.block,
          r.from_node,
        );
        left = handles-left i e.stamp m l l2 sends e.after (fits-at i l m.block old waits.block)
            (fits-at i l2 m.block new waits.block) r.handles;
        node = handles-told i e.stamp m l l2 sends e.after h sender (fits-at i l m.block old waits.block) r.handles;
      }

  -- ---- a run

  abbrev ToldNodes : World → Type 0
  ToldNodes g = (i : ℕ) → IsToldNode (g.locals i)

  told-step : (g : World) (e : Entry) (g2 : World) → IsRunState s g → ToldNodes g → Step s g e g2 → IsEntryOf s e × ToldNodes g2
  told-step g e g2 state told r = (
    record { node = r.local.at_node; act = here.names; left = here.left },
    λ k. elim (cases_eq k e.node) [
      | inl same ↦ subst (λ j. IsToldNode (g2.locals j)) (sym same) here.node
      | inr other ↦ subst IsToldNode (sym (r.others k other)) (told k)
    ],
  )
    where
      comes : Comes e.node r.front e.act
      comes f c m q front =
          let at = front_on_wire s g e g2 r f c m q front in
          let all = subst (λ (ms : List Message). Each (IsOnTheWay s f e.node) ms) at.1 (state.wires f e.node c) in
          let way = all.0 in
          (way.from, arrived s f e.node m way)

      here : IsToldAct e.act e.after (g2.locals e.node)
      here =
          let next = step_keeps s g e g2 is state r in
          told-act e.node (g.locals e.node) r.front (g2.locals e.node) e r.sends e.act r.local.at_node (state.nodes e.node)
          (next.nodes e.node) (told e.node) comes r.local.acts

  told-run : (es : List Entry) (g g2 : World) → IsRunState s g → ToldNodes g → Runs s g es g2
      → Each (IsEntryOf s) es × ToldNodes g2
  told-run [] g g2 state told r = (tt, subst ToldNodes r told)
  told-run (e ∷ es) g g2 state told r =
      let one = told-step g e r.0 state told r.1 in
      let more = told-run es r.0 g2 (step_keeps s g e r.0 is state r.1) one.1 r.2 in
      ((one.0, more.0), more.1)

  told-start : ToldNodes (start s)
  told-start i = record { from = tt; failed = λ why e. absurd cc; registers = refl }

  start-state : IsRunState s (start s)
  start-state = record { nodes = λ i. nodes_start s i is; wires = λ f t c. tt }

  told-all : (es : List Entry) (g : World) → Runs s (start s) es g → Each (IsEntryOf s) es × ToldNodes g
  told-all es g r = told-run es (start s) g start-state told-start r

  -- ---- the ends of nodes

  outcome-named : (l : Local) → IsToldNode l → IsOutcomeOf p (outcome_of s l)
  outcome-named l h = by l.failed h.failed
    where
      plain : (m : Mode) (spent : Bool) → IsOutcomeOf p (outcome_in m spent)
      plain (mode.Trapped why) spent = tt
      plain (mode.Blocked b) true = tt
      plain (mode.Blocked b) false = tt
      plain mode.Halted true = tt
      plain mode.Halted false = tt
      plain mode.Running spent = tt
      plain mode.Woken spent = tt

      by : (o : Option End) → ((why : End) → o ≡ Some why → IsFailureOf p why) → IsOutcomeOf p
          (outcome_by o l.mode (is_spent s l))
      by None go = plain l.mode (is_spent s l)
      by (Some why) go = go why refl

  ends-named : (g : World) (ops records : ℕ → ℕ) → ToldNodes g → (a n : ℕ) → Each (IsFinalOf p)
      (map (λ i. counted_final s (g.locals i) (ops i) (records i)) (range_with_len a n))
  ends-named g ops records told a zero = tt
  ends-named g ops records told a (suc n) =
      let here = told a in
      let few : length (g.locals a).cpu.regs ≤ 16 = omega (arith, here.registers) in
      (record { outcome = outcome-named (g.locals a) here; registers = few }, ends-named g ops records told (a + 1) n)

  -- ---- the history

  break-named : (k node : ℕ) (a : Act) (due : Option (ℕ × ℕ)) (more : Option Break) → node < s.shape.nodes → IsActOf s a
      → IsBreakOf s more → IsBreakOf s (break_or (break_at k node (reading a) due) more)
  break-named k node (act.Load address value) (Some d) more lt h rest = by (value == d.1)
    where
      by : (b : Bool)
          → IsBreakOf s
          (break_or (cond b None (Some (record { event = k; node = node; address = address; read = value; due = d.1 }))) more)
      by true = rest
      by false = (lt, h)
  break-named k node (act.Faa address value sum) (Some d) more lt h rest = by (value == d.1)
    where
      by : (b : Bool)
          → IsBreakOf s
          (break_or (cond b None (Some (record { event = k; node = node; address = address; read = value; due = d.1 }))) more)
      by true = rest
      by false = (lt, h)
  break-named k node (act.Load address value) None more lt h rest = rest
  break-named k node (act.Faa address value sum) None more lt h rest = rest
  break-named k node _ due more lt h rest = rest

  beside-named : (k : ℕ) (e : Entry) (o : Option (Act × Machine)) (later : Machine → Option Break) → IsEntryOf s e
      → ((m : Machine) → IsBreakOf s (later m)) → IsBreakOf s (break_beside k e o later)
  beside-named k e None later h go = tt
  beside-named k e (Some flat) later h go = break-named k e.node e.act (reading flat.0) (later flat.1) h.node h.act (go flat.1)

  from-named : (es : List Entry) (m : Machine) (k : ℕ) → Each (IsEntryOf s) es → IsBreakOf s (break_from m k es)
  unfolding break_from
  from-named [] m k h = tt
  from-named (e ∷ es) m k (h, hs) = by (is_completed e.act)
      (beside-named k e (flat_step m e.node) (λ next. break_from next (k + 1) es) h (λ next. from-named es next (k + 1) hs))
      (from-named es m (k + 1) hs)
    where
      by : (b : Bool) → IsBreakOf s (break_beside k e (flat_step m e.node) (λ next. break_from next (k + 1) es))
          → IsBreakOf s (break_from m (k + 1) es)
          → IsBreakOf s (cond b (break_beside k e (flat_step m e.node) (λ next. break_from next (k + 1) es))
          (break_from m (k + 1) es))
      by true one other = one
      by false one other = other

pub runs_told : RunsAreTold
runs_told s j g ops records is r =
    let told = told-all s is j g r in
    record {
      entries_are = told.0;
      each_node = length-map-range_with_len (λ i. counted_final s (g.locals i) (ops i) (records i)) 0 s.shape.nodes;
      ends_are = ends-named s is g ops records told.1 0 s.shape.nodes;
      within = let e = length-map-range_with_len (told_by s.shape (tag_in g) (word_in s g)) 0 (size_of s) in omega (arith, e);
      break_is = from-named s is j (flat_start s) 0 told.0;
    }
