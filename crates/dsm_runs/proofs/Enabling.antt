-- In a state of a run an event that is enabled has a step.
use Rattle.std.proofs.Common.{◌≡◌, ℕ, ◌+◌, ◌<◌, length, Bool, true, false, ◌&&◌, nat_eq, if◌then◌else◌, List, [], ◌∷◌, ◌++◌}
use Rattle.std.proofs.Common.{Option, Some, None, refl, ap, sym, ◌∙◌, subst, eqb-true}
use Rattle.std.specs.Prelude.{max, option_to_list}
use Rattle.std.specs.List.{filter}
use Rattle.tw_base.specs.Lists.{Each}
use Rattle.tw_base.specs.declared.entry.Act.{Act}
use Rattle.tw_base.specs.declared.entry.Act.TheVariants as act
use Rattle.tw_base.specs.declared.entry.Entry.{Entry}
use Rattle.tw_base.specs.declared.entry.Event.{Event}
use Rattle.tw_base.specs.declared.entry.Event.TheVariants as event
use Rattle.tw_base.specs.declared.message.Chan.{Chan}
use Rattle.tw_base.specs.declared.message.Message.{Message}
use Rattle.block_tags.specs.Copies.{permits}
use Rattle.mini_asm.specs.Machine.{wrap}
use Rattle.mini_asm.specs.declared.cpu.Cpu.{Cpu}
use Rattle.mini_asm.specs.declared.cpu.Next.{Next}
use Rattle.mini_asm.specs.declared.cpu.Next.TheVariants as next
use Rattle.teapot_meaning.specs.Does.{Does}
use Rattle.teapot_meaning.specs.declared.state.Ended.{Ended}
use Rattle.teapot_meaning.specs.declared.state.Here.{Here}
use Rattle.teapot_meaning.proofs.Meanings.{one_meaning}
use Rattle.dsm_runs.specs.declared.mode.Mode.{Mode}
use Rattle.dsm_runs.specs.declared.mode.Mode.TheVariants as mode
use Rattle.dsm_runs.specs.Setups.{IsSetup, Setup, asked, block_of, finished, size_of}
use Rattle.dsm_runs.specs.Locals.{Local, MayInstruct}
use Rattle.dsm_runs.specs.Messages.{chan_eq, fault, on_wire, outgoing, posted}
use Rattle.dsm_runs.specs.Events.{Acts, Completes, Handles, IsRefused, LocalStep, added_by, after_of, failure, freed_if}
use Rattle.dsm_runs.specs.Events.{mode_after, tag_here, with_kept, with_word_here, word_here}
use Rattle.dsm_runs.specs.Worlds.{MayDeliver, MayRedeliver, Wires, World, event_of, taken, takes_from}
use Rattle.dsm_runs.specs.Invariants.{EnabledEventsStep, IsDeferredAt, IsNodeOf, IsOnTheWay, Makes}
use Rattle.dsm_runs.specs.Shown.{AsksWell}
use Rattle.dsm_runs.proofs.Asking.{asked_well}
use Rattle.dsm_runs.proofs.Lists.{and_left, and_right, chan_eq-true}
use Rattle.dsm_runs.proofs.RunStates.{arrived, first_waits, refused_within}
use Rattle.dsm_runs.proofs.Turns.{changed, changed_here, changed_other}

-- ---- an event of one node

record MakesHere (s : Setup) (i : ℕ) (l : Local) (front : Option Message) (e : Event) : Type 0 where
  pub entry : Entry
  pub after : Local
  pub sends : List Message
  pub tells : event_of entry ≡ e
  pub step : LocalStep s i l front after entry sends

-- an instruction that completes with this act
abbrev completed : Local → Cpu → Mode → (ℕ → Here) → Local
completed l cpu m blocks = record {
  mode = m;
  failed = l.failed;
  clock = l.clock + 1;
  cpu = cpu;
  blocks = blocks;
  deferred = l.deferred;
  instructions = l.instructions + 1;
  handled = l.handled;
  sent = l.sent + 0;
}

abbrev silent : ℕ → Local → Act → Entry
silent i l a = record { stamp = l.clock + 1; node = i; act = a; sends = 0; after = None }

completes : (s : Setup) (i : ℕ) (l : Local) (a : Act) (needs : Next) (cpu : Cpu) (m : Mode) (blocks : ℕ → Here) →
    MayInstruct s l → asked s i l.cpu ≡ needs
    → Completes s i l None (completed l cpu m blocks) (silent i l a) [] needs cpu m
completes s i l a needs cpu m blocks may asks = record {
  instructs = record { may = may; no_front = refl; instructions = refl; handled = refl };
  needed = asks;
  cpu = refl;
  mode = refl;
  failed = refl;
  deferred = refl;
  sends_nothing = refl;
  no_handler = refl;
}

instruction : (s : Setup) (i : ℕ) (l : Local) (a : Act) (cpu : Cpu) (m : Mode) (blocks : ℕ → Here) → i < s.shape.nodes →
    event_of (silent i l a) ≡ event.Instr i
    → Acts s i l None (completed l cpu m blocks) (silent i l a) [] a → MakesHere s i l None (event.Instr i)
instruction s i l a cpu m blocks lt tells acts = record {
  entry = silent i l a;
  after = completed l cpu m blocks;
  sends = [];
  tells = tells;
  step = record { at_node = lt; node = refl; stamp = refl; clock = refl; count = refl; sent = refl; acts = acts };
}

-- a message handled: what the node comes to, and what it sends
abbrev handled : Message → Local → Ended → ℕ → ℕ → ℕ → List Message → Local
handled m l ended stamp instructions count sends = record {
  mode = mode_after ended.woke m.block l.mode;
  failed = failure ended.end;
  clock = stamp;
  cpu = l.cpu;
  blocks = changed l.blocks m.block ended.here;
  deferred = with_kept ended.kept m (freed_if ended.freed m.block l.deferred);
  instructions = instructions;
  handled = count;
  sent = l.sent + length sends;
}

handles : (s : Setup) (i stamp : ℕ) (m : Message) (l : Local) (ended : Ended) (instructions count : ℕ) (sends : List Message) →
    Does s.protocol (l.blocks m.block) m ended → sends ≡ outgoing s.protocol i m.block stamp ended.sends
    → Handles s i stamp m l (handled m l ended stamp instructions count sends) sends (Some (after_of m.block ended))
handles s i stamp m l ended instructions count sends does outs = record {
  ended = ended;
  does = does;
  here = changed_here l.blocks m.block ended.here;
  others = λ b d. changed_other l.blocks m.block ended.here b d;
  mode = refl;
  failed = refl;
  deferred = refl;
  cpu = refl;
  outs = outs;
  leaves = refl;
}

-- where it has a meaning
meaning : (s : Setup) (i : ℕ) (l : Local) (m : Message) → IsSetup s → IsNodeOf s i l → m.block < s.shape.blocks →
    (e : Ended) × Does s.protocol (l.blocks m.block) m e
meaning s i l m is h lt = let one = one_meaning s.protocol (l.blocks m.block) m is.accepted (h.blocks m.block lt).fits in
    (one.end, one.does)

-- ---- instructions

refuses : (s : Setup) (i : ℕ) (l : Local) (store : Bool) (b : ℕ) → IsSetup s → IsNodeOf s i l → i < s.shape.nodes →
    MayInstruct s l → IsRefused s (asked s i l.cpu) store b (l.blocks b).tag → MakesHere s i l None (event.Instr i)
refuses s i l store b is h lt may refused =
    let within : b < s.shape.blocks = refused_within s (asked s i l.cpu) store b _ is
    (asked_well s i l.cpu (asked s i l.cpu) refl) refused in
    let m : Message = fault store b i in
    let blocked : Local = record l { mode = mode.Blocked b } in
    let does = meaning s i blocked m is (record { blocks = h.blocks; deferred = h.deferred }) within in
    let sends : List Message = outgoing s.protocol i b (l.clock + 1) does.0.sends in
    record {
      entry = record {
        stamp = l.clock + 1;
        node = i;
        act = act.Fault store b;
        sends = length sends;
        after = Some (after_of b does.0);
      };
      after = handled m blocked does.0 (l.clock + 1) (l.instructions + 1) l.handled sends;
      sends = sends;
      tells = refl;
      step = record {
        at_node = lt;
        node = refl;
        stamp = refl;
        clock = refl;
        count = refl;
        sent = refl;
        acts = record {
          instructs = record { may = may; no_front = refl; instructions = refl; handled = refl };
          refused = refused;
          handles = handles s i (l.clock + 1) m blocked does.0 (l.instructions + 1) l.handled sends does.1 refl;
        };
      };
    }

-- the blocks with a word written
abbrev stored : Setup → Local → ℕ → ℕ → ℕ → Here
stored s l address value = changed l.blocks (block_of s address) (with_word_here s address value (l.blocks (block_of s address)))

loads : (s : Setup) (i : ℕ) (l : Local) (address : ℕ) (allowed : Bool) → IsSetup s → IsNodeOf s i l → i < s.shape.nodes →
    MayInstruct s l → asked s i l.cpu ≡ next.Access false address 0
    → permits (tag_here s l.blocks address) false ≡ allowed → MakesHere s i l None (event.Instr i)
loads s i l address true is h lt may asks allowed =
    let value : ℕ = word_here s l.blocks address in
    instruction s i l (act.Load address value) (finished s i l.cpu value) mode.Running l.blocks lt refl
    (completes s i l _ _ _ _ l.blocks may asks, record { allowed = allowed; reads = refl; blocks = λ b. refl })
loads s i l address false is h lt may asks allowed = refuses s i l false (block_of s address) is h lt may
    (rw asks (refl, refl, allowed))

stores : (s : Setup) (i : ℕ) (l : Local) (address value : ℕ) (allowed : Bool) → IsSetup s → IsNodeOf s i l →
    i < s.shape.nodes → MayInstruct s l → asked s i l.cpu ≡ next.Access true address value
    → permits (tag_here s l.blocks address) true ≡ allowed → MakesHere s i l None (event.Instr i)
stores s i l address value true is h lt may asks allowed =
    instruction s i l (act.Store address value) (finished s i l.cpu 0) mode.Running (stored s l address value) lt refl (
      completes s i l _ _ _ _ (stored s l address value) may asks,
      record {
        allowed = allowed;
        block = changed_here l.blocks (block_of s address) _;
        others = λ b d. changed_other l.blocks (block_of s address) _ b d;
      },
    )
stores s i l address value false is h lt may asks allowed = refuses s i l true (block_of s address) is h lt may
    (rw asks (refl, refl, allowed))

adds : (s : Setup) (i : ℕ) (l : Local) (address added : ℕ) (allowed : Bool) → IsSetup s → IsNodeOf s i l → i < s.shape.nodes →
    MayInstruct s l → asked s i l.cpu ≡ next.Faa address added
    → permits (tag_here s l.blocks address) true ≡ allowed → MakesHere s i l None (event.Instr i)
adds s i l address added true is h lt may asks allowed =
    let value : ℕ = word_here s l.blocks address in
    let sum : ℕ = wrap (value + added) in
    let blocks : ℕ → Here = stored s l address sum in
    let by : added_by (asked s i l.cpu) ≡ added = ap added_by asks in
    instruction s i l (act.Faa address value sum) (finished s i l.cpu value) mode.Running blocks lt refl (
      completes s i l _ _ _ _ blocks may (asks ∙ ap (next.Faa address) (sym by)),
      record {
        reads = refl;
        sums = ap (λ n. wrap (value + n)) (sym by);
        stores = record {
          allowed = allowed;
          block = changed_here l.blocks (block_of s address) _;
          others = λ b d. changed_other l.blocks (block_of s address) _ b d;
        };
      },
    )
adds s i l address added false is h lt may asks allowed = refuses s i l true (block_of s address) is h lt may
    (rw asks (refl, refl, allowed))

instructs : (s : Setup) (i : ℕ) (l : Local) (n : Next) → IsSetup s → IsNodeOf s i l → i < s.shape.nodes → MayInstruct s l →
    AsksWell (size_of s) n → asked s i l.cpu ≡ n → MakesHere s i l None (event.Instr i)
instructs s i l (next.Access false address value) is h lt may well asks =
    loads s i l address (permits (tag_here s l.blocks address) false) is h lt may
    (asks ∙ ap (next.Access false address) well.1) refl
instructs s i l (next.Access true address value) is h lt may well asks =
    stores s i l address value (permits (tag_here s l.blocks address) true) is h lt may asks refl
instructs s i l (next.Faa address added) is h lt may well asks =
    adds s i l address added (permits (tag_here s l.blocks address) true) is h lt may asks refl
instructs s i l (next.Trap why) is h lt may well asks = instruction s i l (act.Trapped why) l.cpu
    (mode.Trapped why) l.blocks lt refl (completes s i l _ _ _ _ l.blocks may asks, λ b. refl)
instructs s i l next.Halt is h lt may well asks = instruction s i l act.Halt l.cpu mode.Halted l.blocks lt refl
    (completes s i l _ _ _ _ l.blocks may asks, λ b. refl)
instructs s i l (next.Print value) is h lt may well asks = instruction s i l (act.Print value)
    (finished s i l.cpu 0) mode.Running l.blocks lt refl (completes s i l _ _ _ _ l.blocks may asks, λ b. refl)
instructs s i l next.Step is h lt may well asks = instruction s i l act.Step
    (finished s i l.cpu 0) mode.Running l.blocks lt refl (completes s i l _ _ _ _ l.blocks may asks, λ b. refl)

-- ---- messages

redelivers : (s : Setup) (i : ℕ) (l : Local) → IsSetup s → IsNodeOf s i l → i < s.shape.nodes → MayRedeliver s l →
    MakesHere s i l None (event.Redeliver i)
redelivers s i l is h lt may =
    let m : Message = may.message in
    let parts = first_waits s i m may.earlier may.later l.deferred may.takes h.deferred in
    let rest : Local = record l { deferred = may.earlier ++ may.later } in
    let does = meaning s i rest m is (record { blocks = h.blocks; deferred = parts.1 }) parts.0.block in
    let sends : List Message = outgoing s.protocol i m.block (l.clock + 1) does.0.sends in
    record {
      entry = record {
        stamp = l.clock + 1;
        node = i;
        act = act.Redelivered m.kind m.block m.from;
        sends = length sends;
        after = Some (after_of m.block does.0);
      };
      after = handled m rest does.0 (l.clock + 1) l.instructions (l.handled + 1) sends;
      sends = sends;
      tells = refl;
      step = record {
        at_node = lt;
        node = refl;
        stamp = refl;
        clock = refl;
        count = refl;
        sent = refl;
        acts = record {
          counts = record { may = may.may; instructions = refl; handled = refl };
          no_front = refl;
          message = m;
          earlier = may.earlier;
          later = may.later;
          takes = may.takes;
          of_kind = refl;
          of_block = refl;
          of_sender = refl;
          handles = handles s i (l.clock + 1) m rest does.0 l.instructions (l.handled + 1) sends does.1 refl;
        };
      };
    }

delivers : (s : Setup) (i from : ℕ) (chan : Chan) (l : Local) (wire : List Message) → IsSetup s → IsNodeOf s i l →
    i < s.shape.nodes → from < s.shape.nodes → (may : MayDeliver s l wire) → IsDeferredAt s i may.message
    → MakesHere s i l (Some may.message) (event.Deliver i from chan)
delivers s i from chan l wire is h lt from_lt may came =
    let m : Message = may.message in
    let stamp : ℕ = max l.clock m.stamp + 1 in
    let does = meaning s i l m is h came.block in
    let sends : List Message = outgoing s.protocol i m.block stamp does.0.sends in
    record {
      entry = record {
        stamp = stamp;
        node = i;
        act = act.Delivered m.kind m.block from chan m.number;
        sends = length sends;
        after = Some (after_of m.block does.0);
      };
      after = handled m l does.0 stamp l.instructions (l.handled + 1) sends;
      sends = sends;
      tells = refl;
      step = record {
        at_node = lt;
        node = refl;
        stamp = refl;
        clock = refl;
        count = refl;
        sent = refl;
        acts = record {
          counts = record { may = may.may; instructions = refl; handled = refl };
          none_eligible = may.none_eligible;
          from_node = from_lt;
          message = m;
          is_front = refl;
          early = may.early;
          of_kind = refl;
          of_block = refl;
          of_number = refl;
          handles = handles s i stamp m l does.0 l.instructions (l.handled + 1) sends does.1 refl;
        };
      };
    }

-- ---- all nodes and wires

no_front_taken : (b : Bool) → (if b then option_to_list {X = Message} None else []) ≡ []
no_front_taken true = refl
no_front_taken false = refl

steps : (s : Setup) (g : World) (i : ℕ) (e : Event) (front : Option Message) (between : Wires)
    (here : MakesHere s i (g.locals i) front e)
    → ((f t : ℕ) (c : Chan) → g.wires f t c ≡ taken here.entry front f t c ++ between f t c) → Makes s g e
steps s g i e front between here takes = record {
  entry = entry;
  after = record {
    locals = changed g.locals entry.node here.after;
    wires = λ f t c. between f t c ++ posted (g.next f t c) f t c here.sends;
    next =
        λ f t c. g.next f t c + length (filter (on_wire f t c) here.sends);
  };
  tells = here.tells;
  step = record {
    front = front;
    sends = here.sends;
    between = between;
    local = subst (λ (x : Local). LocalStep s entry.node (g.locals entry.node) front x entry here.sends)
        (sym (changed_here g.locals entry.node here.after))
        (subst (λ n. LocalStep s n (g.locals n) front here.after entry here.sends) (sym here.step.node) here.step);
    others = λ k d. changed_other g.locals entry.node here.after k d;
    takes = takes;
    wires = λ f t c. refl;
    next = λ f t c. refl;
  };
}
  where
    entry : Entry
    entry = here.entry

quiet_steps : (s : Setup) (g : World) (i : ℕ) (e : Event) → MakesHere s i (g.locals i) None e → Makes s g e
quiet_steps s g i e here =
    steps s g i e None g.wires here (λ f t c. ap (λ (ms : List Message). ms ++ g.wires f t c)
    (sym (no_front_taken (nat_eq t here.entry.node && takes_from here.entry.act f c))))

-- the wires without the front of one
abbrev is_wire : ℕ → ℕ → Chan → ℕ → ℕ → Chan → Bool
is_wire from i chan f t c = nat_eq t i && (nat_eq f from && chan_eq c chan)

front_taken : (g : World) (from i : ℕ) (chan : Chan) (m : Message) (rest : List Message) → g.wires from i chan ≡ m ∷ rest →
    (f t : ℕ) (c : Chan) (b : Bool) → is_wire from i chan f t c ≡ b
    → g.wires f t c ≡ (if b then m ∷ [] else []) ++ (if b then rest else g.wires f t c)
front_taken g from i chan m rest at f t c false is = refl
front_taken g from i chan m rest at f t c true is =
    let to : t ≡ i = eqb-true t i (and_left (nat_eq t i) (nat_eq f from && chan_eq c chan) is) in
    let more : (nat_eq f from && chan_eq c chan) ≡ true = and_right (nat_eq t i) (nat_eq f from && chan_eq c chan) is in
    let by : f ≡ from = eqb-true f from (and_left (nat_eq f from) (chan_eq c chan) more) in
    let on : c ≡ chan = chan_eq-true c chan (and_right (nat_eq f from) (chan_eq c chan) more) in
    ap (λ n. g.wires n t c) by ∙ ap (λ n. g.wires from n c) to ∙ ap (λ (x : Chan). g.wires from i x) on ∙ at

pub enabled_step : EnabledEventsStep
unfolding delivers
enabled_step s g (event.Instr i) is h e =
    quiet_steps s g i (event.Instr i) (instructs s i (g.locals i) (asked s i (g.locals i).cpu) is (h.nodes i) e.0 e.1
    (asked_well s i (g.locals i).cpu (asked s i (g.locals i).cpu) refl) refl)
enabled_step s g (event.Redeliver i) is h e = quiet_steps s g i (event.Redeliver i)
    (redelivers s i (g.locals i) is (h.nodes i) e.0 e.1)
enabled_step s g (event.Deliver i from chan) is h e =
    let may : MayDeliver s (g.locals i) (g.wires from i chan) = e.2 in
    let came : IsDeferredAt s i may.message = arrived s from i may.message
    (subst (λ (ms : List Message). Each (IsOnTheWay s from i) ms) may.front (h.wires from i chan)).0 in
    steps s g i (event.Deliver i from chan) (Some may.message)
    (λ f t c. if is_wire from i chan f t c then may.rest else g.wires f t c)
    (delivers s i from chan (g.locals i) (g.wires from i chan) is (h.nodes i) e.0 e.1 may came)
    (λ f t c. front_taken g from i chan may.message may.rest may.front f t c (is_wire from i chan f t c) refl)
