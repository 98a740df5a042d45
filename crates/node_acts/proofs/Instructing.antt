-- An instruction that runs no handler: what it makes of the node, whatever it does to registers, blocks and mode.
use Rattle.std.proofs.Common.{◌≡◌, ◌∙◌, ℕ, ◌+◌, ◌<◌, Bool, true, false, List, [], ◌∷◌, ◌++◌, None, append-nil, refl, ap, sym}
use Rattle.std.proofs.Common.{subst, arith}
use Rattle.std.specs.Prelude.{if◌then◌else◌, option_to_list}
use Rattle.tw_base.specs.declared.entry.Act.{Act}
use Rattle.tw_base.specs.declared.entry.Entry.{Entry}
use Rattle.tw_base.specs.declared.entry.Event.TheVariants as event
use Rattle.tw_base.specs.declared.message.Chan.{Chan}
use Rattle.tw_base.specs.declared.message.Message.{Message}
use Rattle.block_tags.specs.Copies.{Copies, IsWhole}
use Rattle.mini_asm.specs.declared.cpu.Cpu.{Cpu}
use Rattle.teapot_meaning.specs.declared.state.Here.{Here}
use Rattle.compiled_handlers.specs.Standing.{BlockStands}
use Rattle.dsm_runs.specs.declared.mode.Mode.{Mode}
use Rattle.dsm_runs.specs.Events.{Acts, LocalStep}
use Rattle.dsm_runs.specs.Invariants.{EventsKeepNodes, IsNodeOf}
use Rattle.dsm_runs.specs.Locals.{Local}
use Rattle.dsm_runs.specs.Replays.{Course, ReplaysOne, begin}
use Rattle.dsm_runs.specs.Worlds.{event_at, takes_from}
use Rattle.dsm_runs.proofs.Besides.{log_goes_on_beside}
use Rattle.node_meaning.specs.Nodes.{Parts, Shown, keeping, tally_of, with_blocks}
use Rattle.node_meaning.specs.Stands.{GoesOn, IsWell, Makes, StandsFor}
use Rattle.node_meaning.specs.Tallies.{Counts, first_tally, handled_message}

-- the parts of a node after an instruction that runs no handler
abbrev pub parts_done : Parts → Mode → Cpu → Parts
parts_done x mode cpu = record x { mode = mode; clock = x.clock + 1; cpu = cpu; instructions = x.instructions + 1 }

-- its entry
abbrev pub entry_done : Shown → Act → Entry
entry_done n act = record { stamp = n.parts.clock + 1; node = n.me; act = act; sends = 0; after = None }

-- the node after it
abbrev pub shown_done : Shown → Mode → Cpu → Copies → Act → Shown
shown_done n mode cpu copies act =
    record n { parts = parts_done n.parts mode cpu; copies = copies; log = n.log ++ entry_done n act ∷ []; ready = false }

-- an act that takes no message, is told of an instruction, and runs no handler
pub record IsPlain (act : Act) : Type 0 where
  pub takes_nothing : (f : ℕ) (ch : Chan) → takes_from act f ch ≡ false
  pub instruction : (i : ℕ) → event_at i act ≡ event.Instr i
  pub handles_nothing : (i : ℕ) (l : Local) → handled_message i l None act ≡ None

-- What the instruction does to the blocks of one course: the model's blocks afterwards, and that the node's stand for them.
pub record DoesHere (n : Shown) (mode : Mode) (cpu : Cpu) (copies : Copies) (act : Act) (heres : ℕ → Here) : Type 0 where
  pub after : ℕ → Here
  pub acts : Acts n.setup n.me (with_blocks n.parts heres) None (with_blocks (parts_done n.parts mode cpu) after)
      (entry_done n act) [] act
  pub blocks : (b : ℕ) → b < n.setup.shape.blocks
      → BlockStands n.setup.protocol n.code (keeping (shown_done n mode cpu copies act) b) (after b)

abbrev pub DoesInAll : Shown → Mode → Cpu → Copies → Act → Type 0
DoesInAll n mode cpu copies act = (c : Course) → StandsFor n c → DoesHere n mode cpu copies act c.local.blocks

-- ---- the course goes on

nothing_taken : (b : Bool) → (if b then option_to_list {X = Message} None else []) ≡ []
nothing_taken true = refl
nothing_taken false = refl

abbrev course_of : Course → Local → Course
course_of c l = record { local = l; took = c.took; sent = c.sent }

goes_from : (n : Shown) (mode : Mode) (cpu : Cpu) (copies : Copies) (act : Act) → EventsKeepNodes → IsWell n → IsPlain act
    → (c : Course) → StandsFor n c → c ≡ course_of c (with_blocks n.parts c.local.blocks)
    → DoesHere n mode cpu copies act c.local.blocks
    → GoesOn n (shown_done n mode cpu copies act) c (entry_done n act) None []
goes_from n mode cpu copies act keep w plain c s is d = subst (λ (x : Course). GoesOn n new x entry None []) (sym is) on
  where
    new : Shown
    new = shown_done n mode cpu copies act

    entry : Entry
    entry = entry_done n act

    before : Course
    before = course_of c (with_blocks n.parts c.local.blocks)

    after : Course
    after = course_of c (with_blocks (parts_done n.parts mode cpu) d.after)

    step : LocalStep n.setup n.me before.local None after.local entry []
    step = record {
      at_node = w.at_node;
      node = refl;
      stamp = refl;
      clock = refl;
      count = refl;
      sent = let e : n.parts.sent ≡ n.parts.sent + 0 = omega arith in e;
      acts = d.acts;
    }

    goes : ReplaysOne n.setup n.me before entry after
    goes = record {
      front = None;
      sends = [];
      local = step;
      took = λ f ch. sym (ap (λ (ms : List Message). c.took f ch ++ ms) (nothing_taken _) ∙ append-nil (c.took f ch));
      sent = λ t ch. sym (append-nil (c.sent t ch));
    }

    stood : StandsFor n before
    stood = subst (λ (x : Course). StandsFor n x) is s

    counted : Counts n.setup n.code n.me before.local None act (tally_of n) (tally_of new)
    counted = rw (plain.handles_nothing n.me before.local) refl

    keeps : IsNodeOf n.setup n.me after.local
    keeps = (keep n.setup n.me before.local None after.local entry [] w.setup stood.sound (λ m e. absurd cc) step).node

    on : GoesOn n new before entry None []
    on = record {
      after = after;
      goes = goes;
      takes = refl;
      stands = record {
        replays = log_goes_on_beside (Counts n.setup n.code) n.setup n.me n.log (begin n.setup n.me) before after
            (first_tally n.setup n.me) (tally_of n) (tally_of new) entry stood.replays goes counted;
        parts = refl;
        blocks = d.blocks;
        sound = keeps;
        took = s.took;
        sent = s.sent;
        fit = s.fit;
      };
      sent = λ t ch. sym (append-nil (c.sent t ch));
      counted = counted;
    }

pub makes_done : (n : Shown) (mode : Mode) (cpu : Cpu) (copies : Copies) (act : Act) → EventsKeepNodes → IsWell n → IsPlain act
    → DoesInAll n mode cpu copies act
    → Makes n (shown_done n mode cpu copies act) None (event.Instr n.me)
makes_done n mode cpu copies act keep w plain all = record {
  entry = entry_done n act;
  more = [];
  tells = plain.instruction n.me;
  log = refl;
  waits = sym (append-nil n.waiting);
  same_setup = refl;
  same_code = refl;
  same_me = refl;
  same_accepted = refl;
  fronts = λ f ch. rw (plain.takes_nothing f ch) refl;
  goes = λ c s. goes_from n mode cpu copies act keep w plain c s (λ j. record c { local = s.parts j }) (all c s);
}

pub well_done : (n : Shown) (mode : Mode) (cpu : Cpu) (copies : Copies) (act : Act) → IsWell n → IsWhole copies
    → copies.shape ≡ n.copies.shape → IsWell (shown_done n mode cpu copies act)
well_done n mode cpu copies act w whole shape = record {
  setup = w.setup;
  code = w.code;
  short = w.short;
  at_node = w.at_node;
  copies = whole;
  shape = shape ∙ w.shape;
  cells = w.cells;
  chains = w.chains;
  within = w.within;
  all_fronts = w.all_fronts;
  all_accepted = w.all_accepted;
  all_posted = w.all_posted;
  fronts = λ f ch m h. let x = w.fronts f ch m h in record { fit = x.fit; chan = x.chan; number = x.number };
  waiting = w.waiting;
  deferred = w.deferred;
  few_sent = w.few_sent;
  few_posted = w.few_posted;
  few_accepted = w.few_accepted;
}
