-- The acts of an instruction that run no handler, each for every course that the node stands for.
use Rattle.std.proofs.Common.{◌≡◌, ◌≢◌, ◌∙◌, ℕ, ◌+◌, ◌*◌, ◌/◌, ◌%◌, ◌<◌, Bool, true, false, List, [], None, refl, ap, sym}
use Rattle.std.proofs.Common.{subst, mul_comm, inl, inr}
use Rattle.std.specs.Prelude.{slice_index, slice_set}
use Rattle.std.proofs.lemmas.Bool.{cases_eq}
use Rattle.std.proofs.lemmas.Nat.{div_below}
use Rattle.tw_base.specs.Shape.{Sizes}
use Rattle.tw_base.specs.declared.entry.Act.{Act}
use Rattle.tw_base.specs.declared.entry.Act.TheVariants as act
use Rattle.tw_base.specs.declared.entry.Trap.{Trap}
use Rattle.block_tags.specs.Copies.{Copies, allows, block_slice, block_words, permits, tag_of, with_word, word_at}
use Rattle.block_tags.proofs.Slices.{slice_unwritten, slice_word, slice_written}
use Rattle.mini_asm.specs.Machine.{wrap}
use Rattle.mini_asm.specs.declared.cpu.Cpu.{Cpu}
use Rattle.mini_asm.specs.declared.cpu.Next.{Next}
use Rattle.mini_asm.specs.declared.cpu.Next.TheVariants as next
use Rattle.teapot_meaning.specs.declared.state.Here.{Here}
use Rattle.compiled_handlers.specs.Standing.{BlockStands}
use Rattle.dsm_runs.specs.declared.mode.Mode.{Mode}
use Rattle.dsm_runs.specs.declared.mode.Mode.TheVariants as mode
use Rattle.dsm_runs.specs.Events.{Completes, added_by, tag_here, with_word_here, word_here}
use Rattle.dsm_runs.specs.Locals.{MayInstruct}
use Rattle.dsm_runs.specs.Replays.{Course}
use Rattle.dsm_runs.specs.Setups.{asked, block_of, finished, offset_of, size_of}
use Rattle.dsm_runs.specs.Tests.{may_instruct}
use Rattle.dsm_runs.proofs.Asking.{asked_well}
use Rattle.dsm_runs.proofs.Testing.{may_instruct_decides}
use Rattle.dsm_runs.proofs.Turns.{changed, changed_here, changed_other}
use Rattle.node_meaning.specs.Nodes.{Shown, keeping, tested, with_blocks}
use Rattle.node_meaning.specs.Stands.{IsWell, StandsFor}
use Rattle.node_acts.proofs.Instructing.{DoesInAll, entry_done, parts_done, shown_done}

-- ---- a block of the node, and of a course

pub record IsHere (n : Shown) (heres : ℕ → Here) (address : ℕ) : Type 0 where
  pub within : block_of n.setup address < n.setup.shape.blocks
  pub tag : tag_of n.copies (block_of n.setup address) ≡ tag_here n.setup heres address
  pub words : block_words n.copies (block_of n.setup address) ≡ (heres (block_of n.setup address)).words

block_within : (a w n : ℕ) → 0 < w → a < w * n → a / w < n
block_within a w n some lt = div_below a w n some (subst (λ k. a < k) (mul_comm w n) lt)

here_at : (n : Shown) (c : Course) (address : ℕ) → IsWell n → StandsFor n c → address < size_of n.setup
    → IsHere n c.local.blocks address
here_at n c address w s good =
    let b = block_of n.setup address in
    let lt : b < n.setup.shape.blocks = block_within address n.setup.shape.words n.setup.shape.blocks w.setup.limits.some_word
    good in
    let x = s.blocks b lt in
    let at : (c.local.blocks b).block ≡ b = (s.sound.blocks b lt).block in
    record {
      within = lt;
      tag = ap (tag_of n.copies) (sym at) ∙ x.tag;
      words = ap (block_words n.copies) (sym at) ∙ x.words;
    }

-- the tag that the node keeps is the course's
allowed_here : (n : Shown) (heres : ℕ → Here) (address : ℕ) (store : Bool) → IsWell n → IsHere n heres address
    → allows n.copies store address ≡ true → permits (tag_here n.setup heres address) store ≡ true
allowed_here n heres address store w h allowed =
    let shape : block_of n.setup address ≡ address / n.copies.shape.words = ap (λ (z : Sizes). address / z.words) (sym w.shape)
    in
    ap (λ t. permits t store) (sym h.tag ∙ ap (tag_of n.copies) shape) ∙ allowed

-- the word that the node keeps is the course's
word_is : (n : Shown) (heres : ℕ → Here) (address : ℕ) → IsWell n → IsHere n heres address
    → word_at n.copies address ≡ word_here n.setup heres address
word_is n heres address w h =
    let some : 0 < n.setup.shape.words = w.setup.limits.some_word in
    let e : n.copies.shape.words ≡ n.setup.shape.words = ap (λ (z : Sizes). z.words) w.shape in
    sym (slice_word n.setup.shape.words address n.copies.words some)
    ∙ ap (λ k. slice_index (block_slice k n.copies.words (block_of n.setup address)) (offset_of n.setup address)) (sym e)
    ∙ ap (λ ws. slice_index ws (offset_of n.setup address)) h.words

-- ---- a word is written

words_written : (m : Copies) (w a v k : ℕ) (ws : List ℕ) → m.shape.words ≡ w → 0 < w → k ≡ a / w → block_words m k ≡ ws
    → block_words (with_word m a v) k ≡ slice_set ws (a % w) v
words_written m w a v k ws e some at is =
    (λ j. block_slice (e j) (slice_set m.words a v) (at j))
    ∙ slice_written w a v m.words some
    ∙ ap (λ xs. slice_set xs (a % w) v) (sym (λ j. block_slice (e j) m.words (at j)) ∙ is)

words_unwritten : (m : Copies) (w a v k : ℕ) (ws : List ℕ) → m.shape.words ≡ w → 0 < w → k ≢ a / w → block_words m k ≡ ws
    → block_words (with_word m a v) k ≡ ws
words_unwritten m w a v k ws e some other is =
    (λ j. block_slice (e j) (slice_set m.words a v) k)
    ∙ slice_unwritten w a v k m.words some other
    ∙ sym (λ j. block_slice (e j) m.words k)
    ∙ is

abbrev written_heres : Shown → ℕ → ℕ → (ℕ → Here) → ℕ → Here
written_heres n address value heres = changed heres (block_of n.setup address)
    (with_word_here n.setup address value (heres (block_of n.setup address)))

-- the node with the word stands for the blocks with the word
written_stands : (n : Shown) (mode : Mode) (cpu : Cpu) (a : Act) (address value : ℕ) (c : Course) → IsWell n → StandsFor n c
    → (b : ℕ) → b < n.setup.shape.blocks
    → BlockStands n.setup.protocol n.code (keeping (shown_done n mode cpu (with_word n.copies address value) a) b)
    (written_heres n address value c.local.blocks b)
written_stands n mode cpu a address value c w s b lt = elim (cases_eq b k) [
  | inl e ↦
      let is : written_heres n address value c.local.blocks b ≡ with_word_here n.setup address value (c.local.blocks b) = ap
      (written_heres n address value c.local.blocks) e
      ∙ changed_here c.local.blocks k (with_word_here n.setup address value (c.local.blocks k))
      ∙ ap (λ i. with_word_here n.setup address value (c.local.blocks i)) (sym e) in
      subst (λ (x : Here). BlockStands n.setup.protocol n.code (keeping new b) x) (sym is) (record {
        tag = stood.tag;
        words = words_written n.copies n.setup.shape.words address value (c.local.blocks b).block (c.local.blocks b).words
            width some (at ∙ e) stood.words;
        chain = stood.chain;
        cell = record { infos = stood.cell.infos; state = stood.cell.state };
      })
  | inr d ↦
      subst (λ (x : Here). BlockStands n.setup.protocol n.code (keeping new b) x)
      (sym (changed_other c.local.blocks k (with_word_here n.setup address value (c.local.blocks k)) b d)) (record {
        tag = stood.tag;
        words = words_unwritten n.copies n.setup.shape.words address value (c.local.blocks b).block (c.local.blocks b).words
            width some (λ q. d (sym at ∙ q)) stood.words;
        chain = stood.chain;
        cell = stood.cell;
      })
]
  where
    k : ℕ
    k = block_of n.setup address

    new : Shown
    new = shown_done n mode cpu (with_word n.copies address value) a

    stood : BlockStands n.setup.protocol n.code (keeping n b) (c.local.blocks b)
    stood = s.blocks b lt

    at : (c.local.blocks b).block ≡ b
    at = (s.sound.blocks b lt).block

    some : 0 < n.setup.shape.words
    some = w.setup.limits.some_word

    width : n.copies.shape.words ≡ n.setup.shape.words
    width = ap (λ (z : Sizes). z.words) w.shape

-- ---- the acts

may_here : (n : Shown) (heres : ℕ → Here) → may_instruct n.setup (tested n) ≡ true
    → MayInstruct n.setup (with_blocks n.parts heres)
may_here n heres may =
    let m = (may_instruct_decides n.setup (tested n)).0 may in
    record { unfailed = m.unfailed; ready = m.ready; instructions = m.instructions; sent = m.sent; clock = m.clock }

completes : (n : Shown) (needs : Next) (mode : Mode) (cpu : Cpu) (a : Act) (heres heres2 : ℕ → Here)
    → may_instruct n.setup (tested n) ≡ true → asked n.setup n.me n.parts.cpu ≡ needs
    → Completes n.setup n.me (with_blocks n.parts heres) None (with_blocks (parts_done n.parts mode cpu) heres2)
    (entry_done n a) [] needs cpu mode
completes n needs mode cpu a heres heres2 may e = record {
  instructs = record { may = may_here n heres may; no_front = refl; instructions = refl; handled = refl };
  needed = e;
  cpu = refl;
  mode = refl;
  failed = refl;
  deferred = refl;
  sends_nothing = refl;
  no_handler = refl;
}

pub performs_load : (n : Shown) (address value : ℕ) → IsWell n → may_instruct n.setup (tested n) ≡ true
    → asked n.setup n.me n.parts.cpu ≡ next.Access false address 0 → allows n.copies false address ≡ true
    → value ≡ word_at n.copies address
    → DoesInAll n mode.Running (finished n.setup n.me n.parts.cpu value) n.copies (act.Load address value)
performs_load n address value w may e allowed is = λ c s.
    let h = here_at n c address w s (asked_well n.setup n.me n.parts.cpu (next.Access false address 0) e).0 in
    record {
      after = c.local.blocks;
      acts = (
        completes n (next.Access false address 0) mode.Running (finished n.setup n.me n.parts.cpu value)
            (act.Load address value) c.local.blocks c.local.blocks may e,
        record {
          allowed = allowed_here n c.local.blocks address false w h allowed;
          reads = is
              ∙ word_is n c.local.blocks address w h;
          blocks = λ b. refl;
        },
      );
      blocks = s.blocks;
    }

pub performs_store : (n : Shown) (address value : ℕ) → IsWell n → may_instruct n.setup (tested n) ≡ true
    → asked n.setup n.me n.parts.cpu ≡ next.Access true address value → allows n.copies true address ≡ true
    → DoesInAll n mode.Running (finished n.setup n.me n.parts.cpu 0) (with_word n.copies address value)
    (act.Store address value)
performs_store n address value w may e allowed = λ c s.
    let h = here_at n c address w s (asked_well n.setup n.me n.parts.cpu (next.Access true address value) e) in
    let k = block_of n.setup address in
    record {
      after = written_heres n address value c.local.blocks;
      acts = (
        completes n (next.Access true address value) mode.Running (finished n.setup n.me n.parts.cpu 0)
            (act.Store address value) c.local.blocks (written_heres n address value c.local.blocks) may e,
        record {
          allowed = allowed_here n c.local.blocks address true w h allowed;
          block = changed_here c.local.blocks k (with_word_here n.setup address value (c.local.blocks k));
          others = λ b d. changed_other c.local.blocks k (with_word_here n.setup address value (c.local.blocks k)) b d;
        },
      );
      blocks = written_stands n mode.Running (finished n.setup n.me n.parts.cpu 0) (act.Store address value) address value c w
          s;
    }

pub performs_faa : (n : Shown) (address value added sum : ℕ) → IsWell n → may_instruct n.setup (tested n) ≡ true
    → asked n.setup n.me n.parts.cpu ≡ next.Faa address added → allows n.copies true address ≡ true
    → value ≡ word_at n.copies address → sum ≡ wrap (value + added)
    → DoesInAll n mode.Running (finished n.setup n.me n.parts.cpu value) (with_word n.copies address sum)
    (act.Faa address value sum)
performs_faa n address value added sum w may e allowed is sums = λ c s.
    let h = here_at n c address w s (asked_well n.setup n.me n.parts.cpu (next.Faa address added) e) in
    let k = block_of n.setup address in
    let add : added ≡ added_by (asked n.setup n.me n.parts.cpu) = sym (ap added_by e) in
    record {
      after = written_heres n address sum c.local.blocks;
      acts = (
        completes n (next.Faa address (added_by (asked n.setup n.me n.parts.cpu))) mode.Running
            (finished n.setup n.me n.parts.cpu value) (act.Faa address value sum) c.local.blocks
            (written_heres n address sum c.local.blocks) may (e ∙ ap (λ x. next.Faa address x) add),
        record {
          reads = is ∙ word_is n c.local.blocks address w h;
          sums = sums ∙ ap (λ x. wrap (value + x)) add;
          stores = record {
            allowed = allowed_here n c.local.blocks address true w h allowed;
            block = changed_here c.local.blocks k (with_word_here n.setup address sum (c.local.blocks k));
            others = λ b d. changed_other c.local.blocks k (with_word_here n.setup address sum (c.local.blocks k)) b d;
          };
        },
      );
      blocks = written_stands n mode.Running (finished n.setup n.me n.parts.cpu value) (act.Faa address value sum) address sum
          c w s;
    }

pub performs_print : (n : Shown) (value : ℕ) → may_instruct n.setup (tested n) ≡ true
    → asked n.setup n.me n.parts.cpu ≡ next.Print value
    → DoesInAll n mode.Running (finished n.setup n.me n.parts.cpu 0) n.copies (act.Print value)
performs_print n value may e = λ c s. record {
  after = c.local.blocks;
  acts = (
    completes n (next.Print value) mode.Running (finished n.setup n.me n.parts.cpu 0) (act.Print value) c.local.blocks
        c.local.blocks may e,
    λ b. refl,
  );
  blocks = s.blocks;
}

pub performs_step : (n : Shown) → may_instruct n.setup (tested n) ≡ true → asked n.setup n.me n.parts.cpu ≡ next.Step
    → DoesInAll n mode.Running (finished n.setup n.me n.parts.cpu 0) n.copies act.Step
performs_step n may e = λ c s. record {
  after = c.local.blocks;
  acts = (
    completes n next.Step mode.Running (finished n.setup n.me n.parts.cpu 0) act.Step c.local.blocks c.local.blocks may
        e,
    λ b. refl,
  );
  blocks = s.blocks;
}

pub performs_halt : (n : Shown) → may_instruct n.setup (tested n) ≡ true → asked n.setup n.me n.parts.cpu ≡ next.Halt
    → DoesInAll n mode.Halted n.parts.cpu n.copies act.Halt
performs_halt n may e = λ c s. record {
  after = c.local.blocks;
  acts = (completes n next.Halt mode.Halted n.parts.cpu act.Halt c.local.blocks c.local.blocks may e, λ b. refl);
  blocks = s.blocks;
}

pub performs_trap : (n : Shown) (why : Trap) → may_instruct n.setup (tested n) ≡ true
    → asked n.setup n.me n.parts.cpu ≡ next.Trap why
    → DoesInAll n (mode.Trapped why) n.parts.cpu n.copies (act.Trapped why)
performs_trap n why may e = λ c s. record {
  after = c.local.blocks;
  acts = (
    completes n (next.Trap why) (mode.Trapped why) n.parts.cpu (act.Trapped why) c.local.blocks c.local.blocks may e,
    λ b. refl,
  );
  blocks = s.blocks;
}
