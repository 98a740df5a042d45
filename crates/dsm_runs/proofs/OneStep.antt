-- An entry determines what its event leaves.
use Rattle.std.proofs.Common.{◌≡◌, ℕ, ◌+◌, length, true, ◌&&◌, nat_eq, List, [], ◌∷◌, ◌++◌, Option, Some, refl, ap, sym, ◌∙◌}
use Rattle.std.proofs.Common.{subst, inl, inr}
use Rattle.std.proofs.lemmas.Bool.{cases_eq}
use Rattle.tw_base.specs.declared.entry.Act.{Act}
use Rattle.tw_base.specs.declared.entry.Act.TheVariants as act
use Rattle.tw_base.specs.declared.message.Chan.{Chan}
use Rattle.tw_base.specs.declared.entry.Entry.{Entry}
use Rattle.tw_base.specs.declared.message.Message.{Message}
use Rattle.tw_base.specs.declared.entry.After.{After}
use Rattle.mini_asm.specs.declared.cpu.Cpu.{Cpu}
use Rattle.dsm_runs.specs.declared.mode.Mode.{Mode}
use Rattle.mini_asm.specs.declared.cpu.Next.{Next}
use Rattle.dsm_runs.specs.declared.mode.Waiting.{Waiting}
use Rattle.teapot_meaning.specs.declared.state.Ended.{Ended}
use Rattle.dsm_runs.specs.Setups.{Setup, block_of}
use Rattle.dsm_runs.proofs.Meanings.{one_end}
use Rattle.dsm_runs.specs.Locals.{Local, IsStale}
use Rattle.tw_base.specs.Lists.{Each}
use Rattle.dsm_runs.specs.Messages.{chan_eq, outgoing}
use Rattle.dsm_runs.specs.Events.{LocalStep, Acts, Completes, Handles, after_of, mode_after, failure, with_kept, freed_if}
use Rattle.dsm_runs.specs.Worlds.{takes_from}
use Rattle.dsm_runs.proofs.Lists.{nat_eq_refl, chan_eq_refl}

pub record SameParts (x y : Local) (sends sends2 : List Message) (after after2 : Option After) : Type 0 where
  pub mode : x.mode ≡ y.mode
  pub failed : x.failed ≡ y.failed
  pub cpu : x.cpu ≡ y.cpu
  pub blocks : (b : ℕ) → x.blocks b ≡ y.blocks b
  pub deferred : x.deferred ≡ y.deferred
  pub instructions : x.instructions ≡ y.instructions
  pub handled : x.handled ≡ y.handled
  pub sends_same : sends ≡ sends2
  pub after_same : after ≡ after2

same_local : (x y : Local) (sends sends2 : List Message) (after after2 : Option After) →
    SameParts x y sends sends2 after after2 → x.clock ≡ y.clock → x.sent ≡ y.sent → x ≡ y
same_local x y sends sends2 after after2 p clock sent = λ j. record {
  mode = p.mode j;
  failed = p.failed j;
  clock = clock j;
  cpu = p.cpu j;
  blocks = λ b. p.blocks b j;
  deferred = p.deferred j;
  instructions = p.instructions j;
  handled = p.handled j;
  sent = sent j;
}

completes_same : (s : Setup) (i : ℕ) (l : Local) (front front2 : Option Message) (x y : Local) (e e2 : Entry)
    (sends sends2 : List Message) (needs : Next) (cpu : Cpu) (mode : Mode)
    → Completes s i l front x e sends needs cpu mode → Completes s i l front2 y e2 sends2 needs cpu mode →
    ((b : ℕ) → x.blocks b ≡ y.blocks b) → SameParts x y sends sends2 e.after e2.after
completes_same s i l front front2 x y e e2 sends sends2 needs cpu mode p q blocks = record {
  mode = p.mode ∙ sym q.mode;
  failed = p.failed ∙ sym q.failed;
  cpu = p.cpu ∙ sym q.cpu;
  blocks = blocks;
  deferred = p.deferred ∙ sym q.deferred;
  instructions = p.instructs.instructions ∙ sym q.instructs.instructions;
  handled = p.instructs.handled ∙ sym q.instructs.handled;
  sends_same = p.sends_nothing ∙ sym q.sends_nothing;
  after_same = p.no_handler ∙ sym q.no_handler;
}

handles_same : (s : Setup) (i stamp stamp2 : ℕ) (m m2 : Message) (l l2 x y : Local) (sends sends2 : List Message)
    (after after2 : Option After) → stamp ≡ stamp2 → m ≡ m2 → l ≡ l2
    → Handles s i stamp m l x sends after → Handles s i stamp2 m2 l2 y sends2 after2 → x.instructions ≡ y.instructions →
    x.handled ≡ y.handled → SameParts x y sends sends2 after after2
handles_same s i stamp stamp2 m m2 l l2 x y sends sends2 after after2 at same before p q0 instructions handled = record {
  mode = p.mode ∙ ap (λ (z : Ended). mode_after z.woke m.block l.mode) one ∙ sym q.mode;
  failed = p.failed ∙ ap (λ (z : Ended). failure z.end) one ∙ sym q.failed;
  cpu = p.cpu ∙ sym q.cpu;
  blocks = λ b. elim (cases_eq b m.block) [
    | inl k ↦ rw k (p.here ∙ ap (λ (z : Ended). z.here) one ∙ sym q.here)
    | inr d ↦ p.others b d ∙ sym (q.others b d)
  ];
  deferred = p.deferred ∙ ap (λ (z : Ended). with_kept z.kept m (freed_if z.freed m.block l.deferred)) one ∙ sym q.deferred;
  instructions = instructions;
  handled = handled;
  sends_same = p.outs ∙ ap (λ (z : Ended). outgoing s.protocol i m.block stamp z.sends) one ∙ sym q.outs;
  after_same = p.leaves ∙ ap (λ (z : Ended). Some (after_of m.block z)) one ∙ sym q.leaves;
}
  where
    q : Handles s i stamp m l y sends2 after2
    q = subst (λ k. Handles s i k m l y sends2 after2) (sym at)
        (subst (λ (z : Message). Handles s i stamp2 z l y sends2 after2) (sym same)
        (subst (λ (z : Local). Handles s i stamp2 m2 z y sends2 after2) (sym before) q0))

    one : p.ended ≡ q.ended
    one = one_end s.protocol (l.blocks m.block) m p.ended q.ended p.does q.does

waiting_head : (x y : Waiting) (xs ys : List Waiting) → x ∷ xs ≡ y ∷ ys → x ≡ y
waiting_head x y xs ys h = cc

waiting_tail : (x y : Waiting) (xs ys : List Waiting) → x ∷ xs ≡ y ∷ ys → xs ≡ ys
waiting_tail x y xs ys h = cc

abbrev eligible : Message → Waiting
eligible m = record { message = m; eligible = true }

-- a list has one first eligible message
pub first_one : (m m2 : Message) (xs ys xs2 ys2 whole : List Waiting) →
    whole ≡ xs ++ record { message = m; eligible = true } ∷ ys → whole ≡ xs2 ++ record { message = m2; eligible = true } ∷ ys2
    → Each IsStale xs → Each IsStale xs2 → (m ≡ m2) × (xs ++ ys ≡ xs2 ++ ys2)
first_one m m2 [] ys [] ys2 whole p q h k =
    let head : eligible m ≡ eligible m2 = waiting_head _ _ _ _ (sym p ∙ q) in
    (ap (λ (z : Waiting). z.message) head, waiting_tail _ _ _ _ (sym p ∙ q))
first_one m m2 [] ys (x ∷ xs2) ys2 whole p q h k =
    let head : eligible m ≡ x = waiting_head _ _ _ _ (sym p ∙ q) in
    let so : true ≡ x.eligible = ap (λ (z : Waiting). z.eligible) head in
    absurd (cc (so, k.0))
first_one m m2 (x ∷ xs) ys [] ys2 whole p q h k =
    let head : eligible m2 ≡ x = waiting_head _ _ _ _ (sym q ∙ p) in
    let so : true ≡ x.eligible = ap (λ (z : Waiting). z.eligible) head in
    absurd (cc (so, h.0))
first_one m m2 (x ∷ xs) ys (y ∷ xs2) ys2 whole p q h k =
    let rest = first_one m m2 xs ys xs2 ys2 (xs ++ eligible m ∷ ys) refl (waiting_tail _ _ _ _ (sym p ∙ q)) h.1 k.1 in
    let head : x ≡ y = waiting_head _ _ _ _ (sym p ∙ q) in
    (rest.0, ap (λ (z : Waiting). z ∷ (xs ++ ys)) head ∙ ap (λ (l : List Waiting). y ∷ l) rest.1)

pub acts_same : (s : Setup) (i : ℕ) (l : Local) (front front2 : Option Message) (x y : Local) (e e2 : Entry)
    (sends sends2 : List Message) (a : Act) → e.stamp ≡ e2.stamp → front ≡ front2
    → Acts s i l front x e sends a → Acts s i l front2 y e2 sends2 a → SameParts x y sends sends2 e.after e2.after
acts_same s i l front front2 x y e e2 sends sends2 (act.Load address value) at f p q =
    completes_same s i l front front2 x y e e2 sends sends2 _ _ _ p.0 q.0 (λ b. p.1.blocks b ∙ sym (q.1.blocks b))
acts_same s i l front front2 x y e e2 sends sends2 (act.Store address value) at f p q =
    completes_same s i l front front2 x y e e2 sends sends2 _ _ _ p.0 q.0 (λ b. elim (cases_eq b (block_of s address)) [
      | inl k ↦ rw k (p.1.block ∙ sym q.1.block)
      | inr d ↦ p.1.others b d ∙ sym (q.1.others b d)
    ])
acts_same s i l front front2 x y e e2 sends sends2 (act.Faa address value sum) at f p q =
    completes_same s i l front front2 x y e e2 sends sends2 _ _ _ p.0 q.0 (λ b. elim (cases_eq b (block_of s address)) [
      | inl k ↦ rw k (p.1.stores.block ∙ sym q.1.stores.block)
      | inr d ↦ p.1.stores.others b d ∙ sym (q.1.stores.others b d)
    ])
acts_same s i l front front2 x y e e2 sends sends2 (act.Print value) at f p q =
    completes_same s i l front front2 x y e e2 sends sends2 _ _ _ p.0 q.0 (λ b. p.1 b ∙ sym (q.1 b))
acts_same s i l front front2 x y e e2 sends sends2 act.Halt at f p q =
    completes_same s i l front front2 x y e e2 sends sends2 _ _ _ p.0 q.0 (λ b. p.1 b ∙ sym (q.1 b))
acts_same s i l front front2 x y e e2 sends sends2 (act.Trapped why) at f p q =
    completes_same s i l front front2 x y e e2 sends sends2 _ _ _ p.0 q.0 (λ b. p.1 b ∙ sym (q.1 b))
acts_same s i l front front2 x y e e2 sends sends2 act.Step at f p q =
    completes_same s i l front front2 x y e e2 sends sends2 _ _ _ p.0 q.0 (λ b. p.1 b ∙ sym (q.1 b))
acts_same s i l front front2 x y e e2 sends sends2 (act.Fault store block) at f p q =
    handles_same s i e.stamp e2.stamp _ _ _ _ x y sends sends2 e.after e2.after at refl refl p.handles q.handles
    (p.instructs.instructions ∙ sym q.instructs.instructions) (p.instructs.handled ∙ sym q.instructs.handled)
acts_same s i l front front2 x y e e2 sends sends2 (act.Redelivered kind block from) at f p q =
    let one = first_one p.message q.message p.earlier p.later q.earlier q.later l.deferred p.takes.found q.takes.found
    p.takes.stale q.takes.stale in
    handles_same s i e.stamp e2.stamp p.message q.message (record l { deferred = p.earlier ++ p.later })
    (record l { deferred = q.earlier ++ q.later }) x y sends sends2 e.after e2.after at
    one.0 (ap (λ (ws : List Waiting). record l { deferred = ws }) one.1) p.handles q.handles
    (p.counts.instructions ∙ sym q.counts.instructions) (p.counts.handled ∙ sym q.counts.handled)
acts_same s i l front front2 x y e e2 sends sends2 (act.Delivered kind block from chan number) at f p q =
    let one : p.message ≡ q.message = cc (p.is_front, q.is_front) in
    handles_same s i e.stamp e2.stamp p.message q.message l l x y sends sends2 e.after e2.after at one refl p.handles q.handles
    (p.counts.instructions ∙ sym q.counts.instructions) (p.counts.handled ∙ sym q.counts.handled)

pub step_sends : (s : Setup) (i : ℕ) (l : Local) (front front2 : Option Message) (x y : Local) (e : Entry)
    (sends sends2 : List Message) → front ≡ front2
    → LocalStep s i l front x e sends → LocalStep s i l front2 y e sends2 → sends ≡ sends2
step_sends s i l front front2 x y e sends sends2 f p q =
    (acts_same s i l front front2 x y e e sends sends2 e.act refl f p.acts q.acts).sends_same

pub step_local : (s : Setup) (i : ℕ) (l : Local) (front front2 : Option Message) (x y : Local) (e : Entry)
    (sends sends2 : List Message) → front ≡ front2
    → LocalStep s i l front x e sends → LocalStep s i l front2 y e sends2 → x ≡ y
step_local s i l front front2 x y e sends sends2 f p q =
    let parts = acts_same s i l front front2 x y e e sends sends2 e.act refl f p.acts q.acts in
    same_local x y sends sends2 e.after e.after parts (p.clock ∙ sym q.clock)
    (p.sent ∙ ap (λ (ms : List Message). l.sent + length ms) parts.sends_same ∙ sym q.sent)

-- what is taken is determined, where no wire has two fronts
pub acts_front : (s : Setup) (i : ℕ) (l : Local) (front front2 : Option Message) (x y : Local) (e e2 : Entry)
    (sends sends2 : List Message) (a : Act)
    → ((f : ℕ) (c : Chan) (m m2 : Message) → takes_from a f c ≡ true → front ≡ Some m → front2 ≡ Some m2 → m ≡ m2)
    → Acts s i l front x e sends a → Acts s i l front2 y e2 sends2 a → front ≡ front2
acts_front s i l front front2 x y e e2 sends sends2 (act.Load address value) h p q = p.0.instructs.no_front
    ∙ sym q.0.instructs.no_front
acts_front s i l front front2 x y e e2 sends sends2 (act.Store address value) h p q = p.0.instructs.no_front
    ∙ sym q.0.instructs.no_front
acts_front s i l front front2 x y e e2 sends sends2 (act.Faa address value sum) h p q = p.0.instructs.no_front
    ∙ sym q.0.instructs.no_front
acts_front s i l front front2 x y e e2 sends sends2 (act.Print value) h p q = p.0.instructs.no_front ∙ sym q.0.instructs.no_front
acts_front s i l front front2 x y e e2 sends sends2 act.Halt h p q = p.0.instructs.no_front ∙ sym q.0.instructs.no_front
acts_front s i l front front2 x y e e2 sends sends2 (act.Trapped why) h p q = p.0.instructs.no_front ∙ sym q.0.instructs.no_front
acts_front s i l front front2 x y e e2 sends sends2 act.Step h p q = p.0.instructs.no_front ∙ sym q.0.instructs.no_front
acts_front s i l front front2 x y e e2 sends sends2 (act.Fault store block) h p q = p.instructs.no_front
    ∙ sym q.instructs.no_front
acts_front s i l front front2 x y e e2 sends sends2 (act.Redelivered kind block from) h p q = p.no_front ∙ sym q.no_front
acts_front s i l front front2 x y e e2 sends sends2 (act.Delivered kind block from chan number) h p q =
    let here : (nat_eq from from && chan_eq chan chan) ≡ true = rw (nat_eq_refl from) (chan_eq_refl chan) in
    p.is_front ∙ ap (λ (m : Message). Some m) (h from chan p.message q.message here p.is_front q.is_front) ∙ sym q.is_front
