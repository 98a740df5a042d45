-- An event keeps what every run keeps, and is the model's step.
use Rattle.std.proofs.Common.{◌≡◌, ℕ, zero, suc, ◌+◌, ◌^◌, ◌<◌, Bool, true, false, ◌&&◌, nat_eq, if◌then◌else◌, Option, Some}
use Rattle.std.proofs.Common.{None, get_or, set, length, length-append, List, [], ◌∷◌, ◌++◌, arith, refl, sym, ap, ◌∙◌, subst}
use Rattle.std.proofs.Common.{inl, inr}
use Rattle.std.specs.Prelude.{slice_get, option_to_list}
use Rattle.std.specs.List.{filter, list_all}
use Rattle.std.proofs.Math.ListN.{length-set}
use Rattle.std.proofs.lemmas.Bool.{cases_eq}
use Rattle.std.proofs.lemmas.List.Folds.{list_all-append}
use Rattle.tw_base.specs.Lists.{Each}
use Rattle.tw_base.specs.declared.entry.Act.{Act}
use Rattle.tw_base.specs.declared.entry.Act.TheVariants as act
use Rattle.tw_base.specs.declared.entry.Event.{Event}
use Rattle.tw_base.specs.declared.entry.Event.TheVariants as event
use Rattle.tw_base.specs.declared.message.Chan.{Chan}
use Rattle.tw_base.specs.declared.message.Kind.{Kind}
use Rattle.tw_base.specs.declared.message.Message.{Message}
use Rattle.dsm_model.specs.declared.handle.Made.{Made}
use Rattle.dsm_model.specs.declared.local.Local.{Local as Node}
use Rattle.dsm_model.specs.declared.outbox.Outbox.{Outbox}
use Rattle.dsm_runs.specs.Setups.{Setup}
use Rattle.dsm_runs.specs.Events.{LocalStep}
use Rattle.dsm_model.specs.Kept.{AreSound, IsCounted, IsKept, IsSound, is_for, sent_at}
use Rattle.dsm_model.specs.Makes.{IsMade}
use Rattle.dsm_runs.specs.Messages.{chan_eq, numbered, on_wire, posted}
use Rattle.dsm_model.specs.Posts.{HasSent, HasTaken, HaveMadeRoom}
use Rattle.dsm_model.specs.Views.{AllRoom, local_at, local_of, locals_of, nexts_of, state_of, wires_of}
use Rattle.dsm_runs.specs.Worlds.{Step, event_at, event_of, takes_from}
use Rattle.dsm_runs.proofs.Facts.{nothing_if, false_right}
use Rattle.dsm_runs.proofs.Lists.{Each-implied, and_left, and_right, length-numbered}
use Rattle.dsm_runs.proofs.Sends.{IsSent, step_sent}
use Rattle.dsm_model.proofs.Handlings.{all-both, both, slice_get_other, slice_get_same}
use Rattle.dsm_model.proofs.Posting.{as_many, few_pass, none_elsewhere}

-- ---- the nodes

some_node : (x y : Node) → Some x ≡ Some y → x ≡ y
some_node x y h = cc

set_same : (xs : List Node) (i : ℕ) (d : Node) → i < length xs → set xs i (get_or xs i d) ≡ xs
set_same [] i d l = refl
set_same (x ∷ xs) zero d l = refl
set_same (x ∷ xs) (suc i) d l = ap (λ (ys : List Node). x ∷ ys) (set_same xs i d (omega arith))

set_there : (xs : List Node) (i j : ℕ) (d new : Node) → j ≡ i → i < length xs → new ≡ get_or xs j d → set xs j new ≡ xs
set_there xs i j d new at l stayed = ap (λ (x : Node). set xs j x) stayed ∙ set_same xs j d (omega (arith, at, l))

pub sound_set : (s : Setup) (locals : List Node) (i : ℕ) (new : Node) → i < length locals → AreSound s locals → IsSound s new →
    AreSound s (set locals i new)
sound_set s locals i new l sound is k x at = elim (cases_eq k i) [
  | inl e ↦ subst (λ (y : Node). IsSound s y) (some_node new x
      (sym (slice_get_same locals i new l) ∙ subst (λ j. slice_get (set locals i new) j ≡ Some x) e at)) is
  | inr d ↦ sound k x (sym (slice_get_other locals i k new d) ∙ at)
]

-- ---- the wires

for_numbered : (n k : ℕ) (ms : List Message) → list_all (is_for n) (numbered k ms) ≡ list_all (is_for n) ms
for_numbered n k [] = refl
for_numbered n k (m ∷ ms) = ap (λ b. is_for n m && b) (for_numbered n (suc k) ms)

for_filter : (n : ℕ) (p : Message → Bool) (ms : List Message) → list_all (is_for n) ms ≡ true →
    list_all (is_for n) (filter p ms) ≡ true
for_filter n p [] h = h
for_filter n p (m ∷ ms) h = go (p m) (and_left (is_for n m) (list_all (is_for n) ms) h)
    (for_filter n p ms (and_right (is_for n m) (list_all (is_for n) ms) h))
  where
    go : (b : Bool) → is_for n m ≡ true → list_all (is_for n) (filter p ms) ≡ true →
        list_all (is_for n) (if b then m ∷ filter p ms else filter p ms) ≡ true
    go true a r = both (is_for n m) (list_all (is_for n) (filter p ms)) a r
    go false a r = r

for_behind : (n : ℕ) (xs ys : List Message) → list_all (is_for n) (xs ++ ys) ≡ true → list_all (is_for n) ys ≡ true
for_behind n xs ys h = and_right (list_all (is_for n) xs) (list_all (is_for n) ys) (sym (list_all-append (is_for n) xs ys) ∙ h)

-- a message is taken
pub counted_taken : (s : Setup) (locals : List Node) (outboxes outboxes2 : List Outbox) (from to : ℕ) (chan : Chan)
    (front : Option Message) → HasTaken outboxes outboxes2 from to chan front → IsCounted s locals outboxes →
    IsCounted s locals outboxes2
counted_taken s locals outboxes outboxes2 from to chan front has h = record {
  held = λ f t c.
      let lost = (if nat_eq t to && (nat_eq f from && chan_eq c chan) then option_to_list front else []) in
      omega (arith, ap length (has.wires f t c), length-append lost (wires_of outboxes2 f t c), has.next f t c, h.held f t c);
  sent = λ f t c. omega (arith, has.next f t c, h.sent f t c);
  blocks = λ f t c. for_behind s.shape.blocks (if nat_eq t to && (nat_eq f from && chan_eq c chan) then option_to_list front
      else []) (wires_of outboxes2 f t c) (subst (λ (ms : List Message). list_all (is_for s.shape.blocks) ms ≡ true)
      (has.wires f t c) (h.blocks f t c));
}

-- a message is taken after room was made
pub taken_after : (a b d : List Outbox) (from to : ℕ) (chan : Chan) (front : Option Message) → HaveMadeRoom a b →
    HasTaken b d from to chan front → HasTaken a d from to chan front
taken_after a b d from to chan front made has = record {
  is_front = has.is_front ∙ ap (λ (ms : List Message). slice_get ms 0) (as_many a b made.same from to chan);
  wires = λ f t c. sym (as_many a b made.same f t c) ∙ has.wires f t c;
  next = λ f t c. omega (arith, has.next f t c, made.same.next f t c);
  rooms = λ f t c. omega (arith, has.rooms f t c, made.more f t c);
  size = has.size ∙ made.same.size;
  room = has.room;
}

-- a node makes an event, and its messages are sent
pub counted_sent : (s : Setup) (locals : List Node) (outboxes outboxes2 : List Outbox) (i : ℕ) (old new : Node)
    (sends : List Message)
    → slice_get locals i ≡ Some old → i < length locals → new.sent ≡ old.sent + length sends → Each (λ m. m.from ≡ i) sends →
    list_all (is_for s.shape.blocks) sends ≡ true
    → HasSent outboxes outboxes2 sends → IsCounted s locals outboxes → IsCounted s (set locals i new) outboxes2
counted_sent s locals outboxes outboxes2 i old new sends at l more from blocks has h = record {
  held = λ f t c.
      let new_ones = filter (on_wire f t c) sends in
      omega (
        arith,
        ap length (has.wires f t c),
        length-append (wires_of outboxes f t c)
            (numbered (nexts_of outboxes f t c) new_ones),
        length-numbered (nexts_of outboxes f t c) new_ones,
        has.next f t c,
        h.held f t c,
      );
  sent = λ f t c. elim (cases_eq f i) [
    | inl e ↦
        let before : sent_at (slice_get locals f) ≡ old.sent = ap (λ k. sent_at (slice_get locals k)) e ∙ ap sent_at at in
        let after : sent_at (slice_get (set locals i new) f) ≡ new.sent = ap (λ k. sent_at (slice_get (set locals i new) k)) e
        ∙ ap sent_at (slice_get_same locals i new l) in
        omega (arith, has.next f t c, h.sent f t c, before, after, more, few_pass (on_wire f t c) sends)
    | inr d ↦
        let after : sent_at (slice_get (set locals i new) f) ≡ sent_at (slice_get locals f) =
        ap sent_at (slice_get_other locals i f new d) in
        omega (arith, has.next f t c, h.sent f t c, after, ap length (none_elsewhere i f t c sends d from))
  ];
  blocks = λ f t c. ap (λ (ms : List Message). list_all (is_for s.shape.blocks) ms) (has.wires f t c)
      ∙ all-both (is_for s.shape.blocks) (wires_of outboxes f t c)
      (numbered (nexts_of outboxes f t c) (filter (on_wire f t c) sends)) (h.blocks f t c)
      (for_numbered s.shape.blocks (nexts_of outboxes f t c) (filter (on_wire f t c) sends)
      ∙ for_filter s.shape.blocks (on_wire f t c) sends blocks);
}

pub made_from : (s : Setup) (me : ℕ) (e : Event) (old : Node) (front : Option Message) (new : Node) (made : Made) →
    IsMade s me e old front new made → Each (λ m. m.from ≡ me) made.sends
made_from s me e old front new made is = Each-implied (IsSent me made.entry.stamp) (λ m. m.from ≡ me) made.sends
    (λ m h. h.sender) (step_sent s me (local_of s me old) front (local_of s me new) made.entry made.sends is.step)

-- what is kept, when an event was made and its messages were sent
pub kept_after : (s : Setup) (locals : List Node) (outboxes outboxes2 outboxes3 : List Outbox) (i : ℕ) (e : Event) (old : Node)
    (front : Option Message) (new : Node) (made : Made)
    → IsKept s locals outboxes → slice_get locals i ≡ Some old → i < length locals → IsMade s i e old front new made
    → length outboxes2 ≡ length outboxes → IsCounted s locals outboxes2 → HasSent outboxes2 outboxes3 made.sends →
    IsKept s (set locals i new) outboxes3
kept_after s locals outboxes outboxes2 outboxes3 i e old front new made kept at l is size counted sent = record {
  nodes = length-set locals i new ∙ kept.nodes;
  senders = sent.size ∙ size ∙ kept.senders;
  room = sent.room;
  sound = sound_set s locals i new l kept.sound is.sound;
  counted = counted_sent s locals outboxes2 outboxes3 i old new made.sends at l is.step.sent
      (made_from s i e old front new made is) is.blocks sent counted;
}

-- room was made
pub counted_room : (s : Setup) (locals : List Node) (outboxes outboxes2 : List Outbox) → HasSent outboxes outboxes2 [] →
    IsCounted s locals outboxes → IsCounted s locals outboxes2
counted_room s locals outboxes outboxes2 same h = record {
  held = λ f t c. omega (arith, h.held f t c, same.next f t c, ap length (as_many outboxes outboxes2 same f t c));
  sent = λ f t c. omega (arith, h.sent f t c, same.next f t c);
  blocks = λ f t c. ap (λ (ms : List Message). list_all (is_for s.shape.blocks) ms) (as_many outboxes outboxes2 same f t c)
      ∙ h.blocks f t c;
}

-- room was made, and the node stayed
pub room_kept : (s : Setup) (locals : List Node) (outboxes outboxes2 : List Outbox) (i j : ℕ) (d new : Node) →
    IsKept s locals outboxes → j ≡ i → i < length locals → new ≡ get_or locals j d → HasSent outboxes outboxes2 []
    → IsKept s (set locals j new) outboxes2
room_kept s locals outboxes outboxes2 i j d new kept at l stayed same =
    subst (λ (ls : List Node). IsKept s ls outboxes2) (sym (set_there locals i j d new at l stayed))
    (record {
      nodes = kept.nodes;
      senders = same.size ∙ kept.senders;
      room = same.room;
      sound = kept.sound;
      counted = counted_room s locals outboxes outboxes2 same kept.counted;
    })

pub room_same : (s : Setup) (locals : List Node) (outboxes outboxes2 : List Outbox) (i j : ℕ) (d new : Node) → j ≡ i →
    i < length locals → new ≡ get_or locals j d → HasSent outboxes outboxes2 []
    → state_of s (set locals j new) outboxes2 ≡ state_of s locals outboxes
room_same s locals outboxes outboxes2 i j d new at l stayed same =
    ap (λ (ls : List Node). state_of s ls outboxes2) (set_there locals i j d new at l stayed) ∙ same_wires
  where
    next : (f t : ℕ) (c : Chan) → nexts_of outboxes2 f t c ≡ nexts_of outboxes f t c
    next f t c = omega (arith, same.next f t c)

    same_wires : state_of s locals outboxes2 ≡ state_of s locals outboxes
    same_wires = λ k. record {
      locals = locals_of s locals;
      wires = λ f t c. as_many outboxes outboxes2 same f t c k;
      next = λ f t c. next f t c k;
    }

-- ---- the step

-- an event that takes nothing
pub step_untaken : (s : Setup) (locals : List Node) (outboxes outboxes2 : List Outbox) (i : ℕ) (e : Event) (old new : Node)
    (made : Made)
    → slice_get locals i ≡ Some old → i < length locals → IsMade s i e old None new made →
    ((f : ℕ) (c : Chan) → takes_from made.entry.act f c ≡ false) → HasSent outboxes outboxes2 made.sends
    → (event_of made.entry ≡ e) × Step s (state_of s locals outboxes) made.entry (state_of s (set locals i new) outboxes2)
step_untaken s locals outboxes outboxes2 i e old new made at l is none sent = (
  ap (λ k. event_at k made.entry.act) is.step.node ∙ is.event,
  record {
    front = None;
    sends = made.sends;
    between = wires_of outboxes;
    local = subst (λ k. LocalStep s k (local_at s k (slice_get locals k)) None
        (local_at s k (slice_get (set locals i new) k)) made.entry made.sends) (sym is.step.node)
        (rw (slice_get_same locals i new l, at) is.step);
    others = λ k d. ap (λ (o : Option Node). local_at s k o) (slice_get_other locals i k new (λ q. d (q ∙ sym is.step.node)));
    takes = λ f t c. ap (λ (ms : List Message). ms ++ wires_of outboxes f t c)
        (sym (nothing_if (nat_eq t made.entry.node && takes_from made.entry.act f c) None
        (false_right (nat_eq t made.entry.node) (takes_from made.entry.act f c) (none f c))));
    wires = sent.wires;
    next = sent.next;
  },
)

untaken_instr : (i j : ℕ) (a : Act) → event_at i a ≡ event.Instr j → (f : ℕ) (c : Chan) → takes_from a f c ≡ false
untaken_instr i j (act.Load address value) h f c = refl
untaken_instr i j (act.Store address value) h f c = refl
untaken_instr i j (act.Faa address value sum) h f c = refl
untaken_instr i j (act.Print value) h f c = refl
untaken_instr i j act.Halt h f c = refl
untaken_instr i j (act.Trapped why) h f c = refl
untaken_instr i j act.Step h f c = refl
untaken_instr i j (act.Fault store b) h f c = refl
untaken_instr i j (act.Redelivered kind b from) h f c = refl
untaken_instr i j (act.Delivered kind b from chan number) h f c = absurd cc

untaken_redelivery : (i j : ℕ) (a : Act) → event_at i a ≡ event.Redeliver j → (f : ℕ) (c : Chan) → takes_from a f c ≡ false
untaken_redelivery i j (act.Load address value) h f c = refl
untaken_redelivery i j (act.Store address value) h f c = refl
untaken_redelivery i j (act.Faa address value sum) h f c = refl
untaken_redelivery i j (act.Print value) h f c = refl
untaken_redelivery i j act.Halt h f c = refl
untaken_redelivery i j (act.Trapped why) h f c = refl
untaken_redelivery i j act.Step h f c = refl
untaken_redelivery i j (act.Fault store b) h f c = refl
untaken_redelivery i j (act.Redelivered kind b from) h f c = refl
untaken_redelivery i j (act.Delivered kind b from chan number) h f c = absurd cc

pub step_instr : (s : Setup) (locals : List Node) (outboxes outboxes2 : List Outbox) (i : ℕ) (old new : Node) (made : Made)
    → slice_get locals i ≡ Some old → i < length locals → IsMade s i (event.Instr i) old None new made →
    HasSent outboxes outboxes2 made.sends
    → (event_of made.entry ≡ event.Instr i) × Step s (state_of s locals outboxes) made.entry
    (state_of s (set locals i new) outboxes2)
step_instr s locals outboxes outboxes2 i old new made at l is sent =
    step_untaken s locals outboxes outboxes2 i (event.Instr i) old new made at l is
    (untaken_instr i i made.entry.act is.event) sent

pub step_redelivery : (s : Setup) (locals : List Node) (outboxes outboxes2 : List Outbox) (i : ℕ) (old new : Node) (made : Made)
    → slice_get locals i ≡ Some old → i < length locals → IsMade s i (event.Redeliver i) old None new made →
    HasSent outboxes outboxes2 made.sends
    → (event_of made.entry ≡ event.Redeliver i) × Step s (state_of s locals outboxes) made.entry
    (state_of s (set locals i new) outboxes2)
step_redelivery s locals outboxes outboxes2 i old new made at l is sent =
    step_untaken s locals outboxes outboxes2 i (event.Redeliver i) old new made at l is
    (untaken_redelivery i i made.entry.act is.event) sent

pub step_delivery : (s : Setup) (locals : List Node) (outboxes outboxes2 outboxes3 : List Outbox) (i from : ℕ) (chan : Chan)
    (kind : Kind) (block number : ℕ) (m : Message) (old new : Node) (made : Made)
    → slice_get locals i ≡ Some old → i < length locals → IsMade s i (event.Deliver i from chan) old (Some m) new made →
    made.entry.act ≡ act.Delivered kind block from chan number
    → HasTaken outboxes outboxes2 from i chan (Some m) → HasSent outboxes2 outboxes3 made.sends
    → (event_of made.entry ≡ event.Deliver i from chan) × Step s (state_of s locals outboxes) made.entry
    (state_of s (set locals i new) outboxes3)
step_delivery s locals outboxes outboxes2 outboxes3 i from chan kind block number m old new made at l is act_is took sent = (
  ap (λ k. event_at k made.entry.act) is.step.node ∙ is.event,
  record {
    front = Some m;
    sends = made.sends;
    between = wires_of outboxes2;
    local = subst (λ k. LocalStep s k (local_at s k (slice_get locals k)) (Some m)
        (local_at s k (slice_get (set locals i new) k)) made.entry made.sends) (sym is.step.node)
        (rw (slice_get_same locals i new l, at) is.step);
    others = λ k d. ap (λ (o : Option Node). local_at s k o) (slice_get_other locals i k new (λ q. d (q ∙ sym is.step.node)));
    takes = λ f t c. rw (act_is, is.step.node) (took.wires f t c);
    wires = λ f t c. sent.wires f t c ∙ ap (λ k. wires_of outboxes2 f t c ++ posted k f t c made.sends) (took.next f t c);
    next = λ f t c. sent.next f t c ∙ ap (λ k. k + length (filter (on_wire f t c) made.sends)) (took.next f t c);
  },
)

-- ---- the start

pub kept_first : (s : Setup) (locals : List Node) (outboxes : List Outbox) → length locals ≡ s.shape.nodes →
    length outboxes ≡ s.shape.nodes → AllRoom outboxes → AreSound s locals
    → ((f t : ℕ) (c : Chan) → wires_of outboxes f t c ≡ []) → ((f t : ℕ) (c : Chan) → nexts_of outboxes f t c ≡ 0) →
    IsKept s locals outboxes
kept_first s locals outboxes nodes senders room sound empty next = record {
  nodes = nodes;
  senders = senders;
  room = room;
  sound = sound;
  counted = record {
    held = λ f t c. omega (arith, ap length (empty f t c));
    sent = λ f t c. omega (arith, next f t c);
    blocks = λ f t c. ap (λ (ms : List Message). list_all (is_for s.shape.blocks) ms) (empty f t c);
  };
}

few_sent : (s : Setup) (locals : List Node) → AreSound s locals → (f : ℕ) (o : Option Node) → slice_get locals f ≡ o →
    sent_at o < 2 ^ 32
few_sent s locals sound f None h = omega arith
few_sent s locals sound f (Some l) h = (sound f l h).few

-- a wire holds so few messages that a u32 counts them
pub few_held : (s : Setup) (locals : List Node) (outboxes : List Outbox) → IsKept s locals outboxes → (f t : ℕ) (c : Chan) →
    length (wires_of outboxes f t c) < 2 ^ 32
few_held s locals outboxes kept f t c = omega (
  arith,
  kept.counted.held f t c,
  kept.counted.sent f t c,
  few_sent s locals kept.sound f (slice_get locals f) refl,
)

-- ---- at the calls

pub made_kept : (s : Setup) (locals : List Node) (outboxes outboxes2 outboxes3 : List Outbox) (i j : ℕ) (e : Event)
    (old : Node) (front : Option Message) (new : Node) (made : Made) (sends : List Message)
    → IsKept s locals outboxes → j ≡ i → slice_get locals i ≡ Some old → IsMade s i e old front new made →
    length outboxes2 ≡ length outboxes → IsCounted s locals outboxes2 → sends ≡ made.sends →
    HasSent outboxes2 outboxes3 sends
    → IsKept s (set locals j new) outboxes3
made_kept s locals outboxes outboxes2 outboxes3 i j e old front new made sends kept same at is size counted all sent =
    subst (λ k. IsKept s (set locals k new) outboxes3) (sym same)
    (kept_after s locals outboxes outboxes2 outboxes3 i e old front new made kept at
    (omega (arith, kept.nodes, is.step.at_node)) is size counted
    (subst (λ (ms : List Message). HasSent outboxes2 outboxes3 ms) all sent))

pub made_few : (s : Setup) (locals : List Node) (outboxes outboxes2 : List Outbox) (i : ℕ) (e : Event) (old : Node)
    (front : Option Message) (new : Node) (made : Made) (sends : List Message)
    → IsKept s locals outboxes → IsMade s i e old front new made → sends ≡ made.sends →
    ((f t : ℕ) (c : Chan) → nexts_of outboxes2 f t c ≡ nexts_of outboxes f t c) → (f t : ℕ) (c : Chan) →
    nexts_of outboxes2 f t c + length sends < 2 ^ 64
made_few s locals outboxes outboxes2 i e old front new made sends kept is all next f t c =
    omega (
      arith,
      next f t c,
      kept.counted.sent f t c,
      few_sent s locals kept.sound f (slice_get locals f) refl,
      is.step.sent,
      is.sound.few,
      ap (λ (ms : List Message). length ms) all,
    )

pub made_senders : (s : Setup) (locals : List Node) (outboxes outboxes2 : List Outbox) (i : ℕ) (e : Event) (old : Node)
    (front : Option Message) (new : Node) (made : Made) (sends : List Message)
    → IsKept s locals outboxes → IsMade s i e old front new made → sends ≡ made.sends → length outboxes2 ≡ length outboxes →
    Each (λ m. m.from < length outboxes2) sends
made_senders s locals outboxes outboxes2 i e old front new made sends kept is all size =
    subst (λ (ms : List Message). Each (λ m. m.from < length outboxes2) ms) (sym all)
    (Each-implied (λ m. m.from ≡ i) (λ m. m.from < length outboxes2) made.sends
    (λ m h. omega (arith, h, size, kept.senders, is.step.at_node)) (made_from s i e old front new made is))

pub made_instr : (s : Setup) (locals : List Node) (outboxes outboxes2 : List Outbox) (i j : ℕ) (old new : Node) (made : Made)
    (sends : List Message)
    → IsKept s locals outboxes → j ≡ i → slice_get locals i ≡ Some old → IsMade s i (event.Instr i) old None new made →
    sends ≡ made.sends → HasSent outboxes outboxes2 sends
    → (event_of made.entry ≡ event.Instr i) × Step s (state_of s locals outboxes) made.entry
    (state_of s (set locals j new) outboxes2)
made_instr s locals outboxes outboxes2 i j old new made sends kept same at is all sent =
    subst (λ k. (event_of made.entry ≡ event.Instr i) × Step s (state_of s locals outboxes) made.entry
    (state_of s (set locals k new) outboxes2)) (sym same)
    (step_instr s locals outboxes outboxes2 i old new made at (omega (arith, kept.nodes, is.step.at_node)) is
    (subst (λ (ms : List Message). HasSent outboxes outboxes2 ms) all sent))

pub made_redelivery : (s : Setup) (locals : List Node) (outboxes outboxes2 : List Outbox) (i j : ℕ) (old new : Node)
    (made : Made) (sends : List Message)
    → IsKept s locals outboxes → j ≡ i → slice_get locals i ≡ Some old → IsMade s i (event.Redeliver i) old None new made →
    sends ≡ made.sends → HasSent outboxes outboxes2 sends
    → (event_of made.entry ≡ event.Redeliver i) × Step s (state_of s locals outboxes) made.entry
    (state_of s (set locals j new) outboxes2)
made_redelivery s locals outboxes outboxes2 i j old new made sends kept same at is all sent =
    subst (λ k. (event_of made.entry ≡ event.Redeliver i) × Step s (state_of s locals outboxes) made.entry
    (state_of s (set locals k new) outboxes2)) (sym same)
    (step_redelivery s locals outboxes outboxes2 i old new made at (omega (arith, kept.nodes, is.step.at_node)) is
    (subst (λ (ms : List Message). HasSent outboxes outboxes2 ms) all sent))

pub made_delivery : (s : Setup) (locals : List Node) (outboxes outboxes2 outboxes3 : List Outbox) (i j from : ℕ) (chan : Chan)
    (m : Message) (front : Option Message) (old new : Node) (made : Made) (sends : List Message)
    → IsKept s locals outboxes → j ≡ i → slice_get locals i ≡ Some old →
    IsMade s i (event.Deliver i from chan) old (Some m) new made →
    made.entry.act ≡ act.Delivered m.kind m.block from chan m.number
    → HasTaken outboxes outboxes2 from i chan front → slice_get (wires_of outboxes from i chan) 0 ≡ Some m →
    sends ≡ made.sends → HasSent outboxes2 outboxes3 sends
    → (event_of made.entry ≡ event.Deliver i from chan) × Step s (state_of s locals outboxes) made.entry
    (state_of s (set locals j new) outboxes3)
made_delivery s locals outboxes outboxes2 outboxes3 i j from chan m front old new made sends kept same at is act_is took there
    all sent =
    subst (λ k. (event_of made.entry ≡ event.Deliver i from chan)
    × Step s (state_of s locals outboxes) made.entry (state_of s (set locals k new) outboxes3)) (sym same)
    (step_delivery s locals outboxes outboxes2 outboxes3 i from chan m.kind m.block m.number m old new made at
    (omega (arith, kept.nodes, is.step.at_node)) is act_is
    (subst (λ (o : Option Message). HasTaken outboxes outboxes2 from i chan o) (took.is_front ∙ there) took)
    (subst (λ (ms : List Message). HasSent outboxes2 outboxes3 ms) all sent))
