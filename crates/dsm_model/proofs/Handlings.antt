-- A node that handles a message makes the model's event.
use Rattle.std.proofs.Common.{◌≡◌, ◌≢◌, ℕ, zero, suc, ◌+◌, ◌<◌, ◌^◌, nat_lt, Bool, true, false, ◌&&◌, List, [], ◌∷◌, ◌++◌}
use Rattle.std.proofs.Common.{length, map, set, Option, Some, None, refl, ap, sym, ◌∙◌, subst, arith}
use Rattle.std.specs.Prelude.{slice_get, unwrap_or}
use Rattle.std.specs.List.{list_all}
use Rattle.std.proofs.Math.ListN.{length-set}
use Rattle.std.proofs.lemmas.Bool.Decides.{Decides-ltb}
use Rattle.std.proofs.lemmas.List.Folds.{list_all-append}
use Rattle.tw_base.specs.Lists.{Each}
use Rattle.tw_base.specs.declared.entry.Act.TheVariants as act
use Rattle.tw_base.specs.declared.entry.Event.{Event}
use Rattle.tw_base.specs.declared.entry.Event.TheVariants as event
use Rattle.tw_base.specs.declared.message.Chan.{Chan}
use Rattle.tw_base.specs.declared.message.Message.{Message}
use Rattle.teapot_meaning.specs.Does.{Does}
use Rattle.teapot_meaning.specs.declared.state.Here.{Here}
use Rattle.teapot_meaning.specs.declared.state.Kept.{Kept}
use Rattle.teapot_meaning.specs.declared.state.Kept.TheVariants as kept
use Rattle.teapot_meaning.specs.declared.state.Out.{Out}
use Rattle.teapot_tree.specs.declared.protocol.Protocol.{Protocol}
use Rattle.dsm_model.specs.declared.handle.Handling.{Handling}
use Rattle.dsm_model.specs.declared.handle.Made.{Made}
use Rattle.dsm_model.specs.declared.local.Local.{Local as Node}
use Rattle.dsm_runs.specs.declared.mode.Mode.{Mode}
use Rattle.dsm_runs.specs.declared.mode.Mode.TheVariants as mode
use Rattle.dsm_runs.specs.declared.mode.Waiting.{Waiting}
use Rattle.dsm_runs.specs.Setups.{Setup, asked, first_here}
use Rattle.dsm_runs.specs.Locals.{Local, IsFirst, IsStale, MayHandle, MayInstruct, last_stamp}
use Rattle.dsm_runs.specs.Messages.{fault, message_of, outgoing}
use Rattle.dsm_runs.specs.Events.{Handles, IsRefused, after_of, free, freed_if, latest, mode_after, with_kept}
use Rattle.dsm_model.specs.Kept.{IsSound, is_for, is_served}
use Rattle.dsm_model.specs.Makes.{IsHandling, IsMade, handled_entry, handled_node}
use Rattle.dsm_model.specs.Views.{local_of}
use Rattle.dsm_runs.proofs.Lists.{and_left, and_right}

-- ---- places of lists

pub slice_get_same : {A : Type 0} (xs : List A) (i : ℕ) (v : A) → i < length xs → slice_get (set xs i v) i ≡ Some v
slice_get_same [] i v l = absurd (omega arith)
slice_get_same (x ∷ xs) zero v l = refl
slice_get_same (x ∷ xs) (suc i) v l = slice_get_same xs i v (omega arith)

pub slice_get_other : {A : Type 0} (xs : List A) (i j : ℕ) (v : A) → j ≢ i → slice_get (set xs i v) j ≡ slice_get xs j
slice_get_other [] i j v d = refl
slice_get_other (x ∷ xs) zero zero v d = absurd (d refl)
slice_get_other (x ∷ xs) zero (suc j) v d = refl
slice_get_other (x ∷ xs) (suc i) zero v d = refl
slice_get_other (x ∷ xs) (suc i) (suc j) v d = slice_get_other xs i j v (λ q. d (ap suc q))

pub both : (a b : Bool) → a ≡ true → b ≡ true → (a && b) ≡ true
both true b h k = k
both false b h k = h

pub all-set : {A : Type 0} (p : A → Bool) (xs : List A) (i : ℕ) (v : A) → list_all p xs ≡ true → p v ≡ true →
    list_all p (set xs i v) ≡ true
all-set p [] i v h k = h
all-set p (x ∷ xs) zero v h k = both (p v) (list_all p xs) k (and_right (p x) (list_all p xs) h)
all-set p (x ∷ xs) (suc i) v h k = both (p x) (list_all p (set xs i v)) (and_left (p x) (list_all p xs) h)
    (all-set p xs i v (and_right (p x) (list_all p xs) h) k)

pub all-get : {A : Type 0} (p : A → Bool) (xs : List A) (i : ℕ) (v : A) → list_all p xs ≡ true → slice_get xs i ≡ Some v →
    p v ≡ true
all-get p [] i v h k = absurd cc
all-get {A} p (x ∷ xs) zero v h k =
    let same : x ≡ v = cc in
    subst (λ (y : A). p y ≡ true) same (and_left (p x) (list_all p xs) h)
all-get p (x ∷ xs) (suc i) v h k = all-get p xs i v (and_right (p x) (list_all p xs) h) k

pub all-both : {A : Type 0} (p : A → Bool) (xs ys : List A) → list_all p xs ≡ true → list_all p ys ≡ true →
    list_all p (xs ++ ys) ≡ true
all-both p xs ys h k = list_all-append p xs ys ∙ both (list_all p xs) (list_all p ys) h k

-- ---- messages that are deferred

abbrev pub is_waiting_for : ℕ → Waiting → Bool
is_waiting_for n w = is_for n w.message

freed_for : (n b : ℕ) (ws : List Waiting) → list_all (is_waiting_for n) ws ≡ true →
    list_all (is_waiting_for n) (map (free b) ws) ≡ true
freed_for n b [] h = h
freed_for n b (w ∷ ws) h = both (is_waiting_for n w) (list_all (is_waiting_for n) (map (free b) ws))
    (and_left (is_waiting_for n w) (list_all (is_waiting_for n) ws) h)
    (freed_for n b ws (and_right (is_waiting_for n w) (list_all (is_waiting_for n) ws) h))

freed_if_for : (n b : ℕ) (is : Bool) (ws : List Waiting) → list_all (is_waiting_for n) ws ≡ true →
    list_all (is_waiting_for n) (freed_if is b ws) ≡ true
freed_if_for n b true ws h = freed_for n b ws h
freed_if_for n b false ws h = h

kept_for : (n : ℕ) (k : Kept) (m : Message) (ws : List Waiting) → is_for n m ≡ true → list_all (is_waiting_for n) ws ≡ true →
    list_all (is_waiting_for n) (with_kept k m ws) ≡ true
kept_for n kept.No m ws g h = h
kept_for n kept.Stale m ws g h = all-both (is_waiting_for n) ws (record { message = m; eligible = false } ∷ []) h
    (both (is_for n m) true g refl)
kept_for n kept.Eligible m ws g h = all-both (is_waiting_for n) ws (record { message = m; eligible = true } ∷ []) h
    (both (is_for n m) true g refl)

pub deferred_for : (n : ℕ) (k : Kept) (is : Bool) (m : Message) (ws ds : List Waiting) → is_for n m ≡ true →
    list_all (is_waiting_for n) ws ≡ true → ds ≡ with_kept k m (freed_if is m.block ws) → list_all (is_waiting_for n) ds ≡ true
deferred_for n k is m ws ds g h e = ap (λ (xs : List Waiting). list_all (is_waiting_for n) xs) e
    ∙ kept_for n k m (freed_if is m.block ws) g (freed_if_for n m.block is ws h)

-- ---- messages that are sent

outgoing_for : (p : Protocol) (n i b stamp : ℕ) (os : List Out) → nat_lt b n ≡ true →
    list_all (is_for n) (outgoing p i b stamp os) ≡ true
outgoing_for p n i b stamp [] h = refl
outgoing_for p n i b stamp (o ∷ os) h = both (nat_lt b n) (list_all (is_for n) (outgoing p i b stamp os)) h
    (outgoing_for p n i b stamp os h)

pub outgoing-map : (p : Protocol) (i b stamp : ℕ) (os : List Out) → map (message_of p i b stamp) os ≡ outgoing p i b stamp os
outgoing-map p i b stamp [] = refl
outgoing-map p i b stamp (o ∷ os) = ap (λ (ms : List Message). message_of p i b stamp o ∷ ms) (outgoing-map p i b stamp os)

pub mapped_from : (p : Protocol) (i b stamp n : ℕ) (os : List Out) → i < n →
    Each (λ m. m.from < n) (map (message_of p i b stamp) os)
mapped_from p i b stamp n [] l = tt
mapped_from p i b stamp n (o ∷ os) l = (l, mapped_from p i b stamp n os l)

sends_for : (p : Protocol) (n i b stamp : ℕ) (os : List Out) (sends : List Message) → sends ≡ outgoing p i b stamp os → b < n →
    list_all (is_for n) sends ≡ true
sends_for p n i b stamp os sends e lt = ap (λ (ms : List Message). list_all (is_for n) ms) e
    ∙ outgoing_for p n i b stamp os ((Decides-ltb b n).1 lt)

-- ---- the node

block-is : (s : Setup) (me : ℕ) (l : Node) (b : ℕ) (here : Here) → slice_get l.blocks b ≡ Some here →
    (local_of s me l).blocks b ≡ here
block-is s me l b here at = ap (λ (o : Option Here). unwrap_or o (first_here s me b)) at

pub handles : (s : Setup) (me stamp : ℕ) (m : Message) (before : Local) (l : Node) (here : Here) (h : Handling)
    → m.block < length l.blocks → slice_get l.blocks m.block ≡ Some here → IsHandling s me stamp m here h
    → before.mode ≡ l.mode → before.cpu ≡ l.cpu → l.deferred
    ≡ with_kept h.ended.kept m (freed_if h.ended.freed m.block before.deferred) →
    ((b : ℕ) → before.blocks b ≡ (local_of s me l).blocks b)
    → Handles s me stamp m before (local_of s me (handled_node l m.block stamp h)) h.sends (Some (after_of m.block h.ended))
handles s me stamp m before l here h within at is mode cpu deferred blocks = record {
  ended = h.ended;
  does = subst (λ (x : Here). Does s.protocol x m h.ended) (sym (blocks m.block ∙ block-is s me l m.block here at)) is.does;
  here = ap (λ (o : Option Here). unwrap_or o (first_here s me m.block)) (slice_get_same l.blocks m.block h.ended.here within);
  others = λ b d. ap (λ (o : Option Here). unwrap_or o (first_here s me b)) (slice_get_other l.blocks m.block b h.ended.here d)
      ∙ sym (blocks b);
  mode = ap (λ (x : Mode). mode_after h.ended.woke m.block x) (sym mode);
  failed = refl;
  deferred = deferred;
  cpu = sym cpu;
  outs = is.sends;
  leaves = refl;
}

pub handled_sound : (s : Setup) (me stamp : ℕ) (m : Message) (l : Node) (here : Here) (h : Handling)
    → m.block < s.shape.blocks → IsSound s l → IsHandling s me stamp m here h → l.sent + length h.sends < 2 ^ 32
    → IsSound s (handled_node l m.block stamp h)
handled_sound s me stamp m l here h within sound is few = record {
  count = length-set l.blocks m.block h.ended.here ∙ sound.count;
  served = all-set (is_served s) l.blocks m.block h.ended.here sound.served is.served;
  deferred = sound.deferred;
  few = few;
}

pub handled_sends : (s : Setup) (me stamp : ℕ) (m : Message) (here : Here) (h : Handling) → m.block < s.shape.blocks →
    IsHandling s me stamp m here h → list_all (is_for s.shape.blocks) h.sends ≡ true
handled_sends s me stamp m here h within is = sends_for s.protocol s.shape.blocks me m.block stamp h.ended.sends h.sends
    is.sends within

-- a refused access
pub fault_made : (s : Setup) (me : ℕ) (l : Node) (store : Bool) (b : ℕ) (here : Here) (h : Handling) (ds : List Waiting)
    → me < s.shape.nodes → MayInstruct s (local_of s me l) → IsSound s l → b < s.shape.blocks
    → IsRefused s (asked s me l.cpu) store b ((local_of s me l).blocks b).tag → slice_get l.blocks b ≡ Some here
    → IsHandling s me (l.clock + 1) (fault store b me) here h →
    ds ≡ with_kept h.ended.kept (fault store b me) (freed_if h.ended.freed b l.deferred) → l.sent + length h.sends < 2 ^ 32
    → IsMade s me (event.Instr me) l None
    (handled_node (record l { mode = mode.Blocked b; deferred = ds; instructions = l.instructions + 1 }) b (l.clock + 1) h)
    (record { entry = handled_entry me (act.Fault store b) b (l.clock + 1) h; sends = h.sends })
fault_made s me l store b here h ds at_node may sound within refused at is waits few = record {
  step = record {
    at_node = at_node;
    node = refl;
    stamp = refl;
    clock = refl;
    count = refl;
    sent = refl;
    acts = record {
      instructs = record { may = may; no_front = refl; instructions = refl; handled = refl };
      refused = refused;
      handles = handles s me (l.clock + 1) (fault store b me) (record (local_of s me l) { mode = mode.Blocked b })
          (record l { mode = mode.Blocked b; deferred = ds; instructions = l.instructions + 1 }) here h
          (omega (arith, sound.count)) at is refl refl waits (λ k. refl);
    };
  };
  event = refl;
  sound = handled_sound s me (l.clock + 1) (fault store b me)
      (record l { mode = mode.Blocked b; deferred = ds; instructions = l.instructions + 1 }) here h within
      (record {
        count = sound.count;
        served = sound.served;
        deferred = deferred_for s.shape.blocks h.ended.kept h.ended.freed
            (fault store b me) l.deferred ds ((Decides-ltb b s.shape.blocks).1 within) sound.deferred waits;
        few = sound.few;
      })
      is few;
  blocks = handled_sends s me (l.clock + 1) (fault store b me) here h within is;
}

-- a redelivery
pub redelivery_made : (s : Setup) (me : ℕ) (l : Node) (m : Message) (earlier later : List Waiting) (here : Here) (h : Handling)
    (ds : List Waiting)
    → me < s.shape.nodes → MayHandle s (local_of s me l) → IsSound s l → IsFirst m earlier later l.deferred →
    m.block < s.shape.blocks → slice_get l.blocks m.block ≡ Some here
    → IsHandling s me (l.clock + 1) m here h → list_all (is_waiting_for s.shape.blocks) (earlier ++ later) ≡ true →
    ds ≡ with_kept h.ended.kept m (freed_if h.ended.freed m.block (earlier ++ later)) → l.sent + length h.sends < 2 ^ 32
    → IsMade s me (event.Redeliver me) l None (handled_node (record l { deferred = ds; handled = l.handled + 1 }) m.block
    (l.clock + 1) h)
    (record { entry = handled_entry me (act.Redelivered m.kind m.block m.from) m.block (l.clock + 1) h; sends = h.sends })
redelivery_made s me l m earlier later here h ds at_node may sound first within at is others waits few = record {
  step = record {
    at_node = at_node;
    node = refl;
    stamp = refl;
    clock = refl;
    count = refl;
    sent = refl;
    acts = record {
      counts = record { may = may; instructions = refl; handled = refl };
      no_front = refl;
      message = m;
      earlier = earlier;
      later = later;
      takes = first;
      of_kind = refl;
      of_block = refl;
      of_sender = refl;
      handles = handles s me (l.clock + 1) m (record (local_of s me l) { deferred = earlier ++ later })
          (record l { deferred = ds; handled = l.handled + 1 }) here h
          (omega (arith, sound.count)) at is refl refl waits (λ k. refl);
    };
  };
  event = refl;
  sound = handled_sound s me (l.clock + 1) m (record l { deferred = ds; handled = l.handled + 1 }) here h within
      (record {
        count = sound.count;
        served = sound.served;
        deferred = deferred_for s.shape.blocks h.ended.kept h.ended.freed m
            (earlier ++ later) ds ((Decides-ltb m.block s.shape.blocks).1 within) others waits;
        few = sound.few;
      }) is few;
  blocks = handled_sends s me (l.clock + 1) m here h within is;
}

-- a delivery
pub delivery_made : (s : Setup) (me : ℕ) (l : Node) (m : Message) (from : ℕ) (chan : Chan) (stamp : ℕ) (here : Here)
    (h : Handling) (ds : List Waiting)
    → me < s.shape.nodes → from < s.shape.nodes → MayHandle s (local_of s me l) → IsSound s l → Each IsStale l.deferred →
    m.stamp < last_stamp → m.block < s.shape.blocks → slice_get l.blocks m.block ≡ Some here
    → stamp ≡ latest l.clock (Some m) + 1 → IsHandling s me stamp m here h →
    ds ≡ with_kept h.ended.kept m (freed_if h.ended.freed m.block l.deferred) → l.sent + length h.sends < 2 ^ 32
    → IsMade s me (event.Deliver me from chan) l (Some m) (handled_node
    (record l { deferred = ds; handled = l.handled + 1 }) m.block stamp h)
    (record { entry = handled_entry me (act.Delivered m.kind m.block from chan m.number) m.block stamp h; sends = h.sends })
delivery_made s me l m from chan stamp here h ds at_node at_from may sound stale early within at later is waits few = record {
  step = record {
    at_node = at_node;
    node = refl;
    stamp = later;
    clock = refl;
    count = refl;
    sent = refl;
    acts = record {
      counts = record { may = may; instructions = refl; handled = refl };
      none_eligible = stale;
      from_node = at_from;
      message = m;
      is_front = refl;
      early = early;
      of_kind = refl;
      of_block = refl;
      of_number = refl;
      handles = handles s me stamp m (local_of s me l) (record l { deferred = ds; handled = l.handled + 1 }) here h
          (omega (arith, sound.count)) at is refl refl waits (λ k. refl);
    };
  };
  event = refl;
  sound = handled_sound s me stamp m (record l { deferred = ds; handled = l.handled + 1 }) here h within
      (record {
        count = sound.count;
        served = sound.served;
        deferred = deferred_for s.shape.blocks h.ended.kept h.ended.freed m
            l.deferred ds ((Decides-ltb m.block s.shape.blocks).1 within) sound.deferred waits;
        few = sound.few;
      }) is few;
  blocks = handled_sends s me stamp m here h within is;
}

-- ---- at the calls

pub made_same : (s : Setup) (me : ℕ) (e : Event) (old : Node) (front : Option Message) (n new : Node) (m made : Made) →
    new ≡ n → made ≡ m → IsMade s me e old front n m → IsMade s me e old front new made
made_same s me e old front n new m made p q h = subst (λ (x : Node). IsMade s me e old front x made) (sym p)
    (subst (λ (y : Made). IsMade s me e old front n y) (sym q) h)

pub handling_of : (s : Setup) (me stamp : ℕ) (m m2 : Message) (here : Here) (h : Handling) → m ≡ m2 →
    IsHandling s me stamp m here h → IsHandling s me stamp m2 here h
handling_of s me stamp m m2 here h p is = subst (λ (x : Message). IsHandling s me stamp x here h) p is
