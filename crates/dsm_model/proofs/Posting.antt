-- Messages that are put on wires one after another, and messages that are taken off.
use Rattle.std.proofs.Common.{◌≡◌, ◌≢◌, ℕ, zero, suc, ◌+◌, ◌-◌, ◌^◌, ◌<◌, ◌≤◌, Bool, true, false, ◌&&◌, nat_eq, if◌then◌else◌}
use Rattle.std.proofs.Common.{Option, Some, get_or, set, length, length-append, List, [], ◌∷◌, ◌++◌, take, arith, refl, sym, ap}
use Rattle.std.proofs.Common.{◌∙◌, subst, inl, inr, append_assoc, append-nil, eqb-true, get_or-set_same, get_or-set_other}
use Rattle.std.specs.Prelude.{slice_get, option_to_list, OnErr, OnOk, Result, Ok, Err}
use Rattle.std.specs.List.{filter}
use Rattle.std.proofs.Math.ListN.{length-set}
use Rattle.std.proofs.lemmas.Bool.{cases_eq}
use Rattle.std.proofs.lemmas.Bool.Decides.{nat_tests}
use Rattle.std.proofs.lemmas.Option.{slice_get-get_or}
use Rattle.std.proofs.lemmas.List.{take_all, take_more}
use Rattle.std.proofs.lemmas.List.Elements.{filter-append}
use Rattle.tw_base.specs.Lists.{Each}
use Rattle.tw_base.specs.declared.message.Chan.{Chan}
use Rattle.tw_base.specs.declared.message.Chan.TheVariants.{Zero, One}
use Rattle.tw_base.specs.declared.message.Message.{Message}
use Rattle.dsm_model.specs.declared.outbox.Outbox.{Outbox}
use Rattle.dsm_runs.specs.Messages.{chan_eq, on_wire, place, posted, numbered}
use Rattle.dsm_model.specs.Queues.{Held, nothing_held}
use Rattle.dsm_model.specs.Posts.{CanSend, HasDropped, HasMadeRoom, HasPosted, HasSent, HasTaken, HaveMadeRoom, HavePlaces}
use Rattle.dsm_model.specs.Views.{AllRoom, HasRoom, next_in, nexts_of, outbox_queue, outbox_room, queue_of, room_in, rooms_of}
use Rattle.dsm_model.specs.Views.{wires_of}
use Rattle.dsm_runs.proofs.Lists.{and_left, and_right, chan_eq-true, length-numbered, nat_eq_refl, numbered-append}
use Rattle.dsm_runs.proofs.Turns.{nat_eq_other}
use Rattle.dsm_model.proofs.Handlings.{slice_get_other, slice_get_same}

posted-append : (k f t : ℕ) (c : Chan) (xs ys : List Message) →
    posted k f t c (xs ++ ys) ≡ posted k f t c xs ++ posted (k + length (filter (on_wire f t c) xs)) f t c ys
posted-append k f t c xs ys = ap (λ (l : List Message). numbered k l) (filter-append (on_wire f t c) xs ys)
    ∙ numbered-append k (filter (on_wire f t c) xs) (filter (on_wire f t c) ys)

-- ---- all wires

pub sent_none : (outboxes : List Outbox) → AllRoom outboxes → HasSent outboxes outboxes []
sent_none outboxes room = record {
  wires = λ f t c. sym (append-nil (wires_of outboxes f t c));
  next = λ f t c. omega arith;
  size = refl;
  room = room;
}

pub sent_more : (a b d : List Outbox) (xs ys : List Message) → HasSent a b xs → HasSent b d ys → HasSent a d (xs ++ ys)
sent_more a b d xs ys p q = record {
  wires = λ f t c.
      q.wires f t c
      ∙ ap (λ (l : List Message). l ++ posted (nexts_of b f t c) f t c ys) (p.wires f t c)
      ∙ ap (λ k. wires_of a f t c ++ posted (nexts_of a f t c) f t c xs ++ posted k f t c ys) (p.next f t c)
      ∙ append_assoc (wires_of a f t c) (posted (nexts_of a f t c) f t c xs)
      (posted (nexts_of a f t c + length (filter (on_wire f t c) xs)) f t c ys)
      ∙ ap (λ (l : List Message). wires_of a f t c ++ l) (sym (posted-append (nexts_of a f t c) f t c xs ys));
  next = λ f t c.
      let both : length (filter (on_wire f t c) (xs ++ ys)) ≡ length (filter (on_wire f t c) xs) + length
      (filter (on_wire f t c) ys) =
      ap length (filter-append (on_wire f t c) xs ys) ∙ length-append (filter (on_wire f t c) xs) (filter (on_wire f t c) ys) in
      omega (arith, p.next f t c, q.next f t c, both);
  size = q.size ∙ p.size;
  room = q.room;
}

pub few_pass : (p : Message → Bool) (xs : List Message) → length (filter p xs) ≤ length xs
few_pass p [] = omega arith
few_pass p (x ∷ xs) = go (p x) (few_pass p xs)
  where
    go : (b : Bool) → length (filter p xs) ≤ length xs → length (if b then x ∷ filter p xs else filter p xs) ≤ suc (length xs)
    go true h = omega (arith, h)
    go false h = omega (arith, h)

few_taken : (p : Message → Bool) (i : ℕ) (xs : List Message) → length (filter p (take i xs)) ≤ i
few_taken p zero xs = omega arith
few_taken p (suc i) [] = omega arith
few_taken p (suc i) (x ∷ xs) = go (p x) (few_taken p i xs)
  where
    go : (b : Bool) → length (filter p (take i xs)) ≤ i → length
        (if b then x ∷ filter p (take i xs) else filter p (take i xs)) ≤ suc i
    go true h = omega (arith, h)
    go false h = omega (arith, h)

pub room_for : (a b : List Outbox) (xs : List Message) (i : ℕ) → HasSent a b (take i xs) → i < length xs →
    ((f t : ℕ) (c : Chan) → nexts_of a f t c + length xs < 2 ^ 64) → (f t : ℕ) (c : Chan) → nexts_of b f t c < 2 ^ 64 - 1
room_for a b xs i h l few f t c = omega (arith, h.next f t c, few f t c, few_taken (on_wire f t c) i xs, l)

pub one_more : (a b d : List Outbox) (xs : List Message) (i : ℕ) (x z : Message) → i < length xs → HasSent a b (take i xs) →
    x ≡ get_or xs i z → HasSent b d (x ∷ []) → HasSent a d (take (i + 1) xs)
one_more a b d xs i x z l before is now =
    subst (λ (ys : List Message). HasSent a d ys) (ap (λ (m : Message). take i xs ++ m ∷ []) is ∙ sym (take_more xs i z l))
    (sent_more a b d (take i xs) (x ∷ []) before now)

pub Each-at : {X : Type 0} (P : X → Type 0) (xs : List X) (i : ℕ) (z : X) → Each P xs → i < length xs → P (get_or xs i z)
Each-at P [] i z h l = absurd (omega arith)
Each-at P (x ∷ xs) zero z h l = h.0
Each-at P (x ∷ xs) (suc i) z h l = Each-at P xs i z h.1 (omega arith)

-- ---- room

pub as_many : (a b : List Outbox) → HasSent a b [] → (f t : ℕ) (c : Chan) → wires_of b f t c ≡ wires_of a f t c
as_many a b h f t c = h.wires f t c ∙ append-nil (wires_of a f t c)

pub room_none : (outboxes : List Outbox) → AllRoom outboxes → HaveMadeRoom outboxes outboxes
room_none outboxes room = record { same = sent_none outboxes room; more = λ f t c. omega arith }

pub room_twice : (a b d : List Outbox) → HaveMadeRoom a b → HaveMadeRoom b d → HaveMadeRoom a d
room_twice a b d p q = record {
  same = sent_more a b d [] [] p.same q.same;
  more = λ f t c. omega (arith, p.more f t c, q.more f t c);
}

places_kept : (a b : List Outbox) (n : ℕ) (xs : List Message) → HaveMadeRoom a b → HavePlaces a n xs → HavePlaces b n xs
places_kept a b n [] made h = tt
places_kept a b n (x ∷ xs) made h = (
  omega (arith, h.0, made.more x.from x.to x.chan, ap length (as_many a b made.same x.from x.to x.chan)),
  places_kept a b n xs made h.1,
)

places_push : (a : List Outbox) (n : ℕ) (xs : List Message) (x : Message) → HavePlaces a n xs →
    length (wires_of a x.from x.to x.chan) + n ≤ rooms_of a x.from x.to x.chan → HavePlaces a n (xs ++ x ∷ [])
places_push a n [] x h k = (k, tt)
places_push a n (y ∷ ys) x h k = (h.0, places_push a n ys x h.1 k)

pub places_more : (a b : List Outbox) (n i : ℕ) (xs : List Message) (x z : Message) → i < length xs →
    HavePlaces a n (take i xs) → x ≡ get_or xs i z → HaveMadeRoom a b
    → length (wires_of b x.from x.to x.chan) + n ≤ rooms_of b x.from x.to x.chan → HavePlaces b n (take (i + 1) xs)
places_more a b n i xs x z l before is made enough =
    subst (λ (ys : List Message). HavePlaces b n ys) (ap (λ (m : Message). take i xs ++ m ∷ []) is ∙ sym (take_more xs i z l))
    (places_push b n (take i xs) x (places_kept a b n (take i xs) made before) enough)

pub places_taken : (a b : List Outbox) (from to : ℕ) (chan : Chan) (front : Option Message) (n : ℕ) (xs : List Message) →
    HasTaken a b from to chan front → HavePlaces a n xs → HavePlaces b n xs
places_taken a b from to chan front n [] has h = tt
places_taken a b from to chan front n (x ∷ xs) has h = (
  (
      let lost = (if nat_eq x.to to && (nat_eq x.from from && chan_eq x.chan chan) then option_to_list front else []) in
      omega (
        arith,
        h.0,
        has.rooms x.from x.to x.chan,
        ap length (has.wires x.from x.to x.chan),
        length-append lost (wires_of b x.from x.to x.chan),
      )
      ),
  places_taken a b from to chan front n xs has h.1,
)

pub all_places : (a : List Outbox) (xs : List Message) (i : ℕ) → length xs ≤ i → HavePlaces a (length xs) (take i xs) →
    CanSend a xs
all_places a xs i l h = subst (λ (ys : List Message). HavePlaces a (length xs) ys) (take_all i xs l) h

pub reserve_from : (a b : List Outbox) (xs : List Message) (i : ℕ) (x z : Message) → i < length xs → HasSent a b [] →
    x ≡ get_or xs i z → Each (λ m. m.from < length a) xs → x.from < length b
reserve_from a b xs i x z l same is from =
    let there = Each-at (λ m. m.from < length a) xs i z from l in
    omega (arith, there, ap (λ (m : Message). m.from) is, same.size)

pub send_from : (a b : List Outbox) (xs : List Message) (i : ℕ) (x z : Message) → i < length xs → HasSent a b (take i xs) →
    x ≡ get_or xs i z → Each (λ m. m.from < length a) xs → x.from < length b
send_from a b xs i x z l sent is from =
    let there = Each-at (λ m. m.from < length a) xs i z from l in
    omega (arith, there, ap (λ (m : Message). m.from) is, sent.size)

-- there is room for the message that is next
pub place_for : (a b : List Outbox) (xs : List Message) (i : ℕ) (x z : Message) → i < length xs → HasSent a b (take i xs) →
    ((f t : ℕ) (c : Chan) → rooms_of b f t c ≡ rooms_of a f t c) → CanSend a xs → x ≡ get_or xs i z
    → length (wires_of b x.from x.to x.chan) < rooms_of b x.from x.to x.chan
place_for a b xs i x z l sent rooms can is =
    let there = Each-at (λ m. length (wires_of a m.from m.to m.chan) + length xs ≤ rooms_of a m.from m.to m.chan) xs i z can l in
    let here : length (wires_of a x.from x.to x.chan) + length xs ≤ rooms_of a x.from x.to x.chan =
    subst (λ (m : Message). length (wires_of a m.from m.to m.chan) + length xs ≤ rooms_of a m.from m.to m.chan) (sym is) there in
    let new_ones = filter (on_wire x.from x.to x.chan) (take i xs) in
    omega (
      arith,
      here,
      l,
      rooms x.from x.to x.chan,
      ap length (sent.wires x.from x.to x.chan),
      length-append (wires_of a x.from x.to x.chan) (numbered (nexts_of a x.from x.to x.chan) new_ones),
      length-numbered (nexts_of a x.from x.to x.chan) new_ones,
      few_taken (on_wire x.from x.to x.chan) i xs,
    )

pub on_ok_more : {A E P Q : Type 0} (r : Result A E) → (P → Q) → OnOk r P → OnOk r Q
on_ok_more (Ok a) f h = f h
on_ok_more (Err e) f h = tt

pub on_err : {A E P : Type 0} (r : Result A E) → P → OnErr r P
on_err (Ok a) p = tt
on_err (Err e) p = p

-- ---- a change of one outbox, seen on all wires

some_outbox : (x y : Outbox) → Some x ≡ Some y → x ≡ y
some_outbox x y h = cc

pub room_set : (outboxes : List Outbox) (i : ℕ) (new : Outbox) → i < length outboxes → AllRoom outboxes → HasRoom new →
    AllRoom (set outboxes i new)
room_set outboxes i new l room has f r is = elim (cases_eq f i) [
  | inl e ↦ subst HasRoom (some_outbox new r (sym (slice_get_same outboxes i new l)
      ∙ subst (λ k. slice_get (set outboxes i new) k ≡ Some r) e is)) has
  | inr d ↦ room f r (sym (slice_get_other outboxes i f new d) ∙ is)
]

false_mid : (a b c : Bool) → b ≡ false → (a && (b && c)) ≡ false
false_mid true true c h = absurd cc
false_mid true false c h = refl
false_mid false b c h = refl

if_false : (b : Bool) (xs : List Message) → b ≡ false → (if b then xs else []) ≡ []
if_false true xs h = absurd cc
if_false false xs h = refl

pub taken_outboxes : (outboxes : List Outbox) (from to : ℕ) (chan : Chan) (front : Option Message) (old new : Outbox) →
    slice_get outboxes from ≡ Some old → from < length outboxes → AllRoom outboxes
    → HasDropped old new to chan front → HasTaken outboxes (set outboxes from new) from to chan front
taken_outboxes outboxes from to chan front old new at l room has = record {
  is_front = rw at has.is_front;
  wires = λ f t c. elim (cases_eq f from) [
    | inl e ↦ rw (e, slice_get_same outboxes from new l, at, nat_eq_refl from) (has.queues t c)
    | inr d ↦ rw (slice_get_other outboxes from f new d) (ap (λ (x : List Message). x ++ wires_of outboxes f t c)
        (sym (if_false _ (option_to_list front) (false_mid (nat_eq t to) (nat_eq f from) (chan_eq c chan)
        (nat_eq_other f from d)))))
  ];
  next = λ f t c. elim (cases_eq f from) [
    | inl e ↦ rw (e, slice_get_same outboxes from new l, at) (has.next t c)
    | inr d ↦ rw (slice_get_other outboxes from f new d) refl
  ];
  rooms = λ f t c. elim (cases_eq f from) [
    | inl e ↦ rw (e, slice_get_same outboxes from new l, at) (omega (arith, has.rooms t c))
    | inr d ↦ rw (slice_get_other outboxes from f new d) (omega arith)
  ];
  size = length-set outboxes from new;
  room = room_set outboxes from new l room has.room;
}

pub none_elsewhere : (me f t : ℕ) (c : Chan) (sends : List Message) → f ≢ me → Each (λ m. m.from ≡ me) sends →
    filter (on_wire f t c) sends ≡ []
none_elsewhere me f t c [] d h = refl
none_elsewhere me f t c (m ∷ ms) d h = rw (nat_eq_other m.from f (λ q. d (sym q ∙ h.0))) (none_elsewhere me f t c ms d h.1)

pub sent_outboxes : (outboxes : List Outbox) (me : ℕ) (old new : Outbox) (sends : List Message) →
    slice_get outboxes me ≡ Some old → me < length outboxes → AllRoom outboxes → HasRoom new → Each (λ m. m.from ≡ me) sends
    → HasPosted me old new sends → HasSent outboxes (set outboxes me new) sends
sent_outboxes outboxes me old new sends at l room has from h = record {
  wires = λ f t c. elim (cases_eq f me) [
    | inl e ↦ rw (e, slice_get_same outboxes me new l, at) (h.queues t c)
    | inr d ↦ rw (slice_get_other outboxes me f new d) (sym (append-nil (wires_of outboxes f t c))
        ∙ ap (λ (x : List Message). wires_of outboxes f t c ++ numbered (nexts_of outboxes f t c) x)
        (sym (none_elsewhere me f t c sends d from)))
  ];
  next = λ f t c. elim (cases_eq f me) [
    | inl e ↦ rw (e, slice_get_same outboxes me new l, at) (h.next t c)
    | inr d ↦ rw (slice_get_other outboxes me f new d) (omega (arith, ap length (none_elsewhere me f t c sends d from)))
  ];
  size = length-set outboxes me new;
  room = room_set outboxes me new l room has;
}

pub placed : (outboxes : List Outbox) (f t : ℕ) (c : Chan) (old : Outbox) → slice_get outboxes f ≡ Some old →
    length (wires_of outboxes f t c) < rooms_of outboxes f t c → length (queue_of old t c) < room_in old t c
placed outboxes f t c old at h =
    subst (λ (o : Option Outbox). length (outbox_queue o t c) < outbox_room o t c) at h

pub enough_set : (outboxes : List Outbox) (f k t : ℕ) (c : Chan) (new : Outbox) (n : ℕ) → k ≡ f → f < length outboxes →
    length (queue_of new t c) + n ≤ room_in new t c
    → length (wires_of (set outboxes k new) f t c) + n ≤ rooms_of (set outboxes k new) f t c
enough_set outboxes f k t c new n same l h =
    subst (λ (o : Option Outbox). length (outbox_queue o t c) + n ≤ outbox_room o t c)
    (sym (slice_get_same outboxes f new l) ∙ ap (λ j. slice_get (set outboxes j new) f) (sym same)) h

pub rooms_set : (outboxes : List Outbox) (me : ℕ) (old new : Outbox) → slice_get outboxes me ≡ Some old →
    me < length outboxes → ((t : ℕ) (c : Chan) → room_in new t c ≡ room_in old t c)
    → (f t : ℕ) (c : Chan) → rooms_of (set outboxes me new) f t c ≡ rooms_of outboxes f t c
rooms_set outboxes me old new at l rooms f t c = elim (cases_eq f me) [
  | inl e ↦ rw (e, slice_get_same outboxes me new l, at) (rooms t c)
  | inr d ↦ rw (slice_get_other outboxes me f new d) refl
]

pub room_made : (outboxes : List Outbox) (me : ℕ) (old new : Outbox) → slice_get outboxes me ≡ Some old →
    me < length outboxes → AllRoom outboxes → HasMadeRoom old new → HaveMadeRoom outboxes (set outboxes me new)
room_made outboxes me old new at l room made = record {
  same = sent_outboxes outboxes me old new [] at l room made.room tt
      (record {
        queues = λ t c. made.queues t c ∙ sym (append-nil (queue_of old t c));
        next = λ t c. omega (arith, made.next t c);
      });
  more = λ f t c. elim (cases_eq f me) [
    | inl e ↦ rw (e, slice_get_same outboxes me new l, at) (made.more t c)
    | inr d ↦ rw (slice_get_other outboxes me f new d) (omega arith)
  ];
}

pub element_at : {A : Type 0} (xs : List A) (i j : ℕ) (d : A) → i ≡ j → j < length xs → slice_get xs j ≡ Some (get_or xs i d)
element_at {A} xs i j d e l = slice_get-get_or xs j d l ∙ ap (λ k. Some (get_or xs k d)) (sym e)

-- ---- one queue of an outbox

pub front_or_none : (qs : List Held) (to t : ℕ) (chan c : Chan) (front : List Message) (q : Held) →
    (get_or qs (place to chan) nothing_held).messages ≡ front ++ q.messages → place to chan < length qs
    → (get_or qs (place t c) nothing_held).messages ≡ (if nat_eq t to && chan_eq c chan then front else [])
    ++ (get_or (set qs (place to chan) q) (place t c) nothing_held).messages
front_or_none qs to t Zero Zero front q h l = grind (arith, nat_tests, get_or-set_same, get_or-set_other)
front_or_none qs to t Zero One front q h l = grind (arith, nat_tests, get_or-set_same, get_or-set_other)
front_or_none qs to t One Zero front q h l = grind (arith, nat_tests, get_or-set_same, get_or-set_other)
front_or_none qs to t One One front q h l = grind (arith, nat_tests, get_or-set_same, get_or-set_other)

pub same_room : (qs : List Held) (i j : ℕ) (q : Held) → q.room ≡ (get_or qs i nothing_held).room → i < length qs →
    (get_or (set qs i q) j nothing_held).room ≡ (get_or qs j nothing_held).room
same_room qs i j q h l = elim (cases_eq j i) [
  | inl e ↦ ap (λ k. (get_or (set qs i q) k nothing_held).room) e
      ∙ ap (λ (x : Held). x.room) (get_or-set_same qs i q nothing_held l) ∙ h
      ∙ ap (λ k. (get_or qs k nothing_held).room) (sym e)
  | inr d ↦ ap (λ (x : Held). x.room) (get_or-set_other qs i j q nothing_held d)
]

pub more_room : (qs : List Held) (i j : ℕ) (q : Held) → (get_or qs i nothing_held).room ≤ q.room → i < length qs →
    (get_or qs j nothing_held).room ≤ (get_or (set qs i q) j nothing_held).room
more_room qs i j q h l = elim (cases_eq j i) [
  | inl e ↦ rw (e, get_or-set_same qs i q nothing_held l) h
  | inr d ↦ rw (get_or-set_other qs i j q nothing_held d) (omega arith)
]

pub same_messages : (qs : List Held) (i j : ℕ) (q : Held) → q.messages ≡ (get_or qs i nothing_held).messages → i < length qs →
    (get_or (set qs i q) j nothing_held).messages ≡ (get_or qs j nothing_held).messages
same_messages qs i j q h l = elim (cases_eq j i) [
  | inl e ↦ ap (λ k. (get_or (set qs i q) k nothing_held).messages) e
      ∙ ap (λ (x : Held). x.messages) (get_or-set_same qs i q nothing_held l) ∙ h
      ∙ ap (λ k. (get_or qs k nothing_held).messages) (sym e)
  | inr d ↦ ap (λ (x : Held). x.messages) (get_or-set_other qs i j q nothing_held d)
]

pub reserved : (old : Outbox) (k : ℕ) (q : Held) (new : Outbox) → HasRoom old → k < length old.queues.items →
    q.messages ≡ (get_or old.queues.items k nothing_held).messages → (get_or old.queues.items k nothing_held).room ≤ q.room
    → new.queues.items ≡ set old.queues.items k q → new.next.items ≡ old.next.items → HasMadeRoom old new
reserved old k q new room l messages more queues next = record {
  room = record { queues = ap length queues ∙ length-set old.queues.items k q ∙ room.queues; next = ap length next ∙ room.next };
  queues = λ t c. ap (λ (qs : List Held). (get_or qs (place t c) nothing_held).messages) queues
      ∙ same_messages old.queues.items k (place t c) q messages l;
  next = λ t c. ap (λ (ns : List ℕ). get_or ns (place t c) 0) next;
  more = λ t c. omega (
    arith,
    more_room old.queues.items k (place t c) q more l,
    ap (λ (qs : List Held). (get_or qs (place t c) nothing_held).room) queues,
  );
}

pub reserved_room : (qs : List Held) (k t : ℕ) (c : Chan) (q : Held) (n : ℕ) → k ≡ place t c → k < length qs →
    length q.messages + n ≤ q.room
    → length (get_or (set qs k q) (place t c) nothing_held).messages + n ≤ (get_or (set qs k q) (place t c) nothing_held).room
reserved_room qs k t c q n at l enough =
    subst (λ (x : Held). length x.messages + n ≤ x.room) (sym (get_or-set_same qs k q nothing_held l)
    ∙ ap (λ j. get_or (set qs k q) j nothing_held) at) enough

-- ---- one message on one wire

post_queue : (qs : List Held) (to t : ℕ) (chan c : Chan) (x : Message) (q : Held) →
    q.messages ≡ (get_or qs (place to chan) nothing_held).messages ++ x ∷ [] → place to chan < length qs
    → (get_or (set qs (place to chan) q) (place t c) nothing_held).messages ≡ (get_or qs (place t c) nothing_held).messages
    ++ (if nat_eq to t && chan_eq chan c then x ∷ [] else [])
post_queue qs to t Zero Zero x q h l = grind (arith, nat_tests, get_or-set_same, get_or-set_other, append-nil)
post_queue qs to t Zero One x q h l = grind (arith, nat_tests, get_or-set_same, get_or-set_other, append-nil)
post_queue qs to t One Zero x q h l = grind (arith, nat_tests, get_or-set_same, get_or-set_other, append-nil)
post_queue qs to t One One x q h l = grind (arith, nat_tests, get_or-set_same, get_or-set_other, append-nil)

post_next : (ns : List ℕ) (to t : ℕ) (chan c : Chan) (x : Message) → place to chan < length ns
    → get_or (set ns (place to chan) (get_or ns (place to chan) 0 + 1)) (place t c) 0
    ≡ get_or ns (place t c) 0 + length (if nat_eq to t && chan_eq chan c then x ∷ [] else [])
post_next ns to t Zero Zero x l = grind (arith, nat_tests, get_or-set_same, get_or-set_other)
post_next ns to t Zero One x l = grind (arith, nat_tests, get_or-set_same, get_or-set_other)
post_next ns to t One Zero x l = grind (arith, nat_tests, get_or-set_same, get_or-set_other)
post_next ns to t One One x l = grind (arith, nat_tests, get_or-set_same, get_or-set_other)

same_number : (old : Outbox) (m : Message) (t : ℕ) (c : Chan) (b : Bool) → (nat_eq m.to t && chan_eq m.chan c) ≡ b
    → (if b then record m { number = next_in old m.to m.chan } ∷ [] else [])
    ≡ numbered (next_in old t c) (if b then m ∷ [] else [])
same_number old m t c true q =
    let at : m.to ≡ t = eqb-true m.to t (and_left (nat_eq m.to t) (chan_eq m.chan c) q) in
    let by : m.chan ≡ c = chan_eq-true m.chan c (and_right (nat_eq m.to t) (chan_eq m.chan c) q) in
    ap (λ k. record m { number = k } ∷ []) (ap (λ n. next_in old n m.chan) at ∙ ap (λ (d : Chan). next_in old t d) by)
same_number old m t c false q = refl

filter_one : (m : Message) (t : ℕ) (c : Chan) → filter (on_wire m.from t c) (m ∷ [])
    ≡ (if nat_eq m.to t && chan_eq m.chan c then m ∷ [] else [])
filter_one m t c = rw (nat_eq_refl m.from) refl

near : (to n : ℕ) (chan : Chan) (k : ℕ) → k ≡ place to chan → k < 16 → n ≡ 16 → place to chan < n
near to n chan k e l is = omega (arith, e, l, is)

pub posted_one : (old new : Outbox) (m : Message) (k : ℕ) (q : Held) → HasRoom old → k ≡ place m.to m.chan → k < 16
    → new.queues.items ≡ set old.queues.items k q
    → q.messages ≡ (get_or old.queues.items k nothing_held).messages ++ record m { number = get_or old.next.items k 0 } ∷ []
    → new.next.items ≡ set old.next.items k (get_or old.next.items k 0 + 1)
    → HasPosted m.from old new (m ∷ [])
posted_one old new m k q room at small queues more next = record {
  queues = λ t c.
      ap (λ (qs : List Held). (get_or qs (place t c) nothing_held).messages) queues
      ∙ ap (λ i. (get_or (set old.queues.items i q) (place t c) nothing_held).messages) at
      ∙ post_queue old.queues.items m.to t m.chan c (record m { number = next_in old m.to m.chan }) q
      (subst (λ i. q.messages ≡ (get_or old.queues.items i nothing_held).messages
      ++ record m { number = get_or old.next.items i 0 } ∷ []) at more)
      (near m.to (length old.queues.items) m.chan k at small room.queues)
      ∙ ap (λ (l : List Message). queue_of old t c ++ l) (same_number old m t c (nat_eq m.to t && chan_eq m.chan c) refl
      ∙ ap (λ (l : List Message). numbered (next_in old t c) l) (sym (filter_one m t c)));
  next = λ t c.
      ap (λ (ns : List ℕ). get_or ns (place t c) 0) next
      ∙ ap (λ i. get_or (set old.next.items i (get_or old.next.items i 0 + 1)) (place t c) 0) at
      ∙ post_next old.next.items m.to t m.chan c m (near m.to (length old.next.items) m.chan k at small room.next)
      ∙ ap (λ (l : List Message). next_in old t c + length l) (sym (filter_one m t c));
}
