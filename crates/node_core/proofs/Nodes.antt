-- What the calls that make no event leave of a node.
use Rattle.std.proofs.Common.{◌≡◌, ◌∙◌, ℕ, ◌+◌, ◌-◌, ◌<◌, ◌≤◌, ◌^◌, true, false, List, ◌++◌, Option, Some, None, Result, Ok}
use Rattle.std.proofs.Common.{Err, length, drop, replicate, ap, sym, subst, arith}
use Rattle.std.specs.Prelude.{OnErr, OnOk, option_to_list, slice_set}
use Rattle.std.proofs.lemmas.List.{drop-replicate}
use Rattle.tw_base.specs.declared.memory.Memory.{Memory}
use Rattle.tw_base.specs.declared.message.Chan.{Chan}
use Rattle.tw_base.specs.declared.message.Chan.TheVariants.{Zero, One}
use Rattle.tw_base.specs.declared.message.Message.{Message}
use Rattle.tw_base.specs.declared.value.Value.{Value}
use Rattle.tw_base.specs.declared.value.Value.TheVariants.{Int}
use Rattle.block_tags.specs.Copies.{IsWhole}
use Rattle.handler_code.specs.declared.code.Code.{Code}
use Rattle.handler_code.specs.Doors.{filled}
use Rattle.handler_vm.specs.Tables.{IsTableOf, Table}
use Rattle.compiled_meaning.specs.Whole.{IsCode}
use Rattle.dsm_runs.specs.Messages.{place}
use Rattle.dsm_runs.specs.Replays.{begin}
use Rattle.dsm_runs.specs.Setups.{IsSetup, Setup, first_copies}
use Rattle.node_acts.proofs.Keeping.{hands_out_standing, hands_out_well, keeps_standing, keeps_well, with_front, with_waiting}
use Rattle.node_acts.proofs.Sparing.{spares_standing, spares_well, with_room}
use Rattle.node_acts.proofs.Starting.{starts_standing, starts_well}
use Rattle.node_acts.specs.Starts.{start_shown}
use Rattle.node_core.specs.declared.state.State.{State}
use Rattle.node_core.specs.States.{HasMadeRoom, HasRooms, IsInside, IsNode, parts_of, shown_of}
use Rattle.node_meaning.specs.Nodes.{Shown, accepted_at, front_at}
use Rattle.node_meaning.specs.Stands.{IsFit, IsReplayed, IsWell, StandsAsBefore, StandsFor}
use Rattle.node_parts.specs.Parts.{Kept, Posting}

-- what is shown is shown as another node
replayed_as : (a b : Shown) → StandsAsBefore a b → IsReplayed a → IsReplayed b
replayed_as a b stands r = record { course = r.course; stands = stands r.course r.stands }

stands_as : (a b c : Shown) → c ≡ b → StandsAsBefore a b → StandsAsBefore a c
stands_as a b c e stands = λ x s. subst (λ (n : Shown). StandsFor n x) (sym e) (stands x s)

-- ---- room is made

pub room_shown : (s : Setup) (code : Code) (me : ℕ) (old new : State) → HasMadeRoom old new →
    shown_of s code me new ≡ with_room (shown_of s code me old) new.ready new.conts.spare
room_shown s code me old new h =
    (λ j. shown_of s code me (h.rest j))
    ∙ (λ j. record (shown_of s code me old) {
      parts = record (parts_of old) { deferred = h.deferred j };
      conts = h.conts j;
      log = h.log j;
      waiting = h.waiting j;
      posted = h.posted j;
      ready = new.ready;
    })

pub room_node : (s : Setup) (code : Code) (me : ℕ) (old new : State) → IsNode s code me old → HasMadeRoom old new →
    (new.ready ≡ true → HasRooms new) → IsNode s code me new
room_node s code me old new n h rooms = record {
  well = subst (λ (x : Shown). IsWell x) (sym is) (spares_well (shown_of s code me old) new.ready new.conts.spare n.well);
  replayed = replayed_as (shown_of s code me old) (shown_of s code me new)
      (stands_as (shown_of s code me old) _ (shown_of s code me new) is
      (spares_standing (shown_of s code me old) new.ready new.conts.spare)) n.replayed;
  inside = record {
    program = ap (λ (x : State). x.processor.program) h.rest ∙ n.inside.program;
    queues = h.queues ∙ n.inside.queues;
    table = subst (λ (t : Table). IsTableOf s.protocol code t) (sym (ap (λ (x : State). x.doors) h.rest)) n.inside.table;
    rooms = rooms;
  };
}
  where
    is : shown_of s code me new ≡ with_room (shown_of s code me old) new.ready new.conts.spare
    is = room_shown s code me old new h

pub room_standing : (s : Setup) (code : Code) (me : ℕ) (old new : State) → HasMadeRoom old new →
    StandsAsBefore (shown_of s code me old) (shown_of s code me new)
room_standing s code me old new h = stands_as (shown_of s code me old) _ (shown_of s code me new)
    (room_shown s code me old new h) (spares_standing (shown_of s code me old) new.ready new.conts.spare)

-- where there was no room, there is room exactly if making it went well
pub rooms_if : (r : Result (Unit {0}) Memory) (old new : State) → old.ready ≡ false → OnOk r (HasRooms new) →
    OnErr r (new.ready ≡ old.ready) → new.ready ≡ true → HasRooms new
rooms_if (Ok x) old new was ok err now = ok
rooms_if (Err e) old new was ok err now = absurd cc

-- ---- a message is kept

pub front_shown : (s : Setup) (code : Code) (me : ℕ) (x : State) (m : Message) (f : Kept) →
    f.items ≡ slice_set x.fronts.items (place m.from m.chan) (Some m) →
    f.accepted ≡ slice_set x.fronts.accepted (place m.from m.chan) (m.number + 1)
    → shown_of s code me (record x { fronts = f }) ≡ with_front (shown_of s code me x) m
front_shown s code me x m f items accepted = λ j. record (shown_of s code me x) { fronts = items j; accepted = accepted j }

pub front_node : (s : Setup) (code : Code) (me : ℕ) (x : State) (m : Message) (f : Kept) →
    f.items ≡ slice_set x.fronts.items (place m.from m.chan) (Some m) →
    f.accepted ≡ slice_set x.fronts.accepted (place m.from m.chan) (m.number + 1)
    → IsNode s code me x → place m.from m.chan < 16 → front_at (shown_of s code me x) m.from m.chan ≡ None →
    IsFit s m.from me m → m.number ≡ accepted_at (shown_of s code me x) m.from m.chan →
    IsNode s code me (record x { fronts = f })
front_node s code me x m f items accepted n small free fit number = record {
  well = subst (λ (y : Shown). IsWell y) (sym is) (keeps_well (shown_of s code me x) m n.well small free fit number);
  replayed = replayed_as (shown_of s code me x) (shown_of s code me (record x { fronts = f }))
      (stands_as (shown_of s code me x) _ (shown_of s code me (record x { fronts = f })) is
      (keeps_standing (shown_of s code me x) m n.well small free number)) n.replayed;
  inside = record {
    program = n.inside.program;
    queues = n.inside.queues;
    table = n.inside.table;
    rooms = λ e. let r = n.inside.rooms e in record {
      log = r.log;
      out = r.out;
      spare = r.spare;
      deferred = r.deferred;
      ops = r.ops;
      records = r.records;
    };
  };
}
  where
    is : shown_of s code me (record x { fronts = f }) ≡ with_front (shown_of s code me x) m
    is = front_shown s code me x m f items accepted

pub front_standing : (s : Setup) (code : Code) (me : ℕ) (x : State) (m : Message) (f : Kept) →
    f.items ≡ slice_set x.fronts.items (place m.from m.chan) (Some m) →
    f.accepted ≡ slice_set x.fronts.accepted (place m.from m.chan) (m.number + 1)
    → IsNode s code me x → place m.from m.chan < 16 → front_at (shown_of s code me x) m.from m.chan ≡ None →
    m.number ≡ accepted_at (shown_of s code me x) m.from m.chan →
    StandsAsBefore (shown_of s code me x) (shown_of s code me (record x { fronts = f }))
front_standing s code me x m f items accepted n small free number =
    stands_as (shown_of s code me x) _ (shown_of s code me (record x { fronts = f }))
    (front_shown s code me x m f items accepted) (keeps_standing (shown_of s code me x) m n.well small free number)

-- the number of an accepted message may go up
pub number_small : (s : Setup) (code : Code) (me : ℕ) (x : State) (m : Message) → IsNode s code me x → x.handled < 2 ^ 32 →
    front_at (shown_of s code me x) m.from m.chan ≡ None → m.number ≡ accepted_at (shown_of s code me x) m.from m.chan →
    m.number < 2 ^ 64 - 1
number_small s code me x m n fits free number =
    let few : accepted_at (shown_of s code me x) m.from m.chan ≤ x.handled + 0 =
    subst (λ (o : Option Message). accepted_at (shown_of s code me x) m.from m.chan ≤ x.handled + length
    (option_to_list o)) free (n.well.few_accepted m.from m.chan) in
    omega (arith, few, number, fits)

-- ---- a message is handed out

pub waiting_shown : (s : Setup) (code : Code) (me : ℕ) (x : State) (o : Posting) → o.posted ≡ x.out.posted →
    shown_of s code me (record x { out = o }) ≡ with_waiting (shown_of s code me x) o.waiting
waiting_shown s code me x o posted = λ j. record (shown_of s code me x) { waiting = o.waiting; posted = posted j }

pub waiting_node : (s : Setup) (code : Code) (me : ℕ) (x : State) (m : Option Message) (o : Posting) →
    x.out.waiting ≡ option_to_list m ++ o.waiting → o.posted ≡ x.out.posted → o.room ≡ x.out.room → IsNode s code me x →
    IsNode s code me (record x { out = o })
waiting_node s code me x m o popped posted room n = record {
  well = subst (λ (y : Shown). IsWell y) (sym is) (hands_out_well (shown_of s code me x) m o.waiting popped n.well);
  replayed = replayed_as (shown_of s code me x) (shown_of s code me (record x { out = o }))
      (stands_as (shown_of s code me x) _ (shown_of s code me (record x { out = o })) is
      (hands_out_standing (shown_of s code me x) o.waiting)) n.replayed;
  inside = record {
    program = n.inside.program;
    queues = n.inside.queues;
    table = n.inside.table;
    rooms = λ e. let r = n.inside.rooms e in record {
      log = r.log;
      out = omega (arith, r.out, room, fewer m x.out.waiting o.waiting popped);
      spare = r.spare;
      deferred = r.deferred;
      ops =
          r.ops;
      records = r.records;
    };
  };
}
  where
    is : shown_of s code me (record x { out = o }) ≡ with_waiting (shown_of s code me x) o.waiting
    is = waiting_shown s code me x o posted

    fewer : (m : Option Message) (all rest : List Message) → all ≡ option_to_list m ++ rest → length rest ≤ length all
    fewer None all rest e = rw e (omega arith)
    fewer (Some y) all rest e = rw e (omega arith)

pub waiting_standing : (s : Setup) (code : Code) (me : ℕ) (x : State) (o : Posting) → o.posted ≡ x.out.posted →
    StandsAsBefore (shown_of s code me x) (shown_of s code me (record x { out = o }))
waiting_standing s code me x o posted = stands_as (shown_of s code me x) _ (shown_of s code me (record x { out = o }))
    (waiting_shown s code me x o posted) (hands_out_standing (shown_of s code me x) o.waiting)

-- ---- a node as it starts

pub start_node : (s : Setup) (code : Code) (me : ℕ) (x : State) → shown_of s code me x ≡ start_shown s code me x.conts false →
    IsInside s code me x → IsSetup s → IsCode s.protocol code → length code.ops < 2 ^ 22 → me < s.shape.nodes →
    IsWhole (first_copies s me) → IsNode s code me x
start_node s code me x is inside setup code_is short at whole = record {
  well = subst (λ (y : Shown). IsWell y) (sym is) (starts_well s code me x.conts false setup code_is short at whole);
  replayed =
      record {
        course = begin s me;
        stands = subst (λ (y : Shown). StandsFor y (begin s me)) (sym is)
            (starts_standing s code me x.conts false setup);
      };
  inside = inside;
}

pub start_stands : (s : Setup) (code : Code) (me : ℕ) (x : State) →
    shown_of s code me x ≡ start_shown s code me x.conts false → IsSetup s → StandsFor (shown_of s code me x) (begin s me)
start_stands s code me x is setup = subst (λ (y : Shown). StandsFor y (begin s me)) (sym is)
    (starts_standing s code me x.conts false setup)

-- ---- the place of a wire

pub place_small : (f : ℕ) (ch : Chan) → f < 8 → place f ch < 16
place_small f Zero lt = omega (arith, lt)
place_small f One lt = omega (arith, lt)

pub fit_small : (s : Setup) (code : Code) (me : ℕ) (x : State) (m : Message) → IsNode s code me x → IsFit s m.from me m →
    place m.from m.chan < 16
fit_small s code me x m n fit = place_small m.from m.chan (omega (arith, fit.within.0, n.well.setup.limits.nodes))

-- ---- values in eight places

pub padded_is : (xs ys : List Value) → length xs ≤ 8 → ys ≡ xs → ys ++ drop (length xs) (replicate 8 (Int 0)) ≡ filled 8 xs
padded_is xs ys few e = (λ j. e j ++ drop-replicate (length xs) 8 (Int 0) j)
