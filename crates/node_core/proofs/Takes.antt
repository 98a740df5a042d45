-- A refused access, a redelivery and a delivery, at a node's state.
use Rattle.std.proofs.Common.{◌≡◌, ◌∙◌, ℕ, ◌+◌, ◌/◌, ◌%◌, ◌<◌, ◌≤◌, ◌^◌, Bool, true, false, not, ◌&&◌, List, Option, Some, None}
use Rattle.std.proofs.Common.{max, refl, ap, sym, subst, arith, inl, inr}
use Rattle.std.specs.Prelude.{is_some, slice_index, slice_set}
use Rattle.std.specs.List.{slice_index_or}
use Rattle.std.proofs.lemmas.Bool.{cases_eq}
use Rattle.std.proofs.lemmas.Bool.Decides.{Decides-ltb}
use Rattle.tw_base.specs.Shape.{handler_budget_of}
use Rattle.tw_base.specs.declared.entry.Act.{Act}
use Rattle.tw_base.specs.declared.entry.Act.TheVariants as act
use Rattle.tw_base.specs.declared.entry.Event.{Event}
use Rattle.tw_base.specs.declared.entry.Event.TheVariants as event
use Rattle.tw_base.specs.declared.message.Chan.{Chan}
use Rattle.tw_base.specs.declared.message.Chan.TheVariants.{Zero, One}
use Rattle.tw_base.specs.declared.message.Message.{Message}
use Rattle.block_tags.specs.Copies.{tag_of}
use Rattle.handler_code.specs.declared.code.Code.{Code}
use Rattle.handler_vm.specs.Tables.{IsTableOf, Table}
use Rattle.deferred_queues.specs.Deferrals.{DeferredList, TakesFirst}
use Rattle.dsm_runs.specs.declared.mode.Mode.{Mode}
use Rattle.dsm_runs.specs.declared.mode.Mode.TheVariants as mode
use Rattle.dsm_runs.specs.Events.{IsRefused}
use Rattle.dsm_runs.specs.Locals.{last_stamp}
use Rattle.dsm_runs.specs.Messages.{fault, place}
use Rattle.dsm_runs.specs.Setups.{Setup, asked}
use Rattle.dsm_runs.specs.Tests.{has_eligible, is_early, may_handle, may_instruct}
use Rattle.dsm_runs.proofs.Lists.{and_left, and_right}
use Rattle.dsm_runs.proofs.Testing.{may_handle_decides, may_instruct_decides}
use Rattle.node_meaning.specs.HandlerEvents.{DeliveriesAreMade, FaultsAreMade, HasMade, RedeliveriesAreMade}
use Rattle.node_meaning.specs.Handling.{IsReadyFor}
use Rattle.node_meaning.specs.Nodes.{Shown, front_at, test_of, tested}
use Rattle.node_meaning.specs.Stands.{Makes}
use Rattle.node_parts.specs.Parts.{Kept}
use Rattle.node_core.specs.declared.state.State.{State}
use Rattle.node_core.specs.Handlers.{CanHandle, HasHandled}
use Rattle.node_core.specs.States.{IsNode, parts_of, shown_of}

-- ---- tests

pub may_instruct_sent : (n : Shown) → may_instruct n.setup (tested n) ≡ true → n.parts.sent < handler_budget_of n.setup.shape
may_instruct_sent n e = ((may_instruct_decides n.setup (tested n)).0 e).sent

pub may_instruct_few : (n : Shown) → may_instruct n.setup (tested n) ≡ true
    → (n.parts.instructions < n.setup.shape.budget) × (n.parts.clock < last_stamp)
may_instruct_few n e = (
  ((may_instruct_decides n.setup (tested n)).0 e).instructions,
  ((may_instruct_decides n.setup (tested n)).0 e).clock,
)

pub may_handle_sent : (n : Shown) → may_handle n.setup (tested n) ≡ true → n.parts.sent < handler_budget_of n.setup.shape
may_handle_sent n e = ((may_handle_decides n.setup (tested n)).0 e).sent

pub may_handle_few : (n : Shown) → may_handle n.setup (tested n) ≡ true
    → (n.parts.handled < handler_budget_of n.setup.shape) × (n.parts.clock < last_stamp)
may_handle_few n e = (((may_handle_decides n.setup (tested n)).0 e).handled, ((may_handle_decides n.setup (tested n)).0 e).clock)

pub redelivery_tests : (n : Shown) → test_of n (event.Redeliver n.me) ≡ true
    → (may_handle n.setup (tested n) ≡ true) × (has_eligible n.parts.deferred ≡ true)
redelivery_tests n e = (
  and_left (may_handle n.setup (tested n)) (has_eligible n.parts.deferred) e,
  and_right
      (may_handle n.setup (tested n)) (has_eligible n.parts.deferred) e,
)

pub delivery_tests : (n : Shown) (from : ℕ) (ch : Chan) → test_of n (event.Deliver n.me from ch) ≡ true
    → (may_handle n.setup (tested n) ≡ true) × (is_early (front_at n from ch) ≡ true)
delivery_tests n from ch e = (
  and_left (may_handle n.setup (tested n)) (not (has_eligible n.parts.deferred) && is_early (front_at n from ch)) e,
  and_right (not (has_eligible n.parts.deferred)) (is_early (front_at n from ch))
      (and_right (may_handle n.setup (tested n)) (not (has_eligible n.parts.deferred) && is_early (front_at n from ch)) e),
)

pub early_is : (o : Option Message) (m : Message) → o ≡ Some m → is_early o ≡ true → m.stamp < last_stamp
early_is o m is e = (Decides-ltb m.stamp last_stamp).0 (sym (ap is_early is) ∙ e)

pub early_there : (o taken : Option Message) → taken ≡ o → is_early o ≡ true → is_some taken ≡ true
early_there o None is e = let bad : false ≡ true = ap is_early is ∙ e in absurd cc
early_there o (Some m) is e = refl

pub stamp_fits : (clock stamp : ℕ) → clock < last_stamp → stamp < last_stamp → max clock stamp + 1 < 2 ^ 64
stamp_fits clock stamp a b = omega (arith, a, b)

-- ---- before the handler

-- each place is that of a wire
wire_of : (k : ℕ) (posted : List ℕ) (most : ℕ) → ((t : ℕ) (ch : Chan) → slice_index posted (place t ch) ≤ most)
    → slice_index posted k ≤ most
wire_of k posted most h = elim (cases_eq (k % 2) 0) [
  | inl e ↦ let at : place (k / 2) Zero ≡ k = omega (arith, e) in subst (λ j. slice_index posted j ≤ most) at (h (k / 2) Zero)
  | inr d ↦ let at : place (k / 2) One ≡ k = omega (arith, d) in subst (λ j. slice_index posted j ≤ most) at (h (k / 2) One)
]

-- the state that the handler finds: another mode, other counts, deferred messages and fronts
abbrev pub found_state : State → Mode → ℕ → ℕ → DeferredList → Kept → State
found_state x mode instructions handled deferred fronts = record x
    { mode = mode; instructions = instructions; handled = handled; deferred = deferred; fronts = fronts }

pub can_handle : (s : Setup) (code : Code) (me : ℕ) (x : State) (m : Message) (mode : Mode) (instructions handled : ℕ)
    (deferred : DeferredList) (fronts : Kept) → IsNode s code me x → x.ready ≡ true → x.sent < handler_budget_of s.shape
    → IsReadyFor (shown_of s code me x) m → deferred.ready ≡ x.deferred.ready → deferred.blocks ≡ x.deferred.blocks
    → CanHandle s code me (found_state x mode instructions handled deferred fronts) m
can_handle s code me x m mode instructions handled deferred fronts node ready few r room queues =
    let rooms = node.inside.rooms ready in
    record {
      is_code = node.well.code;
      table = node.inside.table;
      short = node.well.short;
      ready = record {
        accepted = r.accepted;
        message = r.message;
        block = r.block;
        here = r.here;
        is_block = r.is_block;
        fits = r.fits;
        full = r.full;
        stands = r.stands;
      };
      rooms = record {
        log = rooms.log;
        out = rooms.out;
        spare = rooms.spare;
        deferred = room
            ∙ rooms.deferred;
        ops = rooms.ops;
        records = rooms.records;
      };
      queues = queues ∙ node.inside.queues;
      cells = node.well.cells;
      shape = node.well.shape;
      sent = omega (arith, few, node.well.setup.limits.budget);
      posted = λ k. wire_of k x.out.posted x.sent node.well.few_posted;
    }

-- ---- after it

pub record HasMadeOne (s : Setup) (code : Code) (me : ℕ) (x y : State) (front : Option Message) (e : Event) : Type 0 where
  pub makes : Makes (shown_of s code me x) (shown_of s code me y) front e
  pub node : IsNode s code me y

made_one : (s : Setup) (code : Code) (me : ℕ) (x found y : State) (m : Message) (a : Act) (stamp : ℕ)
    (front : Option Message) (e : Event) → IsNode s code me x → found.processor ≡ x.processor
    → found.deferred.blocks ≡ x.deferred.blocks → found.doors ≡ x.doors
    → HasHandled s code me found y m a stamp → HasMade (shown_of s code me x) (shown_of s code me y) front e
    → HasMadeOne s code me x y front e
made_one s code me x found y m a stamp front e node processor queues doors handled made = record {
  makes = made.makes;
  node = record {
    well = made.well;
    replayed = made.replayed;
    inside = record {
      program = ap (λ p. p.program) (handled.processor ∙ processor) ∙ node.inside.program;
      queues = handled.queues ∙ queues ∙ node.inside.queues;
      table = subst (λ (t : Table). IsTableOf s.protocol code t) (sym (handled.doors ∙ doors)) node.inside.table;
      rooms = λ ready. let bad : false ≡ true = sym handled.unready ∙ ready in absurd cc;
    };
  };
}

pub fault_made : (s : Setup) (code : Code) (me : ℕ) (x y : State) (store : Bool) (block : ℕ) (m : Message) → FaultsAreMade
    → IsNode s code me x → may_instruct s (tested (shown_of s code me x)) ≡ true → block < s.shape.blocks
    → IsRefused s (asked s me x.processor.cpu) store block (tag_of x.blocks block) → m ≡ fault store block me
    → HasHandled s code me (found_state x (mode.Blocked block) (x.instructions + 1) x.handled x.deferred x.fronts) y m
    (act.Fault store block) (x.clock + 1) → HasMadeOne s code me x y None (event.Instr me)
fault_made s code me x y store block m law node enabled lt refused is handled =
    let found : State = found_state x (mode.Blocked block) (x.instructions + 1) x.handled x.deferred x.fronts in
    let h = subst (λ (z : Message). HasHandled s code me (found_state x (mode.Blocked block) (x.instructions + 1) x.handled
    x.deferred x.fronts) y z (act.Fault store block) (x.clock + 1)) is handled in
    made_one s code me x (found_state x (mode.Blocked block) (x.instructions + 1) x.handled x.deferred x.fronts) y m
    (act.Fault store block) (x.clock + 1) None (event.Instr me) node refl refl refl handled
    (law (shown_of s code me x) (shown_of s code me (found_state x (mode.Blocked block) (x.instructions + 1) x.handled
    x.deferred x.fronts)) (shown_of s code me y) store block h.entry node.well node.replayed
    (record { enabled = enabled; within = lt; refused = refused; act = h.act_is; stamp = h.stamp_is }) refl h.leaves)

pub redelivery_made : (s : Setup) (code : Code) (me : ℕ) (x y : State) (m : Message) (deferred : DeferredList)
    → RedeliveriesAreMade → IsNode s code me x → test_of (shown_of s code me x) (event.Redeliver me) ≡ true
    → (t : TakesFirst m x.deferred.list deferred.list) → deferred.blocks ≡ x.deferred.blocks
    → HasHandled s code me (found_state x x.mode x.instructions (x.handled + 1) deferred x.fronts) y m
    (act.Redelivered m.kind m.block m.from) (x.clock + 1) → HasMadeOne s code me x y None (event.Redeliver me)
redelivery_made s code me x y m deferred law node enabled t queues h =
    made_one s code me x (found_state x x.mode x.instructions (x.handled + 1) deferred x.fronts) y m
    (act.Redelivered m.kind m.block m.from) (x.clock + 1) None (event.Redeliver me) node refl queues refl h
    (law (shown_of s code me x) (shown_of s code me (found_state x x.mode x.instructions (x.handled + 1) deferred x.fronts))
    (shown_of s code me y) m t.earlier t.later h.entry node.well node.replayed
    (record { enabled = enabled; takes = t.takes; act = h.act_is; stamp = h.stamp_is })
    (λ j. record (shown_of s code me x) { parts = record (parts_of x) { handled = x.handled + 1; deferred = t.rest j } })
    h.leaves)

pub delivery_made : (s : Setup) (code : Code) (me : ℕ) (x y : State) (from : ℕ) (ch : Chan) (m : Message) (fronts : Kept)
    (stamp : ℕ) → DeliveriesAreMade → IsNode s code me x → test_of (shown_of s code me x) (event.Deliver me from ch) ≡ true
    → from < s.shape.nodes → slice_index_or x.fronts.items (place from ch) None ≡ Some m
    → fronts.items ≡ slice_set x.fronts.items (place from ch) None → fronts.accepted ≡ x.fronts.accepted
    → stamp ≡ max x.clock m.stamp + 1
    → HasHandled s code me (found_state x x.mode x.instructions (x.handled + 1) x.deferred fronts) y m
    (act.Delivered m.kind m.block from ch m.number) stamp
    → HasMadeOne s code me x y (front_at (shown_of s code me x) from ch) (event.Deliver me from ch)
delivery_made s code me x y from ch m fronts stamp law node enabled lt front items accepted at h =
    made_one s code me x (found_state x x.mode x.instructions (x.handled + 1) x.deferred fronts) y m
    (act.Delivered m.kind m.block from ch m.number) stamp (front_at (shown_of s code me x) from ch)
    (event.Deliver me from ch) node refl refl refl h
    (law (shown_of s code me x) (shown_of s code me (found_state x x.mode x.instructions (x.handled + 1) x.deferred fronts))
    (shown_of s code me y) from ch m h.entry node.well node.replayed
    (record { enabled = enabled; sender = lt; front = front; act = h.act_is; stamp = h.stamp_is ∙ at })
    (λ j. record (shown_of s code me x) {
      parts = record (parts_of x) { handled = x.handled + 1 };
      fronts = items j;
      accepted = accepted j;
    }) h.leaves)
