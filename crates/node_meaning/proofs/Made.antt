-- Refused accesses, redeliveries and deliveries are events of the model.
use Rattle.std.proofs.Common.{get_or-set_same, get_or-set_other, ◌≡◌, ℕ, ◌+◌, ◌<◌, ◌≤◌, Bool, true, false, not, ◌&&◌, ◌||◌}
use Rattle.std.proofs.Common.{nat_eq, List, [], ◌∷◌, ◌++◌, Option, Some, None, refl, ap, sym, ◌∙◌, subst, arith, eqb-true}
use Rattle.std.specs.Prelude.{find, if◌then◌else◌, length, slice_set}
use Rattle.std.specs.List.{slice_index_or}
use Rattle.std.specs.Option.{option_map}
use Rattle.std.proofs.Math.ListN.{length-set}
use Rattle.std.proofs.lemmas.Bool.Decides.{Decides-ltb}
use Rattle.tw_base.specs.Lists.{Each}
use Rattle.tw_base.specs.Shape.{handler_budget_of}
use Rattle.tw_base.specs.declared.entry.Act.{Act}
use Rattle.tw_base.specs.declared.entry.Act.TheVariants as act
use Rattle.tw_base.specs.declared.entry.Entry.{Entry}
use Rattle.tw_base.specs.declared.entry.Event.{Event}
use Rattle.tw_base.specs.declared.entry.Event.TheVariants as event
use Rattle.tw_base.specs.declared.message.Chan.{Chan}
use Rattle.tw_base.specs.declared.message.Message.{Message}
use Rattle.tw_base.specs.declared.value.Tag.{Tag}
use Rattle.mini_asm.specs.declared.cpu.Cpu.{Cpu}
use Rattle.teapot_meaning.specs.Fits.{IsMessageOf}
use Rattle.block_tags.specs.Copies.{tag_of}
use Rattle.value_nodes.specs.Within.{IsMessageWithin}
use Rattle.dsm_runs.specs.declared.mode.Mode.TheVariants as mode
use Rattle.dsm_runs.specs.declared.mode.Waiting.{Waiting}
use Rattle.dsm_runs.specs.Events.{Acts, IsRefused, latest}
use Rattle.dsm_runs.specs.Invariants.{IsDeferredAt}
use Rattle.dsm_runs.specs.Locals.{IsFirst, IsStale, Local, MayHandle, MayInstruct, last_stamp}
use Rattle.dsm_runs.specs.Messages.{chan_eq, fault, place}
use Rattle.dsm_runs.specs.Replays.{Course}
use Rattle.dsm_runs.specs.Setups.{Setup, asked}
use Rattle.dsm_runs.specs.Tests.{has_eligible, is_early, may_handle, may_instruct}
use Rattle.dsm_runs.specs.Worlds.{event_at, event_of, takes_from}
use Rattle.dsm_runs.proofs.Lists.{and_left, and_right, chan_eq-true, chan_eq_refl, nat_eq_refl}
use Rattle.dsm_runs.proofs.RunStates.{arrived, first_waits}
use Rattle.dsm_runs.proofs.Testing.{may_handle_decides, may_instruct_decides}
use Rattle.node_meaning.specs.HandlerEvents.{DeliveriesAreMade, FaultsAreMade, HasMade, IsDeliveryAt, IsFaultAt, IsRedeliveryAt}
use Rattle.node_meaning.specs.HandlerEvents.{RedeliveriesAreMade, blocked, one_handled, without_first}
use Rattle.node_meaning.specs.Handling.{HandlerLeaves}
use Rattle.node_meaning.specs.Laws.{LowerLaws}
use Rattle.node_meaning.specs.Nodes.{Parts, Shown, front_at, tested}
use Rattle.node_meaning.specs.Stands.{GoesOn, IsReplayed, IsWell, Makes, StandsFor}
use Rattle.node_meaning.specs.Tallies.{handled_message}
use Rattle.node_meaning.proofs.Course.{handles, kept_on_is, local_after, more, sends}
use Rattle.node_meaning.proofs.Going.{fit_sends, goes_on}
use Rattle.node_meaning.proofs.Keeping.{well_after}
use Rattle.node_meaning.proofs.Posting.{place_is, place_low}
use Rattle.node_meaning.proofs.Ran.{waits_more}
use Rattle.node_meaning.proofs.HandledParts.{Handled, kept_on}

-- ---- tests

instructs : (n : Shown) (c : Course) → StandsFor n c → may_instruct n.setup (tested n) ≡ true → MayInstruct n.setup c.local
instructs n c stands e = (may_instruct_decides n.setup c.local).0 (ap (λ l. may_instruct n.setup l) stands.parts ∙ e)

may_handle_now : (n : Shown) (c : Course) → StandsFor n c → may_handle n.setup (tested n) ≡ true → MayHandle n.setup c.local
may_handle_now n c stands e = (may_handle_decides n.setup c.local).0 (ap (λ l. may_handle n.setup l) stands.parts ∙ e)

none_eligible : (ws : List Waiting) → not (has_eligible ws) ≡ true → Each IsStale ws
none_eligible [] e = tt
none_eligible (w ∷ ws) e = go (none_eligible ws) w.eligible refl e
  where
    go : (not (has_eligible ws) ≡ true → Each IsStale ws) → (b : Bool) → w.eligible ≡ b → not (b || has_eligible ws) ≡ true
        → Each IsStale (w ∷ ws)
    go rest true is found = absurd cc
    go rest false is found = (is, rest found)

found_first : (m : Message) (earlier later : List Waiting) → Each IsStale earlier
    → find (λ w. w.eligible) (earlier ++ record { message = m; eligible = true } ∷ later) ≡ Some
    (record { message = m; eligible = true })
found_first m [] later h = refl
found_first m (w ∷ ws) later h = rw h.0 (found_first m ws later h.1)

first_found : (m : Message) (earlier later ws : List Waiting) → IsFirst m earlier later ws
    → option_map (λ w. w.message) (find (λ w. w.eligible) ws) ≡ Some m
first_found m earlier later ws first = ap (λ (xs : List Waiting). option_map (λ w. w.message) (find (λ w. w.eligible) xs))
    first.found ∙ ap (option_map (λ w. w.message)) (found_first m earlier later first.stale)

rest_of : (P : Waiting → Type 0) (w : Waiting) (earlier later : List Waiting) → Each P (earlier ++ w ∷ later)
    → P w × Each P (earlier ++ later)
rest_of P w [] later h = (h.0, h.1)
rest_of P w (x ∷ xs) later h = let k = rest_of P w xs later h.1 in (k.0, (h.0, k.1))

pub fault_is : (s : Setup) (store : Bool) (b i : ℕ) → IsMessageOf s.protocol s.shape.words (fault store b i)
fault_is s true b i = record { known = refl; types = refl; carried = λ h. absurd cc; plain = λ h. refl }
fault_is s false b i = record { known = refl; types = refl; carried = λ h. absurd cc; plain = λ h. refl }

-- ---- an event that was made

-- a lemma over what the node shows with what no event changes holds of what it shows
made_there : (old new : Shown) (found : Parts) (m : Message) (entry : Entry) (front : Option Message) (e : Event)
    → Handled old new found m entry
    → (Handled old (kept_on old new) found m entry → HasMade old (kept_on old new) front e) → HasMade old new front e
made_there old new found m entry front e h f =
    let same = kept_on_is old new found m entry h in
    subst (λ (x : Shown). HasMade old x front e) (sym same) (f (subst (λ (x : Shown). Handled old x found m entry) same h))

makes_of : (old left : Shown) (found : Parts) (m : Message) (entry : Entry) (front : Option Message) (e : Event)
    (ms : List Message) → Handled old (kept_on old left) found m entry → event_of entry ≡ e → left.waiting ≡ old.waiting ++ ms
    → ((c : Course) → StandsFor old c → GoesOn old (kept_on old left) c entry front ms) → Makes old (kept_on old left) front e
makes_of old left found m entry front e ms h tells waits goes = record {
  entry = entry;
  more = ms;
  tells = tells;
  log = h.log;
  waits = waits;
  same_setup = refl;
  same_code = refl;
  same_me = refl;
  same_accepted = refl;
  fronts = h.fronts;
  goes = goes;
}

untaken : (a b : Act) (f : ℕ) (ch : Chan) (Q : Type 0) → a ≡ b → takes_from b f ch ≡ false → takes_from a f ch ≡ true → Q
untaken a b f ch Q e none some = absurd (let bad : true ≡ false = sym some ∙ ap (λ x. takes_from x f ch) e ∙ none in cc)

-- ---- from what a handler found

handled_from : (old found new : Shown) (parts : Parts) (fronts : List (Option Message)) (m : Message) (entry : Entry)
    → found ≡ record old { parts = parts; fronts = fronts } → HandlerLeaves found new m entry
    → ((f : ℕ) (ch : Chan) → slice_index_or fronts (place f ch)
    None ≡ (if takes_from entry.act f ch then None else front_at old f ch)) → length fronts ≡ length old.fronts
    → Handled old new parts m entry
handled_from old found new parts fronts m entry is leaves left long = go
    (subst (λ (x : Shown). HandlerLeaves x new m entry) is leaves)
  where
    go : HandlerLeaves (record old { parts = parts; fronts = fronts }) new m entry → Handled old new parts m entry
    go h = record {
      sent = h.sent;
      ran = h.ran;
      runs = record {
        meant = h.runs.meant;
        stop = h.runs.stop;
        stops = h.runs.stops;
        leaves = h.runs.leaves;
        chain =
            h.runs.chain;
        others = h.runs.others;
      };
      infos = h.infos;
      cells = h.cells;
      other_cells = h.other_cells;
      outbox = h.outbox;
      parts = h.parts;
      ops = h.ops;
      records = h.records;
      node = h.node;
      count = h.count;
      after = h.after;
      log = h.log;
      fronts = λ f ch. ap (λ (xs : List (Option Message)). slice_index_or xs (place f ch) None) h.fronts ∙ left f ch;
      all_fronts = ap length h.fronts ∙ long;
      same_setup = h.same_setup;
      same_code = h.same_code;
      same_me = h.same_me;
      same_accepted = h.same_accepted;
    }

kept_if : (b : Bool) (kept : Option Message) → b ≡ false → (if b then None else kept) ≡ kept
kept_if true kept e = absurd cc
kept_if false kept e = refl

none_by : (a b : Act) (f : ℕ) (ch : Chan) → a ≡ b → takes_from b f ch ≡ false → takes_from a f ch ≡ false
none_by a b f ch e none = ap (λ x. takes_from x f ch) e ∙ none

same_wire : (from : ℕ) (ch : Chan) → (nat_eq from from && chan_eq ch ch) ≡ true
same_wire from ch = rw (nat_eq_refl from) (chan_eq_refl ch)

-- the wire whose front was taken has none, and the others have theirs
front_left : (fronts : List (Option Message)) (from f : ℕ) (ch c : Chan) (a : Act) → place from ch < length fronts
    → takes_from a f c ≡ (nat_eq f from && chan_eq c ch)
    → slice_index_or (slice_set fronts (place from ch) None) (place f c)
    None ≡ (if takes_from a f c then None else slice_index_or fronts (place f c) None)
front_left fronts from f ch c a low takes = rw takes (go (nat_eq f from && chan_eq c ch) refl)
  where
    go : (b : Bool) → (nat_eq f from && chan_eq c ch) ≡ b
        → slice_index_or (slice_set fronts (place from ch) None) (place f c)
        None ≡ (if b then None else slice_index_or fronts (place f c) None)
    go true on =
        let same : place f c ≡ place from ch = ap (λ k. place k c)
        (eqb-true f from (and_left (nat_eq f from) (chan_eq c ch) on))
        ∙ ap (λ d. place from d) (chan_eq-true c ch (and_right (nat_eq f from) (chan_eq c ch) on)) in
        ap (λ k. slice_index_or (slice_set fronts (place from ch) None) k None) same
        ∙ get_or-set_same fronts (place from ch) None None low
    go false off = get_or-set_other fronts (place from ch) (place f c) None None
        (λ e. let same = place_is f from c ch e in let on : (nat_eq f from && chan_eq c ch) ≡ true = ap
        (λ k. nat_eq k from && chan_eq c ch) same.0 ∙ ap (λ d. nat_eq from from && chan_eq d ch) same.1
        ∙ same_wire from ch in let bad : true ≡ false = sym on ∙ off in absurd cc)

-- ---- a refused access

module _ (lower : LowerLaws) (old left : Shown) (store : Bool) (block : ℕ) (entry : Entry) (well : IsWell old)
    (replayed : IsReplayed old) (at : IsFaultAt old store block entry)
    (h : Handled old (kept_on old left) (blocked old.parts block) (fault store block old.me) entry) where
  abbrev fault_m : Message
  fault_m = fault store block old.me

  fault_deferred : IsDeferredAt old.setup old.me fault_m
  fault_deferred = record { is_message = fault_is old.setup store block old.me; to = refl; own = λ is. refl; block = at.within }

  fault_within : IsMessageWithin old.setup.shape.nodes fault_m
  fault_within = (well.at_node, tt)

  fault_acts : (c : Course) (stands : StandsFor old c)
      → Acts old.setup old.me c.local None (local_after lower old left (blocked old.parts block) fault_m entry well
      fault_deferred fault_within h c stands) entry (sends lower old left (blocked old.parts block) fault_m entry well
      fault_deferred fault_within h) entry.act
  fault_acts c stands =
      subst (λ (a : Act). Acts old.setup old.me c.local None
      (local_after lower old left (blocked old.parts block) fault_m entry well fault_deferred fault_within h c stands)
      entry (sends lower old left (blocked old.parts block) fault_m entry well fault_deferred fault_within h) a) (sym at.act)
      (record {
        instructs = record {
          may = instructs old c stands at.enabled;
          no_front = refl;
          instructions = ap (λ (x : Parts). x.instructions) h.parts ∙ ap (λ (l : Local). l.instructions + 1) (sym stands.parts);
          handled = ap (λ (x : Parts). x.handled) h.parts ∙ ap (λ (l : Local). l.handled) (sym stands.parts);
        };
        refused = refused;
        handles = handles lower old left (blocked old.parts block) fault_m entry well fault_deferred fault_within h c stands
            (mode.Blocked block) c.local.deferred refl (ap (λ (l : Local). l.deferred) stands.parts)
            (ap (λ (l : Local). l.cpu) (sym stands.parts));
      })
    where
      tag : tag_of old.copies block ≡ (c.local.blocks block).tag
      tag = ap (tag_of old.copies) (sym (stands.sound.blocks block at.within).block) ∙ (stands.blocks block at.within).tag

      refused : IsRefused old.setup (asked old.setup old.me c.local.cpu) store block (c.local.blocks block).tag
      refused =
          subst (λ (x : Cpu). IsRefused old.setup (asked old.setup old.me x) store block (c.local.blocks block).tag)
          (ap (λ (l : Local). l.cpu) (sym stands.parts))
          (subst (λ (t : Tag). IsRefused old.setup (asked old.setup old.me old.parts.cpu) store block t) tag at.refused)

  none_taken : (Q : Type 0) (f : ℕ) (ch : Chan) → takes_from entry.act f ch ≡ true → Q
  none_taken Q f ch = untaken entry.act (act.Fault store block) f ch Q at.act refl

  fault_handled : (c : Course) → handled_message old.me c.local None entry.act ≡ Some fault_m
  fault_handled c = ap (λ a. handled_message old.me c.local None a) at.act

  fault_goes : (c : Course) (stands : StandsFor old c) → GoesOn old (kept_on old left) c entry None
      (more lower old left (blocked old.parts block) fault_m entry well fault_deferred fault_within h)
  fault_goes c stands =
      goes_on lower old left (blocked old.parts block) fault_m entry well fault_deferred fault_within h c stands None
      (λ f ch some. none_taken (None ≡ front_at old f ch) f ch some) (λ x e. absurd cc) at.stamp refl (fault_acts c stands)
      (fault_handled c)

  fault_well : (c : Course) (stands : StandsFor old c) → IsWell (kept_on old left)
  fault_well c stands =
      well_after lower old left (blocked old.parts block) fault_m entry well fault_deferred fault_within h c stands
      (fit_sends lower old left (blocked old.parts block) fault_m entry well fault_deferred fault_within h c stands None
      (λ f ch some. none_taken (None ≡ front_at old f ch) f ch some) (λ x e. absurd cc) at.stamp refl (fault_acts c stands)
      (fault_handled c))
      refl
      (subst (λ (l : Local). l.sent < handler_budget_of old.setup.shape) stands.parts (instructs old c stands at.enabled).sent)
      (omega arith)
      (λ f ch some. none_taken (old.parts.handled + 1 ≤ old.parts.handled) f ch some)
      well.deferred

  fault_made : HasMade old (kept_on old left) None (event.Instr old.me)
  fault_made =
      let c = replayed.course in
      record {
        makes =
            makes_of old left (blocked old.parts block) fault_m entry None (event.Instr old.me)
            (more lower old left (blocked old.parts block) fault_m entry well fault_deferred fault_within h) h
            (ap (event_at entry.node) at.act ∙ ap event.Instr h.node)
            (waits_more lower old left (blocked old.parts block) fault_m entry well fault_deferred fault_within h)
            fault_goes;
        well = fault_well replayed.course replayed.stands;
        replayed = let g = fault_goes replayed.course replayed.stands in record { course = g.after; stands = g.stands };
      }

pub faults_are_made : LowerLaws → FaultsAreMade
faults_are_made lower old found new store block entry well replayed at is leaves =
    let h = handled_from old found new (blocked old.parts block) old.fronts (fault store block old.me) entry is leaves
    (λ f ch. sym (kept_if (takes_from entry.act f ch) (front_at old f ch)
    (none_by entry.act (act.Fault store block) f ch at.act refl))) refl in
    made_there old new (blocked old.parts block) (fault store block old.me) entry None (event.Instr old.me) h
    (λ k. fault_made lower old new store block entry well replayed at k)

-- ---- a redelivery

module _ (lower : LowerLaws) (old left : Shown) (m : Message) (earlier later : List Waiting) (entry : Entry)
    (well : IsWell old) (replayed : IsReplayed old) (at : IsRedeliveryAt old m earlier later entry)
    (h : Handled old (kept_on old left) (without_first old.parts (earlier ++ later)) m entry) where
  abbrev found_r : Parts
  found_r = without_first old.parts (earlier ++ later)

  first_there : (c : Course) → StandsFor old c → IsFirst m earlier later c.local.deferred
  first_there c stands = subst (λ (ws : List Waiting). IsFirst m earlier later ws)
      (ap (λ (l : Local). l.deferred) (sym stands.parts)) at.takes

  r_deferred : IsDeferredAt old.setup old.me m
  r_deferred = (first_waits old.setup old.me m earlier later replayed.course.local.deferred
      (first_there replayed.course replayed.stands) replayed.stands.sound.deferred).0

  r_parts : IsMessageWithin old.setup.shape.nodes m × Each (λ w. IsMessageWithin old.setup.shape.nodes w.message)
      (earlier ++ later)
  r_parts =
      rest_of (λ w. IsMessageWithin old.setup.shape.nodes w.message) (record { message = m; eligible = true }) earlier later
      (subst (λ (ws : List Waiting). Each (λ w. IsMessageWithin old.setup.shape.nodes w.message) ws) at.takes.found well.deferred)

  may_r : (c : Course) (stands : StandsFor old c) → MayHandle old.setup c.local
  may_r c stands = may_handle_now old c stands (and_left (may_handle old.setup (tested old))
      (has_eligible old.parts.deferred) at.enabled)

  r_acts : (c : Course) (stands : StandsFor old c)
      → Acts old.setup old.me c.local None (local_after lower old left found_r m entry well r_deferred r_parts.0 h c stands)
      entry (sends lower old left found_r m entry well r_deferred r_parts.0 h) entry.act
  r_acts c stands =
      subst (λ (a : Act). Acts old.setup old.me c.local None
      (local_after lower old left found_r m entry well r_deferred r_parts.0 h c stands) entry
      (sends lower old left found_r m entry well r_deferred r_parts.0 h) a) (sym at.act)
      (record {
        counts = record {
          may = may_r c stands;
          instructions = ap (λ (x : Parts). x.instructions) h.parts ∙ ap (λ (l : Local). l.instructions) (sym stands.parts);
          handled = ap (λ (x : Parts). x.handled) h.parts ∙ ap (λ (l : Local). l.handled + 1) (sym stands.parts);
        };
        no_front = refl;
        message = m;
        earlier = earlier;
        later = later;
        takes = first_there c stands;
        of_kind = refl;
        of_block = refl;
        of_sender = refl;
        handles = handles lower old left found_r m entry well r_deferred r_parts.0 h c stands c.local.mode (earlier ++ later)
            (ap (λ (l : Local). l.mode) stands.parts) refl (ap (λ (l : Local). l.cpu) (sym stands.parts));
      })

  r_none_taken : (Q : Type 0) (f : ℕ) (ch : Chan) → takes_from entry.act f ch ≡ true → Q
  r_none_taken Q f ch = untaken entry.act (act.Redelivered m.kind m.block m.from) f ch Q at.act refl

  r_handled : (c : Course) → StandsFor old c → handled_message old.me c.local None entry.act ≡ Some m
  r_handled c stands = ap (λ a. handled_message old.me c.local None a) at.act
      ∙ first_found m earlier later c.local.deferred (first_there c stands)

  r_goes : (c : Course) (stands : StandsFor old c) → GoesOn old (kept_on old left) c entry None
      (more lower old left found_r m entry well r_deferred r_parts.0 h)
  r_goes c stands =
      goes_on lower old left found_r m entry well r_deferred r_parts.0 h c stands None
      (λ f ch some. r_none_taken (None ≡ front_at old f ch) f ch some) (λ x e. absurd cc) at.stamp refl (r_acts c stands)
      (r_handled c stands)

  r_well : (c : Course) (stands : StandsFor old c) → IsWell (kept_on old left)
  r_well c stands =
      well_after lower old left found_r m entry well r_deferred r_parts.0 h c stands
      (fit_sends lower old left found_r m entry well r_deferred r_parts.0 h c stands None
      (λ f ch some. r_none_taken (None ≡ front_at old f ch) f ch some) (λ x e. absurd cc) at.stamp refl (r_acts c stands)
      (r_handled c stands))
      refl
      (subst (λ (l : Local). l.sent < handler_budget_of old.setup.shape) stands.parts (may_r c stands).sent)
      (omega arith)
      (λ f ch some. omega arith)
      r_parts.1

  r_made : HasMade old (kept_on old left) None (event.Redeliver old.me)
  r_made = record {
    makes =
        makes_of old left found_r m entry None (event.Redeliver old.me)
        (more lower old left found_r m entry well r_deferred r_parts.0 h) h
        (ap (event_at entry.node) at.act ∙ ap event.Redeliver h.node)
        (waits_more lower old left found_r m entry well r_deferred r_parts.0 h)
        r_goes;
    well = r_well replayed.course replayed.stands;
    replayed = let g = r_goes replayed.course replayed.stands in record { course = g.after; stands = g.stands };
  }

pub redeliveries_are_made : LowerLaws → RedeliveriesAreMade
redeliveries_are_made lower old found new m earlier later entry well replayed at is leaves =
    let h = handled_from old found new (without_first old.parts (earlier ++ later)) old.fronts m entry is leaves
    (λ f ch. sym (kept_if (takes_from entry.act f ch) (front_at old f ch)
    (none_by entry.act (act.Redelivered m.kind m.block m.from) f ch at.act refl))) refl in
    made_there old new (without_first old.parts (earlier ++ later)) m entry None (event.Redeliver old.me) h
    (λ k. r_made lower old new m earlier later entry well replayed at k)

-- ---- a delivery

module _ (lower : LowerLaws) (old left : Shown) (from : ℕ) (ch : Chan) (m : Message) (entry : Entry) (well : IsWell old)
    (replayed : IsReplayed old) (at : IsDeliveryAt old from ch m entry)
    (h : Handled old (kept_on old left) (one_handled old.parts) m entry) where
  abbrev found_d : Parts
  found_d = one_handled old.parts

  d_deferred : IsDeferredAt old.setup old.me m
  d_deferred = arrived old.setup from old.me m (well.fronts from ch m at.front).fit.on

  d_within : IsMessageWithin old.setup.shape.nodes m
  d_within = (well.fronts from ch m at.front).fit.within

  may_d : (c : Course) (stands : StandsFor old c) → MayHandle old.setup c.local
  may_d c stands = may_handle_now old c stands (and_left (may_handle old.setup (tested old))
      (not (has_eligible old.parts.deferred) && is_early (front_at old from ch)) at.enabled)

  other_tests : (not (has_eligible old.parts.deferred) && is_early (front_at old from ch)) ≡ true
  other_tests = and_right (may_handle old.setup (tested old))
      (not (has_eligible old.parts.deferred) && is_early (front_at old from ch)) at.enabled

  none_waits : Each IsStale old.parts.deferred
  none_waits = none_eligible old.parts.deferred (and_left (not (has_eligible old.parts.deferred))
      (is_early (front_at old from ch)) other_tests)

  early : m.stamp < last_stamp
  early =
      let e : is_early (front_at old from ch) ≡ true = and_right (not (has_eligible old.parts.deferred))
      (is_early (front_at old from ch)) other_tests in
      (Decides-ltb m.stamp last_stamp).0 (sym (ap is_early at.front) ∙ e)

  d_acts : (c : Course) (stands : StandsFor old c)
      → Acts old.setup old.me c.local (front_at old from ch)
      (local_after lower old left found_d m entry well d_deferred d_within h c stands) entry
      (sends lower old left found_d m entry well d_deferred d_within h) entry.act
  d_acts c stands =
      subst (λ (a : Act). Acts old.setup old.me c.local (front_at old from ch)
      (local_after lower old left found_d m entry well d_deferred d_within h c stands) entry
      (sends lower old left found_d m entry well d_deferred d_within h) a) (sym at.act)
      (record {
        counts = record {
          may = may_d c stands;
          instructions = ap (λ (x : Parts). x.instructions) h.parts ∙ ap (λ (l : Local). l.instructions) (sym stands.parts);
          handled = ap (λ (x : Parts). x.handled) h.parts ∙ ap (λ (l : Local). l.handled + 1) (sym stands.parts);
        };
        none_eligible = subst (λ (l : Local). Each IsStale l.deferred) (sym stands.parts) none_waits;
        from_node = at.sender;
        message = m;
        is_front = at.front;
        early = early;
        of_kind = refl;
        of_block = refl;
        of_number = refl;
        handles = handles lower old left found_d m entry well d_deferred d_within h c stands c.local.mode c.local.deferred
            (ap (λ (l : Local). l.mode) stands.parts) (ap (λ (l : Local). l.deferred) stands.parts)
            (ap (λ (l : Local). l.cpu) (sym stands.parts));
      })

  d_front : (f : ℕ) (c : Chan) → takes_from entry.act f c ≡ true → front_at old from ch ≡ front_at old f c
  d_front f c some =
      let there : (nat_eq f from && chan_eq c ch) ≡ true = sym (ap (λ a. takes_from a f c) at.act) ∙ some in
      let same_from : f ≡ from = (λ (e : nat_eq f from ≡ true). eqb-true f from e)
      (and_left (nat_eq f from) (chan_eq c ch) there) in
      let same_chan : c ≡ ch = chan_eq-true c ch (and_right (nat_eq f from) (chan_eq c ch) there) in
      ap (λ k. front_at old k ch) (sym same_from) ∙ ap (λ d. front_at old f d) (sym same_chan)

  d_comes : (x : Message) → front_at old from ch ≡ Some x → IsDeferredAt old.setup old.me x
  d_comes x e = arrived old.setup from old.me x (well.fronts from ch x e).fit.on

  d_stamp : entry.stamp ≡ latest old.parts.clock (front_at old from ch) + 1
  d_stamp = at.stamp ∙ ap (λ (o : Option Message). latest old.parts.clock o + 1) (sym at.front)

  d_handled : (c : Course) → handled_message old.me c.local (front_at old from ch) entry.act ≡ Some m
  d_handled c = ap (λ a. handled_message old.me c.local (front_at old from ch) a) at.act ∙ at.front

  d_goes : (c : Course) (stands : StandsFor old c) → GoesOn old (kept_on old left) c entry (front_at old from ch)
      (more lower old left found_d m entry well d_deferred d_within h)
  d_goes c stands = goes_on lower old left found_d m entry well d_deferred d_within h c stands (front_at old from ch) d_front
      d_comes d_stamp refl (d_acts c stands) (d_handled c)

  d_well : (c : Course) (stands : StandsFor old c) → IsWell (kept_on old left)
  d_well c stands =
      well_after lower old left found_d m entry well d_deferred d_within h c stands
      (fit_sends lower old left found_d m entry well d_deferred d_within h c stands (front_at old from ch) d_front d_comes
      d_stamp refl (d_acts c stands) (d_handled c))
      refl
      (subst (λ (l : Local). l.sent < handler_budget_of old.setup.shape) stands.parts (may_d c stands).sent)
      (omega arith)
      (λ f c some. omega arith)
      well.deferred

  d_made : HasMade old (kept_on old left) (front_at old from ch) (event.Deliver old.me from ch)
  d_made = record {
    makes =
        makes_of old left found_d m entry (front_at old from ch) (event.Deliver old.me from ch)
        (more lower old left found_d m entry well d_deferred d_within h) h
        (ap (event_at entry.node) at.act ∙ ap (λ i. event.Deliver i from ch) h.node)
        (waits_more lower old left found_d m entry well d_deferred d_within h)
        d_goes;
    well = d_well replayed.course replayed.stands;
    replayed = let g = d_goes replayed.course replayed.stands in record { course = g.after; stands = g.stands };
  }

pub deliveries_are_made : LowerLaws → DeliveriesAreMade
deliveries_are_made lower old found new from ch m entry well replayed at is leaves =
    let h =
    handled_from old found new (one_handled old.parts) (slice_set old.fronts (place from ch) None) m entry is leaves
    (λ f c. front_left old.fronts from f ch c entry.act (omega
    (arith, well.all_fronts, place_low from ch (omega (arith, at.sender, well.setup.limits.nodes))))
    (ap (λ a. takes_from a f c) at.act))
    (length-set old.fronts (place from ch) None) in
    made_there old new (one_handled old.parts) m entry (front_at old from ch) (event.Deliver old.me from ch) h
    (λ k. d_made lower old new from ch m entry well replayed at k)
