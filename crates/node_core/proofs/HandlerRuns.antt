-- A handler's run at a node's state, and what is done of it.
use Rattle.std.proofs.Common.{◌≡◌, ◌∙◌, ℕ, zero, suc, ◌+◌, ◌<◌, ◌≤◌, ◌^◌, false, List, [], ◌∷◌, ◌++◌, Some, length, refl, ap}
use Rattle.std.proofs.Common.{sym, subst, arith, get_or, get_or-set_same, get_or-set_other}
use Rattle.std.specs.Prelude.{slice_set}
use Rattle.std.specs.Global.{Vec}
use Rattle.std.specs.List.{slice_index_or}
use Rattle.std.proofs.Math.ListN.{length-set}
use Rattle.tw_base.specs.declared.entry.Act.{Act}
use Rattle.tw_base.specs.declared.entry.Entry.{Entry}
use Rattle.tw_base.specs.declared.message.Message.{Message}
use Rattle.teapot_tree.specs.declared.protocol.Protocol.{Protocol}
use Rattle.teapot_meaning.specs.Does.{Does}
use Rattle.teapot_meaning.specs.Fits.{Fits}
use Rattle.teapot_meaning.specs.declared.state.Ended.{Ended}
use Rattle.teapot_meaning.specs.declared.state.Here.{Here}
use Rattle.block_tags.specs.Copies.{Copies}
use Rattle.cont_store.specs.Store.{Store}
use Rattle.handler_code.specs.declared.code.Code.{Code}
use Rattle.handler_code.specs.Machine.{Stopped}
use Rattle.handler_vm.specs.declared.cell.Cell.{Cell}
use Rattle.handler_vm.specs.declared.cell.Ran.{Ran}
use Rattle.handler_vm.specs.Chains.{IsChain, KeepsOthers}
use Rattle.handler_vm.specs.Leaves.{Leaves, StopsAt}
use Rattle.handler_vm.specs.Sending.{Sends}
use Rattle.handler_vm.specs.Tables.{IsTableOf}
use Rattle.compiled_handlers.specs.Standing.{BlockStands, DoesAsMeant, IsBlockOf, Keeping}
use Rattle.dsm_runs.specs.Setups.{Setup, home_of}
use Rattle.node_meaning.specs.HandlerEvents.{RunsAreBounded}
use Rattle.node_meaning.specs.Handling.{IsBounded, RanFor, after_at, parts_after}
use Rattle.node_meaning.specs.Nodes.{Parts, cell_at, no_cell}
use Rattle.node_meaning.specs.Sending.{post_all}
use Rattle.node_parts.specs.Parts.{Logged, Posting}
use Rattle.node_core.specs.declared.state.State.{State}
use Rattle.node_core.specs.Handlers.{CanHandle, CanSettle, HasHandled, HasRun, HasSettled, outbox}
use Rattle.node_core.specs.States.{parts_of, shown_of}

abbrev pub kept_so : Cell → Copies → Store → Keeping
kept_so cell blocks conts = record { cell = cell; blocks = blocks; conts = conts }

-- ---- what the call asks for

abbrev pub Finds : Protocol → Code → ℕ → ℕ → ℕ → Keeping → Type 0
Finds p code me home block kept = (here : Here) × IsBlockOf me home block here × Fits p here × BlockStands p code kept here

pub finds : (s : Setup) (code : Code) (me : ℕ) (x : State) (m : Message) (p : Protocol) (home : ℕ) (cell : Cell)
    → CanHandle s code me x m → p ≡ s.protocol → home ≡ home_of s m.block → cell ≡ cell_at (shown_of s code me x) m.block
    → Finds p code me home m.block (kept_so cell x.blocks x.conts)
finds s code me x m p home cell can same_p same_home same_cell =
    let r = can.ready in
    subst (λ (q : Protocol). Finds q code me home m.block (kept_so cell x.blocks x.conts)) (sym same_p)
    (subst (λ h. Finds s.protocol code me h m.block (kept_so cell x.blocks x.conts)) (sym same_home)
    (subst (λ (y : Cell). Finds s.protocol code me (home_of s m.block) m.block (kept_so y x.blocks x.conts)) (sym same_cell)
    (r.here, r.is_block, r.fits, r.stands)))

any_default : (xs : List Cell) (n : ℕ) (a b : Cell) → n < length xs → get_or xs n a ≡ get_or xs n b
any_default [] n a b lt = absurd (omega arith)
any_default (y ∷ ys) zero a b lt = refl
any_default (y ∷ ys) (suc n) a b lt = any_default ys n a b (omega arith)

pub table_there : (s : Setup) (code : Code) (me : ℕ) (x : State) (m : Message) (p : Protocol) → CanHandle s code me x m
    → p ≡ s.protocol → IsTableOf p code x.doors
table_there s code me x m p can same = subst (λ (q : Protocol). IsTableOf q code x.doors) (sym same) can.table

-- the cell of a block, read by its number
pub cell_read : (s : Setup) (me block : ℕ) (cells items : List Cell) (at k : ℕ) (cell : Cell) → block < length cells
    → items ≡ cells → at ≡ k → k ≡ block → cell ≡ get_or items at cell → cell ≡ slice_index_or cells block (no_cell s me block)
cell_read s me block cells items at k cell lt is at_is k_is read =
    read ∙ ap (λ (xs : List Cell). get_or xs at cell) is ∙ ap (λ n. get_or cells n cell) (at_is ∙ k_is)
    ∙ any_default cells block cell (no_cell s me block) lt

-- ---- what the call says

pub record CallSays (p : Protocol) (code : Code) (me home : ℕ) (cell cell2 : Cell) (blocks blocks2 : Copies)
    (conts conts2 : Store) (m : Message) (sent : List Message) (ran : Ran) : Type 0 where
  pub meant :
      (here : Here) (e : Ended) →
      IsBlockOf me home m.block here →
      Fits p here →
      BlockStands p code (kept_so cell blocks conts) here →
      Does p here m e →
      DoesAsMeant p code me home m.block (kept_so cell blocks conts) (kept_so cell2 blocks2 conts2) sent ran e
  pub machine : (e : Stopped) × StopsAt p code me home cell blocks conts m e × Leaves p me m cell cell2 blocks blocks2 conts2
      sent ran e
  pub chain : IsChain blocks.shape.words conts2 cell2.cont
  pub others : KeepsOthers conts conts2 cell.cont cell2.cont

pub run_done : (s : Setup) (code : Code) (me : ℕ) (x : State) (m : Message) (p : Protocol) (home at : ℕ) (cell cell2 : Cell)
    (cells2 : Vec Cell) (blocks2 : Copies) (conts2 : Store) (around2 : Sends) (ran : Ran) → CanHandle s code me x m
    → p ≡ s.protocol → home ≡ home_of s m.block → cell ≡ cell_at (shown_of s code me x) m.block → at ≡ m.block
    → cells2.items ≡ slice_set x.cells.items at cell2
    → CallSays p code me home cell cell2 x.blocks blocks2 x.conts conts2 m around2.sent ran → ran.ops ≤ 2 ^ 62
    → length cell2.infos ≡ length cell.infos
    → HasRun s code me x (record x { cells = cells2; blocks = blocks2; conts = conts2; around = around2 }) m ran
run_done s code me x m p home at cell cell2 cells2 blocks2 conts2 around2 ran can same_p same_home same_cell same_at set says
    few infos = record {
      runs = record {
        meant = moved.meant;
        stop = moved.machine.0;
        stops = moved.machine.1;
        leaves = moved.machine.2;
        chain =
            moved.chain;
        others = moved.others;
      };
      ops = few;
      infos = ap (λ (y : Cell). length y.infos) cell_there ∙ infos ∙ ap (λ (y : Cell). length y.infos) same_cell;
      cells = ap length set_there ∙ length-set x.cells.items m.block cell2;
      other_cells = λ b d. ap (λ (xs : List Cell). slice_index_or xs b (no_cell s me b)) set_there
          ∙ get_or-set_other x.cells.items m.block b cell2 (no_cell s me b) d;
      same = refl;
    }
  where
    set_there : cells2.items ≡ slice_set x.cells.items m.block cell2
    set_there = set ∙ ap (λ n. slice_set x.cells.items n cell2) same_at

    cell_there : slice_index_or cells2.items m.block (no_cell s me m.block) ≡ cell2
    cell_there = ap (λ (xs : List Cell). slice_index_or xs m.block (no_cell s me m.block)) set_there
        ∙ get_or-set_same x.cells.items m.block cell2 (no_cell s me m.block) (omega (arith, can.ready.block, can.cells))

    moved : CallSays s.protocol code me (home_of s m.block) (cell_at (shown_of s code me x) m.block)
        (slice_index_or cells2.items m.block (no_cell s me m.block)) x.blocks blocks2 x.conts conts2 m around2.sent ran
    moved =
        subst (λ (y : Cell). CallSays s.protocol code me (home_of s m.block) (cell_at (shown_of s code me x) m.block) y
        x.blocks blocks2 x.conts conts2 m around2.sent ran) (sym cell_there)
        (subst (λ (y : Cell). CallSays s.protocol code me (home_of s m.block) y cell2 x.blocks blocks2 x.conts conts2 m
        around2.sent ran) same_cell
        (subst (λ h. CallSays s.protocol code me h cell cell2 x.blocks blocks2 x.conts conts2 m around2.sent ran) same_home
        (subst (λ (q : Protocol). CallSays q code me home cell cell2 x.blocks blocks2 x.conts conts2 m around2.sent ran)
        same_p says)))

-- ---- between the run and the entry

pub can_settle : (s : Setup) (code : Code) (me : ℕ) (x y : State) (m : Message) (ran : Ran) → CanHandle s code me x m
    → HasRun s code me x y m ran → CanSettle y
can_settle s code me x y m ran can run = subst (λ (z : State). CanSettle z) (sym run.same) (record {
  out = can.rooms.out;
  deferred = can.rooms.deferred;
  ops = can.rooms.ops;
  records = can.rooms.records;
  sent = can.sent;
  posted = can.posted;
})

pub bounded_by : (s : Setup) (code : Code) (me : ℕ) (x y : State) (m : Message) (ran : Ran) → RunsAreBounded
    → CanHandle s code me x m → HasRun s code me x y m ran → IsBounded y.around.sent ran
bounded_by s code me x y m ran law can run = law (shown_of s code me x) (shown_of s code me y) m y.around.sent ran can.ready
    run.runs

pub queue_there : (s : Setup) (code : Code) (me : ℕ) (x y : State) (m : Message) (ran : Ran) → CanHandle s code me x m
    → HasRun s code me x y m ran → m.block < y.deferred.blocks
queue_there s code me x y m ran can run = omega (
  arith,
  can.ready.block,
  can.queues,
  ap (λ (z : State). z.deferred.blocks)
      run.same,
)

pub log_room : (s : Setup) (code : Code) (me : ℕ) (x y z : State) (m : Message) (ran : Ran) (stamp : ℕ)
    → CanHandle s code me x m → HasRun s code me x y m ran → HasSettled y z m ran stamp → length z.log.list < z.log.room
log_room s code me x y z m ran stamp can run settled =
    subst (λ (l : Logged). length l.list < l.room) (sym (ap (λ (q : State). q.log) settled.same
    ∙ ap (λ (q : State). q.log) run.same)) can.rooms.log

pub cells_there : (s : Setup) (code : Code) (me : ℕ) (x y z : State) (m : Message) (ran : Ran) (stamp : ℕ)
    → CanHandle s code me x m → HasRun s code me x y m ran → HasSettled y z m ran stamp → m.block < length z.cells.items
cells_there s code me x y z m ran stamp can run settled = omega
    (arith, can.ready.block, can.cells, run.cells, ap (λ (q : State). length q.cells.items) settled.same)

pub few_sends : (s : Setup) (code : Code) (me : ℕ) (x y z : State) (m : Message) (ran : Ran) (stamp : ℕ)
    (sends : List Message) → RunsAreBounded → CanHandle s code me x m → HasRun s code me x y m ran
    → HasSettled y z m ran stamp → sends ≡ z.around.sent → (length sends ≤ 288) × (length sends ≡ length y.around.sent)
few_sends s code me x y z m ran stamp sends law can run settled is =
    let same : length sends ≡ length y.around.sent = ap length (is ∙ ap (λ (q : State). q.around.sent) settled.same) in
    let few = (bounded_by s code me x y m ran law can run).few in
    (omega (arith, same, few), same)

-- ---- the event

ran_moved : (s : Setup) (code : Code) (me : ℕ) (x y w : State) (m : Message) (sent : List Message) (ran : Ran)
    → w.cells.items ≡ y.cells.items → w.blocks ≡ y.blocks → w.conts ≡ y.conts
    → RanFor (shown_of s code me x) (shown_of s code me y) m sent ran
    → RanFor (shown_of s code me x) (shown_of s code me w) m sent ran
ran_moved s code me x y w m sent ran cells blocks conts h =
    subst (λ (c : List Cell). RanFor (shown_of s code me x) (record (shown_of s code me w) { cells = c }) m sent ran) (sym cells)
    (subst (λ (b : Copies). RanFor (shown_of s code me x) (record (shown_of s code me w) { cells = y.cells.items; copies = b }) m
    sent ran) (sym blocks)
    (subst (λ (k : Store). RanFor (shown_of s code me x) (record (shown_of s code me w)
    { cells = y.cells.items; copies = y.blocks; conts = k }) m sent ran) (sym conts)
    (record { meant = h.meant; stop = h.stop; stops = h.stops; leaves = h.leaves; chain = h.chain; others = h.others })))

pub handled_done : (s : Setup) (code : Code) (me : ℕ) (x y z : State) (m : Message) (ran : Ran) (stamp : ℕ) (act : Act)
    (log : Logged) (entry : Entry) → HasRun s code me x y m ran → HasSettled y z m ran stamp
    → log.list ≡ z.log.list ++ entry ∷ [] → entry.stamp ≡ stamp → entry.node ≡ me → entry.act ≡ act
    → entry.sends ≡ length y.around.sent → entry.after ≡ Some (after_at (shown_of s code me z) m.block ran)
    → HasHandled s code me x (record z { log = log; ready = false }) m act stamp
handled_done s code me x y z m ran stamp act log entry run settled logged at node acts count after = record {
  entry = entry;
  act_is = acts;
  stamp_is = at;
  leaves = record {
    sent = y.around.sent;
    ran = ran;
    runs = ran_moved s code me x y (record z { log = log; ready = false }) m y.around.sent ran cells
        (ap (λ (q : State). q.blocks) settled.same) (ap (λ (q : State). q.conts) settled.same) run.runs;
    infos = ap (λ (xs : List Cell). length (slice_index_or xs m.block (no_cell s me m.block)).infos) cells ∙ run.infos;
    cells = ap length cells ∙ run.cells;
    other_cells = λ b d. ap (λ (xs : List Cell). slice_index_or xs b (no_cell s me b)) cells ∙ run.other_cells b d;
    outbox = settled.out ∙ ap (λ (o : Posting). post_all stamp y.around.sent (outbox o)) (ap (λ (q : State). q.out) run.same)
        ∙ ap (λ k. post_all k y.around.sent (outbox x.out)) (sym at);
    parts = settled.parts ∙ ap (λ (p : Parts). parts_after p m ran stamp (length y.around.sent)) (ap parts_of run.same)
        ∙ ap (λ k. parts_after (parts_of x) m ran k (length y.around.sent)) (sym at);
    ops = settled.ops ∙ ap (λ (q : State). q.ops + ran.ops) run.same;
    records = settled.records ∙ ap (λ (q : State). q.records + ran.records) run.same;
    node = node;
    count = count;
    after = after;
    log = logged ∙ ap (λ (l : Logged). l.list ++ entry ∷ []) (ap (λ (q : State). q.log) settled.same
        ∙ ap (λ (q : State). q.log) run.same);
    fronts = ap (λ (q : State). q.fronts.items) settled.same ∙ ap (λ (q : State). q.fronts.items) run.same;
    same_setup = refl;
    same_code = refl;
    same_me = refl;
    same_accepted = ap (λ (q : State). q.fronts.accepted) settled.same ∙ ap (λ (q : State). q.fronts.accepted) run.same;
  };
  processor = ap (λ (q : State). q.processor) settled.same ∙ ap (λ (q : State). q.processor) run.same;
  doors = ap (λ (q : State). q.doors) settled.same ∙ ap (λ (q : State). q.doors) run.same;
  queues = settled.queues ∙ ap (λ (q : State). q.deferred.blocks) run.same;
  unready = refl;
}
  where
    cells : z.cells.items ≡ y.cells.items
    cells = ap (λ (q : State). q.cells.items) settled.same
