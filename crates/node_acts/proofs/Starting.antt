-- A node as it starts stands for the begin of its course.
use Rattle.std.proofs.Common.{◌≡◌, ◌∙◌, ℕ, zero, suc, ◌-◌, ◌<◌, ◌^◌, Bool, true, false, List, [], ◌∷◌, Option, Some, None}
use Rattle.std.proofs.Common.{length, map, take, get_or, replicate, nat_eq, refl, ap, sym, subst, inl, inr, arith}
use Rattle.std.specs.Prelude.{is_some, slice_get, unwrap_or}
use Rattle.std.specs.List.{slice_index_or}
use Rattle.std.proofs.lemmas.Bool.{cases_lt}
use Rattle.std.proofs.lemmas.List.{get_or-replicate, get_or_past}
use Rattle.std.proofs.Math.Seq.{take-append_seam, take-length}
use Rattle.std.proofs.lemmas.List.FromFn.{get_or-map-range_with_len, length-map-range_with_len}
use Rattle.tw_base.specs.NodeSets.{empty, has}
use Rattle.tw_base.specs.declared.message.Chan.{Chan}
use Rattle.tw_base.specs.declared.message.Message.{Message}
use Rattle.tw_base.specs.declared.value.Value.{Value}
use Rattle.tw_base.specs.declared.value.Value.TheVariants.{Int}
use Rattle.block_tags.specs.Copies.{IsWhole}
use Rattle.teapot_tree.specs.declared.protocol.Param.{Param}
use Rattle.teapot_tree.specs.declared.protocol.Protocol.{Protocol}
use Rattle.teapot_tree.specs.declared.protocol.ValType.{ValType}
use Rattle.teapot_tree.specs.declared.protocol.ValType.TheVariants as ty
use Rattle.teapot_meaning.specs.Does.{zero_of}
use Rattle.teapot_meaning.specs.Fits.{fits_below, type_of, types_of}
use Rattle.teapot_meaning.specs.declared.state.Cont.{Cont}
use Rattle.teapot_meaning.specs.declared.state.Cont.TheOpen.{StateVal-F}
use Rattle.teapot_meaning.specs.declared.state.StateVal.{StateVal, out-StateVal, out-roll-StateVal, roll-StateVal}
use Rattle.cont_store.specs.declared.record.RecordKey.{RecordKey}
use Rattle.cont_store.specs.Store.{Store}
use Rattle.handler_code.specs.declared.code.Code.{Code}
use Rattle.handler_code.specs.Doors.{Cell as Kept, filled}
use Rattle.handler_code.specs.Machine.{Saved, state_arity}
use Rattle.handler_vm.specs.declared.cell.Cell.{Cell}
use Rattle.handler_vm.specs.Apart.{AreChains}
use Rattle.handler_vm.specs.Chains.{IsChain, IsOn, ends, newest, older, saved_from}
use Rattle.handler_vm.specs.Leaves.{kept_of}
use Rattle.compiled_meaning.specs.Stands.{ChainStands, none}
use Rattle.compiled_meaning.specs.Whole.{CellStands, IsCode}
use Rattle.compiled_handlers.specs.Standing.{BlockStands}
use Rattle.value_nodes.specs.Within.{AreWithin, IsValueWithin}
use Rattle.dsm_runs.specs.Messages.{place}
use Rattle.dsm_runs.specs.Replays.{begin}
use Rattle.dsm_runs.specs.Setups.{IsSetup, Setup, first_copies, first_here, home_of, start_line, start_state}
use Rattle.dsm_runs.proofs.RunStates.{nodes_start}
use Rattle.node_meaning.specs.Nodes.{front_at, keeping, no_cell, tally_of}
use Rattle.node_meaning.specs.Stands.{IsTallyWithin, IsWell, StandsFor}
use Rattle.node_meaning.specs.Tallies.{first_cell, first_tally}
use Rattle.node_acts.specs.Starts.{start_cell, start_cells, start_shown}

-- ---- the state of a start has no arguments

abbrev start_val : ℕ → StateVal-F Cont StateVal
start_val k = record { state = k; args = []; cont = None }

no_types : (ps : List Param) → [] ≡ types_of ps → length ps ≡ 0
no_types [] e = refl
no_types (a ∷ ps) e = absurd cc

plain_state : (p : Protocol) (words k : ℕ) → fits_below 9 p words (roll-StateVal (start_val k))
    → state_arity (slice_get p.states k) ≡ 0
unfolding fits_below
plain_state p words k fits =
    let is : slice_get p.states k ≡ Some fits.state = subst
    (λ (z : StateVal-F Cont StateVal). slice_get p.states z.state ≡ Some fits.state) (out-roll-StateVal (start_val k))
    fits.is_state in
    let args : [] ≡ types_of fits.state.params = subst
    (λ (z : StateVal-F Cont StateVal). map type_of z.args ≡ types_of fits.state.params) (out-roll-StateVal (start_val k))
    fits.args in
    ap state_arity is ∙ no_types fits.state.params args

start_plain : (s : Setup) (i b : ℕ) → IsSetup s → b < s.shape.blocks
    → state_arity (slice_get s.protocol.states (start_state s (start_line s (nat_eq (home_of s b) i)))) ≡ 0
start_plain s i b is lt = plain_state s.protocol (length (first_here s i b).words)
    (start_state s (start_line s (nat_eq (home_of s b) i))) ((nodes_start s i is).blocks b lt).fits.state

-- ---- cells

abbrev no_values : List Value
no_values = []

take_none : (k : ℕ) → take k no_values ≡ []
take_none zero = refl
take_none (suc k) = refl

abbrev zeros : List Param → List Value
zeros ps = map (λ info. zero_of info.ty) ps

many_zeros : (ps : List Param) → length ps ≡ length (zeros ps)
many_zeros [] = refl
many_zeros (a ∷ ps) = ap suc (many_zeros ps)

start_kept : (s : Setup) (i b : ℕ)
    → state_arity (slice_get s.protocol.states (start_state s (start_line s (nat_eq (home_of s b) i)))) ≡ 0
    → kept_of s.protocol (start_cell s i b) ≡ first_cell s i b
start_kept s i b plain = λ j. record {
  state = start_state s (start_line s (nat_eq (home_of s b) i));
  args = no_args j;
  infos = front j;
}
  where
    no_args : take (state_arity (slice_get s.protocol.states (start_state s (start_line s (nat_eq (home_of s b) i)))))
        (replicate 4 (Int 0)) ≡ []
    no_args = ap (λ k. take k (replicate 4 (Int 0))) plain

    front : take (length s.protocol.infos) (filled 8 (zeros s.protocol.infos)) ≡ zeros s.protocol.infos
    front = ap (λ k. take k (filled 8 (zeros s.protocol.infos))) (many_zeros s.protocol.infos)
        ∙ take-append_seam (zeros s.protocol.infos) (replicate (8 - length (zeros s.protocol.infos)) (Int 0))

absent_kept : (s : Setup) (i b : ℕ) → kept_of s.protocol (no_cell s i b) ≡ first_cell s i b
absent_kept s i b = λ j. record {
  state = start_state s (start_line s (nat_eq (home_of s b) i));
  args = take_none (state_arity (slice_get s.protocol.states (start_state s (start_line s (nat_eq (home_of s b) i))))) j;
  infos = (ap (λ k. take k (zeros s.protocol.infos)) (many_zeros s.protocol.infos) ∙ take-length (zeros s.protocol.infos)) j;
}

-- the cell of a block, whether the node has the block or not
record IsStartCell (s : Setup) (i b : ℕ) (cell : Cell) : Type 0 where
  pub kept : kept_of s.protocol cell ≡ first_cell s i b
  pub cont : cell.cont ≡ None

start_at : (s : Setup) (i b : ℕ) → IsSetup s → IsStartCell s i b (slice_index_or (start_cells s i) b (no_cell s i b))
start_at s i b is = elim (cases_lt b s.shape.blocks) [
  | inl lt ↦ subst (IsStartCell s i b)
      (sym (get_or-map-range_with_len (start_cell s i) 0 s.shape.blocks b b (no_cell s i b) lt (omega arith)))
      (record { kept = start_kept s i b (start_plain s i b is lt); cont = refl })
  | inr ge ↦ subst (IsStartCell s i b)
      (sym (get_or_past (start_cells s i) b (no_cell s i b)
      (omega (arith, ge, length-map-range_with_len (start_cell s i) 0 s.shape.blocks))))
      (record { kept = absent_kept s i b; cont = refl })
]

no_saved : (p : Protocol) (conts : Store) (key : Option RecordKey) → key ≡ None → saved_from p conts key ≡ []
no_saved p conts key e = ap (saved_from p conts) e

start_tally : (s : Setup) (code : Code) (i : ℕ) (conts : Store) (ready : Bool) → IsSetup s
    → first_tally s i ≡ tally_of (start_shown s code i conts ready)
start_tally s code i conts ready is = λ j. record {
  cells = λ b. sym (start_at s i b is).kept j;
  chains = λ b. sym (no_saved s.protocol conts (slice_index_or (start_cells s i) b (no_cell s i b)).cont
      (start_at s i b is).cont) j;
  ops = 0;
  records = 0;
}

-- ---- nodes below the number of nodes

none_of : (m k : ℕ) → unwrap_or (slice_get (replicate m false) k) false ≡ true → ⊥
none_of zero k e = absurd cc
none_of (suc m) zero e = absurd cc
none_of (suc m) (suc k) e = none_of m k e

no_member : (k : ℕ) → has empty k ≡ true → ⊥
unfolding has empty
no_member k e = none_of 8 k e

zero_below : (n : ℕ) (t : ValType) → 0 < n → IsValueWithin n (zero_of t)
zero_below n ty.Int some = tt
zero_below n ty.Bool some = tt
zero_below n ty.Node some = some
zero_below n ty.Set some = λ k e. absurd (no_member k e)

zeros_below : (n : ℕ) (ps : List Param) → 0 < n → AreWithin n (map (λ (info : Param). zero_of info.ty) ps)
zeros_below n [] some = tt
zeros_below n (a ∷ ps) some = (zero_below n a.ty some, zeros_below n ps some)

first_within : (s : Setup) (i : ℕ) → IsSetup s → IsTallyWithin s.shape.nodes (first_tally s i)
first_within s i is = record {
  cells = λ b. (tt, zeros_below s.shape.nodes s.protocol.infos is.limits.some_node);
  chains = λ b. tt;
}

-- ---- chains

no_chain : (words : ℕ) (conts : Store) (key : Option RecordKey) → key ≡ None → IsChain words conts key
no_chain words conts key e = subst (IsChain words conts) (sym e) (record { named = ends; whole = tt })

on_some : {conts : Store} {key : Option RecordKey} {other : RecordKey} → IsOn conts key other → is_some key ≡ true
on_some newest = refl
on_some (older at more) = refl

none_on : (conts : Store) (key : Option RecordKey) (other : RecordKey) → key ≡ None → IsOn conts key other → ⊥
none_on conts key other e on = not_some key e (on_some on)
  where
    not_some : (k : Option RecordKey) → k ≡ None → is_some k ≡ true → ⊥
    not_some k e f = absurd cc

start_chains : (s : Setup) (i : ℕ) (conts : Store) → IsSetup s
    → AreChains s.shape.words conts (λ b. (slice_index_or (start_cells s i) b (no_cell s i b)).cont)
start_chains s i conts is = record {
  whole = λ b. no_chain s.shape.words conts (slice_index_or (start_cells s i) b (no_cell s i b)).cont (start_at s i b is).cont;
  apart = λ a b d key on on2. none_on conts (slice_index_or (start_cells s i) a (no_cell s i a)).cont key
      (start_at s i a is).cont on;
}

-- ---- wires

abbrev no_fronts : List (Option Message)
no_fronts = replicate 16 None

none_at : (k : ℕ) → get_or no_fronts k None ≡ None
none_at k = elim (cases_lt k 16) [
  | inl lt ↦ get_or-replicate 16 k None None lt
  | inr ge ↦ get_or_past no_fronts k None ge
]

abbrev no_counts : List ℕ
no_counts = replicate 16 0

zero_at : (k : ℕ) → get_or no_counts k 0 ≡ 0
zero_at k = elim (cases_lt k 16) [
  | inl lt ↦ get_or-replicate 16 k 0 0 lt
  | inr ge ↦ get_or_past no_counts k 0 ge
]

-- ---- a node

start_block : (s : Setup) (code : Code) (i : ℕ) (conts : Store) (ready : Bool) (b : ℕ) → IsSetup s
    → BlockStands s.protocol code (keeping (start_shown s code i conts ready) b) (first_here s i b)
start_block s code i conts ready b is =
    let at = start_at s i b is in
    let cell : Cell = slice_index_or (start_cells s i) b (no_cell s i b) in
    let state : StateVal-F Cont StateVal = start_val (start_state s (start_line s (nat_eq (home_of s b) i))) in
    let out : state ≡ out-StateVal (roll-StateVal state) = sym (out-roll-StateVal state) in
    let first_stands : CellStands s.protocol code (first_cell s i b) [] (first_here s i b) = record {
      infos = refl;
      state = record {
        same_state = ap (λ (z : StateVal-F Cont StateVal). z.state) out;
        same_args = ap (λ (z : StateVal-F Cont StateVal). z.args) out;
        conts = subst (λ (z : StateVal-F Cont StateVal). ChainStands s.protocol code [] z.cont) out none;
      };
    } in
    record {
      tag = refl;
      words = refl;
      chain = no_chain s.shape.words conts cell.cont at.cont;
      cell = subst (λ (k : Kept). CellStands s.protocol code k (saved_from s.protocol conts cell.cont) (first_here s i b))
          (sym at.kept)
          (subst (λ (ks : List Saved). CellStands s.protocol code (first_cell s i b) ks (first_here s i b))
          (sym (no_saved s.protocol conts cell.cont at.cont)) first_stands);
    }

pub starts_standing : (s : Setup) (code : Code) (i : ℕ) (conts : Store) (ready : Bool) → IsSetup s
    → StandsFor (start_shown s code i conts ready) (begin s i)
starts_standing s code i conts ready is = record {
  replays = (refl, start_tally s code i conts ready is);
  parts = refl;
  blocks = λ b lt. start_block s code i conts ready b is;
  sound = nodes_start s i is;
  took = λ f ch. rw (none_at (place f ch), zero_at (place f ch)) refl;
  sent = λ t ch. sym (zero_at (place t ch));
  fit = λ t ch. tt;
}

none_there : (m : Message) (o : Option Message) → o ≡ None → o ≡ Some m → ⊥
none_there m o e f = absurd cc

pub starts_well : (s : Setup) (code : Code) (i : ℕ) (conts : Store) (ready : Bool) → IsSetup s → IsCode s.protocol code
    → length code.ops < 2 ^ 22 → i < s.shape.nodes → IsWhole (first_copies s i) → IsWell (start_shown s code i conts ready)
starts_well s code i conts ready is code_is short at whole = record {
  setup = is;
  code = code_is;
  short = short;
  at_node = at;
  copies = whole;
  shape = refl;
  cells = length-map-range_with_len (start_cell s i) 0 s.shape.blocks;
  chains = start_chains s i conts is;
  within = subst (IsTallyWithin s.shape.nodes) (start_tally s code i conts ready is) (first_within s i is);
  all_fronts = refl;
  all_accepted = refl;
  all_posted = refl;
  fronts = λ f ch m e. absurd (none_there m (front_at (start_shown s code i conts ready) f ch) (none_at (place f ch)) e);
  waiting = tt;
  deferred = tt;
  few_sent = omega arith;
  few_posted = λ t ch. rw (zero_at (place t ch)) (omega arith);
  few_accepted = λ f ch. rw (zero_at (place f ch)) (omega arith);
}

pub no_front : (s : Setup) (code : Code) (i : ℕ) (conts : Store) (ready : Bool) (f : ℕ) (ch : Chan)
    → front_at (start_shown s code i conts ready) f ch ≡ None
no_front s code i conts ready f ch = none_at (place f ch)
