-- What is kept of a block stands for it: at the start, after a message, and with other keys of its records.
use Rattle.std.proofs.Common.{◌≡◌, ◌∙◌, ℕ, ◌<◌, List, [], Option, Some, None, length, take, refl, sym, ap, subst}
use Rattle.std.specs.Prelude.{IsSome, is_some, map, slice_get}
use Rattle.tw_base.specs.declared.message.Message.{Message}
use Rattle.tw_base.specs.declared.value.Value.{Value}
use Rattle.teapot_tree.specs.Rules.{IsAccepted}
use Rattle.teapot_tree.specs.declared.protocol.Protocol.{Protocol}
use Rattle.teapot_tree.specs.declared.protocol.State.{State}
use Rattle.teapot_meaning.specs.Does.{Does, state_of}
use Rattle.teapot_meaning.specs.Fits.{ContFits, Fits, IsMessageOf, fits_below, type_of, types_of}
use Rattle.teapot_meaning.specs.Stays.{FittingBlocksStayFit}
use Rattle.teapot_meaning.specs.declared.state.Cont.{Cont}
use Rattle.teapot_meaning.specs.declared.state.Ended.{Ended}
use Rattle.teapot_meaning.specs.declared.state.Here.{Here}
use Rattle.teapot_meaning.specs.declared.state.StateVal.{StateVal, StateVal-F, out-roll-StateVal, roll-StateVal}
use Rattle.block_tags.specs.Copies.{Copies, IsWhole}
use Rattle.cont_store.specs.declared.record.Record.{Record}
use Rattle.cont_store.specs.declared.record.RecordKey.{RecordKey}
use Rattle.cont_store.specs.Store.{Store}
use Rattle.handler_code.specs.declared.code.Code.{Code}
use Rattle.handler_code.specs.Machine.{state_arity}
use Rattle.handler_vm.specs.declared.cell.Cell.{Cell}
use Rattle.handler_vm.specs.Chains.{IsChain, ends, records_of, saved_from, saved_of}
use Rattle.handler_vm.specs.Leaves.{kept_of}
use Rattle.compiled_meaning.specs.Stands.{ChainStands, StateStands, none}
use Rattle.compiled_meaning.specs.Whole.{CellStands}
use Rattle.compiled_handlers.specs.Standing.{BlockStands, Keeping}
use Rattle.compiled_handlers.proofs.Writing.{words_full}
use Rattle.compiled_handlers_tests.specs.Alike.{Alike, IsPlain}

pub some_state : (p : Protocol) (here : Here) → Fits p here → IsSome (state_of p here)
unfolding fits_below
some_state p here fits = subst IsSome (sym fits.state.is_state) refl

-- ---- the start

no_cont : (p : Protocol) (words n : ℕ) (s : State) (o : Option Cont) → s.cont ≡ None → o ≡ None →
    ContFits (fits_below n p words) p words s o
no_cont p words n s o e absent = subst (ContFits (fits_below n p words) p words s) (sym absent) (ap is_some e)

pub plain_fits : (p : Protocol) (words k : ℕ) (args : List Value) → IsPlain p k → args ≡ [] →
    fits_below 9 p words (roll-StateVal (record { state = k; args = args; cont = None }))
unfolding fits_below
plain_fits p words k args plain no_args =
    let x : StateVal-F Cont StateVal = record { state = k; args = args; cont = None } in
    let e = sym (out-roll-StateVal x) in
    record {
      state = plain.state;
      is_state = subst (λ (z : StateVal-F Cont StateVal). slice_get p.states z.state ≡ Some plain.state) e plain.is_state;
      args = subst (λ (z : StateVal-F Cont StateVal). map type_of z.args ≡ types_of plain.state.params) e
          (ap (map type_of) no_args ∙ sym (ap types_of plain.params));
      cont = subst (λ (z : StateVal-F Cont StateVal). ContFits (fits_below 8 p words) p words plain.state z.cont) e
          (no_cont p words 8 plain.state None plain.cont refl);
    }

pub no_records : (words : ℕ) (conts : Store) (key : Option RecordKey) → key ≡ None → IsChain words conts key
no_records words conts key absent = subst (IsChain words conts) (sym absent) (record { named = ends; whole = tt })

no_chain : (p : Protocol) (code : Code) (conts : Store) (key : Option RecordKey) → key ≡ None →
    ChainStands p code (saved_from p conts key) None
no_chain p code conts key e = subst (λ k. ChainStands p code (saved_from p conts k) None) (sym e) none

pub plain_stands : (p : Protocol) (code : Code) (conts : Store) (cell : Cell) (args : List Value) → IsPlain p cell.state →
    args ≡ [] → cell.cont ≡ None
    → StateStands p code cell.state (take (state_arity (slice_get p.states cell.state)) cell.args)
    (saved_from p conts cell.cont) (roll-StateVal (record { state = cell.state; args = args; cont = None }))
plain_stands p code conts cell args plain no_args absent =
    let x : StateVal-F Cont StateVal = record { state = cell.state; args = args; cont = None } in
    let e = sym (out-roll-StateVal x) in
    let count : state_arity (slice_get p.states cell.state) ≡ 0 = ap state_arity plain.is_state ∙ ap length plain.params in
    record {
      same_state = ap (λ (z : StateVal-F Cont StateVal). z.state) e;
      same_args = ap (λ n. take n cell.args) count ∙ sym no_args ∙ ap (λ (z : StateVal-F Cont StateVal). z.args) e;
      conts = subst (λ (z : StateVal-F Cont StateVal). ChainStands p code (saved_from p conts cell.cont) z.cont) e
          (no_chain p code conts cell.cont absent);
    }

pub started : {p q : Protocol} {code : Code} {cell : Cell} {blocks other : Copies} {conts : Store} {here : Here} → q ≡ p →
    other ≡ blocks → Fits q here
    → BlockStands q code (record { cell = cell; blocks = blocks; conts = conts }) here → here.block < blocks.shape.blocks →
    Alike p code (record { cell = cell; blocks = other; conts = conts }) here
started {p} {q} {code} {cell} {blocks} {other} {conts} {here} e f fits stands within =
    let there : Alike q code (record { cell = cell; blocks = blocks; conts = conts }) here =
    record { fits = fits; stands = stands; within = within } in
    subst (λ b. Alike p code (record { cell = cell; blocks = b; conts = conts }) here) (sym f)
    (subst (λ z. Alike z code (record { cell = cell; blocks = blocks; conts = conts }) here) e there)

-- ---- the same records in another store

pub stands_again : (p : Protocol) (code : Code) (kept : Keeping) (here : Here) (conts : Store) → BlockStands p code kept here →
    IsChain kept.blocks.shape.words conts kept.cell.cont
    → records_of conts kept.cell.cont ≡ records_of kept.conts kept.cell.cont →
    BlockStands p code (record { cell = kept.cell; blocks = kept.blocks; conts = conts }) here
stands_again p code kept here conts stands chain same = record {
  tag = stands.tag;
  words = stands.words;
  chain = chain;
  cell = subst (λ (rs : List Record). CellStands p code (kept_of p kept.cell) (map (saved_of p) rs) here) (sym same) stands.cell;
}

-- ---- after a message

pub words_long : (p : Protocol) (code : Code) (kept : Keeping) (here : Here) → BlockStands p code kept here →
    IsWhole kept.blocks → here.block < kept.blocks.shape.blocks → length here.words ≡ kept.blocks.shape.words
words_long p code kept here stands whole within = ap length (sym stands.words) ∙ words_full kept.blocks here.block whole within

pub still_fits : (p : Protocol) (here : Here) (m : Message) (e : Ended) → FittingBlocksStayFit → IsAccepted p → Fits p here →
    IsMessageOf p (length here.words) m → Does p here m e → Fits p e.here
still_fits p here m e law accepted fits message does =
    let stays = law p here m accepted fits message in
    subst (λ (x : Ended). Fits p x.here) (sym (stays.meaning.only e does)) stays.again.fits
