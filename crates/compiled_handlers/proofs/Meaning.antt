-- What the code leaves at a block is what the message means there.
use Rattle.std.proofs.Common.{◌≡◌, ◌∙◌, ℕ, ◌-◌, ◌<◌, ◌≤◌, List, ◌++◌, length, take, drop, ap, sym, subst, arith}
use Rattle.std.specs.Prelude.{◌^◌, map, replicate, slice_get}
use Rattle.std.proofs.Math.Seq.{take-append_seam}
use Rattle.std.proofs.lemmas.List.{length-map}
use Rattle.tw_base.specs.declared.message.Message.{Message}
use Rattle.tw_base.specs.declared.value.Value.{Value}
use Rattle.tw_base.specs.declared.value.Value.TheVariants as v
use Rattle.teapot_tree.specs.declared.protocol.Protocol.{Protocol}
use Rattle.teapot_meaning.specs.Does.{Does}
use Rattle.teapot_meaning.specs.Fits.{Fits, IsMessageOf, type_of, types_of}
use Rattle.teapot_meaning.specs.Stays.{FitsAgain}
use Rattle.teapot_meaning.specs.declared.state.Ended.{Ended}
use Rattle.teapot_meaning.specs.declared.state.Here.{Here}
use Rattle.teapot_meaning.specs.declared.state.StateVal.{out-StateVal}
use Rattle.teapot_sends.specs.Counts.{steps}
use Rattle.block_tags.specs.Copies.{Copies, IsWhole, block_words, tag_of, with_block, with_tag}
use Rattle.cont_store.specs.Store.{Store}
use Rattle.handler_code.specs.declared.code.Code.{Code}
use Rattle.handler_code.specs.Doors.{Enters}
use Rattle.handler_code.specs.Machine.{Stopped, state_arity}
use Rattle.compiled_meaning.specs.Stands.{ChainStands, EndStands}
use Rattle.compiled_meaning.specs.Whole.{CellStands, EntersAlike}
use Rattle.handler_vm.specs.declared.cell.Cell.{Cell}
use Rattle.handler_vm.specs.declared.cell.Ran.{Ran}
use Rattle.handler_vm.specs.Chains.{IsChain, saved_from, widened}
use Rattle.handler_vm.specs.Leaves.{HasState, Leaves, Stops, StopsAt, kept_of}
use Rattle.dsm_runs.specs.Messages.{message_of}
use Rattle.compiled_handlers.specs.Lawful.{IsLawful}
use Rattle.compiled_handlers.specs.Standing.{BlockStands, DoesAsMeant, IsBlockOf, Keeping}
use Rattle.compiled_handlers.proofs.Bounding.{few_ops}
use Rattle.compiled_handlers.proofs.Posting.{are_messages}
use Rattle.compiled_handlers.proofs.Staying.{still_at}
use Rattle.compiled_handlers.proofs.Widening.{chain_widened}
use Rattle.compiled_handlers.proofs.Writing.{tag_written, words_full, words_written}

-- ---- the cell that is left

front : (xs ys : List Value) (n : ℕ) → length xs ≡ n → take n (xs ++ ys) ≡ xs
front xs ys n e = ap (λ k. take k (xs ++ ys)) (sym e) ∙ take-append_seam xs ys

-- Its chain has all 21 slots in each record.
cell_left : (p : Protocol) (code : Code) (old new : Cell) (conts : Store) (s : Stopped) (e : Ended) → EndStands p code s e →
    HasState p old new s → saved_from p conts new.cont ≡ map widened s.chain → map type_of e.here.infos ≡ types_of p.infos →
    CellStands p code (kept_of p new) (saved_from p conts new.cont) e.here
cell_left p code old new conts s e ends has chain typed =
    record {
      infos = infos;
      state = record {
        same_state = has.state ∙ ends.state.same_state;
        same_args = args ∙ ends.state.same_args;
        conts = subst (λ c. ChainStands p code c (out-StateVal e.here.state).cont) (sym chain)
            (chain_widened p code ends.state.conts);
      };
    }
  where
    long : length s.around.infos ≡ length p.infos
    long = ap (λ a. length a.infos) ends.around ∙ sym (length-map e.here.infos type_of) ∙ ap length typed
        ∙ length-map p.infos (λ a. a.ty)

    infos : take (length p.infos) new.infos ≡ e.here.infos
    infos = ap (take (length p.infos)) has.infos ∙ front s.around.infos (drop (length p.infos) old.infos) (length p.infos) long
        ∙ ap (λ a. a.infos) ends.around

    args : take (state_arity (slice_get p.states new.state)) new.args ≡ s.args
    args =
        ap (λ n. take (state_arity (slice_get p.states n)) new.args) has.state
        ∙ ap (take (state_arity (slice_get p.states s.state))) has.args
        ∙ front s.args (replicate (4 - length s.args) (v.Int 0)) (state_arity (slice_get p.states s.state)) has.arity

-- ---- the message at a block

-- the machine stops, after few ops and with few sends
pub record StopsSoon (p : Protocol) (code : Code) (me home : ℕ) (cell : Cell) (blocks : Copies) (conts : Store)
    (m : Message) : Type 0 where
  pub stop : Stopped
  pub stops : StopsAt p code me home cell blocks conts m stop
  pub ops : stop.ops ≤ 2 ^ 62
  pub sends : length stop.around.sends ≤ 288

pub stops_of : (p : Protocol) (code : Code) (me home : ℕ) (cell : Cell) (blocks : Copies) (conts : Store) (m : Message) →
    StopsSoon p code me home cell blocks conts m → Stops p code me home cell blocks conts m
stops_of p code me home cell blocks conts m s = record {
  stop = s.stop;
  stops = s.stops;
  ops = omega (arith, s.ops);
  sends = s.sends;
}

module _ (p : Protocol) (code : Code) (lawful : IsLawful p code) (me home : ℕ) (cell : Cell) (blocks : Copies) (conts : Store)
    (m : Message) (whole : IsWhole blocks) (low : m.block < blocks.shape.blocks)
    (message : IsMessageOf p blocks.shape.words m) where
  abbrev pub old : Keeping
  old = record { cell = cell; blocks = blocks; conts = conts }

  module _ (here : Here) (is : IsBlockOf me home m.block here) (fits : Fits p here) (stands : BlockStands p code old here) where
    tag_is : here.tag ≡ tag_of blocks m.block
    tag_is = sym stands.tag ∙ ap (tag_of blocks) is.same_block

    words_are : here.words ≡ block_words blocks m.block
    words_are = sym stands.words ∙ ap (block_words blocks) is.same_block

    long : length here.words ≡ blocks.shape.words
    long = ap length words_are ∙ words_full blocks m.block whole low

    given : IsMessageOf p (length here.words) m
    given = subst (λ n. IsMessageOf p n m) (sym long) message

    alike : (e : Ended) → Does p here m e → EntersAlike p code here (kept_of p cell) (saved_from p conts cell.cont) m e
    alike e d = lawful.meant here (kept_of p cell) (saved_from p conts cell.cont) m e fits given stands.cell d

    stops_at : (e : Stopped) → Enters p code here.me here.home here.block here.tag here.words (kept_of p cell)
        (saved_from p conts cell.cont) m e → StopsAt p code me home cell blocks conts m e
    stops_at e x =
        let kept = kept_of p cell in
        let chain = saved_from p conts cell.cont in
        let a : Enters p code me here.home here.block here.tag here.words kept chain m e =
        subst (λ n. Enters p code n here.home here.block here.tag here.words kept chain m e) is.same_me x in
        let b : Enters p code me home here.block here.tag here.words kept chain m e =
        subst (λ n. Enters p code me n here.block here.tag here.words kept chain m e) is.same_home a in
        let c : Enters p code me home m.block here.tag here.words kept chain m e =
        subst (λ n. Enters p code me home n here.tag here.words kept chain m e) is.same_block b in
        let d : Enters p code me home m.block (tag_of blocks m.block) here.words kept chain m e =
        subst (λ t. Enters p code me home m.block t here.words kept chain m e) tag_is c in
        subst (λ ws. Enters p code me home m.block (tag_of blocks m.block) ws kept chain m e) words_are d

    pub stops_soon : length code.ops < 2 ^ 22 → StopsSoon p code me home cell blocks conts m
    stops_soon short =
        let meaning = (lawful.fit here m fits given).meaning in
        let e = meaning.end in
        let d = meaning.does in
        let x = alike e d in
        record {
          stop = x.stopped;
          stops = stops_at x.stopped x.enters;
          ops = few_ops (length code.ops) (steps d.goes) x.stopped.ops short (lawful.soon here m e fits d)
              (lawful.few here (kept_of p cell) (saved_from p conts cell.cont) m e x.stopped fits given stands.cell d x.enters);
          sends = subst (λ a. length a.sends ≤ 288) (sym x.stands.around) (lawful.sends here m e fits given d);
        }

    fits_again : (e : Ended) → Does p here m e → FitsAgain p here e
    fits_again e d =
        let s = lawful.fit here m fits given in subst (FitsAgain p here) (sym (s.meaning.only e d)) s.again

    module _ (new : Keeping) (sent : List Message) (ran : Ran) (e : Ended) (d : Does p here m e)
        (chain : IsChain blocks.shape.words new.conts new.cell.cont) where
      left : (s : Stopped) → EndStands p code s e → Leaves p me m cell new.cell blocks new.blocks new.conts sent ran s →
          DoesAsMeant p code me home m.block old new sent ran e
      left s ends l =
          record {
            sends = are_messages p me m.block sent l.sends.unsent
                ∙ ap (map (message_of p me m.block 0)) (l.sends.outs ∙ ap (λ a. a.sends) ends.around);
            kept = ap (λ r. r.kept) l.result ∙ ap (λ a. a.kept) ends.around;
            freed = ap (λ r. r.freed) l.result ∙ ap (λ a. a.freed) ends.around;
            woke = ap (λ r. r.woke) l.result ∙ ap (λ a. a.woke) ends.around;
            end = ap (λ r. r.end) l.result ∙ ends.end;
            blocks = written;
            place = there;
            stands = record {
              tag = ap (λ b. tag_of b e.here.block) written ∙ ap
                  (tag_of (with_block (with_tag blocks m.block e.here.tag) m.block e.here.words)) same
                  ∙ tag_written blocks m.block e.here.tag e.here.words whole low;
              words = ap (λ b. block_words b e.here.block) written
                  ∙ ap (block_words (with_block (with_tag blocks m.block e.here.tag) m.block e.here.words)) same
                  ∙ words_written blocks m.block e.here.tag e.here.words whole low (again.words ∙ long);
              chain = subst (λ b. IsChain b.shape.words new.conts new.cell.cont) (sym written) chain;
              cell = cell_left p code cell new.cell new.conts s e ends l.cell l.chain again.fits.infos;
            };
          }
        where
          written : new.blocks ≡ with_block (with_tag blocks m.block e.here.tag) m.block e.here.words
          written = l.block ∙ ap (λ a. with_block (with_tag blocks m.block a.tag) m.block a.words) ends.around

          there : IsBlockOf me home m.block e.here
          there = still_at p me home m.block here m e is d

          same : e.here.block ≡ m.block
          same = there.same_block

          again : FitsAgain p here e
          again = fits_again e d

      pub meant : ((s : Stopped) → StopsAt p code me home cell blocks conts m s →
          Leaves p me m cell new.cell blocks new.blocks new.conts sent ran s) →
          DoesAsMeant p code me home m.block old new sent ran e
      meant leaves = let x = alike e d in left x.stopped x.stands (leaves x.stopped (stops_at x.stopped x.enters))
