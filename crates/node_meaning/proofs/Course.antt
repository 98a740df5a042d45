-- The course after an event in which a handler ran.
use Rattle.std.proofs.Common.{◌≡◌, ◌≢◌, ℕ, ◌+◌, ◌<◌, ◌≤◌, List, ◌++◌, Some, length, ap, sym, ◌∙◌, subst, arith, inl, inr}
use Rattle.std.proofs.Common.{length-append}
use Rattle.std.specs.Prelude.{map, slice_index}
use Rattle.std.specs.List.{filter}
use Rattle.std.proofs.lemmas.Bool.{cases_eq}
use Rattle.std.proofs.lemmas.List.{length-map}
use Rattle.tw_base.specs.declared.entry.Entry.{Entry}
use Rattle.tw_base.specs.declared.message.Chan.{Chan}
use Rattle.tw_base.specs.declared.message.Message.{Message}
use Rattle.tw_base.specs.declared.value.Data.{Data}
use Rattle.tw_base.specs.declared.value.Tag.{Tag}
use Rattle.block_tags.specs.Copies.{Copies, block_words, tag_of}
use Rattle.teapot_meaning.specs.Fits.{IsMessageOf, type_of}
use Rattle.teapot_meaning.specs.Stays.{StaysFit}
use Rattle.teapot_meaning.specs.declared.state.Ended.{Ended}
use Rattle.teapot_meaning.specs.declared.state.Here.{Here}
use Rattle.teapot_meaning.specs.declared.state.StateVal.{out-StateVal}
use Rattle.teapot_meaning.proofs.Starting.{fitting_blocks_stay_fit}
use Rattle.handler_code.specs.Doors.{Cell, Enters}
use Rattle.handler_code.specs.Machine.{Saved}
use Rattle.handler_vm.specs.Chains.{IsChain, saved_from}
use Rattle.handler_vm.specs.Leaves.{kept_of}
use Rattle.compiled_meaning.specs.Whole.{CellStands}
use Rattle.compiled_handlers.specs.Standing.{BlockStands, DoesAsMeant, IsBlockOf}
use Rattle.value_nodes.specs.Within.{IsMessageWithin}
use Rattle.dsm_runs.specs.declared.mode.Mode.{Mode}
use Rattle.dsm_runs.specs.declared.mode.Waiting.{Waiting}
use Rattle.dsm_runs.specs.Events.{Handles, after_of, failure, freed_if, mode_after, with_kept}
use Rattle.dsm_runs.specs.Invariants.{IsBlockAt, IsDeferredAt}
use Rattle.dsm_runs.specs.Locals.{Local}
use Rattle.dsm_runs.specs.Messages.{numbered, on_wire, outgoing, place, posted}
use Rattle.dsm_runs.specs.Replays.{Course}
use Rattle.dsm_runs.specs.Setups.{home_of}
use Rattle.dsm_runs.proofs.Lists.{length-numbered}
use Rattle.dsm_runs.proofs.Turns.{changed, changed_here, changed_other}
use Rattle.node_meaning.specs.Laws.{LowerLaws}
use Rattle.node_meaning.specs.Nodes.{Parts, Shown, cell_at, keeping, onto, posted_at, tally_of, with_blocks}
use Rattle.node_meaning.specs.Sending.{stamped}
use Rattle.node_meaning.specs.Stands.{IsWell, StandsFor}
use Rattle.node_meaning.specs.Tallies.{CountsMessage}
use Rattle.node_meaning.proofs.Blocks.{other_tag, other_words}
use Rattle.node_meaning.proofs.Cells.{cell_is, taken_long}
use Rattle.node_meaning.proofs.Posting.{more_of, next_after, onto_wire, stamped_out}
use Rattle.node_meaning.proofs.Ran.{other_cell, other_chain, posted_more, sent_postable, stay_apart}
use Rattle.node_meaning.proofs.HandledParts.{Handled, kept_on}

pub kept_on_is : (old new : Shown) (found : Parts) (m : Message) (entry : Entry) → Handled old new found m entry
    → new ≡ kept_on old new
kept_on_is old new found m entry h = λ j. record new {
  setup = h.same_setup j;
  code = h.same_code j;
  me = h.same_me j;
  accepted = h.same_accepted j;
}

module _ (lower : LowerLaws) (old left : Shown) (found : Parts) (m : Message) (entry : Entry) (well : IsWell old)
    (q : IsDeferredAt old.setup old.me m) (within : IsMessageWithin old.setup.shape.nodes m)
    (h : Handled old (kept_on old left) found m entry) where
  abbrev new : Shown
  new = kept_on old left

  abbrev pub sends : List Message
  sends = map (stamped entry.stamp) h.sent

  abbrev pub more : List Message
  more = more_of entry.stamp h.sent old.posted

  module _ (c : Course) (stands : StandsFor old c) where
    abbrev here : Here
    here = c.local.blocks m.block

    pub at : IsBlockAt old.setup old.me m.block here
    at = stands.sound.blocks m.block q.block

    pub is : IsBlockOf old.me (home_of old.setup m.block) m.block here
    is = record { same_me = at.me; same_home = at.home; same_block = at.block }

    pub stood : BlockStands old.setup.protocol old.code (keeping old m.block) here
    stood = stands.blocks m.block q.block

    pub given : IsMessageOf old.setup.protocol (length here.words) m
    given = subst (λ n. IsMessageOf old.setup.protocol n m) (sym at.words) q.is_message

    pub fit : StaysFit old.setup.protocol here m
    fit = fitting_blocks_stay_fit old.setup.protocol here m well.setup.accepted at.fits given

    abbrev pub ended : Ended
    ended = fit.meaning.end

    pub meant : DoesAsMeant old.setup.protocol old.code old.me (home_of old.setup m.block) m.block (keeping old m.block)
        (keeping new m.block) h.sent h.ran ended
    meant = h.runs.meant here ended is at.fits stood fit.meaning.does

    pub few_sent : length h.sent ≤ 288
    few_sent =
        let few : length ended.sends ≤ 288 = lower.few old.setup.protocol here m ended well.setup.accepted at.fits given
        fit.meaning.does in
        omega (arith, few, ap length meant.sends ∙ length-map ended.sends _)

    -- ---- the cell and the block

    infos_there : length old.setup.protocol.infos ≤ length (cell_at old m.block).infos
    infos_there =
        let typed : length here.infos ≡ length old.setup.protocol.infos = sym (length-map here.infos type_of)
        ∙ ap length at.fits.infos ∙ length-map old.setup.protocol.infos (λ a. a.ty) in
        taken_long (length old.setup.protocol.infos) (cell_at old m.block).infos (ap length stood.cell.infos ∙ typed)

    pub cell_left : kept_of old.setup.protocol (cell_at new m.block) ≡ record
        { state = h.runs.stop.state; args = h.runs.stop.args; infos = h.runs.stop.around.infos }
    cell_left = cell_is old.setup.protocol (cell_at old m.block) (cell_at new m.block) h.runs.stop h.runs.leaves.cell h.infos
        infos_there

    pub full : length ended.here.words ≡ old.copies.shape.words
    full = fit.again.words ∙ at.words ∙ sym (ap (λ z. z.words) well.shape)

    pub low : m.block < old.copies.shape.blocks
    low = subst (λ n. m.block < n) (sym (ap (λ z. z.blocks) well.shape)) q.block

    -- ---- the course

    abbrev pub blocks_after : ℕ → Here
    blocks_after = changed c.local.blocks m.block ended.here

    abbrev pub local_after : Local
    local_after = with_blocks new.parts blocks_after

    pub blocks_stand : (b : ℕ) → b < old.setup.shape.blocks
        → BlockStands old.setup.protocol old.code (keeping new b) (blocks_after b)
    blocks_stand b lt = elim (cases_eq b m.block) [
      | inl e ↦ rw e (subst (λ (x : Here). BlockStands old.setup.protocol old.code (keeping new m.block) x)
          (sym (changed_here c.local.blocks m.block ended.here)) meant.stands)
      | inr d ↦ subst (λ (x : Here). BlockStands old.setup.protocol old.code (keeping new b) x)
          (sym (changed_other c.local.blocks m.block ended.here b d)) (other_stands b lt d)
    ]
      where
        other_stands : (b : ℕ) → b < old.setup.shape.blocks → b ≢ m.block
            → BlockStands old.setup.protocol old.code (keeping new b) (c.local.blocks b)
        other_stands b lt d =
            let was : BlockStands old.setup.protocol old.code (keeping old b) (c.local.blocks b) = stands.blocks b lt in
            let number : (c.local.blocks b).block ≡ b = (stands.sound.blocks b lt).block in
            let apart : (c.local.blocks b).block ≢ m.block = λ e. d (sym number ∙ e) in
            record {
              tag = ap (λ (x : Copies). tag_of x (c.local.blocks b).block) meant.blocks
                  ∙ other_tag old.copies m.block (c.local.blocks b).block ended.here.tag ended.here.words apart ∙ was.tag;
              words = ap (λ (x : Copies). block_words x (c.local.blocks b).block) meant.blocks
                  ∙ other_words old.copies m.block (c.local.blocks b).block ended.here.tag ended.here.words well.copies low
                  full apart ∙ was.words;
              chain = subst (λ n. IsChain n new.conts (cell_at new b).cont) (sym (ap (λ z. z.words) well.shape)
                  ∙ sym (ap (λ (x : Copies). x.shape.words) meant.blocks))
                  ((stay_apart lower old left found m entry well q within h).chains.whole b);
              cell =
                  subst (λ (x : Cell). CellStands old.setup.protocol old.code x
                  (saved_from old.setup.protocol new.conts (cell_at new b).cont) (c.local.blocks b))
                  (sym (other_cell lower old left found m entry well q within h b d))
                  (subst (λ (xs : List Saved). CellStands old.setup.protocol old.code
                  (kept_of old.setup.protocol (cell_at old b)) xs (c.local.blocks b))
                  (sym (other_chain lower old left found m entry well q within h b d)) was.cell);
            }

    -- ---- the handler's event, as the model says it

    sends_are : sends ≡ outgoing old.setup.protocol old.me m.block entry.stamp ended.sends
    sends_are = ap (map (stamped entry.stamp)) meant.sends ∙ stamped_out old.setup.protocol old.me m.block entry.stamp ended.sends

    leaves_are : entry.after ≡ Some (after_of m.block ended)
    leaves_are =
        let state : (cell_at new m.block).state ≡ (out-StateVal ended.here.state).state = meant.stands.cell.state.same_state in
        let tag : tag_of new.copies m.block ≡ ended.here.tag = ap (tag_of new.copies) (sym meant.place.same_block)
        ∙ meant.stands.tag in
        h.after ∙ (λ j. Some (record { block = m.block; state = state j; tag = tag j; end = meant.end j }))

    abbrev at_handler : Mode → List Waiting → Local
    at_handler mode deferred = record c.local { mode = mode; deferred = deferred }

    pub handles : (mode : Mode) (deferred : List Waiting) → mode ≡ found.mode → deferred ≡ found.deferred
        → found.cpu ≡ c.local.cpu
        → Handles old.setup old.me entry.stamp m (record c.local { mode = mode; deferred = deferred }) local_after sends
        entry.after
    handles mode deferred is_mode is_deferred is_cpu = record {
      ended = ended;
      does = fit.meaning.does;
      here = changed_here c.local.blocks m.block ended.here;
      others = λ b d. changed_other c.local.blocks m.block ended.here b d;
      mode = ap (λ x. x.mode) h.parts ∙ ap (λ w. mode_after w m.block found.mode) meant.woke
          ∙ ap (mode_after ended.woke m.block) (sym is_mode);
      failed = ap (λ x. x.failed) h.parts ∙ ap failure meant.end;
      deferred =
          ap (λ x. x.deferred) h.parts ∙ ap (λ k. with_kept k m (freed_if h.ran.freed m.block found.deferred)) meant.kept
          ∙ ap (λ b. with_kept ended.kept m (freed_if b m.block found.deferred)) meant.freed
          ∙ ap (λ (ws : List Waiting). with_kept ended.kept m (freed_if ended.freed m.block ws)) (sym is_deferred);
      cpu = ap (λ x. x.cpu) h.parts ∙ is_cpu;
      outs = sends_are;
      leaves = leaves_are;
    }

    -- ---- the machine of ops beside it

    pub counted : CountsMessage old.setup old.code old.me c.local m (tally_of old) (tally_of new)
    counted = record {
      stop = h.runs.stop;
      enters = enters;
      cell = cell_left;
      chain = h.runs.leaves.chain;
      other_cells = other_cell lower old left found m entry well q within h;
      other_chains = other_chain lower old left found m entry well q within h;
      ops = h.ops ∙ ap (λ r. old.ops + r.ops) h.runs.leaves.result;
      records = h.records ∙ ap (λ r. old.records + r.records) h.runs.leaves.result;
    }
      where
        Enter : Tag → Data → Type 0
        Enter tag words = Enters old.setup.protocol old.code old.me (home_of old.setup m.block) m.block tag words
            (kept_of old.setup.protocol (cell_at old m.block))
            (saved_from old.setup.protocol old.conts (cell_at old m.block).cont) m h.runs.stop

        enters : Enter here.tag here.words
        enters =
            let tag : tag_of old.copies m.block ≡ here.tag = ap (tag_of old.copies) (sym at.block) ∙ stood.tag in
            let words : block_words old.copies m.block ≡ here.words = ap (block_words old.copies) (sym at.block) ∙ stood.words in
            subst (λ t. Enter t here.words) tag (subst (λ ws. Enter (tag_of old.copies m.block) ws) words h.runs.stops)

    -- ---- wires

    pub sent_onto : (t : ℕ) (ch : Chan) → posted (length (c.sent t ch)) old.me t ch sends ≡ onto old.me t ch more
    sent_onto t ch =
        ap (λ k. numbered k (filter (on_wire old.me t ch) sends)) (stands.sent t ch)
        ∙ sym (onto_wire old.me t ch entry.stamp h.sent old.posted well.all_posted
        (sent_postable lower old left found m entry well q within h))

    pub sent_numbers : (t : ℕ) (ch : Chan) → length (c.sent t ch ++ posted (length (c.sent t ch)) old.me t ch sends)
        ≡ posted_at new t ch
    sent_numbers t ch =
        let put : List Message = posted (length (c.sent t ch)) old.me t ch sends in
        length-append (c.sent t ch) put
        ∙ ap (λ k. length (c.sent t ch) + k) (length-numbered (length (c.sent t ch)) (filter (on_wire old.me t ch) sends))
        ∙ ap (λ k. k + length (filter (on_wire old.me t ch) sends)) (stands.sent t ch)
        ∙ sym (next_after old.me t ch entry.stamp h.sent old.posted well.all_posted
        (sent_postable lower old left found m entry well q within h))
        ∙ ap (λ (xs : List ℕ). slice_index xs (place t ch)) (sym (posted_more lower old left found m entry well q within h))
