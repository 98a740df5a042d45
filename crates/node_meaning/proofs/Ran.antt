-- What a handler's run leaves of a node, whatever course the node stood for: what was sent is fit, chains are apart, and the
-- machine of ops holds nodes of the machine alone.
use Rattle.std.proofs.Common.{◌≡◌, ◌≢◌, ℕ, ◌<◌, ◌≤◌, List, [], ◌∷◌, ◌++◌, refl, ap, sym, ◌∙◌, subst, arith, inl, inr}
use Rattle.std.specs.Prelude.{All, map}
use Rattle.std.proofs.lemmas.Bool.{cases_eq}
use Rattle.std.proofs.lemmas.List.Elements.{All-head, All-tail}
use Rattle.tw_base.specs.Lists.{Each}
use Rattle.tw_base.specs.declared.entry.Entry.{Entry}
use Rattle.tw_base.specs.declared.message.Message.{Message}
use Rattle.teapot_tree.specs.declared.protocol.Protocol.{Protocol}
use Rattle.handler_code.specs.Machine.{Saved}
use Rattle.handler_code.specs.Doors.{Cell}
use Rattle.handler_vm.specs.Apart.{StayApart}
use Rattle.handler_vm.specs.Chains.{IsChain, saved_from, saved_of}
use Rattle.handler_vm.specs.Leaves.{kept_of}
use Rattle.handler_vm.specs.Sending.{IsUnsent, out_of}
use Rattle.value_nodes.specs.Within.{IsCellWithin, IsMessageWithin, IsSavedWithin, IsSendWithin, IsStoppedWithin}
use Rattle.dsm_runs.specs.Invariants.{IsDeferredAt, IsPosted}
use Rattle.dsm_runs.specs.Setups.{Setup, home_of}
use Rattle.node_meaning.specs.Handling.{outbox_of}
use Rattle.node_meaning.specs.Laws.{LowerLaws}
use Rattle.node_meaning.specs.Nodes.{Parts, Shown, cell_at}
use Rattle.node_meaning.specs.Sending.{Outbox, stamped}
use Rattle.node_meaning.specs.Stands.{IsFit, IsWell}
use Rattle.node_meaning.proofs.Cells.{widened_within}
use Rattle.node_meaning.proofs.Posting.{IsPostable, more_of, numbers, posted_all, waits}
use Rattle.node_meaning.proofs.HandledParts.{Handled, kept_on}

-- ---- what is sent

fits_of : (s : Setup) (p : Protocol) (me block stamp : ℕ) (ms : List Message) → me < s.shape.nodes
    → Each (IsPosted s) (map (stamped stamp) ms) → All (IsUnsent p me block) ms
    → Each (IsSendWithin s.shape.nodes) (map out_of ms)
    → Each (λ m. IsFit s me m.to m) (map (stamped stamp) ms)
fits_of s p me block stamp [] lt h u w = tt
fits_of s p me block stamp (m ∷ ms) lt h u w =
    let mine : IsUnsent p me block m = All-head (IsUnsent p me block) m ms u in (
      record {
        on = record { is_message = h.0.is_message; named = h.0.named; from = mine.from; to = refl; block = h.0.block };
        within = (subst (λ k. k < s.shape.nodes) (sym mine.from) lt, w.0.1);
        receiver = w.0.0;
      },
      fits_of s p me block stamp ms lt h.1 (All-tail (IsUnsent p me block) m ms u) w.1,
    )

postable_of : (p : Protocol) (n me block : ℕ) (ms : List Message) → n ≤ 8 → All (IsUnsent p me block) ms
    → Each (IsSendWithin n) (map out_of ms) → Each (IsPostable me) ms
postable_of p n me block [] few u w = tt
postable_of p n me block (m ∷ ms) few u w = (
  record { from = (All-head (IsUnsent p me block) m ms u).from; to = let lt : m.to < n = w.0.0 in omega arith },
  postable_of p n me block ms few (All-tail (IsUnsent p me block) m ms u) w.1,
)

module _ (lower : LowerLaws) (old left : Shown) (found : Parts) (m : Message) (entry : Entry) (well : IsWell old)
    (q : IsDeferredAt old.setup old.me m) (within : IsMessageWithin old.setup.shape.nodes m)
    (h : Handled old (kept_on old left) found m entry) where
  abbrev new : Shown
  new = kept_on old left

  home_within : home_of old.setup m.block < old.setup.shape.nodes
  home_within = omega (arith, well.setup.limits.some_node)

  pub stop_within : IsStoppedWithin old.setup.shape.nodes h.runs.stop
  stop_within =
      lower.within old.setup.shape.nodes old.setup.protocol old.code old.me (home_of old.setup m.block) m.block _ _
      (kept_of old.setup.protocol (cell_at old m.block))
      (saved_from old.setup.protocol old.conts (cell_at old m.block).cont) m h.runs.stop
      well.code well.at_node home_within (well.within.cells m.block) (well.within.chains m.block) within h.runs.stops

  sends_within : Each (IsSendWithin old.setup.shape.nodes) (map out_of h.sent)
  sends_within = rw h.runs.leaves.sends.outs stop_within.sends

  pub sent_postable : Each (IsPostable old.me) h.sent
  sent_postable = postable_of old.setup.protocol old.setup.shape.nodes old.me m.block h.sent well.setup.limits.nodes
      h.runs.leaves.sends.unsent sends_within

  pub sent_fit : Each (IsPosted old.setup) (map (stamped entry.stamp) h.sent)
      → Each (λ x. IsFit old.setup old.me x.to x) (map (stamped entry.stamp) h.sent)
  sent_fit posted = fits_of old.setup old.setup.protocol old.me m.block entry.stamp h.sent well.at_node posted
      h.runs.leaves.sends.unsent sends_within

  pub waits_more : new.waiting ≡ old.waiting ++ more_of entry.stamp h.sent old.posted
  waits_more = ap (λ (o : Outbox). o.waiting) h.outbox ∙ waits entry.stamp h.sent (outbox_of old)

  pub posted_more : new.posted ≡ posted_all h.sent old.posted
  posted_more = ap (λ (o : Outbox). o.posted) h.outbox ∙ numbers entry.stamp h.sent (outbox_of old)

  -- ---- chains

  pub stay_apart : StayApart old.setup.shape.words old.conts new.conts m.block (λ b. (cell_at old b).cont)
      (λ b. (cell_at new b).cont)
  stay_apart =
      lower.apart old.setup.shape.words old.conts new.conts m.block (λ b. (cell_at old b).cont) (λ b. (cell_at new b).cont)
      well.chains h.runs.others
      (subst (λ n. IsChain n new.conts (cell_at new m.block).cont) (ap (λ z. z.words) well.shape) h.runs.chain)
      (λ other d. ap (λ x. x.cont) (h.other_cells other d))

  pub other_chain : (b : ℕ) → b ≢ m.block → saved_from old.setup.protocol new.conts (cell_at new b).cont ≡ saved_from
      old.setup.protocol old.conts (cell_at old b).cont
  other_chain b d = ap (map (saved_of old.setup.protocol)) (stay_apart.others b d)

  pub other_cell : (b : ℕ) → b ≢ m.block → kept_of old.setup.protocol (cell_at new b) ≡ kept_of old.setup.protocol (cell_at old b)
  other_cell b d = ap (kept_of old.setup.protocol) (h.other_cells b d)

  -- ---- nodes in what the machine of ops keeps

  module _ (cell : kept_of old.setup.protocol (cell_at new m.block) ≡ record
      { state = h.runs.stop.state; args = h.runs.stop.args; infos = h.runs.stop.around.infos }) where
    pub cells_within : (b : ℕ) → IsCellWithin old.setup.shape.nodes (kept_of old.setup.protocol (cell_at new b))
    cells_within b = elim (cases_eq b m.block) [
      | inl e ↦ rw e (subst (λ (x : Cell). IsCellWithin old.setup.shape.nodes x) (sym cell) (stop_within.args, stop_within.infos))
      | inr d ↦ subst (λ (x : Cell). IsCellWithin old.setup.shape.nodes x) (sym (other_cell b d)) (well.within.cells b)
    ]

    pub chains_within : (b : ℕ) → Each (IsSavedWithin old.setup.shape.nodes)
        (saved_from old.setup.protocol new.conts (cell_at new b).cont)
    chains_within b = elim (cases_eq b m.block) [
      | inl e ↦ rw e (subst (λ (xs : List Saved). Each (IsSavedWithin old.setup.shape.nodes) xs) (sym h.runs.leaves.chain)
          (widened_within old.setup.shape.nodes h.runs.stop.chain stop_within.chain))
      | inr d ↦ subst (λ (xs : List Saved). Each (IsSavedWithin old.setup.shape.nodes) xs) (sym (other_chain b d))
          (well.within.chains b)
    ]
