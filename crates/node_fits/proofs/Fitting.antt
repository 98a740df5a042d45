-- What makes a message fit.
use Rattle.std.proofs.Common.{◌≡◌, ◌<◌, ◌≤◌, ℕ, zero, suc, false, Bool, List, [], ◌∷◌, length, take, refl, ap, ◌∙◌, subst, arith}
use Rattle.std.specs.Prelude.{◌↔◌, IsTrue, slice_get, unwrap_or}
use Rattle.tw_base.specs.NodeSets.{has}
use Rattle.tw_base.specs.Shape.{Sizes}
use Rattle.tw_base.specs.declared.message.Message.{Message}
use Rattle.teapot_tree.specs.declared.protocol.Protocol.{Protocol}
use Rattle.teapot_meaning.specs.Fits.{IsMessageOf}
use Rattle.value_nodes.specs.Within.{AreWithin}
use Rattle.dsm_runs.specs.Invariants.{is_fault}
use Rattle.dsm_runs.specs.Setups.{Setup}
use Rattle.node_meaning.specs.Stands.{IsFit}

past : (s : List Bool) (k : ℕ) → length s ≤ k → unwrap_or (slice_get s k) false ≡ false
past [] k h = refl
past (b ∷ s) zero h = absurd (omega arith)
past (b ∷ s) (suc k) h = past s k (omega arith)

-- a set has no member past the last of its truth values
pub no_member : (s : List Bool) (k : ℕ) → length s ≤ k → has s k ≡ false
unfolding has
no_member s k h = past s k h

-- the message is for the node, and both its ends and its block are of the machine
abbrev pub IsPlaced : Setup → ℕ → Message → Type 0
IsPlaced s me m = (m.to ≡ me) × (me < s.shape.nodes) × (m.from < s.shape.nodes) × (m.block < s.shape.blocks)

abbrev pub IsNamed : Setup → Message → Type 0
IsNamed s m = IsMessageOf s.protocol s.shape.words m × (is_fault m.kind ≡ false)

pub fit_by : (s : Setup) (me : ℕ) (m : Message) → IsPlaced s me m → IsNamed s m
    → AreWithin s.shape.nodes (take m.arg_count m.args) → IsFit s m.from me m
fit_by s me m p n w = record {
  on = record { is_message = n.0; named = n.1; from = refl; to = p.0; block = p.3 };
  within = (p.2, w);
  receiver = p.1;
}

-- what was found of the parts says whether the message is fit
pub decides : (s : Setup) (me : ℕ) (m : Message) (shape : Sizes) (p : Protocol) (words nodes count : ℕ) (b : Bool)
    → shape ≡ s.shape → p ≡ s.protocol → words ≡ shape.words → nodes ≡ shape.nodes → count ≡ m.arg_count
    → (m.to ≡ me) × (me < shape.nodes) × (m.from < shape.nodes) × (m.block < shape.blocks)
    → IsMessageOf p words m × (is_fault m.kind ≡ false) → (IsTrue b ↔ AreWithin nodes (take count m.args))
    → IsTrue b ↔ IsFit s m.from me m
decides s me m shape p words nodes count b same protocol word node args at of within =
    let place : IsPlaced s me m = subst (λ (x : Sizes). (m.to ≡ me) × (me < x.nodes) × (m.from < x.nodes) ×
    (m.block < x.blocks)) same at in
    let name : IsNamed s m = subst (λ (q : Protocol). IsMessageOf q s.shape.words m × (is_fault m.kind ≡ false)) protocol
    (subst (λ k. IsMessageOf p k m × (is_fault m.kind ≡ false)) (word ∙ ap (λ (x : Sizes). x.words) same) of) in
    let count_is : nodes ≡ s.shape.nodes = node ∙ ap (λ (x : Sizes). x.nodes) same in
    let here : IsTrue b ↔ AreWithin s.shape.nodes (take m.arg_count m.args) = subst (λ k. IsTrue b ↔ AreWithin s.shape.nodes
    (take k m.args)) args
    (subst (λ k. IsTrue b ↔ AreWithin k (take count m.args)) count_is within) in
    ((λ h. fit_by s me m place name (here.0 h)), (λ f. here.1 f.within.1))
