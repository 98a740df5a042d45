-- The test of a node decides whether an event may be made.
use Rattle.std.proofs.Common.{◌≡◌, ◌∙◌, ◌<◌, ℕ, Bool, true, false, Some, sym, subst}
use Rattle.std.specs.Prelude.{MatchBool, slice_get}
use Rattle.std.proofs.lemmas.Option.{same_Some}
use Rattle.tw_base.specs.declared.entry.Event.{Event}
use Rattle.tw_base.specs.declared.entry.Event.TheVariants as event
use Rattle.tw_base.specs.declared.message.Chan.{Chan}
use Rattle.node_meaning.specs.Nodes.{Shown, test_of}
use Rattle.still_meaning.specs.Laws.{node_of}
use Rattle.still_meaning.specs.Stills.{IsDisabled, IsSpread, StillShown}
use Rattle.still_nodes.specs.Making.{IsWithin, MayMake}
use Rattle.still_nodes.proofs.Choosing.{enabled_passes}

module _ (a : StillShown) (spread : IsSpread a) (n : Shown) (r : Bool) where
  decided : (e : Event) → IsWithin a.setup.shape.nodes e → slice_get a.nodes (node_of e) ≡ Some n → r ≡ test_of n e →
      MatchBool r (MayMake a e) (IsDisabled a e)
  decided e within there is = by r is
    where
      by : (b : Bool) → b ≡ test_of n e → MatchBool b (MayMake a e) (IsDisabled a e)
      by true passed =
          (within, λ m q. subst (λ (x : Shown). test_of x e ≡ true) (same_Some n m (sym there ∙ q)) (sym passed))
      by false failed = λ g s enabled. let passes : test_of n e ≡ true = enabled_passes a g n e s spread there enabled in cc

  pub instruct_decided : (i : ℕ) → i < a.setup.shape.nodes → slice_get a.nodes i ≡ Some n →
      r ≡ test_of n (event.Instr n.me) → MatchBool r (MayMake a (event.Instr i)) (IsDisabled a (event.Instr i))
  instruct_decided i l there is = decided (event.Instr i) l there is

  pub redeliver_decided : (i : ℕ) → i < a.setup.shape.nodes → slice_get a.nodes i ≡ Some n →
      r ≡ test_of n (event.Redeliver n.me) → MatchBool r (MayMake a (event.Redeliver i)) (IsDisabled a (event.Redeliver i))
  redeliver_decided i l there is = decided (event.Redeliver i) l there is

  pub deliver_decided : (i f : ℕ) (c : Chan) → i < a.setup.shape.nodes → f < a.setup.shape.nodes → slice_get a.nodes i ≡ Some n →
      r ≡ test_of n (event.Deliver n.me f c) → MatchBool r (MayMake a (event.Deliver i f c)) (IsDisabled a (event.Deliver i f c))
  deliver_decided i f c l lf there is = decided (event.Deliver i f c) (l, lf) there is
