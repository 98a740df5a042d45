-- Turns of a seat, step by step.
use Rattle.std.proofs.Common.{◌≡◌, ◌∙◌, ◌<◌, ◌≤◌, ◌*◌, ℕ, Bool, true, false, ◌&&◌, not, List, ◌++◌, refl, ap, sym, subst, arith}
use Rattle.std.proofs.Common.{append_assoc}
use Rattle.std.specs.Bool.{MatchBool, OnFalse, OnTrue}
use Rattle.tw_base.specs.declared.entry.Entry.{Entry}
use Rattle.tw_base.specs.declared.entry.Event.TheVariants as event
use Rattle.tw_base.specs.declared.message.Chan.{Chan}
use Rattle.tw_base.specs.declared.message.Message.{Message}
use Rattle.dsm_runs.specs.Tests.{has_eligible, may_handle}
use Rattle.node_meaning.specs.Nodes.{Shown, test_of, tested}
use Rattle.tw_wire.specs.Places.{place}
use Rattle.seat_meaning.specs.Seats.{Seated}
use Rattle.node_seats.specs.Steps.{HasTried}
use Rattle.node_seats.specs.Turns.{Grows, HasPushed, HasServed, is_handling}
use Rattle.node_seats.proofs.Ends.{place_below}
use Rattle.node_seats.proofs.Trying.{tried_around}

-- ---- pushes

pub pushed_more : (a b c : Seated) → HasPushed a b → HasPushed b c → HasPushed a c
pushed_more a b c x y = record {
  messages = x.messages ++ y.messages;
  waits = x.waits ∙ ap (λ (ms : List Message). x.messages ++ ms) y.waits
      ∙ sym (append_assoc x.messages y.messages c.node.waiting);
  same = y.same ∙ ap (λ (s : Seated). record s {
    node = record s.node { waiting = c.node.waiting };
    ends = record s.ends { sends = c.ends.sends };
  }) x.same;
}

-- ---- a search for a message that found none

none_early : (a b : Bool) → (a && (b && false)) ≡ false
none_early true true = refl
none_early true false = refl
none_early false b = refl

pub served : (s : Seated) (p : Shown) (b c : Seated) (mid high : ℕ) → mid ≤ high → high ≡ 2 * p.setup.shape.nodes
    → test_of p (event.Redeliver p.me) ≡ false
    → HasTried (record s { node = p }) b mid high → HasTried b c 0 mid → HasServed s c
served s p b c mid high le all idle x y = record {
  no_redelivery = ap (λ (n : Shown). test_of n (event.Redeliver n.me)) tried.kept.node ∙ idle;
  no_delivery = λ f d l. ap (λ e. may_handle c.node.setup (tested c.node) && (not (has_eligible c.node.parts.deferred) && e))
      (tried.late (place f d) (omega arith) (within f d l))
      ∙ none_early (may_handle c.node.setup (tested c.node)) (not (has_eligible c.node.parts.deferred));
  looked = λ takes f d l none opened. tried.kept.looked (place f d) (omega arith) (within f d l) none opened;
}
  where
    tried : HasTried (record s { node = p }) c 0 high
    tried = tried_around (record s { node = p }) b c mid high le x y

    within : (f : ℕ) (d : Chan) → f < c.node.setup.shape.nodes → place f d < high
    within f d l =
        let nodes : c.node.setup.shape.nodes ≡ p.setup.shape.nodes = ap (λ (n : Shown). n.setup.shape.nodes) tried.kept.node in
        let low = place_below c.node.setup.shape.nodes f d l in
        omega (arith, nodes, low, all)

-- the node handled one, with the same log before
pub handled : (old mid new : List Entry) → mid ≡ old → Grows is_handling mid new 1 → Grows is_handling old new 1
handled old mid new same h = subst (λ (l : List Entry). Grows is_handling l new 1) same h

pub ends_so : (b : Bool) (P Q P' Q' : Type 0) → OnTrue b P → OnFalse b Q → (P → P') → (Q → Q') → MatchBool b P' Q'
ends_so true P Q P' Q' h k f g = f h
ends_so false P Q P' Q' h k f g = g k
