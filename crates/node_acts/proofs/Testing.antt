-- The tests of a node as one word of bits.
use Rattle.std.proofs.Common.{◌≡◌, ◌∙◌, ℕ, zero, suc, ◌+◌, ◌*◌, ◌<◌, ◌≤◌, Bool, true, false, not, ◌&&◌, List, [], ◌∷◌, ◌++◌}
use Rattle.std.proofs.Common.{map, refl, ap, sym, arith}
use Rattle.std.proofs.lemmas.Nat.Bits.{bit_at-zero}
use Rattle.std.proofs.lemmas.List.{map-append}
use Rattle.tw_base.specs.Bits.{has_bit}
use Rattle.tw_base.specs.declared.entry.Event.TheVariants as event
use Rattle.tw_base.specs.declared.message.Chan.{Chan}
use Rattle.tw_base.specs.declared.message.Chan.TheVariants.{Zero, One}
use Rattle.dsm_runs.specs.Messages.{place}
use Rattle.dsm_runs.specs.Schedules.{deliveries}
use Rattle.dsm_runs.specs.Tests.{has_eligible, is_early, may_handle, may_instruct}
use Rattle.node_acts.specs.Early.{early_if}
use Rattle.node_parts.specs.Masks.{IsMask}
use Rattle.node_parts.specs.Truths.{truths}
use Rattle.node_parts.proofs.Masking.{truths_more}
use Rattle.node_meaning.specs.Nodes.{Shown, front_at, node_tests, test_of, tested}

deliveries_tests : (n : Shown) (w k : ℕ)
    → ((f : ℕ) (ch : Chan) → f < k → test_of n (event.Deliver n.me f ch) ≡ has_bit w (place f ch))
    → map (test_of n) (deliveries n.me k) ≡ truths (2 * k) w
unfolding truths
deliveries_tests n w zero all = refl
deliveries_tests n w (suc f) all =
    let two : 2 * suc f ≡ suc (suc (2 * f)) = omega arith in
    let even : 2 * f + 0 ≡ 2 * f = omega arith in
    let odd : 2 * f + 1 ≡ suc (2 * f) = omega arith in
    map-append (test_of n) (deliveries n.me f) (event.Deliver n.me f Zero ∷ event.Deliver n.me f One ∷ [])
    ∙ (λ j. deliveries_tests n w f (λ g ch lt. all g ch (omega (arith, lt))) j
    ++ (all f Zero (omega arith) ∙ ap (has_bit w) even) j ∷ (all f One (omega arith) ∙ ap (has_bit w) odd) j ∷ [])
    ∙ join (truths (2 * f) w) (has_bit w (2 * f)) (has_bit w (suc (2 * f)))
    ∙ sym (ap (λ k. truths k w) two ∙ truths_more (suc (2 * f)) w
    ∙ ap (λ bs. bs ++ has_bit w (suc (2 * f)) ∷ []) (truths_more (2 * f) w))
  where
    join : (bs : List Bool) (a b : Bool) → bs ++ a ∷ b ∷ [] ≡ (bs ++ a ∷ []) ++ b ∷ []
    join [] a b = refl
    join (x ∷ bs) a b = ap (λ cs. x ∷ cs) (join bs a b)

no_bit : (k : ℕ) → has_bit 0 k ≡ false
no_bit k = rw (bit_at-zero k) refl

delivery_test : (n : Shown) (early : ℕ) (handles eligible : Bool) → n.setup.shape.nodes ≤ 8 → IsMask n.fronts early
    → handles ≡ may_handle n.setup (tested n) → eligible ≡ has_eligible n.parts.deferred
    → (f : ℕ) (ch : Chan) → f < n.setup.shape.nodes
    → test_of n (event.Deliver n.me f ch) ≡ has_bit (early_if handles eligible early) (place f ch)
delivery_test n early handles eligible few mask h e f ch lt = rw (← h, ← e) (by handles eligible)
  where
    small : (d : Chan) → place f d < 32
    small Zero = omega (arith, lt, few)
    small One = omega (arith, lt, few)

    by : (a b : Bool) → (a && (not b && is_early (front_at n f ch))) ≡ has_bit (early_if a b early) (place f ch)
    by true true = sym (no_bit (place f ch))
    by true false = sym (mask.early (place f ch) (small ch))
    by false b = sym (no_bit (place f ch))

pub tests_told : (n : Shown) (word early : ℕ) (instructs handles eligible : Bool) → n.setup.shape.nodes ≤ 8
    → IsMask n.fronts early → instructs ≡ may_instruct n.setup (tested n) → handles ≡ may_handle n.setup (tested n)
    → eligible ≡ has_eligible n.parts.deferred
    → truths (2 + 2 * n.setup.shape.nodes) word ≡ instructs ∷ (handles && eligible) ∷ truths (2 * n.setup.shape.nodes)
    (early_if handles eligible early)
    → truths (2 + 2 * n.setup.shape.nodes) word ≡ node_tests n
tests_told n word early instructs handles eligible few mask i h e is =
    is
    ∙ sym (λ j. sym i j ∷ (sym h j && sym e j) ∷ deliveries_tests n (early_if handles eligible early) n.setup.shape.nodes
    (delivery_test n early handles eligible few mask h e) j)
