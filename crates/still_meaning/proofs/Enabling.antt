-- The tests of a node say which of its events are enabled.
use Rattle.std.proofs.Common.{◌≡◌, ◌∙◌, ℕ, zero, suc, ◌<◌, ◌≤◌, ◌&&◌, not, nat_lt, List, [], ◌∷◌, ◌++◌, Option, Some, None}
use Rattle.std.proofs.Common.{refl, ap, sym, arith}
use Rattle.std.specs.Prelude.{map, option_to_list, slice_get}
use Rattle.std.proofs.lemmas.Bool.Decides.{Decides-ltb}
use Rattle.tw_base.specs.Lists.{Each}
use Rattle.tw_base.specs.declared.entry.Event.TheVariants as event
use Rattle.tw_base.specs.declared.message.Chan.{Chan}
use Rattle.tw_base.specs.declared.message.Chan.TheVariants.{Zero, One}
use Rattle.tw_base.specs.declared.message.Message.{Message}
use Rattle.dsm_runs.specs.Locals.{Local}
use Rattle.dsm_runs.specs.Schedules.{deliveries, node_events}
use Rattle.dsm_runs.specs.Setups.{Setup}
use Rattle.dsm_runs.specs.Tests.{has_eligible, is_early, is_enabled, may_handle, may_instruct}
use Rattle.dsm_runs.specs.Worlds.{World}
use Rattle.dsm_runs.proofs.Lists.{Each-append}
use Rattle.node_meaning.specs.Nodes.{Shown, front_at, node_tests, test_of, tested, with_blocks}
use Rattle.still_meaning.specs.Laws.{KeepsFronts}
use Rattle.still_meaning.specs.Stills.{IsNodeAt, IsStill, StillShown, front_of, row_at, unpushed}

map_same : {X Y : Type 0} (p q : X → Y) (xs : List X) → Each (λ x. p x ≡ q x) xs → map p xs ≡ map q xs
map_same p q [] h = refl
map_same p q (x ∷ xs) h = ap (λ y. y ∷ map p xs) h.0 ∙ ap (λ ys. q x ∷ ys) (map_same p q xs h.1)

first_of : (o : Option Message) (rest : List Message) → (o ≡ None → rest ≡ []) → slice_get (option_to_list o ++ rest) 0 ≡ o
first_of None rest h = rw (h refl) refl
first_of (Some m) rest h = refl

local_is : (a : StillShown) (g : World) (i : ℕ) (n : Shown) (s : IsStill a g) → slice_get a.nodes i ≡ Some n →
    i < a.setup.shape.nodes → g.locals i ≡ with_blocks n.parts (s.ends i).local.blocks
local_is a g i n s there l = s.joined.locals i l ∙ (s.nodes i n there).stands.parts

first_is : (a : StillShown) (g : World) (i : ℕ) (n : Shown) (s : IsStill a g) → slice_get a.nodes i ≡ Some n →
    i < a.setup.shape.nodes → KeepsFronts a i n → (f : ℕ) (c : Chan) → f < a.setup.shape.nodes →
    slice_get (g.wires f i c) 0 ≡ front_at n f c
first_is a g i n s there l keeps f c lf =
    let rest : List Message = row_at a f i c ++ unpushed (slice_get a.nodes f) f i c in
    ap (λ (ms : List Message). slice_get ms 0) (s.joined.wires f i c lf l)
    ∙ ap (λ (o : Option Shown). slice_get (front_of o f c ++ rest) 0) there ∙ first_of (front_at n f c) rest (keeps f c lf)

instr_is : (a : StillShown) (g : World) (i : ℕ) (n : Shown) (s : IsStill a g) → slice_get a.nodes i ≡ Some n →
    i < a.setup.shape.nodes → is_enabled a.setup g (event.Instr i) ≡ test_of n (event.Instr i)
instr_is a g i n s there l =
    ap (λ b. b && may_instruct a.setup (g.locals i)) ((Decides-ltb i a.setup.shape.nodes).1 l)
    ∙ ap (λ (x : Local). may_instruct a.setup x) (local_is a g i n s there l)
    ∙ ap (λ (u : Setup). may_instruct u (tested n)) (sym (s.nodes i n there).setup)

handled_is : (a : StillShown) (g : World) (i : ℕ) (n : Shown) (s : IsStill a g) → slice_get a.nodes i ≡ Some n →
    i < a.setup.shape.nodes → may_handle a.setup (g.locals i) ≡ may_handle n.setup (tested n)
handled_is a g i n s there l = ap (λ (x : Local). may_handle a.setup x) (local_is a g i n s there l)
    ∙ ap (λ (u : Setup). may_handle u (tested n)) (sym (s.nodes i n there).setup)

eligible_is : (a : StillShown) (g : World) (i : ℕ) (n : Shown) (s : IsStill a g) → slice_get a.nodes i ≡ Some n →
    i < a.setup.shape.nodes → has_eligible (g.locals i).deferred ≡ has_eligible n.parts.deferred
eligible_is a g i n s there l = ap (λ (x : Local). has_eligible x.deferred) (local_is a g i n s there l)

redeliver_is : (a : StillShown) (g : World) (i : ℕ) (n : Shown) (s : IsStill a g) → slice_get a.nodes i ≡ Some n →
    i < a.setup.shape.nodes → is_enabled a.setup g (event.Redeliver i) ≡ test_of n (event.Redeliver i)
redeliver_is a g i n s there l =
    ap (λ b. b && (may_handle a.setup (g.locals i) && has_eligible (g.locals i).deferred))
    ((Decides-ltb i a.setup.shape.nodes).1 l)
    ∙ ap (λ b. b && has_eligible (g.locals i).deferred) (handled_is a g i n s there l)
    ∙ ap (λ b. may_handle n.setup (tested n) && b) (eligible_is a g i n s there l)

pub deliver_is : (a : StillShown) (g : World) (i : ℕ) (n : Shown) (s : IsStill a g) → slice_get a.nodes i ≡ Some n →
    i < a.setup.shape.nodes → KeepsFronts a i n → (f : ℕ) (c : Chan) → f < a.setup.shape.nodes
    → is_enabled a.setup g (event.Deliver i f c) ≡ test_of n (event.Deliver i f c)
deliver_is a g i n s there l keeps f c lf =
    let early = is_early (slice_get (g.wires f i c) 0) in
    ap (λ b. b
    && (nat_lt f a.setup.shape.nodes && (may_handle a.setup
    (g.locals i) && (not (has_eligible (g.locals i).deferred) && early)))) ((Decides-ltb i a.setup.shape.nodes).1 l)
    ∙ ap (λ b. b && (may_handle a.setup (g.locals i) && (not (has_eligible (g.locals i).deferred) && early)))
    ((Decides-ltb f a.setup.shape.nodes).1 lf)
    ∙ ap (λ b. b && (not (has_eligible (g.locals i).deferred) && early)) (handled_is a g i n s there l)
    ∙ ap (λ b. may_handle n.setup (tested n) && (not b && early)) (eligible_is a g i n s there l)
    ∙ ap (λ (o : Option Message). may_handle n.setup (tested n) && (not (has_eligible n.parts.deferred) && is_early o))
    (first_is a g i n s there l keeps f c lf)

deliveries_are : (a : StillShown) (g : World) (i : ℕ) (n : Shown) (s : IsStill a g) → slice_get a.nodes i ≡ Some n →
    i < a.setup.shape.nodes → KeepsFronts a i n → (k : ℕ) → k ≤ a.setup.shape.nodes
    → Each (λ e. is_enabled a.setup g e ≡ test_of n e) (deliveries i k)
deliveries_are a g i n s there l keeps zero le = tt
deliveries_are a g i n s there l keeps (suc k) le =
    Each-append (λ e. is_enabled a.setup g e ≡ test_of n e) (deliveries i k)
    (event.Deliver i k Zero ∷ event.Deliver i k One ∷ []) (deliveries_are a g i n s there l keeps k (omega (arith, le))) (
      deliver_is a g i n s there l keeps k Zero (omega (arith, le)),
      (deliver_is a g i n s there l keeps k One (omega (arith, le)), tt),
    )

-- The tests of node i are whether its events are enabled, in every state that the nodes and what is on the way are.
pub tests_are : (a : StillShown) (g : World) (i : ℕ) (n : Shown) → IsStill a g → slice_get a.nodes i ≡ Some n →
    i < a.setup.shape.nodes → KeepsFronts a i n → map (is_enabled a.setup g) (node_events a.setup.shape.nodes i) ≡ node_tests n
tests_are a g i n s there l keeps =
    let at : IsNodeAt a i n (s.ends i) = s.nodes i n there in
    map_same (is_enabled a.setup g) (test_of n) (node_events a.setup.shape.nodes i) (
      instr_is a g i n s there l,
      (
        redeliver_is a g i n s there l,
        deliveries_are a g i n s there l keeps a.setup.shape.nodes (omega arith),
      ),
    )
    ∙ ap (λ (u : Setup). map (test_of n) (node_events u.shape.nodes i)) (sym at.setup)
    ∙ ap (λ k. map (test_of n) (node_events n.setup.shape.nodes k)) (sym at.me)
