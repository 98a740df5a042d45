-- What the rows of the table send.
use Rattle.std.proofs.Common.{◌≡◌, ◌≢◌, ℕ, ◌<◌, true, false, Some, arith, refl, ◌⊎◌}
use Rattle.block_spots.specs.Cases.{State, Message, Here, Effect, GetRo, GetRw, No, without_node, HomeRw, HomeRo, HomeExcl}
use Rattle.block_spots.specs.Cases.{HomeAcks, HomePut}
use Rattle.block_spots.specs.Notes.{Spot}
use Rattle.stache_table.specs.Handling.{handle_by, inv_all, handle_in}
use Rattle.tw_base.specs.declared.message.Chan.TheVariants.{One}
use Rattle.std.proofs.lemmas.Bool.Decides.{nat_tests}
use Rattle.coherence_inv.specs.Coherent.{AtHome, IsSettled, standing}
use Rattle.coherence_frame.proofs.Sends.{AllOn, AllBelow, AllOn-inv_all, AllPast, AllPast-inv_all, inv_below}
use Rattle.coherence_frame.proofs.Rows.{Sends}
use Rattle.coherence_frame.proofs.Views.{AllFrom-inv_all, AllOf-inv_all}
use Rattle.block_spots.specs.Cases as cases
use Rattle.block_spots.proofs.Noted.{AllFrom, AllOf}
use Rattle.coherence_frame.proofs.CacheTable.{cache_by_sends}
use Rattle.coherence_inv.proofs.Caches.{by_cache}

pub handle_by-block : (st : State) (n home i : ℕ) (h : Here) (m : Message) (e : Effect) → handle_by st n home i h m ≡ Some e →
    AllOf m.block e.sends
handle_by-block st n home i h m e d = grind (arith, AllOf-inv_all)

pub handle_by-from : (st : State) (n home i : ℕ) (h : Here) (m : Message) (e : Effect) → handle_by st n home i h m ≡ Some e →
    AllFrom i e.sends
handle_by-from st n home i h m e d = grind (arith, AllFrom-inv_all)

-- a home sends on channel 1 alone, and never to itself
pub home_sends_on_one : (n h : ℕ) (home : Here) (s : Spot) (m : Message) (e : Effect) → AtHome n h home s →
    handle_by home.state n h h home m ≡ Some e → AllOn One e.sends
home_sends_on_one n h home s m e a d = grind (arith, AllOn-inv_all)

pub home_sends_past : (n h : ℕ) (home : Here) (s : Spot) (m : Message) (e : Effect) → AtHome n h home s →
    (m.kind ≡ GetRo → m.from ≢ h) → (m.kind ≡ GetRw → m.from ≢ h) → handle_by home.state n h h home m ≡ Some e →
    AllPast h e.sends
home_sends_past n h home s m e a p q d = grind (arith, nat_tests, AllPast-inv_all)

pub home_sends_below : (n h : ℕ) (home : Here) (s : Spot) (m : Message) (e : Effect) → AtHome n h home s → m.from < n →
    handle_by home.state n h h home m ≡ Some e → AllBelow n e.sends
home_sends_below n h home s m e a l d = let i1 : AllBelow n (inv_all n home.sharers m.block h) =
    inv_below n n home.sharers m.block h (omega arith) in let i2 : AllBelow n
    (inv_all n (without_node home.sharers m.from) m.block h) =
    inv_below n n (without_node home.sharers m.from) m.block h (omega arith) in grind (arith, nat_tests)

-- a row leads to a settled state only by making all eligible, or from a settled state with nothing deferred
pub settled_effect : (n h : ℕ) (home : Here) (m : Message) (e : Effect) → handle_by home.state n h h home m ≡ Some e →
    IsSettled e.here.state → (e.freed ≡ true) ⊎ IsSettled home.state × (e.kept ≡ No)
settled_effect n h home m e does st = go home.state refl
  where
    go : (x : State) → home.state ≡ x → (e.freed ≡ true) ⊎ IsSettled home.state × (e.kept ≡ No)
    go HomeRw p = grind (arith, nat_tests)
    go HomeRo p = grind (arith, nat_tests)
    go HomeExcl p = grind (arith, nat_tests)
    go HomeAcks p = grind (arith, nat_tests)
    go HomePut p = grind (arith, nat_tests)
    go x p = absurd (grind (arith, nat_tests))

never_both : (st : cases.State) (n home i : ℕ) (h : cases.Here) (m : cases.Message) (f : Effect) →
    handle_by st n home i h m ≡ Some f → (f.kept ≡ No) ⊎ (f.freed ≡ false)
never_both st n home i h m f d = grind (arith, nat_tests)

pub sends : Sends handle_in standing
sends = record {
  of_block = λ n h i here m e does. handle_by-block here.state n h i here m e does;
  from_node = λ n h i here m e does. handle_by-from here.state n h i here m e does;
  home_on_one = home_sends_on_one;
  home_past = home_sends_past;
  home_below = home_sends_below;
  cache_sends = λ n h i here m e cs does order. cache_by_sends h i here m e cs (by_cache n h i here m e cs does) order;
  never_both = λ n h i here m e does. never_both here.state n h i here m e does;
  settled_effect = settled_effect;
}
