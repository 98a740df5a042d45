-- What may be on channel 1.
use Rattle.std.proofs.Common.{◌≡◌, ℕ, Bool, true, false, arith, refl}
use Rattle.tw_base.specs.Lists.{Each}
use Rattle.block_spots.specs.Cases.{State, HomeRw, HomeRo, HomeExcl, HomeAcks, HomePut, Rest, OfRo, Here}
use Rattle.block_spots.specs.Notes.{Spot}
use Rattle.stache_l_inv.specs.Coherent.{AtCache}
use Rattle.coherence_inv.specs.Parts.{IsDown, IsUp}
use Rattle.coherence_frame.proofs.Scheme.{HasLength}

pub down_is : (w n h : ℕ) (home : Here) (i : ℕ) (sp : Spot) → AtCache n h home i sp → Each (HasLength w) sp.down →
    Each (IsDown w) sp.down
down_is w n h home i sp a long = go home.state refl
  where
    in_acks : home.state ≡ HomeAcks → (r : Rest) → home.rest ≡ r → (b : Bool) → home.sharers i ≡ b → Each (IsDown w) sp.down
    in_acks p (OfRo x) r true y = grind arith
    in_acks p (OfRo x) r false y = grind arith
    in_acks p _ r b y = grind arith

    go : (x : State) → home.state ≡ x → Each (IsDown w) sp.down
    go HomeRw p = grind arith
    go HomeRo p = grind arith
    go HomeAcks p = in_acks p home.rest refl (home.sharers i) refl
    go HomeExcl p = grind arith
    go HomePut p = grind arith
    go x p = absurd (grind arith)

pub up_is : (w n h : ℕ) (home : Here) (i : ℕ) (sp : Spot) → AtCache n h home i sp → Each (HasLength w) sp.up → Each (IsUp w) sp.up
up_is w n h home i sp a long = go home.state refl
  where
    in_acks : home.state ≡ HomeAcks → (r : Rest) → home.rest ≡ r → (b : Bool) → home.sharers i ≡ b → Each (IsUp w) sp.up
    in_acks p (OfRo x) r true y = grind arith
    in_acks p (OfRo x) r false y = grind arith
    in_acks p _ r b y = grind arith

    go : (x : State) → home.state ≡ x → Each (IsUp w) sp.up
    go HomeRw p = grind arith
    go HomeRo p = grind arith
    go HomeAcks p = in_acks p home.rest refl (home.sharers i) refl
    go HomeExcl p = grind arith
    go HomePut p = grind arith
    go x p = absurd (grind arith)
