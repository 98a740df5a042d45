-- What may be on channel 1, and which words copies have.
use Rattle.std.proofs.Common.{◌≡◌, ℕ, ◌<◌, arith, refl, ◌≢◌}
use Rattle.tw_base.specs.Lists.{Each}
use Rattle.block_spots.specs.Cases.{State, HomeRw, HomeRo, HomeExcl, HomeAcks, HomePut, Here}
use Rattle.block_spots.specs.Notes.{Spot}
use Rattle.stache_d_inv.specs.Coherent.{AtCache, HasCopies}
use Rattle.stache_d_inv.specs.Parts.{IsDown, IsUp, Copies}
use Rattle.coherence_frame.proofs.Scheme.{HasLength}

pub down_is : (w n h : ℕ) (home : Here) (i : ℕ) (sp : Spot) → AtCache n h home i sp → Each (HasLength w) sp.down →
    Each (IsDown w) sp.down
down_is w n h home i sp a long = go home.state refl
  where
    go : (x : State) → home.state ≡ x → Each (IsDown w) sp.down
    go HomeRw p = grind arith
    go HomeRo p = grind arith
    go HomeAcks p = grind arith
    go HomeExcl p = grind arith
    go HomePut p = grind arith
    go x p = absurd (grind arith)

pub up_is : (w n h : ℕ) (home : Here) (i : ℕ) (sp : Spot) → AtCache n h home i sp → Each (HasLength w) sp.up → Each (IsUp w) sp.up
up_is w n h home i sp a long = go home.state refl
  where
    go : (x : State) → home.state ≡ x → Each (IsUp w) sp.up
    go HomeRw p = grind arith
    go HomeRo p = grind arith
    go HomeAcks p = grind arith
    go HomeExcl p = grind arith
    go HomePut p = grind arith
    go x p = absurd (grind arith)

pub copies_at : (n h : ℕ) (home : Here) (spots : ℕ → Spot) → Copies n h home spots → (i : ℕ) → i < n → i ≢ h →
    HasCopies home (spots i)
copies_at n h home spots c i l d = record { copies = c.held i l d; comes = c.coming i l d; answers = c.answered i l d }

pub copies_of : (n h : ℕ) (home : Here) (spots : ℕ → Spot) → ((i : ℕ) → i < n → i ≢ h → HasCopies home (spots i)) →
    Copies n h home spots
copies_of n h home spots c = record {
  held = λ i l d. (c i l d).copies;
  coming = λ i l d. (c i l d).comes;
  answered = λ i l d. (c i l d).answers;
}
