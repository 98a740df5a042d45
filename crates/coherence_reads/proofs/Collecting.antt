-- A cache while a home of Stache_L collects acknowledgements, by the request that the home serves.
use Rattle.std.proofs.Common.{◌≡◌, ◌≢◌, ℕ, Bool, true, false, [], nat_eq, refl, sym, ◌∙◌, arith}
use Rattle.std.proofs.lemmas.Grind.{common_steps}
use Rattle.std.specs.Bool.{Decides}
use Rattle.tw_base.specs.Lists.{one_if}
use Rattle.block_spots.specs.Cases.{OfRo}
use Rattle.block_spots.specs.Notes.{Spot, gets_rw, held_rw}
use Rattle.stache_l_inv.specs.Coherent.{Answers, InAcks, IsSharer}
use Rattle.block_reads.specs.Whose.{rest_in}
use Rattle.block_reads.specs.declared.whose.Whose.{Whose}
use Rattle.block_reads.specs.declared.whose.Whose.TheVariants as wh

-- what is asked of members, and of others, where it is known which it is
pub of_member : (member r : Bool) (P Q : Type 0) → member ≡ true → Decides r P →
    Decides r ((member ≡ true → P) × (member ≡ false → Q))
of_member member r P Q e d = (λ y. (λ f. d.0 y, λ f. absurd (cc)), λ a. d.1 (a.0 e))

pub of_other : (member r : Bool) (P Q : Type 0) → member ≡ false → Decides r Q →
    Decides r ((member ≡ true → P) × (member ≡ false → Q))
of_other member r P Q e d = (λ y. (λ f. absurd (cc), λ f. d.0 y), λ a. d.1 (a.1 e))

abbrev Answered : Spot → ℕ → ℕ → ℕ → Type 0
Answered s ro wr held = Answers s.state ro wr (gets_rw s) s.down s.up × (held ≡ 1 → (s.down ≡ []) × (s.up ≡ []))

one_asks : (a i : ℕ) → one_if (nat_eq a i) ≡ 1 → a ≡ i
one_asks a i e = grind (arith, common_steps)

asks_one : (a i : ℕ) → a ≡ i → one_if (nat_eq a i) ≡ 1
asks_one a i e = grind (arith, common_steps)

pub for_reader : (a i : ℕ) (sharers : ℕ → Bool) (member : Bool) (s : Spot) (ro wr : ℕ) (r : Bool) → sharers i ≡ member →
    Decides r (
    (member ≡ true → IsSharer s.state (gets_rw s) s.down × (s.up ≡ []))
    × (member ≡ false → Answered s ro wr (one_if (nat_eq a i)))
    ) →
    Decides r (InAcks (OfRo a) sharers i s ro wr)
for_reader a i sharers member s ro wr r e h = (
  λ y. let p = h.0 y in (λ k. p.0 (sym e ∙ k), λ k. let q = p.1 (sym e ∙ k) in (q.0, λ g. q.1 (asks_one a i g))),
  λ z. h.1 (λ k. z.0 (e ∙ k), λ k. let q = z.1 (e ∙ k) in (q.0, λ g. q.1 (one_asks a i g))),
)

pub for_others : (w : Whose) (sharers : ℕ → Bool) (i : ℕ) (s : Spot) (ro wr : ℕ) (r : Bool) → ((a : ℕ) → w ≢ wh.OfRo a) →
    Decides r (Answered s ro wr (held_rw (rest_in w) i)) → Decides r (InAcks (rest_in w) sharers i s ro wr)
for_others wh.NoRest sharers i s ro wr r e d = d
for_others wh.OfHome sharers i s ro wr r e d = d
for_others wh.OfLoad sharers i s ro wr r e d = d
for_others (wh.OfRo a) sharers i s ro wr r e d = absurd (e a refl)
for_others (wh.OfRw a) sharers i s ro wr r e d = d
for_others wh.OfCache sharers i s ro wr r e d = d
