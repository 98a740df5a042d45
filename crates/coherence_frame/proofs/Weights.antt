-- The two counts of a block over the sketch, and what leaves them as they are.
use Rattle.std.proofs.Common.{Some, ◌≡◌, ◌≢◌, ℕ, ◌+◌, ◌-◌, ◌≤◌, List, [], ◌∷◌, length, arith, refl, ap}
use Rattle.block_spots.specs.Cases.{RdFault, WrFault, Here, Message, Effect}
use Rattle.coherence_frame.proofs.Rows.{IsOrder, Plan}
use Rattle.coherence_frame.proofs.Sends.{AllTo}
use Rattle.coherence_frame.specs.Words.{IsCacheState, Elsewhere}
use Rattle.tw_base.specs.Lists.{how_many, sum_below}
use Rattle.block_spots.specs.Notes.{Note, kept_notes}
use Rattle.block_spots.specs.Sketches.{Layout, Sketch, home_at, spot_at}
use Rattle.coherence_frame.specs.Weights.{weigh, price, rest_weight, at_spot}
use Rattle.coherence_frame.proofs.Loads.{load, total, sum_below_le}
use Rattle.coherence_frame.proofs.Stales.{stale_in, kept_from, stale_counted}

-- ---- the counts

abbrev pub weight_of : (Note → ℕ) → Layout → Sketch → ℕ → ℕ
weight_of f s g b = sum_below s.nodes (λ i. at_spot f (spot_at g b (s.home b) i))

-- handler events to come
abbrev pub left_of : Layout → Sketch → ℕ → ℕ
left_of s g b = weight_of (weigh s.nodes) s g b + rest_weight s.nodes (home_at g b (s.home b)).rest - stale_in b
    (g.locals (s.home b)).deferred

-- sends to come
abbrev pub unsent_of : Layout → Sketch → ℕ → ℕ
unsent_of s g b = weight_of (price s.nodes) s g b + rest_weight 1 (home_at g b (s.home b)).rest

abbrev pub left : Layout → Sketch → ℕ
left s g = sum_below s.blocks (left_of s g)

abbrev pub unsent : Layout → Sketch → ℕ
unsent s g = sum_below s.blocks (unsent_of s g)

pub as_total : (f : Note → ℕ) (s : Layout) (g : Sketch) (b : ℕ) →
    weight_of f s g b ≡ total f b (s.home b) s.nodes g.wires (g.locals (s.home b)).deferred
unfolding spot_at
as_total f s g b = refl

-- ---- the stale ones weigh no more than all

weigh_some : (n : ℕ) (x : Note) → 1 ≤ n → 1 ≤ weigh n x
weigh_some n x l = grind arith

weighs : (n : ℕ) (xs : List Note) → 1 ≤ n → length xs ≤ how_many (weigh n) xs
weighs n [] l = omega arith
weighs n (x ∷ xs) l = omega (arith, weigh_some n x l, weighs n xs l)

pub stale_within : (s : Layout) (g : Sketch) (b : ℕ) → 1 ≤ s.nodes → Elsewhere s g b →
    stale_in b (g.locals (s.home b)).deferred ≤ weight_of (weigh s.nodes) s g b
stale_within s g b l e = omega (
  arith,
  as_total (weigh s.nodes) s g b,
  stale_counted b s.nodes (g.locals (s.home b)).deferred (λ j k. ap length (e.strangers j k)),
  sum_below_le s.nodes (kept_from b (g.locals (s.home b)).deferred)
      (load (weigh s.nodes) b (s.home b) g.wires (g.locals (s.home b)).deferred)
      (λ j k. omega (arith, weighs s.nodes (kept_notes b j (g.locals (s.home b)).deferred) l)),
)

module _ (plan : Plan) where
  pub cache_sends_home : (n h i : ℕ) (here : Here) (m : Message) (e : Effect) → IsCacheState here.state →
      (m.kind ≢ RdFault → m.kind ≢ WrFault → m.from ≡ h) → plan.table n h i here m ≡ Some e → AllTo h e.sends
  cache_sends_home n h i here m e c f d = (plan.sends.cache_sends n h i here m e c d order).to
    where
      order : IsOrder m.kind → m.from ≡ h
      order o = f (λ q. (let z : IsOrder RdFault = rw q at o in z)) (λ q. (let z : IsOrder WrFault = rw q at o in z))
