-- What each row of the table costs.
use Rattle.std.proofs.Common.{◌≡◌, ◌≢◌, ℕ, ◌+◌, ◌<◌, ◌≤◌, Bool, true, false, Some, arith, refl, inl, inr, ◌⊎◌}
use Rattle.std.proofs.lemmas.Bool.{cases_lt}
use Rattle.std.proofs.lemmas.Bool.Decides.{nat_tests}
use Rattle.block_spots.specs.Cases.{Kind, RdFault, WrFault, GetRo, GetRw, Put, PutRo, Ack, State, HomeRw, HomeRo, HomeExcl}
use Rattle.block_spots.specs.Cases.{HomeAcks, HomePut, Rest, OfHome, OfLoad, OfRo, OfRw, Here, Message, Effect, members}
use Rattle.block_spots.specs.Cases.{without_node}
use Rattle.block_spots.specs.Notes.{Spot}
use Rattle.stache_d_table.specs.Handling.{handle_by}
use Rattle.stache_d_inv.specs.Coherent.{AtHome}
use Rattle.stache_d_inv.specs.Potential.{weigh, price}
use Rattle.coherence_frame.proofs.Paying.{Paid, inv_count, inv_price, inv_weight, members_but}

module _ (n h : ℕ) (home : Here) (s : Spot) (m : Message) (e : Effect) (v : ℕ) (hn : h < n) (a : AtHome n h home s)
    (does : handle_by home.state n h h home m ≡ Some e) (bound : v + 1 ≤ n) where
  sharers_but : home.state ≡ HomeRo → members n home.sharers + 1 ≤ n
  sharers_but p = members_but n h home.sharers hn (go (home.sharers h) refl)
    where
      go : (t : Bool) → home.sharers h ≡ t → home.sharers h ≡ false
      go true q = absurd (let f : (k : ℕ) → home.sharers k ≡ true → (k < n) × (k ≢ h) = grind arith in (f h q).1 refl)
      go false q = q

  others_but : home.state ≡ HomeRo → members n (without_node home.sharers m.from) + 1 ≤ n
  others_but p = members_but n h (without_node home.sharers m.from) hn (go (home.sharers h) refl)
    where
      go : (t : Bool) → home.sharers h ≡ t → without_node home.sharers m.from h ≡ false
      go true q = absurd (let f : (k : ℕ) → home.sharers k ≡ true → (k < n) × (k ≢ h) = grind arith in (f h q).1 refl)
      go false q = grind (arith, nat_tests)

  two_nodes : home.state ≡ HomeExcl → 2 ≤ n
  two_nodes p = let f : (home.owner < n) × (home.owner ≢ h) = grind arith in omega (arith, f.0, f.1)

  paid_rw : home.state ≡ HomeRw → Paid n home m e v
  paid_rw p = go m.kind refl
    where
      go : (k : Kind) → m.kind ≡ k → Paid n home m e v
      go GetRo q = record { handlers = grind arith; sends = grind arith }
      go GetRw q = record { handlers = grind arith; sends = grind arith }
      go k q = absurd (grind arith)

  paid_ro : home.state ≡ HomeRo → Paid n home m e v
  paid_ro p = go m.kind refl
    where
      go : (k : Kind) → m.kind ≡ k → Paid n home m e v
      go RdFault q = record { handlers = grind arith; sends = grind arith }
      go WrFault q = record {
        handlers = grind (arith, sharers_but p, inv_weight (weigh n) refl n home.sharers m.block h);
        sends = grind (
          arith,
          sharers_but p,
          inv_count n home.sharers m.block h,
          inv_price (price n) refl n home.sharers m.block h,
        );
      }
      go GetRo q = record { handlers = grind arith; sends = grind arith }
      go GetRw q =
          record {
            handlers = grind (
              arith,
              others_but p,
              inv_weight (weigh n) refl n
                  (without_node home.sharers m.from) m.block h,
            );
            sends = grind (
              arith,
              others_but p,
              inv_count n (without_node home.sharers m.from) m.block h,
              inv_price (price n) refl n (without_node home.sharers m.from) m.block h,
            );
          }
      go k q = absurd (grind arith)

  paid_excl : home.state ≡ HomeExcl → Paid n home m e v
  paid_excl p = go m.kind refl
    where
      go : (k : Kind) → m.kind ≡ k → Paid n home m e v
      go RdFault q = record { handlers = grind (arith, two_nodes p); sends = grind (arith, two_nodes p) }
      go WrFault q = record { handlers = grind (arith, two_nodes p); sends = grind (arith, two_nodes p) }
      go GetRo q = record { handlers = grind (arith, two_nodes p); sends = grind (arith, two_nodes p) }
      go GetRw q = record { handlers = grind (arith, two_nodes p); sends = grind (arith, two_nodes p) }
      go k q = absurd (grind arith)

  paid_acks : home.state ≡ HomeAcks → Paid n home m e v
  paid_acks p = go (cases_lt 1 home.acks) home.rest refl m.kind refl
    where
      go : (1 < home.acks) ⊎ (home.acks ≤ 1) → (r : Rest) → home.rest ≡ r → (k : Kind) → m.kind ≡ k → Paid n home m e v
      go (inl l) r w Ack q = record { handlers = grind (arith, nat_tests); sends = grind (arith, nat_tests) }
      go (inr l) OfHome w Ack q = record { handlers = grind (arith, nat_tests); sends = grind (arith, nat_tests) }
      go (inr l) (OfRw x) w Ack q = record { handlers = grind (arith, nat_tests); sends = grind (arith, nat_tests) }
      go (inr l) r w Ack q = absurd (grind (arith, nat_tests))
      go l r w k q = record { handlers = grind arith; sends = grind arith }

  paid_put : home.state ≡ HomePut → Paid n home m e v
  paid_put p = go home.rest refl m.kind refl
    where
      go : (r : Rest) → home.rest ≡ r → (k : Kind) → m.kind ≡ k → Paid n home m e v
      go OfHome w Put q = record { handlers = grind arith; sends = grind arith }
      go OfLoad w Put q = record { handlers = grind arith; sends = grind arith }
      go (OfRo x) w Put q = record { handlers = grind arith; sends = grind arith }
      go (OfRw x) w Put q = record { handlers = grind arith; sends = grind arith }
      go r w Put q = absurd (grind arith)
      go OfHome w PutRo q = record { handlers = grind arith; sends = grind arith }
      go OfLoad w PutRo q = record { handlers = grind arith; sends = grind arith }
      go (OfRo x) w PutRo q = record { handlers = grind arith; sends = grind arith }
      go (OfRw x) w PutRo q = record { handlers = grind arith; sends = grind arith }
      go r w PutRo q = absurd (grind arith)
      go r w k q = record { handlers = grind arith; sends = grind arith }

  pub paid_at_home : Paid n home m e v
  paid_at_home = go home.state refl
    where
      go : (x : State) → home.state ≡ x → Paid n home m e v
      go HomeRw p = paid_rw p
      go HomeRo p = paid_ro p
      go HomeExcl p = paid_excl p
      go HomeAcks p = paid_acks p
      go HomePut p = paid_put p
      go x p = absurd (let i = a.infos in grind arith)
