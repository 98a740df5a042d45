-- Messages are handed over, in one step after another.
use Rattle.std.proofs.Common.{◌≡◌, ◌∙◌, ℕ, ◌<◌, length, refl, ap, sym, subst}
use Rattle.tw_base.specs.Lists.{Each}
use Rattle.dsm_runs.specs.Setups.{IsSetup, Setup}
use Rattle.still_meaning.proofs.Passing.{passes_still}
use Rattle.still_meaning.specs.Stills.{AreWhole, Passes, StillShown}

pub passes_none : (a : StillShown) → Passes a a
passes_none a = record {
  same_setup = refl;
  same_code = refl;
  taken = refl;
  count = refl;
  nodes = λ i n there. record { old = n; there = there; setup = refl; code = refl; me = refl; tally = refl; stands = λ x s. s };
  flight = λ f t c lf lt. refl;
}

pub passes_more : (a b c : StillShown) → Passes a b → Passes b c → Passes a c
passes_more a b c p q =
    let on : (k : ℕ) → k < a.setup.shape.nodes → k < b.setup.shape.nodes =
    λ k l. subst (λ (s : Setup). k < s.shape.nodes) (sym p.same_setup) l in
    record {
      same_setup = q.same_setup ∙ p.same_setup;
      same_code = q.same_code ∙ p.same_code;
      taken = q.taken ∙ p.taken;
      count = q.count ∙ p.count;
      nodes = λ i n there.
          let y = q.nodes i n there in
          let x = p.nodes i y.old y.there in
          record {
            old = x.old;
            there = x.there;
            setup = y.setup ∙ x.setup;
            code = y.code ∙ x.code;
            me = y.me ∙ x.me;
            tally = y.tally ∙ x.tally;
            stands = λ k s. y.stands k (x.stands k s);
          };
      flight = λ f t d lf lt. q.flight f t d (on f lf) (on t lt) ∙ p.flight f t d lf lt;
    }

-- what holds of all by themselves holds after
pub whole_after : (a b : StillShown) → AreWhole a → Passes a b → length b.rows ≡ length a.rows →
    Each (λ row. length row ≡ 16) b.rows → AreWhole b
whole_after a b w p count places = record {
  setup = subst (λ (s : Setup). IsSetup s) (sym p.same_setup) w.setup;
  rows = count ∙ w.rows ∙ ap (λ (s : Setup). s.shape.nodes) (sym p.same_setup);
  places = places;
  state = w.state;
  still = passes_still a b w.state p w.still;
}
