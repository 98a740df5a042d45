-- All that waits at a node is handed out, one after another.
use Rattle.std.proofs.Common.{◌≡◌, ◌∙◌, ℕ, ◌+◌, ◌<◌, ◌≤◌, [], Option, Some, length, ap, sym, subst, arith, inl, inr}
use Rattle.std.specs.Prelude.{slice_get}
use Rattle.std.specs.Option.{SomeIff}
use Rattle.std.proofs.lemmas.Bool.{cases_eq}
use Rattle.std.proofs.lemmas.Option.{slice_get_within}
use Rattle.tw_base.specs.declared.message.Chan.{Chan}
use Rattle.tw_base.specs.declared.message.Chan.TheVariants.{Zero, One}
use Rattle.dsm_runs.specs.Setups.{Setup}
use Rattle.node_meaning.specs.Nodes.{Shown}
use Rattle.still_meaning.specs.Stills.{IsSpread, AreWhole, Passes, StillShown}
use Rattle.still_nodes.specs.Handing.{AreFilled, IsFilled, LeavesOthers, Refills, RefillsAll, RefillsTo, waiting_of, waits_at}
use Rattle.still_nodes.proofs.Handed.{passes_more, passes_none}

pub others_more : (a b c : StillShown) (k : ℕ) → LeavesOthers a b k → LeavesOthers b c k → LeavesOthers a c k
others_more a b c k p q =
    record { waits = λ i d. q.waits i d ∙ p.waits i d; filled = λ f t ch h. q.filled f t ch (p.filled f t ch h) }

-- ---- all nodes, one after another

-- nothing waits at the first k nodes, and all wires are filled
pub record SpreadBelow (a b : StillShown) (k : ℕ) : Type 0 where
  pub passes : Passes a b
  pub filled : AreFilled b
  pub out : (i : ℕ) → i < k → waits_at b i ≡ []

pub spread_start : (a : StillShown) → AreFilled a → SpreadBelow a a 0
spread_start a filled = record { passes = passes_none a; filled = filled; out = λ i l. absurd (omega arith) }

filled_on : (a b : StillShown) → Passes a b → ((f t : ℕ) (c : Chan) → IsFilled a f t c → IsFilled b f t c) → AreFilled a →
    AreFilled b
filled_on a b p on h f t c lf = on f t c (h f t c (subst (λ (x : Setup). f < x.shape.nodes) p.same_setup lf))

pub spread_turn : (a b c : StillShown) (k : ℕ) → SpreadBelow a b k → Passes b c → LeavesOthers b c k → waits_at c k ≡ [] →
    SpreadBelow a c (k + 1)
spread_turn a b c k s p o none = record {
  passes = passes_more a b c s.passes p;
  filled = filled_on b c p o.filled s.filled;
  out = λ i l. elim (cases_eq i k) as (λ _. waits_at c i ≡ []) [
    | inl q ↦ ap (λ j. waits_at c j) q ∙ none
    | inr d ↦ (let less : i < k = omega (arith, l, d) in o.waits i d ∙ s.out i less)
  ];
}

-- there are no more nodes than before
no_more : (a b : StillShown) (k i : ℕ) (n : Shown) → AreWhole a → Passes a b → a.setup.shape.nodes ≤ k →
    slice_get b.nodes i ≡ Some n → i < k
no_more a b k i n w p most there =
    let within : i < length b.nodes = slice_get_within b.nodes i n there in
    let same = p.count in
    let count = w.still.count in
    omega (arith, within, same, count, most)

pub spread_end : (a b : StillShown) (k : ℕ) → AreWhole a → a.setup.shape.nodes ≤ k → SpreadBelow a b k → IsSpread b
spread_end a b k w most s = record {
  out = λ i n there. sym (ap (λ (x : Option Shown). waiting_of x) there) ∙ s.out i (no_more a b k i n w s.passes most there);
  fronts = λ f t c n there lf free. s.filled f t c lf n there free;
}

-- ---- all wires, one after another

-- the wires to node t from the first k nodes are filled
pub record FilledFrom (a b : StillShown) (t k : ℕ) : Type 0 where
  pub passes : Passes a b
  pub here : (f : ℕ) (c : Chan) → f < k → IsFilled b f t c
  pub filled : (g u : ℕ) (d : Chan) → IsFilled a g u d → IsFilled b g u d

both_chans : (b : StillShown) (f t : ℕ) → IsFilled b f t Zero → IsFilled b f t One → (c : Chan) → IsFilled b f t c
both_chans b f t zero one Zero = zero
both_chans b f t zero one One = one

pub from_turn : (a b c d : StillShown) (t k : ℕ) → FilledFrom a b t k → Refills b c k t Zero → Refills c d k t One →
    FilledFrom a d t (k + 1)
from_turn a b c d t k s p q = record {
  passes = passes_more a c d (passes_more a b c s.passes p.passes) q.passes;
  here = λ f ch l. elim (cases_eq f k) as (λ _. IsFilled d f t ch) [
    | inl e ↦ subst (λ j. IsFilled d j t ch) (sym e) (both_chans d k t (q.filled k t Zero p.here) q.here ch)
    | inr n ↦ (let less : f < k = omega (arith, l, n) in q.filled f t ch (p.filled f t ch (s.here f ch less)))
  ];
  filled = λ g u e h. q.filled g u e (p.filled g u e (s.filled g u e h));
}

-- the wires to the first k nodes are filled
pub record FilledTo (a b : StillShown) (k : ℕ) : Type 0 where
  pub passes : Passes a b
  pub here : (t f : ℕ) (c : Chan) → t < k → f < a.setup.shape.nodes → IsFilled b f t c

pub to_turn : (a b c : StillShown) (k : ℕ) → FilledTo a b k → RefillsTo b c k → FilledTo a c (k + 1)
to_turn a b c k s r = record {
  passes = passes_more a b c s.passes r.passes;
  here = λ t f ch l lf. elim (cases_eq t k) as (λ _. IsFilled c f t ch) [
    | inl e ↦ subst (λ j. IsFilled c f j ch) (sym e)
        (r.here f ch (subst (λ (x : Setup). f < x.shape.nodes) (sym s.passes.same_setup) lf))
    | inr n ↦ (let less : t < k = omega (arith, l, n) in r.filled f t ch (s.here t f ch less lf))
  ];
}

pub to_all : (a b : StillShown) (k : ℕ) → AreWhole a → a.setup.shape.nodes ≤ k → FilledTo a b k → RefillsAll a b
to_all a b k w most s = record {
  passes = s.passes;
  filled =
      λ f t c lf n there free. s.here t f c (no_more a b k t n w s.passes most there)
      (subst (λ (x : Setup). f < x.shape.nodes) s.passes.same_setup lf) n there free;
}

-- ---- the number of a turn

pub made_is : (o : Option ℕ) (P : Type 0) (n r : ℕ) → SomeIff o P n → o ≡ Some r → r ≡ n
made_is o P n r is some = let Is : Option ℕ → Type 0 = λ x. SomeIff x P n in (subst Is some is).1
