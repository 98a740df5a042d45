-- Events after messages were handed over, and messages that are handed over after events.
use Rattle.std.proofs.Common.{◌∙◌, ℕ, List, [], ◌++◌, ap, sym, subst, append-nil}
use Rattle.tw_base.specs.declared.entry.Entry.{Entry}
use Rattle.dsm_runs.specs.Beside.{RunsBeside}
use Rattle.dsm_runs.specs.Worlds.{Runs, World}
use Rattle.node_meaning.specs.Tallies.{Counts, Tally}
use Rattle.still_meaning.proofs.Going.{beside_of}
use Rattle.still_meaning.specs.Stills.{GoesThrough, StillShown, tallies}

-- nothing was made before these events
pub after_none : (a b c : StillShown) (es : List Entry) (Ran : World → List Entry → World → Type 0) →
    GoesThrough a b [] (Runs a.setup) → GoesThrough b c es Ran → GoesThrough a c es Ran
after_none a b c es Ran x y = record {
  same_setup = y.same_setup ∙ x.same_setup;
  same_code = y.same_code ∙ x.same_code;
  taken = y.taken ∙ ap (λ (l : List Entry). l ++ es) (x.taken ∙ append-nil a.taken);
  ran = λ g s.
      let p = x.ran g s in
      let q = y.ran p.0 p.2 in
      let beside = beside_of a b p.0 q.0 (tallies b) (tallies c) es x.same_setup x.same_code q.3 in
      let at : RunsBeside (Counts a.setup a.code) a.setup p.0 (tallies a) es q.0 (tallies c) =
      subst (λ (xs : ℕ → Tally). RunsBeside (Counts a.setup a.code) a.setup p.0 xs es q.0 (tallies c)) (sym p.3.1) beside in (
        q.0,
        subst (λ (w : World). Ran w es q.0) (sym p.1) q.1,
        q.2,
        subst (λ (w : World). RunsBeside (Counts a.setup a.code) a.setup w (tallies a) es q.0 (tallies c)) (sym p.1) at,
      );
}

-- nothing was made after these events
pub then_none : (a b c : StillShown) (es : List Entry) (Ran : World → List Entry → World → Type 0) →
    GoesThrough a b es Ran → GoesThrough b c [] (Runs b.setup) → GoesThrough a c es Ran
then_none a b c es Ran x y = record {
  same_setup = y.same_setup ∙ x.same_setup;
  same_code = y.same_code ∙ x.same_code;
  taken = y.taken ∙ append-nil b.taken ∙ x.taken;
  ran = λ g s.
      let p = x.ran g s in
      let q = y.ran p.0 p.2 in
      let at : RunsBeside (Counts a.setup a.code) a.setup g (tallies a) es p.0 (tallies c) =
      subst (λ (ys : ℕ → Tally). RunsBeside (Counts a.setup a.code) a.setup g (tallies a) es p.0 ys) q.3.1 p.3 in (
        q.0,
        subst (λ (w : World). Ran g es w) q.1 p.1,
        q.2,
        subst (λ (w : World). RunsBeside (Counts a.setup a.code) a.setup g (tallies a) es w (tallies c)) q.1 at,
      );
}
