-- What is resumed from a state that fits costs no more than its handlers.
use Rattle.std.proofs.Common.{◌≡◌, ℕ, zero, suc, ◌+◌, ◌*◌, ◌≤◌, List, Option, Some, None, refl, arith}
use Rattle.std.specs.Prelude.{unwrap_or, Contains}
use Rattle.tw_base.specs.declared.value.Value.{Value}
use Rattle.teapot_tree.specs.declared.protocol.Handler.{Handler}
use Rattle.teapot_tree.specs.declared.protocol.Protocol.{Protocol}
use Rattle.teapot_tree.specs.declared.protocol.State.{State}
use Rattle.teapot_tree.specs.Bodies.{body_of}
use Rattle.teapot_meaning.specs.Fits.{ContFits, IsLeftBy, StateFits, fits_below}
use Rattle.teapot_meaning.specs.declared.state.Cont.{Cont, out-Cont, fold-Cont, fold_out-Cont}
use Rattle.teapot_meaning.specs.declared.state.Cont.TheOpen.{StateVal-F}
use Rattle.teapot_meaning.specs.declared.state.StateVal.{StateVal, out-StateVal, roll-StateVal, fold_out-StateVal}
use Rattle.teapot_meaning.specs.declared.state.StateVal.{fold-roll-StateVal, map-StateVal}
use Rattle.teapot_sends.specs.Prices.{Price, in_text, ahead_of, owed}
use Rattle.teapot_sends.proofs.Bodies.{ahead-le-peak, peak-le}
use Rattle.teapot_sends.proofs.Rests.{rest-le}

module _ (c : Price) where
  abbrev pub cont_owed : Option Cont → ℕ
  cont_owed (Some k) = ahead_of c (out-Cont k).rest + owed c (out-Cont k).saved
  cont_owed None = 0

  owed_by : (n : ℕ) (args : List Value) (o : Option Cont) → unwrap_or
      (map-StateVal Cont StateVal ℕ ℕ (fold-Cont ℕ ℕ (λ k. ahead_of c k.rest + k.saved) (λ s. unwrap_or s.cont 0)) (owed c)
      (record { state = n; args = args; cont = o })).cont 0 ≡ cont_owed o
  owed_by n args (Some k) = fold_out-Cont ℕ ℕ (λ k. ahead_of c k.rest + k.saved) (λ s. unwrap_or s.cont 0) k
  owed_by n args None = refl

  pub owed-is : (s : StateVal) → owed c s ≡ cont_owed (out-StateVal s).cont
  owed-is s = rw fold_out-StateVal (owed_by (out-StateVal s).state (out-StateVal s).args (out-StateVal s).cont)

  pub owed-roll : (d : StateVal-F Cont StateVal) → owed c (roll-StateVal d) ≡ cont_owed d.cont
  owed-roll d = rw fold-roll-StateVal (owed_by d.state d.args d.cont)

  -- each handler of a protocol costs no more than this
  abbrev pub HandlersCost : Protocol → ℕ → Type 0
  HandlersCost p most = (t : State) (h : Handler) → Contains p.states t → Contains t.handlers h →
      in_text c (body_of h.body) ≤ most

  -- what a handler leaves costs no more than the handler
  left-le : (p : Protocol) (most words : ℕ) (t : State) (h : Handler) (k : Cont) → HandlersCost p most → Contains p.states t →
      IsLeftBy p words t h k → ahead_of c (out-Cont k).rest ≤ most
  left-le p most words t h k cost i b =
      let one = ahead-le-peak c (body_of (out-Cont k).rest) in
      let two = rest-le c b.rest in
      let three = peak-le c (body_of h.body) in
      let four = cost t h i b.handler in
      omega arith

  turn_more : (n most : ℕ) → suc n * most ≡ most + n * most
  turn_more n most = grind arith

  by_cont : (p : Protocol) (most words n : ℕ) (t : State) (o : Option Cont) → HandlersCost p most →
      ((s : StateVal) → fits_below n p words s → owed c s + most ≤ n * most) → ContFits (fits_below n p words) p words t o →
      cont_owed o ≤ n * most
  by_cont p most words n t (Some k) cost below f =
      let saved = below (out-Cont k).saved f.1 in
      let rest = left-le p most words f.2 f.3 k cost f.4 f.5 in
      omega arith
  by_cont p most words n t None cost below f = omega arith

  -- one handler for each suspension
  pub owed-le : (p : Protocol) (most words n : ℕ) (s : StateVal) → HandlersCost p most → fits_below n p words s →
      owed c s + most ≤ n * most
  unfolding fits_below
  owed-le p most words zero s cost f = absurd f
  owed-le p most words (suc n) s cost f =
      let fit : StateFits p words (fits_below n p words) s = f in
      let one = owed-is s in
      let two = by_cont p most words n fit.state (out-StateVal s).cont cost (λ x g. owed-le p most words n x cost g) fit.cont in
      let three = turn_more n most in
      omega arith
