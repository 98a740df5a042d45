use Rattle.std.proofs.Common.{◌≡◌, ◌<◌, ℕ, zero, suc, List, [], ◌∷◌, length, take, refl, arith}
use Rattle.std.specs.Prelude.{slice_get}
use Rattle.std.proofs.Math.Seq.{take-set-lt}
use Rattle.tw_base.specs.declared.value.Value.{Value}
use Rattle.handler_vm.proofs.running.Running.work.Goals as goal

slice_get-take : (n k : ℕ) (xs : List Value) → k < n → slice_get (take n xs) k ≡ slice_get xs k
slice_get-take zero k xs low = absurd (omega (arith, low))
slice_get-take (suc n) k [] low = refl
slice_get-take (suc n) zero (x ∷ xs) low = refl
slice_get-take (suc n) (suc k) (x ∷ xs) low = slice_get-take n k xs (omega (arith, low))

pub returns-in-GetInfo-clause-does : goal.returns-in-GetInfo-clause-does
returns-in-GetInfo-clause-does c = λ code sent chain.
    let low : c.in-GetInfo.k < length c.args.p.now.infos = (rw c.in-GetInfo.is at c.requires.there.1) in
    rw (c.in-GetInfo.is, c.get_info.ensures, c.count.ensures, slice_get-take) refl

pub returns-in-PutInfo-clause-does : goal.returns-in-PutInfo-clause-does
returns-in-PutInfo-clause-does c = λ code sent chain.
    let low : c.in-PutInfo.k < length c.args.p.now.infos = (rw c.in-PutInfo.is at c.requires.there.1) in
    rw (c.in-PutInfo.is, c.put_info.ensures, c.count.ensures, take-set-lt) refl
