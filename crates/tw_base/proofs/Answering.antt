-- How an exact answer is handed on.
use Rattle.std.proofs.Common.{◌≡◌, Bool, true, false, Result, Err}
use Rattle.tw_base.specs.Answers.{Fails, FailsIf}

pub FailsIf-along : {Y Z E : Type 0} (b : Bool) (e : E) (due : Result Y E) (total : Result Z E) →
    (due ≡ Err e → total ≡ Err e) → FailsIf b e due → FailsIf b e total
FailsIf-along true e due total f h = tt
FailsIf-along false e due total f h = f h

-- what fails for a part fails for the whole, where the part's error is the whole's
pub Fails-along : {Y Z E : Type 0} (is_memory : E → Bool) (e : E) (due : Result Y E) (total : Result Z E) →
    (due ≡ Err e → total ≡ Err e) → Fails is_memory e due → Fails is_memory e total
Fails-along is_memory e due total f h = FailsIf-along (is_memory e) e due total f h

-- the error itself
pub FailsIf-is : {Y E : Type 0} (b : Bool) (e : E) (due : Result Y E) → due ≡ Err e → FailsIf b e due
FailsIf-is true e due h = tt
FailsIf-is false e due h = h

pub Fails-is : {Y E : Type 0} (is_memory : E → Bool) (e : E) (due : Result Y E) → due ≡ Err e → Fails is_memory e due
Fails-is is_memory e due h = FailsIf-is (is_memory e) e due h
