-- Exact answers: what is due is a function of what came in, and want of memory is the one answer beside it.
use Rattle.std.specs.Prelude.{◌≡◌, Bool, true, false, Option, Result, Ok, Err}
use Rattle.std.specs.Option.{option_and_then}

infixl 10 ◌>>=◌
-- the value, handed on; an error stays
abbrev pub ◌>>=◌ : {A B E : Type 0} → Result A E → (A → Result B E) → Result B E
(Ok x) >>= f = f x
(Err e) >>= f = Err e

infixl 10 ◌>>?◌
-- the same where there may be no value
abbrev pub ◌>>?◌ : {A B : Type 0} → Option A → (A → Option B) → Option B
o >>? f = option_and_then f o

-- where an error is want of memory, nothing else is said; any other is the one that is due
abbrev pub FailsIf : {Y E : Type 0} → Bool → E → Result Y E → Type 0
FailsIf true e due = Unit {0}
FailsIf false e due = due ≡ Err e

abbrev pub Fails : {Y E : Type 0} → (E → Bool) → E → Result Y E → Type 0
Fails is_memory e due = FailsIf (is_memory e) e due

-- the answer, seen by view, is the one that is due, unless memory ran out
abbrev pub Gives : {X Y E : Type 0} → (E → Bool) → (X → Y) → Result X E → Result Y E → Type 0
Gives is_memory view (Ok x) due = due ≡ Ok (view x)
Gives is_memory view (Err e) due = Fails is_memory e due
