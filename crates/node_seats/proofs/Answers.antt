-- What answers say, by their cases.
use Rattle.std.proofs.Common.{◌≡◌, Bool, true, false, List, [], ◌∷◌, ◌++◌, Option, None, Some, Result, Ok, Err, refl, ap, ◌∙◌}
use Rattle.std.proofs.Common.{sym}
use Rattle.std.specs.Prelude.{IfErr, OnOk, is_some, option_to_list, slice_get}
use Rattle.std.specs.Result.{is_err}
use Rattle.tw_base.specs.declared.message.Message.{Message}

pub no_first : (ms : List Message) → None ≡ slice_get ms 0 → ms ≡ []
no_first [] h = refl
no_first (m ∷ ms) h = absurd cc

-- the message that waited longest was handed out
pub handed : (old new : List Message) (o : Option Message) (m : Message) → old ≡ option_to_list o ++ new
    → o ≡ slice_get old 0 → Some m ≡ slice_get old 0 → old ≡ m ∷ new
handed old new o m popped first front = popped ∙ ap (λ (x : Option Message). option_to_list x ++ new) (first ∙ sym front)

pub when_err : {T E : Type 0} (r : Result T E) (P : E → Type 0) → is_err r ≡ true → IfErr r P → (e : E) × P e
when_err (Ok x) P is h = absurd cc
when_err (Err e) P is h = (e, h)

pub when_ok : {T E : Type 0} (r : Result T E) (P : Type 0) → is_err r ≡ false → OnOk r P → P
when_ok (Ok x) P is h = h
when_ok (Err e) P is h = absurd cc

pub when_none : (o : Option Message) (b : Bool) → b ≡ is_some o → b ≡ false → o ≡ None
when_none None b is h = refl
when_none (Some m) b is h = let bad : true ≡ false = sym is ∙ h in absurd cc
