-- Names that were seen, a name at a time.
use Rattle.std.proofs.Common.{◌≡◌, ℕ, ◌+◌, ◌<◌, Bool, true, false, cond, List, get_or, length, take, Option, Some, None}
use Rattle.std.proofs.Common.{is_some, refl, ap, sym, ◌∙◌}
use Rattle.std.specs.Prelude.{◌||◌}
use Rattle.std.specs.List.{list_any}
use Rattle.std.specs.Str.{bytes_eq}
use Rattle.std.proofs.lemmas.List.Folds.{list_any_more}
use Rattle.tw_base.specs.declared.name.Name.{Name}

stays : (b : Bool) (line : ℕ) (o : Option ℕ) → is_some (cond b (Some line) o) ≡ (is_some o || b)
stays true line None = refl
stays true line (Some n) = refl
stays false line None = refl
stays false line (Some n) = refl

-- a name is among those that were seen exactly where the table has it, with one name more
pub seen_more : (names : List (Name × ℕ)) (i : ℕ) (x : Name × ℕ) (q : Name) (before after : Option ℕ) → i < length names →
    x ≡ get_or names i x
    → is_some before ≡ list_any (λ (y : Name × ℕ). bytes_eq y.0 q) (take i names)
    → after ≡ cond (bytes_eq x.0 q) (Some x.1) before
    → is_some after ≡ list_any (λ (y : Name × ℕ). bytes_eq y.0 q) (take (i + 1) names)
seen_more names i x q before after lt is same put =
    ap is_some put
    ∙ stays (bytes_eq x.0 q) x.1 before
    ∙ ap (λ z. z || bytes_eq x.0 q) same
    ∙ ap (λ (z : Name × ℕ). list_any (λ (y : Name × ℕ). bytes_eq y.0 q) (take i names) || bytes_eq z.0 q) is
    ∙ sym (list_any_more (λ (y : Name × ℕ). bytes_eq y.0 q) names i x lt)
