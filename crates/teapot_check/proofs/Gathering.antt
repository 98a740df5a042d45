-- The handlers of a protocol, one after the other.
use Rattle.std.proofs.Common.{◌≡◌, ℕ, ◌+◌, ◌<◌, List, [], ◌∷◌, ◌++◌, take, length, get_or, Option, ap, sym, ◌∙◌}
use Rattle.std.specs.List.{flat_map}
use Rattle.std.proofs.lemmas.List.{append-nil, take_more}
use Rattle.std.proofs.lemmas.Grind.{flat_map-append}
use Rattle.teapot_tree.specs.declared.protocol.Protocol.{Protocol}
use Rattle.teapot_tree.specs.declared.rule.Rule.{Rule}
use Rattle.teapot_rules.specs.Faults.{handler_lines, in_handlers}
use Rattle.teapot_rules.specs.Lists.{least}
use Rattle.teapot_check.specs.declared.sight.Sight.{Sight}
use Rattle.teapot_check.specs.Handlers.{BreakAlike, lines_in}

-- the lists of one item more
pub lists_more : {X Y : Type 0} (f : X → List Y) (xs : List X) (i : ℕ) (x : X) → i < length xs → x ≡ get_or xs i x
    → flat_map f (take i xs) ++ f x ≡ flat_map f (take (i + 1) xs)
lists_more f xs i x lt is =
    ap (λ z. flat_map f (take i xs) ++ z) (sym (append-nil (f x)))
    ∙ sym (flat_map-append f (take i xs) (x ∷ []))
    ∙ ap (flat_map f) (ap (λ z. take i xs ++ z ∷ []) is ∙ sym (take_more xs i x lt))

-- the lines that were found of a rule, which is known by another name
pub inner_lines : (p : Protocol) (xs : List Sight) (rule r : Rule) (found : Option ℕ) → BreakAlike p xs
    → found ≡ least (lines_in rule xs) → rule ≡ r → found ≡ least (in_handlers (handler_lines r) p)
inner_lines p xs rule r found alike f is = f ∙ ap least (alike rule) ∙ ap (λ z. least (in_handlers (handler_lines z) p)) is
