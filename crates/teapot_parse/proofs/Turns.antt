-- The turns of the pass.
use Rattle.std.proofs.Common.{◌≡◌, ℕ, ◌+◌, ◌<◌, ◌≤◌, Bool, List, [], ◌∷◌, length, get_or, drop, Option, Some, None, refl, ap}
use Rattle.std.proofs.Common.{sym, ◌∙◌}
use Rattle.std.specs.Prelude.{if◌then◌else◌}
use Rattle.std.specs.Option.{option_map}
use Rattle.std.proofs.lemmas.List.{drop_all}
use Rattle.teapot_parse.proofs.Steps.{item-first}
use Rattle.teapot_parse.specs.declared.judge.Kind.{Kind}
use Rattle.teapot_parse.specs.declared.judge.Block.{Block}
use Rattle.teapot_parse.specs.declared.judge.Place.{Place}
use Rattle.teapot_parse.specs.declared.judge.Judged.{Judged}
use Rattle.teapot_parse.specs.declared.judge.Judged.TheVariants.{Nested, Bad, Missing}
use Rattle.teapot_parse.specs.declared.placed.Placed.{Placed}
use Rattle.teapot_parse.specs.Nesting.{kind_of, kinds, next_of, judged_from, is_end}

pub turn-on : (ps : List Placed) (at : ℕ) (x : Placed) (bs to : List Block) (place after : Place) (o : Option Place)
    (all : Judged) (kind : Kind) → at < length ps → x ≡ get_or ps at x → kind ≡ kind_of x.form →
    option_map (λ p. (to, p)) o ≡ next_of bs place kind
    → o ≡ Some after → judged_from bs place at (kinds (drop at ps)) ≡ all →
    judged_from to after (at + 1) (kinds (drop (at + 1) ps)) ≡ all
unfolding judged_from
turn-on ps at x bs to place after o all kind lt item seen led is so_far =
    let here : next_of bs place (kind_of x.form) ≡ Some (to, after) = ap (next_of bs place) (sym seen) ∙ sym led
    ∙ ap (option_map (λ p. (to, p))) is in
    let one : judged_from bs place at (kinds (x ∷ drop (at + 1) ps))
    ≡ judged_from to after (at + 1) (kinds (drop (at + 1) ps)) = rw here refl in
    sym one ∙ ap (λ qs. judged_from bs place at (kinds qs)) (sym (item-first ps at x lt item)) ∙ so_far

pub turn-bad : (ps : List Placed) (at : ℕ) (x : Placed) (bs to : List Block) (place : Place) (o : Option Place) (all : Judged)
    (kind : Kind) → at < length ps → x ≡ get_or ps at x → kind ≡ kind_of x.form →
    option_map (λ p. (to, p)) o ≡ next_of bs place kind
    → o ≡ None → judged_from bs place at (kinds (drop at ps)) ≡ all → Bad at ≡ all
unfolding judged_from
turn-bad ps at x bs to place o all kind lt item seen led is so_far =
    let here : next_of bs place (kind_of x.form) ≡ None = ap (next_of bs place) (sym seen) ∙ sym led
    ∙ ap (option_map (λ p. (to, p))) is in
    let one : judged_from bs place at (kinds (x ∷ drop (at + 1) ps)) ≡ Bad at = rw here refl in
    sym one ∙ ap (λ qs. judged_from bs place at (kinds qs)) (sym (item-first ps at x lt item)) ∙ so_far

pub turn-end : (ps : List Placed) (at : ℕ) (bs : List Block) (place : Place) (b : Bool) (all : Judged) → length ps ≤ at →
    is_end place ≡ b → judged_from bs place at (kinds (drop at ps)) ≡ all → (if b then Nested else Missing) ≡ all
unfolding judged_from
turn-end ps at bs place b all le is so_far =
    let one : judged_from bs place at [] ≡ (if b then Nested else Missing) = rw is refl in
    sym one ∙ ap (λ qs. judged_from bs place at (kinds qs)) (sym (drop_all at ps le)) ∙ so_far
