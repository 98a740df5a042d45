-- The turns of the reader's loop.
use Rattle.std.proofs.Common.{◌≡◌, List, [], ◌∷◌, Option, Some, None, refl, ap, sym, ◌∙◌, map}
use Rattle.std.specs.Option.{option_map}
use Rattle.tw_lex.specs.declared.token.Token.{Token}
use Rattle.teapot_lines.specs.Seen.{Seen}
use Rattle.teapot_lines.specs.declared.cut.Cut.{Cut}
use Rattle.teapot_lines.specs.declared.reader.Open.{Open}
use Rattle.teapot_lines.specs.declared.reader.Next.{Next}
use Rattle.teapot_lines.specs.Reading.{read_from, whole, led_by, Found}

pub turn-whole : (held : List Open) (next : Next) (a : Cut) (ts : List Seen) → whole held next ≡ Some a →
    read_from held next ts ≡ Some (a, ts)
unfolding read_from
turn-whole held next a [] is = rw is refl
turn-whole held next a (t ∷ ts) is = rw is refl

pub turn-on : (held to : List Open) (next then : Next) (t : Seen) (ts : List Seen) → whole held next ≡ None →
    Some (to, then) ≡ led_by held next t → read_from held next (t ∷ ts) ≡ read_from to then ts
unfolding read_from
turn-on held to next then t ts open_still is = rw (open_still, ← is) refl

pub turn-bad : (held : List Open) (next : Next) (t : Seen) (ts : List Seen) → whole held next ≡ None →
    None ≡ led_by held next t → read_from held next (t ∷ ts) ≡ None
unfolding read_from
turn-bad held next t ts open_still is = rw (open_still, ← is) refl

pub turn-end : (held : List Open) (next : Next) → whole held next ≡ None → read_from held next [] ≡ None
unfolding read_from
turn-end held next open_still = rw open_still refl

pub loop-on : (f : Token → Seen) (rest after : List Token) (token : Token) (held to : List Open) (next now then : Next)
    (o : Option Next) (all : Found) → rest ≡ token ∷ after → now ≡ next
    → whole held next ≡ None → option_map (λ n. (to, n)) o ≡ led_by held now (f token) → o ≡ Some then →
    read_from held next (map f rest) ≡ all → read_from to then (map f after) ≡ all
loop-on f rest after token held to next now then o all parts same still led is so_far =
    let here : Some (to, then) ≡ led_by held next (f token) = ap (option_map (λ n. (to, n))) (sym is) ∙ led
    ∙ ap (λ n. led_by held n (f token)) same in
    sym (turn-on held to next then (f token) (map f after) still here) ∙ ap (λ ts. read_from held next (map f ts)) (sym parts)
    ∙ so_far

pub loop-bad : (f : Token → Seen) (rest after : List Token) (token : Token) (held to : List Open) (next now : Next)
    (o : Option Next) (all : Found) → rest ≡ token ∷ after → now ≡ next
    → whole held next ≡ None → option_map (λ n. (to, n)) o ≡ led_by held now (f token) → o ≡ None →
    read_from held next (map f rest) ≡ all → None ≡ all
loop-bad f rest after token held to next now o all parts same still led is so_far =
    let here : None ≡ led_by held next (f token) = ap (option_map (λ n. (to, n))) (sym is) ∙ led
    ∙ ap (λ n. led_by held n (f token)) same in
    sym (turn-bad held next (f token) (map f after) still here) ∙ ap (λ ts. read_from held next (map f ts)) (sym parts) ∙ so_far
