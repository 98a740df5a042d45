use Rattle.std.proofs.Common.{◌≡◌, [], ◌∷◌, List, length, arith, refl, sym, ap, ◌∙◌, map}
use Rattle.teapot_lines.specs.Seen.{seen}
use Rattle.teapot_lines.specs.Reading.{read_from}
use Rattle.teapot_lines.proofs.Turns.{turn-whole, turn-end, loop-on, loop-bad}
use Rattle.teapot_lines.proofs.reader.read_expr.Goals as goal

none_left : {X : Type 0} (xs : List X) → length xs ≡ 0 → xs ≡ []
none_left [] e = refl
none_left (x ∷ xs) e = absurd (omega arith)

pub returns-in-Ok : goal.returns-in-Ok
returns-in-Ok c = sym (turn-whole _ _ _ _ c.in-Ok.ensures) ∙ c.tokens.invariant

pub returns-in-Ok-whole : goal.returns-in-Ok-whole
returns-in-Ok-whole c = sym (turn-whole _ _ _ _ c.in-Ok-whole.ensures) ∙ c.tokens.invariant

pub returns : goal.returns
returns c =
    let empty : map (seen c.args.profile) c.tokens.rest.now ≡ [] =
    ap (map (seen c.args.profile)) (none_left _ c.in_default.ensures.cases) in
    sym (turn-end c.tokens.held c.tokens.next c.in-Err-whole.ensures.1)
    ∙ ap (read_from c.tokens.held c.tokens.next) (sym empty) ∙ c.tokens.invariant

pub tokens-preserved : goal.tokens-preserved
tokens-preserved c =
    loop-on (seen c.args.profile) c.tokens.rest.now c.in-Some.after.now c.in-Some.token.now c.tokens.held c.led_by.new.held
    c.tokens.next c.in-Err.now c.in-Some-2.found c.in_ok-found.field-0 _
    c.in-Some.ensures.cases.0 c.in-Err.ensures.0 c.in-Err.ensures.1 c.in_ok-found.ensures c.in-Some-2.is c.tokens.invariant

pub returns-in-None : goal.returns-in-None
returns-in-None c =
    loop-bad (seen c.args.profile) c.tokens.rest.now c.in-Some.after.now c.in-Some.token.now c.tokens.held c.led_by.new.held
    c.tokens.next c.in-Err.now c.in_ok-found.field-0 _
    c.in-Some.ensures.cases.0 c.in-Err.ensures.0 c.in-Err.ensures.1 c.in_ok-found.ensures c.in-None.is c.tokens.invariant
