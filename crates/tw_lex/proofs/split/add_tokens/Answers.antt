use Rattle.std.proofs.Common.{◌≡◌, ◌+◌, ◌<◌, ◌≤◌, length, drop, Some, arith, ap, sym, ◌∙◌, length-drop}
use Rattle.std.proofs.lemmas.List.{take_rest}
use Rattle.tw_lex.specs.Lexemes.{lexeme}
use Rattle.tw_lex.specs.Lines.{or_bad}
use Rattle.tw_lex.proofs.Scan.{lexeme-size, scan-blank, scan-token, scan-bad, scan-end}
use Rattle.tw_lex.proofs.split.add_tokens.Goals as goal
use Rattle.tw_lex.proofs.split.add_tokens.Goals.{In-Some}

-- the token that was found
found : (c : In-Some) → Some (c.in-Some.what, c.in-Some.len) ≡ lexeme (drop c.loop-at.at c.args.code.now)
found c = sym c.in-Some.is ∙ c.in_ok-what.ensures ∙ ap lexeme (take_rest c.args.code.now c.loop-at.at)

fits : (c : In-Some) → (0 < c.in-Some.len) × (c.loop-at.at + c.in-Some.len ≤ length c.args.code.now)
fits c =
    let size = lexeme-size (drop c.loop-at.at c.args.code.now) c.in-Some.what c.in-Some.len (sym (found c)) in
    let len = length-drop c.loop-at.at c.args.code.now in
    (size.0, omega arith)

pub loop-at-preserved-then-is_blank : goal.loop-at-preserved-then-is_blank
loop-at-preserved-then-is_blank c = (
  omega arith,
  scan-blank c.loop-at.tokens.items c.args.code.now c.args.start c.loop-at.at _ c.loop-at-test.true
      (sym c.is_blank.ensures ∙ c.if-is_blank.true) c.loop-at.invariant.1,
)

pub returns-in_default : goal.returns-in_default
returns-in_default c =
    let none = sym c.in_default.is ∙ c.in_ok-what.ensures ∙ ap lexeme (take_rest c.args.code.now c.loop-at.at) in
    ap (or_bad c.args.number) (scan-bad c.loop-at.tokens.items c.args.code.now c.args.start c.loop-at.at _ c.loop-at-test.true
    (sym c.is_blank.ensures ∙ c.if-is_blank.false) none c.loop-at.invariant.1)

pub overflow_add-token-in-loop-at-2 : goal.overflow_add-token-in-loop-at-2
overflow_add-token-in-loop-at-2 c = let size = fits (goal.at.overflow_add-token-in-loop-at-2 c).In-Some in omega arith

pub overflow_cast-token-in-loop-at : goal.overflow_cast-token-in-loop-at
overflow_cast-token-in-loop-at c = let size = fits (goal.at.overflow_cast-token-in-loop-at c).In-Some in omega arith

pub loop-at-smaller : goal.loop-at-smaller
loop-at-smaller c = let size = fits (goal.at.loop-at-smaller c).In-Some in omega arith

pub loop-at-preserved : goal.loop-at-preserved
loop-at-preserved c =
    let here = (goal.at.loop-at-preserved c).In-Some in
    let size = fits here in (
      omega arith,
      rw c.in_ok-push.ensures.items (scan-token c.loop-at.tokens.items c.args.code.now c.args.start c.loop-at.at c.in-Some.len
          c.in-Some.what _ c.loop-at-test.true (sym c.is_blank.ensures ∙ c.if-is_blank.false)
          (found here) c.loop-at.invariant.1),
    )

pub returns : goal.returns
returns c =
    ap (or_bad c.args.number) (scan-end c.loop-at.tokens.items c.args.code.now c.args.start c.loop-at.at _ c.loop-at-test.false
    c.loop-at.invariant.1)
