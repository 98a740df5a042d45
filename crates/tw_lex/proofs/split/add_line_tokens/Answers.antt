use Rattle.std.proofs.Common.{◌≡◌, ◌+◌, ◌<◌, length, get_or, true, ap, arith, ◌∙◌, subst, sym}
use Rattle.std.proofs.lemmas.List.{take_rest}
use Rattle.std.proofs.lemmas.Result.{err_from_is_err_and}
use Rattle.tw_base.specs.Answers.{Fails}
use Rattle.tw_lex.specs.Laws.{ends_code}
use Rattle.tw_lex.specs.Lines.{is_memory}
use Rattle.tw_lex.proofs.Splitting.{first_len}
use Rattle.tw_lex.proofs.Stopping.{tokens-whole, tokens-bad, len-whole}
use Rattle.tw_lex.proofs.split.add_line_tokens.Goals as goal
use Rattle.tw_lex.proofs.split.add_line_tokens.Goals.{After-add_tokens}
use Rattle.tw_lex.proofs.split.add_line_tokens.Goals.{else-stop-text-via-then-stop-text+else-not-ends_code, else-stop-text-via-else-stop-text}

-- where the look stopped, the code ends
ends : (c : After-add_tokens) → c.stop_len-stop.result < length c.args.text.now →
    ends_code (get_or c.args.text.now c.stop_len-stop.result 0) ≡ true
ends c lt =
    elim c.else-stop-text.branch [
      | else-stop-text-via-then-stop-text+else-not-ends_code w ↦ sym w.ends_code.ensures ∙ w.if-not-ends_code.false
      | else-stop-text-via-else-stop-text w ↦ absurd (omega (arith, w.if-stop-text.false))
    ]

pub returns-then-not-ends_code-clause-tokens : goal.returns-then-not-ends_code-clause-tokens
returns-then-not-ends_code-clause-tokens c =
    tokens-bad c.args.text.now c.stop_len-stop.result c.stop_len-stop.ensures.value c.args.number c.args.start c.if-stop-text.true
    (sym c.ends_code.ensures ∙ c.if-not-ends_code.true)

pub returns-in_err-add_tokens-clause-tokens : goal.returns-in_err-add_tokens-clause-tokens
returns-in_err-add_tokens-clause-tokens c =
    let p = err_from_is_err_and c.from_residual.result c.from_residual.ensures.1 in
    rw (p.1, p.2) (subst (Fails is_memory c.in_err-add_tokens.field-0.0)
    (sym (tokens-whole c.args.text.now c.stop_len-stop.result c.stop_len-stop.ensures.value c.args.number c.args.start (ends (goal.at.returns-in_err-add_tokens-clause-tokens c).After-add_tokens)))
    c.in_err-add_tokens.ensures)

pub returns-clause-tokens : goal.returns-clause-tokens
returns-clause-tokens c =
    tokens-whole c.args.text.now c.stop_len-stop.result c.stop_len-stop.ensures.value c.args.number c.args.start (ends (goal.at.returns-clause-tokens c).After-add_tokens)
    ∙ c.in_ok-add_tokens.ensures

pub returns-clause-len : goal.returns-clause-len
returns-clause-len c =
    ap (λ n. c.stop_len-stop.result + n) (c.line_len.ensures.value ∙ ap first_len (take_rest c.args.text.now c.stop_len-stop.result))
    ∙ len-whole c.args.text.now c.stop_len-stop.result c.stop_len-stop.ensures.value (ends (goal.at.returns-clause-len c).After-add_tokens)
