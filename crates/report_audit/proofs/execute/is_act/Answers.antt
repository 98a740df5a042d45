use Rattle.std.proofs.Common.{List, drop, sym, ap, ◌∙◌}
use Rattle.tw_lex.specs.declared.token.Token.{Token}
use Rattle.printed_lines.specs.Saying.{past}
use Rattle.printed_lines.specs.Tokens.{act_tokens, whats}
use Rattle.printed_lines.proofs.Passing.{says-none_all, says-past_all}
use Rattle.report_audit.proofs.execute.is_act.Goals as goal

pub returns-in-Some : goal.returns-in-Some
returns-in-Some c =
    let did = act_tokens c.args.names.now.protocol.now c.args.act.now in
    c.says_nothing.ensures
    ∙ sym (says-past_all did (whats (drop 6 c.args.tokens.now)) (whats c.in-Some.rest.now)
    (c.in-Some.ensures ∙ ap (λ (ts : List Token). past did (whats ts)) c.behind.ensures))

pub returns-in-None : goal.returns-in-None
returns-in-None c =
    let did = act_tokens c.args.names.now.protocol.now c.args.act.now in
    sym (says-none_all did (whats (drop 6 c.args.tokens.now))
    (c.in-None.ensures ∙ ap (λ (ts : List Token). past did (whats ts)) c.behind.ensures))
