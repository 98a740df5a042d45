use Rattle.std.proofs.Common.{sym, ◌∙◌}
use Rattle.printed_lines.specs.Tokens.{failure_tokens, left_tokens, whats}
use Rattle.printed_lines.proofs.Passing.{says-none, says-none_all, says-past, says-past_all}
use Rattle.printed_lines.proofs.entry.is_after.Goals as goal

pub returns-in_default-past_left : goal.returns-in_default-past_left
returns-in_default-past_left c =
    let p = c.args.names.now.protocol.now in
    let after = c.in-Some.after in
    rw c.in-Some.is
    (sym (says-none (left_tokens p c.args.sends after.state after.tag) (failure_tokens p after.end)
    (whats c.args.tokens.now) c.in_default-past_left.ensures))

pub returns-in-Some-past_failure : goal.returns-in-Some-past_failure
returns-in-Some-past_failure c =
    let p = c.args.names.now.protocol.now in
    let after = c.in-Some.after in
    let ends = failure_tokens p after.end in
    let behind = whats c.in-Some-past_left.failure.now in
    rw c.in-Some.is
    (c.says_nothing-in-Some-past_failure.ensures
    ∙ sym (says-past_all ends behind (whats c.in-Some-past_failure.rest.now) c.in-Some-past_failure.ensures)
    ∙ sym (says-past (left_tokens p c.args.sends after.state after.tag) ends
    (whats c.args.tokens.now) behind c.in-Some-past_left.ensures))

pub returns-in-None : goal.returns-in-None
returns-in-None c =
    let p = c.args.names.now.protocol.now in
    let after = c.in-Some.after in
    let ends = failure_tokens p after.end in
    let behind = whats c.in-Some-past_left.failure.now in
    rw c.in-Some.is
    (sym (says-none_all ends behind c.in-None.ensures)
    ∙ sym (says-past (left_tokens p c.args.sends after.state after.tag) ends
    (whats c.args.tokens.now) behind c.in-Some-past_left.ensures))
