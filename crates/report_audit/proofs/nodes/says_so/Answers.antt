use Rattle.std.proofs.Common.{List, map, ◌++◌, sym, ◌∙◌}
use Rattle.tw_lex.specs.declared.token.What.{What}
use Rattle.printed_lines.specs.Saying.{meant}
use Rattle.printed_lines.specs.Tokens.{whats}
use Rattle.printed_lines.proofs.Passing.{says-none, says-past}
use Rattle.report_audit.specs.Nodes.{count_tokens, name_tokens}
use Rattle.report_audit.proofs.nodes.says_so.Goals as goal

pub returns-in_default : goal.returns-in_default
returns-in_default c =
    let stands = c.args.stands in
    let end : List What = map meant c.args.end.now in
    let counts : List What = count_tokens stands.place stands.tried stands.handled in
    sym (says-none (name_tokens stands.node) (end ++ counts) (whats c.args.tokens.now) c.in_default.ensures)

pub returns-in_default-past : goal.returns-in_default-past
returns-in_default-past c =
    let stands = c.args.stands in
    let end : List What = map meant c.args.end.now in
    let counts : List What = count_tokens stands.place stands.tried stands.handled in
    let ending = whats c.in-Some.ending.now in
    sym (says-none end counts ending c.in_default-past.ensures)
    ∙ sym (says-past (name_tokens stands.node) (end ++ counts) (whats c.args.tokens.now) ending c.in-Some.ensures)

pub returns : goal.returns
returns c =
    let stands = c.args.stands in
    let end : List What = map meant c.args.end.now in
    let counts : List What = count_tokens stands.place stands.tried stands.handled in
    let ending = whats c.in-Some.ending.now in
    c.says.ensures
    ∙ sym (says-past end counts ending (whats c.in-Some-past.counts.now) c.in-Some-past.ensures)
    ∙ sym (says-past (name_tokens stands.node) (end ++ counts) (whats c.args.tokens.now) ending c.in-Some.ensures)
