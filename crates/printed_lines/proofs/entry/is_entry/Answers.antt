use Rattle.std.proofs.Common.{List, ◌++◌, sym, ◌∙◌}
use Rattle.tw_lex.specs.declared.token.What.{What}
use Rattle.printed_lines.specs.Tokens.{act_tokens, after_tokens, event_tokens, whats}
use Rattle.printed_lines.proofs.Passing.{says-none, says-past}
use Rattle.printed_lines.proofs.entry.is_entry.Goals as goal

pub returns-in_default : goal.returns-in_default
returns-in_default c =
    let p = c.args.names.now.protocol.now in
    let entry = c.args.entry.now in
    sym (says-none (event_tokens c.args.number entry.stamp entry.node)
    (act_tokens p entry.act ++ after_tokens p entry.sends entry.after) (whats c.args.tokens.now) c.in_default.ensures)

pub returns-in-Some-past_act : goal.returns-in-Some-past_act
returns-in-Some-past_act c =
    let p = c.args.names.now.protocol.now in
    let entry = c.args.entry.now in
    let did : List What = act_tokens p entry.act in
    let left : List What = after_tokens p entry.sends entry.after in
    let from_act = whats c.in-Some.act.now in
    c.is_after.ensures
    ∙ sym (says-past did left from_act (whats c.in-Some-past_act.after.now) c.in-Some-past_act.ensures)
    ∙ sym (says-past (event_tokens c.args.number entry.stamp entry.node) (did ++ left)
    (whats c.args.tokens.now) from_act c.in-Some.ensures)

pub returns-in-None : goal.returns-in-None
returns-in-None c =
    let p = c.args.names.now.protocol.now in
    let entry = c.args.entry.now in
    let did : List What = act_tokens p entry.act in
    let left : List What = after_tokens p entry.sends entry.after in
    let from_act = whats c.in-Some.act.now in
    sym (says-none did left from_act c.in-None.ensures)
    ∙ sym (says-past (event_tokens c.args.number entry.stamp entry.node) (did ++ left)
    (whats c.args.tokens.now) from_act c.in-Some.ensures)
