use Rattle.std.proofs.Common.{map, sym, ◌∙◌}
use Rattle.printed_lines.specs.Saying.{meant}
use Rattle.printed_lines.specs.Tokens.{whats}
use Rattle.printed_lines.proofs.Passing.{says-none_all, says-past_all}
use Rattle.printed_lines.proofs.said.says.Goals as goal

pub returns-in-Some : goal.returns-in-Some
returns-in-Some c = c.says_nothing.ensures
    ∙ sym (says-past_all (map meant c.args.said.now) (whats c.args.tokens.now) (whats c.in-Some.rest.now) c.in-Some.ensures)

pub returns-in-None : goal.returns-in-None
returns-in-None c = sym (says-none_all (map meant c.args.said.now) (whats c.args.tokens.now) c.in-None.ensures)
