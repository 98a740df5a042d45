use Rattle.std.proofs.Common.{◌+◌, arith}
use Rattle.tw_lex.proofs.Numbers.{decimal_value-more, decimal_value-take-le, number_of-large}
use Rattle.tw_lex.proofs.lexeme.number_of.Goals as goal

pub returns-then-value-digit : goal.returns-then-value-digit
returns-then-value-digit c =
    let run = c.args.run.now in
    let i = c.loop-byte.byte-index in
    let value = decimal_value-more run i 0 (omega arith) in
    let part = decimal_value-take-le run (i + 1) in
    number_of-large run (omega arith)
