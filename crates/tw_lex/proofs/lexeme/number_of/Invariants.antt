use Rattle.std.proofs.Common.{◌≡◌, true, take}
use Rattle.std.specs.List.{list_all}
use Rattle.tw_lex.specs.Bytes.{is_digit}
use Rattle.tw_lex.specs.Lexemes.{decimal_value}
use Rattle.tw_lex.proofs.lexeme.number_of.Given as goal

abbrev pub invariant-loop-byte : goal.invariant-loop-byte
invariant-loop-byte l = (l.value ≡ decimal_value (take l.byte-index l.run)) × (list_all is_digit (take l.byte-index l.run) ≡ true)
