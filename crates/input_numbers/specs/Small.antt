-- Numbers of a text have 64 bits, and so have those of the programs and words that it sets up.
use Rattle.std.specs.Prelude.{◌≡◌, ℕ, List, Ok}
use Rattle.tw_base.specs.Lists.{Each}
use Rattle.tw_lex.specs.declared.token.Lexed.{Lexed}
use Rattle.tw_lex.specs.declared.token.Line.{Line}
use Rattle.tw_lex.specs.declared.token.Token.{Token}
use Rattle.tw_lex.specs.declared.token.What.{What}
use Rattle.tw_lex.specs.declared.token.What.TheVariants as whats
use Rattle.tw_lex.specs.Lines.{lexed}
use Rattle.mini_asm.specs.declared.instr.Instr.{Instr}
use Rattle.mini_asm.specs.Assembled.{program_of}
use Rattle.printed_reports.specs.Named.{Small}
use Rattle.run_reports.specs.Numbers.{IsSmallProgram}

abbrev pub SmallWhat : What → Type 0
SmallWhat (whats.Word w) = Unit {0}
SmallWhat (whats.Number n) = Small n
SmallWhat (whats.Mark m) = Unit {0}

abbrev pub SmallToken : Token → Type 0
SmallToken t = SmallWhat t.what

abbrev pub SmallLine : Line → Type 0
SmallLine l = Each SmallToken l.tokens

-- The numbers of a text have 64 bits.
abbrev pub NumbersOfTextsAreSmall : Type 0
NumbersOfTextsAreSmall = (text : List ℕ) (found : Lexed) → lexed text ≡ Ok found → Each SmallLine found.list

-- So have those of a program that is read off such lines.
abbrev pub ReadProgramsAreSmall : Type 0
ReadProgramsAreSmall = (version : ℕ) (lines : List Line) (program : List Instr) → Each SmallLine lines
    → program_of version lines ≡ Ok program → IsSmallProgram program
