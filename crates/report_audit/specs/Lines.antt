-- Lines of prints, words and registers beside those that are due of the flat machine.
use Rattle.std.specs.Prelude.{ℕ, ◌==◌, if◌then◌else◌, codes, Bool, false, List, [], ◌∷◌, Option, Some, None, slice_get}
use Rattle.std.specs.List.{flat_map, enumerate_from, range_with_len}
use Rattle.tw_lex.specs.declared.token.Token.{Token}
use Rattle.tw_lex.specs.declared.token.What.{What}
use Rattle.tw_lex.specs.declared.token.What.TheVariants.{Word, Number}
use Rattle.mini_asm.specs.Run.{Machine}
use Rattle.mini_asm.specs.declared.processor.Core.{Core}
use Rattle.report_reader.specs.declared.lines.PrintedLine.{PrintedLine}
use Rattle.printed_lines.specs.Saying.{says}
use Rattle.printed_lines.specs.Tokens.{whats}
use Rattle.report_audit.specs.declared.due.Due.{Due}
use Rattle.report_audit.specs.declared.due.Due.TheVariants as due

abbrev pub due_tokens : Due → List What
due_tokens (due.Print node value) = Word (codes "print") ∷ Number node ∷ Number value ∷ []
due_tokens (due.Word address value) = Word (codes "word") ∷ Number address ∷ Number value ∷ []
due_tokens (due.Register node register value) = Word (codes "register") ∷ Number node ∷ Number register ∷ Number value ∷ []

-- ---- what is due at the end

-- a word of memory that is not 0, by its address
abbrev pub word_due : ℕ × ℕ → List Due
word_due word = if word.1 == 0 then [] else due.Word word.0 word.1 ∷ []

abbrev pub words_due : Machine → List Due
words_due m = flat_map word_due (enumerate_from 0 m.words)

-- a register that is not 0
abbrev pub register_due : ℕ → ℕ × ℕ → List Due
register_due node register = if register.1 == 0 then [] else due.Register node register.0 register.1 ∷ []

abbrev pub core_due : ℕ → Option Core → List Due
core_due node None = []
core_due node (Some core) = flat_map (register_due node) (enumerate_from 0 core.cpu.regs)

abbrev pub registers_due : Machine → ℕ → List Due
registers_due m node = core_due node (slice_get m.cores node)

-- of n nodes
abbrev pub all_registers_due : ℕ → Machine → List Due
all_registers_due n m = flat_map (registers_due m) (range_with_len 0 n)

-- ---- the first line that is not the one that is due

-- a line is due, and says so
abbrev pub is_due : Option Due → List Token → Bool
is_due None ts = false
is_due (Some d) ts = says (due_tokens d) (whats ts)

-- The first line that differs from the one that is due at its place. Where all agree and more are due, it is the one behind
-- them, `next`.
unfoldable pub first_other : List Due → List PrintedLine → ℕ → Option ℕ
first_other [] [] next = None
first_other (d ∷ ds) [] next = Some next
first_other [] (l ∷ ls) next = Some l.line
first_other (d ∷ ds) (l ∷ ls) next = if is_due (Some d) l.tokens then first_other ds ls next else Some l.line
