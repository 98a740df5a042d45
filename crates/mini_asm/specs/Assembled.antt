-- The program that lines spell, or the first fault in them.
use Rattle.std.specs.Prelude.{ℕ, suc, if◌then◌else◌, slice_get, Bool, true, false, List, [], ◌∷◌, ◌++◌, length, Option, Some}
use Rattle.std.specs.Prelude.{None, Result, Ok, Err}
use Rattle.std.specs.Str.{bytes_eq}
use Rattle.std.specs.List.{filter}
use Rattle.std.specs.Option.{option_map, is_some}
use Rattle.tw_base.specs.Answers.{◌>>=◌}
use Rattle.tw_lex.specs.declared.token.Line.{Line}
use Rattle.mini_asm.specs.declared.form.Form.{Form}
use Rattle.mini_asm.specs.declared.form.Form.TheVariants.{Label, Code}
use Rattle.mini_asm.specs.declared.form.Written.{Written}
use Rattle.mini_asm.specs.declared.instr.Instr.{Instr}
use Rattle.mini_asm.specs.declared.instr.Instr.TheVariants as instrs
use Rattle.mini_asm.specs.declared.parse.ProgramError.{ProgramError}
use Rattle.mini_asm.specs.declared.parse.ProgramError.TheVariants.{BadLine, TooLong, LabelTwice, NoLabel, Memory}
use Rattle.mini_asm.specs.Programs.{IsInstr}
use Rattle.mini_asm.specs.Spelling.{form_of}

-- an instruction whose jump, if it is one, has the place 0
abbrev pub IsForm : Form → Type 0
IsForm (Label name) = Unit {0}
IsForm (Code i target) = IsInstr 0 i

-- ---- lines

abbrev pub or_bad_line : ℕ → Option Form → Result Written ProgramError
or_bad_line line None = Err (BadLine line)
or_bad_line line (Some form) = Ok (record { line = line; form = form })

-- what each line is, or the first that is none of the assembly
unfoldable pub written_of : ℕ → List Line → Result (List Written) ProgramError
written_of version [] = Ok []
written_of version (l ∷ ls) = do
  w ← or_bad_line l.number (form_of version l.tokens)
  ws ← written_of version ls
  Ok (w ∷ ws)

-- ---- labels

abbrev pub is_code_form : Form → Bool
is_code_form (Label name) = false
is_code_form (Code i target) = true

abbrev pub is_code : Written → Bool
is_code w = is_code_form w.form

abbrev pub code_count : List Written → ℕ
code_count ws = length (filter is_code ws)

abbrev pub place_past : Form → List ℕ → Option ℕ → Option ℕ
place_past (Label l) name rest = if bytes_eq l name then Some 0 else rest
place_past (Code i target) name rest = option_map suc rest

-- the place of a label: how many instructions stand before it
unfoldable pub place_of : List Written → List ℕ → Option ℕ
place_of [] name = None
place_of (w ∷ ws) name = place_past w.form name (place_of ws name)

-- a label that stands already
abbrev pub stands_in : List Written → Form → Bool
stands_in before (Label name) = is_some (place_of before name)
stands_in before (Code i target) = false

-- the first line whose label stands on an earlier line; those before are given
unfoldable pub twice : List Written → List Written → Option ℕ
twice before [] = None
twice before (w ∷ ws) = if stands_in before w.form then Some w.line else twice (before ++ w ∷ []) ws

-- ---- jumps

abbrev pub jump_to : Instr → ℕ → Instr
jump_to (instrs.Beq a b old) place = instrs.Beq a b place
jump_to (instrs.Bne a b old) place = instrs.Bne a b place
jump_to (instrs.Blt a b old) place = instrs.Blt a b place
jump_to (instrs.Jmp old) place = instrs.Jmp place
jump_to (instrs.Li d n) place = instrs.Li d n
jump_to (instrs.Mov d a) place = instrs.Mov d a
jump_to (instrs.Add d a b) place = instrs.Add d a b
jump_to (instrs.Sub d a b) place = instrs.Sub d a b
jump_to (instrs.And d a b) place = instrs.And d a b
jump_to (instrs.Or d a b) place = instrs.Or d a b
jump_to (instrs.Xor d a b) place = instrs.Xor d a b
jump_to (instrs.Ld d a n) place = instrs.Ld d a n
jump_to (instrs.St s a n) place = instrs.St s a n
jump_to (instrs.Print a) place = instrs.Print a
jump_to instrs.Halt place = instrs.Halt
jump_to (instrs.Faa d s a n) place = instrs.Faa d s a n

abbrev pub or_no_label : ℕ → Instr → Option ℕ → Result (List Instr) ProgramError
or_no_label line i None = Err (NoLabel line)
or_no_label line i (Some place) = Ok (jump_to i place ∷ [])

-- the instruction of a line, if it has one, where labels have these places
abbrev pub code_of : (List ℕ → Option ℕ) → ℕ → Form → Result (List Instr) ProgramError
code_of places line (Label name) = Ok []
code_of places line (Code i None) = Ok (i ∷ [])
code_of places line (Code i (Some target)) = or_no_label line i (places target)

unfoldable pub codes_of : (List ℕ → Option ℕ) → List Written → Result (List Instr) ProgramError
codes_of places [] = Ok []
codes_of places (w ∷ ws) = do
  front ← code_of places w.line w.form
  rest ← codes_of places ws
  Ok (front ++ rest)

-- ---- programs

-- the line of the instruction with this number, from 0
abbrev pub code_line : ℕ → List Written → Option ℕ
code_line n ws = option_map (λ w. w.line) (slice_get (filter is_code ws) n)

abbrev pub refuse : (ℕ → ProgramError) → Option ℕ → Result (Unit {0}) ProgramError
refuse fault None = Ok tt
refuse fault (Some line) = Err (fault line)

-- the program of these lines, which have been read
unfoldable pub assembled : List Written → Result (List Instr) ProgramError
assembled ws = do
  short ← refuse TooLong (code_line 4096 ws)
  once ← refuse LabelTwice (twice [] ws)
  codes_of (place_of ws) ws

unfoldable pub program_of : ℕ → List Line → Result (List Instr) ProgramError
program_of version lines = do
  ws ← written_of version lines
  assembled ws

-- want of memory, which no text determines
abbrev pub is_memory : ProgramError → Bool
is_memory Memory = true
is_memory (BadLine line) = false
is_memory (TooLong line) = false
is_memory (LabelTwice line) = false
is_memory (NoLabel line) = false
