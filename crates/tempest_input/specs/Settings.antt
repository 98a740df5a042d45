-- What a text sets up.
use Rattle.std.specs.Prelude.{◌≡◌, ◌⊎◌, ℕ, zero, suc, ◌*◌, ◌==◌, position, slice_get, unwrap_or, false, List, [], ◌∷◌, ◌++◌}
use Rattle.std.specs.Prelude.{length, Option, Some, None, Result, Ok, Err}
use Rattle.tw_base.specs.Answers.{◌>>=◌}
use Rattle.tw_base.specs.Lists.{Each}
use Rattle.tw_base.specs.Shape.{Sizes}
use Rattle.tw_lex.specs.declared.token.Lexed.{Lexed}
use Rattle.tw_lex.specs.declared.token.LexError.{LexError}
use Rattle.tw_lex.specs.declared.token.LexError.TheVariants as lexical
use Rattle.tw_lex.specs.Lines.{lexed}
use Rattle.mini_asm.specs.declared.instr.Instr.{Instr}
use Rattle.mini_asm.specs.declared.instr.Instr.TheVariants.{Halt}
use Rattle.mini_asm.specs.declared.parse.ProgramError.{ProgramError}
use Rattle.mini_asm.specs.declared.parse.ProgramError.TheVariants as assembly
use Rattle.mini_asm.specs.Assembled.{program_of}
use Rattle.mini_asm.specs.Programs.{has_faa}
use Rattle.mini_asm.specs.Run.{IsInit}
use Rattle.tempest_input.specs.declared.layout.Section.{Section}
use Rattle.tempest_input.specs.declared.layout.Body.{Body}
use Rattle.tempest_input.specs.declared.layout.Choice.{Choice}
use Rattle.tempest_input.specs.declared.layout.Ending.{Ending}
use Rattle.tempest_input.specs.declared.layout.Ending.TheVariants.{Text}
use Rattle.tempest_input.specs.declared.layout.Layout.{Layout}
use Rattle.tempest_input.specs.declared.error.InputError.{InputError}
use Rattle.tempest_input.specs.declared.error.InputError.TheVariants.{Refused, Memory}
use Rattle.tempest_input.specs.declared.error.Why.TheVariants as why
use Rattle.tempest_input.specs.Layout.{laid_out}
use Rattle.tempest_input.specs.Numbers.{gathered, nodes_of, sizes_of, words_of}

-- the version of the language, the shape of the machine, the words given at the start, a program a node, the protocol
pub record Settings : Type 0 where
  pub version : ℕ
  pub shape : Sizes
  pub init : List (ℕ × ℕ)
  pub programs : List (List Instr)
  pub protocol : Choice

-- a program for each node; each word given is in the memory, and given once; fetch-and-add is there from version 2 on
pub record AreSettings (s : Settings) : Type 0 where
  pub version : (s.version ≡ 1) ⊎ (s.version ≡ 2)
  pub plain : s.version ≡ 1 → Each (λ program. has_faa program ≡ false) s.programs
  pub programs : length s.programs ≡ s.shape.nodes
  pub init : IsInit (s.shape.words * s.shape.blocks) s.init

-- ---- programs

-- a program, or what its text is refused for
abbrev pub in_program : {X : Type 0} → Result X ProgramError → Result X InputError
in_program (Ok p) = Ok p
in_program (Err (assembly.BadLine line)) = Err (Refused line why.BadLine)
in_program (Err (assembly.TooLong line)) = Err (Refused line why.TooLong)
in_program (Err (assembly.LabelTwice line)) = Err (Refused line why.LabelTwice)
in_program (Err (assembly.NoLabel line)) = Err (Refused line why.NoLabel)
in_program (Err assembly.Memory) = Err Memory

abbrev pub program_in : ℕ → List (List Instr) → Section → Result (List Instr) InputError
program_in version done s = in_program (program_of version s.body.lines)

-- the programs of the sections, in their order
abbrev pub parsed : ℕ → List Section → Result (List (List Instr)) InputError
parsed version sections = gathered (program_in version) [] sections

abbrev pub program_at : List (List Instr) → Option ℕ → List Instr
program_at programs None = Halt ∷ []
program_at programs (Some k) = unwrap_or (slice_get programs k) (Halt ∷ [])

-- a node's program is that of its section, and `halt` where it has none
abbrev pub program_for : List ℕ → List (List Instr) → ℕ → List Instr
program_for nodes programs node = program_at programs (position (λ n. n == node) nodes)

-- f 0, .., f (n - 1)
abbrev pub each_below : {X : Type 0} → (ℕ → X) → ℕ → List X
each_below f zero = []
each_below f (suc n) = each_below f n ++ f n ∷ []

-- ---- the whole

unfoldable pub settings_of : Layout → Result Settings InputError
settings_of l =
    sizes_of l >>= λ sizes.
    words_of (sizes.words * sizes.blocks) l.inits >>= λ init.
    nodes_of sizes.nodes l.programs >>= λ nodes.
    parsed l.version.value l.programs >>= λ programs.
    Ok (record {
      version = l.version.value;
      shape = sizes;
      init = init;
      programs = each_below (program_for nodes programs) sizes.nodes;
      protocol = l.protocol;
    })

abbrev pub in_line : Result Lexed LexError → Result Lexed InputError
in_line (Ok found) = Ok found
in_line (Err (lexical.NotAscii line)) = Err (Refused line why.NotAscii)
in_line (Err (lexical.BadToken line)) = Err (Refused line why.BadToken)
in_line (Err lexical.Memory) = Err Memory

-- the lines of a text, laid out, and the lines of its report; all of them have tokens
unfoldable pub layout_of : Ending → List ℕ → Result (Layout × Body) InputError
layout_of ending text = in_line (lexed text) >>= λ found. laid_out ending found.all found.list

-- the settings in a text and the lines of its report, or what it is refused for
abbrev pub settings_and_report : Ending → List ℕ → Result (Settings × Body) InputError
settings_and_report ending text = layout_of ending text >>= λ l. settings_of l.0 >>= λ s. Ok (s, l.1)

-- the settings in a text without a report
abbrev pub settings_in : List ℕ → Result Settings InputError
settings_in text = settings_and_report Text text >>= λ s. Ok s.0
