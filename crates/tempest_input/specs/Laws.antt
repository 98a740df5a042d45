-- What the lines of a text are, as they are written, and what a text is refused for.
use Rattle.std.specs.Prelude.{◌≡◌, ◌⊎◌, ◌+◌, ◌*◌, ℕ, List, [], ◌∷◌, ◌++◌, Option, Some, None, Ok, Err}
use Rattle.tw_base.specs.Lists.{Each}
use Rattle.tw_base.specs.Shape.{Sizes}
use Rattle.tw_lex.specs.declared.token.Line.{Line}
use Rattle.tw_lex.specs.declared.token.Lexed.{Lexed}
use Rattle.tw_lex.specs.declared.token.LexError.TheVariants as lexical
use Rattle.tw_lex.specs.Lines.{lexed}
use Rattle.tempest_input.specs.declared.head.Head.TheVariants as heads
use Rattle.tempest_input.specs.declared.head.Field.{Field}
use Rattle.tempest_input.specs.declared.head.Field.TheVariants.{Version, Nodes, Words, Blocks, Budget}
use Rattle.tempest_input.specs.declared.layout.Numbered.{Numbered}
use Rattle.tempest_input.specs.declared.layout.Init.{Init}
use Rattle.tempest_input.specs.declared.layout.Body.{Body}
use Rattle.tempest_input.specs.declared.layout.Section.{Section}
use Rattle.tempest_input.specs.declared.layout.Choice.{Choice}
use Rattle.tempest_input.specs.declared.layout.Choice.TheVariants as choices
use Rattle.tempest_input.specs.declared.layout.Ending.{Ending}
use Rattle.tempest_input.specs.declared.layout.Ending.TheVariants as endings
use Rattle.tempest_input.specs.declared.layout.Layout.{Layout}
use Rattle.tempest_input.specs.declared.error.InputError.{InputError}
use Rattle.tempest_input.specs.declared.error.InputError.TheVariants.{Refused, Memory}
use Rattle.tempest_input.specs.declared.error.Why.{Why}
use Rattle.tempest_input.specs.declared.error.Why.TheVariants as whys
use Rattle.tempest_input.specs.Heads.{head_of}
use Rattle.tempest_input.specs.Layout.{laid_out, misfit}
use Rattle.tempest_input.specs.Numbers.{nodes_of, sizes_of, words_of}
use Rattle.tempest_input.specs.Settings.{Settings, settings_and_report, parsed}

-- this line is a field of the header
abbrev pub IsField : Field → Numbered → Line → Type 0
IsField field n l = (head_of l.tokens ≡ heads.Number field n.value) × (l.number ≡ n.line)

-- a line of the budget, or none
abbrev pub IsBudget : Option Numbered → List Line → Type 0
IsBudget None lines = lines ≡ []
IsBudget (Some n) lines = (l : Line) × (lines ≡ l ∷ []) × IsField Budget n l

-- a line for each word that is given
abbrev pub IsInits : List Init → List Line → Type 0
IsInits [] [] = Unit {0}
IsInits (i ∷ given) (l ∷ ls) = (head_of l.tokens ≡ heads.Init i.address i.value) × (l.number ≡ i.line) × IsInits given ls
IsInits [] (l ∷ ls) = ⊥
IsInits (i ∷ given) [] = ⊥

-- none of these lines is `end` alone
abbrev pub IsBody : List Line → Type 0
IsBody body = Each (λ l. ¬ (head_of l.tokens ≡ heads.End)) body

-- the line of the node, the lines of its program, and the line `end`
pub record IsSection (s : Section) (lines : List Line) : Type 0 where
  pub opening : Line
  pub closing : Line
  pub lines_are : lines ≡ opening ∷ (s.body.lines ++ closing ∷ [])
  pub opens : head_of opening.tokens ≡ heads.Program s.node
  pub line : opening.number ≡ s.line
  pub body : IsBody s.body.lines
  pub closes : head_of closing.tokens ≡ heads.End
  pub last : closing.number ≡ s.body.end

-- one section after the other
abbrev pub IsSections : List Section → List Line → Type 0
IsSections [] lines = lines ≡ []
IsSections (s ∷ ss) lines = (front : List Line) × (back : List Line) × (lines ≡ front ++ back) × IsSection s front
    × IsSections ss back

-- the line `protocol`, the lines of the protocol, and the line `end`
pub record IsOwn (line : ℕ) (body : Body) (lines : List Line) : Type 0 where
  pub opening : Line
  pub closing : Line
  pub lines_are : lines ≡ opening ∷ (body.lines ++ closing ∷ [])
  pub opens : head_of opening.tokens ≡ heads.Protocol
  pub line_is : opening.number ≡ line
  pub body_is : IsBody body.lines
  pub closes : head_of closing.tokens ≡ heads.End
  pub last_is : closing.number ≡ body.end

-- nothing, a protocol of the text's own, or in version 2 the line that names one
abbrev pub IsChoice : ℕ → Choice → List Line → Type 0
IsChoice version choices.Default lines = lines ≡ []
IsChoice version (choices.Own line body) lines = IsOwn line body lines
IsChoice version (choices.Shipped line which) lines =
    (l : Line) × (lines ≡ l ∷ []) × (version ≡ 2) × (head_of l.tokens ≡ heads.Shipped which) × (l.number ≡ line)

-- nothing, or the line `report` and the lines of the report
abbrev pub IsEnding : Ending → Body → List Line → Type 0
IsEnding endings.Text report lines = (lines ≡ []) × (report.lines ≡ [])
IsEnding endings.Report report lines = (l : Line) × (lines ≡ l ∷ report.lines) × (head_of l.tokens ≡ heads.Report)

-- The lines of a text, `all` of which there are, in their order, and nothing else. A missing line of the report would be the one
-- after the last of all.
pub record IsLaidOut (ending : Ending) (all : ℕ) (lines : List Line) (l : Layout) (report : Body) : Type 0 where
  pub version : Line
  pub nodes : Line
  pub words : Line
  pub blocks : Line
  pub budget : List Line
  pub inits : List Line
  pub programs : List Line
  pub protocol : List Line
  pub behind : List Line
  pub lines_are : lines ≡ version ∷ nodes ∷ words ∷ blocks ∷ (budget ++ (inits ++ (programs ++ (protocol ++ behind))))
  pub version_is : IsField Version l.version version
  pub nodes_is : IsField Nodes l.nodes nodes
  pub words_is : IsField Words l.words words
  pub blocks_is : IsField Blocks l.blocks blocks
  pub budget_is : IsBudget l.budget budget
  pub inits_are : IsInits l.inits inits
  pub programs_are : IsSections l.programs programs
  pub protocol_is : IsChoice l.version.value l.protocol protocol
  pub behind_is : IsEnding ending report behind
  pub end_is : report.end ≡ all + 1

-- the layout that is found is one of the lines, and each layout of the lines is found
abbrev pub LayoutIsReadBothWays : Type 0
LayoutIsReadBothWays =
    (ending : Ending) (all : ℕ) (lines : List Line) (l : Layout) (report : Body)
    → (laid_out ending all lines ≡ Ok (l, report) → IsLaidOut ending all lines l report)
    × (IsLaidOut ending all lines l report → laid_out ending all lines ≡ Ok (l, report))

-- ---- the line that does not fit

-- these lines are a layout, however many they are said to be
abbrev pub AreLayout : Ending → List Line → Type 0
AreLayout ending lines = (all : ℕ) × (l : Layout) × (report : Body) × IsLaidOut ending all lines l report

-- lines that others can follow so that all of them are a layout; how the others are numbered does not matter
abbrev pub CanGoOn : Ending → List Line → Type 0
CanGoOn ending front = (more : List Line) × AreLayout ending (front ++ more)

-- Whatever follows, these lines and the next one begin no layout. Where no line is next, they are none themselves.
abbrev pub IsStuck : Ending → List Line → List Line → Type 0
IsStuck ending front [] = ¬ AreLayout ending front
IsStuck ending front (next ∷ rest) = (more : List Line) → ¬ AreLayout ending (front ++ next ∷ more)

-- The lines fit up to the line of this error, and not with it. Where something is missing, it is the line after the last.
pub record IsMisfit (ending : Ending) (all : ℕ) (lines : List Line) (e : InputError) : Type 0 where
  pub front : List Line
  pub rest : List Line
  pub lines_are : lines ≡ front ++ rest
  pub answer : e ≡ misfit all rest
  pub goes_on : CanGoOn ending front
  pub stops : IsStuck ending front rest

-- the line that lines are refused at is the first that does not fit
abbrev pub MisfitIsFirst : Type 0
MisfitIsFirst = (ending : Ending) (all : ℕ) (lines : List Line) (e : InputError) → laid_out ending all lines ≡ Err e →
    IsMisfit ending all lines e

-- and it is for no other line
abbrev pub MisfitIsOne : Type 0
MisfitIsOne = (ending : Ending) (all : ℕ) (lines : List Line) (e : InputError) → IsMisfit ending all lines e →
    laid_out ending all lines ≡ Err e

-- ---- what a text is refused for

-- the text has tokens throughout, and its lines are this layout, with some report where they end so
abbrev pub IsRead : Ending → List ℕ → Layout → Type 0
IsRead ending text l = (found : Lexed) × (report : Body) × (lexed text ≡ Ok found)
    × IsLaidOut ending found.all found.list l report

-- What a text is refused for, kind by kind in the order of refusals: each kind says that those above it do not apply.
pub data IsRefused (ending : Ending) (text : List ℕ) (line : ℕ) (why : Why) : Type 0 where
  -- its first line with a fault has a byte that may stand only in a comment, or bytes that are no token
  not_ascii : lexed text ≡ Err (lexical.NotAscii line) → why ≡ whys.NotAscii → IsRefused ending text line why
  bad_token : lexed text ≡ Err (lexical.BadToken line) → why ≡ whys.BadToken → IsRefused ending text line why
  -- its first line that does not fit
  misfits : (found : Lexed) → lexed text ≡ Ok found → laid_out ending found.all found.list ≡ Err (Refused line why) →
      IsRefused ending text line why
  -- its first number of the header that is out of its limits
  bad_size : (l : Layout) → IsRead ending text l → sizes_of l ≡ Err (Refused line why) → IsRefused ending text line why
  -- its first word at the start that is out of the memory, or given before
  bad_word : (l : Layout) (sizes : Sizes) → IsRead ending text l → sizes_of l ≡ Ok sizes →
      words_of (sizes.words * sizes.blocks) l.inits ≡ Err (Refused line why) → IsRefused ending text line why
  -- its first program of no node, or of a node that has one
  bad_node : (l : Layout) (sizes : Sizes) (init : List (ℕ × ℕ)) → IsRead ending text l → sizes_of l ≡ Ok sizes →
      words_of (sizes.words * sizes.blocks) l.inits ≡ Ok init
      → nodes_of sizes.nodes l.programs ≡ Err (Refused line why) → IsRefused ending text line why
  -- the first fault of its first program with a fault
  bad_program : (l : Layout) (sizes : Sizes) (init : List (ℕ × ℕ)) (nodes : List ℕ) → IsRead ending text l →
      sizes_of l ≡ Ok sizes → words_of (sizes.words * sizes.blocks) l.inits ≡ Ok init
      → nodes_of sizes.nodes l.programs ≡ Ok nodes → parsed l.version.value l.programs ≡ Err (Refused line why) →
      IsRefused ending text line why

-- a text sets something up or is refused at a line
abbrev pub InputIsValidOrRefused : Type 0
InputIsValidOrRefused =
    (ending : Ending) (text : List ℕ)
    → ((s : Settings) × (report : Body) × (settings_and_report ending text ≡ Ok (s, report)))
    ⊎ ((line : ℕ) × (why : Why) × IsRefused ending text line why)

-- never both
abbrev pub InputIsNeverBoth : Type 0
InputIsNeverBoth =
    (ending : Ending) (text : List ℕ) (s : Settings) (report : Body) (line : ℕ) (why : Why) →
    settings_and_report ending text ≡ Ok (s, report)
    → ¬ IsRefused ending text line why

-- and at one line for one reason
abbrev pub RefusalIsOne : Type 0
RefusalIsOne =
    (ending : Ending) (text : List ℕ) (line other : ℕ) (why reason : Why) → IsRefused ending text line why →
    IsRefused ending text other reason
    → (line ≡ other) × (why ≡ reason)

-- the refusal that is found is of one of the kinds, and each of a kind is found
abbrev pub RefusalIsOfAKind : Type 0
RefusalIsOfAKind =
    (ending : Ending) (text : List ℕ) (line : ℕ) (why : Why)
    → (settings_and_report ending text ≡ Err (Refused line why) → IsRefused ending text line why)
    × (IsRefused ending text line why → settings_and_report ending text ≡ Err (Refused line why))

-- want of memory is no property of a text
abbrev pub InputIsNoMemory : Type 0
InputIsNoMemory = (ending : Ending) (text : List ℕ) → ¬ (settings_and_report ending text ≡ Err Memory)
