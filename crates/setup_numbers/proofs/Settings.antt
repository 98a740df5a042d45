-- What a text sets up has numbers of 64 bits.
use Rattle.std.proofs.Common.{◌≡◌, ℕ, zero, suc, ◌*◌, ◌==◌, List, [], ◌∷◌, ◌++◌, Option, Some, None, Result, Ok, Err, refl, ap}
use Rattle.std.proofs.Common.{subst, arith}
use Rattle.std.specs.Prelude.{not, nat_lt, position, slice_get, unwrap_or}
use Rattle.tw_base.specs.Lists.{Each}
use Rattle.tw_lex.specs.declared.token.Line.{Line}
use Rattle.mini_asm.specs.declared.instr.Instr.{Instr}
use Rattle.mini_asm.specs.declared.instr.Instr.TheVariants.{Halt}
use Rattle.mini_asm.specs.declared.parse.ProgramError.{ProgramError}
use Rattle.mini_asm.specs.declared.parse.ProgramError.TheVariants as assembly
use Rattle.mini_asm.specs.Assembled.{program_of}
use Rattle.mini_asm.proofs.Codes.{bind_ok}
use Rattle.teapot_meaning.proofs.Found.{each_both, each_left, each_right}
use Rattle.printed_reports.specs.Named.{Small}
use Rattle.run_reports.specs.Numbers.{IsSmallProgram}
use Rattle.input_numbers.specs.Small.{ReadProgramsAreSmall, SmallLine}
use Rattle.tempest_input.specs.declared.error.InputError.{InputError}
use Rattle.tempest_input.specs.declared.error.Why.TheVariants.{OutOfRange, Repeated}
use Rattle.tempest_input.specs.declared.layout.Init.{Init}
use Rattle.tempest_input.specs.declared.layout.Section.{Section}
use Rattle.tempest_input.specs.Laws.{IsInits, IsSections}
use Rattle.tempest_input.specs.Numbers.{gathered, is_given, nodes_of, sizes_of, unless, word_in, words_of}
use Rattle.tempest_input.specs.Settings.{Settings, each_below, in_program, parsed, program_at, program_for, program_in}
use Rattle.tempest_input.specs.Settings.{settings_of}
use Rattle.setup_numbers.specs.Settings.{AreSmallSettings, SettingsOfSmallLines}
use Rattle.setup_numbers.proofs.Heads.{value-small}

-- ---- what the lines give

inits-small : (given : List Init) (lines : List Line) → IsInits given lines → Each SmallLine lines
    → Each (λ (i : Init). Small i.value) given
inits-small [] lines is h = tt
inits-small (i ∷ given) [] is h = absurd is
inits-small (i ∷ given) (l ∷ ls) is (h, hs) = (value-small l.tokens i.address i.value h is.0, inits-small given ls is.2 hs)

sections-small : (sections : List Section) (lines : List Line) → IsSections sections lines → Each SmallLine lines
    → Each (λ (x : Section). Each SmallLine x.body.lines) sections
sections-small [] lines is h = tt
sections-small (x ∷ xs) lines is h =
    let parts = subst (Each SmallLine) is.2 h in
    let front = subst (Each SmallLine) is.3.lines_are (each_left SmallLine is.0 is.1 parts) in
    (each_left SmallLine x.body.lines _ front.1, sections-small xs is.1 is.4 (each_right SmallLine is.0 is.1 parts))

-- ---- one after the other

ok-same : {X E : Type 0} (x y : X) (r : Result X E) → r ≡ Ok x → r ≡ Ok y → x ≡ y
ok-same x y r a b = cc

gathered-each : {X Y : Type 0} (P : X → Type 0) (Q : Y → Type 0) (step : List Y → X → Result Y InputError)
    → ((done : List Y) (x : X) (y : Y) → P x → step done x ≡ Ok y → Q y)
    → (xs : List X) (done ys : List Y) → Each P xs → Each Q done → gathered step done xs ≡ Ok ys → Each Q ys
unfolding gathered
gathered-each P Q step go [] done ys h k e = subst (Each Q) (ok-same {E = InputError} done ys _ refl e) k
gathered-each P Q step go (x ∷ xs) done ys (h, hs) k e =
    bind_ok (step done x) _ ys e (λ y at more. gathered-each P Q step go xs (done ++ y ∷ []) ys hs
    (each_both Q done (y ∷ []) k (go done x y h at, tt)) more)

word-of : (size : ℕ) (done : List (ℕ × ℕ)) (i : Init) (y : ℕ × ℕ) → word_in size done i ≡ Ok y → (i.address, i.value) ≡ y
unfolding word_in
word-of size done i y e =
    bind_ok (unless (nat_lt i.address size) i.line OutOfRange) _ y e (λ within at more.
    bind_ok (unless (not (is_given done i.address)) i.line Repeated) _ y more (λ once later same.
    ok-same {E = InputError} (i.address, i.value) y _ refl same))

program-read : (r : Result (List Instr) ProgramError) (p : List Instr) → in_program r ≡ Ok p → r ≡ Ok p
program-read (Ok q) p e = ap Ok (ok-same {E = InputError} q p _ refl e)
program-read (Err (assembly.BadLine line)) p e = absurd cc
program-read (Err (assembly.TooLong line)) p e = absurd cc
program-read (Err (assembly.LabelTwice line)) p e = absurd cc
program-read (Err (assembly.NoLabel line)) p e = absurd cc
program-read (Err assembly.Memory) p e = absurd cc

-- ---- the programs of the nodes

halt-small : IsSmallProgram (Halt ∷ [])
halt-small = record { short = omega arith; within = (tt, tt); numbers = (tt, tt) }

there-small : (programs : List (List Instr)) (k : ℕ) → Each IsSmallProgram programs → IsSmallProgram
    (unwrap_or (slice_get programs k) (Halt ∷ []))
there-small [] k h = halt-small
there-small (p ∷ ps) zero (h, hs) = h
there-small (p ∷ ps) (suc k) (h, hs) = there-small ps k hs

at-small : (programs : List (List Instr)) (o : Option ℕ) → Each IsSmallProgram programs → IsSmallProgram (program_at programs o)
at-small programs None h = halt-small
at-small programs (Some k) h = there-small programs k h

below-small : (nodes : List ℕ) (programs : List (List Instr)) (n : ℕ) → Each IsSmallProgram programs → Each IsSmallProgram
    (each_below (program_for nodes programs) n)
below-small nodes programs zero h = tt
below-small nodes programs (suc n) h =
    each_both IsSmallProgram (each_below (program_for nodes programs) n) (program_for nodes programs n ∷ [])
    (below-small nodes programs n h) (at-small programs (position (λ k. k == n) nodes) h, tt)

-- ---- the whole

pub settings-small : ReadProgramsAreSmall → SettingsOfSmallLines
unfolding settings_of
settings-small reads l s inits programs given sections h k e =
    bind_ok (sizes_of l) _ s e (λ sizes at_sizes rest.
    bind_ok (words_of (sizes.words * sizes.blocks) l.inits) _ s rest (λ init at_init more.
    bind_ok (nodes_of sizes.nodes l.programs) _ s more (λ nodes at_nodes others.
    bind_ok (parsed l.version.value l.programs) _ s others (λ read at_read same.
    let of : Settings = record {
      version = l.version.value;
      shape = sizes;
      init = init;
      programs = each_below
          (program_for nodes read) sizes.nodes;
      protocol = l.protocol;
    } in
    let words = gathered-each (λ (i : Init). Small i.value) (λ (y : ℕ × ℕ). Small y.1) (word_in (sizes.words * sizes.blocks))
    (λ done i y small is. subst (λ (z : ℕ × ℕ). Small z.1) (word-of (sizes.words * sizes.blocks) done i y is) small)
    l.inits [] init (inits-small l.inits inits given h) tt at_init in
    let codes = gathered-each (λ (x : Section). Each SmallLine x.body.lines) IsSmallProgram (program_in l.version.value)
    (λ done x p small is. reads l.version.value x.body.lines p small
    (program-read (program_of l.version.value x.body.lines) p is)) l.programs [] read
    (sections-small l.programs programs sections k) tt at_read in
    let small : AreSmallSettings of = record { programs = below-small nodes read sizes.nodes codes; init = words } in
    subst AreSmallSettings (ok-same {E = InputError} of s _ refl same) small))))
