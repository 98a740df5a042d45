-- No text is refused for want of memory.
use Rattle.std.proofs.Common.{◌≡◌, ℕ, zero, suc, ◌+◌, Bool, true, false, cond, not, nat_lt, List, [], ◌∷◌, ◌++◌, length, Option}
use Rattle.std.proofs.Common.{Some, None, Result, Ok, Err, refl, ap}
use Rattle.std.specs.Prelude.{◌==◌}
use Rattle.std.specs.List.{list_all}
use Rattle.tw_base.specs.Answers.{◌>>=◌}
use Rattle.tw_lex.specs.declared.token.Token.{Token}
use Rattle.tw_lex.specs.declared.token.Line.{Line}
use Rattle.tw_lex.specs.declared.token.Lexed.{Lexed}
use Rattle.tw_lex.specs.declared.token.LexError.{LexError}
use Rattle.tw_lex.specs.declared.token.LexError.TheVariants as lexical
use Rattle.tw_lex.specs.Bytes.{code_of, is_allowed}
use Rattle.tw_lex.specs.Lines.{lexed, line_tokens, lines_from, lines_of, or_bad, tokens_from, tokens_of}
use Rattle.mini_asm.specs.declared.form.Form.{Form}
use Rattle.mini_asm.specs.declared.form.Form.TheVariants.{Label, Code}
use Rattle.mini_asm.specs.declared.form.Written.{Written}
use Rattle.mini_asm.specs.declared.instr.Instr.{Instr}
use Rattle.mini_asm.specs.declared.parse.ProgramError.{ProgramError}
use Rattle.mini_asm.specs.declared.parse.ProgramError.TheVariants as assembly
use Rattle.mini_asm.specs.Assembled.{assembled, code_line, code_of as code_in, codes_of, or_bad_line, or_no_label, place_of}
use Rattle.mini_asm.specs.Assembled.{program_of, refuse, twice, written_of}
use Rattle.mini_asm.specs.Spelling.{form_of}
use Rattle.tempest_input.specs.declared.head.Head.{Head}
use Rattle.tempest_input.specs.declared.head.Head.TheVariants as heads
use Rattle.tempest_input.specs.declared.head.Field.{Field}
use Rattle.tempest_input.specs.declared.head.Field.TheVariants.{Version, Nodes, Words, Blocks}
use Rattle.tempest_input.specs.declared.head.Shipped.{Shipped}
use Rattle.tempest_input.specs.declared.layout.Init.{Init}
use Rattle.tempest_input.specs.declared.layout.Section.{Section}
use Rattle.tempest_input.specs.declared.layout.Choice.{Choice}
use Rattle.tempest_input.specs.declared.layout.Choice.TheVariants as choices
use Rattle.tempest_input.specs.declared.layout.Body.{Body}
use Rattle.tempest_input.specs.declared.layout.Ending.{Ending}
use Rattle.tempest_input.specs.declared.layout.Layout.{Layout}
use Rattle.tempest_input.specs.declared.error.InputError.{InputError}
use Rattle.tempest_input.specs.declared.error.InputError.TheVariants.{Memory}
use Rattle.tempest_input.specs.declared.error.Why.{Why}
use Rattle.tempest_input.specs.declared.error.Why.TheVariants.{OutOfRange, Repeated}
use Rattle.tempest_input.specs.Heads.{head_of}
use Rattle.tempest_input.specs.Layout.{behind, body_as, body_in, choice_as, choice_in, ending_in, ends_so, field_as, field_in}
use Rattle.tempest_input.specs.Layout.{is_end, laid_out, misfit, next_node, number_in, sections_as, sections_below}
use Rattle.tempest_input.specs.Numbers.{budget_or, gathered, is_budget, is_within, is_given, has_program, node_in, nodes_of}
use Rattle.tempest_input.specs.Numbers.{sizes_of, unless, word_in, words_of}
use Rattle.tempest_input.specs.Settings.{in_line, in_program, settings_and_report, layout_of, parsed, program_in, settings_of}
use Rattle.tempest_input.proofs.Parts.{behind_all, err-same}

-- this is not the error
abbrev pub Never : {A E : Type 0} → E → Result A E → Type 0
Never e r = ¬ (r ≡ Err e)

pub never-ok : {A E : Type 0} (e : E) (x : A) → Never e (Ok x)
never-ok e x h = absurd (cc h)

pub never-then : {A B E : Type 0} (e : E) (r : Result A E) (f : A → Result B E) → Never e r → ((x : A) → Never e (f x)) →
    Never e (r >>= f)
never-then e (Ok x) f n m h = m x h
never-then e (Err k) f n m h = n (ap Err (err-same k e h))

-- ---- tokens

or_bad-never : (number : ℕ) (o : Option (List Token)) → Never lexical.Memory (or_bad number o)
or_bad-never number None h = absurd (cc h)
or_bad-never number (Some ts) h = absurd (cc h)

line-never : (number start : ℕ) (line : List ℕ) → Never lexical.Memory (line_tokens number start line)
line-never number start line = go (list_all is_allowed (code_of line))
  where
    go : (b : Bool) → Never lexical.Memory (cond b (tokens_of number start (code_of line)) (Err (lexical.NotAscii number)))
    go true h = or_bad-never number (tokens_from 0 start (code_of line)) h
    go false h = absurd (cc h)

lines-never : (number start : ℕ) (ls : List (List ℕ)) → Never lexical.Memory (lines_from number start ls)
unfolding lines_from
lines-never number start [] = never-ok _ _
lines-never number start (line ∷ rest) = never-then _ _ _ (line-never number start line)
    (λ ts. never-then _ _ _ (lines-never (number + 1) (start + length line + 1) rest) (λ ls. never-ok _ _))

pub lexed-never : (text : List ℕ) → Never lexical.Memory (lexed text)
unfolding lexed
lexed-never text = never-then _ _ _ (lines-never 1 0 (lines_of text)) (λ ls. never-ok _ _)

in_line-never : (r : Result Lexed LexError) → Never lexical.Memory r → Never Memory (in_line r)
in_line-never (Ok found) n h = absurd (cc h)
in_line-never (Err (lexical.NotAscii line)) n h = absurd (cc h)
in_line-never (Err (lexical.BadToken line)) n h = absurd (cc h)
in_line-never (Err lexical.Memory) n h = n refl

-- ---- the layout

misfit-never : {A : Type 0} (all : ℕ) (rest : List Line) → Never {A = A} Memory (Err (misfit all rest))
misfit-never all [] h = absurd (cc h)
misfit-never all (l ∷ ls) h = absurd (cc h)

field-never : (field : Field) (all : ℕ) (lines : List Line) → Never Memory (field_in field all lines)
unfolding field_in
field-never field all [] = misfit-never all []
field-never field all (l ∷ ls) = go (number_in field (head_of l.tokens))
  where
    go : (o : Option ℕ) → Never Memory (field_as o all l ls)
    go (Some n) h = absurd (cc h)
    go None h = misfit-never all (l ∷ ls) h

body-never : (all : ℕ) (lines : List Line) → Never Memory (body_in all lines)
unfolding body_in
body-never all [] = misfit-never all []
body-never all (l ∷ ls) = go (is_end (head_of l.tokens)) (body-never all ls)
  where
    go : (b : Bool) → Never Memory (body_in all ls) → Never Memory (body_as b l ls (body_in all ls))
    go true n h = absurd (cc h)
    go false n h = never-then _ _ _ n (λ b. never-ok _ _) h

sections-never : (most all : ℕ) (lines : List Line) → Never Memory (sections_below most all lines)
unfolding sections_below
sections-never zero all lines = never-ok _ _
sections-never (suc most) all lines = go (next_node lines) (λ rest. sections-never most all rest)
  where
    go : (o : Option ℕ) → ((rest : List Line) → Never Memory (sections_below most all rest)) →
        Never Memory (sections_as o all lines (λ rest. sections_below most all rest))
    go None n = never-ok _ _
    go (Some node) n = never-then _ _ _ (never-then _ _ _ (body-never all _) (λ b. never-ok _ _))
        (λ s. never-then _ _ _ (n s.1) (λ r. never-ok _ _))

choice-never : (version all : ℕ) (lines : List Line) → Never Memory (choice_in version all lines)
unfolding choice_in
choice-never version all [] = never-ok _ _
choice-never version all (l ∷ ls) = go (head_of l.tokens)
  where
    shipped : (which : Shipped) (b : Bool) → Never {A = Choice × List Line} Memory
        (cond b (Ok (choices.Shipped l.number which, ls)) (Ok (choices.Default, l ∷ ls)))
    shipped which true = never-ok _ _
    shipped which false = never-ok _ _

    go : (h : Head) → Never Memory (choice_as version all h l ls)
    go heads.Protocol = never-then _ _ _ (body-never all ls) (λ b. never-ok _ _)
    go (heads.Shipped which) = shipped which (version == 2)
    go _ = never-ok _ _

ending-never : (ending : Ending) (all : ℕ) (lines : List Line) → Never Memory (ending_in ending all lines)
unfolding ending_in
ending-never ending all lines = go (ends_so ending lines)
  where
    go : (b : Bool) → Never {A = Body} Memory (cond b (Ok (behind_all all (behind lines))) (Err (misfit all lines)))
    go true = never-ok _ _
    go false = misfit-never all lines

pub laid_out-never : (ending : Ending) (all : ℕ) (lines : List Line) → Never Memory (laid_out ending all lines)
unfolding laid_out
laid_out-never ending all lines =
    never-then _ _ _ (field-never Version all lines) (λ v.
    never-then _ _ _ (field-never Nodes all v.1) (λ n.
    never-then _ _ _ (field-never Words all n.1) (λ w.
    never-then _ _ _ (field-never Blocks all w.1) (λ b.
    never-then _ _ _ (sections-never _ all _) (λ s.
    never-then _ _ _ (choice-never v.0.value all s.1) (λ c.
    never-then _ _ _ (ending-never ending all c.1) (λ report. never-ok _ _)))))))

-- ---- numbers

unless-never : (b : Bool) (line : ℕ) (why : Why) → Never Memory (unless b line why)
unless-never true line why h = absurd (cc h)
unless-never false line why h = absurd (cc h)

pub sizes-never : (l : Layout) → Never Memory (sizes_of l)
unfolding sizes_of
sizes-never l =
    never-then _ _ _ (unless-never (is_within 1 2 l.version.value) l.version.line OutOfRange) (λ v.
    never-then _ _ _ (unless-never (is_within 1 8 l.nodes.value) l.nodes.line OutOfRange) (λ n.
    never-then _ _ _ (unless-never (is_within 1 8 l.words.value) l.words.line OutOfRange) (λ w.
    never-then _ _ _ (unless-never (is_within 1 64 l.blocks.value) l.blocks.line OutOfRange) (λ b.
    never-then _ _ _ (unless-never (is_budget l.nodes.value (budget_or l.blocks l.budget).value)
    (budget_or l.blocks l.budget).line OutOfRange) (λ g. never-ok _ _)))))

gathered-never : {X Y : Type 0} (step : List Y → X → Result Y InputError) →
    ((done : List Y) (x : X) → Never Memory (step done x)) → (done : List Y) (xs : List X) →
    Never Memory (gathered step done xs)
unfolding gathered
gathered-never step n done [] = never-ok _ _
gathered-never step n done (x ∷ xs) = never-then _ _ _ (n done x) (λ y. gathered-never step n (done ++ y ∷ []) xs)

word-never : (size : ℕ) (done : List (ℕ × ℕ)) (i : Init) → Never Memory (word_in size done i)
unfolding word_in
word-never size done i = never-then _ _ _ (unless-never (nat_lt i.address size) i.line OutOfRange)
    (λ a. never-then _ _ _ (unless-never (not (is_given done i.address)) i.line Repeated) (λ b. never-ok _ _))

pub words-never : (size : ℕ) (inits : List Init) → Never Memory (words_of size inits)
words-never size inits = gathered-never (word_in size) (word-never size) [] inits

node-never : (nodes : ℕ) (done : List ℕ) (s : Section) → Never Memory (node_in nodes done s)
unfolding node_in
node-never nodes done s = never-then _ _ _ (unless-never (nat_lt s.node nodes) s.line OutOfRange)
    (λ a. never-then _ _ _ (unless-never (not (has_program done s.node)) s.line Repeated) (λ b. never-ok _ _))

pub nodes-never : (nodes : ℕ) (sections : List Section) → Never Memory (nodes_of nodes sections)
nodes-never nodes sections = gathered-never (node_in nodes) (node-never nodes) [] sections

-- ---- programs

or_bad_line-never : (line : ℕ) (o : Option Form) → Never assembly.Memory (or_bad_line line o)
or_bad_line-never line None h = absurd (cc h)
or_bad_line-never line (Some f) h = absurd (cc h)

written-never : (version : ℕ) (lines : List Line) → Never assembly.Memory (written_of version lines)
unfolding written_of
written-never version [] = never-ok _ _
written-never version (l ∷ ls) = never-then _ _ _ (or_bad_line-never l.number (form_of version l.tokens))
    (λ w. never-then _ _ _ (written-never version ls) (λ ws. never-ok _ _))

or_no_label-never : (line : ℕ) (i : Instr) (o : Option ℕ) → Never assembly.Memory (or_no_label line i o)
or_no_label-never line i None h = absurd (cc h)
or_no_label-never line i (Some place) h = absurd (cc h)

code-never : (places : List ℕ → Option ℕ) (line : ℕ) (f : Form) → Never assembly.Memory (code_in places line f)
code-never places line (Label name) h = absurd (cc h)
code-never places line (Code i None) h = absurd (cc h)
code-never places line (Code i (Some target)) h = or_no_label-never line i (places target) h

codes-never : (places : List ℕ → Option ℕ) (ws : List Written) → Never assembly.Memory (codes_of places ws)
unfolding codes_of
codes-never places [] = never-ok _ _
codes-never places (w ∷ ws) = never-then _ _ _ (code-never places w.line w.form)
    (λ front. never-then _ _ _ (codes-never places ws) (λ rest. never-ok _ _))

long-never : (o : Option ℕ) → Never assembly.Memory (refuse assembly.TooLong o)
long-never None h = absurd (cc h)
long-never (Some line) h = absurd (cc h)

twice-never : (o : Option ℕ) → Never assembly.Memory (refuse assembly.LabelTwice o)
twice-never None h = absurd (cc h)
twice-never (Some line) h = absurd (cc h)

program-never : (version : ℕ) (lines : List Line) → Never assembly.Memory (program_of version lines)
unfolding program_of assembled
program-never version lines = never-then _ _ _ (written-never version lines) (λ ws.
    never-then _ _ _ (long-never (code_line 4096 ws)) (λ short. never-then _ _ _ (twice-never (twice [] ws))
    (λ once. codes-never (place_of ws) ws)))

in_program-never : (r : Result (List Instr) ProgramError) → Never assembly.Memory r → Never Memory (in_program r)
in_program-never (Ok p) n h = absurd (cc h)
in_program-never (Err (assembly.BadLine line)) n h = absurd (cc h)
in_program-never (Err (assembly.TooLong line)) n h = absurd (cc h)
in_program-never (Err (assembly.LabelTwice line)) n h = absurd (cc h)
in_program-never (Err (assembly.NoLabel line)) n h = absurd (cc h)
in_program-never (Err assembly.Memory) n h = n refl

pub parsed-never : (version : ℕ) (sections : List Section) → Never Memory (parsed version sections)
parsed-never version sections = gathered-never (program_in version)
    (λ done s. in_program-never (program_of version s.body.lines) (program-never version s.body.lines)) [] sections

-- ---- the whole

pub settings-never : (l : Layout) → Never Memory (settings_of l)
unfolding settings_of
settings-never l =
    never-then _ _ _ (sizes-never l) (λ sizes.
    never-then _ _ _ (words-never _ l.inits) (λ init.
    never-then _ _ _ (nodes-never sizes.nodes l.programs) (λ nodes.
    never-then _ _ _ (parsed-never l.version.value l.programs) (λ programs. never-ok _ _))))

pub layout-never : (ending : Ending) (text : List ℕ) → Never Memory (layout_of ending text)
unfolding layout_of
layout-never ending text = never-then _ _ _ (in_line-never (lexed text) (lexed-never text))
    (λ found. laid_out-never ending found.all found.list)

pub input-never : (ending : Ending) (text : List ℕ) → Never Memory (settings_and_report ending text)
input-never ending text = never-then _ _ _ (layout-never ending text)
    (λ l. never-then _ _ _ (settings-never l.0) (λ s. never-ok _ _))
