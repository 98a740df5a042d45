-- The text of a report is that of its lines.
use Rattle.std.proofs.Common.{◌≡◌, ℕ, ◌==◌, cond, codes, Bool, true, false, List, [], ◌∷◌, ◌++◌, map, Option, Some, None, refl}
use Rattle.std.proofs.Common.{sym, ap, ◌∙◌, append_assoc, append-nil}
use Rattle.std.specs.Prelude.{decimal}
use Rattle.std.specs.Fmt.{digits}
use Rattle.std.specs.List.{enumerate_from, flat_map}
use Rattle.std.proofs.lemmas.List.{map-append}
use Rattle.std.proofs.lemmas.List.Concat.{flat_map-append}
use Rattle.tw_base.specs.declared.entry.Act.{Act}
use Rattle.tw_base.specs.declared.entry.Act.TheVariants as act
use Rattle.tw_base.specs.declared.entry.After.{After}
use Rattle.tw_base.specs.declared.entry.End.{End}
use Rattle.tw_base.specs.declared.entry.End.TheVariants as how
use Rattle.tw_base.specs.declared.entry.Entry.{Entry}
use Rattle.tw_base.specs.declared.message.Chan.{Chan}
use Rattle.tw_base.specs.declared.message.Chan.TheVariants.{Zero, One}
use Rattle.tw_lex.specs.declared.token.What.{What}
use Rattle.tw_lex.specs.declared.token.What.TheVariants.{Word, Number}
use Rattle.teapot_tree.specs.declared.protocol.Protocol.{Protocol}
use Rattle.printed_text.specs.Lines.{line}
use Rattle.printed_text.specs.Names.{chan_text, failure_words}
use Rattle.dsm_runs.specs.declared.outcome.Outcome.{Outcome}
use Rattle.dsm_runs.specs.declared.outcome.Outcome.TheVariants as outcome
use Rattle.dsm_runs.specs.Setups.{Setup}
use Rattle.journal.specs.declared.finals.Final.{Final}
use Rattle.journal.specs.declared.history.Break.{Break}
use Rattle.journal.specs.declared.reports.Options.{Options}
use Rattle.journal.specs.Laws.{ReportPrints, print_text, prints_of}
use Rattle.journal.specs.Reports.{act_words, after_words, count_line, event_line, head, history_line, if_asked, node_line}
use Rattle.journal.specs.Reports.{outcome_words, register_line, register_lines, report_of, word_line}
use Rattle.printed_lines.specs.Tokens.{act_tokens, after_tokens, chan_number, entry_tokens, failure_tokens}
use Rattle.printed_reports.specs.Lexing.{text_line, text_of, what_text}
use Rattle.printed_reports.specs.Reports.{count_tokens, counts_said, end_tokens, events_said, head_tokens, history_tokens}
use Rattle.printed_reports.specs.Reports.{lines_if, node_registers_said, node_tokens, nodes_said, outcome_tokens, print_tokens}
use Rattle.printed_reports.specs.Reports.{prints_said, register_said, register_tokens, registers_said, report_said, unless_zero}
use Rattle.printed_reports.specs.Reports.{word_said, word_tokens, words_said}

-- ---- one line

head-text : (s : Setup) → text_line (head_tokens s) ≡ head s
head-text s = refl

print-text : (print : ℕ × ℕ) → text_line (print_tokens print) ≡ print_text print
print-text print = refl

unless-text : (value : ℕ) (says : List What) → text_of (unless_zero value says) ≡ cond (value == 0) [] (text_line says)
unless-text value says = by (value == 0)
  where
    by : (v : Bool) → text_of (cond v [] (says ∷ [])) ≡ cond v [] (text_line says)
    by true = refl
    by false = append-nil (text_line says)

word-text : (word : ℕ × ℕ) → text_of (word_said word) ≡ word_line word
word-text word = unless-text word.1 (word_tokens word)

register-text : (node : ℕ) (register : ℕ × ℕ) → text_of (register_said node register) ≡ register_line node register
register-text node register = unless-text register.1 (register_tokens node register)

failure-text : (p : Protocol) (e : End) → map what_text (failure_tokens p e) ≡ failure_words p e
failure-text p how.Fine = refl
failure-text p (how.Failed number) = refl
failure-text p how.TooDeep = refl

outcome-text : (p : Protocol) (o : Outcome) → map what_text (outcome_tokens p o) ≡ outcome_words p o
outcome-text p outcome.Halted = refl
outcome-text p (outcome.Trapped why) = refl
outcome-text p outcome.Spent = refl
outcome-text p outcome.Stuck = refl
outcome-text p (outcome.Failed e) = failure-text p e

-- what stands behind the outcome of a node
abbrev counts_of : Final → List What
counts_of f = Word (codes "place") ∷ Number f.cpu.place ∷ Word (codes "instructions") ∷ Number f.instructions ∷ Word
    (codes "handlers") ∷ Number f.handled ∷ []

node-text : (p : Protocol) (ended : ℕ × Final) → text_line (node_tokens p ended) ≡ node_line p ended
node-text p ended =
    ap (λ words. line (codes "node" ∷ decimal ended.0 ∷ words))
    (map-append what_text (outcome_tokens p ended.1.outcome) (counts_of ended.1)
    ∙ ap (λ words. words ++ map what_text (counts_of ended.1)) (outcome-text p ended.1.outcome))

count-text : (ended : ℕ × Final) → text_line (count_tokens ended) ≡ count_line ended
count-text ended = refl

chan-text : (c : Chan) → decimal (chan_number c) ≡ chan_text c
unfolding digits
chan-text Zero = refl
chan-text One = refl

act-text : (p : Protocol) (a : Act) → map what_text (act_tokens p a) ≡ act_words p a
act-text p (act.Load address value) = refl
act-text p (act.Store address value) = refl
act-text p (act.Faa address value sum) = refl
act-text p (act.Print value) = refl
act-text p act.Halt = refl
act-text p (act.Trapped why) = refl
act-text p act.Step = refl
act-text p (act.Fault store block) = refl
act-text p (act.Redelivered kind block from) = refl
act-text p (act.Delivered kind block from chan number) = rw (chan-text chan) refl

after-text : (p : Protocol) (sends : ℕ) (after : Option After) → map what_text
    (after_tokens p sends after) ≡ after_words p sends after
after-text p sends None = refl
after-text p sends (Some after) = rw (failure-text p after.end) refl

event-text : (p : Protocol) (event : ℕ × Entry) → text_line (entry_tokens p event) ≡ event_line p event
event-text p event =
    let a = act_tokens p event.1.act in
    let b = after_tokens p event.1.sends event.1.after in
    ap (λ words. line
    (codes "event" ∷ decimal event.0 ∷ codes "stamp" ∷ decimal event.1.stamp ∷ codes "node" ∷ decimal event.1.node ∷ words))
    (map-append what_text a b ∙ ap (λ words. words ++ map what_text b) (act-text p event.1.act)
    ∙ ap (λ words. act_words p event.1.act ++ words) (after-text p event.1.sends event.1.after))

history-text : (b : Option Break) → text_line (history_tokens b) ≡ history_line b
history-text None = refl
history-text (Some b) = refl

-- ---- lines of a kind

map-text : {X : Type 0} (f : X → List What) (g : X → List ℕ) → ((x : X) → text_line (f x) ≡ g x) → (xs : List X)
    → text_of (map f xs) ≡ flat_map g xs
map-text f g same [] = refl
map-text f g same (x ∷ xs) = ap (λ l. l ++ text_of (map f xs)) (same x) ∙ ap (λ l. g x ++ l) (map-text f g same xs)

flat-text : {X : Type 0} (f : X → List (List What)) (g : X → List ℕ) → ((x : X) → text_of (f x) ≡ g x) → (xs : List X)
    → text_of (flat_map f xs) ≡ flat_map g xs
flat-text f g same [] = refl
flat-text f g same (x ∷ xs) =
    flat_map-append text_line (f x) (flat_map f xs) ∙ ap (λ l. l ++ text_of (flat_map f xs)) (same x) ∙ ap (λ l. g x ++ l)
    (flat-text f g same xs)

registers-text : (ended : ℕ × Final) → text_of (node_registers_said ended) ≡ register_lines ended
registers-text ended = flat-text (register_said ended.0) (register_line ended.0) (register-text ended.0)
    (enumerate_from 0 ended.1.cpu.regs)

if-text : (asked : Bool) (lines : List (List What)) (text : List ℕ) → text_of lines ≡ text
    → text_of (lines_if asked lines) ≡ if_asked asked text
if-text true lines text e = e
if-text false lines text e = refl

-- ---- the whole

behind : (xs ys : List (List What)) (a b : List ℕ) → text_of xs ≡ a → text_of ys ≡ b → text_of (xs ++ ys) ≡ a ++ b
behind xs ys a b e f = flat_map-append text_line xs ys ∙ ap (λ l. l ++ text_of ys) e ∙ ap (λ l. a ++ l) f

regrouped : (a b c d e f g h i : List ℕ)
    → a ++ (b ++ (c ++ (d ++ (e ++ (f ++ (g ++ (h ++ i))))))) ≡ a ++ b ++ c ++ d ++ e ++ f ++ g ++ h ++ i
regrouped a b c d e f g h i = simp append_assoc

pub report_text : ReportPrints → (s : Setup) (j : List Entry) (finals : List Final) (words : List ℕ) (broken : Option Break)
    (o : Options) →
    text_of (report_said s j finals words broken o) ≡ report_of s j finals words broken o
report_text prints s j finals words broken o =
    let p = s.protocol in
    let ended = enumerate_from 0 finals in
    let last : text_of (history_tokens broken ∷ end_tokens ∷ []) ≡ history_line broken ++ codes "end\n" = ap
    (λ l. l ++ codes "end\n") (history-text broken) in
    let events = behind (events_said o.journal p j) (history_tokens broken ∷ end_tokens ∷ []) _ _
    (if-text o.journal (map (entry_tokens p) (enumerate_from 0 j)) _ (map-text (entry_tokens p) (event_line p) (event-text p)
    (enumerate_from 0 j))) last in
    let counts = behind (counts_said o.counts finals) _ _ _ (if-text o.counts (map count_tokens ended) _
    (map-text count_tokens count_line count-text ended)) events in
    let nodes = behind (nodes_said p finals) _ _ _ (map-text (node_tokens p) (node_line p) (node-text p) ended) counts in
    let registers = behind (registers_said finals) _ _ _
    (flat-text node_registers_said register_lines registers-text ended) nodes in
    let stored = behind (words_said words) _ _ _ (flat-text word_said word_line word-text (enumerate_from 0 words)) registers in
    let printed = behind (prints_said j) _ _ _ (map-text print_tokens print_text print-text (prints_of j)) stored in
    ap (λ l. head s ++ l) printed ∙ regrouped (head s) _ _ _ _ _ _ _ _ ∙ sym (prints s j finals words broken o)
