-- Lines that say what the lines of a report do are laid out as it.
use Rattle.std.proofs.Common.{◌≡◌, ℕ, suc, ◌+◌, ◌<◌, ◌≤◌, ◌==◌, cond, Bool, true, false, List, [], ◌∷◌, ◌++◌, length, map, Some}
use Rattle.std.proofs.Common.{Ok, refl, sym, ap, ◌∙◌, inl, inr, arith, eq-eqb}
use Rattle.std.specs.Prelude.{◌⊎◌, slice_get}
use Rattle.std.specs.List.{enumerate_from, flat_map}
use Rattle.std.proofs.lemmas.List.{length-map}
use Rattle.tw_base.specs.Answers.{◌>>?◌}
use Rattle.tw_base.specs.Lists.{Each}
use Rattle.tw_base.specs.Shape.{Sizes}
use Rattle.tw_base.specs.declared.entry.Act.{Act}
use Rattle.tw_base.specs.declared.entry.Act.TheVariants as act
use Rattle.tw_base.specs.declared.entry.Entry.{Entry}
use Rattle.tw_lex.specs.declared.token.Line.{Line}
use Rattle.tw_lex.specs.declared.token.What.{What}
use Rattle.mini_asm.specs.Spelling.{number_at, number_of_token}
use Rattle.teapot_meaning.proofs.Found.{each_both}
use Rattle.dsm_runs.specs.Setups.{Setup, size_of}
use Rattle.report_reader.specs.declared.kind.LineKind.{LineKind}
use Rattle.report_reader.specs.declared.kind.LineKind.TheVariants as kinds
use Rattle.report_reader.specs.Forms.{head_form, is_line}
use Rattle.report_reader.specs.Reading.{event_kinds, is_number, is_of, numbered}
use Rattle.report_laws.specs.Laws.{AreOf, IsLaidOut, LaidOutReportsAreRead}
use Rattle.journal.specs.declared.finals.Final.{Final}
use Rattle.journal.specs.Laws.{prints_of, with_print}
use Rattle.printed_lines.specs.Tokens.{entry_tokens}
use Rattle.printed_reports.specs.Named.{IsEntryOf, IsFinalOf}
use Rattle.printed_reports.specs.Reading.{PrintedReportsAreRead}
use Rattle.printed_reports.specs.Reports.{count_tokens, counts_said, end_tokens, events_said, head_tokens, history_tokens}
use Rattle.printed_reports.specs.Reports.{lines_if, node_registers_said, node_tokens, nodes_said, print_tokens, prints_said}
use Rattle.printed_reports.specs.Reports.{register_said, register_tokens, registers_said, said, unless_zero, word_said}
use Rattle.printed_reports.specs.Reports.{word_tokens, words_said}
use Rattle.printed_reports.proofs.Naming.{number-said}
use Rattle.printed_reports.proofs.Fitting.{count-fits, event-fits, fits-said, fits_said, head-fits, history-fits, line-said}
use Rattle.printed_reports.proofs.Fitting.{line_said, node-fits, of-said, of_said, print-fits, register-fits, word-fits}

-- ---- lines that are cut as what they say is

pub record IsCut (lines : List Line) (xs ys : List (List What)) : Type 0 where
  fronts : List Line
  behinds : List Line
  whole : lines ≡ fronts ++ behinds
  first : map said fronts ≡ xs
  second : map said behinds ≡ ys

cut : (xs ys : List (List What)) (lines : List Line) → map said lines ≡ xs ++ ys → IsCut lines xs ys
cut [] ys lines e = record { fronts = []; behinds = lines; whole = refl; first = refl; second = e }
cut (x ∷ xs) ys [] e = absurd cc
cut (x ∷ xs) ys (l ∷ ls) e =
    let one : said l ≡ x = cc in
    let more : map said ls ≡ xs ++ ys = cc in
    let c = cut xs ys ls more in
    record {
      fronts = l ∷ c.fronts;
      behinds = c.behinds;
      whole = ap (λ rest. l ∷ rest) c.whole;
      first = ap (λ w. w ∷ map said c.fronts) one ∙ ap (λ rest. x ∷ rest) c.first;
      second = c.second;
    }

-- ---- lines of a kind

module _ (shape : Sizes) (wanted : List LineKind) where
  -- wherever it stands, the line is of these kinds
  abbrev Fits : List What → Type 0
  Fits w = (before : ℕ) → of_said shape wanted before w ≡ true

  one-of : (before : ℕ) (l : Line) (w : List What) → said l ≡ w → of_said shape wanted before w ≡ true
      → is_of shape wanted before l.tokens ≡ true
  one-of before l w e h = of-said shape wanted before l.tokens ∙ ap (of_said shape wanted before) e ∙ h

  are-of : (lines : List Line) (says : List (List What)) (before : ℕ) → map said lines ≡ says → Each Fits says
      → AreOf shape wanted before lines
  are-of [] says before e h = tt
  are-of (l ∷ ls) [] before e h = absurd cc
  are-of (l ∷ ls) (w ∷ ws) before e (h, hs) =
      let one : said l ≡ w = cc in
      let more : map said ls ≡ ws = cc in
      (one-of before l w one (h before), are-of ls ws (before + 1) more hs)

  -- a line of each, numbered by its place
  are-numbered : {X : Type 0} (P : X → Type 0) (f : ℕ × X → List What) (top : ℕ)
      → ((k : ℕ) (x : X) → k < top → P x → of_said shape wanted k (f (k, x)) ≡ true)
      → (xs : List X) (lines : List Line) (k : ℕ) → k + length xs ≤ top → map said lines ≡ map f (enumerate_from k xs)
      → Each P xs → AreOf shape wanted k lines
  are-numbered P f top go xs [] k le e h = tt
  are-numbered P f top go [] (l ∷ ls) k le e h = absurd cc
  are-numbered P f top go (x ∷ xs) (l ∷ ls) k le e (h, hs) =
      let one : said l ≡ f (k, x) = cc in
      let more : map said ls ≡ map f (enumerate_from (k + 1) xs) = cc in
      (one-of k l (f (k, x)) one (go k x (omega arith) h), are-numbered P f top go xs ls (k + 1) (omega arith) more hs)

  each-fits : {X : Type 0} (P : X → Type 0) (f : ℕ × X → List (List What)) (top : ℕ)
      → ((k : ℕ) (x : X) → k < top → P x → Each Fits (f (k, x)))
      → (xs : List X) (k : ℕ) → k + length xs ≤ top → Each P xs → Each Fits (flat_map f (enumerate_from k xs))
  each-fits P f top go [] k le h = tt
  each-fits P f top go (x ∷ xs) k le (h, hs) =
      each_both Fits (f (k, x)) (flat_map f (enumerate_from (k + 1) xs)) (go k x (omega arith) h)
      (each-fits P f top go xs (k + 1) (omega arith) hs)

  unless-fits : (value : ℕ) (w : List What) → Fits w → Each Fits (unless_zero value w)
  unless-fits value w h = by (value == 0)
    where
      by : (v : Bool) → Each Fits (cond v [] (w ∷ []))
      by true = tt
      by false = (h, tt)

  if-fits : (asked : Bool) (says : List (List What)) → Each Fits says → Each Fits (lines_if asked says)
  if-fits true says h = h
  if-fits false says h = tt

length-enumerate : {X : Type 0} (k : ℕ) (xs : List X) → length (enumerate_from k xs) ≡ length xs
length-enumerate k [] = refl
length-enumerate k (x ∷ xs) = ap suc (length-enumerate (k + 1) xs)

-- as many lines as are said
length-said : (lines : List Line) (says : List (List What)) → map said lines ≡ says → length lines ≡ length says
length-said lines says e = sym (length-map lines said) ∙ ap length e

length-numbered : {X : Type 0} (f : ℕ × X → List What) (lines : List Line) (xs : List X) → map said lines ≡ map f
    (enumerate_from 0 xs) → length lines ≡ length xs
length-numbered f lines xs e = length-said lines (map f (enumerate_from 0 xs)) e ∙ length-map (enumerate_from 0 xs) f
    ∙ length-enumerate 0 xs

-- ---- numbers of events

events-numbered : (f : ℕ × Entry → List What) → ((k : ℕ) (e : Entry) → (slice_get (f (k, e)) 1 >>? number_of_token) ≡ Some k)
    → (es : List Entry) (lines : List Line) (k : ℕ)
    → map said lines ≡ map f (enumerate_from k es) → numbered k lines ≡ Ok (k + length lines)
unfolding numbered
events-numbered f named es [] k e = let n : k ≡ k + 0 = omega arith in ap Ok n
events-numbered f named [] (l ∷ ls) k e = absurd cc
events-numbered f named (x ∷ es) (l ∷ ls) k e =
    let one : said l ≡ f (k, x) = cc in
    let more : map said ls ≡ map f (enumerate_from (k + 1) es) = cc in
    let number : number_at l.tokens 1 ≡ Some k = number-said l.tokens 1 ∙ ap (λ w. slice_get w 1 >>? number_of_token) one
    ∙ named k x in
    let right : is_number k (number_at l.tokens 1) ≡ true = ap (is_number k) number ∙ eq-eqb k k refl in
    let count : k + 1 + length ls ≡ k + length (l ∷ ls) = omega arith in
    rw right (events-numbered f named es ls (k + 1) more ∙ ap Ok count)

if-numbered : (asked : Bool) (f : ℕ × Entry → List What)
    → ((k : ℕ) (e : Entry) → (slice_get (f (k, e)) 1 >>? number_of_token) ≡ Some k) → (es : List Entry) (lines : List Line)
    → map said lines ≡ lines_if asked (map f (enumerate_from 0 es)) → numbered 0 lines ≡ Ok (length lines)
if-numbered true f named es lines e =
    let n : 0 + length lines ≡ length lines = omega arith in
    events-numbered f named es lines 0 e ∙ ap Ok n
if-numbered false f named es lines e =
    let n : 0 + length lines ≡ length lines = omega arith in
    events-numbered f named [] lines 0 e ∙ ap Ok n

if-counted : (asked : Bool) (lines : List Line) (finals : List Final) → map said lines ≡ counts_said asked finals
    → (length lines ≡ 0) ⊎ (length lines ≡ length finals)
if-counted true lines finals e = inr (length-numbered count_tokens lines finals e)
if-counted false lines finals e = inl (length-said lines [] e)

if-counts-are : (asked : Bool) (s : Setup) (finals : List Final) (lines : List Line) → length finals ≤ s.shape.nodes
    → map said lines ≡ counts_said asked finals → Each (IsFinalOf s.protocol) finals
    → AreOf s.shape (kinds.Counts ∷ []) 0 lines
if-counts-are true s finals lines le e h = are-numbered s.shape (kinds.Counts ∷ [])
    (IsFinalOf s.protocol) count_tokens s.shape.nodes (λ k f lt x. count-fits s k f lt) finals lines 0 (omega arith) e h
if-counts-are false s finals lines le e h = are-of s.shape (kinds.Counts ∷ []) lines [] 0 e tt

-- ---- what each kind says

module _ (s : Setup) where
  abbrev shape : Sizes
  shape = s.shape

  abbrev FitPrint : List What → Type 0
  FitPrint = Fits shape (kinds.Print ∷ [])

  print-said : (node : ℕ) (a : Act) (rest : List (ℕ × ℕ)) → node < shape.nodes → Each FitPrint (map print_tokens rest)
      → Each FitPrint (map print_tokens (with_print node a rest))
  print-said node (act.Print value) rest lt h = ((λ k. print-fits s k node value lt), h)
  print-said node _ rest lt h = h

  prints-fit : (j : List Entry) → Each (IsEntryOf s) j → Each FitPrint (prints_said j)
  prints-fit [] h = tt
  prints-fit (e ∷ es) (h, hs) = print-said e.node e.act (prints_of es) h.node (prints-fit es hs)

  -- any word stands at its address
  words-fit : (words : List ℕ) (k : ℕ) → k + length words ≤ size_of s → Each (Fits shape (kinds.Word ∷ []))
      (flat_map word_said (enumerate_from k words))
  words-fit words k le =
      each-fits shape (kinds.Word ∷ []) (λ w. Unit {0}) word_said (size_of s) (λ address value lt x. unless-fits shape
      (kinds.Word ∷ []) value (word_tokens (address, value)) (λ b. word-fits s b address value lt)) words k le
      (units words)
    where
      units : (xs : List ℕ) → Each (λ w. Unit {0}) xs
      units [] = tt
      units (x ∷ xs) = (tt, units xs)

  registers-fit : (k : ℕ) (f : Final) → k < shape.nodes → IsFinalOf s.protocol f → Each (Fits shape (kinds.Register ∷ []))
      (node_registers_said (k, f))
  registers-fit k f lt h =
      each-fits shape (kinds.Register ∷ []) (λ w. Unit {0}) (register_said k) 16
      (λ r value few x. unless-fits shape (kinds.Register ∷ []) value (register_tokens k (r, value))
      (λ b. register-fits s b k r value lt few)) f.cpu.regs 0 (omega (arith, h.registers)) (units f.cpu.regs)
    where
      units : (xs : List ℕ) → Each (λ w. Unit {0}) xs
      units [] = tt
      units (x ∷ xs) = (tt, units xs)

  events-fit : (es : List Entry) (k : ℕ) → Each (IsEntryOf s) es → Each (Fits shape event_kinds)
      (map (entry_tokens s.protocol) (enumerate_from k es))
  events-fit [] k h = tt
  events-fit (e ∷ es) k (h, hs) = ((λ before. event-fits s before k e h), events-fit es (k + 1) hs)

  line-is : (kind : LineKind) (l : Line) (w : List What) → said l ≡ w → line_said shape kind 0 w ≡ true
      → is_line shape kind 0 l.tokens ≡ true
  line-is kind l w e h = line-said shape kind 0 l.tokens ∙ ap (line_said shape kind 0) e ∙ h

-- ---- the whole

-- the line at the front
first-is : (lines : List Line) (w : List What) (ws : List (List What)) → map said lines ≡ w ∷ ws
    → (l : Line) × (ls : List Line) × (lines ≡ l ∷ ls) × (said l ≡ w) × (map said ls ≡ ws)
first-is [] w ws e = absurd cc
first-is (l ∷ ls) w ws e =
    let one : said l ≡ w = cc in
    let more : map said ls ≡ ws = cc in
    (l, ls, refl, one, more)

none-is : (lines : List Line) → map said lines ≡ [] → lines ≡ []
none-is [] e = refl
none-is (l ∷ ls) e = absurd cc

pub report_read : LaidOutReportsAreRead → PrintedReportsAreRead
report_read law s j finals words broken o lines told e =
    let p = s.protocol in
    let shape = s.shape in
    let h = first-is lines (head_tokens s) _ e in
    let c1 = cut (prints_said j) _ h.1 h.4 in
    let c2 = cut (words_said words) _ c1.behinds c1.second in
    let c3 = cut (registers_said finals) _ c2.behinds c2.second in
    let c4 = cut (nodes_said p finals) _ c3.behinds c3.second in
    let c5 = cut (counts_said o.counts finals) _ c4.behinds c4.second in
    let c6 = cut (events_said o.journal p j) (history_tokens broken ∷ end_tokens ∷ []) c5.behinds c5.second in
    let t = first-is c6.behinds (history_tokens broken) (end_tokens ∷ []) c6.second in
    let n = first-is t.1 end_tokens [] t.4 in
    let nodes : length finals ≤ shape.nodes = omega (arith, told.each_node) in
    let last : c6.behinds ≡ t.0 ∷ n.0 ∷ [] = t.2 ∙ ap (λ ls. t.0 ∷ ls) (n.2 ∙ ap (λ ls. n.0 ∷ ls) (none-is n.1 n.4)) in
    let order : lines ≡ h.0 ∷
    (c1.fronts ++ (c2.fronts ++ (c3.fronts ++ (c4.fronts ++ (c5.fronts ++ (c6.fronts ++ (t.0 ∷ n.0 ∷ []))))))) =
    h.2 ∙ ap (λ ls. h.0 ∷ ls)
    (c1.whole ∙ ap (λ ls. c1.fronts ++ ls)
    (c2.whole ∙ ap (λ ls. c2.fronts ++ ls)
    (c3.whole ∙ ap (λ ls. c3.fronts ++ ls) (c4.whole ∙ ap (λ ls. c4.fronts ++ ls) (c5.whole
    ∙ ap (λ ls. c5.fronts ++ ls) (c6.whole ∙ ap (λ ls. c6.fronts ++ ls) last)))))) in
    let laid : IsLaidOut s.version shape lines c1.fronts c2.fronts c3.fronts c4.fronts c5.fronts c6.fronts t.0 = record {
      head = h.0;
      ending = n.0;
      in_order = order;
      head_is = fits-said shape 0 (head_form s.version shape) h.0.tokens
          ∙ ap (fits_said shape 0 (head_form s.version shape)) h.3 ∙ head-fits s;
      prints_are = are-of shape (kinds.Print ∷ []) c1.fronts (prints_said j) 0 c1.first (prints-fit s j told.entries_are);
      words_are = are-of shape (kinds.Word ∷ []) c2.fronts (words_said words) 0 c2.first
          (words-fit s words 0 (omega (arith, told.within)));
      registers_are =
          are-of shape (kinds.Register ∷ []) c3.fronts (registers_said finals) 0 c3.first
          (each-fits shape (kinds.Register ∷ []) (IsFinalOf p) node_registers_said shape.nodes (registers-fit s) finals 0
          (omega (arith, nodes)) told.ends_are);
      nodes_are =
          are-numbered shape (kinds.Node ∷ []) (IsFinalOf p) (node_tokens p) shape.nodes
          (λ k f lt x. node-fits s k f lt x.outcome) finals c4.fronts 0 (omega (arith, nodes)) c4.first told.ends_are;
      each_node = length-numbered (node_tokens p) c4.fronts finals c4.first ∙ told.each_node;
      counts_are = if-counts-are o.counts s finals c5.fronts nodes c5.first told.ends_are;
      each_or_none = elim (if-counted o.counts c5.fronts finals c5.first) [
        | inl none ↦ inl none
        | inr all ↦ inr
            (all ∙ told.each_node)
      ];
      events_are = are-of shape event_kinds c6.fronts (events_said o.journal p j) 0 c6.first
          (if-fits shape event_kinds o.journal _ (events-fit s j 0 told.entries_are));
      numbers = if-numbered o.journal (entry_tokens p) (λ k e. refl) j c6.fronts c6.first;
      history_is = line-is s kinds.History t.0 (history_tokens broken) t.3 (history-fits s broken told.break_is);
      ending_is = line-is s kinds.End n.0 end_tokens n.3 refl;
    } in
    record {
      prints = c1.fronts;
      words_told = c2.fronts;
      registers = c3.fronts;
      nodes = c4.fronts;
      counts = c5.fronts;
      events = c6.fronts;
      history = t.0;
      prints_say = c1.first;
      words_say = c2.first;
      registers_say = c3.first;
      nodes_say = c4.first;
      counts_say = c5.first;
      events_say = c6.first;
      history_says = t.3;
      is_read = λ after. law s.version shape after lines c1.fronts c2.fronts c3.fronts c4.fronts c5.fronts c6.fronts t.0 laid;
    }
