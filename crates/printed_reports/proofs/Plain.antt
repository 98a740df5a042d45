-- Each line of a report is one that is read back.
use Rattle.std.proofs.Common.{◌≡◌, ℕ, zero, suc, ◌+◌, ◌*◌, ◌^◌, ◌<◌, ◌≤◌, ◌==◌, cond, codes, Bool, true, false, ◌&&◌, List, []}
use Rattle.std.proofs.Common.{◌∷◌, length, map, Option, Some, None, is_some, refl, inl, inr, arith}
use Rattle.std.specs.Prelude.{nat_le, slice_get}
use Rattle.std.specs.List.{enumerate_from, flat_map, list_all}
use Rattle.std.proofs.Math.Nat.{le-mul_of_pos_right}
use Rattle.std.proofs.lemmas.Bool.{and_from, le-leb}
use Rattle.std.proofs.lemmas.List.{length-map}
use Rattle.tw_base.specs.Lists.{Each}
use Rattle.tw_base.specs.Shape.{IsWithinLimits, Sizes}
use Rattle.tw_base.specs.declared.entry.Act.{Act}
use Rattle.tw_base.specs.declared.entry.Act.TheVariants as act
use Rattle.tw_base.specs.declared.entry.After.{After}
use Rattle.tw_base.specs.declared.entry.End.{End}
use Rattle.tw_base.specs.declared.entry.End.TheVariants as how
use Rattle.tw_base.specs.declared.entry.Entry.{Entry}
use Rattle.tw_base.specs.declared.entry.Trap.{Trap}
use Rattle.tw_base.specs.declared.entry.Trap.TheVariants.{BadAddress, FellOff}
use Rattle.tw_base.specs.declared.message.Chan.{Chan}
use Rattle.tw_base.specs.declared.message.Chan.TheVariants.{Zero, One}
use Rattle.tw_base.specs.declared.message.Kind.{Kind}
use Rattle.tw_base.specs.declared.message.Kind.TheVariants as kind
use Rattle.tw_base.specs.declared.name.Name.{Name}
use Rattle.tw_base.specs.declared.value.Tag.{Tag}
use Rattle.tw_base.specs.declared.value.Tag.TheVariants.{Invalid, ReadOnly, ReadWrite}
use Rattle.tw_lex.specs.declared.token.What.{What}
use Rattle.tw_lex.specs.declared.token.What.TheVariants.{Word, Number}
use Rattle.tw_lex.specs.Bytes.{is_word_byte}
use Rattle.teapot_tree.specs.declared.protocol.MessageDecl.{MessageDecl}
use Rattle.teapot_tree.specs.declared.protocol.Protocol.{Protocol}
use Rattle.teapot_tree.specs.declared.protocol.State.{State}
use Rattle.teapot_tree.specs.Grammar.{IsName, IsTree}
use Rattle.teapot_tree.specs.Parts.{state_names}
use Rattle.teapot_meaning.specs.Fits.{is_known}
use Rattle.teapot_meaning.specs.Names.{error_names}
use Rattle.teapot_parse.proofs.Again.{each-both}
use Rattle.teapot_meaning.proofs.Found.{each_both, each_left, each_right}
use Rattle.printed_text.specs.Names.{error_name, fault_text, kind_name, name_in, state_name, tag_text, trap_text}
use Rattle.dsm_runs.specs.declared.outcome.Outcome.{Outcome}
use Rattle.dsm_runs.specs.declared.outcome.Outcome.TheVariants as outcome
use Rattle.dsm_runs.specs.Flat.{is_completed}
use Rattle.dsm_runs.specs.Setups.{IsSetup, Setup, size_of}
use Rattle.journal.specs.declared.finals.Final.{Final}
use Rattle.journal.specs.declared.history.Break.{Break}
use Rattle.journal.specs.declared.reports.Options.{Options}
use Rattle.journal.specs.Laws.{prints_of, with_print}
use Rattle.printed_lines.specs.Tokens.{act_tokens, after_tokens, chan_number, entry_tokens, failure_tokens}
use Rattle.printed_reports.specs.Lexing.{IsPlain, IsPlainLine, begins_word, is_word}
use Rattle.printed_reports.specs.Named.{AreSmall, HasSmallCounts, IsActOf, IsBreakOf, IsEndOf, IsEntryOf, IsFinalOf, IsLeft}
use Rattle.printed_reports.specs.Named.{IsOutcomeOf, IsSmallAct, IsSmallBreak, IsSmallEntry, IsSmallFinal, IsToldOf, Small}
use Rattle.printed_reports.specs.Reports.{count_tokens, counts_said, end_tokens, events_said, head_tokens, history_tokens}
use Rattle.printed_reports.specs.Reports.{lines_if, node_registers_said, node_tokens, nodes_said, outcome_tokens, print_tokens}
use Rattle.printed_reports.specs.Reports.{prints_said, register_said, register_tokens, registers_said, report_said, unless_zero}
use Rattle.printed_reports.specs.Reports.{word_said, word_tokens, words_said}
use Rattle.printed_reports.proofs.Errors.{error-names}

-- ---- names

name-word : (profile : ℕ) (w : Name) → IsName profile w → is_word w ≡ true
name-word profile [] h = absurd (no h.first)
  where
    no : false ≡ true → ⊥
    no e = cc
name-word profile (b ∷ bs) h = and_from (begins_word (b ∷ bs)) (list_all is_word_byte (b ∷ bs) && nat_le
    (length (b ∷ bs)) 64) h.first (and_from (list_all is_word_byte (b ∷ bs)) (nat_le (length (b ∷ bs)) 64) h.others
    (le-leb (length (b ∷ bs)) 64 h.short))

abbrev Named : ℕ → List Name → Type 0
Named profile names = Each (IsName profile) names

-- the name of this number
named : (profile : ℕ) (names : List Name) (n : ℕ) → Named profile names → n < length names → is_word (name_in names n) ≡ true
named profile [] n h lt = absurd (omega arith)
named profile (w ∷ ws) zero h lt = name-word profile w h.0
named profile (w ∷ ws) (suc n) h lt = named profile ws n h.1 (omega arith)

below : {X : Type 0} (f : X → Name) (xs : List X) (n : ℕ) → is_some (slice_get xs n) ≡ true → n < length (map f xs)
below f [] n e = absurd cc
below f (x ∷ xs) zero e = omega arith
below f (x ∷ xs) (suc n) e = let lt = below f xs n e in omega arith

-- the names of states are among all of a tree
state-names : (profile : ℕ) (ss : List State) → Named profile (flat_map state_names ss) → Named profile
    (map (λ (s : State). s.name) ss)
state-names profile [] h = tt
state-names profile (s ∷ ss) (name, h) =
    (name, state-names profile ss (each_right (IsName profile) _ (flat_map state_names ss) h))

module _ (p : Protocol) (tree : IsTree p) where
  abbrev N : Name → Type 0
  N = IsName p.profile

  abbrev messages : List Name
  messages = map (λ (m : MessageDecl). m.name) p.messages

  abbrev states : List Name
  states = map (λ (s : State). s.name) p.states

  message-names : Each N messages
  message-names = each_left N messages _ tree.names.1

  all-states : Each N states
  all-states =
      let r1 = each_right N messages _ tree.names.1 in
      let r2 = each_right N (map (λ a. a.name) p.infos) _ r1 in
      let r3 = each_right N (map (λ s. s.state) p.starts) _ r2 in
      state-names p.profile p.states r3

  kind-word : (k : Kind) → is_known p k ≡ true → is_word (kind_name p k) ≡ true
  kind-word kind.RdFault e = refl
  kind-word kind.WrFault e = refl
  kind-word (kind.Named n) e = named p.profile messages n message-names (below (λ (m : MessageDecl). m.name) p.messages n e)

  state-word : (n : ℕ) → n < length p.states → is_word (state_name p n) ≡ true
  state-word n lt = named p.profile states n all-states (omega (arith, length-map p.states (λ (s : State). s.name)))

  error-word : (n : ℕ) → n < length (error_names p) → is_word (error_name p n) ≡ true
  error-word n lt = named p.profile (error_names p) n (error-names N p tree.names) lt

  -- ---- events

  abbrev Plain : List What → Type 0
  Plain ws = Each IsPlain ws

  fault-word : (store : Bool) → is_word (fault_text store) ≡ true
  fault-word true = refl
  fault-word false = refl

  trap-word : (why : Trap) → is_word (trap_text why) ≡ true
  trap-word BadAddress = refl
  trap-word FellOff = refl

  tag-word : (tag : Tag) → is_word (tag_text tag) ≡ true
  tag-word Invalid = refl
  tag-word ReadOnly = refl
  tag-word ReadWrite = refl

  chan-small : (c : Chan) → Small (chan_number c)
  chan-small Zero = omega arith
  chan-small One = omega arith

  failure-plain : (e : End) → IsEndOf p e → Plain (failure_tokens p e)
  failure-plain how.Fine h = tt
  failure-plain (how.Failed number) h = (refl, (error-word number h, tt))
  failure-plain how.TooDeep h = (refl, (refl, tt))

  after-plain : (completed : Bool) (sends : ℕ) (after : Option After) → Small sends → IsLeft p completed after
      → Plain (after_tokens p sends after)
  after-plain completed sends None small h = tt
  after-plain true sends (Some after) small h = absurd h
  after-plain false sends (Some after) small h =
      (refl, (small, (refl, (state-word after.state h.state, (refl, (tag-word after.tag, failure-plain after.end h.ended))))))

  outcome-plain : (o : Outcome) → IsOutcomeOf p o → Plain (outcome_tokens p o)
  outcome-plain outcome.Halted h = (refl, tt)
  outcome-plain (outcome.Trapped why) h = (refl, (trap-word why, tt))
  outcome-plain outcome.Spent h = (refl, tt)
  outcome-plain outcome.Stuck h = (refl, tt)
  outcome-plain (outcome.Failed how.Fine) h = absurd h
  outcome-plain (outcome.Failed (how.Failed number)) h = failure-plain (how.Failed number) h
  outcome-plain (outcome.Failed how.TooDeep) h = failure-plain how.TooDeep tt

-- ---- what the setup bounds

nodes-small : (s : Setup) → IsSetup s → (n : ℕ) → n ≤ s.shape.nodes → Small n
nodes-small s is n le = let most = is.limits.nodes in omega arith

blocks-small : (s : Setup) → IsSetup s → (b : ℕ) → b ≤ s.shape.blocks → Small b
blocks-small s is b le = let most = is.limits.blocks in omega arith

words-small : (s : Setup) → IsSetup s → s.shape.words * s.shape.blocks ≤ 512
words-small s is = grind (arith, is.limits.words, is.limits.blocks)

addresses-small : (s : Setup) → IsSetup s → (a : ℕ) → a ≤ size_of s → Small a
addresses-small s is a le = omega (arith, words-small s is)

pub budget-small : (z : Sizes) → IsWithinLimits z → z.budget ≤ 1250000
budget-small z limits =
    let some : 0 < (4 * z.nodes + 4) * z.nodes = grind (arith, limits.some_node) in
    let most : z.budget ≤ z.budget * ((4 * z.nodes + 4) * z.nodes) = le-mul_of_pos_right z.budget some in
    omega (arith, most, limits.budget)

-- ---- lines of a kind

-- lines that are numbered below a bound
numbered-lines : {X : Type 0} (P : X → Type 0) (f : ℕ × X → List (List What)) (top : ℕ)
    → ((k : ℕ) (x : X) → k < top → P x → Each IsPlainLine (f (k, x)))
    → (xs : List X) (k : ℕ) → k + length xs ≤ top → Each P xs → Each IsPlainLine (flat_map f (enumerate_from k xs))
numbered-lines P f top go [] k le h = tt
numbered-lines P f top go (x ∷ xs) k le (h, hs) =
    each_both IsPlainLine (f (k, x)) (flat_map f (enumerate_from (k + 1) xs)) (go k x (omega arith) h)
    (numbered-lines P f top go xs (k + 1) (omega arith) hs)

each-line : {X : Type 0} (P : X → Type 0) (f : ℕ × X → List What) (top : ℕ)
    → ((k : ℕ) (x : X) → k < top → P x → IsPlainLine (f (k, x)))
    → (xs : List X) (k : ℕ) → k + length xs ≤ top → Each P xs → Each IsPlainLine (map f (enumerate_from k xs))
each-line P f top go [] k le h = tt
each-line P f top go (x ∷ xs) k le (h, hs) = (go k x (omega arith) h, each-line P f top go xs (k + 1) (omega arith) hs)

unless-plain : (value : ℕ) (says : List What) → IsPlainLine says → Each IsPlainLine (unless_zero value says)
unless-plain value says h = by (value == 0)
  where
    by : (v : Bool) → Each IsPlainLine (cond v [] (says ∷ []))
    by true = tt
    by false = (h, tt)

if-plain : (asked : Bool) (lines : List (List What)) → (asked ≡ true → Each IsPlainLine lines) → Each IsPlainLine
    (lines_if asked lines)
if-plain true lines h = h refl
if-plain false lines h = tt

print-plain : (node : ℕ) (a : Act) (rest : List (ℕ × ℕ)) → Small node → IsSmallAct a → Each IsPlainLine (map print_tokens rest)
    → Each IsPlainLine (map print_tokens (with_print node a rest))
print-plain node (act.Print value) rest small h hs = ((refl, (small, (h, tt))), hs)
print-plain node _ rest small h hs = hs

module _ (s : Setup) (is : IsSetup s) where
  abbrev p : Protocol
  p = s.protocol

  tree : IsTree p
  tree = is.accepted.tree

  prints-plain : (j : List Entry) → Each (IsEntryOf s) j → Each IsSmallEntry j → Each IsPlainLine (prints_said j)
  prints-plain [] h small = tt
  prints-plain (e ∷ es) (h, hs) (small, smalls) =
      let lt = h.node in print-plain e.node e.act (prints_of es) (nodes-small s is e.node (omega arith)) small.act
      (prints-plain es hs smalls)

  act-plain : (a : Act) → IsActOf s a → IsSmallAct a → Each IsPlain (act_tokens p a)
  act-plain (act.Load address value) h small = (refl, (addresses-small s is address (omega arith), (small, tt)))
  act-plain (act.Store address value) h small = (refl, (addresses-small s is address (omega arith), (small, tt)))
  act-plain (act.Faa address value sum) h small = (refl, (addresses-small s is address (omega arith), (small.0, (small.1, tt))))
  act-plain (act.Print value) h small = (refl, (small, tt))
  act-plain act.Halt h small = (refl, tt)
  act-plain (act.Trapped why) h small = (refl, (trap-word p tree why, tt))
  act-plain act.Step h small = (refl, tt)
  act-plain (act.Fault store block) h small =
      (refl, (fault-word p tree store, (refl, (blocks-small s is block (omega arith), tt))))
  act-plain (act.Redelivered kind block from) h small =
      let b : block < s.shape.blocks = h.1 in
      let f : from < s.shape.nodes = h.2 in (
        refl,
        (
          kind-word p tree kind h.0,
          (refl, (blocks-small s is block (omega arith), (refl, (nodes-small s is from (omega arith), tt)))),
        ),
      )
  act-plain (act.Delivered kind block from chan number) h small =
      let b : block < s.shape.blocks = h.1 in
      let f : from < s.shape.nodes = h.2 in (
        refl,
        (
          kind-word p tree kind h.0,
          (
            refl,
            (
              blocks-small s is block (omega arith),
              (refl, (nodes-small s is from (omega arith), (refl, (chan-small p tree chan, (refl, (small, tt)))))),
            ),
          ),
        ),
      )

  event-plain : (k : ℕ) (e : Entry) → Small k → IsEntryOf s e × IsSmallEntry e → IsPlainLine (entry_tokens p (k, e))
  event-plain k e lt (h, small) =
      let node = h.node in
      let acts = each_both IsPlain (act_tokens p e.act) (after_tokens p e.sends e.after) (act-plain e.act h.act small.act)
      (after-plain p tree (is_completed e.act) e.sends e.after small.sends h.left) in
      (refl, (lt, (refl, (small.stamp, (refl, (nodes-small s is e.node (omega arith), acts))))))

  node-plain : (k : ℕ) (f : Final) → k < s.shape.nodes → IsFinalOf p f × IsSmallFinal f → IsPlainLine (node_tokens p (k, f))
  node-plain k f lt (h, small) =
      let counts : Each IsPlain (Word (codes "place") ∷ Number f.cpu.place ∷ Word
      (codes "instructions") ∷ Number f.instructions ∷ Word (codes "handlers") ∷ Number f.handled ∷ []) =
      (refl, (small.place, (refl, (small.instructions, (refl, (small.handled, tt)))))) in (
        refl,
        (
          nodes-small s is k (omega arith),
          each_both IsPlain (outcome_tokens p f.outcome) _
              (outcome-plain p tree f.outcome h.outcome) counts,
        ),
      )

  count-plain : (k : ℕ) (f : Final) → k < s.shape.nodes → HasSmallCounts f → IsPlainLine (count_tokens (k, f))
  count-plain k f lt (ops, records) = (refl, (nodes-small s is k (omega arith), (refl, (ops, (refl, (records, tt))))))

  word-plain : (address value : ℕ) → address < size_of s → Small value → Each IsPlainLine (word_said (address, value))
  word-plain address value lt small = unless-plain value (word_tokens (address, value))
      (refl, (addresses-small s is address (omega arith), (small, tt)))

  register-plain : (node register value : ℕ) → node < s.shape.nodes → register < 16 → Small value → Each IsPlainLine
      (register_said node (register, value))
  register-plain node register value lt few small =
      unless-plain value (register_tokens node (register, value))
      (refl, (nodes-small s is node (omega arith), (omega arith, (small, tt))))

  registers-plain : (k : ℕ) (f : Final) → k < s.shape.nodes → IsFinalOf p f × IsSmallFinal f → Each IsPlainLine
      (node_registers_said (k, f))
  registers-plain k f lt (h, small) =
      numbered-lines Small (register_said k) 16 (λ r value few x. register-plain k r value lt few x) f.cpu.regs 0
      (omega (arith, h.registers)) small.registers

  history-plain : (b : Option Break) → IsBreakOf s b → IsSmallBreak b → IsPlainLine (history_tokens b)
  history-plain None h small = (refl, (refl, tt))
  history-plain (Some b) (node, address) (event, read, due) = (
    refl,
    (
      refl,
      (
        refl,
        (
          event,
          (
            refl,
            (
              nodes-small s is b.node (omega arith),
              (refl, (addresses-small s is b.address (omega arith), (refl, (read, (refl, (due, tt)))))),
            ),
          ),
        ),
      ),
    ),
  )

  head-plain : IsPlainLine (head_tokens s)
  head-plain = (
    refl,
    (
      refl,
      (
        version,
        (
          refl,
          (
            nodes-small s is s.shape.nodes (omega arith),
            (
              refl,
              (
                few s.shape.words is.limits.words,
                (
                  refl,
                  (
                    blocks-small s is s.shape.blocks (omega arith),
                    (refl, (omega (arith, budget-small s.shape is.limits), tt)),
                  ),
                ),
              ),
            ),
          ),
        ),
      ),
    ),
  )
    where
      few : (n : ℕ) → n ≤ 8 → Small n
      few n le = omega arith

      version : Small s.version
      version = elim is.version [ inl one ↦ omega arith | inr two ↦ omega arith ]

  -- ---- the whole

  pub report-plain : (j : List Entry) (finals : List Final) (words : List ℕ) (broken : Option Break) (o : Options)
      → IsToldOf s j finals words broken → AreSmall j finals words broken o
      → Each IsPlainLine (report_said s j finals words broken o)
  report-plain j finals words broken o h small =
      let entries = each-both (IsEntryOf s) IsSmallEntry j h.entries_are small.small_entries in
      let ends = each-both (IsFinalOf p) IsSmallFinal finals h.ends_are small.small_ends in
      let count = small.few in
      let nodes : 0 + length finals ≤ s.shape.nodes = omega (arith, h.each_node) in
      let stored = numbered-lines Small word_said (size_of s) word-plain words 0 (omega (arith, h.within)) small.small_words in
      let events = if-plain o.journal _ (λ asked. each-line (λ e. IsEntryOf s e × IsSmallEntry e) (entry_tokens p)
      (2 ^ 64) event-plain j 0 (omega arith) entries) in
      let counts = if-plain o.counts _ (λ asked. each-line HasSmallCounts count_tokens s.shape.nodes count-plain finals 0 nodes
      (small.small_counts asked)) in
      let told = each-line (λ f. IsFinalOf p f × IsSmallFinal f) (node_tokens p) s.shape.nodes node-plain finals 0 nodes ends in
      let registers = numbered-lines
      (λ f. IsFinalOf p f × IsSmallFinal f) node_registers_said s.shape.nodes registers-plain finals 0 nodes ends in
      let last : Each IsPlainLine (history_tokens broken ∷ end_tokens ∷ []) =
      (history-plain broken h.break_is small.small_break, ((refl, tt), tt)) in (
        head-plain,
        each_both IsPlainLine (prints_said j) _ (prints-plain j h.entries_are small.small_entries)
            (each_both IsPlainLine (words_said words) _ stored
            (each_both IsPlainLine (registers_said finals) _ registers
            (each_both IsPlainLine (nodes_said p finals) _ told
            (each_both IsPlainLine (counts_said o.counts finals) _ counts
            (each_both IsPlainLine (events_said o.journal p j) (history_tokens broken ∷ end_tokens ∷ []) events last))))),
      )
