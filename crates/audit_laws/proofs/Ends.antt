-- The lines of nodes are right beside the flat machine.
use Rattle.std.proofs.Common.{◌≡◌, ◌∙◌, ℕ, zero, suc, ◌+◌, ◌<◌, ◌≤◌, ◌||◌, codes, Bool, true, false, List, [], ◌∷◌, map, Option}
use Rattle.std.proofs.Common.{Some, None, refl, ap, arith}
use Rattle.std.specs.Prelude.{slice_get, unwrap_or}
use Rattle.std.specs.List.{enumerate_from, range_with_len}
use Rattle.tw_base.specs.Answers.{◌>>?◌}
use Rattle.tw_base.specs.Lists.{Each}
use Rattle.tw_base.specs.declared.entry.End.{End}
use Rattle.tw_base.specs.declared.entry.End.TheVariants as how
use Rattle.tw_lex.specs.declared.token.Token.{Token}
use Rattle.tw_lex.specs.declared.token.What.{What}
use Rattle.tw_lex.specs.declared.token.What.TheVariants.{Word}
use Rattle.mini_asm.specs.Run.{Machine}
use Rattle.mini_asm.specs.Spelling.{word_at, word_of}
use Rattle.teapot_meaning.proofs.Found.{each_both}
use Rattle.teapot_tree.specs.declared.protocol.Protocol.{Protocol}
use Rattle.printed_text.specs.Names.{error_name}
use Rattle.dsm_runs.specs.declared.mode.Mode.{Mode}
use Rattle.dsm_runs.specs.declared.mode.Mode.TheVariants as mode
use Rattle.dsm_runs.specs.Flat.{IsBeside, flat_mode}
use Rattle.dsm_runs.specs.Outcomes.{is_spent, outcome_by, outcome_in, outcome_of}
use Rattle.dsm_runs.specs.Setups.{Setup}
use Rattle.dsm_runs.specs.Worlds.{World}
use Rattle.report_reader.specs.declared.lines.PrintedLine.{PrintedLine}
use Rattle.journal.specs.declared.finals.Final.{Final}
use Rattle.journal.specs.Finals.{counted_final}
use Rattle.printed_lines.specs.Reading.{node_at}
use Rattle.printed_lines.specs.Saying.{says}
use Rattle.printed_lines.specs.Tokens.{whats}
use Rattle.printed_reports.specs.Named.{IsFinalOf, IsOutcomeOf}
use Rattle.printed_reports.specs.Reports.{node_tokens as node_said, outcome_tokens, told}
use Rattle.printed_reports.proofs.Naming.{Unmarked, node-there, says-same, word-said}
use Rattle.report_audit.specs.Nodes.{count_tokens, end_tokens, failed_tokens, handled, is_line_beside, is_line_of, is_node_line}
use Rattle.report_audit.specs.Nodes.{is_right, node_tokens, tried, wrong_node}

-- ---- how a node ended

or-first : (a b c : Bool) → a ≡ true → (a || b || c) ≡ true
or-first true b c e = refl
or-first false b c e = absurd cc

or-second : (a b c : Bool) → b ≡ true → (a || b || c) ≡ true
or-second true true c e = refl
or-second false true c e = refl
or-second true false c e = absurd cc
or-second false false c e = absurd cc

or-third : (a b c : Bool) → c ≡ true → (a || b || c) ≡ true
or-third true true c e = refl
or-third true false c e = refl
or-third false true c e = refl
or-third false false c e = e

module _ (i place instructions handlers : ℕ) (ts : List Token) where
  -- the line of a node that ended so
  abbrev Says : List What → Type 0
  Says end = whats ts ≡ node_tokens i end place instructions handlers

  abbrev Right : Mode → Type 0
  Right m = is_node_line i (flat_mode m) place instructions handlers ts ≡ true

  said-so : (end : List What) → Each Unmarked end → Says end → says (node_tokens i end place instructions handlers)
      (whats ts) ≡ true
  said-so end h is =
      let counts : Each Unmarked (count_tokens place instructions handlers) = (tt, (tt, (tt, (tt, (tt, (tt, tt)))))) in
      ap (says (node_tokens i end place instructions handlers)) is
      ∙ says-same (node_tokens i end place instructions handlers)
      (tt, (tt, each_both Unmarked end (count_tokens place instructions handlers) h counts))

  -- as its processor stands
  stands-so : (m : Mode) (end : List What) → end_tokens (flat_mode m) ≡ end → Each Unmarked end → Says end → Right m
  stands-so m end same h is =
      or-first _ _ _ (ap (λ e. says (node_tokens i e place instructions handlers) (whats ts)) same ∙ said-so end h is)

  spent-so : (m : Mode) → Says (Word (codes "spent") ∷ []) → Right m
  spent-so m is = or-second _ _ _ (said-so (Word (codes "spent") ∷ []) (tt, tt) is)

  failed-so : (m : Mode) (name : List ℕ) → Says (Word (codes "failed") ∷ Word name ∷ []) → Right m
  failed-so m name is =
      let there : word_at ts 3 ≡ Some name = word-said ts 3 ∙ ap (λ ws. slice_get ws 3 >>? word_of) is in
      let same : failed_tokens ts ≡ Word (codes "failed") ∷ Word name ∷ [] = ap
      (λ o. Word (codes "failed") ∷ Word (unwrap_or o []) ∷ []) there in
      or-third (says (node_tokens i (end_tokens (flat_mode m)) place instructions handlers) (whats ts))
      (says (node_tokens i (Word (codes "spent") ∷ []) place instructions handlers) (whats ts)) _
      (ap (λ e. says (node_tokens i e place instructions handlers) (whats ts)) same
      ∙ said-so (Word (codes "failed") ∷ Word name ∷ []) (tt, (tt, tt)) is)

  plain-right : (p : Protocol) (m : Mode) (spent : Bool) → Says (outcome_tokens p (outcome_in m spent)) → Right m
  plain-right p (mode.Trapped why) spent is = stands-so (mode.Trapped why) _ refl (tt, (tt, tt)) is
  plain-right p (mode.Blocked b) true is = spent-so (mode.Blocked b) is
  plain-right p (mode.Blocked b) false is = stands-so (mode.Blocked b) _ refl (tt, tt) is
  plain-right p mode.Halted true is = spent-so mode.Halted is
  plain-right p mode.Halted false is = stands-so mode.Halted _ refl (tt, tt) is
  plain-right p mode.Running spent is = spent-so mode.Running is
  plain-right p mode.Woken spent is = spent-so mode.Woken is

  outcome-right : (p : Protocol) (o : Option End) (m : Mode) (spent : Bool) → IsOutcomeOf p (outcome_by o m spent)
      → Says (outcome_tokens p (outcome_by o m spent)) → Right m
  outcome-right p None m spent h is = plain-right p m spent is
  outcome-right p (Some how.Fine) m spent h is = absurd h
  outcome-right p (Some (how.Failed number)) m spent h is = failed-so m (error_name p number) is
  outcome-right p (Some how.TooDeep) m spent h is = failed-so m (codes "TooDeep") is

-- ---- the lines of nodes

module _ (s : Setup) (few : s.shape.nodes ≤ 8) (g : World) (m : Machine) (ops records : ℕ → ℕ) (beside : IsBeside s g m)
    (events : List PrintedLine) where
  abbrev p : Protocol
  p = s.protocol

  abbrev final_at : ℕ → Final
  final_at i = counted_final s (g.locals i) (ops i) (records i)

  -- its events are so many
  abbrev IsCounted : ℕ → Type 0
  IsCounted i = ((g.locals i).instructions ≡ tried i events) × ((g.locals i).handled ≡ handled i events)

  one-right : (i : ℕ) (l : PrintedLine) → i < s.shape.nodes → IsFinalOf p (final_at i) → IsCounted i
      → whats l.tokens ≡ node_said p (i, final_at i) → is_right events m l.tokens ≡ true
  one-right i l lt h (tries, handles) is =
      let n : ℕ = i in
      let here : node_at l.tokens 1 ≡ Some i = node-there l.tokens (node_said p (i, final_at i)) 1 i is refl (omega arith) in
      let line : whats l.tokens ≡ node_tokens i (outcome_tokens p (outcome_of s (g.locals i))) (g.locals i).cpu.place
      (tried i events) (handled i events) =
      is ∙ ap (λ a. node_tokens i (outcome_tokens p (outcome_of s (g.locals i))) (g.locals i).cpu.place a
      (g.locals i).handled) tries
      ∙ ap (λ b. node_tokens i (outcome_tokens p (outcome_of s (g.locals i))) (g.locals i).cpu.place
      (tried i events) b) handles in
      ap (λ o. is_line_of events m o l.tokens) here ∙ ap (λ o. is_line_beside events i o l.tokens) (beside.cores i lt)
      ∙ outcome-right i (g.locals i).cpu.place (tried i events) (handled i events) l.tokens p (g.locals i).failed
      (g.locals i).mode (is_spent s (g.locals i)) h.outcome line

  pub none-wrong : (ls : List PrintedLine) (a n : ℕ) → a + n ≤ s.shape.nodes → Each (IsFinalOf p)
      (map final_at (range_with_len a n)) → ((i : ℕ) → IsCounted i)
      → map told ls ≡ map (node_said p) (enumerate_from a (map final_at (range_with_len a n))) → wrong_node events m ls ≡ None
  unfolding wrong_node
  none-wrong [] a n le h counted e = refl
  none-wrong (l ∷ ls) a zero le h counted e = absurd cc
  none-wrong (l ∷ ls) a (suc n) le (h, hs) counted e =
      let one : told l ≡ node_said p (a, final_at a) = cc in
      let more : map told ls ≡ map (node_said p) (enumerate_from (a + 1) (map final_at (range_with_len (a + 1) n))) = cc in
      rw (one-right a l (omega arith) h (counted a) one) (none-wrong ls (a + 1) n (omega arith) hs counted more)
