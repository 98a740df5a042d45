-- The lines of a run's instructions, executed on a flat machine that the journal follows, do what they say.
use Rattle.std.proofs.Common.{◌≡◌, ◌∙◌, ℕ, zero, suc, ◌+◌, ◌<◌, ◌≤◌, cond, Bool, true, false, List, [], ◌∷◌, ◌++◌, drop, Option}
use Rattle.std.proofs.Common.{Some, None, Result, Ok, refl, sym, ap, subst, arith, append_assoc, append-nil}
use Rattle.std.specs.Prelude.{count_by}
use Rattle.std.specs.List.{flat_map}
use Rattle.std.proofs.lemmas.List.Sums.{sum_by-cons}
use Rattle.tw_base.specs.Answers.{◌>>=◌}
use Rattle.tw_base.specs.Lists.{Each}
use Rattle.tw_base.specs.declared.entry.Act.{Act}
use Rattle.tw_base.specs.declared.entry.Act.TheVariants as act
use Rattle.tw_base.specs.declared.entry.After.{After}
use Rattle.tw_base.specs.declared.entry.Entry.{Entry}
use Rattle.tw_lex.specs.declared.token.Token.{Token}
use Rattle.teapot_tree.specs.declared.protocol.Protocol.{Protocol}
use Rattle.mini_asm.specs.Run.{Machine}
use Rattle.dsm_runs.specs.Flat.{Follows, FollowsOne, flat_step, is_completed}
use Rattle.dsm_runs.specs.Setups.{Setup}
use Rattle.report_reader.specs.declared.error.AuditError.{AuditError}
use Rattle.report_reader.specs.declared.lines.PrintedLine.{PrintedLine}
use Rattle.printed_lines.specs.Reading.{node_of}
use Rattle.printed_lines.specs.Saying.{says}
use Rattle.printed_lines.specs.Tokens.{act_tokens, after_tokens, entry_tokens, whats}
use Rattle.printed_reports.specs.Named.{IsEntryOf, IsLeft}
use Rattle.printed_reports.proofs.Naming.{act-unmarked, kind-said, kind_of_act, node-said, says-same}
use Rattle.report_audit.specs.declared.due.Due.{Due}
use Rattle.report_audit.specs.declared.execute.Executed.{Executed}
use Rattle.report_audit.specs.Executing.{completed, executed, executed_as, executed_at, executed_if}
use Rattle.report_audit.specs.Executing.{is_completed as is_completed_line, is_completion, line_executed, print_due}
use Rattle.printed_reports.proofs.Saying.{SayFrom}

-- ---- one line

completes : (a : Act) → is_completion (kind_of_act a) ≡ is_completed a
completes (act.Load address value) = refl
completes (act.Store address value) = refl
completes (act.Faa address value sum) = refl
completes (act.Print value) = refl
completes act.Halt = refl
completes (act.Trapped why) = refl
completes act.Step = refl
completes (act.Fault store block) = refl
completes (act.Redelivered kind block from) = refl
completes (act.Delivered kind block from chan number) = refl

line-completes : (p : Protocol) (k : ℕ) (e : Entry) (l : PrintedLine) → whats l.tokens ≡ entry_tokens p (k, e)
    → is_completed_line l.tokens ≡ is_completed e.act
line-completes p k e l is = ap is_completion (kind-said p k e l.tokens is) ∙ completes e.act

drop-whats : (n : ℕ) (ts : List Token) → whats (drop n ts) ≡ drop n (whats ts)
drop-whats zero ts = refl
drop-whats (suc n) [] = refl
drop-whats (suc n) (t ∷ ts) = drop-whats n ts

no-after : (p : Protocol) (sends : ℕ) (after : Option After) → IsLeft p true after → after_tokens p sends after ≡ []
no-after p sends None h = refl
no-after p sends (Some after) h = absurd h

-- what stands behind the node on the line of an instruction that completed
act-said : (p : Protocol) (k : ℕ) (e : Entry) (ts : List Token) → whats ts ≡ entry_tokens p (k, e) → IsLeft p true e.after
    → says (act_tokens p e.act) (whats (drop 6 ts)) ≡ true
act-said p k e ts is left =
    let here : whats (drop 6 ts) ≡ act_tokens p e.act =
    drop-whats 6 ts ∙ ap (drop 6) is ∙ ap (λ more. act_tokens p e.act ++ more) (no-after p e.sends e.after left)
    ∙ append-nil (act_tokens p e.act) in
    ap (says (act_tokens p e.act)) here ∙ says-same (act_tokens p e.act) (act-unmarked p e.act)

-- ---- what is printed

abbrev pub dues : List Entry → List Due
dues es = flat_map (λ e. print_due e.node e.act) es

silent-due : (node : ℕ) (a : Act) → is_completed a ≡ false → print_due node a ≡ []
silent-due node (act.Fault store block) h = refl
silent-due node (act.Redelivered kind block from) h = refl
silent-due node (act.Delivered kind block from chan number) h = refl
silent-due node (act.Load address value) h = absurd cc
silent-due node (act.Store address value) h = absurd cc
silent-due node (act.Faa address value sum) h = absurd cc
silent-due node (act.Print value) h = absurd cc
silent-due node act.Halt h = absurd cc
silent-due node (act.Trapped why) h = absurd cc
silent-due node act.Step h = absurd cc

-- ---- lines in their order

abbrev pub with : Machine → List Due → Executed
with m prints = record { flat = m; prints = prints }

module _ (s : Setup) (few : s.shape.nodes ≤ 8) where
  abbrev p : Protocol
  p = s.protocol

  one-executed : (k : ℕ) (e : Entry) (l : PrintedLine) (m next : Machine) (prints : List Due) → IsEntryOf s e
      → whats l.tokens ≡ entry_tokens p (k, e) → FollowsOne (is_completed e.act) m e next
      → line_executed p (with m prints) l ≡ Ok (with next (prints ++ print_due e.node e.act))
  unfolding line_executed
  one-executed k e l m next prints h is follows =
      ap (λ b. executed_if b p (with m prints) l) (line-completes p k e l is) ∙ by (is_completed e.act) refl
    where
      lt : e.node < 8
      lt = let at = h.node in omega arith

      did : IsLeft p true e.after → flat_step m e.node ≡ Some (e.act, next) → executed_at p (with m prints) l
          (node_of l.tokens) ≡ Ok (with next (prints ++ print_due e.node e.act))
      did left steps =
          ap (executed_at p (with m prints) l) (node-said p k e l.tokens is lt)
          ∙ ap (executed_as p (with m prints) l e.node) steps
          ∙ rw (act-said p k e l.tokens is left) refl

      by : (b : Bool) → is_completed e.act ≡ b → executed_if b p (with m prints) l ≡ Ok
          (with next (prints ++ print_due e.node e.act))
      by true is_done = did (subst (λ b. IsLeft p b e.after) is_done h.left)
          (subst (λ b. FollowsOne b m e next) is_done follows)
      by false silent =
          let same : next ≡ m = subst (λ b. FollowsOne b m e next) silent follows in
          let none : prints ++ print_due e.node e.act ≡ prints = ap (λ d. prints ++ d) (silent-due e.node e.act silent)
          ∙ append-nil prints in
          ap (λ x. Ok (with x prints)) (sym same) ∙ ap (λ d. Ok (with next d)) (sym none)

  pub all-executed : (es : List Entry) (ls : List PrintedLine) (k : ℕ) (m end : Machine) (prints : List Due)
      → Each (IsEntryOf s) es → SayFrom p k es ls → Follows m es end
      → executed p (with m prints) ls ≡ Ok (with end (prints ++ dues es))
  unfolding executed
  all-executed [] [] k m end prints entries say follows = ap (λ x. Ok (with x prints)) (sym follows) ∙ ap (λ d. Ok (with end d))
      (sym (append-nil prints))
  all-executed [] (l ∷ ls) k m end prints entries say follows = absurd say
  all-executed (e ∷ es) [] k m end prints entries say follows = absurd say
  all-executed (e ∷ es) (l ∷ ls) k m end prints (h, hs) (is, say) follows =
      ap (λ (r : Result Executed AuditError). r >>= λ x. executed p x ls) (one-executed k e l m follows.0 prints h is follows.1)
      ∙ all-executed es ls (k + 1) follows.0 end (prints ++ print_due e.node e.act) hs say follows.2
      ∙ ap (λ d. Ok (with end d)) (append_assoc prints (print_due e.node e.act) (dues es))

  pub all-completed : (es : List Entry) (ls : List PrintedLine) (k : ℕ) → SayFrom p k es ls → completed ls ≡ count_by
      (λ e. is_completed e.act) es
  all-completed [] [] k say = refl
  all-completed [] (l ∷ ls) k say = absurd say
  all-completed (e ∷ es) [] k say = absurd say
  all-completed (e ∷ es) (l ∷ ls) k (is, say) =
      sum_by-cons (λ (x : PrintedLine). cond (is_completed_line x.tokens) 1 0) l ls
      ∙ ap (λ b. cond b 1 0 + completed ls) (line-completes p k e l is)
      ∙ ap (λ n. cond (is_completed e.act) 1 0 + n) (all-completed es ls (k + 1) say)
      ∙ sym (sum_by-cons (λ (x : Entry). cond (is_completed x.act) 1 0) e es)
