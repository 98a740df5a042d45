-- The lines of prints, words and registers are those that are due of the flat machine.
use Rattle.std.proofs.Common.{◌≡◌, ◌∙◌, ℕ, zero, suc, ◌+◌, ◌<◌, ◌≤◌, ◌==◌, cond, Bool, true, false, List, [], ◌∷◌, ◌++◌, map}
use Rattle.std.proofs.Common.{None, refl, ap, arith}
use Rattle.std.specs.List.{enumerate_from, flat_map, range_with_len}
use Rattle.std.proofs.lemmas.List.{map-append}
use Rattle.tw_base.specs.Lists.{Each}
use Rattle.tw_base.specs.declared.entry.Act.{Act}
use Rattle.tw_base.specs.declared.entry.Act.TheVariants as act
use Rattle.tw_base.specs.declared.entry.Entry.{Entry}
use Rattle.tw_lex.specs.declared.token.What.{What}
use Rattle.mini_asm.specs.Run.{Machine}
use Rattle.dsm_runs.specs.Flat.{IsBeside}
use Rattle.dsm_runs.specs.Setups.{Setup}
use Rattle.dsm_runs.specs.Worlds.{World}
use Rattle.report_reader.specs.declared.lines.PrintedLine.{PrintedLine}
use Rattle.journal.specs.declared.finals.Final.{Final}
use Rattle.journal.specs.Finals.{counted_final}
use Rattle.journal.specs.Laws.{prints_of, with_print}
use Rattle.printed_lines.specs.Saying.{says}
use Rattle.printed_lines.specs.Tokens.{whats}
use Rattle.printed_reports.specs.Reports.{node_registers_said, print_tokens, prints_said, register_said, register_tokens}
use Rattle.printed_reports.specs.Reports.{word_said, word_tokens, words_said, told}
use Rattle.printed_reports.proofs.Naming.{Unmarked, says-same}
use Rattle.report_audit.specs.declared.due.Due.{Due}
use Rattle.report_audit.specs.declared.due.Due.TheVariants as due
use Rattle.report_audit.specs.Executing.{print_due}
use Rattle.report_audit.specs.Lines.{core_due, due_tokens, first_other, register_due, registers_due, word_due, words_due}
use Rattle.audit_laws.proofs.Executed.{dues}

-- ---- lines beside what is due

due-unmarked : (d : Due) → Each Unmarked (due_tokens d)
due-unmarked (due.Print node value) = (tt, (tt, (tt, tt)))
due-unmarked (due.Word address value) = (tt, (tt, (tt, tt)))
due-unmarked (due.Register node register value) = (tt, (tt, (tt, (tt, tt))))

pub none-other : (ds : List Due) (ls : List PrintedLine) (next : ℕ) → map told ls ≡ map due_tokens ds
    → first_other ds ls next ≡ None
unfolding first_other
none-other [] [] next e = refl
none-other (d ∷ ds) [] next e = absurd cc
none-other [] (l ∷ ls) next e = absurd cc
none-other (d ∷ ds) (l ∷ ls) next e =
    let one : told l ≡ due_tokens d = cc in
    let more : map told ls ≡ map due_tokens ds = cc in
    let yes : says (due_tokens d) (whats l.tokens) ≡ true = ap (says (due_tokens d)) one ∙ says-same (due_tokens d)
    (due-unmarked d) in
    rw yes (none-other ds ls next more)

-- ---- prints

print-dues : (node : ℕ) (a : Act) (rest : List (ℕ × ℕ)) (ds : List Due) → map due_tokens ds ≡ map print_tokens rest
    → map due_tokens (print_due node a ++ ds) ≡ map print_tokens (with_print node a rest)
print-dues node (act.Print value) rest ds e = ap (λ l. print_tokens (node, value) ∷ l) e
print-dues node (act.Load address value) rest ds e = e
print-dues node (act.Store address value) rest ds e = e
print-dues node (act.Faa address value sum) rest ds e = e
print-dues node act.Halt rest ds e = e
print-dues node (act.Trapped why) rest ds e = e
print-dues node act.Step rest ds e = e
print-dues node (act.Fault store block) rest ds e = e
print-dues node (act.Redelivered kind block from) rest ds e = e
print-dues node (act.Delivered kind block from chan number) rest ds e = e

pub prints-due : (es : List Entry) → map due_tokens (dues es) ≡ prints_said es
prints-due [] = refl
prints-due (e ∷ es) = print-dues e.node e.act (prints_of es) (dues es) (prints-due es)

-- ---- words and registers

flat-dues : {X : Type 0} (f : X → List Due) (g : X → List (List What)) → ((x : X) → map due_tokens (f x) ≡ g x) → (xs : List X)
    → map due_tokens (flat_map f xs) ≡ flat_map g xs
flat-dues f g same [] = refl
flat-dues f g same (x ∷ xs) = map-append due_tokens (f x) (flat_map f xs) ∙ ap (λ l. l ++ map due_tokens (flat_map f xs))
    (same x) ∙ ap (λ l. g x ++ l) (flat-dues f g same xs)

word-due : (word : ℕ × ℕ) → map due_tokens (word_due word) ≡ word_said word
word-due word = by (word.1 == 0)
  where
    by : (b : Bool) → map due_tokens (cond b [] (due.Word word.0 word.1 ∷ [])) ≡ cond b [] (word_tokens word ∷ [])
    by true = refl
    by false = refl

pub all-words-due : (m : Machine) → map due_tokens (words_due m) ≡ words_said m.words
all-words-due m = flat-dues word_due word_said word-due (enumerate_from 0 m.words)

one-register : (node : ℕ) (register : ℕ × ℕ) → map due_tokens (register_due node register) ≡ register_said node register
one-register node register = by (register.1 == 0)
  where
    by : (b : Bool) → map due_tokens (cond b [] (due.Register node register.0 register.1 ∷ [])) ≡ cond b []
        (register_tokens node register ∷ [])
    by true = refl
    by false = refl

-- of a node, and of the nodes from one on
module _ (s : Setup) (g : World) (m : Machine) (ops records : ℕ → ℕ) (beside : IsBeside s g m) where
  abbrev final_at : ℕ → Final
  final_at i = counted_final s (g.locals i) (ops i) (records i)

  node-registers : (i : ℕ) → i < s.shape.nodes → map due_tokens (registers_due m i) ≡ node_registers_said (i, final_at i)
  node-registers i lt =
      ap (λ o. map due_tokens (core_due i o)) (beside.cores i lt) ∙ flat-dues (register_due i) (register_said i)
      (one-register i) (enumerate_from 0 (g.locals i).cpu.regs)

  pub registers-due : (a n : ℕ) → a + n ≤ s.shape.nodes → map due_tokens
      (flat_map (registers_due m) (range_with_len a n)) ≡ flat_map node_registers_said
      (enumerate_from a (map final_at (range_with_len a n)))
  registers-due a zero le = refl
  registers-due a (suc n) le =
      map-append due_tokens (registers_due m a) (flat_map (registers_due m) (range_with_len (a + 1) n))
      ∙ ap (λ l. l ++ map due_tokens (flat_map (registers_due m) (range_with_len (a + 1) n))) (node-registers a (omega arith))
      ∙ ap (λ l. node_registers_said (a, final_at a) ++ l) (registers-due (a + 1) n (omega arith))
