-- What is told of a run has numbers of 64 bits.
use Rattle.std.proofs.Common.{ℕ, zero, suc, ◌+◌, ◌*◌, ◌/◌, ◌^◌, ◌<◌, ◌≤◌, List, [], ◌∷◌, length, map, arith}
use Rattle.std.specs.List.{range_with_len}
use Rattle.tw_base.specs.Lists.{Each}
use Rattle.tw_base.specs.Shape.{IsWithinLimits, Sizes, handler_budget_of}
use Rattle.tw_base.specs.declared.entry.Entry.{Entry}
use Rattle.dsm_runs.specs.Invariants.{Bounded}
use Rattle.dsm_runs.specs.Setups.{IsSetup, Setup}
use Rattle.dsm_runs.specs.Worlds.{Runs, World, start}
use Rattle.journal.specs.Finals.{counted_final}
use Rattle.journal.specs.Gathered.{tag_in, teller_by, told_by, word_in}
use Rattle.printed_reports.specs.Named.{IsSmallAct, IsSmallEntry, IsSmallFinal, Small}
use Rattle.printed_reports.proofs.Plain.{budget-small}
use Rattle.run_reports.specs.Numbers.{HasSmallNumbers, NumbersOfRunsAreSmall}
use Rattle.run_reports.proofs.Flat.{history-small}
use Rattle.run_reports.proofs.Nodes.{HandlersSendFew, IsSmallWorld, all-small, program-small, word-small}

-- what is known of every run: how many events it has at most, that no stamp passes their number, and how far nodes come
pub record AreShort : Type 0 where
  pub events : (s : Setup) (j : List Entry) (g : World) → Runs s (start s) j g → length j ≤ s.shape.nodes *
      (s.shape.budget + handler_budget_of s.shape)
  pub stamps : (s : Setup) (j : List Entry) (g : World) → Runs s (start s) j g → Each (λ e. e.stamp ≤ length j) j
  pub state : (s : Setup) (j : List Entry) (g : World) → Runs s (start s) j g → Bounded s (length j) g

times-few : (n x : ℕ) → n ≤ 8 → x ≤ 2500000 → n * x ≤ 20000000
times-few n x few most = grind (arith, few, most)

short : (z : Sizes) (k : ℕ) → IsWithinLimits z → k ≤ z.nodes * (z.budget + handler_budget_of z) → k ≤ 20000000
short z k limits le =
    let budget = budget-small z limits in
    let most = times-few z.nodes (z.budget + handler_budget_of z) limits.nodes (omega (arith, budget, limits.budget)) in
    omega (arith, le, most)

entries-small : (top : ℕ) (es : List Entry) → top < 2 ^ 64 → Each (λ e. e.stamp ≤ top) es
    → Each (λ e. Small e.sends × IsSmallAct e.act) es → Each IsSmallEntry es
entries-small top [] lt h k = tt
entries-small top (e ∷ es) lt (h, hs) (k, ks) =
    (record { stamp = omega arith; sends = k.0; act = k.1 }, entries-small top es lt hs ks)

module _ (s : Setup) (is : IsSetup s) (small : HasSmallNumbers s) (few : HandlersSendFew) (g : World) (k : ℕ)
    (world : IsSmallWorld s is small few k g) where
  finals-small : (ops records : ℕ → ℕ) (n : ℕ) → Bounded s n g → (a m : ℕ) → Each IsSmallFinal
      (map (λ i. counted_final s (g.locals i) (ops i) (records i)) (range_with_len a m))
  finals-small ops records n bounded a zero = tt
  finals-small ops records n bounded a (suc m) =
      let node = world.nodes a in
      let budget = budget-small s.shape is.limits in
      let one : IsSmallFinal (counted_final s (g.locals a) (ops a) (records a)) = record {
        place = omega (arith, node.cpu.place, (program-small s is small few a).short);
        registers = node.cpu.regs;
        instructions = omega (arith, bounded.instructions a, budget);
        handled = omega (arith, bounded.handled a, is.limits.budget);
      } in
      (one, finals-small ops records n bounded (a + 1) m)

  words-small : (addresses : List ℕ) → Each Small (map (told_by s.shape (tag_in g) (word_in s g)) addresses)
  words-small [] = tt
  words-small (address ∷ more) =
      let i = teller_by s.shape (tag_in g) (address / s.shape.words) in
      (word-small s is small few i (g.locals i) address (world.nodes i), words-small more)

pub numbers-small : HandlersSendFew → AreShort → NumbersOfRunsAreSmall
numbers-small few known s j g ops records o is small r counts =
    let at_most = short s.shape (length j) is.limits (known.events s j g r) in
    let all = all-small s is small few j g (omega arith) r in
    record {
      few = omega arith;
      small_entries = entries-small (length j) j (omega arith) (known.stamps s j g r) all.0;
      small_ends = finals-small s is small few g (0 + length j) all.1 ops records (length j)
          (known.state s j g r) 0 s.shape.nodes;
      small_counts = counts;
      small_words = words-small s is small few g (0 + length j) all.1 (range_with_len 0 (s.shape.words * s.shape.blocks));
      small_break = history-small s j small (omega arith) all.0;
    }
