-- The tally after an event is one, so that of a run is.
use Rattle.std.proofs.Common.{◌≡◌, ◌≢◌, ◌∙◌, ℕ, ◌+◌, List, Option, Some, None, ap, sym, subst, inl, inr}
use Rattle.std.specs.Prelude.{map}
use Rattle.std.proofs.lemmas.Bool.{cases_eq}
use Rattle.tw_base.specs.declared.entry.Entry.{Entry}
use Rattle.tw_base.specs.declared.message.Message.{Message}
use Rattle.teapot_tree.specs.declared.protocol.Protocol.{Protocol}
use Rattle.handler_code.specs.declared.code.Code.{Code}
use Rattle.handler_code.specs.Doors.{Cell, EntersOnce}
use Rattle.handler_code.specs.Machine.{Stopped}
use Rattle.handler_vm.specs.Chains.{widened}
use Rattle.compiled_meaning.proofs.OneCode.{one_code}
use Rattle.dsm_runs.specs.Beside.{MovesToOne, RunsBeside}
use Rattle.dsm_runs.specs.Locals.{Local}
use Rattle.dsm_runs.specs.Setups.{Setup, home_of}
use Rattle.dsm_runs.specs.Worlds.{World, start}
use Rattle.dsm_runs.proofs.Besides.{run_beside_one}
use Rattle.node_meaning.specs.Tallies.{Counts, CountsIf, CountsMessage, Tally, first_tally, handled_message}
use Rattle.counted_runs.specs.Counted.{HasCounts}

-- functions that are the same at one number and have the same values as a third at all others
at_each :
    {X : Type 0} (k : ℕ) (was now other : ℕ → X) → now k ≡ other k → ((b : ℕ) → b ≢ k → now b ≡ was b) →
    ((b : ℕ) → b ≢ k → other b ≡ was b) → (b : ℕ) → now b ≡ other b
at_each {X} k was now other here left right b = elim (cases_eq b k) [
  | inl same ↦ subst (λ n. now n ≡ other n) (sym same) here
  | inr differs ↦ left b differs ∙ sym (right b differs)
]

abbrev cell_of : Stopped → Cell
cell_of e = record { state = e.state; args = e.args; infos = e.around.infos }

module _ (once : (p : Protocol) (code : Code) → EntersOnce p code) (s : Setup) (code : Code) (i : ℕ) (l : Local) where
  by_message : (m : Message) (x y z : Tally) → CountsMessage s code i l m x y → CountsMessage s code i l m x z → y ≡ z
  by_message m x y z p q =
      let here = l.blocks m.block in
      let stop : p.stop ≡ q.stop =
      once s.protocol code i (home_of s m.block) m.block here.tag here.words (x.cells m.block) (x.chains m.block) m p.stop q.stop
      p.enters q.enters in
      let cell : y.cells m.block ≡ z.cells m.block = p.cell ∙ ap cell_of stop ∙ sym q.cell in
      let chain : y.chains m.block ≡ z.chains m.block = p.chain ∙ ap (λ e. map widened e.chain) stop ∙ sym q.chain in
      let cells : (b : ℕ) → y.cells b ≡ z.cells b =
      at_each m.block x.cells y.cells z.cells cell p.other_cells q.other_cells in
      let chains : (b : ℕ) → y.chains b ≡ z.chains b =
      at_each m.block x.chains y.chains z.chains chain p.other_chains q.other_chains in
      let ops : y.ops ≡ z.ops = p.ops ∙ ap (λ e. x.ops + e.ops) stop ∙ sym q.ops in
      let records : y.records ≡ z.records = p.records ∙ ap (λ e. x.records + e.records) stop ∙ sym q.records in
      λ j. record { cells = λ b. cells b j; chains = λ b. chains b j; ops = ops j; records = records j }

  by_option : (o : Option Message) (x y z : Tally) → CountsIf s code i l o x y → CountsIf s code i l o x z → y ≡ z
  by_option None x y z p q = p ∙ sym q
  by_option (Some m) x y z p q = by_message m x y z p q

module _ (once : (p : Protocol) (code : Code) → EntersOnce p code) where
  counts_to_one : (s : Setup) (code : Code) → MovesToOne (Counts s code)
  counts_to_one s code i l front a x y z p q = by_option once s code i l (handled_message i l front a) x y z p q

  pub counts_one :
      (s : Setup) (j : List Entry) (g h : World) (a b : ℕ → Tally) → HasCounts s j g a → HasCounts s j h b → a ≡ b
  counts_one s j g h a b p q =
      let code : q.code ≡ p.code = one_code s.protocol q.code p.code q.is_code p.is_code in
      let other : RunsBeside (Counts s p.code) s (start s) (first_tally s) j h b =
      subst (λ k. RunsBeside (Counts s k) s (start s) (first_tally s) j h b) code q.beside in
      (run_beside_one (Counts s p.code) (counts_to_one s p.code) s j (start s) g h (first_tally s) a b p.beside other).1
