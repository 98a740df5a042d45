-- A node that failed makes no event, and stays as it is.
use Rattle.std.proofs.Common.{◌≡◌, ℕ, [], ◌∷◌, Option, Some, None, ap, sym, ◌∙◌, subst, inl, inr}
use Rattle.std.proofs.lemmas.Bool.{cases_eq}
use Rattle.tw_base.specs.declared.entry.Act.{Act}
use Rattle.tw_base.specs.declared.entry.Act.TheVariants as act
use Rattle.tw_base.specs.declared.entry.End.{End}
use Rattle.tw_base.specs.declared.entry.Entry.{Entry}
use Rattle.dsm_runs.specs.Setups.{Setup}
use Rattle.dsm_runs.specs.Worlds.{IsEnabled, Step, World, event_at}
use Rattle.dsm_runs.specs.Invariants.{FailedNodesAreOver, FailedNodesStay, IsOver}
use Rattle.dsm_runs.proofs.OneEntry.{step_enabled}

not_both : (o : Option End) (why : End) → o ≡ Some why → o ≡ None → ⊥
not_both o why e f = absurd cc

pub nodes_over : FailedNodesAreOver
nodes_over s g i why failed = record {
  no_instruction = λ h. not_both _ why failed h.1.unfailed;
  no_redelivery = λ h. not_both _ why failed h.1.may.unfailed;
  no_delivery = λ f c h. not_both _ why failed h.2.may.unfailed;
}

none_here : (s : Setup) (g : World) (i : ℕ) (a : Act) → IsOver s g i → IsEnabled s g (event_at i a) → ⊥
none_here s g i (act.Delivered kind block from chan number) over h = over.no_delivery from chan h
none_here s g i (act.Redelivered kind block from) over h = over.no_redelivery h
none_here s g i (act.Load address value) over h = over.no_instruction h
none_here s g i (act.Store address value) over h = over.no_instruction h
none_here s g i (act.Faa address value sum) over h = over.no_instruction h
none_here s g i (act.Print value) over h = over.no_instruction h
none_here s g i act.Halt over h = over.no_instruction h
none_here s g i (act.Trapped why) over h = over.no_instruction h
none_here s g i act.Step over h = over.no_instruction h
none_here s g i (act.Fault store block) over h = over.no_instruction h

-- an event is one of another node
elsewhere : (s : Setup) (g : World) (e : Entry) (mid : World) (i : ℕ) (why : End) → (g.locals i).failed ≡ Some why →
    Step s g e mid → mid.locals i ≡ g.locals i
elsewhere s g e mid i why failed r = elim (cases_eq i e.node) [
  | inl same ↦ absurd (none_here s g e.node e.act (subst (λ k. IsOver s g k) same (nodes_over s g i why failed))
      (step_enabled s g e mid r))
  | inr other ↦ r.others i other
]

pub nodes_stay : FailedNodesStay
nodes_stay s [] g h i why failed r = ap (λ (x : World). x.locals i) (sym r)
nodes_stay s (e ∷ more) g h i why failed r =
    let here = elsewhere s g e r.0 i why failed r.1 in
    nodes_stay s more r.0 h i why (ap (λ l. l.failed) here ∙ failed) r.2 ∙ here
