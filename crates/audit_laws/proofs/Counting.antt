-- How many instructions a node tried and how many messages it handled, as the lines of its events tell.
use Rattle.std.proofs.Common.{◌≡◌, ◌≢◌, ◌⊎◌, ◌∙◌, ℕ, ◌+◌, ◌<◌, ◌≤◌, ◌&&◌, cond, nat_eq, Bool, true, false, List, [], ◌∷◌}
use Rattle.std.proofs.Common.{Option, refl, sym, ap, subst, inl, inr, arith}
use Rattle.std.proofs.lemmas.Bool.{cases_eq, eqb-true}
use Rattle.std.proofs.lemmas.List.Sums.{sum_by-cons}
use Rattle.tw_base.specs.declared.entry.Act.{Act}
use Rattle.tw_base.specs.declared.entry.Act.TheVariants as act
use Rattle.tw_base.specs.declared.entry.Entry.{Entry}
use Rattle.tw_base.specs.declared.message.Message.{Message}
use Rattle.teapot_tree.specs.declared.protocol.Protocol.{Protocol}
use Rattle.dsm_runs.specs.Events.{Acts}
use Rattle.dsm_runs.specs.Locals.{Local}
use Rattle.dsm_runs.specs.Setups.{Setup}
use Rattle.dsm_runs.specs.Worlds.{Runs, Step, World}
use Rattle.dsm_runs.proofs.Lists.{nat_eq_refl}
use Rattle.report_reader.specs.declared.lines.PrintedLine.{PrintedLine}
use Rattle.printed_lines.specs.Reading.{kind_of}
use Rattle.printed_lines.specs.Tokens.{entry_tokens, whats}
use Rattle.printed_reports.proofs.Naming.{kind-said, kind_of_act, node-said}
use Rattle.printed_reports.proofs.Saying.{SayFrom}
use Rattle.report_audit.specs.Nodes.{handled, is_handled, is_handling, is_node, is_tried, is_try, tried}

-- ---- an event

abbrev one_when : Bool → ℕ
one_when b = cond b 1 0

record Counts (a : Act) (l l2 : Local) : Type 0 where
  instructions : l2.instructions ≡ l.instructions + one_when (is_try (kind_of_act a))
  handled_then : l2.handled ≡ l.handled + one_when (is_handling (kind_of_act a))

acts-count : (s : Setup) (i : ℕ) (l : Local) (front : Option Message) (l2 : Local) (e : Entry) (sends : List Message) (a : Act)
    → Acts s i l front l2 e sends a → Counts a l l2
acts-count s i l front l2 e sends
    (act.Load address value) r = record {
      instructions = r.0.instructs.instructions;
      handled_then = omega
          (arith, r.0.instructs.handled);
    }
acts-count s i l front l2 e sends
    (act.Store address value) r = record {
      instructions = r.0.instructs.instructions;
      handled_then = omega
          (arith, r.0.instructs.handled);
    }
acts-count s i l front l2 e sends
    (act.Faa address value sum) r = record {
      instructions = r.0.instructs.instructions;
      handled_then = omega
          (arith, r.0.instructs.handled);
    }
acts-count s i l front l2 e sends (act.Print value) r = record {
  instructions = r.0.instructs.instructions;
  handled_then = omega
      (arith, r.0.instructs.handled);
}
acts-count s i l front l2 e sends act.Halt r = record {
  instructions = r.0.instructs.instructions;
  handled_then = omega
      (arith, r.0.instructs.handled);
}
acts-count s i l front l2 e sends (act.Trapped why) r = record {
  instructions = r.0.instructs.instructions;
  handled_then = omega
      (arith, r.0.instructs.handled);
}
acts-count s i l front l2 e sends act.Step r = record {
  instructions = r.0.instructs.instructions;
  handled_then = omega
      (arith, r.0.instructs.handled);
}
acts-count s i l front l2 e sends
    (act.Fault store block) r = record {
      instructions = r.instructs.instructions;
      handled_then = omega
          (arith, r.instructs.handled);
    }
acts-count s i l front l2 e sends (act.Redelivered kind block from) r = record {
  instructions = omega
      (arith, r.counts.instructions);
  handled_then = r.counts.handled;
}
acts-count s i l front l2 e sends (act.Delivered kind block from chan number) r = record {
  instructions = omega
      (arith, r.counts.instructions);
  handled_then = r.counts.handled;
}

-- ---- events of a run

module _ (s : Setup) (few : s.shape.nodes ≤ 8) where
  abbrev p : Protocol
  p = s.protocol

  line-tried : (i k : ℕ) (e : Entry) (l : PrintedLine) → e.node < 8 → whats l.tokens ≡ entry_tokens p (k, e)
      → is_tried i l.tokens ≡ (nat_eq e.node i && is_try (kind_of_act e.act))
  line-tried i k e l lt is = ap (λ o. is_node i o && is_try (kind_of l.tokens)) (node-said p k e l.tokens is lt)
      ∙ ap (λ kind. nat_eq e.node i && is_try kind) (kind-said p k e l.tokens is)

  line-handled : (i k : ℕ) (e : Entry) (l : PrintedLine) → e.node < 8 → whats l.tokens ≡ entry_tokens p (k, e)
      → is_handled i l.tokens ≡ (nat_eq e.node i && is_handling (kind_of_act e.act))
  line-handled i k e l lt is = ap (λ o. is_node i o && is_handling (kind_of l.tokens)) (node-said p k e l.tokens is lt)
      ∙ ap (λ kind. nat_eq e.node i && is_handling kind) (kind-said p k e l.tokens is)

  other-node : (i n : ℕ) (b : Bool) → i ≢ n → (nat_eq n i && b) ≡ false
  other-node i n b d = by (nat_eq n i) refl
    where
      by : (v : Bool) → nat_eq n i ≡ v → (v && b) ≡ false
      by true e = absurd (d (sym (eqb-true n i e)))
      by false e = refl

  -- what one event adds to the counts of a node
  record Adds (i : ℕ) (l : PrintedLine) (g h : World) : Type 0 where
    more_tried : (h.locals i).instructions ≡ (g.locals i).instructions + one_when (is_tried i l.tokens)
    more_handled : (h.locals i).handled ≡ (g.locals i).handled + one_when (is_handled i l.tokens)

  step-adds : (i k : ℕ) (e : Entry) (l : PrintedLine) (g h : World) → whats l.tokens ≡ entry_tokens p (k, e) → Step s g e h
      → Adds i l g h
  step-adds i k e l g h is r = by (cases_eq i e.node)
    where
      lt : e.node < 8
      lt = let at = r.local.at_node in omega arith

      by : (i ≡ e.node) ⊎ (i ≢ e.node) → Adds i l g h
      by (inl same) =
          let c = acts-count s e.node (g.locals e.node) r.front (h.locals e.node) e r.sends e.act r.local.acts in
          let t : is_tried e.node l.tokens ≡ is_try (kind_of_act e.act) = line-tried e.node k e l lt is
          ∙ ap (λ b. b && is_try (kind_of_act e.act)) (nat_eq_refl e.node) in
          let u : is_handled e.node l.tokens ≡ is_handling (kind_of_act e.act) = line-handled e.node k e l lt is
          ∙ ap (λ b. b && is_handling (kind_of_act e.act)) (nat_eq_refl e.node) in
          subst (λ j. Adds j l g h) (sym same)
          (record {
            more_tried = c.instructions ∙ ap (λ b. (g.locals e.node).instructions + one_when b)
                (sym t);
            more_handled = c.handled_then ∙ ap (λ b. (g.locals e.node).handled + one_when b) (sym u);
          })
      by (inr other) =
          let t : is_tried i l.tokens ≡ false = line-tried i k e l lt is ∙ other-node i e.node
          (is_try (kind_of_act e.act)) other in
          let u : is_handled i l.tokens ≡ false = line-handled i k e l lt is ∙ other-node i e.node
          (is_handling (kind_of_act e.act)) other in
          let stays = r.others i other in
          let none : (n : ℕ) → n ≡ n + 0 = λ n. omega arith in
          record {
            more_tried = ap (λ (x : Local). x.instructions) stays ∙ none (g.locals i).instructions
                ∙ ap (λ b. (g.locals i).instructions + one_when b) (sym t);
            more_handled = ap (λ (x : Local). x.handled) stays ∙ none (g.locals i).handled
                ∙ ap (λ b. (g.locals i).handled + one_when b) (sym u);
          }

  pub record Counted (i : ℕ) (ls : List PrintedLine) (g h : World) : Type 0 where
    pub all_tried : (h.locals i).instructions ≡ (g.locals i).instructions + tried i ls
    pub all_handled : (h.locals i).handled ≡ (g.locals i).handled + handled i ls

  pub run-counted : (i : ℕ) (es : List Entry) (ls : List PrintedLine) (k : ℕ) (g h : World) → SayFrom p k es ls → Runs s g es h
      → Counted i ls g h
  run-counted i [] [] k g h say r = record {
    all_tried = subst (λ (x : World). (x.locals i).instructions ≡
        (g.locals i).instructions + 0) r (omega arith);
    all_handled = subst
        (λ (x : World). (x.locals i).handled ≡ (g.locals i).handled + 0) r (omega arith);
  }
  run-counted i [] (l ∷ ls) k g h say r = absurd say
  run-counted i (e ∷ es) [] k g h say r = absurd say
  run-counted i (e ∷ es) (l ∷ ls) k g h (is, say) r =
      let one = step-adds i k e l g r.0 is r.1 in
      let more = run-counted i es ls (k + 1) r.0 h say r.2 in
      record {
        all_tried = omega (
          arith,
          one.more_tried,
          more.all_tried,
          sum_by-cons
              (λ (x : PrintedLine). one_when (is_tried i x.tokens)) l ls,
        );
        all_handled = omega (
          arith,
          one.more_handled,
          more.all_handled,
          sum_by-cons
              (λ (x : PrintedLine). one_when (is_handled i x.tokens)) l ls,
        );
      }
