-- Gathered logs, merged, are a run; two states that are made of the same nodes are told alike.
use Rattle.std.proofs.Common.{◌≡◌, ◌∙◌, ℕ, ◌<◌, List, length, refl, ap, sym, subst, arith}
use Rattle.tw_base.specs.Shape.{IsWithinLimits}
use Rattle.tw_base.specs.declared.entry.Entry.{Entry}
use Rattle.tw_base.specs.declared.entry.Event.{Event}
use Rattle.tw_base.specs.declared.entry.Event.TheVariants as event
use Rattle.tw_base.specs.declared.message.Message.{Message}
use Rattle.compiled_meaning.specs.Whole.{IsCode}
use Rattle.handler_code.specs.declared.code.Code.{Code}
use Rattle.journal.specs.Finals.{counted_final}
use Rattle.journal.specs.Gathered.{tag_in, word_in}
use Rattle.journal.specs.Standing.{StandsAs}
use Rattle.journal.specs.declared.finals.Final.{Final}
use Rattle.journal.proofs.Standing.{told_finals_are, told_words_are}
use Rattle.dsm_runs.specs.Events.{word_here}
use Rattle.dsm_runs.specs.Laws.{IsLog}
use Rattle.dsm_runs.specs.Locals.{Local, MayInstruct}
use Rattle.dsm_runs.specs.Merges.{IsJoined, IsMerge}
use Rattle.dsm_runs.specs.Replays.{Course, begin}
use Rattle.dsm_runs.specs.Setups.{IsSetup, Setup}
use Rattle.dsm_runs.specs.Worlds.{IsEnabled, IsQuiet, MayDeliver, MayRedeliver, Wires, World, start}
use Rattle.dsm_runs.proofs.Besides.{log_alone, run_alone}
use Rattle.dsm_runs.proofs.Shape.{merged_run_beside}
use Rattle.dsm_runs.proofs.Stamps.{is_log}
use Rattle.node_meaning.specs.Tallies.{Counts, Tally, first_tally}
use Rattle.still_meaning.specs.Gathers.{GatheredShown, IsGathered, TellsOf, log_of}
use Rattle.gathered_runs.specs.Runs.{IsToldRun}

pub are_logs :
    (s : Setup) (code : Code) (g : World) (r : GatheredShown) → IsGathered s code g r →
    (i : ℕ) → i < length r.logs → IsLog i (log_of r.logs i)
are_logs s code g r of i l =
    let at : i < s.shape.nodes = omega (arith, l, of.size) in
    is_log s i (log_of r.logs i) (begin s i) (of.ends i)
    (log_alone (Counts s code) s i (log_of r.logs i) (begin s i) (of.ends i) (first_tally s i) (of.counts i) (of.replay i at))

-- ---- two states that are made of the same nodes, and tallies that are the same at them

module _
    (s : Setup) (ends : ℕ → Course) (left : Wires) (g h : World) (one : IsJoined s.shape.nodes ends left g)
    (two : IsJoined s.shape.nodes ends left h) where
  local_is : (i : ℕ) → i < s.shape.nodes → g.locals i ≡ h.locals i
  local_is i l = one.locals i l ∙ sym (two.locals i l)

  module _ (counts tallies : ℕ → Tally) (same : (i : ℕ) → i < s.shape.nodes → counts i ≡ tallies i) where
    abbrev ops : ℕ → ℕ
    ops i = (tallies i).ops

    abbrev records : ℕ → ℕ
    records i = (tallies i).records

    abbrev ended : ℕ → Final
    ended i = counted_final s (g.locals i) (counts i).ops (counts i).records

    stands : StandsAs s h ops records s.shape (tag_in g) (word_in s g) ended
    stands = record {
      sizes = refl;
      tags = λ i b li lb. ap (λ (x : Local). (x.blocks b).tag) (local_is i li);
      words = λ i address li la. ap (λ (x : Local). word_here s x.blocks address) (local_is i li);
      ends = λ i li. ap (λ (x : Local). counted_final s x (counts i).ops (counts i).records) (local_is i li)
          ∙ ap (λ (t : Tally). counted_final s (h.locals i) t.ops t.records) (same i li);
    }

    tells : (r : GatheredShown) → IsWithinLimits s.shape → IsQuiet s h → TellsOf s g counts r → TellsOf s h tallies r
    tells r limits quiet told = record {
      quiet = quiet;
      finals = told.finals ∙ told_finals_are s h ops records s.shape (tag_in g) (word_in s g) ended stands;
      words = told.words ∙ told_words_are s h ops records s.shape (tag_in g) (word_in s g) ended limits stands;
    }

  -- what is enabled in the one is enabled in the other
  enabled_too : (e : Event) → IsEnabled s h e → IsEnabled s g e
  enabled_too (event.Instr i) e = (e.0, subst (λ (l : Local). MayInstruct s l) (sym (local_is i e.0)) e.1)
  enabled_too (event.Redeliver i) e = (e.0, subst (λ (l : Local). MayRedeliver s l) (sym (local_is i e.0)) e.1)
  enabled_too (event.Deliver i f c) e =
      let wire : h.wires f i c ≡ g.wires f i c = two.wires f i c e.1 e.0 ∙ sym (one.wires f i c e.1 e.0) in (
        e.0,
        e.1,
        subst (λ (ms : List Message). MayDeliver s (g.locals i) ms) wire
            (subst (λ (l : Local). MayDeliver s l (h.wires f i c)) (sym (local_is i e.0)) e.2),
      )

  quiet_too : IsQuiet s g → IsQuiet s h
  quiet_too quiet e may = quiet e (enabled_too e may)

pub are_a_run :
    (s : Setup) (code : Code) (g : World) (r : GatheredShown) (journal : List Entry) → IsSetup s → IsCode s.protocol code →
    IsGathered s code g r → IsMerge s.shape.nodes (log_of r.logs) journal → IsToldRun s journal r
are_a_run s code g r journal setup is_code of merge =
    let run =
    merged_run_beside (Counts s code) s (log_of r.logs) journal of.ends of.left (first_tally s) of.counts of.replay of.agrees
    merge in
    let h : World = run.0 in
    let quiet : IsQuiet s h = quiet_too s of.ends of.left g h of.joined run.3 of.tells.quiet in
    record {
      state = h;
      counts = run.1;
      run = run_alone (Counts s code) s journal (start s) h (first_tally s) run.1 run.2;
      counted = record { code = code; is_code = is_code; beside = run.2 };
      tells = tells s of.ends of.left g h of.joined run.3 of.counts run.1 (λ i l. sym (run.4 i l)) r setup.limits quiet of.tells;
    }
