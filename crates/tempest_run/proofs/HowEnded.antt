-- What the status of a report says of how the nodes of its run ended.
use Rattle.std.proofs.Common.{◌≡◌, ◌≢◌, ◌⊎◌, ℕ, zero, suc, ◌+◌, ◌<◌, ◌≤◌, Bool, true, false, ◌&&◌, if◌then◌else◌, List, [], ◌∷◌}
use Rattle.std.proofs.Common.{map, arith, refl, sym, ap, subst, inl, inr, ◌∙◌}
use Rattle.std.proofs.lemmas.Bool.{cases_eq}
use Rattle.std.specs.List.{list_all, range_with_len}
use Rattle.dsm_runs.specs.declared.outcome.Outcome.{Outcome}
use Rattle.dsm_runs.specs.declared.outcome.Outcome.TheVariants.{Failed, Halted, Spent, Stuck, Trapped}
use Rattle.dsm_runs.specs.Locals.{Local}
use Rattle.dsm_runs.specs.Outcomes.{outcome_of}
use Rattle.dsm_runs.specs.Setups.{Setup}
use Rattle.dsm_runs.specs.Worlds.{World}
use Rattle.dsm_runs.proofs.Lists.{and_left, and_right}
use Rattle.journal.specs.declared.finals.Final.{Final}
use Rattle.journal.specs.declared.reports.Options.{Options}
use Rattle.journal.specs.Finals.{counted_final, counted_finals}
use Rattle.sound_runs.specs.Shipped.{IsShipped}
use Rattle.sound_runs.specs.Sound.{EndsSoundly, HasSpent, HasTrapped, IsSoundOutcome}
use Rattle.tempest_input.specs.declared.layout.Body.{Body}
use Rattle.tempest_trials.specs.declared.trial.Trial.{Trial}
use Rattle.tempest_trials.specs.declared.trial.Trial.TheVariants as trials
use Rattle.tempest_words.specs.declared.request.Command.{Command}
use Rattle.tempest_words.specs.declared.request.Command.TheVariants.{Audit, Check, Code as ForCode, Replay, Run, Sample, Show}
use Rattle.tempest_words.specs.declared.request.Command.TheVariants.{Serial, Table}
use Rattle.tempest_run.specs.declared.answer.Answer.{Answer}
use Rattle.tempest_run.specs.declared.status.Status.{Status}
use Rattle.tempest_run.specs.declared.status.Status.TheVariants.{Denied, Done, Unfinished}
use Rattle.tempest_run.specs.Answering.{Answers, AnswersAlone, TellsOfRun, TellsOfThreads, has_halted, status_of, trial_answer}
use Rattle.tempest_run.specs.CallLaws.{HasItsStatus, IsReport, SaysHowNodesEnded}

-- ---- a test of n numbers from a on

all_pass : (p : ℕ → Bool) (n a : ℕ) → list_all p (range_with_len a n) ≡ true → (i : ℕ) → a ≤ i → i < a + n → p i ≡ true
all_pass p zero a h i l k = absurd (omega (arith, l, k))
all_pass p (suc n) a h i l k = elim (cases_eq i a) [
  | inl q ↦ ap p q ∙ and_left (p a) (list_all p (range_with_len (a + 1) n)) h
  | inr d ↦ all_pass p n (a + 1) (and_right (p a) (list_all p (range_with_len (a + 1) n)) h) i (omega (arith, l, d))
      (omega (arith, k))
]

-- the first that fails
record Fails (p : ℕ → Bool) (n a : ℕ) : Type 0 where
  at : ℕ
  from : a ≤ at
  below : at < a + n
  fails : p at ≡ false

one_fails : (p : ℕ → Bool) (n a : ℕ) → list_all p (range_with_len a n) ≡ false → Fails p n a
one_fails p zero a h = absurd cc
one_fails p (suc n) a h = go (p a) refl h (one_fails p n (a + 1))
  where
    go :
        (b : Bool) → p a ≡ b → (b && list_all p (range_with_len (a + 1) n)) ≡ false →
        (list_all p (range_with_len (a + 1) n) ≡ false → Fails p n (a + 1)) → Fails p (suc n) a
    go false e h later = record { at = a; from = omega arith; below = omega arith; fails = e }
    go true e h later = let x = later h in record {
      at = x.at;
      from = omega (arith, x.from);
      below = omega
          (arith, x.below);
      fails = x.fails;
    }

all_map : (p : Final → Bool) (f : ℕ → Final) (is : List ℕ) → list_all p (map f is) ≡ list_all (λ i. p (f i)) is
all_map p f [] = refl
all_map p f (i ∷ is) = ap (λ b. p (f i) && b) (all_map p f is)

-- ---- outcomes

is_halted : (o : Outcome) → has_halted o ≡ true → o ≡ Halted
is_halted Halted h = refl
is_halted Spent h = absurd cc
is_halted Stuck h = absurd cc
is_halted (Trapped why) h = absurd cc
is_halted (Failed how) h = absurd cc

not_halted : (o : Outcome) → has_halted o ≡ false → o ≢ Halted
not_halted o h e = let z : has_halted o ≡ true = ap has_halted e in absurd cc

rests : (s : Setup) (l : Local) → EndsSoundly s l → outcome_of s l ≢ Halted → HasTrapped l ⊎ HasSpent s l
rests s l x differs = go (outcome_of s l) refl x.outcome
  where
    go : (o : Outcome) → outcome_of s l ≡ o → IsSoundOutcome s l o → HasTrapped l ⊎ HasSpent s l
    go Halted e h = absurd (differs e)
    go (Trapped why) e h = inl (why, h)
    go Spent e h = inr h
    go Stuck e h = absurd h
    go (Failed how) e h = absurd h

rests_not_halted : (s : Setup) (l : Local) → EndsSoundly s l → HasTrapped l ⊎ HasSpent s l → outcome_of s l ≢ Halted
rests_not_halted s l x (inl h) e = let z : Trapped h.0 ≡ Halted = sym ((x.trapped h.0).1 h.1) ∙ e in absurd cc
rests_not_halted s l x (inr h) e = let z : Spent ≡ Halted = sym (x.spent.1 h) ∙ e in absurd cc

-- ---- a status

module _ (s : Setup) (g : World) (ops records : ℕ → ℕ) (sound : IsShipped s.protocol → (i : ℕ) → i < s.shape.nodes →
    EndsSoundly s (g.locals i)) where
  tested : list_all (λ f. has_halted f.outcome) (counted_finals s g ops records) ≡ list_all
      (λ i. has_halted (outcome_of s (g.locals i))) (range_with_len 0 s.shape.nodes)
  tested = all_map (λ f. has_halted f.outcome) (λ i. counted_final s (g.locals i) (ops i) (records i))
      (range_with_len 0 s.shape.nodes)

  says_if :
      (b : Bool) → list_all (λ i. has_halted (outcome_of s (g.locals i))) (range_with_len 0 s.shape.nodes) ≡ b →
      SaysHowNodesEnded s g (if b then Done else Unfinished)
  says_if true e =
      let all : (i : ℕ) → i < s.shape.nodes → outcome_of s (g.locals i) ≡ Halted =
      λ i l. is_halted (outcome_of s (g.locals i)) (all_pass (λ k. has_halted (outcome_of s (g.locals k))) s.shape.nodes 0 e i
      (omega arith) (omega (arith, l))) in
      record {
        done = ((λ x. all), (λ x. refl));
        unfinished = ((λ x. absurd cc), (λ x. absurd (x.2 (all x.0 x.1))));
        under_shipped = λ is. (
          (λ x. absurd cc),
          (λ x. absurd
              (rests_not_halted s (g.locals x.0) (sound is x.0 x.1) x.2 (all x.0 x.1))),
        );
      }
  says_if false e =
      let x = one_fails (λ k. has_halted (outcome_of s (g.locals k))) s.shape.nodes 0 e in
      let within : x.at < s.shape.nodes = omega (arith, x.below) in
      let differs : outcome_of s (g.locals x.at) ≢ Halted = not_halted (outcome_of s (g.locals x.at)) x.fails in
      record {
        done = ((λ y. absurd cc), (λ all. absurd (differs (all x.at within))));
        unfinished = ((λ y. (x.at, within, differs)), (λ y. refl));
        under_shipped = λ is. ((λ y. (x.at, within, rests s (g.locals x.at) (sound is x.at within) differs)), (λ y. refl));
      }

  pub says : (status : Status) → status ≡ status_of (counted_finals s g ops records) → SaysHowNodesEnded s g status
  says status e =
      subst (λ (x : Status). SaysHowNodesEnded s g x) (sym (e ∙ ap (λ (b : Bool). if b then Done else Unfinished) tested))
      (says_if (list_all (λ i. has_halted (outcome_of s (g.locals i))) (range_with_len 0 s.shape.nodes)) refl)

-- ---- answers

serial_report : (s : Setup) (stride : ℕ) (o : Options) (a : Answer) → TellsOfRun s stride o a → IsReport s o a
serial_report s stride o a x = record {
  journal = x.journal;
  state = x.state;
  ops = λ i. (x.counts i).ops;
  records = λ i. (x.counts i).records;
  run = x.run.quiet_run;
  tells = x.tells;
  says = says s x.state (λ i. (x.counts i).ops) (λ i. (x.counts i).records) (λ is. (x.sound is).outcomes) a.status
      (ap (λ (y : Answer). y.status) x.tells);
}

threads_report : (s : Setup) (o : Options) (a : Answer) → TellsOfThreads s o a → IsReport s o a
threads_report s o a x = record {
  journal = x.journal;
  state = x.state;
  ops = λ i. (x.counts i).ops;
  records = λ i. (x.counts i).records;
  run = x.run;
  tells = x.tells;
  says = says s x.state (λ i. (x.counts i).ops) (λ i. (x.counts i).records) (λ is. (x.sound is).outcomes) a.status
      (ap (λ (y : Answer). y.status) x.tells);
}

-- the status of a trial
tried : (t : Trial) (a : Answer) → a ≡ trial_answer t → (a.status ≡ Done) ⊎ (a.status ≡ Denied)
tried (trials.Stands text) a e = inl (ap (λ (y : Answer). y.status) e)
tried (trials.Denied text) a e = inr (ap (λ (y : Answer). y.status) e)

pub has_its_status :
    (command : Command) (o : Options) (s : Setup) (report : Body) (a : Answer) → Answers command o s report a →
    HasItsStatus command o s a
has_its_status Run o s report a x = threads_report s o a x
has_its_status (Serial stride) o s report a x = serial_report s stride o a x
has_its_status Check o s report a x = ap (λ (y : Answer). y.status) x
has_its_status ForCode o s report a x = ap (λ (y : Answer). y.status) x.tells
has_its_status Show o s report a x = ap (λ (y : Answer). y.status) x
has_its_status Table o s report a x = absurd x
has_its_status (Sample k) o s report a x = absurd x
has_its_status Audit o s report a x = tried x.trial a x.tells
has_its_status (Replay count) o s report a x = tried x.trial a x.tells

pub alone_is_done : (command : Command) (a : Answer) → AnswersAlone command a → a.status ≡ Done
alone_is_done Table a x = ap (λ (y : Answer). y.status) x
alone_is_done (Sample k) a x = ap (λ (y : Answer). y.status) x.tells
alone_is_done Run a x = absurd x
alone_is_done (Serial stride) a x = absurd x
alone_is_done Check a x = absurd x
alone_is_done ForCode a x = absurd x
alone_is_done Show a x = absurd x
alone_is_done Audit a x = absurd x
alone_is_done (Replay count) a x = absurd x
