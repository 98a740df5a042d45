-- Only nodes of the shape take part.
use Rattle.std.proofs.Common.{◌≡◌, ◌≢◌, ℕ, ◌<◌, ◌≤◌, length, Bool, true, false, ◌&&◌, nat_eq, nat_lt, if◌then◌else◌, List, []}
use Rattle.std.proofs.Common.{◌∷◌, ◌++◌, Option, arith, refl, ap, sym, ◌∙◌, append-nil, inl, inr}
use Rattle.std.specs.Prelude.{option_to_list}
use Rattle.std.proofs.lemmas.Bool.{cases_lt, eqb-true}
use Rattle.std.proofs.lemmas.Bool.Decides.{nat_tests}
use Rattle.std.specs.List.{filter}
use Rattle.tw_base.specs.declared.entry.Act.{Act}
use Rattle.tw_base.specs.declared.entry.Act.TheVariants as act
use Rattle.tw_base.specs.declared.message.Chan.{Chan}
use Rattle.tw_base.specs.declared.entry.Entry.{Entry}
use Rattle.tw_base.specs.declared.message.Message.{Message}
use Rattle.dsm_runs.specs.Setups.{Setup}
use Rattle.dsm_runs.specs.Locals.{Local}
use Rattle.tw_base.specs.Lists.{Each}
use Rattle.dsm_runs.specs.Messages.{chan_eq}
use Rattle.dsm_runs.specs.Events.{Acts}
use Rattle.dsm_runs.specs.Worlds.{taken, takes_from, World, Wires, Runs, start}
use Rattle.dsm_runs.specs.Replays.{Course, ReplaysOn, begin}
use Rattle.dsm_runs.specs.Beside.{AllReplayBeside, Moves, ReplaysBeside, RunsBeside}
use Rattle.dsm_runs.specs.Merges.{joined, IsMerge, IsJoined, Agrees, AllReplay, is_of}
use Rattle.dsm_runs.proofs.Lists.{and_left}
use Rattle.dsm_runs.proofs.Turns.{AgreesAll, nat_eq_other}
use Rattle.dsm_runs.proofs.Besides.{log_alone, merging_beside, nothing, run_alone, with_nothing}

acts_from : (s : Setup) (i : ℕ) (l : Local) (front : Option Message) (x : Local) (e : Entry) (sends : List Message) (a : Act)
    (f : ℕ) (c : Chan) → takes_from a f c ≡ true → Acts s i l front x e sends a → f < s.shape.nodes
acts_from s i l front x e sends (act.Delivered kind block from chan number) f c h p =
    rw (eqb-true f from (and_left (nat_eq f from) (chan_eq c chan) h)) p.from_node
acts_from s i l front x e sends (act.Load address value) f c h p = absurd cc
acts_from s i l front x e sends (act.Store address value) f c h p = absurd cc
acts_from s i l front x e sends (act.Faa address value sum) f c h p = absurd cc
acts_from s i l front x e sends (act.Print value) f c h p = absurd cc
acts_from s i l front x e sends act.Halt f c h p = absurd cc
acts_from s i l front x e sends (act.Trapped why) f c h p = absurd cc
acts_from s i l front x e sends act.Step f c h p = absurd cc
acts_from s i l front x e sends (act.Fault store block) f c h p = absurd cc
acts_from s i l front x e sends (act.Redelivered kind block from) f c h p = absurd cc

taken_from_none : (e : Entry) (front : Option Message) (f t : ℕ) (c : Chan) (n : ℕ) → n ≤ f →
    (takes_from e.act f c ≡ true → f < n) → taken e front f t c ≡ []
taken_from_none e front f t c n far h = go (takes_from e.act f c) refl (nat_eq t e.node)
  where
    go : (b : Bool) → takes_from e.act f c ≡ b → (at : Bool) →
        (if at && takes_from e.act f c then option_to_list front else []) ≡ []
    go true q at = absurd (omega (arith, h q))
    go false q true = rw q refl
    go false q false = refl

-- nothing is taken from a number that is no node
pub took_from_none : (s : Setup) (i : ℕ) (es : List Entry) (a b : Course) (f : ℕ) (c : Chan) → s.shape.nodes ≤ f →
    ReplaysOn s i a es b → b.took f c ≡ a.took f c
took_from_none s i [] a b f c far r = ap (λ (x : Course). x.took f c) (sym r)
took_from_none s i (e ∷ es) a b f c far r =
    took_from_none s i es r.0 b f c far r.2 ∙ r.1.took f c
    ∙ ap (λ (l : List Message). a.took f c ++ l) (taken_from_none e r.1.front f i c s.shape.nodes far
    (λ h. acts_from s i a.local r.1.front r.0.local e r.1.sends e.act f c h r.1.local.acts))
    ∙ append-nil (a.took f c)

-- what each number has: the nodes these, and the others those
abbrev pub padded : {X : Type 0} → ℕ → (ℕ → X) → (ℕ → X) → ℕ → X
padded n these those i = if nat_lt i n then these i else those i

in_shape : {X : Type 0} (n : ℕ) (these those : ℕ → X) (i : ℕ) → i < n → padded n these those i ≡ these i
in_shape n these those i h = grind (arith, nat_tests)

beyond : {X : Type 0} (n : ℕ) (these those : ℕ → X) (i : ℕ) → n ≤ i → padded n these those i ≡ those i
beyond n these those i h = grind (arith, nat_tests)

abbrev courses : Setup → (ℕ → Course) → ℕ → Course
courses s ends = padded s.shape.nodes ends (begin s)

-- what is left on a wire: all that was sent, where the receiver is no node
abbrev rest_of : Setup → (ℕ → Course) → Wires → Wires
rest_of s ends left f t c = if nat_lt f s.shape.nodes then (if nat_lt t s.shape.nodes then left f t c else (ends f).sent t c)
    else []

rest_in : (s : Setup) (ends : ℕ → Course) (left : Wires) (f t : ℕ) (c : Chan) → f < s.shape.nodes → t < s.shape.nodes →
    rest_of s ends left f t c ≡ left f t c
rest_in s ends left f t c h k = grind (arith, nat_tests)

rest_out : (s : Setup) (ends : ℕ → Course) (left : Wires) (f t : ℕ) (c : Chan) → f < s.shape.nodes → s.shape.nodes ≤ t →
    rest_of s ends left f t c ≡ (ends f).sent t c
rest_out s ends left f t c h k = grind (arith, nat_tests)

rest_none : (s : Setup) (ends : ℕ → Course) (left : Wires) (f t : ℕ) (c : Chan) → s.shape.nodes ≤ f →
    rest_of s ends left f t c ≡ []
rest_none s ends left f t c h = grind (arith, nat_tests)

all_replay : {X : Type 0} (M : Moves X) (s : Setup) (logs : ℕ → List Entry) (journal : List Entry) (ends : ℕ → Course)
    (firsts lasts : ℕ → X) → AllReplayBeside M s logs firsts ends lasts → IsMerge s.shape.nodes logs journal
    → (i : ℕ) → ReplaysBeside M s i (begin s i) (firsts i) (filter (is_of i) journal) (courses s ends i)
    (padded s.shape.nodes lasts firsts i)
all_replay M s logs journal ends firsts lasts replays merge i = elim (cases_lt i s.shape.nodes) [
  | inl h ↦ rw (merge.parts i h, in_shape s.shape.nodes ends (begin s) i h, in_shape s.shape.nodes lasts firsts i h) (replays i h)
  | inr h ↦ rw (
    no_entries i h journal merge.within,
    beyond s.shape.nodes ends (begin s) i h,
    beyond s.shape.nodes lasts firsts i h,
  ) (refl, refl)
]
  where
    no_entries : (k : ℕ) → s.shape.nodes ≤ k → (es : List Entry) → Each (λ e. e.node < s.shape.nodes) es →
        filter (is_of k) es ≡ []
    no_entries k far [] h = refl
    no_entries k far (e ∷ es) h = let d : e.node ≢ k = (λ q. absurd (omega (arith, h.0))) in rw (nat_eq_other e.node k d)
        (no_entries k far es h.1)

all_agree : (s : Setup) (logs : ℕ → List Entry) (ends : ℕ → Course) (left : Wires) → AllReplay s logs ends →
    Agrees s.shape.nodes ends left → AgreesAll (courses s ends) (rest_of s ends left)
all_agree s logs ends left replays agrees f t c = elim (cases_lt f s.shape.nodes) [
  | inl h ↦ elim (cases_lt t s.shape.nodes) [
    | inl k ↦ rw (inside f h, inside t k, rest_in s ends left f t c h k) (agrees f t c h k)
    | inr k ↦ rw (inside f h, outside t k, rest_out s ends left f t c h k) refl
  ]
  | inr h ↦ elim (cases_lt t s.shape.nodes) [
    | inl k ↦ rw (outside f h, inside t k, rest_none s ends left f t c h)
        (sym (took_from_none s t (logs t) (begin s t) (ends t) f c h (replays t k)) ∙ sym (append-nil ((ends t).took f c)))
    | inr k ↦ rw (outside f h, outside t k, rest_none s ends left f t c h) refl
  ]
]
  where
    inside : (i : ℕ) → i < s.shape.nodes → courses s ends i ≡ ends i
    inside i h = in_shape s.shape.nodes ends (begin s) i h

    outside : (i : ℕ) → s.shape.nodes ≤ i → courses s ends i ≡ begin s i
    outside i h = beyond s.shape.nodes ends (begin s) i h

-- From the start the merge of the logs is a run that reaches these nodes with what is left on the wires, and what stands beside
-- each node is what its log makes of it.
pub merged_run_beside : {X : Type 0} (M : Moves X) (s : Setup) (logs : ℕ → List Entry) (journal : List Entry)
    (ends : ℕ → Course) (left : Wires) (firsts lasts : ℕ → X) → AllReplayBeside M s logs firsts ends lasts
    → Agrees s.shape.nodes ends left → IsMerge s.shape.nodes logs journal
    → (g : World) × (ys : ℕ → X) × RunsBeside M s (start s) firsts journal g ys × IsJoined s.shape.nodes ends left g
    × ((i : ℕ) → i < s.shape.nodes → ys i ≡ lasts i)
merged_run_beside M s logs journal ends left firsts lasts replays agrees merge =
    let alone : AllReplay s logs ends = λ i h. log_alone M s i (logs i) (begin s i) (ends i) (firsts i) (lasts i)
    (replays i h) in (
      joined (courses s ends) (rest_of s ends left),
      padded s.shape.nodes lasts firsts,
      merging_beside M s journal (begin s) (courses s ends) firsts (padded s.shape.nodes lasts firsts) (λ f t c. [])
          (rest_of s ends left) (all_replay M s logs journal ends firsts lasts replays merge) (λ f t c. refl)
          (all_agree s logs ends left alone agrees) merge.sorted,
      record {
        locals = λ i h. ap (λ (x : Course). x.local) (in_shape s.shape.nodes ends (begin s) i h);
        wires = λ f t c h k. rest_in s ends left f t c h k;
        next = λ f t c h k. ap (λ (x : Course). length (x.sent t c)) (in_shape s.shape.nodes ends (begin s) f h);
      },
      λ i h. in_shape s.shape.nodes lasts firsts i h,
    )

-- the same with nothing beside
pub merged_run : (s : Setup) (logs : ℕ → List Entry) (journal : List Entry) (ends : ℕ → Course) (left : Wires) →
    AllReplay s logs ends → Agrees s.shape.nodes ends left → IsMerge s.shape.nodes logs journal
    → (g : World) × Runs s (start s) journal g × IsJoined s.shape.nodes ends left g
merged_run s logs journal ends left replays agrees merge =
    let r = merged_run_beside nothing s logs journal ends left (λ i. tt) (λ i. tt)
    (λ i h. with_nothing s i (logs i) (begin s i) (ends i) (replays i h)) agrees merge in
    (r.0, run_alone nothing s journal (start s) r.0 (λ i. tt) r.1 r.2, r.3)
