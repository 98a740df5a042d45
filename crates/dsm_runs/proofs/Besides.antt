-- Logs with something beside, merged, are a run with it beside. Runs and logs with nothing beside are the case of a unit.
use Rattle.std.proofs.Common.{◌≡◌, ◌≢◌, ◌∙◌, ℕ, List, [], ◌∷◌, ◌++◌, Option, length, refl, sym, subst, inl, inr}
use Rattle.std.proofs.lemmas.Bool.{cases_eq}
use Rattle.std.specs.List.{filter}
use Rattle.tw_base.specs.declared.message.Chan.{Chan}
use Rattle.tw_base.specs.declared.entry.Entry.{Entry}
use Rattle.tw_base.specs.declared.message.Message.{Message}
use Rattle.dsm_runs.specs.Setups.{Setup}
use Rattle.dsm_runs.specs.Messages.{posted}
use Rattle.dsm_runs.specs.Worlds.{taken, Wires, World, Runs}
use Rattle.dsm_runs.specs.Replays.{Course, ReplaysOne, ReplaysOn}
use Rattle.dsm_runs.specs.Merges.{joined, IsSorted, is_of}
use Rattle.dsm_runs.specs.Beside.{Moves, MovesToOne, ReplaysBeside, RunsBeside}
use Rattle.dsm_runs.proofs.Merging.{front_is_there, not_earlier, of_here, of_other, same_end, steps_front, turn_agrees}
use Rattle.dsm_runs.proofs.Merging.{turn_steps}
use Rattle.dsm_runs.proofs.OneEnd.{course_front, one_course, step_front, step_world}
use Rattle.dsm_runs.proofs.Turns.{AgreesAll, Turn, changed, changed_here, changed_other, turn, turn_front}

-- ---- with nothing beside

abbrev pub nothing : Moves (Unit {0})
nothing i l front a x y = Unit {0}

pub with_nothing : (s : Setup) (i : ℕ) (es : List Entry) (a b : Course) → ReplaysOn s i a es b →
    ReplaysBeside nothing s i a tt es b tt
with_nothing s i [] a b r = (r, refl)
with_nothing s i (e ∷ es) a b r = (r.0, tt, r.1, tt, with_nothing s i es r.0 b r.2)

pub log_alone : {X : Type 0} (M : Moves X) (s : Setup) (i : ℕ) (es : List Entry) (a b : Course) (x y : X) →
    ReplaysBeside M s i a x es b y → ReplaysOn s i a es b
log_alone M s i [] a b x y r = r.0
log_alone M s i (e ∷ es) a b x y r = (r.0, r.2, log_alone M s i es r.0 b r.1 y r.4)

pub run_alone : {X : Type 0} (M : Moves X) (s : Setup) (es : List Entry) (g h : World) (xs ys : ℕ → X) →
    RunsBeside M s g xs es h ys → Runs s g es h
run_alone M s [] g h xs ys r = r.0
run_alone M s (e ∷ es) g h xs ys r = (r.0, r.2, run_alone M s es r.0 h r.1 ys r.5)

-- ---- logs and runs go on

pub log_goes_on_beside : {X : Type 0} (M : Moves X) (s : Setup) (i : ℕ) (es : List Entry) (a b d : Course) (x y z : X)
    (e : Entry) → ReplaysBeside M s i a x es b y → (r : ReplaysOne s i b e d) → M i b.local r.front e.act y z
    → ReplaysBeside M s i a x (es ++ e ∷ []) d z
log_goes_on_beside {X} M s i [] a b d x y z e h r m =
    let q = from_there a b h.0 r m in (d, z, q.0, q.1, q.2)
  where
    from_there : (a2 b2 : Course) → a2 ≡ b2 → (q : ReplaysOne s i b2 e d) → M i b2.local q.front e.act y z →
        (w : ReplaysOne s i a2 e d) × M i a2.local w.front e.act x z × ((d ≡ d) × (z ≡ z))
    from_there a2 b2 same q n =
        subst (λ (c : Course). (w : ReplaysOne s i c e d) × M i c.local w.front e.act x z × ((d ≡ d) × (z ≡ z))) (sym same)
        (q, subst (λ (u : X). M i b2.local q.front e.act u z) (sym h.1) n, (refl, refl))
log_goes_on_beside M s i (x0 ∷ es) a b d x y z e h r m = (
  h.0,
  h.1,
  h.2,
  h.3,
  log_goes_on_beside M s i es h.0 b d h.1 y z e h.4 r m,
)

pub run_goes_on_beside : {X : Type 0} (M : Moves X) (s : Setup) (es more : List Entry) (g h k : World) (xs ys zs : ℕ → X) →
    RunsBeside M s g xs es h ys → RunsBeside M s h ys more k zs → RunsBeside M s g xs (es ++ more) k zs
run_goes_on_beside {X} M s [] more g h k xs ys zs r q = subst (λ (x : World). RunsBeside M s x xs more k zs) (sym r.0)
    (subst (λ (us : ℕ → X). RunsBeside M s h us more k zs) (sym r.1) q)
run_goes_on_beside M s (e ∷ es) more g h k xs ys zs r q = (
  r.0,
  r.1,
  r.2,
  r.3,
  r.4,
  run_goes_on_beside M s es more r.0 h k r.1 ys zs r.5 q,
)

-- ---- the merge of logs

-- the other nodes' logs go on as they did
others_go_on : {X : Type 0} (M : Moves X) (s : Setup) (e : Entry) (es : List Entry) (a b : ℕ → Course) (xs ys : ℕ → X)
    (mid : Course) (z : X) → ReplaysBeside M s e.node mid z (filter (is_of e.node) es) (b e.node) (ys e.node)
    → ((i : ℕ) → ReplaysBeside M s i (a i) (xs i) (filter (is_of i) (e ∷ es)) (b i) (ys i)) → (k : ℕ) →
    ReplaysBeside M s k (changed a e.node mid k) (changed xs e.node z k) (filter (is_of k) es) (b k) (ys k)
others_go_on {X} M s e es a b xs ys mid z here all k = elim (cases_eq k e.node) [
  | inl q ↦ rw q
      (subst (λ (u : X). ReplaysBeside M s e.node (changed a e.node mid e.node) u (filter (is_of e.node) es) (b e.node)
      (ys e.node)) (sym (changed_here xs e.node z))
      (subst (λ (x : Course). ReplaysBeside M s e.node x z (filter (is_of e.node) es) (b e.node) (ys e.node))
      (sym (changed_here a e.node mid)) here))
  | inr d ↦ subst (λ (u : X). ReplaysBeside M s k (changed a e.node mid k) u (filter (is_of k) es) (b k) (ys k))
      (sym (changed_other xs e.node z k d))
      (subst (λ (x : Course). ReplaysBeside M s k x (xs k) (filter (is_of k) es) (b k) (ys k))
      (sym (changed_other a e.node mid k d)) (subst (λ (l : List Entry). ReplaysBeside M s k (a k) (xs k) l (b k) (ys k))
      (of_other k e es d) (all k)))
]

pub merging_beside : {X : Type 0} (M : Moves X) (s : Setup) (es : List Entry) (a b : ℕ → Course) (xs ys : ℕ → X)
    (w left : Wires) → ((i : ℕ) → ReplaysBeside M s i (a i) (xs i) (filter (is_of i) es) (b i) (ys i))
    → AgreesAll a w → AgreesAll b left → IsSorted es → RunsBeside M s (joined a w) xs es (joined b left) ys
merging_beside M s [] a b xs ys w left logs before after sorted =
    (same_end a b w left (λ i. (logs i).0) before after, λ j i. (logs i).1 j)
merging_beside {X} M s (e ∷ es) a b xs ys w left logs before after sorted =
    let mine = subst (λ (l : List Entry). ReplaysBeside M s e.node (a e.node) (xs e.node) l (b e.node) (ys e.node))
    (of_here e es) (logs e.node) in
    let a2 : ℕ → Course = changed a e.node mine.0 in
    let zs : ℕ → X = changed xs e.node mine.1 in
    let r : Turn s e a a2 = turn s e a mine.0 mine.2 in
    let rest : (k : ℕ) → ReplaysBeside M s k (a2 k) (zs k) (filter (is_of k) es) (b k) (ys k) =
    others_go_on M s e es a b xs ys mine.0 mine.1 mine.4 logs in
    let there : (f t : ℕ) (c : Chan) → (more : List Message) × (w f t c ≡ taken e r.front f t c ++ more) =
    λ f t c. front_is_there s e a b w left (filter (is_of f) (e ∷ es)) (filter (is_of t) es) f t c a2 r
    (log_alone M s f (filter (is_of f) (e ∷ es)) (a f) (b f) (xs f) (ys f) (logs f)) (not_earlier e es f sorted)
    (log_alone M s t (filter (is_of t) es) (a2 t) (b t) (zs t) (ys t) (rest t)) before after in
    let between : Wires = λ f t c. (there f t c).0 in
    let takes : (f t : ℕ) (c : Chan) → w f t c ≡ taken e r.front f t c ++ between f t c = λ f t c. (there f t c).1 in
    let w2 : Wires = λ f t c. between f t c ++ posted (length ((a f).sent t c)) f t c r.sends in
    let front : (turn_steps s e a a2 w between r takes).front ≡ mine.2.front = steps_front s e a a2 w between r takes
    ∙ turn_front s e a mine.0 mine.2 in (
      joined a2 w2,
      zs,
      turn_steps s e a a2 w between r takes,
      subst (λ (o : Option Message). M e.node (a e.node).local o e.act (xs e.node) (zs e.node)) (sym front)
          (subst (λ (u : X). M e.node (a e.node).local mine.2.front e.act (xs e.node) u)
          (sym (changed_here xs e.node mine.1)) mine.3),
      (λ k d. changed_other xs e.node mine.1 k d),
      merging_beside M s es a2 b zs ys w2 left rest (turn_agrees s e a a2 w between r takes before) after sorted.1,
    )

-- ---- one end

-- A journal determines what stands beside the nodes in the end.
pub run_beside_one : {X : Type 0} (M : Moves X) → MovesToOne M →
    (s : Setup) (es : List Entry) (g h k : World) (xs ys zs : ℕ → X) → RunsBeside M s g xs es h ys →
    RunsBeside M s g xs es k zs → (h ≡ k) × (ys ≡ zs)
run_beside_one M one s [] g h k xs ys zs p q = (sym p.0 ∙ q.0, sym p.1 ∙ q.1)
run_beside_one {X} M one s (e ∷ es) g h k xs ys zs p q =
    let front : p.2.front ≡ q.2.front = step_front s g e p.0 q.0 p.2 q.2 in
    let mid : p.0 ≡ q.0 = step_world s g e p.0 q.0 p.2 q.2 in
    let here : p.1 e.node ≡ q.1 e.node =
    one e.node (g.locals e.node) p.2.front e.act (xs e.node) (p.1 e.node) (q.1 e.node) p.3
    (subst (λ (o : Option Message). M e.node (g.locals e.node) o e.act (xs e.node) (q.1 e.node)) (sym front) q.3) in
    let beside : p.1 ≡ q.1 = λ j i. at p.1 q.1 here p.4 q.4 i j in
    run_beside_one M one s es p.0 h k p.1 ys zs p.5 (subst (λ (x : World). RunsBeside M s x p.1 es k zs) (sym mid)
    (subst (λ (us : ℕ → X). RunsBeside M s q.0 us es k zs) (sym beside) q.5))
  where
    at : (us vs : ℕ → X) → us e.node ≡ vs e.node → ((i : ℕ) → i ≢ e.node → us i ≡ xs i) →
        ((i : ℕ) → i ≢ e.node → vs i ≡ xs i) → (i : ℕ) → us i ≡ vs i
    at us vs here u v i = elim (cases_eq i e.node) [
      | inl same ↦ rw same here
      | inr d ↦ u i d ∙ sym (v i d)
    ]

-- A log and what was taken determine what stands beside the node.
pub log_beside_one : {X : Type 0} (M : Moves X) → MovesToOne M →
    (s : Setup) (i : ℕ) (es : List Entry) (a b d : Course) (x y z : X) → ReplaysBeside M s i a x es b y →
    ReplaysBeside M s i a x es d z
    → ((f : ℕ) (c : Chan) → b.took f c ≡ d.took f c) → (b ≡ d) × (y ≡ z)
log_beside_one M one s i [] a b d x y z p q took = (sym p.0 ∙ q.0, sym p.1 ∙ q.1)
log_beside_one {X} M one s i (e ∷ es) a b d x y z p q took =
    let onp = log_alone M s i es p.0 b p.1 y p.4 in
    let onq = log_alone M s i es q.0 d q.1 z q.4 in
    let front : p.2.front ≡ q.2.front = course_front s i es e a p.0 q.0 b d p.2 q.2 onp onq took in
    let mid : p.0 ≡ q.0 = one_course s i es e a p.0 q.0 b d p.2 q.2 onp onq took in
    let here : p.1 ≡ q.1 = one i a.local p.2.front e.act x p.1 q.1 p.3
    (subst (λ (o : Option Message). M i a.local o e.act x q.1) (sym front) q.3) in
    log_beside_one M one s i es p.0 b d p.1 y z p.4 (subst (λ (m : Course). ReplaysBeside M s i m p.1 es d z) (sym mid)
    (subst (λ (u : X). ReplaysBeside M s i q.0 u es d z) (sym here) q.4)) took
