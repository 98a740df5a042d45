-- A journal determines the state that it reaches, and a log the node, by what it took.
use Rattle.std.proofs.Common.{◌≡◌, ℕ, ◌+◌, length, true, List, [], ◌∷◌, ◌++◌, Option, Some, refl, ap, sym, ◌∙◌, subst, inl, inr}
use Rattle.std.proofs.Common.{append_assoc}
use Rattle.std.proofs.lemmas.Bool.{cases_eq}
use Rattle.std.proofs.lemmas.List.{append_cancel_left}
use Rattle.std.specs.List.{filter}
use Rattle.tw_base.specs.declared.message.Chan.{Chan}
use Rattle.tw_base.specs.declared.entry.Entry.{Entry}
use Rattle.tw_base.specs.declared.message.Message.{Message}
use Rattle.dsm_runs.specs.Setups.{Setup}
use Rattle.dsm_runs.specs.Messages.{on_wire, posted}
use Rattle.dsm_runs.specs.Worlds.{taken, takes_from, World, Step, Runs}
use Rattle.dsm_runs.specs.Replays.{Course, ReplaysOne, ReplaysOn}
use Rattle.dsm_runs.proofs.Lists.{nat_eq_refl}
use Rattle.dsm_runs.proofs.Sends.{takes_later}
use Rattle.dsm_runs.proofs.Turns.{cons_head}
use Rattle.dsm_runs.proofs.OneStep.{acts_front, step_local, step_sends}

pub taken_here : (e : Entry) (front : Option Message) (f t : ℕ) (c : Chan) (m : Message) → t ≡ e.node →
    takes_from e.act f c ≡ true → front ≡ Some m → taken e front f t c ≡ m ∷ []
taken_here e front f t c m at h q = rw (at, nat_eq_refl e.node, h, q) refl

same_world : (x y : World) → ((k : ℕ) → x.locals k ≡ y.locals k) → ((f t : ℕ) (c : Chan) → x.wires f t c ≡ y.wires f t c) →
    ((f t : ℕ) (c : Chan) → x.next f t c ≡ y.next f t c) → x ≡ y
same_world x y p q r = λ j. record { locals = λ k. p k j; wires = λ f t c. q f t c j; next = λ f t c. r f t c j }

same_course : (x y : Course) → x.local ≡ y.local → ((f : ℕ) (c : Chan) → x.took f c ≡ y.took f c) →
    ((t : ℕ) (c : Chan) → x.sent t c ≡ y.sent t c) → x ≡ y
same_course x y p q r = λ j. record { local = p j; took = λ f c. q f c j; sent = λ t c. r t c j }

-- an event takes one message
pub step_front : (s : Setup) (g : World) (e : Entry) (x y : World) (p : Step s g e x) (q : Step s g e y) → p.front ≡ q.front
step_front s g e x y p q = acts_front s e.node (g.locals e.node) p.front q.front (x.locals e.node)
    (y.locals e.node) e e p.sends q.sends e.act heads p.local.acts q.local.acts
  where
    heads : (f : ℕ) (c : Chan) (m m2 : Message) → takes_from e.act f c ≡ true → p.front ≡ Some m → q.front ≡ Some m2 → m ≡ m2
    heads f c m m2 h a b = cons_head m m2 (p.between f e.node c) (q.between f e.node c)
        (ap (λ (l : List Message). l ++ p.between f e.node c) (sym (taken_here e p.front f e.node c m refl h a))
        ∙ sym (p.takes f e.node c) ∙ q.takes f e.node c ∙ ap (λ (l : List Message). l ++ q.between f e.node c)
        (taken_here e q.front f e.node c m2 refl h b))

pub step_world : (s : Setup) (g : World) (e : Entry) (x y : World) → Step s g e x → Step s g e y → x ≡ y
step_world s g e x y p q = same_world x y
    (λ k. elim (cases_eq k e.node) [
      | inl at ↦ rw at (step_local s e.node (g.locals e.node) p.front q.front (x.locals e.node)
          (y.locals e.node) e p.sends q.sends front p.local q.local)
      | inr d ↦ p.others k d ∙ sym (q.others k d)
    ])
    (λ f t c. p.wires f t c ∙ ap (λ (l : List Message). l ++ posted (g.next f t c) f t c p.sends) (rest f t c)
    ∙ ap (λ (ms : List Message). q.between f t c ++ posted (g.next f t c) f t c ms) sends ∙ sym (q.wires f t c))
    (λ f t c. p.next f t c ∙ ap (λ (ms : List Message). g.next f t c + length (filter (on_wire f t c) ms)) sends
    ∙ sym (q.next f t c))
  where
    front : p.front ≡ q.front
    front = step_front s g e x y p q

    sends : p.sends ≡ q.sends
    sends = step_sends s e.node (g.locals e.node) p.front q.front (x.locals e.node)
        (y.locals e.node) e p.sends q.sends front p.local q.local

    rest : (f t : ℕ) (c : Chan) → p.between f t c ≡ q.between f t c
    rest f t c = append_cancel_left (taken e q.front f t c) (p.between f t c) (q.between f t c)
        (ap (λ (o : Option Message). taken e o f t c ++ p.between f t c) (sym front) ∙ sym (p.takes f t c) ∙ q.takes f t c)

pub run_world : (s : Setup) (es : List Entry) (g x y : World) → Runs s g es x → Runs s g es y → x ≡ y
run_world s [] g x y p q = sym p ∙ q
run_world s (e ∷ es) g x y p q =
    run_world s es p.0 x y p.2 (subst (λ (mid : World). Runs s mid es y) (sym (step_world s g e p.0 q.0 p.1 q.1)) q.2)

-- where two courses took the same in the end, they took the same here
pub course_front : (s : Setup) (i : ℕ) (es : List Entry) (e : Entry) (a b d x y : Course) (p : ReplaysOne s i a e b)
    (q : ReplaysOne s i a e d) → ReplaysOn s i b es x → ReplaysOn s i d es y → ((f : ℕ) (c : Chan) → x.took f c ≡ y.took f c) →
    p.front ≡ q.front
course_front s i es e a b d x y p q onp onq took = acts_front s i a.local p.front q.front b.local d.local e e p.sends q.sends
    e.act heads p.local.acts q.local.acts
  where
    heads : (f : ℕ) (c : Chan) (m m2 : Message) → takes_from e.act f c ≡ true → p.front ≡ Some m → q.front ≡ Some m2 → m ≡ m2
    heads f c m m2 h u v =
        let later = takes_later s i es b x f c onp in
        let later2 = takes_later s i es d y f c onq in
        let one : x.took f c ≡ a.took f c ++ (m ∷ later.0) =
        later.1 ∙ ap (λ (l : List Message). l ++ later.0) (p.took f c
        ∙ ap (λ (l : List Message). a.took f c ++ l) (taken_here e p.front f i c m (sym p.local.node) h u))
        ∙ append_assoc (a.took f c) (m ∷ []) later.0 in
        let two : y.took f c ≡ a.took f c ++ (m2 ∷ later2.0) =
        later2.1 ∙ ap (λ (l : List Message). l ++ later2.0) (q.took f c
        ∙ ap (λ (l : List Message). a.took f c ++ l) (taken_here e q.front f i c m2 (sym q.local.node) h v))
        ∙ append_assoc (a.took f c) (m2 ∷ []) later2.0 in
        cons_head m m2 later.0 later2.0 (append_cancel_left (a.took f c) (m ∷ later.0) (m2 ∷ later2.0) (sym one ∙ took f c ∙ two))

pub one_course : (s : Setup) (i : ℕ) (es : List Entry) (e : Entry) (a b d x y : Course) (p : ReplaysOne s i a e b)
    (q : ReplaysOne s i a e d) → ReplaysOn s i b es x → ReplaysOn s i d es y → ((f : ℕ) (c : Chan) → x.took f c ≡ y.took f c) →
    b ≡ d
one_course s i es e a b d x y p q onp onq took =
    let front = course_front s i es e a b d x y p q onp onq took in
    same_course b d
    (step_local s i a.local p.front q.front b.local d.local e p.sends q.sends front p.local q.local)
    (λ f c. p.took f c ∙ ap (λ (o : Option Message). a.took f c ++ taken e o f i c) front ∙ sym (q.took f c))
    (λ t c. p.sent t c ∙ ap (λ (ms : List Message). a.sent t c ++ posted (length (a.sent t c)) i t c ms)
    (step_sends s i a.local p.front q.front b.local d.local e p.sends q.sends front p.local q.local) ∙ sym (q.sent t c))

pub goes_on_course : (s : Setup) (i : ℕ) (es : List Entry) (a x y : Course) → ReplaysOn s i a es x → ReplaysOn s i a es y →
    ((f : ℕ) (c : Chan) → x.took f c ≡ y.took f c) → x ≡ y
goes_on_course s i [] a x y p q took = sym p ∙ q
goes_on_course s i (e ∷ es) a x y p q took =
    goes_on_course s i es p.0 x y p.2 (subst (λ (mid : Course). ReplaysOn s i mid es y)
    (sym (one_course s i es e a p.0 q.0 x y p.1 q.1 p.2 q.2 took)) q.2) took
