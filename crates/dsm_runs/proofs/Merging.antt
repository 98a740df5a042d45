-- An entry of one log, as a step of all nodes and wires: what it takes is there.
use Rattle.std.proofs.Common.{◌≡◌, ◌≢◌, ℕ, ◌+◌, ◌≤◌, length, length-append, List, ◌∷◌, ◌++◌, arith, refl, ap, sym, ◌∙◌}
use Rattle.std.proofs.Common.{append_assoc, inl, inr}
use Rattle.std.proofs.lemmas.List.{append_cancel_left}
use Rattle.std.specs.List.{filter}
use Rattle.tw_base.specs.declared.message.Chan.{Chan}
use Rattle.tw_base.specs.declared.entry.Entry.{Entry}
use Rattle.tw_base.specs.declared.message.Message.{Message}
use Rattle.dsm_runs.specs.Setups.{Setup}
use Rattle.tw_base.specs.Lists.{Each}
use Rattle.dsm_runs.specs.Messages.{on_wire, posted}
use Rattle.dsm_runs.specs.Worlds.{taken, Wires, Step}
use Rattle.dsm_runs.specs.Replays.{Course, ReplaysOn}
use Rattle.dsm_runs.specs.Merges.{joined, Before, IsSorted, is_of}
use Rattle.dsm_runs.proofs.Lists.{Each-implied, Each-filter, nat_eq_refl, length-numbered}
use Rattle.dsm_runs.proofs.Sends.{NotEarlier, sends_later, takes_later}
use Rattle.dsm_runs.proofs.Turns.{AgreesAll, Turn, nat_eq_other, split_front, taken_early}

pub of_here : (e : Entry) (es : List Entry) → filter (is_of e.node) (e ∷ es) ≡ e ∷ filter (is_of e.node) es
of_here e es = rw (nat_eq_refl e.node) refl

pub of_other : (k : ℕ) (e : Entry) (es : List Entry) → k ≢ e.node → filter (is_of k) (e ∷ es) ≡ filter (is_of k) es
of_other k e es d = rw (nat_eq_other e.node k (λ q. d (sym q))) refl

before_at : (a b : Entry) → Before a b → a.stamp ≤ b.stamp
before_at a b (inl h) = omega arith
before_at a b (inr h) = omega arith

pub not_earlier : (e : Entry) (es : List Entry) (k : ℕ) → IsSorted (e ∷ es) →
    Each (NotEarlier e.stamp) (filter (is_of k) (e ∷ es))
not_earlier e es k h = Each-filter (NotEarlier e.stamp) (is_of k) (e ∷ es)
    (omega arith, Each-implied (Before e) (NotEarlier e.stamp) es (λ b q. before_at e b q) h.0)

pub same_end : (a b : ℕ → Course) (w left : Wires) → ((i : ℕ) → a i ≡ b i) → AgreesAll a w → AgreesAll b left →
    joined a w ≡ joined b left
same_end a b w left p before after = λ j. joined (λ i. p i j) (λ f t c. same_wire f t c j)
  where
    same_wire : (f t : ℕ) (c : Chan) → w f t c ≡ left f t c
    same_wire f t c = append_cancel_left ((b t).took f c) (w f t c) (left f t c)
        (ap (λ (x : Course). x.took f c ++ w f t c) (sym (p t)) ∙ sym (before f t c) ∙ ap (λ (x : Course). x.sent t c) (p f)
        ∙ after f t c)

-- what the event of an entry takes is on the wires
pub front_is_there : (s : Setup) (e : Entry) (a b : ℕ → Course) (w left : Wires) (mine rest : List Entry) (f t : ℕ) (c : Chan)
    (a2 : ℕ → Course) (r : Turn s e a a2)
    → ReplaysOn s f (a f) mine (b f) → Each (NotEarlier e.stamp) mine → ReplaysOn s t (a2 t) rest (b t) → AgreesAll a w →
    AgreesAll b left
    → (more : List Message) × (w f t c ≡ taken e r.front f t c ++ more)
front_is_there s e a b w left mine rest f t c a2 r sender late receiver before after =
    let sends = sends_later s f e.stamp mine (a f) (b f) t c sender late in
    let takes = takes_later s t rest (a2 t) (b t) f c receiver in
    let took : List Message = (a t).took f c in
    let front : List Message = taken e r.front f t c in
    let whole : took ++ (w f t c ++ sends.0) ≡ took ++ (front ++ (takes.0 ++ left f t c)) =
    sym (append_assoc took (w f t c) sends.0)
    ∙ ap (λ (x : List Message). x ++ sends.0) (sym (before f t c))
    ∙ sym sends.1
    ∙ after f t c
    ∙ ap (λ (x : List Message). x ++ left f t c) (takes.1 ∙ ap (λ (x : List Message). x ++ takes.0) (r.took f t c))
    ∙ append_assoc (took ++ front) takes.0 (left f t c)
    ∙ append_assoc took front (takes.0 ++ left f t c) in
    split_front e.stamp (w f t c) sends.0 front (takes.0 ++ left f t c) (append_cancel_left took _ _ whole) sends.2
    (taken_early s e (a e.node).local (a2 e.node).local r.front r.sends f t c r.local)

-- the turn is a step from the nodes and wires before to those after
pub turn_steps : (s : Setup) (e : Entry) (a a2 : ℕ → Course) (w between : Wires) (r : Turn s e a a2) →
    ((f t : ℕ) (c : Chan) → w f t c ≡ taken e r.front f t c ++ between f t c)
    → Step s (joined a w) e (joined a2 (λ f t c. between f t c ++ posted (length ((a f).sent t c)) f t c r.sends))
turn_steps s e a a2 w between r takes = record {
  front = r.front;
  sends = r.sends;
  between = between;
  local = r.local;
  others = λ k d. ap (λ (x : Course). x.local) (r.others k d);
  takes = takes;
  wires = λ f t c. refl;
  next = λ f t c. ap length (r.sent f t c) ∙ length-append ((a f).sent t c) (posted (length ((a f).sent t c)) f t c r.sends)
      ∙ ap (λ n. length ((a f).sent t c) + n) (length-numbered (length ((a f).sent t c)) (filter (on_wire f t c) r.sends));
}

pub steps_front : (s : Setup) (e : Entry) (a a2 : ℕ → Course) (w between : Wires) (r : Turn s e a a2)
    (takes : (f t : ℕ) (c : Chan) → w f t c ≡ taken e r.front f t c ++ between f t c) →
    (turn_steps s e a a2 w between r takes).front ≡ r.front
unfolding turn_steps
steps_front s e a a2 w between r takes = refl

pub turn_agrees : (s : Setup) (e : Entry) (a a2 : ℕ → Course) (w between : Wires) (r : Turn s e a a2) →
    ((f t : ℕ) (c : Chan) → w f t c ≡ taken e r.front f t c ++ between f t c) → AgreesAll a w
    → AgreesAll a2 (λ f t c. between f t c ++ posted (length ((a f).sent t c)) f t c r.sends)
turn_agrees s e a a2 w between r takes before f t c =
    let put : List Message = posted (length ((a f).sent t c)) f t c r.sends in
    let took : List Message = (a t).took f c in
    let front : List Message = taken e r.front f t c in
    r.sent f t c
    ∙ ap (λ (x : List Message). x ++ put) (before f t c ∙ ap (λ (x : List Message). took ++ x) (takes f t c)
    ∙ sym (append_assoc took front (between f t c)))
    ∙ append_assoc (took ++ front) (between f t c) put
    ∙ ap (λ (x : List Message). x ++ (between f t c ++ put)) (sym (r.took f t c))

-- the other nodes' logs go on as they did
