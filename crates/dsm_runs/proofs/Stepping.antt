-- An event of one node's course, as a step of the state that the courses and the wires make.
use Rattle.std.proofs.Common.{◌≡◌, ◌≢◌, ◌∙◌, ℕ, ◌+◌, ◌<◌, Bool, true, false, ◌&&◌, nat_eq, nat_lt, if◌then◌else◌, length}
use Rattle.std.proofs.Common.{length-append, List, [], ◌++◌, Option, refl, ap, sym, subst, inl, inr, append_assoc, append-nil}
use Rattle.std.specs.Prelude.{option_to_list}
use Rattle.std.proofs.lemmas.Bool.{cases_eq}
use Rattle.std.proofs.lemmas.Bool.Decides.{Decides-ltb}
use Rattle.std.proofs.lemmas.List.{append_cancel_left}
use Rattle.std.specs.List.{filter}
use Rattle.tw_base.specs.declared.message.Chan.{Chan}
use Rattle.tw_base.specs.declared.entry.Entry.{Entry}
use Rattle.tw_base.specs.declared.message.Message.{Message}
use Rattle.dsm_runs.specs.Setups.{Setup}
use Rattle.dsm_runs.specs.Locals.{Local}
use Rattle.dsm_runs.specs.Messages.{numbered, on_wire, posted}
use Rattle.dsm_runs.specs.Events.{LocalStep}
use Rattle.dsm_runs.specs.Worlds.{Step, Wires, World, taken, takes_from}
use Rattle.dsm_runs.specs.Replays.{Course, ReplaysOne}
use Rattle.dsm_runs.specs.Merges.{Agrees, IsJoined}
use Rattle.dsm_runs.proofs.Lists.{length-numbered}
use Rattle.dsm_runs.proofs.Turns.{Turn, changed, changed_here, changed_other, taken_elsewhere, turn, turn_front}

-- The event leads from g to a state that is made of these courses, and of what is left on the wires.
pub record StepsTo (s : Setup) (g : World) (e : Entry) (front : Option Message) (ends : ℕ → Course) (left : Wires) : Type 0 where
  pub after : World
  pub step : Step s g e after
  pub takes : step.front ≡ front
  pub agrees : Agrees s.shape.nodes ends left
  pub joined : IsJoined s.shape.nodes ends left after

-- ---- what is taken

if_no : (b : Bool) (ms : List Message) → (if b && false then ms else []) ≡ []
if_no true ms = refl
if_no false ms = refl

-- nothing is taken from a wire that is none of the machine's
none_taken : (n : ℕ) (e : Entry) (front : Option Message) (f t : ℕ) (c : Chan) → e.node < n →
    (takes_from e.act f c ≡ true → f < n) → (nat_lt f n && nat_lt t n) ≡ false → taken e front f t c ≡ []
none_taken n e front f t c at within out = go (takes_from e.act f c) refl
  where
    inside : f < n → t < n → ⊥
    inside lf lt = let yes : (nat_lt f n && nat_lt t n) ≡ true =
        rw ((Decides-ltb f n).1 lf, (Decides-ltb t n).1 lt) refl in absurd (cc (yes, out))

    go : (b : Bool) → takes_from e.act f c ≡ b → taken e front f t c ≡ []
    go false q = rw q (if_no (nat_eq t e.node) (option_to_list front))
    go true q = elim (cases_eq t e.node) [
      | inl same ↦ absurd (inside (within q) (subst (λ k. k < n) (sym same) at))
      | inr d ↦ taken_elsewhere e front f t c d
    ]

-- what a wire has behind what was taken: `between` on the machine's wires, and all on others
rest_if : Bool → Wires → Wires → Wires
rest_if true between wires f t c = between f t c
rest_if false between wires f t c = wires f t c

rest_of : ℕ → Wires → Wires → Wires
rest_of n between wires f t c = rest_if (nat_lt f n && nat_lt t n) between wires f t c

rest_within : (n : ℕ) (between wires : Wires) (f t : ℕ) (c : Chan) → f < n → t < n → rest_of n between wires f t c ≡ between f t c
unfolding rest_if rest_of
rest_within n between wires f t c lf lt = rw ((Decides-ltb f n).1 lf, (Decides-ltb t n).1 lt) refl

rest_outside : (n : ℕ) (between wires : Wires) (f t : ℕ) (c : Chan) → (nat_lt f n && nat_lt t n) ≡ false →
    rest_of n between wires f t c ≡ wires f t c
unfolding rest_if rest_of
rest_outside n between wires f t c out = rw out refl

all_taken : (n : ℕ) (e : Entry) (front : Option Message) (between wires : Wires) → e.node < n →
    ((f : ℕ) (c : Chan) → takes_from e.act f c ≡ true → f < n)
    → ((f t : ℕ) (c : Chan) → f < n → t < n → wires f t c ≡ taken e front f t c ++ between f t c) → (f t : ℕ) (c : Chan) →
    wires f t c ≡ taken e front f t c ++ rest_of n between wires f t c
all_taken n e front between wires at within takes f t c = go (nat_lt f n) (nat_lt t n) refl refl
  where
    outside : (nat_lt f n && nat_lt t n) ≡ false → wires f t c ≡ taken e front f t c ++ rest_of n between wires f t c
    outside out =
        sym (ap (λ (ms : List Message). ms ++ rest_of n between wires f t c) (none_taken n e front f t c at (within f c) out)
        ∙ rest_outside n between wires f t c out)

    go : (x y : Bool) → nat_lt f n ≡ x → nat_lt t n ≡ y → wires f t c ≡ taken e front f t c ++ rest_of n between wires f t c
    go true true p q =
        let lf : f < n = (Decides-ltb f n).0 p in
        let lt : t < n = (Decides-ltb t n).0 q in
        takes f t c lf lt ∙ ap (λ (ms : List Message). taken e front f t c ++ ms) (sym (rest_within n between wires f t c lf lt))
    go true false p q = outside (rw (p, q) refl)
    go false y p q = outside (rw p refl)

-- ---- the step

stepped : (s : Setup) (g : World) (e : Entry) (ends : ℕ → Course) (mid : Course) (between : Wires) →
    Turn s e ends (changed ends e.node mid) → World
stepped s g e ends mid between w = record {
  locals = changed g.locals e.node mid.local;
  wires = λ f t c. rest_of s.shape.nodes between g.wires f t c ++ posted (g.next f t c) f t c w.sends;
  next = λ f t c. g.next f t c + length (filter (on_wire f t c) w.sends);
}

stepped_step : (s : Setup) (g : World) (e : Entry) (ends : ℕ → Course) (mid : Course) (between : Wires)
    (w : Turn s e ends (changed ends e.node mid)) → e.node < s.shape.nodes → g.locals e.node ≡ (ends e.node).local
    → ((f : ℕ) (c : Chan) → takes_from e.act f c ≡ true → f < s.shape.nodes) →
    ((f t : ℕ) (c : Chan) → f < s.shape.nodes → t < s.shape.nodes → g.wires f t c ≡ taken e w.front f t c ++ between f t c)
    → (r : Step s g e (stepped s g e ends mid between w)) × (r.front ≡ w.front)
unfolding stepped
stepped_step s g e ends mid between w at here within takes = (
  record {
    front = w.front;
    sends = w.sends;
    between = rest_of s.shape.nodes between g.wires;
    local = subst (λ (l : Local). LocalStep s e.node l w.front (changed g.locals e.node mid.local e.node) e w.sends) (sym here)
        (subst (λ (l : Local). LocalStep s e.node (ends e.node).local w.front l e w.sends)
        (ap (λ (x : Course). x.local) (changed_here ends e.node mid) ∙ sym (changed_here g.locals e.node mid.local))
        w.local);
    others = λ k d. changed_other g.locals e.node mid.local k d;
    takes = all_taken s.shape.nodes e w.front between g.wires at within takes;
    wires = λ f t c. refl;
    next = λ f t c. refl;
  },
  refl,
)

stepped_joined : (s : Setup) (g : World) (e : Entry) (ends : ℕ → Course) (mid : Course) (left between left2 : Wires)
    (w : Turn s e ends (changed ends e.node mid)) → IsJoined s.shape.nodes ends left g
    → ((f t : ℕ) (c : Chan) → f < s.shape.nodes → t < s.shape.nodes →
    left2 f t c ≡ between f t c ++ posted (length ((ends f).sent t c)) f t c w.sends) →
    IsJoined s.shape.nodes (changed ends e.node mid) left2 (stepped s g e ends mid between w)
unfolding stepped
stepped_joined s g e ends mid left between left2 w j new = record {
  locals = λ k l. elim (cases_eq k e.node) [
    | inl q ↦ rw q (changed_here g.locals e.node mid.local ∙ ap (λ (x : Course). x.local) (sym (changed_here ends e.node mid)))
    | inr d ↦ changed_other g.locals e.node mid.local k d ∙ j.locals k l
        ∙ ap (λ (x : Course). x.local) (sym (changed_other ends e.node mid k d))
  ];
  wires = λ f t c lf lt. ap (λ (ms : List Message). ms ++ posted (g.next f t c) f t c w.sends)
      (rest_within s.shape.nodes between g.wires f t c lf lt)
      ∙ ap (λ k. between f t c ++ posted k f t c w.sends) (j.next f t c lf lt) ∙ sym (new f t c lf lt);
  next = λ f t c lf lt.
      let sent : List Message = (ends f).sent t c in
      let put : List Message = posted (length sent) f t c w.sends in
      ap (λ k. k + length (filter (on_wire f t c) w.sends)) (j.next f t c lf lt)
      ∙ ap (λ k. length sent + k) (sym (length-numbered (length sent) (filter (on_wire f t c) w.sends)))
      ∙ sym (length-append sent put) ∙ ap length (sym (w.sent f t c));
}

turn_agrees_within : (n : ℕ) (s : Setup) (e : Entry) (a a2 : ℕ → Course) (left between left2 : Wires) (w : Turn s e a a2) →
    Agrees n a left → ((f t : ℕ) (c : Chan) → f < n → t < n → left f t c ≡ taken e w.front f t c ++ between f t c)
    → ((f t : ℕ) (c : Chan) → f < n → t < n → left2 f t c ≡ between f t c ++ posted (length ((a f).sent t c)) f t c w.sends) →
    Agrees n a2 left2
turn_agrees_within n s e a a2 left between left2 w before takes new f t c lf lt =
    let put : List Message = posted (length ((a f).sent t c)) f t c w.sends in
    let took : List Message = (a t).took f c in
    let front : List Message = taken e w.front f t c in
    w.sent f t c
    ∙ ap (λ (x : List Message). x ++ put) (before f t c lf lt ∙ ap (λ (x : List Message). took ++ x) (takes f t c lf lt)
    ∙ sym (append_assoc took front (between f t c)))
    ∙ append_assoc (took ++ front) (between f t c) put
    ∙ ap (λ (x : List Message). x ++ (between f t c ++ put)) (sym (w.took f t c))
    ∙ ap (λ (x : List Message). (a2 t).took f c ++ x) (sym (new f t c lf lt))

-- what comes onto the wires is what the node's course sent
put_on : (s : Setup) (e : Entry) (ends : ℕ → Course) (mid : Course) (between left2 : Wires) (put : ℕ → Chan → List Message)
    (w : Turn s e ends (changed ends e.node mid)) → ((t : ℕ) (c : Chan) → mid.sent t c ≡ (ends e.node).sent t c ++ put t c)
    → ((t : ℕ) (c : Chan) → t < s.shape.nodes → left2 e.node t c ≡ between e.node t c ++ put t c) →
    ((f t : ℕ) (c : Chan) → f ≢ e.node → f < s.shape.nodes → t < s.shape.nodes → left2 f t c ≡ between f t c)
    → (f t : ℕ) (c : Chan) → f < s.shape.nodes → t < s.shape.nodes →
    left2 f t c ≡ between f t c ++ posted (length ((ends f).sent t c)) f t c w.sends
put_on s e ends mid between left2 put w sent mine others f t c lf lt = elim (cases_eq f e.node) [
  | inl q ↦ rw q (mine t c lt ∙ ap (λ (ms : List Message). between e.node t c ++ ms) (here t c))
  | inr d ↦ others f t c d lf lt ∙ sym (append-nil (between f t c))
      ∙ ap (λ (ms : List Message). between f t c ++ numbered (length ((ends f).sent t c)) ms) (sym (w.away f t c d))
]
  where
    here : (k : ℕ) (ch : Chan) → put k ch ≡ posted (length ((ends e.node).sent k ch)) e.node k ch w.sends
    here k ch = append_cancel_left ((ends e.node).sent k ch) _ _
        (sym (sent k ch) ∙ ap (λ (x : Course). x.sent k ch) (sym (changed_here ends e.node mid)) ∙ w.sent e.node k ch)

-- Node e.node goes on by e from course `ends e.node` to `mid`, the others stay: what it takes stood first on its wire, of which
-- `between` is the rest, and behind that it puts `sends`, of which `put t c` come onto the wire to node t on channel c.
pub course_steps : (s : Setup) (g : World) (e : Entry) (ends : ℕ → Course) (mid : Course) (left between left2 : Wires)
    (put : ℕ → Chan → List Message) (r : ReplaysOne s e.node (ends e.node) e mid) → e.node < s.shape.nodes
    → Agrees s.shape.nodes ends left → IsJoined s.shape.nodes ends left g →
    ((f : ℕ) (c : Chan) → takes_from e.act f c ≡ true → f < s.shape.nodes)
    → ((f t : ℕ) (c : Chan) → f < s.shape.nodes → t < s.shape.nodes → left f t c ≡ taken e r.front f t c ++ between f t c)
    → ((t : ℕ) (c : Chan) → mid.sent t c ≡ (ends e.node).sent t c ++ put t c)
    → ((t : ℕ) (c : Chan) → t < s.shape.nodes → left2 e.node t c ≡ between e.node t c ++ put t c)
    → ((f t : ℕ) (c : Chan) → f ≢ e.node → f < s.shape.nodes → t < s.shape.nodes → left2 f t c ≡ between f t c)
    → StepsTo s g e r.front (changed ends e.node mid) left2
course_steps s g e ends mid left between left2 put r at agrees joins within takes sent mine others =
    let n = s.shape.nodes in
    let w : Turn s e ends (changed ends e.node mid) = turn s e ends mid r in
    let front : w.front ≡ r.front = turn_front s e ends mid r in
    let here : (f t : ℕ) (c : Chan) → f < n → t < n → left f t c ≡ taken e w.front f t c ++ between f t c =
    λ f t c lf lt. takes f t c lf lt ∙ ap (λ (o : Option Message). taken e o f t c ++ between f t c) (sym front) in
    let new : (f t : ℕ) (c : Chan) → f < n → t < n → left2 f t c ≡ between f t c
    ++ posted (length ((ends f).sent t c)) f t c w.sends = put_on s e ends mid between left2 put w sent mine others in
    let step = stepped_step s g e ends mid between w at (joins.locals e.node at) within
    (λ f t c lf lt. joins.wires f t c lf lt ∙ here f t c lf lt) in
    record {
      after = stepped s g e ends mid between w;
      step = step.0;
      takes = step.1 ∙ front;
      agrees = turn_agrees_within n s e ends (changed ends e.node mid) left between left2 w agrees here new;
      joined = stepped_joined s g e ends mid left between left2 w joins new;
    }
