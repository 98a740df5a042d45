-- The handlers of a state are for different kinds, and one is for all else.
use Rattle.std.proofs.Common.{◌≡◌, ◌∙◌, ℕ, zero, suc, ◌+◌, ◌<◌, ◌⊎◌, Bool, true, false, List, [], ◌∷◌, ◌++◌, length, Option}
use Rattle.std.proofs.Common.{Some, None, refl, ap, sym, subst, arith, inl, inr}
use Rattle.std.specs.Prelude.{cond, find, is_none, is_some, map, not, slice_get, ◌&&◌, ◌||◌, ◌==◌, Contains}
use Rattle.std.specs.List.{list_all, list_any}
use Rattle.std.specs.Str.{bytes_eq}
use Rattle.std.proofs.lemmas.Bool.{and_parts, eq-eqb, eqb-true}
use Rattle.std.proofs.lemmas.Slice.Eq.{bytes_eq-Decides}
use Rattle.tw_base.specs.Bits.{all_below}
use Rattle.tw_base.specs.Lists.{Each}
use Rattle.tw_base.specs.declared.name.Name.{Name}
use Rattle.teapot_tree.specs.declared.protocol.Handler.{Handler}
use Rattle.teapot_tree.specs.declared.protocol.Protocol.{Protocol}
use Rattle.teapot_tree.specs.declared.protocol.State.{State}
use Rattle.teapot_tree.specs.declared.protocol.Trigger.{Trigger}
use Rattle.teapot_tree.specs.declared.protocol.Trigger.TheVariants as t
use Rattle.teapot_tree.specs.declared.rule.Rule.TheVariants.{NoDefault, Twice, Undeclared}
use Rattle.teapot_tree.specs.Rules.{Again, Any, AtHandler, AtStep, IsAccepted, answers_undeclared, has_default as state_default}
use Rattle.teapot_tree.specs.Rules.{is_default, uses_undeclared}
use Rattle.teapot_tree.specs.Scopes.{message_number, message_of}
use Rattle.teapot_meaning.specs.Names.{declared}
use Rattle.teapot_meaning.proofs.Found.{any_at, both, each_both, find_holds, is_false, not_true, place_found, slice_has}
use Rattle.teapot_meaning.proofs.Sound.{in_handler}
use Rattle.handler_code.specs.declared.code.Code.{Code}
use Rattle.handler_code.specs.declared.code.Door.{Door}
use Rattle.handler_code.specs.declared.code.Kind2.{Kind2}
use Rattle.handler_code.specs.declared.code.Kind2.TheVariants as on
use Rattle.handler_code.specs.declared.code.OpCode.{OpCode}
use Rattle.handler_code.specs.Doors.{is_for_all_else, kind_of, same_kind}
use Rattle.code_rules.specs.Serving.{are_apart, has_default, same_door, serves_all}
use Rattle.compiled_meaning.specs.Compiled.{rests_in}
use Rattle.compiled_meaning.specs.Whole.{Entry, IsCode, door_of, doors_from, entries_from, entries_of, entry_code}
use Rattle.compiled_meaning.proofs.Accepted.{contains_first, contains_later, some_of}
use Rattle.compiled_meaning.proofs.Doors.{door_found, else_alike, entry, found_entry, in_entries, of_state}

-- ---- kinds and triggers

known : {X : Type 0} (o : Option X) → is_none o ≡ false → is_some o ≡ true
known (Some x) e = refl
known None e = cc

-- the message of a name, by its number
record Numbered (p : Protocol) (n : Name) : Type 0 where
  place : ℕ
  number : message_number p n ≡ Some place
  named : (m : _) → slice_get p.messages place ≡ Some m → m.name ≡ n

numbered : (p : Protocol) (n : Name) → answers_undeclared p (t.Named n) ≡ false → Numbered p n
numbered p n e =
    let m = some_of (message_of p n) (known (message_of p n) e) in
    let k = place_found (λ d. bytes_eq d.name n) p.messages m.0 m.1 in
    let h = find_holds (λ d. bytes_eq d.name n) p.messages m.0 m.1 in
    let name = (bytes_eq-Decides m.0.name n).0 h in
    record {
      place = k.0;
      number = k.1;
      named = λ x f. let there = k.2 in let same : m.0
          ≡ x = cc in sym (ap (λ d. d.name) same) ∙ name;
    }

same_name : (p : Protocol) (m n : Name) → answers_undeclared p (t.Named m) ≡ false → answers_undeclared p (t.Named n) ≡ false →
    (declared (message_number p m) == declared (message_number p n)) ≡ true → m ≡ n
same_name p m n e f g =
    let a = numbered p m e in
    let b = numbered p n f in
    let same : declared (message_number p m) ≡ declared (message_number p n) = eqb-true _ _ g in
    let places : a.place ≡ b.place = sym (ap declared a.number) ∙ (same ∙ ap declared b.number) in
    let x = some_of (message_of p m) (known (message_of p m) e) in
    let k = place_found (λ d. bytes_eq d.name m) p.messages x.0 x.1 in
    let here : k.0 ≡ a.place = let u = k.1 in let v = a.number in cc in
    let first : slice_get p.messages a.place ≡ Some x.0 = subst (λ i. slice_get p.messages i ≡ Some x.0) here k.2 in
    let second : slice_get p.messages b.place ≡ Some x.0 = subst (λ i. slice_get p.messages i ≡ Some x.0) places first in
    sym (a.named x.0 first) ∙ b.named x.0 second

same_trigger : (p : Protocol) (a b : Trigger) → answers_undeclared p a ≡ false → answers_undeclared p b ≡ false →
    same_kind (kind_of p a) (kind_of p b) ≡ true → a ≡ b
same_trigger p t.RdFault t.RdFault e f g = refl
same_trigger p t.WrFault t.WrFault e f g = refl
same_trigger p (t.Named m) (t.Named n) e f g = ap t.Named (same_name p m n e f g)
same_trigger p t.Default t.Default e f g = refl
same_trigger p t.RdFault t.WrFault e f g = cc
same_trigger p t.RdFault (t.Named n) e f g = cc
same_trigger p t.RdFault t.Default e f g = cc
same_trigger p t.WrFault t.RdFault e f g = cc
same_trigger p t.WrFault (t.Named n) e f g = cc
same_trigger p t.WrFault t.Default e f g = cc
same_trigger p (t.Named m) t.RdFault e f g = cc
same_trigger p (t.Named m) t.WrFault e f g = cc
same_trigger p (t.Named m) t.Default e f g = cc
same_trigger p t.Default t.RdFault e f g = cc
same_trigger p t.Default t.WrFault e f g = cc
same_trigger p t.Default (t.Named n) e f g = cc

kind_alike : (k : Kind2) → same_kind k k ≡ true
kind_alike on.RdFault = refl
kind_alike on.WrFault = refl
kind_alike (on.Named n) = eq-eqb n n refl
kind_alike on.Default = refl

-- ---- the handlers of one state

abbrev triggers : List Handler → List (Trigger × ℕ)
triggers hs = map (λ (h : Handler). (h.on, h.line)) hs

again_behind : (h : Handler) (hs : List Handler) (k : Handler) (i : ℕ) → slice_get hs i ≡ Some k → h.on ≡ k.on →
    Any (λ (y : Trigger × ℕ). (y.0 ≡ h.on) × (y.1 ≡ k.line)) (triggers hs)
again_behind h [] k i e f = cc
again_behind h (x ∷ hs) k zero e f = let same : k ≡ x = cc in inl
    (sym (f ∙ ap (λ (q : Handler). q.on) same), sym (ap (λ (q : Handler). q.line) same))
again_behind h (x ∷ hs) k (suc i) e f = inr (again_behind h hs k i e f)

abbrev Once : List Handler → Type 0
Once hs = (line : ℕ) → Again (triggers hs) line → ⊥

abbrev Declared : Protocol → Handler → Type 0
Declared p h = answers_undeclared p h.on ≡ false

module _ (p : Protocol) where
  pub found_once : (hs : List Handler) (h : Handler) (i : ℕ) → Once hs → Each (Declared p) hs → Declared p h →
      slice_get hs i ≡ Some h → find (λ k. same_kind (kind_of p k.on) (kind_of p h.on)) hs ≡ Some h
  found_once [] h i once d q e = cc
  found_once (x ∷ hs) h zero once d q e =
      let same : x ≡ h = cc in
      let test : same_kind (kind_of p x.on) (kind_of p h.on) ≡ true =
      ap (λ (z : Handler). same_kind (kind_of p z.on) (kind_of p h.on)) same ∙ kind_alike (kind_of p h.on) in
      ap (λ b. cond b (Some x) (find (λ (k : Handler). same_kind (kind_of p k.on) (kind_of p h.on)) hs)) test
      ∙ ap (λ (z : Handler). Some z) same
  found_once (x ∷ hs) h (suc i) once d q e =
      let other : same_kind (kind_of p x.on) (kind_of p h.on) ≡ false =
      is_false _ (λ g. once h.line (inl (again_behind x hs h i e (same_trigger p x.on h.on d.0 q g)))) in
      ap (λ b. cond b (Some x) (find (λ (k : Handler). same_kind (kind_of p k.on) (kind_of p h.on)) hs)) other
      ∙ found_once hs h i (λ line y. once line (inr y)) d.1 q e

each_from : {X : Type 0} (P : X → Type 0) (xs : List X) → ((x : X) → Contains xs x → P x) → Each P xs
each_from P [] f = tt
each_from P (x ∷ xs) f = (f x (contains_first x xs), each_from P xs (λ y c. f y (contains_later x y xs c)))

module _ (p : Protocol) (a : IsAccepted p) where
  pub once : (s : State) → Contains p.states s → Once s.handlers
  once s i line x =
      a.keeps line Twice (inr (inr (inr (inr (inl (any_at (λ (z : State). Again (triggers z.handlers) line) p.states s i x))))))

  pub is_declared : (s : State) (h : Handler) → Contains p.states s → Contains s.handlers h → Declared p h
  is_declared s h i j =
      is_false _
      (λ e. a.keeps h.line Undeclared
      (inr (in_handler p s h (λ c. AtHandler (answers_undeclared p c.handler.on) c h.line
      ⊎ AtStep uses_undeclared c h.line) i j (inl (refl, e)))))

  pub all_declared : (s : State) → Contains p.states s → Each (Declared p) s.handlers
  all_declared s i = each_from (Declared p) s.handlers (λ h j. is_declared s h i j)

-- ---- all handlers

abbrev Unlike : Entry → Entry → Type 0
Unlike d e = d.number ≡ e.number → d.handler.on ≡ e.handler.on → ⊥

abbrev Different : List Entry → Type 0
Different [] = Unit {0}
Different (d ∷ ds) = Each (Unlike d) ds × Different ds

each_map : {X Y : Type 0} (P : Y → Type 0) (f : X → Y) (xs : List X) → Each (λ x. P (f x)) xs → Each P (map f xs)
each_map P f [] h = tt
each_map P f (x ∷ xs) h = (h.0, each_map P f xs h.1)

each_later : {X : Type 0} (P Q : X → Type 0) (xs : List X) → ((x : X) → P x → Q x) → Each P xs → Each Q xs
each_later P Q [] f h = tt
each_later P Q (x ∷ xs) f h = (f x h.0, each_later P Q xs f h.1)

module _ (p : Protocol) (a : IsAccepted p) where
  unlike_these : (number : ℕ) (s : State) (h : Handler) (hs : List Handler) →
      ((line : ℕ) → Any (λ (y : Trigger × ℕ). (y.0 ≡ h.on) × (y.1 ≡ line)) (triggers hs) → ⊥) →
      Each (Unlike (entry number s h)) (map (λ k. entry number s k) hs)
  unlike_these number s h [] f = tt
  unlike_these number s h (k ∷ hs) f = (
    (λ e g. f k.line (inl (sym g, refl))),
    unlike_these number s h hs (λ line y. f line (inr y)),
  )

  state_different : (number : ℕ) (s : State) (hs : List Handler) (more : List Entry) → Once hs →
      Each (λ (e : Entry). number < e.number) more → Different more → Different (map (λ k. entry number s k) hs ++ more)
  state_different number s [] more f above d = d
  state_different number s (h ∷ hs) more f above d = (
    each_both _ (map (λ k. entry number s k) hs) more (unlike_these number s h hs (λ line y. f line (inl y)))
        (each_later _ _ more (λ e l. λ q g. omega arith) above),
    state_different number s hs more (λ line y. f line (inr y)) above d,
  )

  above_map : (m number : ℕ) (s : State) (hs : List Handler) → m < number →
      Each (λ (e : Entry). m < e.number) (map (λ k. entry number s k) hs)
  above_map m number s [] l = tt
  above_map m number s (h ∷ hs) l = (l, above_map m number s hs l)

  all_above : (m number : ℕ) (states : List State) → m < number → Each (λ (e : Entry). m < e.number) (entries_from number states)
  all_above m number [] l = tt
  all_above m number (s ∷ states) l = each_both _ (map (λ k. entry number s k) s.handlers) (entries_from (number + 1) states)
      (above_map m number s s.handlers l) (all_above m (number + 1) states (omega arith))

  states_different : (number : ℕ) (states : List State) → ((s : State) → Contains states s → Contains p.states s) →
      Different (entries_from number states)
  states_different number [] up = tt
  states_different number (s ∷ states) up =
      state_different number s s.handlers (entries_from (number + 1) states) (once p a s (up s (contains_first s states)))
      (all_above number (number + 1) states (omega arith))
      (states_different (number + 1) states (λ k c. up k (contains_later s k states c)))

  -- ---- doors

  abbrev DeclaredEntry : Entry → Type 0
  DeclaredEntry d = Declared p d.handler

  declared_state : (number : ℕ) (s : State) (hs : List Handler) (more : List Entry) → Each (Declared p) hs →
      Each DeclaredEntry more → Each DeclaredEntry (map (λ k. entry number s k) hs ++ more)
  declared_state number s [] more h k = k
  declared_state number s (x ∷ hs) more h k = (h.0, declared_state number s hs more h.1 k)

  declared_entries : (number : ℕ) (states : List State) → ((s : State) → Contains states s → Contains p.states s) →
      Each DeclaredEntry (entries_from number states)
  declared_entries number [] up = tt
  declared_entries number (s ∷ states) up =
      declared_state number s s.handlers (entries_from (number + 1) states)
      (all_declared p a s (up s (contains_first s states)))
      (declared_entries (number + 1) states (λ k c. up k (contains_later s k states c)))

  no_same : (d : Entry) (at : ℕ) (ops : List OpCode) (entries : List Entry) (from r : ℕ) → DeclaredEntry d →
      Each DeclaredEntry entries → Each (Unlike d) entries →
      list_any (same_door (door_of p d at ops)) (doors_from p from r entries) ≡ false
  no_same d at ops [] from r q qs u = refl
  no_same d at ops (e ∷ entries) from r q qs u =
      let other : ((d.number == e.number) && same_kind (kind_of p d.handler.on) (kind_of p e.handler.on)) ≡ false =
      is_false _ (λ g.
      let parts = and_parts (d.number == e.number) _ g in
      u.0 (eqb-true d.number e.number parts.0) (same_trigger p d.handler.on e.handler.on q qs.0 parts.1)) in
      let c = entry_code p e from r 0 in
      ap (λ b. b || list_any (same_door (door_of p d at ops)) (doors_from p (from + length c) (r + rests_in c) entries)) other
      ∙ no_same d at ops entries (from + length c) (r + rests_in c) q qs.1 u.1

  doors_apart : (entries : List Entry) (at r : ℕ) → Each DeclaredEntry entries → Different entries →
      are_apart (doors_from p at r entries) ≡ true
  doors_apart [] at r q u = refl
  doors_apart (d ∷ entries) at r q u =
      let c = entry_code p d at r 0 in
      both _ _ (not_true _ (no_same d at c entries (at + length c) (r + rests_in c) q.0 q.1 u.0))
      (doors_apart entries (at + length c) (r + rests_in c) q.1 u.1)

  -- ---- a door for all else

  default_found : (hs : List Handler) → not (list_all (λ (h : Handler). not (is_default h.on)) hs) ≡ true →
      (h : Handler) × (find (λ (k : Handler). is_for_all_else (kind_of p k.on)) hs ≡ Some h)
  default_found [] e = cc
  default_found (x ∷ hs) e = by_test (is_default x.on) refl e (default_found hs)
    where
      by_test : (b : Bool) → is_default x.on ≡ b → not (not b && list_all (λ (h : Handler). not (is_default h.on)) hs) ≡ true →
          (not (list_all (λ (h : Handler). not (is_default h.on)) hs) ≡ true →
          (h : Handler) × (find (λ (k : Handler). is_for_all_else (kind_of p k.on)) hs ≡ Some h)) →
          (h : Handler) × (find (λ (k : Handler). is_for_all_else (kind_of p k.on)) (x ∷ hs) ≡ Some h)
      by_test true g f more =
          (x, ap (λ b. cond b (Some x) (find (λ (k : Handler). is_for_all_else (kind_of p k.on)) hs)) (else_alike p x.on ∙ g))
      by_test false g f more =
          let m = more f in (
            m.0,
            ap (λ b. cond b (Some x) (find (λ (k : Handler). is_for_all_else (kind_of p k.on)) hs)) (else_alike p x.on ∙ g)
                ∙ m.1,
          )

  any_found : {X : Type 0} (f : X → Bool) (xs : List X) (x : X) → find f xs ≡ Some x → list_any f xs ≡ true
  any_found f [] x e = cc
  any_found f (y ∷ xs) x e = by_test (f y) e (any_found f xs x)
    where
      by_test : (b : Bool) → cond b (Some y) (find f xs) ≡ Some x → (find f xs ≡ Some x → list_any f xs ≡ true) →
          (b || list_any f xs) ≡ true
      by_test true e more = refl
      by_test false e more = more e

  with_default : (s : State) → Contains p.states s → state_default s ≡ true
  with_default s i = by_test (state_default s) refl
    where
      by_test : (b : Bool) → state_default s ≡ b → b ≡ true
      by_test true e = refl
      by_test false e =
          absurd (a.keeps s.line NoDefault (any_at (λ (z : State). (z.line ≡ s.line) × (state_default z ≡ false)) p.states s i
          (refl, e)))

  door_default : (code : Code) → IsCode p code → (number : ℕ) → number < length p.states → has_default code.doors number ≡ true
  door_default code c number l = by_state (slice_get p.states number) refl
    where
      there : (xs : List State) (k : ℕ) → k < length xs → slice_get xs k ≡ None → ⊥
      there [] k l e = omega arith
      there (x ∷ xs) zero l e = cc
      there (x ∷ xs) (suc k) l e = there xs k (omega arith) e

      by_state : (o : Option State) → slice_get p.states number ≡ o → has_default code.doors number ≡ true
      by_state None e = absurd (there p.states number l e)
      by_state (Some s) e =
          let w : Handler → Bool = λ k. is_for_all_else (kind_of p k.on) in
          let f : Door → Bool = λ d. (d.state == number) && is_for_all_else d.on in
          let h = default_found s.handlers (with_default s (slice_has p.states number s e)) in
          let stands = door_found p f (of_state number w) (λ d at ops. refl) (entries_of p) (entry number s h.0) 0 0 0
          (in_entries number w 0 number p.states s e (omega arith) ∙ ap (found_entry number s) h.1) in
          any_found f code.doors _ (ap (find f) c.doors ∙ stands.found)

  all_below_from : (n : ℕ) (P : ℕ → Bool) → ((k : ℕ) → k < n → P k ≡ true) → all_below n P ≡ true
  all_below_from zero P f = refl
  all_below_from (suc n) P f = both _ _ (f n (omega arith)) (all_below_from n P (λ k l. f k (omega arith)))

  pub serves : (code : Code) → IsCode p code → serves_all p code ≡ true
  serves code c =
      let apart : are_apart code.doors ≡ true = ap are_apart c.doors
      ∙ doors_apart (entries_of p) 0 0 (declared_entries 0 p.states (λ s i. i)) (states_different 0 p.states (λ s i. i)) in
      both _ _ apart (all_below_from (length p.states) (has_default code.doors) (λ k l. door_default code c k l))
