-- The door for a message is that of the handler that answers it.
use Rattle.std.proofs.Common.{◌≡◌, ◌∙◌, ℕ, zero, suc, ◌+◌, ◌<◌, Bool, true, false, List, [], ◌∷◌, ◌++◌, Option, Some, None}
use Rattle.std.proofs.Common.{length, length-append, refl, ap, subst, arith, inl, inr, ◌⊎◌}
use Rattle.std.specs.Prelude.{cond, find, is_none, is_some, map, slice_get, ◌&&◌, ◌==◌, Contains}
use Rattle.std.specs.Str.{bytes_eq}
use Rattle.std.proofs.lemmas.Bool.{eq-eqb, eqb-true, ne_eqb}
use Rattle.tw_base.specs.Lists.{Each}
use Rattle.tw_base.specs.declared.message.Kind.{Kind}
use Rattle.tw_base.specs.declared.message.Kind.TheVariants as kind
use Rattle.teapot_tree.specs.declared.protocol.Handler.{Handler}
use Rattle.teapot_tree.specs.declared.protocol.Protocol.{Protocol}
use Rattle.teapot_tree.specs.declared.protocol.State.{State}
use Rattle.teapot_tree.specs.declared.protocol.Trigger.{Trigger}
use Rattle.teapot_tree.specs.declared.protocol.Trigger.TheVariants as t
use Rattle.teapot_tree.specs.declared.rule.Rule.TheVariants.{Undeclared}
use Rattle.teapot_tree.specs.Rules.{AtHandler, AtStep, IsAccepted, answers_undeclared, is_default, uses_undeclared}
use Rattle.teapot_tree.specs.Scopes.{message_number, message_of}
use Rattle.teapot_meaning.specs.Handlers.{answers, default_of, handler_in, is_at, own_or}
use Rattle.teapot_meaning.specs.Names.{declared}
use Rattle.teapot_meaning.proofs.Found.{find_holds, is_false, place_found, slice_has}
use Rattle.teapot_meaning.proofs.Sound.{in_handler}
use Rattle.handler_code.specs.declared.code.Code.{Code}
use Rattle.handler_code.specs.declared.code.Door.{Door}
use Rattle.handler_code.specs.declared.code.Kind2.{Kind2}
use Rattle.handler_code.specs.declared.code.Kind2.TheVariants as on
use Rattle.handler_code.specs.declared.code.OpCode.{OpCode}
use Rattle.handler_code.specs.Doors.{door_for, door_or, handlers_at, is_for, is_for_all_else, kind_of, locals_at, locals_of}
use Rattle.handler_code.specs.Doors.{same_kind}
use Rattle.compiled_meaning.specs.Compiled.{in_order, loops_in, rests_in}
use Rattle.compiled_meaning.specs.Whole.{Entry, IsCode, door_of, doors_from, entries_code, entries_from, entries_of, entry_code}
use Rattle.compiled_meaning.proofs.Accepted.{contains_first, contains_later, some_of}
use Rattle.compiled_meaning.proofs.Rests.{rests_in-append}

-- ---- tests that agree

each_from : {X : Type 0} (P : X → Type 0) (xs : List X) → ((x : X) → Contains xs x → P x) → Each P xs
each_from P [] f = tt
each_from P (x ∷ xs) f = (f x (contains_first x xs), each_from P xs (λ y c. f y (contains_later x y xs c)))

find_alike : {X : Type 0} (f g : X → Bool) (xs : List X) → Each (λ x. f x ≡ g x) xs → find f xs ≡ find g xs
find_alike f g [] h = refl
find_alike f g (x ∷ xs) h =
    ap (λ b. cond b (Some x) (find f xs)) h.0 ∙ ap (λ o. cond (g x) (Some x) o) (find_alike f g xs h.1)

-- ---- the handlers of one state among all

abbrev pub entry : ℕ → State → Handler → Entry
entry number s h = record { number = number; state = s; handler = h }

abbrev pub found_entry : ℕ → State → Option Handler → Option Entry
found_entry number s (Some h) = Some (entry number s h)
found_entry number s None = None

abbrev pub of_state : ℕ → (Handler → Bool) → Entry → Bool
of_state number w d = (d.number == number) && w d.handler

module _ (number : ℕ) (w : Handler → Bool) where
  in_state : (s : State) (hs : List Handler) (more : List Entry) → find (of_state number w) more ≡ None →
      find (of_state number w) (map (λ h. entry number s h) hs ++ more) ≡ found_entry number s (find w hs)
  in_state s [] more none = none
  in_state s (h ∷ hs) more none =
      ap (λ b. cond (b && w h) (Some (entry number s h)) (find (of_state number w) (map (λ x. entry number s x) hs ++ more)))
      (eq-eqb number number refl) ∙ by_test (w h) (in_state s hs more none)
    where
      by_test : (b : Bool) → find (of_state number w) (map (λ x. entry number s x) hs ++ more)
          ≡ found_entry number s (find w hs) → cond (true && b) (Some (entry number s h))
          (find (of_state number w) (map (λ x. entry number s x) hs ++ more))
          ≡ found_entry number s (cond b (Some h) (find w hs))
      by_test true e = refl
      by_test false e = e

  past_state : (n : ℕ) (s : State) (hs : List Handler) (more : List Entry) → (n ≡ number → ⊥) →
      find (of_state number w) (map (λ h. entry n s h) hs ++ more) ≡ find (of_state number w) more
  past_state n s [] more d = refl
  past_state n s (h ∷ hs) more d =
      ap (λ b. cond (b && w h) (Some (entry n s h)) (find (of_state number w) (map (λ x. entry n s x) hs ++ more)))
      (ne_eqb n number d) ∙ past_state n s hs more d

  none_above : (n : ℕ) (states : List State) → number < n → find (of_state number w) (entries_from n states) ≡ None
  none_above n [] lt = refl
  none_above n (s ∷ states) lt =
      past_state n s s.handlers (entries_from (n + 1) states) (λ e. omega arith) ∙ none_above (n + 1) states (omega arith)

  pub in_entries : (n j : ℕ) (states : List State) (s : State) → slice_get states j ≡ Some s → number ≡ n + j →
      find (of_state number w) (entries_from n states) ≡ found_entry number s (find w s.handlers)
  in_entries n j [] s e q = cc
  in_entries n zero (x ∷ xs) s e q =
      let same : s ≡ x = cc in
      let here : number ≡ n = omega arith in
      let more = entries_from (n + 1) xs in
      let there = in_state s s.handlers more (none_above (n + 1) xs (omega arith)) in
      subst (λ y. find (of_state number w) (map (λ h. entry n y h) y.handlers ++ more)
      ≡ found_entry number s (find w s.handlers)) same (subst
      (λ k. find (of_state number w) (map (λ h. entry k s h) s.handlers ++ more)
      ≡ found_entry number s (find w s.handlers)) here there)
  in_entries n (suc j) (x ∷ xs) s e q =
      past_state n x x.handlers (entries_from (n + 1) xs) (λ f. omega arith) ∙ in_entries (n + 1) j xs s e (omega arith)

-- ---- doors among all

-- the door that a test finds, and the handlers before its own
pub record DoorStands (p : Protocol) (f : Door → Bool) (entries : List Entry) (d : Entry) (at r h : ℕ) : Type 0 where
  pub before : List Entry
  pub after : List Entry
  pub place : ℕ
  pub rest : ℕ
  pub are : entries ≡ before ++ d ∷ after
  pub place-is : place ≡ at + length (in_order (map (entry_code p) before) at r h)
  pub rest-is : rest ≡ r + rests_in (in_order (map (entry_code p) before) at r h)
  pub found : find f (doors_from p at r entries) ≡ Some (door_of p d place (entry_code p d place rest 0))

module _ (p : Protocol) (f : Door → Bool) (g : Entry → Bool)
    (same : (d : Entry) (at : ℕ) (ops : List OpCode) → f (door_of p d at ops) ≡ g d) where
  pub door_found : (entries : List Entry) (d : Entry) (at r h : ℕ) → find g entries ≡ Some d → DoorStands p f entries d at r h
  door_found [] d at r h e = cc
  door_found (b ∷ entries) d at r h e =
      by_test (g b) refl e (door_found entries d (at + length (entry_code p b at r h)) (r + rests_in (entry_code p b at r h))
      (h + loops_in (entry_code p b at r h)))
    where
      c : List OpCode
      c = entry_code p b at r h

      first : (q : Bool) → g b ≡ q → find f (doors_from p at r (b ∷ entries))
          ≡ cond q (Some (door_of p b at (entry_code p b at r h)))
          (find f (doors_from p (at + length (entry_code p b at r h)) (r + rests_in (entry_code p b at r h)) entries))
      first q k =
          ap (λ z. cond z (Some (door_of p b at (entry_code p b at r h)))
          (find f (doors_from p (at + length (entry_code p b at r h)) (r + rests_in (entry_code p b at r h)) entries)))
          (same b at (entry_code p b at r h) ∙ k)

      by_test : (q : Bool) → g b ≡ q → cond q (Some b) (find g entries) ≡ Some d →
          (find g entries ≡ Some d → DoorStands p f entries d (at + length (entry_code p b at r h))
          (r + rests_in (entry_code p b at r h)) (h + loops_in (entry_code p b at r h))) → DoorStands p f (b ∷ entries) d at r h
      by_test true k e more =
          let is : b ≡ d = cc in
          let here : DoorStands p f (b ∷ entries) b at r h = record {
            before = [];
            after = entries;
            place = at;
            rest = r;
            are = refl;
            place-is = omega arith;
            rest-is = omega arith;
            found = first true k;
          } in
          subst (λ x. DoorStands p f (b ∷ entries) x at r h) is here
      by_test false k e more =
          let s = more e in
          let ops = entry_code p b at r h in
          let pre = in_order (map (entry_code p) s.before) (at + length ops) (r + rests_in ops) (h + loops_in ops) in
          record {
            before = b ∷ s.before;
            after = s.after;
            place = s.place;
            rest = s.rest;
            are = ap (λ l. b ∷ l) s.are;
            place-is = omega (arith, s.place-is, length-append ops pre);
            rest-is = omega (arith, s.rest-is, rests_in-append ops pre);
            found = first false k ∙ s.found;
          }

  no_door : (entries : List Entry) (at r : ℕ) → find g entries ≡ None → find f (doors_from p at r entries) ≡ None
  no_door [] at r e = refl
  no_door (b ∷ entries) at r e =
      by_test (g b) refl e (no_door entries (at + length (entry_code p b at r 0)) (r + rests_in (entry_code p b at r 0)))
    where
      by_test : (q : Bool) → g b ≡ q → cond q (Some b) (find g entries) ≡ None →
          (find g entries ≡ None →
          find f (doors_from p (at + length (entry_code p b at r 0)) (r + rests_in (entry_code p b at r 0)) entries) ≡ None) →
          find f (doors_from p at r (b ∷ entries)) ≡ None
      by_test true k e more = cc
      by_test false k e more =
          ap (λ z. cond z (Some (door_of p b at (entry_code p b at r 0)))
          (find f (doors_from p (at + length (entry_code p b at r 0)) (r + rests_in (entry_code p b at r 0)) entries)))
          (same b at (entry_code p b at r 0) ∙ k) ∙ more e

-- ---- kinds

-- a door's kind says the same as the handler's trigger
named_alike : (o : Option ℕ) (n : ℕ) → is_some o ≡ true → (declared o == n) ≡ is_at o n
named_alike (Some m) n e = refl
named_alike None n e = cc

alike_on : (p : Protocol) (k : Kind) (on : Trigger) → answers_undeclared p on ≡ false → is_for k (kind_of p on) ≡ answers p k on
alike_on p kind.RdFault t.RdFault e = refl
alike_on p kind.RdFault t.WrFault e = refl
alike_on p kind.RdFault (t.Named name) e = refl
alike_on p kind.RdFault t.Default e = refl
alike_on p kind.WrFault t.RdFault e = refl
alike_on p kind.WrFault t.WrFault e = refl
alike_on p kind.WrFault (t.Named name) e = refl
alike_on p kind.WrFault t.Default e = refl
alike_on p (kind.Named n) t.RdFault e = refl
alike_on p (kind.Named n) t.WrFault e = refl
alike_on p (kind.Named n) (t.Named name) e =
    let m = some_of (message_of p name) (known (message_of p name) e) in
    let j = place_found (λ d. bytes_eq d.name name) p.messages m.0 m.1 in
    named_alike (message_number p name) n (ap is_some j.1)
  where
    known : {X : Type 0} (o : Option X) → is_none o ≡ false → is_some o ≡ true
    known (Some x) e = refl
    known None e = cc
alike_on p (kind.Named n) t.Default e = refl

pub else_alike : (p : Protocol) (on : Trigger) → is_for_all_else (kind_of p on) ≡ is_default on
else_alike p t.RdFault = refl
else_alike p t.WrFault = refl
else_alike p (t.Named name) = refl
else_alike p t.Default = refl

-- of the doors that are for this kind, each is of one kind
same_for : (k : Kind) (a b : Kind2) → is_for k b ≡ true → same_kind a b ≡ is_for k a
same_for kind.RdFault on.RdFault on.RdFault e = refl
same_for kind.RdFault on.WrFault on.RdFault e = refl
same_for kind.RdFault (on.Named m) on.RdFault e = refl
same_for kind.RdFault on.Default on.RdFault e = refl
same_for kind.WrFault on.RdFault on.WrFault e = refl
same_for kind.WrFault on.WrFault on.WrFault e = refl
same_for kind.WrFault (on.Named m) on.WrFault e = refl
same_for kind.WrFault on.Default on.WrFault e = refl
same_for (kind.Named n) on.RdFault (on.Named m) e = refl
same_for (kind.Named n) on.WrFault (on.Named m) e = refl
same_for (kind.Named n) (on.Named a) (on.Named m) e = ap (λ q. a == q) (eqb-true m n e)
same_for (kind.Named n) on.Default (on.Named m) e = refl
same_for kind.RdFault a on.WrFault e = cc
same_for kind.RdFault a (on.Named m) e = cc
same_for kind.RdFault a on.Default e = cc
same_for kind.WrFault a on.RdFault e = cc
same_for kind.WrFault a (on.Named m) e = cc
same_for kind.WrFault a on.Default e = cc
same_for (kind.Named n) a on.RdFault e = cc
same_for (kind.Named n) a on.WrFault e = cc
same_for (kind.Named n) a on.Default e = cc

same_else : (a b : Kind2) → is_for_all_else b ≡ true → same_kind a b ≡ is_for_all_else a
same_else on.RdFault on.Default e = refl
same_else on.WrFault on.Default e = refl
same_else (on.Named m) on.Default e = refl
same_else on.Default on.Default e = refl
same_else a on.RdFault e = cc
same_else a on.WrFault e = cc
same_else a (on.Named m) e = cc

-- ---- the door of a handler

-- where the code of the handler stands, with its door
pub record DoorOf (p : Protocol) (code : Code) (k : Kind) (number : ℕ) (s : State) (h : Handler) : Type 0 where
  pub before : List Entry
  pub after : List Entry
  pub door : Door
  pub are : entries_of p ≡ before ++ entry number s h ∷ after
  pub door-is : door ≡ door_of p (entry number s h) (length (entries_code p before))
      (entry_code p (entry number s h) (length (entries_code p before)) (rests_in (entries_code p before)) 0)
  pub found : door_for code number k ≡ Some door
  pub locals : locals_of p door ≡ h.locals

module _ (p : Protocol) (code : Code) (a : IsAccepted p) (compiled : IsCode p code) (k : Kind) (number : ℕ) (s : State)
    (is_state : slice_get p.states number ≡ Some s) where
  is_declared : (h : Handler) → Contains s.handlers h → answers_undeclared p h.on ≡ false
  is_declared h c =
      is_false _
      (λ e. a.keeps h.line Undeclared
      (inr (in_handler p s h (λ c. AtHandler (answers_undeclared p c.handler.on) c h.line
      ⊎ AtStep uses_undeclared c h.line) (slice_has p.states number s is_state) c (inl (refl, e)))))

  own_alike : find (λ h. is_for k (kind_of p h.on)) s.handlers ≡ find (λ h. answers p k h.on) s.handlers
  own_alike =
      find_alike (λ h. is_for k (kind_of p h.on)) (λ h. answers p k h.on) s.handlers
      (each_from _ s.handlers (λ h c. alike_on p k h.on (is_declared h c)))

  default_alike : find (λ h. is_for_all_else (kind_of p h.on)) s.handlers ≡ default_of s
  default_alike =
      find_alike (λ h. is_for_all_else (kind_of p h.on)) (λ h. is_default h.on) s.handlers
      (each_from _ s.handlers (λ h c. else_alike p h.on))

  own_test : Door → Bool
  own_test d = (d.state == number) && is_for k d.on

  else_test : Door → Bool
  else_test d = (d.state == number) && is_for_all_else d.on

  -- a door that a test finds, when it finds the handler
  by_handler : (f : Door → Bool) (w : Handler → Bool) → ((d : Entry) (at : ℕ) (ops : List OpCode) →
      f (door_of p d at ops) ≡ of_state number w d) → (h : Handler) → find w s.handlers ≡ Some h →
      DoorStands p f (entries_of p) (entry number s h) 0 0 0
  by_handler f w same h e =
      door_found p f (of_state number w) same (entries_of p) (entry number s h) 0 0 0
      (in_entries number w 0 number p.states s is_state (omega arith) ∙ ap (found_entry number s) e)

  none_by_handler : (f : Door → Bool) (w : Handler → Bool) →
      ((d : Entry) (at : ℕ) (ops : List OpCode) → f (door_of p d at ops) ≡ of_state number w d) → find w s.handlers ≡ None →
      find f code.doors ≡ None
  none_by_handler f w same e =
      ap (find f) compiled.doors ∙ no_door p f (of_state number w) same (entries_of p) 0 0
      (in_entries number w 0 number p.states s is_state (omega arith) ∙ ap (found_entry number s) e)

  made : (f : Door → Bool) (h : Handler) (d : DoorStands p f (entries_of p) (entry number s h) 0 0 0) →
      (find f code.doors ≡ Some (door_of p (entry number s h) d.place (entry_code p (entry number s h) d.place d.rest 0)) →
      door_for code number k
      ≡ Some (door_of p (entry number s h) d.place (entry_code p (entry number s h) d.place d.rest 0))) →
      find (λ x. same_kind (kind_of p x.on) (kind_of p h.on)) s.handlers ≡ Some h → DoorOf p code k number s h
  made f h d chosen same =
      let x = entry number s h in
      let place : d.place ≡ length (entries_code p d.before) = omega (arith, d.place-is) in
      let rest : d.rest ≡ rests_in (entries_code p d.before) = omega (arith, d.rest-is) in
      record {
        before = d.before;
        after = d.after;
        door = door_of p x d.place (entry_code p x d.place d.rest 0);
        are = d.are;
        door-is = ap (λ q. door_of p x q (entry_code p x q d.rest 0)) place
            ∙ ap (λ q. door_of p x (length (entries_code p d.before)) (entry_code p x (length (entries_code p d.before)) q 0))
            rest;
        found = chosen (ap (find f) compiled.doors ∙ d.found);
        locals = ap (λ o. locals_at (find (λ y. same_kind (kind_of p y.on) (kind_of p h.on)) (handlers_at o))) is_state
            ∙ ap locals_at same;
      }

  pub door_of_handler : (h : Handler) → handler_in p k s ≡ Some h → DoorOf p code k number s h
  unfolding handler_in own_test else_test
  door_of_handler h e = by_own (find (λ x. answers p k x.on) s.handlers) refl e
    where
      by_own : (o : Option Handler) → find (λ x. answers p k x.on) s.handlers ≡ o → own_or o (default_of s) ≡ Some h →
          DoorOf p code k number s h
      by_own (Some x) f e =
          let is : x ≡ h = cc in
          let own : find (λ y. is_for k (kind_of p y.on)) s.handlers ≡ Some h = own_alike ∙ f ∙ ap Some is in
          let d = by_handler own_test (λ y. is_for k (kind_of p y.on)) (λ d at ops. refl) h own in
          let holds = find_holds (λ y. is_for k (kind_of p y.on)) s.handlers h own in
          let same = find_alike (λ y. same_kind (kind_of p y.on) (kind_of p h.on)) (λ y. is_for k (kind_of p y.on)) s.handlers
          (each_from _ s.handlers (λ y c. same_for k (kind_of p y.on) (kind_of p h.on) holds)) in
          made own_test h d (λ q. ap (λ o. door_or o (find else_test code.doors)) q) (same ∙ own)
      by_own None f e =
          let none = none_by_handler own_test (λ y. is_for k (kind_of p y.on)) (λ d at ops. refl) (own_alike ∙ f) in
          let other : find (λ y. is_for_all_else (kind_of p y.on)) s.handlers ≡ Some h = default_alike ∙ e in
          let d = by_handler else_test (λ y. is_for_all_else (kind_of p y.on)) (λ d at ops. refl) h other in
          let holds = find_holds (λ y. is_for_all_else (kind_of p y.on)) s.handlers h other in
          let same = find_alike (λ y. same_kind (kind_of p y.on) (kind_of p h.on))
          (λ y. is_for_all_else (kind_of p y.on)) s.handlers
          (each_from _ s.handlers (λ y c. same_else (kind_of p y.on) (kind_of p h.on) holds)) in
          made else_test h d (λ q. ap (λ o. door_or o (find else_test code.doors)) none ∙ q) (same ∙ other)
