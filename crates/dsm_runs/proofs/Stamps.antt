-- Stamps rise in a log, and each message has its wire, its number and the stamp of an entry.
use Rattle.std.proofs.Common.{◌≡◌, ℕ, ◌<◌, ◌≤◌, length, Bool, true, false, ◌&&◌, nat_eq, if◌then◌else◌, List, [], ◌∷◌, ◌++◌}
use Rattle.std.proofs.Common.{Option, Some, None, arith, refl, ap, sym, ◌∙◌, subst, inl, inr, append_assoc, append-nil}
use Rattle.std.proofs.lemmas.Bool.{eqb-true}
use Rattle.std.specs.List.{filter}
use Rattle.tw_base.specs.declared.message.Chan.{Chan}
use Rattle.tw_base.specs.declared.entry.Entry.{Entry}
use Rattle.tw_base.specs.declared.message.Message.{Message}
use Rattle.dsm_runs.specs.Setups.{Setup}
use Rattle.tw_base.specs.Lists.{Each}
use Rattle.dsm_runs.specs.Messages.{chan_eq, on_wire, numbered}
use Rattle.dsm_runs.specs.Events.{latest}
use Rattle.dsm_runs.specs.Replays.{Course, ReplaysOne, ReplaysOn, Replays, begin}
use Rattle.dsm_runs.specs.Laws.{Some_of, IsLog, IsOn, IsNumbered}
use Rattle.dsm_runs.proofs.Lists.{Each-append, Each-implied, Each-filter, Each-numbered, and_left, and_right, chan_eq-true}
use Rattle.dsm_runs.proofs.Lists.{numbered-append, numbered-numbered}
use Rattle.dsm_runs.proofs.Sends.{IsSent, step_sent}

pub latest_more : (clock : ℕ) (front : Option Message) → clock ≤ latest clock front
latest_more clock None = omega arith
latest_more clock (Some m) = omega arith

pub after_clock : (s : Setup) (i : ℕ) (es : List Entry) (a b : Course) → ReplaysOn s i a es b →
    Each (λ e. a.local.clock < e.stamp) es
after_clock s i [] a b r = tt
after_clock s i (e ∷ es) a b r =
    let now : a.local.clock < e.stamp = omega (arith, r.1.local.stamp, latest_more a.local.clock r.1.front) in (
      now,
      Each-implied (λ x. r.0.local.clock < x.stamp) (λ x. a.local.clock < x.stamp) es
          (λ x h. omega (arith, h, now, r.1.local.clock)) (after_clock s i es r.0 b r.2),
    )

pub is_log : (s : Setup) (i : ℕ) (es : List Entry) (a b : Course) → ReplaysOn s i a es b → IsLog i es
is_log s i [] a b r = record { rising = tt; nodes = tt }
is_log s i (e ∷ es) a b r =
    let rest = is_log s i es r.0 b r.2 in
    record {
      rising = (
        Each-implied (λ x. r.0.local.clock < x.stamp) (λ x. e.stamp < x.stamp) es (λ x h. omega (arith, h, r.1.local.clock))
            (after_clock s i es r.0 b r.2),
        rest.rising,
      );
      nodes = (r.1.local.node, rest.nodes);
    }

-- a course whose messages are those of its wires, in order, and were sent under stamps of this log
record IsSound (i : ℕ) (log : List Entry) (a : Course) : Type 0 where
  numbers : (t : ℕ) (c : Chan) → IsNumbered (a.sent t c)
  names : (t : ℕ) (c : Chan) → Each (IsOn i t c log) (a.sent t c)

pub passes : {A : Type 0} (p : A → Bool) (xs : List A) → Each (λ x. p x ≡ true) (filter p xs)
passes p [] = tt
passes p (x ∷ xs) = go (p x) refl (passes p xs)
  where
    go : (b : Bool) → p x ≡ b → Each (λ y. p y ≡ true) (filter p xs) →
        Each (λ y. p y ≡ true) (if b then x ∷ filter p xs else filter p xs)
    go true h rest = (h, rest)
    go false h rest = rest

pub each_both : {A : Type 0} (P Q R : A → Type 0) (xs : List A) → ((x : A) → P x → Q x → R x) → Each P xs → Each Q xs → Each R xs
each_both P Q R [] f h k = tt
each_both P Q R (x ∷ xs) f h k = (f x h.0 k.0, each_both P Q R xs f h.1 k.1)

abbrev snoc : List Entry → Entry → List Entry
snoc log e = log ++ e ∷ []

some_more : (P : Entry → Type 0) (log : List Entry) (e : Entry) → Some_of P log → Some_of P (snoc log e)
some_more P [] e h = absurd h
some_more P (x ∷ xs) e (inl h) = inl h
some_more P (x ∷ xs) e (inr h) = inr (some_more P xs e h)

some_last : (P : Entry → Type 0) (log : List Entry) (e : Entry) → P e → Some_of P (snoc log e)
some_last P [] e h = inl h
some_last P (x ∷ xs) e h = inr (some_last P xs e h)

on_here : (i t : ℕ) (c : Chan) (log : List Entry) (e : Entry) (m : Message) → on_wire i t c m ≡ true → IsSent i e.stamp m →
    IsOn i t c (snoc log e) m
on_here i t c log e m h k = record {
  sender = k.sender;
  receiver =
      eqb-true m.to t (and_right (nat_eq m.from i) (nat_eq m.to t)
      (and_left (nat_eq m.from i && nat_eq m.to t) (chan_eq m.chan c) h));
  chan = chan_eq-true m.chan c (and_right (nat_eq m.from i && nat_eq m.to t) (chan_eq m.chan c) h);
  stamped = some_last (λ x. x.stamp ≡ m.stamp) log e (sym k.at);
}

sound_step : (s : Setup) (i : ℕ) (log : List Entry) (e : Entry) (a b : Course) → IsSound i log a → ReplaysOne s i a e b →
    IsSound i (snoc log e) b
sound_step s i log e a b h r = record {
  numbers = λ t c.
      let put : List Message = filter (on_wire i t c) r.sends in
      let were : List Message = a.sent t c in
      let parts : b.sent t c ≡ were ++ numbered (length were) put = r.sent t c in
      parts ∙ ap (λ (l : List Message). l ++ numbered (length were) put) (h.numbers t c)
      ∙ ap (λ (l : List Message). numbered 0 were ++ l) (sym (numbered-numbered (length were) (length were) put))
      ∙ ap (λ n. numbered 0 were ++ numbered n (numbered (length were) put)) (omega arith)
      ∙ sym (numbered-append 0 were (numbered (length were) put)) ∙ ap (λ (l : List Message). numbered 0 l) (sym parts);
  names = λ t c.
      let put : List Message = filter (on_wire i t c) r.sends in
      let sent : Each (IsSent i e.stamp) put = Each-filter (IsSent i e.stamp) (on_wire i t c) r.sends
      (step_sent s i a.local r.front b.local e r.sends r.local) in
      let now : Each (IsOn i t c (snoc log e)) put = each_both (λ m. on_wire i t c m ≡ true) (IsSent i e.stamp)
      (IsOn i t c (snoc log e)) put (λ m x y. on_here i t c log e m x y) (passes (on_wire i t c) r.sends) sent in
      let before : Each (IsOn i t c (snoc log e)) (a.sent t c) =
      Each-implied (IsOn i t c log) (IsOn i t c (snoc log e)) (a.sent t c)
      (λ m x. record {
        sender = x.sender;
        receiver = x.receiver;
        chan = x.chan;
        stamped = some_more (λ z. z.stamp ≡ m.stamp) log e x.stamped;
      }) (h.names t c) in
      subst (λ (l : List Message). Each (IsOn i t c (snoc log e)) l) (sym (r.sent t c))
      (Each-append (IsOn i t c (snoc log e)) (a.sent t c) (numbered (length (a.sent t c)) put) before
      (Each-numbered (IsOn i t c (snoc log e)) (λ m k x. record
      { sender = x.sender; receiver = x.receiver; chan = x.chan; stamped = x.stamped }) (length (a.sent t c)) put now));
}

sound_on : (s : Setup) (i : ℕ) (es log : List Entry) (a b : Course) → IsSound i log a → ReplaysOn s i a es b →
    IsSound i (log ++ es) b
sound_on s i [] log a b h r = subst (λ (x : Course). IsSound i (log ++ []) x) r (rw append-nil h)
sound_on s i (e ∷ es) log a b h r = subst (λ (l : List Entry). IsSound i l b) (append_assoc log (e ∷ []) es)
    (sound_on s i es (snoc log e) r.0 b (sound_step s i log e a r.0 h r.1) r.2)

sound : (s : Setup) (i : ℕ) (log : List Entry) (b : Course) → Replays s i log b → IsSound i log b
sound s i log b r = sound_on s i log [] (begin s i) b (record { numbers = λ t c. refl; names = λ t c. tt }) r

pub is_numbered : (s : Setup) (i : ℕ) (log : List Entry) (b : Course) → Replays s i log b → (t : ℕ) (c : Chan) →
    IsNumbered (b.sent t c)
is_numbered s i log b r = (sound s i log b r).numbers

pub is_on : (s : Setup) (i : ℕ) (log : List Entry) (b : Course) → Replays s i log b → (t : ℕ) (c : Chan) →
    Each (IsOn i t c log) (b.sent t c)
is_on s i log b r = (sound s i log b r).names
