-- In every run each message on a wire names the wire, and the numbers of a wire are consecutive.
use Rattle.std.proofs.Common.{◌≡◌, ℕ, suc, ◌+◌, length, length-append, true, ◌&&◌, nat_eq, List, [], ◌∷◌, ◌++◌, arith, refl, ap}
use Rattle.std.proofs.Common.{sym, ◌∙◌, subst, eqb-true}
use Rattle.std.specs.List.{filter}
use Rattle.tw_base.specs.declared.message.Chan.{Chan}
use Rattle.tw_base.specs.declared.entry.Entry.{Entry}
use Rattle.tw_base.specs.declared.message.Message.{Message}
use Rattle.dsm_runs.specs.Setups.{Setup}
use Rattle.tw_base.specs.Lists.{Each}
use Rattle.dsm_runs.specs.Messages.{chan_eq, on_wire, numbered}
use Rattle.dsm_runs.specs.Worlds.{taken, World, Step, Runs, start}
use Rattle.dsm_runs.specs.Laws.{IsWire}
use Rattle.dsm_runs.proofs.Lists.{Each-append, Each-implied, Each-numbered, and_left, and_right, chan_eq-true, length-numbered}
use Rattle.dsm_runs.proofs.Lists.{numbered-append, numbered-numbered}
use Rattle.dsm_runs.proofs.Stamps.{passes}

abbrev Names : ℕ → ℕ → Chan → Message → Type 0
Names f t c m = (m.from ≡ f) × (m.to ≡ t) × (m.chan ≡ c)

named : (f t : ℕ) (c : Chan) (m : Message) → on_wire f t c m ≡ true → Names f t c m
named f t c m h =
    let front : (nat_eq m.from f && nat_eq m.to t) ≡ true = and_left (nat_eq m.from f && nat_eq m.to t) (chan_eq m.chan c) h in (
      eqb-true m.from f (and_left (nat_eq m.from f) (nat_eq m.to t) front),
      eqb-true m.to t (and_right (nat_eq m.from f) (nat_eq m.to t) front),
      chan_eq-true m.chan c (and_right (nat_eq m.from f && nat_eq m.to t) (chan_eq m.chan c) h),
    )

pub each_behind : (P : Message → Type 0) (xs ys : List Message) → Each P (xs ++ ys) → Each P ys
each_behind P [] ys h = h
each_behind P (x ∷ xs) ys h = each_behind P xs ys h.1

message_tail : (x y : Message) (xs ys : List Message) → x ∷ xs ≡ y ∷ ys → xs ≡ ys
message_tail x y xs ys h = cc

-- the numbers go on behind what is taken
numbers_behind : (k : ℕ) (xs ys : List Message) → xs ++ ys ≡ numbered k (xs ++ ys) → ys ≡ numbered (k + length xs) ys
numbers_behind k [] ys h = h ∙ ap (λ j. numbered j ys) (omega arith)
numbers_behind k (x ∷ xs) ys h =
    let rest : ys ≡ numbered (suc k + length xs) ys = numbers_behind (suc k) xs ys
    (message_tail x (record x { number = k }) (xs ++ ys) (numbered (suc k) (xs ++ ys)) h) in
    let shift : suc k + length xs ≡ k + suc (length xs) = omega arith in
    rest ∙ ap (λ j. numbered j ys) shift

wire_step : (s : Setup) (g : World) (e : Entry) (g2 : World) (r : Step s g e g2) (f t : ℕ) (c : Chan) →
    IsWire f t c (g.next f t c) (g.wires f t c) → IsWire f t c (g2.next f t c) (g2.wires f t c)
wire_step s g e g2 r f t c w = subst (λ (ms : List Message). IsWire f t c (g2.next f t c) ms) (sym (r.wires f t c)) (record {
  names = Each-append (Names f t c) rest (numbered (g.next f t c) new)
      (each_behind (Names f t c) front rest (subst (λ (ms : List Message). Each (Names f t c) ms) (r.takes f t c) w.names))
      (Each-numbered (Names f t c) (λ m k h. h) (g.next f t c) new
      (Each-implied (λ m. on_wire f t c m ≡ true) (Names f t c) new (λ m h. named f t c m h)
      (passes (on_wire f t c) r.sends)));
  first = w.first + length front;
  up_to = omega (arith, up, r.next f t c, length-append rest (numbered (g.next f t c) new), length-numbered (g.next f t c) new);
  numbers =
      ap (λ (ms : List Message). ms ++ numbered (g.next f t c) new)
      (numbers_behind w.first front rest (sym (r.takes f t c) ∙ w.numbers
      ∙ ap (λ (ms : List Message). numbered w.first ms) (r.takes f t c)))
      ∙ ap (λ (ms : List Message). numbered (w.first + length front) rest ++ ms)
      (sym (numbered-numbered (g.next f t c) (g.next f t c) new)
      ∙ ap (λ k. numbered k (numbered (g.next f t c) new)) (sym up))
      ∙ sym (numbered-append (w.first + length front) rest (numbered (g.next f t c) new));
})
  where
    front : List Message
    front = taken e r.front f t c

    rest : List Message
    rest = r.between f t c

    new : List Message
    new = filter (on_wire f t c) r.sends

    up : w.first + length front + length rest ≡ g.next f t c
    up = omega (arith, w.up_to, ap length (r.takes f t c), length-append front rest)

pub run_wires : (s : Setup) (es : List Entry) (g g2 : World) →
    ((f t : ℕ) (c : Chan) → IsWire f t c (g.next f t c) (g.wires f t c)) → Runs s g es g2 → (f t : ℕ) (c : Chan) →
    IsWire f t c (g2.next f t c) (g2.wires f t c)
run_wires s [] g g2 h r = subst (λ (x : World). (f t : ℕ) (c : Chan) → IsWire f t c (x.next f t c) (x.wires f t c)) r h
run_wires s (e ∷ es) g g2 h r = run_wires s es r.0 g2 (λ f t c. wire_step s g e r.0 r.1 f t c (h f t c)) r.2

pub wires_sound : (s : Setup) (journal : List Entry) (g : World) → Runs s (start s) journal g → (f t : ℕ) (c : Chan) →
    IsWire f t c (g.next f t c) (g.wires f t c)
wires_sound s journal g r =
    run_wires s journal (start s) g (λ f t c. record { names = tt; first = 0; up_to = omega arith; numbers = refl }) r
