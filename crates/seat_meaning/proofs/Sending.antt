-- A message that a node sent, and that the receiver did not take in yet: where it is the next in order, the receiver may keep it.
use Rattle.std.proofs.Common.{◌≡◌, ◌∙◌, ℕ, suc, ◌+◌, List, [], ◌∷◌, ◌++◌, length, ap, sym, subst, arith, length-append}
use Rattle.std.specs.Prelude.{option_to_list}
use Rattle.tw_base.specs.Lists.{Each}
use Rattle.tw_base.specs.declared.message.Chan.{Chan}
use Rattle.tw_base.specs.declared.message.Message.{Message}
use Rattle.dsm_runs.specs.Laws.{IsOn}
use Rattle.dsm_runs.specs.Messages.{numbered}
use Rattle.dsm_runs.specs.Replays.{Course, Replays, begin}
use Rattle.dsm_runs.specs.Setups.{Setup}
use Rattle.dsm_runs.proofs.Besides.{log_alone}
use Rattle.dsm_runs.proofs.OnWires.{each_behind}
use Rattle.dsm_runs.proofs.Stamps.{is_numbered, is_on}
use Rattle.node_meaning.specs.Nodes.{Shown, accepted_at, front_at, tally_of}
use Rattle.node_meaning.specs.Stands.{IsFit, StandsFor}
use Rattle.node_meaning.specs.Tallies.{Counts, first_tally}
use Rattle.seat_meaning.specs.Seats.{IsNext}

-- the log of a node leads to each course that it stands for
pub replay_of : (n : Shown) (c : Course) → StandsFor n c → Replays n.setup n.me n.log c
replay_of n c stands =
    log_alone (Counts n.setup n.code) n.setup n.me n.log (begin n.setup n.me) c (first_tally n.setup n.me) (tally_of n)
    stands.replays

-- a message in the middle of numbered ones has the number of its place
number_there : (k : ℕ) (xs ys : List Message) (m : Message) → xs ++ m ∷ ys ≡ numbered k (xs ++ m ∷ ys) → m.number ≡ k + length xs
number_there k [] ys m h = let e : m.number ≡ k = ap (λ (l : List Message). number_of l k) h in omega (arith, e)
  where
    number_of : List Message → ℕ → ℕ
    number_of [] d = d
    number_of (x ∷ rest) d = x.number
number_there k (x ∷ xs) ys m h =
    let rest = number_there (suc k) xs ys m (ap (λ (l : List Message). rest_of l) h) in omega (arith, rest)
  where
    rest_of : List Message → List Message
    rest_of [] = []
    rest_of (y ∷ rest) = rest

-- The sender sent m behind what the receiver took in of the wire, and kept.
pub next_of_sent :
    (s : Setup) (f t : ℕ) (ch : Chan) (sender receiver : Shown) (a b : Course) (m : Message) (rest : List Message) →
    sender.setup ≡ s → sender.me ≡ f → receiver.setup ≡ s → receiver.me ≡ t → StandsFor sender a → StandsFor receiver b →
    a.sent t ch ≡ (b.took f ch ++ option_to_list (front_at receiver f ch)) ++ m ∷ rest → IsNext receiver f ch m
next_of_sent s f t ch sender receiver a b m rest from_setup from to_setup to stands there is =
    let known : List Message = b.took f ch ++ option_to_list (front_at receiver f ch) in
    let log : Replays sender.setup sender.me sender.log a = replay_of sender a stands in
    let numbers : a.sent t ch ≡ numbered 0 (a.sent t ch) = is_numbered sender.setup sender.me sender.log a log t ch in
    let at : m.number ≡ 0 + length known =
    number_there 0 known rest m (subst (λ (ms : List Message). ms ≡ numbered 0 ms) is numbers) in
    let count : length known ≡ accepted_at receiver f ch =
    length-append (b.took f ch) (option_to_list (front_at receiver f ch)) ∙ there.took f ch in
    let on : Each (IsOn sender.me t ch sender.log) (a.sent t ch) = is_on sender.setup sender.me sender.log a log t ch in
    let names = each_behind (IsOn sender.me t ch sender.log) known (m ∷ rest)
    (subst (λ (ms : List Message). Each (IsOn sender.me t ch sender.log) ms) is on) in
    let fits = each_behind (IsFit sender.setup sender.me t) known (m ∷ rest)
    (subst (λ (ms : List Message). Each (IsFit sender.setup sender.me t) ms) is (stands.fit t ch)) in
    let fit : IsFit receiver.setup f receiver.me m =
    subst (λ (u : Setup). IsFit u f receiver.me m) (from_setup ∙ sym to_setup)
    (subst (λ k. IsFit sender.setup k receiver.me m) from (subst (λ k. IsFit sender.setup sender.me k m) (sym to) fits.0)) in
    record { fit = fit; chan = names.0.chan; number = omega (arith, at, count) }
