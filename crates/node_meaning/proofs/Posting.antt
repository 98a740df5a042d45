-- Messages that a node posts one after another, and what of them comes onto each wire.
use Rattle.std.proofs.Common.{◌≡◌, ◌≢◌, ℕ, suc, ◌+◌, ◌<◌, ◌≤◌, Bool, true, false, ◌&&◌, nat_eq, length, List, [], ◌∷◌, ◌++◌}
use Rattle.std.proofs.Common.{arith, refl, ap, sym, ◌∙◌, append_assoc, append-nil, eqb-true, get_or-set_same, get_or-set_other}
use Rattle.std.specs.Prelude.{map, slice_index, if◌then◌else◌}
use Rattle.std.specs.List.{filter}
use Rattle.std.proofs.Math.ListN.{length-set}
use Rattle.tw_base.specs.Lists.{Each}
use Rattle.tw_base.specs.declared.message.Chan.{Chan}
use Rattle.tw_base.specs.declared.message.Chan.TheVariants.{Zero, One}
use Rattle.tw_base.specs.declared.message.Message.{Message}
use Rattle.teapot_tree.specs.declared.protocol.Protocol.{Protocol}
use Rattle.teapot_meaning.specs.declared.state.Out.{Out}
use Rattle.dsm_runs.specs.Messages.{chan_eq, message_of, numbered, on_wire, outgoing, place, posted}
use Rattle.dsm_runs.proofs.Lists.{and_left, and_right, chan_eq-true, chan_eq_refl, nat_eq_refl}
use Rattle.node_meaning.specs.Sending.{Outbox, as_posted, next_number, post_all, post_one, stamped, with_posted}

-- ---- the messages that come to wait, and the numbers afterwards

abbrev pub more_of : ℕ → List Message → List ℕ → List Message
more_of stamp [] posted = []
more_of stamp (m ∷ ms) posted = as_posted stamp posted m ∷ more_of stamp ms (with_posted posted m)

abbrev pub posted_all : List Message → List ℕ → List ℕ
posted_all [] posted = posted
posted_all (m ∷ ms) posted = posted_all ms (with_posted posted m)

pub waits : (stamp : ℕ) (ms : List Message) (o : Outbox) → (post_all stamp ms o).waiting ≡ o.waiting ++ more_of stamp ms o.posted
waits stamp [] o = sym (append-nil o.waiting)
waits stamp (m ∷ ms) o = waits stamp ms (post_one stamp m o)
    ∙ append_assoc o.waiting (as_posted stamp o.posted m ∷ []) (more_of stamp ms (with_posted o.posted m))

pub numbers : (stamp : ℕ) (ms : List Message) (o : Outbox) → (post_all stamp ms o).posted ≡ posted_all ms o.posted
numbers stamp [] o = refl
numbers stamp (m ∷ ms) o = numbers stamp ms (post_one stamp m o)

pub length-posted_all : (ms : List Message) (posted : List ℕ) → length (posted_all ms posted) ≡ length posted
length-posted_all [] posted = refl
length-posted_all (m ∷ ms) posted = length-posted_all ms (with_posted posted m)
    ∙ length-set posted (place m.to m.chan) (next_number posted m + 1)

-- ---- places of wires

pub place_is : (t u : ℕ) (c d : Chan) → place t c ≡ place u d → (t ≡ u) × (c ≡ d)
place_is t u Zero Zero e = (omega arith, refl)
place_is t u One One e = (omega arith, refl)
place_is t u Zero One e = absurd (omega arith)
place_is t u One Zero e = absurd (omega arith)

pub place_low : (t : ℕ) (c : Chan) → t < 8 → place t c < 16
place_low t Zero lt = omega arith
place_low t One lt = omega arith

-- ---- what comes onto a wire

-- a message of node `me` to a node that a place of a wire is for
pub record IsPostable (me : ℕ) (m : Message) : Type 0 where
  pub from : m.from ≡ me
  pub to : m.to < 8

pub on_it : (me t : ℕ) (c : Chan) (m : Message) → on_wire me t c m ≡ true → (m.to ≡ t) × (m.chan ≡ c)
on_it me t c m on =
    let ends : (nat_eq m.from me && nat_eq m.to t) ≡ true = and_left (nat_eq m.from me && nat_eq m.to t)
    (chan_eq m.chan c) on in (
      eqb-true m.to t (and_right (nat_eq m.from me) (nat_eq m.to t) ends),
      chan_eq-true m.chan c
          (and_right (nat_eq m.from me && nat_eq m.to t) (chan_eq m.chan c) on),
    )

all_on : (me : ℕ) (m : Message) → m.from ≡ me → on_wire me m.to m.chan m ≡ true
all_on me m from = rw (from, nat_eq_refl me, nat_eq_refl m.to) (chan_eq_refl m.chan)

-- the number of the next message of the wire, after one that is on it or is not
next_on : (me t : ℕ) (c : Chan) (m : Message) (posted : List ℕ) → length posted ≡ 16 → IsPostable me m
    → on_wire me t c m ≡ true → slice_index (with_posted posted m) (place t c) ≡ suc (slice_index posted (place t c))
next_on me t c m posted all is on =
    let at = on_it me t c m on in
    let same : place t c ≡ place m.to m.chan = ap (λ u. place u c) (sym at.0) ∙ ap (λ d. place m.to d) (sym at.1) in
    let low : place m.to m.chan < 16 = place_low m.to m.chan is.to in
    let here : slice_index (with_posted posted m) (place m.to m.chan) ≡ next_number posted m + 1 = get_or-set_same posted
    (place m.to m.chan) (next_number posted m + 1) 0 (omega (arith, all, low)) in
    let one : next_number posted m + 1 ≡ suc (next_number posted m) = omega arith in
    ap (λ k. slice_index (with_posted posted m) k) same ∙ here ∙ one ∙ ap (λ k. suc (slice_index posted k)) (sym same)

next_off : (me t : ℕ) (c : Chan) (m : Message) (posted : List ℕ) → IsPostable me m → on_wire me t c m ≡ false
    → slice_index (with_posted posted m) (place t c) ≡ slice_index posted (place t c)
next_off me t c m posted is off = get_or-set_other posted (place m.to m.chan) (place t c) (next_number posted m + 1) 0 apart
  where
    apart : place t c ≢ place m.to m.chan
    apart e =
        let at = place_is t m.to c m.chan e in
        let on : on_wire me t c m ≡ true = ap (λ u. on_wire me u c m) at.0 ∙ ap (λ d. on_wire me m.to d m) at.1
        ∙ all_on me m is.from in
        let bad : true ≡ false = sym on ∙ off in absurd cc

-- What of the messages comes onto a wire are those of it that are sent, numbered from the next number on.
pub onto_wire : (me t : ℕ) (c : Chan) (stamp : ℕ) (ms : List Message) (posted : List ℕ) → length posted ≡ 16
    → Each (IsPostable me) ms
    → filter (on_wire me t c) (more_of stamp ms posted) ≡ numbered (slice_index posted (place t c))
    (filter (on_wire me t c) (map (stamped stamp) ms))
onto_wire me t c stamp [] posted all each = refl
onto_wire me t c stamp (m ∷ ms) posted all each =
    go (onto_wire me t c stamp ms (with_posted posted m) (length-set posted (place m.to m.chan) (next_number posted m + 1)
    ∙ all) each.1) (on_wire me t c m) refl
  where
    go : filter (on_wire me t c) (more_of stamp ms (with_posted posted m)) ≡ numbered
        (slice_index (with_posted posted m) (place t c)) (filter (on_wire me t c) (map (stamped stamp) ms))
        → (b : Bool) → on_wire me t c m ≡ b
        → filter (on_wire me t c) (more_of stamp (m ∷ ms) posted) ≡ numbered (slice_index posted (place t c))
        (filter (on_wire me t c) (map (stamped stamp) (m ∷ ms)))
    go rest true on =
        let at = on_it me t c m on in
        let first : next_number posted m ≡ slice_index posted (place t c) = ap (λ u. slice_index posted (place u m.chan))
        at.0 ∙ ap (λ d. slice_index posted (place t d)) at.1 in
        rw on (ap (λ k. record m { number = k; stamp = stamp } ∷ filter (on_wire me t c)
        (more_of stamp ms (with_posted posted m))) first
        ∙ ap (λ (l : List Message). record m { number = slice_index posted (place t c); stamp = stamp } ∷ l) (rest
        ∙ ap (λ k. numbered k (filter (on_wire me t c) (map (stamped stamp) ms))) (next_on me t c m posted all each.0 on)))
    go rest false off = rw off (rest ∙ ap (λ k. numbered k (filter (on_wire me t c) (map (stamped stamp) ms)))
        (next_off me t c m posted each.0 off))

-- The number of the next message of a wire grows by how many came onto it.
pub next_after : (me t : ℕ) (c : Chan) (stamp : ℕ) (ms : List Message) (posted : List ℕ) → length posted ≡ 16
    → Each (IsPostable me) ms
    → slice_index (posted_all ms posted) (place t c) ≡ slice_index posted (place t c) + length
    (filter (on_wire me t c) (map (stamped stamp) ms))
next_after me t c stamp [] posted all each = omega arith
next_after me t c stamp (m ∷ ms) posted all each =
    go (next_after me t c stamp ms (with_posted posted m) (length-set posted (place m.to m.chan) (next_number posted m + 1)
    ∙ all) each.1) (on_wire me t c m) refl
  where
    go : slice_index (posted_all ms (with_posted posted m)) (place t c) ≡ slice_index (with_posted posted m) (place t c) +
        length (filter (on_wire me t c) (map (stamped stamp) ms))
        → (b : Bool) → on_wire me t c m ≡ b
        → slice_index (posted_all (m ∷ ms) posted) (place t c) ≡ slice_index posted (place t c) + length
        (filter (on_wire me t c) (map (stamped stamp) (m ∷ ms)))
    go rest true on = rw on (omega (arith, rest, next_on me t c m posted all each.0 on))
    go rest false off = rw off (rest ∙ ap (λ k. k + length (filter (on_wire me t c) (map (stamped stamp) ms)))
        (next_off me t c m posted each.0 off))

-- ---- what a handler sends, with the stamp of its event

pub stamped_out : (p : Protocol) (me block stamp : ℕ) (os : List Out)
    → map (stamped stamp) (map (message_of p me block 0) os) ≡ outgoing p me block stamp os
stamped_out p me block stamp [] = refl
stamped_out p me block stamp (o ∷ os) = ap (λ (l : List Message). message_of p me block stamp o ∷ l)
    (stamped_out p me block stamp os)

-- ---- facts of each message

-- what holds of each message with its stamp, whatever its number, holds of each that waits
pub each_more : (P : Message → Type 0) → ((m : Message) (k : ℕ) → P m → P (record m { number = k }))
    → (stamp : ℕ) (ms : List Message) (posted : List ℕ) → Each P (map (stamped stamp) ms) → Each P (more_of stamp ms posted)
each_more P f stamp [] posted h = tt
each_more P f stamp (m ∷ ms) posted h = (
  f (stamped stamp m) (next_number posted m) h.0,
  each_more P f stamp ms
      (with_posted posted m) h.1,
)

pub length-filter_le : (f t : ℕ) (c : Chan) (ms : List Message) → length (filter (on_wire f t c) ms) ≤ length ms
length-filter_le f t c [] = omega arith
length-filter_le f t c (m ∷ ms) = go (on_wire f t c m) (length-filter_le f t c ms)
  where
    go : (b : Bool) → length (filter (on_wire f t c) ms) ≤ length ms
        → length (if b then m ∷ filter (on_wire f t c) ms else filter (on_wire f t c) ms) ≤ length (m ∷ ms)
    go true h = omega (arith, h)
    go false h = omega (arith, h)
