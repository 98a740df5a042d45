-- What follows first on a wire goes to the receiver.
use Rattle.std.proofs.Common.{◌≡◌, ◌∙◌, ℕ, ◌<◌, true, List, [], ◌∷◌, ◌++◌, Option, Some, None, length, refl, ap, sym, subst}
use Rattle.std.proofs.Common.{append_assoc}
use Rattle.std.specs.Prelude.{option_to_list, slice_get}
use Rattle.std.proofs.lemmas.Option.{same_Some}
use Rattle.tw_base.specs.Lists.{Each}
use Rattle.tw_base.specs.declared.message.Chan.{Chan}
use Rattle.tw_base.specs.declared.message.Message.{Message}
use Rattle.dsm_runs.proofs.Besides.{log_alone}
use Rattle.dsm_runs.proofs.Stamps.{is_on}
use Rattle.dsm_runs.specs.Laws.{IsOn}
use Rattle.dsm_runs.specs.Messages.{on_wire}
use Rattle.dsm_runs.specs.Replays.{begin}
use Rattle.dsm_runs.specs.Setups.{Setup}
use Rattle.teapot_meaning.proofs.Found.{each_right}
use Rattle.node_meaning.specs.Nodes.{Shown, accepted_at, front_at, onto, tally_of}
use Rattle.node_meaning.specs.Stands.{IsFit}
use Rattle.node_meaning.specs.Tallies.{Counts, first_tally}
use Rattle.still_meaning.proofs.Handing.{next_number, refilled}
use Rattle.still_meaning.specs.Stills.{IsNodeAt, AreWhole, Passes, StillShown, flight, front_of, row_at}
use Rattle.still_nodes.specs.Handing.{Accepts, IsFilled, MayAccept, Refills, queue_at, waiting_of, with_queue}
use Rattle.still_nodes.proofs.Fronts.{NodesStay, accept_fronts, accept_stays, accept_waits, count_same, get_other, one_stays}
use Rattle.still_nodes.proofs.Fronts.{on_its_own, onto_one, queue_taken, rows_count, rows_places, unpushed_is}
use Rattle.still_nodes.proofs.Lists.{left_empty, right_empty}
use Rattle.still_nodes.proofs.Handed.{passes_none}
use Rattle.still_nodes.proofs.Places.{node_there}
use Rattle.still_nodes.proofs.Moving.{below_eight, in_row, in_rows, is_node, still_filled}

-- ---- nothing follows, or the receiver keeps a message

pub nothing_moves : (a : StillShown) (f t : ℕ) (c : Chan) → IsFilled a f t c → Refills a a f t c
nothing_moves a f t c filled =
    record { passes = passes_none a; away = λ i d. refl; waits = λ i. refl; here = filled; filled = λ g u d h. h }

-- ---- what is on the way between two nodes

module _ (a : StillShown) (w : AreWhole a) (f t : ℕ) (c : Chan) (lf : f < a.setup.shape.nodes) (lt : t < a.setup.shape.nodes)
    (m : Message) (rest : List Message) (way : flight a f t c ≡ m ∷ rest) where
  sender : (n : Shown) × (slice_get a.nodes f ≡ Some n)
  sender = node_there a w.state w.still f lf

  known : IsNodeAt a f sender.0 (w.still.ends f)
  known = is_node a w f sender.0 sender.1

  first_of : (P : Message → Type 0) → Each P ((w.still.ends f).sent t c) → P m
  first_of P each =
      let parts : (w.still.ends f).sent t c ≡ (w.still.ends t).took f c ++ m ∷ rest = w.still.agrees f t c lf lt
      ∙ ap (λ (ms : List Message). (w.still.ends t).took f c ++ ms) way in
      let last : Each P (m ∷ rest) =
      each_right P ((w.still.ends t).took f c) (m ∷ rest) (subst (λ (ms : List Message). Each P ms) parts each) in
      last.0

  pub on_its_way : (m.from ≡ f) × (m.to ≡ t) × (m.chan ≡ c)
  on_its_way =
      let n = sender.0 in
      let all : Each (IsOn n.me t c n.log) ((w.still.ends f).sent t c) =
      is_on n.setup n.me n.log (w.still.ends f)
      (log_alone (Counts n.setup n.code) n.setup n.me n.log (begin n.setup n.me) (w.still.ends f)
      (first_tally n.setup n.me) (tally_of n) known.stands.replays) t c in
      let on : IsOn n.me t c n.log m = first_of (IsOn n.me t c n.log) all in
      (on.sender ∙ known.me, on.receiver, on.chan)

  fit_sent : IsFit a.setup f t m
  fit_sent =
      let n = sender.0 in
      let fit : IsFit n.setup n.me t m = first_of (IsFit n.setup n.me t) (known.stands.fit t c) in
      subst (λ (s : Setup). IsFit s f t m) known.setup (subst (λ i. IsFit n.setup i t m) known.me fit)

  pub may_follow : (n : Shown) → slice_get a.nodes t ≡ Some n → front_at n f c ≡ None → MayAccept a.nodes m
  may_follow n there free =
      let wire = on_its_way in
      let x = is_node a w t n there in
      let fit_from : IsFit a.setup m.from t m = subst (λ i. IsFit a.setup i t m) (sym wire.0) fit_sent in
      let fit_to : IsFit a.setup m.from n.me m = subst (λ i. IsFit a.setup m.from i m) (sym x.me) fit_from in
      let number = next_number a w.state w.still f t c sender.0 n m rest sender.1 there lf lt free way in
      record {
        receiver = n;
        there = ap (λ i. slice_get a.nodes i) wire.1 ∙ there;
        free = ap (λ i. front_at n i m.chan) wire.0 ∙ ap (λ (d : Chan). front_at n f d) wire.2 ∙ free;
        fit = subst (λ (s : Setup). IsFit s m.from n.me m) (sym x.setup) fit_to;
        number = number ∙ sym (ap (λ i. accepted_at n i m.chan) wire.0 ∙ ap (λ (d : Chan). accepted_at n f d) wire.2);
      }

-- ---- it goes to the receiver

module _ (a b : StillShown) (w : AreWhole a) (f t : ℕ) (c : Chan) (lf : f < a.setup.shape.nodes) (lt : t < a.setup.shape.nodes)
    (m : Message) (rest : List Message) (first : queue_at a.rows f t c ≡ m ∷ rest)
    (wire : (m.from ≡ f) × (m.to ≡ t) × (m.chan ≡ c)) (may : MayAccept a.nodes m) (x : Accepts a.nodes b.nodes m)
    (rows : b.rows ≡ with_queue a.rows f t c rest) where
  fronts : (g u : ℕ) (d : Chan) → front_of (slice_get b.nodes u) g d ≡ front_of (slice_get a.nodes u) g d ++ onto g u d (m ∷ [])
  fronts =
      let small : m.from < 8 = subst (λ i. i < 8) (sym wire.0) (below_eight a w f lf) in
      let same : may.receiver ≡ x.old = same_Some may.receiver x.old (sym may.there ∙ x.there) in
      accept_fronts a.nodes b.nodes m x small (sym (ap (λ (n : Shown). front_at n m.from m.chan) same) ∙ may.free)

  row_less : (g u : ℕ) (d : Chan) → row_at a g u d ≡ onto g u d (m ∷ []) ++ row_at b g u d
  row_less g u d =
      queue_taken a.rows f t c m rest (in_rows a w f lf) (in_row a w f t c lf lt) wire first g u d
      ∙ ap (λ (rs : List (List (List Message))). onto g u d (m ∷ []) ++ queue_at rs g u d) (sym rows)

  both : (g u : ℕ) (d : Chan) → front_of (slice_get b.nodes u) g d ++ row_at b g u d ≡ front_of (slice_get a.nodes u) g
      d ++ row_at a g u d
  both g u d =
      ap (λ (ms : List Message). ms ++ row_at b g u d) (fronts g u d)
      ∙ append_assoc (front_of (slice_get a.nodes u) g d) (onto g u d (m ∷ [])) (row_at b g u d)
      ∙ ap (λ (ms : List Message). front_of (slice_get a.nodes u) g d ++ ms) (sym (row_less g u d))

  waits_same : (i : ℕ) → waiting_of (slice_get b.nodes i) ≡ waiting_of (slice_get a.nodes i)
  waits_same i = accept_waits a.nodes b.nodes m x i

  nodes_stay : NodesStay a b
  nodes_stay = one_stays a b m.to x.old x.new x.there x.now (accept_stays a.nodes b.nodes m x)

  follows_filled : (g u : ℕ) (d : Chan) → IsFilled a g u d → IsFilled b g u d
  follows_filled g u d = still_filled a b nodes_stay g u d
      (λ none. left_empty (front_of (slice_get a.nodes u) g d) (onto g u d (m ∷ [])) (sym (fronts g u d) ∙ none))
      (λ empty none. right_empty (onto g u d (m ∷ [])) (row_at b g u d) (sym (row_less g u d) ∙ empty))

  kept_here : front_of (slice_get b.nodes t) f c ≡ [] → ⊥
  kept_here none =
      let on : on_wire f t c m ≡ true =
      subst (λ k. on_wire k t c m ≡ true) wire.0
      (subst (λ k. on_wire m.from k c m ≡ true) wire.1
      (subst (λ (e : Chan). on_wire m.from m.to e m ≡ true) wire.2 (on_its_own m))) in
      let one : onto f t c (m ∷ []) ≡ [] =
      right_empty (front_of (slice_get a.nodes t) f c) (onto f t c (m ∷ [])) (sym (fronts f t c) ∙ none) in
      let is : m ∷ [] ≡ [] = sym (onto_one f t c m on) ∙ one in
      absurd cc

  pub follows_passes : b.setup ≡ a.setup → b.code ≡ a.code → b.taken ≡ a.taken → Passes a b
  follows_passes setup code taken = record {
    same_setup = setup;
    same_code = code;
    taken = taken;
    count = count_same a.nodes b.nodes m.to x.new x.now;
    nodes = nodes_stay;
    flight = λ g u d lg lu. refilled a b
        (λ k v e. unpushed_is (slice_get b.nodes k) k v e ∙ ap (λ (ms : List Message). onto k v e ms) (waits_same k)
        ∙ sym (unpushed_is (slice_get a.nodes k) k v e))
        both g u d;
  }

  pub follows : b.setup ≡ a.setup → b.code ≡ a.code → b.taken ≡ a.taken → Refills a b f t c
  follows setup code taken = record {
    passes = follows_passes setup code taken;
    away = λ i d. get_other a.nodes b.nodes m.to i x.new x.now (λ q. d (q ∙ wire.1));
    waits = waits_same;
    here =
        λ n there none. absurd
        (kept_here (ap (λ (q : Option Shown). front_of q f c) there ∙ ap (λ (q : Option Message). option_to_list q) none));
    filled = follows_filled;
  }

  pub follows_count : length b.rows ≡ length a.rows
  follows_count = ap (λ (rs : List (List (List Message))). length rs) rows ∙ rows_count a.rows f t c rest

  pub follows_places : Each (λ row. length row ≡ 16) b.rows
  follows_places =
      subst (λ (rs : List (List (List Message))). Each (λ row. length row ≡ 16) rs) (sym rows)
      (rows_places a.rows f t c rest (in_rows a w f lf) w.places)
