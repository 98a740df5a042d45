-- An event at a block's home keeps what coherence says of the block.
use Rattle.std.proofs.Common.{◌≡◌, ◌≢◌, ℕ, ◌+◌, ◌<◌, ◌≤◌, true, List, [], ◌∷◌, ◌++◌, Some, arith, refl, sym, ap, ◌∙◌, inl, inr}
use Rattle.std.proofs.Common.{◌⊎◌}
use Rattle.std.proofs.lemmas.List.{append-nil}
use Rattle.block_spots.specs.Cases.{Kind, RdFault, WrFault, GetRo, GetRw, HomeRw, Message, Kept, No, Stale}
use Rattle.block_spots.specs.Notes.{Waiting, Note, note, notes, kept_notes, held_home, is_get_ro, is_get_rw, is_rd_fault}
use Rattle.block_spots.specs.Notes.{is_wr_fault}
use Rattle.block_spots.specs.Sketches.{Local, Wires, Sketch, Handles, Takes, OnlyAt, spot_at, home_at}
use Rattle.tw_base.specs.Lists.{Each, how_many}
use Rattle.tw_base.specs.declared.message.Chan.{Chan}
use Rattle.tw_base.specs.declared.message.Chan.TheVariants.{Zero, One}
use Rattle.coherence_frame.specs.Coherent.{AtBlock}
use Rattle.coherence_frame.specs.Words.{IsGet, IsFault}
use Rattle.coherence_frame.proofs.Counts.{how_many-append, Each-push, no_faults}
use Rattle.coherence_frame.proofs.Views.{sent, kept_notes-append, kept_notes_from_other, kept_notes_same}
use Rattle.coherence_frame.proofs.Events.{wire_after, wire_from_other, kept_from_other, kept_from_sender}
use Rattle.coherence_frame.proofs.Sends.{front_note, AllPast, sent_past_all}
use Rattle.coherence_frame.proofs.Turning.{RequestTurn, taken, kept_if, AnswerTurn, OwnTurn}
use Rattle.coherence_frame.proofs.Rows.{Plan}

pub each_tail : (P : Note → Type 0) (xs : List Note) (x : Note) (ys : List Note) → xs ≡ x ∷ ys → Each P xs → P x × Each P ys
each_tail P xs x ys e h = let f : Each P (x ∷ ys) = rw e at h in (f.0, f.1)

pub each_kept : (P : Note → Type 0) (k : Kept) (x : Note) (xs : List Note) → P x → Each P xs → Each P (xs ++ kept_if k x)
each_kept P No x xs p h = rw append-nil h
each_kept P Stale x xs p h = Each-push P xs x h p

pub count_kept : (f : Note → ℕ) (k : Kept) (x : Note) (xs : List Note) →
    how_many f (xs ++ kept_if k x) + taken k (f x) ≡ how_many f xs + f x
count_kept f No x xs = rw append-nil refl
count_kept f Stale x xs = omega (arith, how_many-append f xs (x ∷ []))

pub get_kind : (k : Kind) (ws : List ℕ) (m : Message) → m.kind ≡ k → IsGet (note m) → (m.kind ≡ GetRo) ⊎ (m.kind ≡ GetRw)
get_kind GetRo ws m e h = inl e
get_kind GetRw ws m e h = inr e
get_kind k ws m e h = absurd (grind arith)

pub each_mid : (P : Note → Type 0) (zs xs : List Note) (x : Note) (ys : List Note) → zs ≡ xs ++ x ∷ ys → Each P zs →
    P x × Each P (xs ++ ys)
each_mid P zs xs x ys e h = go xs (rw e at h)
  where
    go : (xs : List Note) → Each P (xs ++ x ∷ ys) → P x × Each P (xs ++ ys)
    go [] k = k
    go (y ∷ xs) k = let r : P x × Each P (xs ++ ys) = go xs k.1 in (r.0, (k.0, r.1))

pub kept_notes_taken_from_other : (b j : ℕ) (x : Waiting) (xs ys : List Waiting) → x.message.from ≢ j →
    kept_notes b j (xs ++ ys) ≡ kept_notes b j (xs ++ x ∷ ys)
kept_notes_taken_from_other b j x xs ys d =
    kept_notes-append b j xs ys ∙ ap (λ z. kept_notes b j xs ++ z) (sym (kept_notes_from_other b j x ys d))
    ∙ sym (kept_notes-append b j xs (x ∷ ys))

-- what the home's deferred fault says of it
pub record LoneFault (n h : ℕ) (g : Sketch) (m : Message) (earlier later : List Waiting) : Type 0 where
  pub kind : (m.kind ≡ RdFault) ⊎ (m.kind ≡ WrFault)
  pub none : kept_notes m.block h (earlier ++ later) ≡ []
  pub unheld : held_home (home_at g m.block h).rest ≡ 0
  pub not_all : (home_at g m.block h).state ≢ HomeRw

pub fault_kind : (k : Kind) (m : Message) → m.kind ≡ k → IsFault (note m) → (m.kind ≡ RdFault) ⊎ (m.kind ≡ WrFault)
fault_kind RdFault m e h = inl e
fault_kind WrFault m e h = inr e
fault_kind k m e h = absurd (grind arith)

pub one_fault : (x : Note) → IsFault x → is_rd_fault x + is_wr_fault x ≡ 1
one_fault x h = grind arith

module _ (plan : Plan) where
  module _ (n h f : ℕ) (cur : List ℕ) (g g2 : Sketch) (m : Message) (between : Wires) (hn : h < n)
      (a : AtBlock plan.words n h cur (home_at g m.block h) (spot_at g m.block h))
      (from : m.from ≡ f) (fn : f < n) (fh : f ≢ h)
      (o : Handles plan.table n h h m (g.locals h) between (g2.locals h) g2.wires) (others : OnlyAt h g g2) where
    past : AllPast h o.effect.sends
    past = plan.sends.home_past n h (home_at g m.block h) (spot_at g m.block h h) m o.effect a.at_home
        (λ _ q. fh (sym from ∙ q)) (λ _ q. fh (sym from ∙ q)) o.does

    -- the home takes a request from the wire of cache f
    pub request_comes : Takes f h Zero m g.wires between → AtBlock plan.words n h cur (home_at g2 m.block h)
        (spot_at g2 m.block h)
    unfolding spot_at
    request_comes takes =
        rw here (plan.home.request_turn n h f cur (home_at g m.block h) m o.effect (spot_at g m.block h)
        (spot_at g2 m.block h) a fn fh o.does turn (get_kind m.kind [] m refl asks.0))
      where
        b : ℕ
        b = m.block

        here : home_at g2 b h ≡ o.effect.here
        here = o.here

        front : (spot_at g b h f).ask ≡ note m ∷ notes b (between f h Zero)
        front = front_note f h Zero m g.wires between takes

        asks : IsGet (note m) × Each IsGet (notes b (between f h Zero))
        asks = each_tail IsGet _ _ _ front (a.caches f fn fh).asks

        ask_at : notes b (g2.wires f h Zero) ≡ notes b (between f h Zero)
        ask_at = wire_from_other plan n h h m _ _ _ _ o f h Zero fh

        kept_at : kept_notes b f (g2.locals h).deferred ≡ kept_notes b f (g.locals h).deferred ++ kept_if o.effect.kept (note m)
        kept_at = kept_from_sender plan n h h m _ _ _ _ o f from

        local_of : (j : ℕ) → j ≢ h → g2.locals j ≡ g.locals j
        local_of = others

        ask_of : (j : ℕ) → j ≢ h → j ≢ f → notes b (g2.wires j h Zero) ≡ notes b (g.wires j h Zero)
        ask_of j jh jf = wire_from_other plan n h h m _ _ _ _ o j h Zero jh ∙ ap (notes b) (takes.others j h Zero (inl jf))

        kept_of : (j : ℕ) → j ≢ f → kept_notes b j (g2.locals h).deferred ≡ kept_notes b j (g.locals h).deferred
        kept_of j jf = kept_from_other plan n h h m _ _ _ _ o j (λ q. jf (sym q ∙ from))

        up_of : (j : ℕ) → j ≢ h → notes b (g2.wires j h One) ≡ notes b (g.wires j h One)
        up_of j jh = wire_from_other plan n h h m _ _ _ _ o j h One jh
            ∙ ap (notes b) (takes.others j h One (inr (inr (λ q. (let z : One ≡ Zero = q in cc)))))

        down_of : (j : ℕ) → notes b (g2.wires h j One) ≡ notes b (g.wires h j One) ++ sent b o.effect.sends h j One
        down_of j = wire_after plan n h h m _ _ _ _ o h j One
            ∙ ap (λ x. notes b x ++ sent b o.effect.sends h j One) (takes.others h j One (inl (λ q. fh (sym q))))

        to_itself : (c : Chan) → notes b (g2.wires h h c) ≡ notes b (g.wires h h c)
        to_itself c = wire_after plan n h h m _ _ _ _ o h h c
            ∙ ap (λ x. notes b x ++ sent b o.effect.sends h h c) (takes.others h h c (inl (λ q. fh (sym q))))
            ∙ ap (λ x. notes b (g.wires h h c) ++ x) (sent_past_all b h h c o.effect.sends past) ∙ append-nil _

        count : (k : Note → ℕ) → how_many k (notes b (g.wires f h Zero)) + how_many k (kept_notes b f (g.locals h).deferred)
            ≡ how_many k (notes b (g2.wires f h Zero)) + how_many k
            (kept_notes b f (g2.locals h).deferred) + taken o.effect.kept (k (note m))
        count k = omega (
          arith,
          ap (how_many k) front,
          ap (how_many k) ask_at,
          ap (how_many k) kept_at,
          count_kept k o.effect.kept (note m) (kept_notes b f (g.locals h).deferred),
        )

        turn : RequestTurn h f m o.effect (spot_at g b h) (spot_at g2 b h)
        turn = record {
          from = from;
          own = record { ask = to_itself Zero; kept = kept_of h (λ q. fh (sym q)); down = to_itself One; up = to_itself One };
          others = λ j jh jf. simp (local_of j jh, ask_of j jh jf, kept_of j jf, down_of j, up_of j jh);
          loses = record {
            state = simp (local_of f fh);
            tag = simp (local_of f fh);
            rest = simp (local_of f fh);
            words = simp (local_of f fh);
            asks = rw ask_at asks.1;
            keeps = rw kept_at (each_kept IsGet o.effect.kept (note m) _ asks.0 (a.caches f fn fh).keeps);
            ro_less = count is_get_ro;
            rw_less = count is_get_rw;
          };
          down = down_of f;
          up = up_of f fh;
        }

    -- the home takes an answer from the wire of cache f
    pub answer_comes : Takes f h One m g.wires between → AtBlock plan.words n h cur (home_at g2 m.block h) (spot_at g2 m.block h)
    unfolding spot_at
    answer_comes takes =
        rw here (plan.home.answer_turn n h f cur (home_at g m.block h) m o.effect (spot_at g m.block h)
        (spot_at g2 m.block h) a fn fh o.does turn)
      where
        b : ℕ
        b = m.block

        here : home_at g2 b h ≡ o.effect.here
        here = o.here

        local_of : (j : ℕ) → j ≢ h → g2.locals j ≡ g.locals j
        local_of = others

        ask_of : (j : ℕ) → j ≢ h → notes b (g2.wires j h Zero) ≡ notes b (g.wires j h Zero)
        ask_of j jh = wire_from_other plan n h h m _ _ _ _ o j h Zero jh
            ∙ ap (notes b) (takes.others j h Zero (inr (inr (λ q. (let z : Zero ≡ One = q in cc)))))

        kept_of : (j : ℕ) → j ≢ f → kept_notes b j (g2.locals h).deferred ≡ kept_notes b j (g.locals h).deferred
        kept_of j jf = kept_from_other plan n h h m _ _ _ _ o j (λ q. jf (sym q ∙ from))

        kept_at : kept_notes b f (g2.locals h).deferred ≡ kept_notes b f (g.locals h).deferred ++ kept_if o.effect.kept (note m)
        kept_at = kept_from_sender plan n h h m _ _ _ _ o f from

        up_of : (j : ℕ) → j ≢ h → j ≢ f → notes b (g2.wires j h One) ≡ notes b (g.wires j h One)
        up_of j jh jf = wire_from_other plan n h h m _ _ _ _ o j h One jh ∙ ap (notes b) (takes.others j h One (inl jf))

        up_at : notes b (g2.wires f h One) ≡ notes b (between f h One)
        up_at = wire_from_other plan n h h m _ _ _ _ o f h One fh

        down_of : (j : ℕ) → notes b (g2.wires h j One) ≡ notes b (g.wires h j One) ++ sent b o.effect.sends h j One
        down_of j = wire_after plan n h h m _ _ _ _ o h j One
            ∙ ap (λ x. notes b x ++ sent b o.effect.sends h j One) (takes.others h j One (inl (λ q. fh (sym q))))

        to_itself : (c : Chan) → notes b (g2.wires h h c) ≡ notes b (g.wires h h c)
        to_itself c = wire_after plan n h h m _ _ _ _ o h h c
            ∙ ap (λ x. notes b x ++ sent b o.effect.sends h h c) (takes.others h h c (inl (λ q. fh (sym q))))
            ∙ ap (λ x. notes b (g.wires h h c) ++ x) (sent_past_all b h h c o.effect.sends past) ∙ append-nil _

        turn : AnswerTurn h f m o.effect (spot_at g b h) (spot_at g2 b h)
        turn = record {
          rest = notes b (between f h One);
          own = record { ask = to_itself Zero; kept = kept_of h (λ q. fh (sym q)); down = to_itself One; up = to_itself One };
          others = λ j jh jf. simp (local_of j jh, ask_of j jh, kept_of j jf, down_of j, up_of j jh jf);
          came = front_note f h One m g.wires between takes;
          at_sender = simp (local_of f fh, ask_of f fh, kept_at, down_of f, up_at);
        }

  module _ (n h f : ℕ) (cur : List ℕ) (g g2 : Sketch) (m : Message) (earlier later : List Waiting) (hn : h < n)
      (a : AtBlock plan.words n h cur (home_at g m.block h) (spot_at g m.block h))
      (from : m.from ≡ f) (fn : f < n) (fh : f ≢ h)
      (found : (g.locals h).deferred ≡ earlier ++ record { message = m; eligible = true } ∷ later)
      (o : Handles plan.table n h h m (record (g.locals h) { deferred = earlier ++ later }) g.wires (g2.locals h) g2.wires)
      (others : OnlyAt h g g2) where
    past2 : AllPast h o.effect.sends
    past2 = plan.sends.home_past n h (home_at g m.block h) (spot_at g m.block h h) m o.effect a.at_home
        (λ _ q. fh (sym from ∙ q)) (λ _ q. fh (sym from ∙ q)) o.does

    -- the home takes a request out of the deferred ones
    pub request_again : AtBlock plan.words n h cur (home_at g2 m.block h) (spot_at g2 m.block h)
    unfolding spot_at
    request_again =
        rw here (plan.home.request_turn n h f cur (home_at g m.block h) m o.effect (spot_at g m.block h)
        (spot_at g2 m.block h) a fn fh o.does turn (get_kind m.kind [] m refl keeps.0))
      where
        b : ℕ
        b = m.block

        here : home_at g2 b h ≡ o.effect.here
        here = o.here

        xs : List Note
        xs = kept_notes b f earlier

        ys : List Note
        ys = kept_notes b f later

        old_kept : kept_notes b f (g.locals h).deferred ≡ xs ++ note m ∷ ys
        old_kept = ap (kept_notes b f) found ∙ kept_notes-append b f earlier _
            ∙ ap (λ z. xs ++ z) (kept_notes_same b f (record { message = m; eligible = true }) later refl from)

        keeps : IsGet (note m) × Each IsGet (xs ++ ys)
        keeps = each_mid IsGet _ xs (note m) ys old_kept (a.caches f fn fh).keeps

        kept_at : kept_notes b f (g2.locals h).deferred ≡ (xs ++ ys) ++ kept_if o.effect.kept (note m)
        kept_at = kept_from_sender plan n h h m _ _ _ _ o f from
            ∙ ap (λ z. z ++ kept_if o.effect.kept (note m)) (kept_notes-append b f earlier later)

        local_of : (j : ℕ) → j ≢ h → g2.locals j ≡ g.locals j
        local_of = others

        wire_of : (j t : ℕ) (c : Chan) → j ≢ h → notes b (g2.wires j t c) ≡ notes b (g.wires j t c)
        wire_of j t c jh = wire_from_other plan n h h m _ _ _ _ o j t c jh

        kept_of : (j : ℕ) → j ≢ f → kept_notes b j (g2.locals h).deferred ≡ kept_notes b j (g.locals h).deferred
        kept_of j jf = kept_from_other plan n h h m _ _ _ _ o j (λ q. jf (sym q ∙ from))
            ∙ kept_notes_taken_from_other b j (record { message = m; eligible = true }) earlier later (λ q. jf (sym q ∙ from))
            ∙ sym (ap (kept_notes b j) found)

        down_of : (j : ℕ) → notes b (g2.wires h j One) ≡ notes b (g.wires h j One) ++ sent b o.effect.sends h j One
        down_of j = wire_after plan n h h m _ _ _ _ o h j One

        to_itself : (c : Chan) → notes b (g2.wires h h c) ≡ notes b (g.wires h h c)
        to_itself c = wire_after plan n h h m _ _ _ _ o h h c
            ∙ ap (λ x. notes b (g.wires h h c) ++ x) (sent_past_all b h h c o.effect.sends past2) ∙ append-nil _

        count : (k : Note → ℕ) → how_many k (notes b (g.wires f h Zero)) + how_many k (kept_notes b f (g.locals h).deferred)
            ≡ how_many k (notes b (g2.wires f h Zero)) + how_many k
            (kept_notes b f (g2.locals h).deferred) + taken o.effect.kept (k (note m))
        count k = omega (
          arith,
          ap (how_many k) old_kept,
          how_many-append k xs (note m ∷ ys),
          how_many-append k xs ys,
          ap (how_many k) (wire_of f h Zero fh),
          ap (how_many k) kept_at,
          count_kept k o.effect.kept (note m) (xs ++ ys),
        )

        turn : RequestTurn h f m o.effect (spot_at g b h) (spot_at g2 b h)
        turn = record {
          from = from;
          own = record { ask = to_itself Zero; kept = kept_of h (λ q. fh (sym q)); down = to_itself One; up = to_itself One };
          others = λ j jh jf. simp (local_of j jh, wire_of j h Zero jh, kept_of j jf, down_of j, wire_of j h One jh);
          loses = record {
            state = simp (local_of f fh);
            tag = simp (local_of f fh);
            rest = simp (local_of f fh);
            words = simp (local_of f fh);
            asks = rw (wire_of f h Zero fh) (a.caches f fn fh).asks;
            keeps = rw kept_at (each_kept IsGet o.effect.kept (note m) _ keeps.0 keeps.1);
            ro_less = count is_get_ro;
            rw_less = count is_get_rw;
          };
          down = down_of f;
          up = wire_of f h One fh;
        }

  -- the home's own fault, handled by l, which is the home with that fault nowhere deferred
  module _ (n h : ℕ) (cur : List ℕ) (g g2 : Sketch) (m : Message) (l : Local) (hn : h < n)
      (a : AtBlock plan.words n h cur (home_at g m.block h) (spot_at g m.block h))
      (from : m.from ≡ h) (k : (m.kind ≡ RdFault) ⊎ (m.kind ≡ WrFault))
      (same : l.blocks m.block ≡ home_at g m.block h)
      (o : Handles plan.table n h h m l g.wires (g2.locals h) g2.wires) (others : OnlyAt h g g2)
      (kept_others : (j : ℕ) → j ≢ h → kept_notes m.block j l.deferred ≡ kept_notes m.block j (g.locals h).deferred)
      (kept_none : kept_notes m.block h l.deferred ≡ [])
      (unheld : held_home (home_at g m.block h).rest ≡ 0) (not_all : (home_at g m.block h).state ≢ HomeRw) where
    does3 : plan.table n h h (home_at g m.block h) m ≡ Some o.effect
    does3 = let f : plan.table n h h (l.blocks m.block) m ≡ Some o.effect = o.does in rw same at f

    past3 : AllPast h o.effect.sends
    past3 = plan.sends.home_past n h (home_at g m.block h) (spot_at g m.block h h) m o.effect a.at_home
        (λ q. absurd (grind arith)) (λ q. absurd (grind arith)) does3

    pub own_fault : AtBlock plan.words n h cur (home_at g2 m.block h) (spot_at g2 m.block h)
    unfolding spot_at
    own_fault =
        rw here (plan.home.own_turn n h cur (home_at g m.block h) m o.effect (spot_at g m.block h)
        (spot_at g2 m.block h) a does3 turn k)
      where
        b : ℕ
        b = m.block

        here : home_at g2 b h ≡ o.effect.here
        here = o.here

        local_of : (j : ℕ) → j ≢ h → g2.locals j ≡ g.locals j
        local_of = others

        wire_of : (j t : ℕ) (c : Chan) → j ≢ h → notes b (g2.wires j t c) ≡ notes b (g.wires j t c)
        wire_of j t c jh = wire_from_other plan n h h m _ _ _ _ o j t c jh

        kept_of : (j : ℕ) → j ≢ h → kept_notes b j (g2.locals h).deferred ≡ kept_notes b j (g.locals h).deferred
        kept_of j jh = kept_from_other plan n h h m _ _ _ _ o j (λ q. jh (sym q ∙ from)) ∙ kept_others j jh

        down_of : (j : ℕ) → notes b (g2.wires h j One) ≡ notes b (g.wires h j One) ++ sent b o.effect.sends h j One
        down_of j = wire_after plan n h h m _ _ _ _ o h j One

        to_itself : (c : Chan) → notes b (g2.wires h h c) ≡ notes b (g.wires h h c)
        to_itself c = wire_after plan n h h m _ _ _ _ o h h c
            ∙ ap (λ x. notes b (g.wires h h c) ++ x) (sent_past_all b h h c o.effect.sends past3) ∙ append-nil _

        turn : OwnTurn h (home_at g b h) m o.effect (spot_at g b h) (spot_at g2 b h)
        turn = record {
          others = λ j jh. simp (local_of j jh, wire_of j h Zero jh, kept_of j jh, down_of j, wire_of j h One jh);
          ask = to_itself Zero ∙ a.at_home.ask;
          down = to_itself One ∙ a.at_home.down;
          up = to_itself One ∙ a.at_home.up;
          kept = kept_from_sender plan n h h m _ _ _ _ o h from ∙ ap (λ z. z ++ kept_if o.effect.kept (note m)) kept_none;
          unheld = unheld;
          not_all = not_all;
        }

  pub lone_fault : (n h : ℕ) (cur : List ℕ) (g : Sketch) (m : Message) (earlier later : List Waiting) →
      AtBlock plan.words n h cur (home_at g m.block h) (spot_at g m.block h) → m.from ≡ h →
      (g.locals h).deferred ≡ earlier ++ record { message = m; eligible = true } ∷ later → LoneFault n h g m earlier later
  unfolding spot_at
  lone_fault n h cur g m earlier later a from found = record {
    kind = fault_kind m.kind m refl keeps.0;
    none = kept_notes-append b h earlier later ∙ no_faults (xs ++ ys) keeps.1
        (omega (arith, one, counts is_rd_fault, counts is_wr_fault, one_fault (note m) keeps.0));
    unheld = omega (arith, one, counts is_rd_fault, counts is_wr_fault, one_fault (note m) keeps.0);
    not_all = λ q. (let e : xs ++ note m ∷ ys ≡ [] = sym old_kept
        ∙ a.at_home.none q in let z : how_many is_rd_fault (xs ++ note m ∷ ys) + how_many is_wr_fault (xs ++ note m ∷ ys) ≡ 0 =
        rw e refl in omega (
          arith,
          one_fault (note m) keeps.0,
          how_many-append is_rd_fault xs (note m ∷ ys),
          how_many-append is_wr_fault xs (note m ∷ ys),
        ));
  }
    where
      b : ℕ
      b = m.block

      xs : List Note
      xs = kept_notes b h earlier

      ys : List Note
      ys = kept_notes b h later

      old_kept : kept_notes b h (g.locals h).deferred ≡ xs ++ note m ∷ ys
      old_kept = ap (kept_notes b h) found ∙ kept_notes-append b h earlier _
          ∙ ap (λ z. xs ++ z) (kept_notes_same b h (record { message = m; eligible = true }) later refl from)

      keeps : IsFault (note m) × Each IsFault (xs ++ ys)
      keeps = each_mid IsFault _ xs (note m) ys old_kept a.at_home.faults

      one : how_many is_rd_fault (kept_notes b h (g.locals h).deferred) + how_many is_wr_fault
          (kept_notes b h (g.locals h).deferred) + held_home (home_at g b h).rest ≤ 1
      one = a.at_home.one

      counts : (k : Note → ℕ) → how_many k (kept_notes b h (g.locals h).deferred) ≡ how_many k (xs ++ ys) + k (note m)
      counts k = omega (arith, ap (how_many k) old_kept, how_many-append k xs (note m ∷ ys), how_many-append k xs ys)
