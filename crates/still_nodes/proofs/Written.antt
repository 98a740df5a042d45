-- What the methods leave of all nodes, where their parts are written one after another.
use Rattle.std.proofs.Common.{◌≡◌, ◌∙◌, ℕ, ◌+◌, ◌*◌, ◌<◌, ◌^◌, ◌↔◌, Bool, false, List, [], ◌∷◌, ◌++◌, Option, Some, None}
use Rattle.std.proofs.Common.{length, get_or, refl, ap, sym, subst}
use Rattle.std.specs.Prelude.{IsTrue, is_some, option_to_list, slice_get, slice_set}
use Rattle.std.specs.List.{slice_index_or}
use Rattle.std.specs.Global.{Vec}
use Rattle.std.specs.Vec.{with_items}
use Rattle.std.proofs.lemmas.List.{set-get_or, with_items_is}
use Rattle.std.proofs.lemmas.Option.{same_Some}
use Rattle.tw_base.specs.declared.entry.Entry.{Entry}
use Rattle.tw_base.specs.declared.message.Chan.{Chan}
use Rattle.tw_base.specs.declared.message.Message.{Message}
use Rattle.dsm_runs.specs.Messages.{place}
use Rattle.dsm_runs.specs.Setups.{Setup}
use Rattle.handler_code.specs.declared.code.Code.{Code}
use Rattle.node_meaning.specs.Nodes.{Shown, front_at, node_tests}
use Rattle.node_parts.specs.Truths.{truths}
use Rattle.still_meaning.specs.Stills.{AreWhole, Passes, StillShown, flight, front_of, unpushed}
use Rattle.still_nodes.specs.Handing.{Accepts, HandsOver, HandsTo, IsFirstOut, LeavesOthers, MayAccept, MayHandOver, Pops}
use Rattle.still_nodes.specs.Handing.{Refills, queue_at, waiting_of, waits_at, with_queue}
use Rattle.still_nodes.specs.Parts.{Rows, all_of}
use Rattle.still_nodes.specs.Telling.{IsWordAt}
use Rattle.still_nodes.proofs.Fronts.{count_same, rows_count}
use Rattle.still_nodes.proofs.Lists.{no_first}
use Rattle.still_nodes.proofs.Handed.{whole_after}
use Rattle.still_nodes.proofs.Moving.{behind_count, behind_others, behind_out, behind_passes, behind_places, from_is, in_nodes}
use Rattle.still_nodes.proofs.Moving.{is_node, may_hand_over, over_others, over_out, over_passes, popped_is_first, to_within}
use Rattle.still_nodes.proofs.Parts.{node_seen}
use Rattle.still_nodes.proofs.Refilling.{follows, follows_count, follows_passes, follows_places, may_follow, nothing_moves}
use Rattle.still_nodes.proofs.Refilling.{on_its_way}

-- nothing that was handed over of this wire is on its way
abbrev pub IsClear : List Shown → Rows → ℕ → ℕ → Chan → Type 0
IsClear ns rows f t c = front_of (slice_get ns t) f c ++ queue_at rows f t c ≡ []

-- a message of node k was handed out to node t
pub record Moves (a b : StillShown) (k t : ℕ) : Type 0 where
  pub whole : AreWhole b
  pub passes : Passes a b
  pub others : LeavesOthers a b k
  pub out : HandsTo a b k t

pub busy_if_false : (r : Bool) (P : Type 0) → r ≡ false → IsTrue r ↔ P → P → ⊥
busy_if_false r P is iff p = let yes = iff.1 p in absurd (cc (is, yes))

pub none_out : (a : StillShown) (ns : List Shown) (k : ℕ) → ns ≡ a.nodes → None ≡ slice_get (waiting_of (slice_get ns k)) 0 →
    waits_at a k ≡ []
none_out a ns k is first =
    ap (λ (xs : List Shown). waiting_of (slice_get xs k)) (sym is) ∙ no_first (waiting_of (slice_get ns k)) first

-- ---- parts are written

module _ (s : Setup) (code : Code) (ns : List Shown) (rows : Rows) (taken : List Entry)
    (w : AreWhole (all_of s code ns rows taken)) where
  -- a message is handed out
  module _ (k : ℕ) (lk : k < s.shape.nodes) (m : Message) (o : IsFirstOut ns k m) where
    pub receiver_there : m.to < length ns
    receiver_there = in_nodes (all_of s code ns rows taken) w m.to (to_within (all_of s code ns rows taken) w k m o)

    pub sender_there : m.from < length rows
    sender_there =
        let from : m.from ≡ k = from_is (all_of s code ns rows taken) w k m o in
        subst (λ i. i < length rows) (sym from) (subst (λ i. k < i) (sym w.rows) lk)

    by_sender : IsClear ns rows k m.to m.chan → IsClear ns rows m.from m.to m.chan
    by_sender clear = subst (λ i. IsClear ns rows i m.to m.chan) (sym (from_is (all_of s code ns rows taken) w k m o)) clear

    pub may_go : IsClear ns rows k m.to m.chan → MayHandOver ns k
    may_go clear = may_hand_over (all_of s code ns rows taken) w k m o lk (by_sender clear)

    pub went_over : (ns2 : List Shown) → IsClear ns rows k m.to m.chan → HandsOver ns ns2 k →
        Moves (all_of s code ns rows taken) (all_of s code ns2 rows taken) k m.to
    went_over ns2 clear h =
        let a : StillShown = all_of s code ns rows taken in
        let b : StillShown = all_of s code ns2 rows taken in
        let same : h.message ≡ m = popped_is_first ns h.between k m h.message o h.pops in
        let p : Pops ns h.between k m = subst (λ (x : Message). Pops ns h.between k x) same h.pops in
        let x : Accepts h.between ns2 m = subst (λ (y : Message). Accepts h.between ns2 y) same h.accepts in
        let passes : Passes a b = over_passes a b w k lk m o h.between p x (by_sender clear) refl refl refl refl in
        record {
          whole = whole_after a b w passes refl w.places;
          passes = passes;
          others = over_others a b w k lk m o h.between p x (by_sender clear) refl;
          out = over_out a b w k lk m o h.between p x (by_sender clear) refl;
        }

    pub went_behind : (ns2 : List Shown) (rows2 : Rows) (m2 : Message) → (IsClear ns rows k m.to m.chan → ⊥) →
        rows2 ≡ with_queue rows m.from m.to m.chan (queue_at rows m.from m.to m.chan ++ m ∷ []) → Pops ns ns2 k m2
        → Moves (all_of s code ns rows taken) (all_of s code ns2 rows2 taken) k m.to
    went_behind ns2 rows2 m2 busy put pops =
        let a : StillShown = all_of s code ns rows taken in
        let b : StillShown = all_of s code ns2 rows2 taken in
        let from : m.from ≡ k = from_is a w k m o in
        let p : Pops ns ns2 k m = subst (λ (x : Message). Pops ns ns2 k x) (popped_is_first ns ns2 k m m2 o pops) pops in
        let full : IsClear ns rows m.from m.to m.chan → ⊥ =
        λ clear. busy (subst (λ i. IsClear ns rows i m.to m.chan) from clear) in
        let passes : Passes a b = behind_passes a b w k lk m o p full put refl refl refl in
        record {
          whole = whole_after a b w passes (behind_count a b w k lk m o p full put) (behind_places a b w k lk m o p full put);
          passes = passes;
          others = behind_others a b w k lk m o p full put;
          out = behind_out a b w k lk m o p full put;
        }

  -- what follows on a wire goes to the receiver
  module _ (f t : ℕ) (c : Chan) (lf : f < s.shape.nodes) (lt : t < s.shape.nodes) (n : Shown) (there : slice_get ns t ≡ Some n)
      (free : front_at n f c ≡ None) (rows2 : Rows) (others : rows2 ≡ with_queue rows f t c (queue_at rows2 f t c)) where
    way : (m : Message) → queue_at rows f t c ≡ m ∷ queue_at rows2 f t c →
        flight (all_of s code ns rows taken) f t c ≡ m ∷ (queue_at rows2 f t c ++ unpushed (slice_get ns f) f t c)
    way m first =
        let none : front_of (slice_get ns t) f c ≡ [] = ap (λ (x : Option Shown). front_of x f c) there
        ∙ ap (λ (x : Option Message). option_to_list x) free in
        ap (λ (ms : List Message). ms ++ (queue_at rows f t c ++ unpushed (slice_get ns f) f t c)) none
        ∙ ap (λ (ms : List Message). ms ++ unpushed (slice_get ns f) f t c) first

    pub may_be_kept : (m : Message) → queue_at rows f t c ≡ m ∷ queue_at rows2 f t c → MayAccept ns m
    may_be_kept m first =
        may_follow (all_of s code ns rows taken) w f t c lf lt m (queue_at rows2 f t c ++ unpushed (slice_get ns f) f t c)
        (way m first) n there free

    pub was_kept : (m : Message) (ns2 : List Shown) → queue_at rows f t c ≡ m ∷ queue_at rows2 f t c → Accepts ns ns2 m
        → AreWhole (all_of s code ns2 rows2 taken) × Refills (all_of s code ns rows taken) (all_of s code ns2 rows2 taken) f t c
    was_kept m ns2 first x =
        let a : StillShown = all_of s code ns rows taken in
        let b : StillShown = all_of s code ns2 rows2 taken in
        let wire : (m.from ≡ f) × (m.to ≡ t) × (m.chan ≡ c) =
        on_its_way a w f t c lf lt m (queue_at rows2 f t c ++ unpushed (slice_get ns f) f t c) (way m first) in
        let may : MayAccept ns m = may_be_kept m first in
        let passes : Passes a b =
        follows_passes a b w f t c lf lt m (queue_at rows2 f t c) first wire may x others refl refl refl in (
          whole_after a b w passes (follows_count a b w f t c lf lt m (queue_at rows2 f t c) first wire may x others)
              (follows_places a b w f t c lf lt m (queue_at rows2 f t c) first wire may x others),
          follows a b w f t c lf lt m (queue_at rows2 f t c) first wire may x others refl refl refl,
        )

    -- nothing follows
    pub stayed : None ≡ slice_get (queue_at rows f t c) 0 → queue_at rows f t c ≡ queue_at rows2 f t c →
        (rows2 ≡ rows) × Refills (all_of s code ns rows taken) (all_of s code ns rows taken) f t c
    stayed first same = (
      others ∙ ap (λ (ms : List Message). with_queue rows f t c ms) (sym same)
          ∙ ap (λ (r : List (List Message)). slice_set rows f r) (set-get_or (slice_index_or rows f []) (place t c) [])
          ∙ set-get_or rows f [],
      nothing_moves (all_of s code ns rows taken) f t c (λ x is none. no_first (queue_at rows f t c) first),
    )

-- ---- the tests of a node

pub tests_read : (a : StillShown) (w : AreWhole a) (j k : ℕ) (n : Shown) (word : ℕ) → k < a.setup.shape.nodes → j ≡ k →
    n ≡ get_or a.nodes j n → truths (2 + 2 * n.setup.shape.nodes) word ≡ node_tests n → word < 2 ^ (2 + 2 * n.setup.shape.nodes)
    → IsWordAt a k word
tests_read a w j k n word l at is tests small =
    let there : slice_get a.nodes k ≡ Some n = node_seen a.nodes j k n at (in_nodes a w k l) is in
    let setup : n.setup ≡ a.setup = (is_node a w k n there).setup in
    record {
      tests =
          λ x here. sym (ap (λ (z : Setup). truths (2 + 2 * z.shape.nodes) word) setup) ∙ tests
          ∙ ap (λ (y : Shown). node_tests y) (same_Some n x (sym there ∙ here));
      small = subst (λ (z : Setup). word < 2 ^ (2 + 2 * z.shape.nodes)) setup small;
    }

pub hands_count : (ns ns2 : List Shown) (k : ℕ) → HandsOver ns ns2 k → length ns2 ≡ length ns
hands_count ns ns2 k h =
    count_same h.between ns2 h.message.to h.accepts.new h.accepts.now ∙ count_same ns h.between k h.pops.new h.pops.now

pub pops_count : (ns ns2 : List Shown) (k : ℕ) (m : Message) → Pops ns ns2 k m → length ns2 ≡ length ns
pops_count ns ns2 k m p = count_same ns ns2 k p.new p.now

-- ---- what is seen of the message that has waited longest

-- It is the first of node k, and r says whether nothing that was handed over of its wire is on its way.
pub record Seen (s : Setup) (ns : List Shown) (rows : Rows) (k : ℕ) (m : Message) (r : Bool) : Type 0 where
  pub node : k < s.shape.nodes
  pub first : IsFirstOut ns k m
  pub clear : IsTrue r ↔ IsClear ns rows k m.to m.chan

pub seen : (s : Setup) (code : Code) (ns : List Shown) (rows : Rows) (taken : List Entry) (a : StillShown) (k : ℕ)
    (m : Message) (r : Bool) (ns1 ns2 : List Shown) (rows2 : Rows) → all_of s code ns rows taken ≡ a → k < a.setup.shape.nodes
    → ns1 ≡ ns → IsFirstOut ns1 k m → ns2 ≡ ns → rows2 ≡ rows → IsTrue r ↔ IsClear ns2 rows2 k m.to m.chan → Seen s ns rows k m r
seen s code ns rows taken a k m r ns1 ns2 rows2 is lk e1 o e2 e3 iff = record {
  node = subst (λ (x : StillShown). k < x.setup.shape.nodes) (sym is) lk;
  first = subst (λ (xs : List Shown). IsFirstOut xs k m) e1 o;
  clear =
      subst (λ (xs : List Shown). IsTrue r ↔ IsClear xs rows k m.to m.chan) e2
      (subst (λ (rs : Rows). IsTrue r ↔ IsClear ns2 rs k m.to m.chan) e3 iff);
}

pub accepts_count : (ns ns2 : List Shown) (m : Message) → Accepts ns ns2 m → length ns2 ≡ length ns
accepts_count ns ns2 m x = count_same ns ns2 m.to x.new x.now

-- ---- what is seen of what follows first on a wire

none_kept : (o : Option Message) → false ≡ is_some o → o ≡ None
none_kept None h = refl
none_kept (Some m) h = absurd cc

-- The receiver n keeps nothing of the wire, and r was taken out of what follows.
pub record FollowsFirst (s : Setup) (ns : List Shown) (rows rows2 : Rows) (f t : ℕ) (c : Chan) (n : Shown)
    (r : Option Message) : Type 0 where
  pub from : f < s.shape.nodes
  pub to : t < s.shape.nodes
  pub there : slice_get ns t ≡ Some n
  pub free : front_at n f c ≡ None
  pub first : r ≡ slice_get (queue_at rows f t c) 0
  pub popped : queue_at rows f t c ≡ option_to_list r ++ queue_at rows2 f t c
  pub others : rows2 ≡ with_queue rows f t c (queue_at rows2 f t c)

pub followed : (s : Setup) (code : Code) (ns : List Shown) (rows : Rows) (taken : List Entry)
    (w : AreWhole (all_of s code ns rows taken)) (a : StillShown) (f t : ℕ) (c : Chan) (j : ℕ) (n : Shown) (r : Option Message)
    (rows1 rows2 : Rows) → all_of s code ns rows taken ≡ a
    → f < a.setup.shape.nodes → t < a.setup.shape.nodes → j ≡ t → n ≡ get_or ns j n → false ≡ is_some (front_at n f c) →
    rows1 ≡ rows → r ≡ slice_get (queue_at rows1 f t c) 0 → queue_at rows1 f t c ≡ option_to_list r ++ queue_at rows2 f t c
    → rows2 ≡ with_queue rows1 f t c (queue_at rows2 f t c) → FollowsFirst s ns rows rows2 f t c n r
followed s code ns rows taken w a f t c j n r rows1 rows2 is lf lt at read none e first popped others =
    let to : t < s.shape.nodes = subst (λ (x : StillShown). t < x.setup.shape.nodes) (sym is) lt in
    record {
      from = subst (λ (x : StillShown). f < x.setup.shape.nodes) (sym is) lf;
      to = to;
      there = node_seen ns j t n at (in_nodes (all_of s code ns rows taken) w t to) read;
      free = none_kept (front_at n f c) none;
      first = subst (λ (rs : Rows). r ≡ slice_get (queue_at rs f t c) 0) e first;
      popped = subst (λ (rs : Rows). queue_at rs f t c ≡ option_to_list r ++ queue_at rows2 f t c) e popped;
      others = subst (λ (rs : Rows). rows2 ≡ with_queue rs f t c (queue_at rows2 f t c)) e others;
    }

-- there was one
pub next_is : (xs ys : List Message) (r : Option Message) (m : Message) → xs ≡ option_to_list r ++ ys → r ≡ Some m → xs ≡ m ∷ ys
next_is xs ys r m popped is = popped ∙ ap (λ (o : Option Message). option_to_list o ++ ys) is

-- there was none
pub none_is : (xs ys : List Message) (r : Option Message) → xs ≡ option_to_list r ++ ys → r ≡ None → xs ≡ ys
none_is xs ys r popped is = popped ∙ ap (λ (o : Option Message). option_to_list o ++ ys) is

-- ---- the parts are written back

module _ (s : Setup) (code : Code) (nodes : Vec Shown) (rows : Vec (List (List Message))) (taken : List Entry)
    (w : AreWhole (all_of s code nodes.items rows.items taken)) (f t : ℕ) (c : Chan) (n : Shown) (r : Option Message)
    (rows1 rows2 : Rows) (x : FollowsFirst s nodes.items rows.items rows2 f t c n r) (many : length rows1 ≡ rows.len)
    (is : rows1 ≡ rows.items) where
  rows_back : (with_items rows rows2).items ≡ rows2
  rows_back =
      with_items_is rows rows2
      (ap (λ (rs : Rows). length rs) x.others ∙ rows_count rows.items f t c (queue_at rows2 f t c)
      ∙ ap (λ (rs : Rows). length rs) (sym is) ∙ many)

  -- what followed was kept
  pub kept_back : (m : Message) (ns1 ns2 : List Shown) → r ≡ Some m → length ns1 ≡ nodes.len → ns1 ≡ nodes.items →
      Accepts ns1 ns2 m →
      AreWhole (all_of s code (with_items nodes ns2).items (with_items rows rows2).items taken)
      × Refills (all_of s code nodes.items rows.items taken)
      (all_of s code (with_items nodes ns2).items (with_items rows rows2).items taken) f t c
  kept_back m ns1 ns2 some size same accepts =
      let first : queue_at rows.items f t c ≡ m ∷ queue_at rows2 f t c =
      next_is (queue_at rows.items f t c) (queue_at rows2 f t c) r m x.popped some in
      let back : (with_items nodes ns2).items ≡ ns2 = with_items_is nodes ns2 (accepts_count ns1 ns2 m accepts ∙ size) in
      let done =
      was_kept s code nodes.items rows.items taken w f t c x.from x.to n x.there x.free rows2 x.others m ns2 first
      (subst (λ (ns : List Shown). Accepts ns ns2 m) same accepts) in (
        subst (λ (ns : List Shown). AreWhole (all_of s code ns (with_items rows rows2).items taken)) (sym back)
            (subst (λ (rs : Rows). AreWhole (all_of s code ns2 rs taken)) (sym rows_back) done.0),
        subst (λ (ns : List Shown). Refills (all_of s code nodes.items rows.items taken)
            (all_of s code ns (with_items rows rows2).items taken) f t c) (sym back)
            (subst (λ (rs : Rows). Refills (all_of s code nodes.items rows.items taken) (all_of s code ns2 rs taken) f t c)
            (sym rows_back) done.1),
      )

  -- nothing followed
  pub stayed_back : r ≡ None →
      AreWhole (all_of s code nodes.items (with_items rows rows2).items taken)
      × Refills (all_of s code nodes.items rows.items taken)
      (all_of s code nodes.items (with_items rows rows2).items taken) f t c
  stayed_back none =
      let done =
      stayed s code nodes.items rows.items taken w f t c x.from x.to n x.there x.free rows2 x.others (sym none ∙ x.first)
      (none_is (queue_at rows.items f t c) (queue_at rows2 f t c) r x.popped none) in
      let back : (with_items rows rows2).items ≡ rows.items = rows_back ∙ done.0 in (
        subst (λ (rs : Rows). AreWhole (all_of s code nodes.items rs taken)) (sym back) w,
        subst (λ (rs : Rows). Refills (all_of s code nodes.items rows.items taken) (all_of s code nodes.items rs taken) f t c)
            (sym back) done.1,
      )
