-- The parts of coherence, put together: for the words of any protocol, and then by the protocol.
use Rattle.std.proofs.Common.{◌≡◌, ◌≢◌, ◌<◌, ◌≤◌, ◌+◌, ℕ, Bool, true, [], None, refl}
use Rattle.std.specs.Bool.{Decides}
use Rattle.tw_base.specs.Lists.{Each, how_many, sum_below}
use Rattle.tw_base.specs.declared.message.Chan.{Chan}
use Rattle.tw_base.specs.declared.message.Chan.TheVariants.{Zero, One}
use Rattle.dsm_runs.specs.declared.mode.Mode.TheVariants as mode
use Rattle.dsm_runs.specs.Setups.{Setup, home_of}
use Rattle.dsm_runs.specs.Worlds.{World}
use Rattle.block_spots.specs.Cases.{CacheWaitRo, CacheWaitRw, Here, HomeAcks}
use Rattle.block_spots.specs.Notes.{Spot, gets_ro, gets_rw, held_home, held_ro, held_rw, is_data_ro, is_data_rw, kept_notes}
use Rattle.block_spots.specs.Notes.{notes, owes}
use Rattle.block_spots.specs.Sketches.{Layout, Loads, Local, Stores, spot_at}
use Rattle.block_spots.specs.Views.{layout}
use Rattle.coherence_frame.specs.Coherent.{AtNode, Standing}
use Rattle.coherence_frame.specs.Parts as frame
use Rattle.coherence_frame.specs.Parts.{IsTreeOf, Wording, home_seen}
use Rattle.coherence_frame.specs.Words.{AllEligible, IsCacheState, IsGet, IsHomeState, IsSettled, IsWaiting, OneRequest}
use Rattle.coherence_frame.specs.Words.{allows_load, allows_store, own_rd, own_wr, tag_of}
use Rattle.coherence_inv.specs.Parts as parts
use Rattle.coherence_inv.specs.Parts.{EachCache, First, Second, Third, Fourth, Fifth, Sixth, Seventh, seen, spots_seen}
use Rattle.stache_d_inv.specs.Parts as parts_d
use Rattle.stache_l_inv.specs.Parts as parts_l
use Rattle.block_reads.specs.Tables.{IsProtocol}
use Rattle.coherence_reads.specs.Directories.{InfosUnder, RestFitsUnder}
use Rattle.coherence_reads.specs.Seeing.{OwnPlaces, OwnRequests}
use Rattle.stache_check.specs.declared.directory.Directory.{Directory}
use Rattle.stache_check.specs.declared.directory.Directory.TheVariants.{Stache, StacheD, StacheL}
use Rattle.coherence_check.specs.Nodes.{CacheAt, HasNone, NodeAt}
use Rattle.coherence_check.specs.Owing.{AcksFit}
use Rattle.coherence_check.specs.Under.{PartUnder, home_under, spots_under}
use Rattle.coherence_check.proofs.Deciding.{on_both}

-- each cache of block b, each node, and what is asked of one
abbrev AllCaches : Setup → ℕ → (ℕ → Type 0) → Type 0
AllCaches s b P = EachCache s.shape.nodes (home_of s b) P

abbrev AllNodes : Setup → (ℕ → Type 0) → Type 0
AllNodes s P = (i : ℕ) → i < s.shape.nodes → P i

abbrev HasTag : Spot → Type 0
HasTag x = IsCacheState x.state × (x.tag ≡ tag_of x.state)

abbrev HasRest : Wording → ℕ → ℕ → Spot → Type 0
HasRest o n h x = o.standing.RestFits n h x.state x.rest

abbrev HasNotes : Wording → ℕ → Spot → Type 0
HasNotes o w x = Each IsGet x.ask × Each IsGet x.kept × Each (o.IsDown w) x.down × Each (o.IsUp w) x.up

abbrev HasOne : Here → ℕ → Spot → Type 0
HasOne home i x =
    OneRequest x.state (gets_ro x + held_ro home.rest i) (how_many is_data_ro x.down) (gets_rw x + held_rw home.rest i)
    (how_many is_data_rw x.down)

abbrev IsOwed : Setup → Here → (ℕ → Spot) → Type 0
IsOwed s home spots = home.state ≡ HomeAcks → home.acks ≡ sum_below s.shape.nodes (λ j. owes (spots j))

abbrev StandsSo : Wording → Here → ℕ → Spot → Type 0
StandsSo o home i x =
    o.standing.Stands home.state home i x (gets_ro x + held_ro home.rest i) (gets_rw x + held_rw home.rest i)

first_in : (o : Wording) (s : Setup) (g : World) (b : ℕ) (r : Bool) →
    Decides r (
    IsTreeOf o s.protocol
    × ((IsHomeState (home_seen o s g b).state × ((home_seen o s g b).tag ≡ tag_of (home_seen o s g b).state))
    × (AllNodes s (λ i. (g.locals i).failed ≡ None) × AllCaches s b (λ i. HasTag (frame.spots_seen o s g b i))))
    ) →
    Decides r (frame.Part o s g b First)
first_in o s g b r h = (
  λ y. let p = h.0 y in record {
    stache = p.0;
    unfailed = p.1.1.0;
    home_state = p.1.0.0;
    home_tag = p.1.0.1;
    caches = p.1.1.1;
  },
  λ a. h.1 (a.stache, ((a.home_state, a.home_tag), (a.unfailed, a.caches))),
)

pub first : (d : Directory) (s : Setup) (g : World) (b : ℕ) (r : Bool) →
    Decides r (
    IsProtocol d s.protocol
    × ((IsHomeState (home_under d s g b).state × ((home_under d s g b).tag ≡ tag_of (home_under d s g b).state))
    × (((i : ℕ) → i < s.shape.nodes → NodeAt d First s g b i)
    × EachCache s.shape.nodes (home_of s b) (CacheAt d First s g b)))
    ) →
    Decides r (PartUnder d s g b First)
first Stache = first_in parts.wording
first StacheD = first_in parts_d.wording
first StacheL = first_in parts_l.wording

second_in : (o : Wording) (s : Setup) (g : World) (b : ℕ) (r : Bool) →
    Decides r (
    o.standing.RestFits s.shape.nodes (home_of s b) (home_seen o s g b).state (home_seen o s g b).rest
    × (AllNodes s (λ i. o.IsPlaced ((g.locals i).blocks b))
    × AllCaches s b (λ i. HasRest o s.shape.nodes (home_of s b) (frame.spots_seen o s g b i)))
    ) →
    Decides r (frame.Part o s g b Second)
second_in o s g b r h = (
  λ y. let p = h.0 y in record { placed = p.1.0; of_home = p.0; of_caches = p.1.1 },
  λ a. h.1 (a.of_home, (a.placed, a.of_caches)),
)

pub second : (d : Directory) (s : Setup) (g : World) (b : ℕ) (r : Bool) →
    Decides r (
    RestFitsUnder d s.shape.nodes (home_of s b) (home_under d s g b).state (home_under d s g b).rest
    × (((i : ℕ) → i < s.shape.nodes → NodeAt d Second s g b i)
    × EachCache s.shape.nodes (home_of s b) (CacheAt d Second s g b))
    ) →
    Decides r (PartUnder d s g b Second)
second Stache = second_in parts.wording
second StacheD = second_in parts_d.wording
second StacheL = second_in parts_l.wording

third_in : (o : Wording) (s : Setup) (g : World) (b : ℕ) (r : Bool) →
    Decides r (
    ((j : ℕ) → s.shape.nodes ≤ j → kept_notes b j ((seen s g).locals (home_of s b)).deferred ≡ [])
    × (OwnPlaces (frame.spots_seen o s g b (home_of s b))
    × (AllNodes s (λ i. i ≢ home_of s b → HasNone s g b i)
    × AllCaches s b (λ i. HasNotes o s.shape.words (frame.spots_seen o s g b i))))
    ) →
    Decides r (frame.Part o s g b Third)
third_in o s g b r h = (
  λ y.
      let p = h.0 y in
      let others = p.1.1.0 in (
        record { caches = p.1.1.1; own = p.1.0 },
        record {
          between = λ f t k lf lt df dt.
              on_both (λ (z : Chan). notes b ((seen s g).wires f t z) ≡ []) ((others f lf df).0 t lt dt).0
              ((others f lf df).0 t lt dt).1 k;
          from_home = λ t lt dt. (others t lt dt).1;
          deferred = λ k j lk dk. (others k lk dk).2 j;
          strangers = p.0;
        },
      ),
  λ a. h.1 (
    a.1.strangers,
    (
      a.0.own,
      (
        λ f lf df. (
          λ t lt dt. (a.1.between f t Zero lf lt df dt, a.1.between f t One lf lt df dt),
          a.1.from_home f lf df,
          λ j. a.1.deferred f j lf df,
        ),
        a.0.caches,
      ),
    ),
  ),
)

pub third : (d : Directory) (s : Setup) (g : World) (b : ℕ) (r : Bool) →
    Decides r (
    ((j : ℕ) → s.shape.nodes ≤ j → kept_notes b j ((seen s g).locals (home_of s b)).deferred ≡ [])
    × (OwnPlaces (spots_under d s g b (home_of s b))
    × (((i : ℕ) → i < s.shape.nodes → NodeAt d Third s g b i)
    × EachCache s.shape.nodes (home_of s b) (CacheAt d Third s g b)))
    ) →
    Decides r (PartUnder d s g b Third)
third Stache = third_in parts.wording
third StacheD = third_in parts_d.wording
third StacheL = third_in parts_l.wording

fourth_in : (o : Wording) (s : Setup) (g : World) (b : ℕ) (r : Bool) →
    Decides r (
    OwnRequests (home_seen o s g b) (frame.spots_seen o s g b (home_of s b))
    × (AllNodes s (λ i. AtNode o.standing (layout s) ((frame.seen o s g).locals i) i b)
    × AllCaches s b (λ i. HasOne (home_seen o s g b) i (frame.spots_seen o s g b i)))
    ) →
    Decides r (frame.Part o s g b Fourth)
fourth_in o s g b r h = (
  λ y. let p = h.0 y in (record { caches = p.1.1; own = p.0.0; none = p.0.1 }, p.1.0),
  λ a. h.1 ((a.0.own, a.0.none), (a.1, a.0.caches)),
)

pub fourth : (d : Directory) (s : Setup) (g : World) (b : ℕ) (r : Bool) →
    Decides r (
    OwnRequests (home_under d s g b) (spots_under d s g b (home_of s b))
    × (((i : ℕ) → i < s.shape.nodes → NodeAt d Fourth s g b i)
    × EachCache s.shape.nodes (home_of s b) (CacheAt d Fourth s g b))
    ) →
    Decides r (PartUnder d s g b Fourth)
fourth Stache = fourth_in parts.wording
fourth StacheD = fourth_in parts_d.wording
fourth StacheL = fourth_in parts_l.wording

fifth_in : (o : Wording) (s : Setup) (g : World) (b : ℕ) (r : Bool) →
    Decides r (
    o.standing.Infos s.shape.nodes (home_of s b) (home_seen o s g b).state (home_seen o s g b)
    × (IsOwed s (home_seen o s g b) (frame.spots_seen o s g b)
    × AllCaches s b (λ i. StandsSo o (home_seen o s g b) i (frame.spots_seen o s g b i)))
    ) →
    Decides r (frame.Part o s g b Fifth)
fifth_in o s g b r h = (
  λ y. let p = h.0 y in record { infos = p.0; caches = p.1.1; acks = p.1.0 },
  λ a. h.1 (a.infos, (a.acks, a.caches)),
)

pub fifth : (d : Directory) (s : Setup) (g : World) (b : ℕ) (r : Bool) →
    Decides r (
    InfosUnder d s.shape.nodes (home_of s b) (home_under d s g b).state (home_under d s g b)
    × (AcksFit d s g b × EachCache s.shape.nodes (home_of s b) (CacheAt d Fifth s g b))
    ) →
    Decides r (PartUnder d s g b Fifth)
fifth Stache = fifth_in parts.wording
fifth StacheD = fifth_in parts_d.wording
fifth StacheL = fifth_in parts_l.wording

pub sixth : (d : Directory) (s : Setup) (g : World) (b : ℕ) (r : Bool) →
    Decides r (EachCache s.shape.nodes (home_of s b) (CacheAt d Sixth s g b)) →
    Decides r (PartUnder d s g b Sixth)
sixth Stache s g b r h = (
  λ y. let p = h.0 y in record { held = λ i l e. (p i l e).0; coming = λ i l e. (p i l e).1 },
  λ a. h.1 (λ i l e. (a.held i l e, a.coming i l e, tt)),
)
sixth StacheD s g b r h = (
  λ y. let p = h.0 y in record { held = λ i l e. (p i l e).0; coming = λ i l e. (p i l e).1; answered = λ i l e. (p i l e).2 },
  λ a. h.1 (λ i l e. (a.held i l e, a.coming i l e, a.answered i l e)),
)
sixth StacheL s g b r h = (
  λ y. let p = h.0 y in record { held = λ i l e. (p i l e).0; coming = λ i l e. (p i l e).1 },
  λ a. h.1 (λ i l e. (a.held i l e, a.coming i l e, tt)),
)

pub seventh : (d : Directory) (s : Setup) (g : World) (b : ℕ) (r : Bool) →
    Decides r (IsSettled (home_under d s g b).state → AllEligible b ((seen s g).locals (home_of s b)).deferred) →
    Decides r (PartUnder d s g b Seventh)
seventh Stache s g b r h = h
seventh StacheD s g b r h = h
seventh StacheL s g b r h = h

-- ---- one node

-- what part 4 asks of a node, one after the other, where the home's next instruction is so while its continuation is of its
-- own fault
abbrev pub Waits : Standing → Layout → Local → ℕ → ℕ → Type 0
Waits w s l i b =
    (i ≢ s.home b → (l.blocks b).state ≡ CacheWaitRo → (l.mode ≡ mode.Blocked b) × (l.next ≡ Loads b))
    × ((i ≢ s.home b → (l.blocks b).state ≡ CacheWaitRw → (l.mode ≡ mode.Blocked b) × (l.next ≡ Stores b))
    × ((i ≢ s.home b → l.mode ≡ mode.Blocked b → IsWaiting (l.blocks b).state)
    × ((i ≡ s.home b → 1 ≤ own_rd l i b → (l.mode ≡ mode.Blocked b) × (l.next ≡ Loads b))
    × ((i ≡ s.home b → 1 ≤ own_wr l i b → (l.mode ≡ mode.Blocked b) × (l.next ≡ Stores b))
    × ((i ≡ s.home b → 1 ≤ held_home (l.blocks b).rest →
    (l.mode ≡ mode.Blocked b) × w.HeldFor (l.blocks b).state (l.blocks b).rest l.next b)
    × ((i ≡ s.home b → l.mode ≡ mode.Blocked b → own_rd l i b + own_wr l i b + held_home (l.blocks b).rest ≡ 1)
    × ((l.mode ≡ mode.Woken → l.may ≡ true → l.next ≡ Loads b → allows_load (l.blocks b).tag)
    × (l.mode ≡ mode.Woken → l.may ≡ true → l.next ≡ Stores b → allows_store (l.blocks b).tag))))))))

pub at_node : (w : Standing) (s : Layout) (l : Local) (i b : ℕ) (r : Bool) →
    Decides r (Waits w s l i b) → Decides r (AtNode w s l i b)
at_node w s l i b r h = (
  λ y. let p = h.0 y in record {
    waits_ro = p.0;
    waits_rw = p.1.0;
    blocked = p.1.1.0;
    rd = p.1.1.1.0;
    wr = p.1.1.1.1.0;
    held = p.1.1.1.1.1.0;
    blocked_home = p.1.1.1.1.1.1.0;
    woken_loads = p.1.1.1.1.1.1.1.0;
    woken_stores = p.1.1.1.1.1.1.1.1;
  },
  λ a. h.1 (a.waits_ro, (a.waits_rw, (a.blocked, (a.rd, (a.wr, (a.held, (a.blocked_home, (a.woken_loads, a.woken_stores)))))))),
)

-- ---- what is owed is seen alike under each protocol

pub owed_alike : (d : Directory) (s : Setup) (g : World) (b n : ℕ) →
    sum_below n (λ j. owes (spots_under d s g b j)) ≡ sum_below n (λ j. owes (spots_seen s g b j))
unfolding spot_at
owed_alike d s g b n = refl

-- a count that is compared, where it is known that it matters
pub counts_so : (r : Bool) (a b m n : ℕ) (P : Type 0) → Decides r (a ≡ b) → P → a ≡ m → b ≡ n → Decides r (P → m ≡ n)
counts_so r a b m n P d p i j = (λ y q. let e = d.0 y in cc, λ f. d.1 (let e = f p in cc))
