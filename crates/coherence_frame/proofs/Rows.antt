-- What a protocol has to show of its table over the sketch, row by row. All else that coherence asks follows.
use Rattle.std.proofs.Common.{◌≡◌, ◌≢◌, ℕ, ◌+◌, ◌*◌, ◌-◌, ◌<◌, ◌≤◌, Bool, true, false, List, [], ◌∷◌, length, Option, Some}
use Rattle.std.proofs.Common.{None, ◌⊎◌}
use Rattle.tw_base.specs.declared.message.Chan.TheVariants.{One}
use Rattle.tw_base.specs.declared.value.Tag.TheVariants.{Invalid, ReadWrite}
use Rattle.block_tags.specs.Copies.{permits}
use Rattle.dsm_runs.specs.Events.{mode_after}
use Rattle.dsm_runs.specs.declared.mode.Mode.TheVariants.{Blocked, Woken}
use Rattle.block_spots.specs.Cases.{Kind, RdFault, WrFault, GetRo, GetRw, Inv, Recall, RecallRo, State, HomeRw, HomeRo}
use Rattle.block_spots.specs.Cases.{HomeExcl, HomeAcks, HomePut, CacheInv, CacheWaitRo, CacheWaitRw, Rest, NoRest, OfHome}
use Rattle.block_spots.specs.Cases.{OfLoad, OfCache, OfRo, OfRw, Message, Here, No, Effect, Table}
use Rattle.block_spots.specs.Notes.{Note, Spot, note, held_home, owes}
use Rattle.block_spots.specs.Sketches.{Layout, Local, Next, Loads, Stores, fault}
use Rattle.block_spots.proofs.Noted.{AllFrom, AllOf}
use Rattle.coherence_frame.specs.Words.{IsCacheNode, IsCacheState, IsGet, IsSettled, IsWaiting, allows_load, current_in}
use Rattle.coherence_frame.specs.Words.{owner_words, tag_of}
use Rattle.coherence_frame.specs.Coherent.{AtBlock, AtCache, AtHome, AtNode, Standing}
use Rattle.coherence_frame.specs.Weights.{price, weigh}
use Rattle.coherence_frame.proofs.Loads.{outgoing}
use Rattle.coherence_frame.proofs.Nodes.{FaultOf, HomeEffect, OwnEffect}
use Rattle.coherence_frame.proofs.Paying.{Paid}
use Rattle.coherence_frame.proofs.Sends.{AllBelow, AllOn, AllPast, CacheSends}
use Rattle.coherence_frame.proofs.Turning.{AnswerTurn, CacheTurn, OwnSame, OwnTurn, RequestTurn}

-- a handler that meets no error
abbrev pub IsAnswered : Option Effect → Type 0
IsAnswered None = ⊥
IsAnswered (Some e) = Unit {0}

-- ---- what is sent

-- an order of the home to a cache, which answers its sender
abbrev pub IsOrder : Kind → Type 0
IsOrder Inv = Unit {0}
IsOrder Recall = Unit {0}
IsOrder RecallRo = Unit {0}
IsOrder _ = ⊥

pub record Sends (t : Table) (w : Standing) : Type 0 where
  pub of_block : (n h i : ℕ) (here : Here) (m : Message) (e : Effect) → t n h i here m ≡ Some e → AllOf m.block e.sends
  pub from_node : (n h i : ℕ) (here : Here) (m : Message) (e : Effect) → t n h i here m ≡ Some e → AllFrom i e.sends
  -- a home sends on channel 1 alone, past itself, to nodes of the setup
  pub home_on_one : (n h : ℕ) (home : Here) (s : Spot) (m : Message) (e : Effect) → AtHome w n h home s →
      t n h h home m ≡ Some e → AllOn One e.sends
  pub home_past : (n h : ℕ) (home : Here) (s : Spot) (m : Message) (e : Effect) → AtHome w n h home s →
      (m.kind ≡ GetRo → m.from ≢ h) → (m.kind ≡ GetRw → m.from ≢ h) → t n h h home m ≡ Some e → AllPast h e.sends
  pub home_below : (n h : ℕ) (home : Here) (s : Spot) (m : Message) (e : Effect) → AtHome w n h home s → m.from < n →
      t n h h home m ≡ Some e → AllBelow n e.sends
  -- a cache sends to the home, and defers nothing
  pub cache_sends : (n h i : ℕ) (here : Here) (m : Message) (e : Effect) → IsCacheState here.state → t n h i here m ≡ Some e →
      (IsOrder m.kind → m.from ≡ h) → CacheSends h e
  -- no row both defers its message and frees the deferred ones
  pub never_both : (n h i : ℕ) (here : Here) (m : Message) (e : Effect) → t n h i here m ≡ Some e →
      (e.kept ≡ No) ⊎ (e.freed ≡ false)
  -- a row leads to a settled state only by making all eligible, or from a settled state with nothing deferred
  pub settled_effect : (n h : ℕ) (home : Here) (m : Message) (e : Effect) → t n h h home m ≡ Some e → IsSettled e.here.state →
      (e.freed ≡ true) ⊎ IsSettled home.state × (e.kept ≡ No)

-- ---- what the words of the protocol say in any case

-- of the directory
abbrev pub SomeInfos : ℕ → ℕ → State → Here → Type 0
SomeInfos n h HomeRw home = Unit {0}
SomeInfos n h HomeRo home = (k : ℕ) → home.sharers k ≡ true → IsCacheNode n h k
SomeInfos n h HomeAcks home = 1 ≤ home.acks
SomeInfos n h HomeExcl home = IsCacheNode n h home.owner
SomeInfos n h HomePut home = IsCacheNode n h home.owner
SomeInfos n h _ home = ⊥

-- whose request a rest of the home serves
abbrev pub IsServed : ℕ → ℕ → Rest → Type 0
IsServed n h OfHome = Unit {0}
IsServed n h OfLoad = Unit {0}
IsServed n h (OfRo a) = IsCacheNode n h a
IsServed n h (OfRw a) = IsCacheNode n h a
IsServed n h _ = ⊥

-- of the continuation
abbrev pub SomeRest : ℕ → ℕ → State → Rest → Type 0
SomeRest n h HomeAcks r = IsServed n h r
SomeRest n h HomePut r = IsServed n h r
SomeRest n h CacheWaitRo r = r ≡ OfCache
SomeRest n h CacheWaitRw r = r ≡ OfCache
SomeRest n h _ r = r ≡ NoRest

pub record Says (w : Standing) : Type 0 where
  pub infos : (n h : ℕ) (home : Here) (st : State) → w.Infos n h st home → SomeInfos n h st home
  pub rests : (n h : ℕ) (st : State) (r : Rest) → w.RestFits n h st r → SomeRest n h st r
  pub held_is_access : (st : State) (r : Rest) (x : Next) (b : ℕ) → w.HeldFor st r x b → (x ≡ Loads b) ⊎ (x ≡ Stores b)
  -- the start
  pub start_cache : (n h : ℕ) (home : Here) (i : ℕ) (s : Spot) → home.state ≡ HomeRw → home.rest ≡ NoRest →
      s.state ≡ CacheInv → s.tag ≡ Invalid → s.rest ≡ NoRest → s.ask ≡ [] → s.kept ≡ [] → s.down ≡ [] → s.up ≡ [] →
      AtCache w n h home i s
  pub start_home : (n h : ℕ) (home : Here) (s : Spot) → home.state ≡ HomeRw → home.tag ≡ ReadWrite → home.rest ≡ NoRest →
      ((k : ℕ) → home.sharers k ≡ false) → s.ask ≡ [] → s.kept ≡ [] → s.down ≡ [] → s.up ≡ [] → AtHome w n h home s
  -- no fault is on channel 1
  pub no_fault_down : (n h : ℕ) (home : Here) (i : ℕ) (s : Spot) (m : Message) (xs : List Note) → AtCache w n h home i s →
      s.down ≡ note m ∷ xs → (m.kind ≢ RdFault) × (m.kind ≢ WrFault)
  pub no_fault_up : (n h : ℕ) (home : Here) (i : ℕ) (s : Spot) (m : Message) (xs : List Note) → AtCache w n h home i s →
      s.up ≡ note m ∷ xs → (m.kind ≢ RdFault) × (m.kind ≢ WrFault)
  -- what a cache may read are the block's words, and what one wrote that may write
  pub read_at_cache : (n h : ℕ) (home : Here) (i : ℕ) (s owner : Spot) (cur : List ℕ) → AtCache w n h home i s →
      allows_load s.tag → (i ≡ home.owner → owner ≡ s) → current_in home.state home.words owner ≡ cur → s.words ≡ cur
  pub stored_words : (n h : ℕ) (home : Here) (i : ℕ) (s : Spot) (spots2 : ℕ → Spot) (vs : List ℕ) → AtCache w n h home i s →
      s.tag ≡ ReadWrite → spots2 i ≡ record s { words = vs } → current_in home.state home.words (spots2 home.owner) ≡ vs
  -- where nothing is in flight: the home waits for no owner, an owner may read, and nobody waits for a settled home
  pub gives_nothing : (n h : ℕ) (home : Here) (i : ℕ) (s : Spot) → AtCache w n h home i s → home.state ≡ HomePut →
      i ≡ home.owner → s.down ≡ [] → s.up ≡ [] → ⊥
  pub owner_reads : (n h : ℕ) (home : Here) (s : Spot) → AtCache w n h home home.owner s → home.state ≡ HomeExcl →
      s.down ≡ [] → allows_load s.tag
  pub not_waiting : (n h : ℕ) (home : Here) (i : ℕ) (s own : Spot) → AtCache w n h home i s → AtHome w n h home own →
      IsSettled home.state → s.ask ≡ [] → s.kept ≡ [] → s.down ≡ [] → IsWaiting s.state → ⊥

-- ---- the turns

-- a handling at the home keeps what is said of the block
pub record AtTheHome (t : Table) (w : Standing) : Type 0 where
  pub request_turn : (n h i : ℕ) (cur : List ℕ) (home : Here) (m : Message) (e : Effect) (spots spots2 : ℕ → Spot) →
      AtBlock w n h cur home spots → i < n → i ≢ h → t n h h home m ≡ Some e → RequestTurn h i m e spots spots2 →
      (m.kind ≡ GetRo) ⊎ (m.kind ≡ GetRw) → AtBlock w n h cur e.here spots2
  pub answer_turn : (n h i : ℕ) (cur : List ℕ) (home : Here) (m : Message) (e : Effect) (spots spots2 : ℕ → Spot) →
      AtBlock w n h cur home spots → i < n → i ≢ h → t n h h home m ≡ Some e → AnswerTurn h i m e spots spots2 →
      AtBlock w n h cur e.here spots2
  pub own_turn : (n h : ℕ) (cur : List ℕ) (home : Here) (m : Message) (e : Effect) (spots spots2 : ℕ → Spot) →
      AtBlock w n h cur home spots → t n h h home m ≡ Some e → OwnTurn h home m e spots spots2 →
      (m.kind ≡ RdFault) ⊎ (m.kind ≡ WrFault) → AtBlock w n h cur e.here spots2
  pub home_store : (n h : ℕ) (cur : List ℕ) (home home2 : Here) (spots spots2 : ℕ → Spot) → AtBlock w n h cur home spots →
      (vs : List ℕ) → home.tag ≡ ReadWrite → home2 ≡ record home { words = vs } → ((j : ℕ) → j ≢ h → spots2 j ≡ spots j) →
      OwnSame (spots h) (spots2 h) → AtBlock w n h vs home2 spots2
  -- and what is said of its node
  pub home_effect : (n h : ℕ) (home : Here) (s : Spot) (m : Message) (e : Effect) → AtHome w n h home s →
      t n h h home m ≡ Some e → m.kind ≢ RdFault → m.kind ≢ WrFault → HomeEffect w home e
  pub own_effect : (n h : ℕ) (home : Here) (s : Spot) (m : Message) (e : Effect) (b : ℕ) → AtHome w n h home s →
      t n h h home m ≡ Some e → (m.kind ≡ RdFault) ⊎ (m.kind ≡ WrFault) → held_home home.rest ≡ 0 → home.state ≢ HomeRw →
      OwnEffect w m e b
  -- it meets no error
  pub home_answers_get : (n h : ℕ) (home : Here) (s : Spot) (m : Message) → AtHome w n h home s → IsGet (note m) →
      IsAnswered (t n h h home m)
  pub home_answers_answer : (n h f : ℕ) (home : Here) (s own : Spot) (m : Message) (xs : List Note) → AtHome w n h home own →
      AtCache w n h home f s → s.up ≡ note m ∷ xs → IsAnswered (t n h h home m)
  pub home_answers_fault : (n h : ℕ) (home : Here) (own : Spot) (m : Message) → AtHome w n h home own → home.state ≢ HomeRw →
      (m.kind ≡ RdFault) ⊎ (m.kind ≡ WrFault) → IsAnswered (t n h h home m)
  -- the message pays; v are the stale ones before
  pub paid_at_home : (n h : ℕ) (home : Here) (s : Spot) (m : Message) (e : Effect) (v : ℕ) → h < n → AtHome w n h home s →
      t n h h home m ≡ Some e → v + 1 ≤ n → Paid n home m e v

-- a handling at a cache keeps what is said of the cache
pub record AtACache (t : Table) (w : Standing) : Type 0 where
  pub message_comes : (n h i : ℕ) (home here : Here) (m : Message) (e : Effect) (s s2 : Spot) (down : List Note) →
      AtCache w n h home i s → s.state ≡ here.state → s.tag ≡ here.tag → s.rest ≡ here.rest → s.words ≡ here.words →
      t n h i here m ≡ Some e → CacheTurn h i m e s s2 down → m.from ≡ h → s.down ≡ note m ∷ down →
      AtCache w n h home i s2 × (owes s2 ≡ owes s)
  pub fault_at : (n h i : ℕ) (home here : Here) (m : Message) (e : Effect) (s s2 : Spot) (down : List Note) →
      AtCache w n h home i s → s.state ≡ here.state → s.tag ≡ here.tag → s.rest ≡ here.rest → s.words ≡ here.words →
      t n h i here m ≡ Some e → CacheTurn h i m e s s2 down → (m.kind ≡ RdFault) ⊎ (m.kind ≡ WrFault) → s.down ≡ down →
      AtCache w n h home i s2 × (owes s2 ≡ owes s)
  pub words_kept : (n h i : ℕ) (home here : Here) (m : Message) (e : Effect) (s s2 : Spot) (down : List Note) →
      AtCache w n h home i s → s.state ≡ here.state → s.tag ≡ here.tag → s.rest ≡ here.rest → s.words ≡ here.words →
      t n h i here m ≡ Some e → CacheTurn h i m e s s2 down → (home.state ≡ HomeExcl) ⊎ (home.state ≡ HomePut) →
      i ≡ home.owner → m.from ≡ h → s.down ≡ note m ∷ down → owner_words s2 ≡ owner_words s
  pub words_faulted : (n h i : ℕ) (home here : Here) (m : Message) (e : Effect) (s s2 : Spot) (down : List Note) →
      AtCache w n h home i s → s.state ≡ here.state → s.tag ≡ here.tag → s.rest ≡ here.rest → s.words ≡ here.words →
      t n h i here m ≡ Some e → CacheTurn h i m e s s2 down → (home.state ≡ HomeExcl) ⊎ (home.state ≡ HomePut) →
      i ≡ home.owner → (m.kind ≡ RdFault) ⊎ (m.kind ≡ WrFault) → s.down ≡ down → owner_words s2 ≡ owner_words s
  pub store_at_owner : (n h : ℕ) (home : Here) (i : ℕ) (s s2 : Spot) (rest : List Note) → AtCache w n h home i s →
      (vs : List ℕ) → s.tag ≡ ReadWrite → s2 ≡ record s { words = vs } → AtCache w n h home i s2 × (owes s2 ≡ owes s)
  -- and what is said of its node
  pub node_message : (s : Layout) (l l2 : Local) (i b : ℕ) (m : Message) (e : Effect) → AtNode w s l i b → i ≢ s.home b →
      t s.nodes (s.home b) i (l.blocks b) m ≡ Some e → l2.blocks b ≡ e.here → l2.mode ≡ mode_after e.woke b l.mode →
      l2.next ≡ l.next → (l.may ≡ false → l2.may ≡ false) → (l.mode ≡ Woken → l.may ≡ false) →
      IsCacheState (l.blocks b).state → m.kind ≢ RdFault → m.kind ≢ WrFault → AtNode w s l2 i b
  pub node_cache_fault : (s : Layout) (l l2 : Local) (i b : ℕ) (m : Message) (e : Effect) → i ≢ s.home b →
      t s.nodes (s.home b) i (l.blocks b) m ≡ Some e → IsCacheState (l.blocks b).state → l2.blocks b ≡ e.here →
      l2.mode ≡ mode_after e.woke b l.mode → l2.next ≡ l.next → l.mode ≡ Blocked b → FaultOf b m.kind l.next → AtNode w s l2 i b
  -- it meets no error
  pub cache_answers : (n h : ℕ) (home here : Here) (i : ℕ) (s : Spot) (m : Message) (xs : List Note) → AtCache w n h home i s →
      s.state ≡ here.state → s.down ≡ note m ∷ xs → IsAnswered (t n h i here m)
  pub cache_answers_fault : (n h i b : ℕ) (here : Here) (store : Bool) → IsCacheState here.state →
      here.tag ≡ tag_of here.state → here.state ≢ CacheWaitRo → here.state ≢ CacheWaitRw → permits here.tag store ≡ false →
      IsAnswered (t n h i here (fault store b i))
  -- the message pays, and a fault leaves one request
  pub paid_at_cache : (n h i : ℕ) (here : Here) (m : Message) (e : Effect) → IsCacheState here.state → m.kind ≢ RdFault →
      m.kind ≢ WrFault → t n h i here m ≡ Some e → (1 + outgoing (weigh n) e.sends ≤ weigh n (note m))
      × (length e.sends + outgoing (price n) e.sends ≤ price n (note m))
  pub fault_at_cache : (n h i : ℕ) (here : Here) (m : Message) (e : Effect) → 1 ≤ n → IsCacheState here.state →
      (m.kind ≡ RdFault) ⊎ (m.kind ≡ WrFault) → t n h i here m ≡ Some e →
      (outgoing (weigh n) e.sends ≤ 3 * n - 1) × (length e.sends + outgoing (price n) e.sends ≤ 2 * n)

-- ---- a protocol over the sketch

pub record Plan : Type 1 where
  pub table : Table
  pub words : Standing
  pub sends : Sends table words
  pub says : Says words
  pub home : AtTheHome table words
  pub cache : AtACache table words
