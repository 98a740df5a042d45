-- What coherence says of a cache and of the home at any of their states.
use Rattle.std.proofs.Common.{◌≡◌, ◌≢◌, ℕ, List, [], ◌∷◌, arith, refl, inl, inr, ◌⊎◌, false}
use Rattle.block_spots.specs.Cases.{RdFault, WrFault, Message, Here, State, HomeRo, HomeExcl, HomeAcks, HomePut, CacheRo}
use Rattle.block_spots.specs.Cases.{CacheRw, HomeRw, CacheWaitRo, CacheWaitRw, CacheInv, NoRest, Rest, OfLoad}
use Rattle.block_spots.specs.Notes.{Note, note, Spot}
use Rattle.block_spots.specs.Sketches.{Next, Loads, Stores}
use Rattle.stache_d_inv.specs.Coherent.{AtCache, AtHome, IsSettled, allows_load, current_in, IsWaiting, Infos, HeldFor}
use Rattle.stache_d_inv.specs.Coherent.{RestFits, standing}
use Rattle.tw_base.specs.declared.value.Tag.TheVariants.{Invalid, ReadWrite}
use Rattle.coherence_frame.proofs.Rows.{Says, SomeInfos, SomeRest}

pub no_fault_down : (n h : ℕ) (home : Here) (i : ℕ) (sp : Spot) (m : Message) (xs : List Note) → AtCache n h home i sp →
    sp.down ≡ note m ∷ xs → (m.kind ≢ RdFault) × (m.kind ≢ WrFault)
no_fault_down n h home i sp m xs a e = ((λ q. grind arith), (λ q. grind arith))

pub no_fault_up : (n h : ℕ) (home : Here) (i : ℕ) (sp : Spot) (m : Message) (xs : List Note) → AtCache n h home i sp →
    sp.up ≡ note m ∷ xs → (m.kind ≢ RdFault) × (m.kind ≢ WrFault)
no_fault_up n h home i sp m xs a e = ((λ q. grind arith), (λ q. grind arith))

-- what a tag lets a node read is the block's current words
read_at_cache : (n h : ℕ) (home : Here) (i : ℕ) (sp owner : Spot) (cur : List ℕ) → AtCache n h home i sp → allows_load sp.tag →
    (i ≡ home.owner → owner ≡ sp) → current_in home.state home.words owner ≡ cur → sp.words ≡ cur
read_at_cache n h home i sp owner cur a t o c = go home.state refl sp.state refl
  where
    go : (x : State) → home.state ≡ x → (y : State) → sp.state ≡ y → sp.words ≡ cur
    go HomeRo p CacheRo q = grind arith
    go HomeAcks p CacheRo q = grind arith
    go HomeExcl p CacheRw q = let w : i ≡ home.owner = grind arith in let v : owner ≡ sp = o w in grind arith
    go HomePut p CacheRo q = let w : i ≡ home.owner = grind arith in let v : owner ≡ sp = o w in grind arith
    go HomePut p CacheRw q = let w : i ≡ home.owner = grind arith in let v : owner ≡ sp = o w in grind arith
    go x p y q = absurd (grind arith)

-- a cache that may write is the owner
pub stored_words : (n h : ℕ) (home : Here) (i : ℕ) (sp : Spot) (spots2 : ℕ → Spot) (vs : List ℕ) → AtCache n h home i sp →
    sp.tag ≡ ReadWrite → spots2 i ≡ record sp { words = vs } → current_in home.state home.words (spots2 home.owner) ≡ vs
stored_words n h home i sp spots2 vs a t e = let o : home.owner ≡ i = grind arith in rw o (grind arith)

gives_nothing : (n h : ℕ) (home : Here) (i : ℕ) (s : Spot) → AtCache n h home i s → home.state ≡ HomePut → i ≡ home.owner →
    s.down ≡ [] → s.up ≡ [] → ⊥
gives_nothing n h home i s a p o d u = grind arith

not_waiting : (n h : ℕ) (home : Here) (i : ℕ) (s hs : Spot) → AtCache n h home i s → AtHome n h home hs →
    IsSettled home.state → s.ask ≡ [] → s.kept ≡ [] → s.down ≡ [] → IsWaiting s.state → ⊥
not_waiting n h home i s hs a c p x y z w = go s.state refl
  where
    go : (st : State) → s.state ≡ st → ⊥
    go CacheWaitRo q = grind arith
    go CacheWaitRw q = grind arith
    go st q = grind arith

-- ---- readers

-- a home that gave its block away has an owner that may read
owner_reads : (n h : ℕ) (home : Here) (sp : Spot) → AtCache n h home home.owner sp → home.state ≡ HomeExcl → sp.down ≡ [] →
    allows_load sp.tag
owner_reads n h home sp a e d = grind arith

start_cache : (n h : ℕ) (home : Here) (i : ℕ) (sp : Spot) → home.state ≡ HomeRw → home.rest ≡ NoRest → sp.state ≡ CacheInv →
    sp.tag ≡ Invalid → sp.rest ≡ NoRest → sp.ask ≡ [] → sp.kept ≡ [] → sp.down ≡ [] → sp.up ≡ [] → AtCache n h home i sp
start_cache n h home i sp a b c d e f u v w = grind arith

start_home : (n h : ℕ) (home : Here) (sp : Spot) → home.state ≡ HomeRw → home.tag ≡ ReadWrite → home.rest ≡ NoRest →
    ((k : ℕ) → home.sharers k ≡ false) → sp.ask ≡ [] → sp.kept ≡ [] → sp.down ≡ [] → sp.up ≡ [] → AtHome n h home sp
start_home n h home sp a b c d f u v w = grind arith

some_infos : (n h : ℕ) (home : Here) (st : State) → Infos n h st home → SomeInfos n h st home
some_infos n h home HomeRw i = tt
some_infos n h home HomeRo i = i.0
some_infos n h home HomeAcks i = i.1
some_infos n h home HomeExcl i = i.1
some_infos n h home HomePut i = i.1
some_infos n h home st i = absurd (grind arith)

some_rest : (n h : ℕ) (st : State) (r : Rest) → RestFits n h st r → SomeRest n h st r
some_rest n h HomeAcks r f = grind arith
some_rest n h HomePut r f = grind arith
some_rest n h CacheWaitRo r f = f
some_rest n h CacheWaitRw r f = f
some_rest n h HomeRw r f = f
some_rest n h HomeRo r f = f
some_rest n h HomeExcl r f = f
some_rest n h CacheInv r f = f
some_rest n h CacheRo r f = f
some_rest n h CacheRw r f = f

held_is_access : (st : State) (r : Rest) (x : Next) (b : ℕ) → HeldFor r x b → (x ≡ Loads b) ⊎ (x ≡ Stores b)
held_is_access st OfLoad x b h = inl h
held_is_access st _ x b h = inr h

pub says : Says standing
says = record {
  infos = some_infos;
  rests = some_rest;
  held_is_access = held_is_access;
  start_cache = start_cache;
  start_home = start_home;
  no_fault_down = no_fault_down;
  no_fault_up = no_fault_up;
  read_at_cache = read_at_cache;
  stored_words = stored_words;
  gives_nothing = gives_nothing;
  owner_reads = owner_reads;
  not_waiting = not_waiting;
}
