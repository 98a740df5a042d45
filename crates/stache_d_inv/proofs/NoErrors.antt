-- In a coherent state no handler meets an error: the rows.
use Rattle.std.proofs.Common.{Bool, false, ◌≡◌, ◌≢◌, ℕ, true, List, ◌∷◌, arith, refl, ◌⊎◌}
use Rattle.std.proofs.lemmas.Bool.Decides.{nat_tests}
use Rattle.block_spots.specs.Cases.{Kind, RdFault, WrFault, DataRo, DataRw, Put, Inv, Ack, Recall, RecallRo, PutRo, State}
use Rattle.block_spots.specs.Cases.{HomeRw, HomeRo, HomeExcl, HomeAcks, HomePut, CacheInv, CacheRo, CacheRw, CacheWaitRo}
use Rattle.block_spots.specs.Cases.{CacheWaitRw, Rest, Here, Message}
use Rattle.block_spots.specs.Notes.{Note, note, Spot}
use Rattle.block_spots.specs.Sketches.{fault}
use Rattle.block_tags.specs.Copies.{permits}
use Rattle.stache_d_inv.specs.Coherent.{AtCache, AtHome, IsGet, IsCacheState, RestFits, tag_of}
use Rattle.stache_d_table.specs.Handling.{handle_by}
use Rattle.coherence_frame.proofs.Rows.{IsAnswered}

pub cache_answers : (n h : ℕ) (home here : Here) (i : ℕ) (sp : Spot) (m : Message) (xs : List Note) → AtCache n h home i sp →
    sp.state ≡ here.state → sp.down ≡ note m ∷ xs → IsAnswered (handle_by here.state n h i here m)
cache_answers n h home here i sp m xs a st d = go here.state refl m.kind refl
  where
    go : (x : State) → here.state ≡ x → (k : Kind) → m.kind ≡ k → IsAnswered (handle_by here.state n h i here m)
    go CacheRo p Inv q = grind arith
    go CacheRw p Recall q = grind arith
    go CacheRw p RecallRo q = grind arith
    go CacheWaitRo p DataRo q = grind arith
    go CacheWaitRw p DataRw q = grind arith
    go CacheWaitRw p Inv q = grind arith
    go x p k q = absurd (grind arith)

pub home_answers_get : (n h : ℕ) (home : Here) (sp : Spot) (m : Message) → AtHome n h home sp → IsGet (note m) →
    IsAnswered (handle_by home.state n h h home m)
home_answers_get n h home sp m a g = go home.state refl
  where
    go : (x : State) → home.state ≡ x → IsAnswered (handle_by home.state n h h home m)
    go HomeRw p = grind (arith, nat_tests)
    go HomeRo p = grind (arith, nat_tests)
    go HomeExcl p = grind (arith, nat_tests)
    go HomeAcks p = grind (arith, nat_tests)
    go HomePut p = grind (arith, nat_tests)
    go x p = absurd (grind arith)

pub home_answers_answer : (n h f : ℕ) (home : Here) (sp own : Spot) (m : Message) (xs : List Note) → AtHome n h home own →
    AtCache n h home f sp → sp.up ≡ note m ∷ xs → IsAnswered (handle_by home.state n h h home m)
home_answers_answer n h f home sp own m xs a c u = go home.state refl m.kind refl home.rest refl a.rest
  where
    go : (x : State) → home.state ≡ x → (k : Kind) → m.kind ≡ k → (r : Rest) → home.rest ≡ r →
        RestFits n h home.state home.rest → IsAnswered (handle_by home.state n h h home m)
    go HomeAcks p Ack q r z w = grind (arith, nat_tests)
    go HomePut p Put q r z w = grind (arith, nat_tests)
    go HomePut p PutRo q r z w = grind (arith, nat_tests)
    go x p k q r z w = absurd (grind arith)

pub cache_answers_fault : (n h i b : ℕ) (here : Here) (store : Bool) → IsCacheState here.state → here.tag ≡ tag_of here.state →
    here.state ≢ CacheWaitRo → here.state ≢ CacheWaitRw → permits here.tag store ≡ false →
    IsAnswered (handle_by here.state n h i here (fault store b i))
cache_answers_fault n h i b here store cs tg u w v = go here.state refl store refl
  where
    go : (x : State) → here.state ≡ x → (y : Bool) → store ≡ y → IsAnswered (handle_by here.state n h i here (fault store b i))
    go CacheInv p true q = grind arith
    go CacheInv p false q = grind arith
    go CacheRo p true q = grind arith
    go CacheWaitRo p y q = absurd (u p)
    go CacheWaitRw p y q = absurd (w p)
    go x p y q = absurd (grind arith)

pub home_answers_fault : (n h : ℕ) (home : Here) (own : Spot) (m : Message) → AtHome n h home own → home.state ≢ HomeRw →
    (m.kind ≡ RdFault) ⊎ (m.kind ≡ WrFault) → IsAnswered (handle_by home.state n h h home m)
home_answers_fault n h home own m a d v = go home.state refl v
  where
    go : (x : State) → home.state ≡ x → (m.kind ≡ RdFault) ⊎ (m.kind ≡ WrFault) → IsAnswered (handle_by home.state n h h home m)
    go HomeRw p v = absurd (d p)
    go HomeRo p v = grind arith
    go HomeExcl p v = grind arith
    go HomeAcks p v = grind arith
    go HomePut p v = grind arith
    go x p v = absurd (grind arith)
