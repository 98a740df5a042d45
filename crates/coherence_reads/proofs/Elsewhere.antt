-- Where Stache_D and Stache_L are as Stache is.
use Rattle.std.proofs.Common.{◌≢◌, ℕ, Bool, refl}
use Rattle.std.specs.Bool.{Decides}
use Rattle.block_spots.specs.Cases.{Here, Rest}
use Rattle.block_spots.specs.Notes.{Spot}
use Rattle.stache_check.specs.declared.protocol.Place.{Place}
use Rattle.stache_check.specs.declared.protocol.Place.TheVariants.{HomeRw, HomeRo, HomeExcl, HomeAcks, HomePut, CacheInv}
use Rattle.stache_check.specs.declared.protocol.Place.TheVariants.{CacheRo, CacheRw, CacheWaitRo, CacheWaitRw}
use Rattle.coherence_inv.specs.Coherent.{Infos, RestFits, Stands}
use Rattle.stache_d_inv.specs.Coherent as words_d
use Rattle.stache_l_inv.specs.Coherent as words_l
use Rattle.block_reads.specs.Whose.{state_in}

pub fits_elsewhere : (p : Place) (r : Rest) (n h : ℕ) (b : Bool) → p ≢ HomePut → Decides b (RestFits n h (state_in p) r) →
    Decides b (words_d.RestFits n h (state_in p) r)
fits_elsewhere HomeRw r n h b e d = d
fits_elsewhere HomeRo r n h b e d = d
fits_elsewhere HomeExcl r n h b e d = d
fits_elsewhere HomeAcks r n h b e d = d
fits_elsewhere HomePut r n h b e d = absurd (e refl)
fits_elsewhere CacheInv r n h b e d = d
fits_elsewhere CacheRo r n h b e d = d
fits_elsewhere CacheRw r n h b e d = d
fits_elsewhere CacheWaitRo r n h b e d = d
fits_elsewhere CacheWaitRw r n h b e d = d

pub fits_but_acks : (p : Place) (r : Rest) (n h : ℕ) (b : Bool) → p ≢ HomeAcks → Decides b (RestFits n h (state_in p) r) →
    Decides b (words_l.RestFits n h (state_in p) r)
fits_but_acks HomeRw r n h b e d = d
fits_but_acks HomeRo r n h b e d = d
fits_but_acks HomeExcl r n h b e d = d
fits_but_acks HomeAcks r n h b e d = absurd (e refl)
fits_but_acks HomePut r n h b e d = d
fits_but_acks CacheInv r n h b e d = d
fits_but_acks CacheRo r n h b e d = d
fits_but_acks CacheRw r n h b e d = d
fits_but_acks CacheWaitRo r n h b e d = d
fits_but_acks CacheWaitRw r n h b e d = d

pub stands_elsewhere : (p : Place) (h : Here) (i : ℕ) (s : Spot) (ro wr : ℕ) (b : Bool) → p ≢ HomePut →
    Decides b (Stands (state_in p) h i s ro wr) → Decides b (words_d.Stands (state_in p) h i s ro wr)
stands_elsewhere HomeRw h i s ro wr b e d = d
stands_elsewhere HomeRo h i s ro wr b e d = d
stands_elsewhere HomeExcl h i s ro wr b e d = d
stands_elsewhere HomeAcks h i s ro wr b e d = d
stands_elsewhere HomePut h i s ro wr b e d = absurd (e refl)
stands_elsewhere CacheInv h i s ro wr b e d = d
stands_elsewhere CacheRo h i s ro wr b e d = d
stands_elsewhere CacheRw h i s ro wr b e d = d
stands_elsewhere CacheWaitRo h i s ro wr b e d = d
stands_elsewhere CacheWaitRw h i s ro wr b e d = d

pub stands_but_acks : (p : Place) (h : Here) (i : ℕ) (s : Spot) (ro wr : ℕ) (b : Bool) → p ≢ HomeAcks →
    Decides b (Stands (state_in p) h i s ro wr) → Decides b (words_l.Stands (state_in p) h i s ro wr)
stands_but_acks HomeRw h i s ro wr b e d = d
stands_but_acks HomeRo h i s ro wr b e d = d
stands_but_acks HomeExcl h i s ro wr b e d = d
stands_but_acks HomeAcks h i s ro wr b e d = absurd (e refl)
stands_but_acks HomePut h i s ro wr b e d = d
stands_but_acks CacheInv h i s ro wr b e d = d
stands_but_acks CacheRo h i s ro wr b e d = d
stands_but_acks CacheRw h i s ro wr b e d = d
stands_but_acks CacheWaitRo h i s ro wr b e d = d
stands_but_acks CacheWaitRw h i s ro wr b e d = d

pub infos_elsewhere : (p : Place) (n h : ℕ) (x : Here) (b : Bool) → p ≢ HomeRo → p ≢ HomeAcks →
    Decides b (Infos n h (state_in p) x) → Decides b (words_l.Infos n h (state_in p) x)
infos_elsewhere HomeRw n h x b e f d = d
infos_elsewhere HomeRo n h x b e f d = absurd (e refl)
infos_elsewhere HomeExcl n h x b e f d = d
infos_elsewhere HomeAcks n h x b e f d = absurd (f refl)
infos_elsewhere HomePut n h x b e f d = d
infos_elsewhere CacheInv n h x b e f d = d
infos_elsewhere CacheRo n h x b e f d = d
infos_elsewhere CacheRw n h x b e f d = d
infos_elsewhere CacheWaitRo n h x b e f d = d
infos_elsewhere CacheWaitRw n h x b e f d = d
