-- Where Stache_D and Stache_L have a state as Stache has it.
use Rattle.std.proofs.Common.{◌≡◌, ◌≢◌, refl}
use Rattle.stache_check.specs.Words.{state_by, state_by_d, state_by_l}
use Rattle.stache_check.specs.declared.protocol.Place.{Place}
use Rattle.stache_check.specs.declared.protocol.Place.TheVariants.{HomeRw, HomeRo, HomeExcl, HomeAcks, HomePut, CacheInv}
use Rattle.stache_check.specs.declared.protocol.Place.TheVariants.{CacheRo, CacheRw, CacheWaitRo, CacheWaitRw}

pub same_elsewhere : (p : Place) → p ≢ HomeExcl → p ≢ HomePut → p ≢ CacheRw → state_by_d p ≡ state_by p
same_elsewhere HomeRw e f g = refl
same_elsewhere HomeRo e f g = refl
same_elsewhere HomeExcl e f g = absurd (e refl)
same_elsewhere HomeAcks e f g = refl
same_elsewhere HomePut e f g = absurd (f refl)
same_elsewhere CacheInv e f g = refl
same_elsewhere CacheRo e f g = refl
same_elsewhere CacheRw e f g = absurd (g refl)
same_elsewhere CacheWaitRo e f g = refl
same_elsewhere CacheWaitRw e f g = refl

pub same_but_home_ro : (p : Place) → p ≢ HomeRo → state_by_l p ≡ state_by p
same_but_home_ro HomeRw e = refl
same_but_home_ro HomeRo e = absurd (e refl)
same_but_home_ro HomeExcl e = refl
same_but_home_ro HomeAcks e = refl
same_but_home_ro HomePut e = refl
same_but_home_ro CacheInv e = refl
same_but_home_ro CacheRo e = refl
same_but_home_ro CacheRw e = refl
same_but_home_ro CacheWaitRo e = refl
same_but_home_ro CacheWaitRw e = refl
