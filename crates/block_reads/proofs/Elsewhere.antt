-- Where Stache_D leaves to be done what Stache does.
use Rattle.std.proofs.Common.{◌≡◌, ◌≢◌, refl}
use Rattle.block_spots.specs.Cases.{Rest}
use Rattle.stache_check.specs.declared.protocol.Place.{Place}
use Rattle.stache_check.specs.declared.protocol.Place.TheVariants.{HomeRw, HomeRo, HomeExcl, HomeAcks, HomePut, CacheInv}
use Rattle.stache_check.specs.declared.protocol.Place.TheVariants.{CacheRo, CacheRw, CacheWaitRo, CacheWaitRw}
use Rattle.stache_table.specs.Blocks.{rest_at}
use Rattle.stache_d_table.specs.Blocks as table_d
use Rattle.block_reads.specs.Whose.{state_in}

pub rest_elsewhere : (p : Place) (r : Rest) → p ≢ HomePut → table_d.rest_at (state_in p) r ≡ rest_at (state_in p) r
rest_elsewhere HomeRw r e = refl
rest_elsewhere HomeRo r e = refl
rest_elsewhere HomeExcl r e = refl
rest_elsewhere HomeAcks r e = refl
rest_elsewhere HomePut r e = absurd (e refl)
rest_elsewhere CacheInv r e = refl
rest_elsewhere CacheRo r e = refl
rest_elsewhere CacheRw r e = refl
rest_elsewhere CacheWaitRo r e = refl
rest_elsewhere CacheWaitRw r e = refl
