-- What the places and continuations that the decider tells stand for.
use Rattle.std.specs.Prelude.{ℕ, ◌≡◌, Option, Some, None}
use Rattle.block_spots.specs.Cases as cases
use Rattle.teapot_meaning.specs.declared.state.Cont.{Cont, out-Cont}
use Rattle.teapot_meaning.specs.declared.state.StateVal.{StateVal, out-StateVal}
use Rattle.stache_table.specs.Blocks.{left_of, number_of}
use Rattle.stache_table.specs.Runs.{cont_of, state_val}
use Rattle.block_spots.specs.Views.{state_numbered}
use Rattle.stache_l_table.specs.Blocks.{chosen_of, second_in}
use Rattle.block_reads.specs.Tables.{later_under, reads_under, rest_under, vars_under}
use Rattle.stache_check.specs.declared.directory.Directory.{Directory}
use Rattle.stache_check.specs.declared.protocol.Place.{Place}
use Rattle.stache_check.specs.declared.protocol.Place.TheVariants as pl
use Rattle.block_reads.specs.declared.whose.Whose.{Whose}
use Rattle.block_reads.specs.declared.whose.Whose.TheVariants as wh

abbrev pub state_in : Place → cases.State
state_in pl.HomeRw = cases.HomeRw
state_in pl.HomeRo = cases.HomeRo
state_in pl.HomeExcl = cases.HomeExcl
state_in pl.HomeAcks = cases.HomeAcks
state_in pl.HomePut = cases.HomePut
state_in pl.CacheInv = cases.CacheInv
state_in pl.CacheRo = cases.CacheRo
state_in pl.CacheRw = cases.CacheRw
state_in pl.CacheWaitRo = cases.CacheWaitRo
state_in pl.CacheWaitRw = cases.CacheWaitRw

abbrev pub rest_in : Whose → cases.Rest
rest_in wh.NoRest = cases.NoRest
rest_in wh.OfHome = cases.OfHome
rest_in wh.OfLoad = cases.OfLoad
rest_in (wh.OfRo a) = cases.OfRo a
rest_in (wh.OfRw a) = cases.OfRw a
rest_in wh.OfCache = cases.OfCache

-- what this state's handler saves for the node, restoring what this continuation restores
abbrev pub saved_at : Directory → cases.State → cases.Rest → ℕ → Cont → Cont
saved_at d s r node k =
    cont_of (record {
      rest = rest_under d s r;
      vars = vars_under d s r node (second_in (out-Cont k).vars);
      came = None;
      state = (out-StateVal (out-Cont k).saved).state;
    })

abbrev pub opt : {X Y : Type 0} → (X → Y) → Option X → Option Y
opt f (Some x) = Some (f x)
opt f None = None

-- what stands there is a place of the protocol, by its number
abbrev pub IsPlace : ℕ → Place → Type 0
IsPlace n p = (number_of (state_in p) ≡ n) × (state_in p ≡ state_numbered n)

-- a state with what its protocol saved there, as it is read
abbrev pub told_val : Directory → ℕ → StateVal → StateVal
told_val d me s =
    state_val (number_of (state_numbered (out-StateVal s).state))
    (later_under d me (state_numbered (out-StateVal s).state) (left_of (out-StateVal s).cont) (chosen_of (out-StateVal s).cont)
    (reads_under d (out-StateVal s).cont))
