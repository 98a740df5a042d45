-- How much each message of a block, and its home's rest, leave to be done.
use Rattle.std.specs.Prelude.{ℕ, ◌+◌, ◌-◌, ◌*◌, ◌&&◌, not, nat_eq}
use Rattle.tw_base.specs.Lists.{how_many, one_if}
use Rattle.block_spots.specs.Cases.{Rest, NoRest, OfCache}
use Rattle.block_spots.specs.Notes.{Note, NRdFault, NWrFault, NGetRo, NGetRw, NInv, NAck, NRecall, NRecallRo, NDataRo, NDataRw}
use Rattle.block_spots.specs.Notes.{NPut, NPutRo, Spot, Waiting}

-- ---- handler events to come

abbrev pub weigh : ℕ → Note → ℕ
weigh n NRdFault = 3 * n - 1
weigh n NWrFault = 3 * n - 1
weigh n NGetRo = 3 * n - 1
weigh n NGetRw = 3 * n - 1
weigh n NInv = 2
weigh n NRecall = 2
weigh n NRecallRo = 2
weigh n NAck = 1
weigh n (NDataRo ws) = 1
weigh n (NDataRw ws) = 1
weigh n (NPut ws) = 1
weigh n (NPutRo ws) = 1

-- sends to come
abbrev pub price : ℕ → Note → ℕ
price n NRdFault = 2 * n - 1
price n NWrFault = 2 * n - 1
price n NGetRo = 2 * n - 1
price n NGetRw = 2 * n - 1
price n NInv = 1
price n NRecall = 1
price n NRecallRo = 1
price n _ = 0

-- of a home's rest: this weight, 0 where it has none
abbrev pub rest_weight : ℕ → Rest → ℕ
rest_weight w NoRest = 0
rest_weight w OfCache = 0
rest_weight w r = w

abbrev pub at_spot : (Note → ℕ) → Spot → ℕ
at_spot f s = how_many f s.ask + how_many f s.kept + how_many f s.down + how_many f s.up

-- the stale deferred messages of b: each weighs one less
abbrev pub is_stale_of : ℕ → Waiting → ℕ
is_stale_of b w = one_if (nat_eq w.message.block b && not w.eligible)
