-- The table of Stache_D and the meaning agree at each block and message.
use Rattle.std.proofs.Common.{◌≡◌, ℕ, ◌<◌, List, Bool, true, false, Option, Some, None, length, refl, sym, subst}
use Rattle.std.specs.Prelude.{nat_lt, slice_get}
use Rattle.tw_base.specs.declared.message.Message.{Message}
use Rattle.tw_base.specs.declared.value.Data.{Data}
use Rattle.tw_base.specs.declared.value.Tag.TheVariants.{Invalid, ReadOnly, ReadWrite}
use Rattle.tw_base.specs.declared.entry.End.{End}
use Rattle.teapot_meaning.specs.declared.state.Ended.{Ended}
use Rattle.teapot_meaning.specs.declared.state.Here.{Here}
use Rattle.teapot_meaning.specs.declared.state.StateVal.{out-roll-StateVal}
use Rattle.teapot_meaning.specs.Does.{Does, started, state_of, vars_of}
use Rattle.teapot_meaning.specs.Handlers.{handler_in}
use Rattle.teapot_meaning.specs.Goes.{Goes}
use Rattle.teapot_meaning.specs.Steps.{payload_of}
use Rattle.tw_base.specs.NodeSets.{count, without}
use Rattle.teapot_meaning.proofs.Ends.{same_end}
use Rattle.block_spots.specs.Cases as cases
use Rattle.block_spots.specs.Cases.{Effect, HomeRw, HomeRo, HomeExcl, HomeAcks, HomePut, CacheInv, CacheRo, CacheRw}
use Rattle.block_spots.specs.Cases.{CacheWaitRo, CacheWaitRw, NoRest, OfHome, OfLoad, OfRo, OfRw, OfCache}
use Rattle.stache_table.specs.Blocks.{Block, Door, LeftFits, handler_of, kind_of, number_of, seen, src, tag_at}
use Rattle.stache_d_table.specs.Blocks.{BlockFits, CarriesIf, RestFits, Row, Shows, ShowsIf, door_at, here_of, start, state_at}
use Rattle.stache_tree.specs.Code.{stmts_of}
use Rattle.stache_table.specs.Runs.{Run, play, real}
use Rattle.stache_d_tree.specs.Tree.{stache_d, states_d}
use Rattle.block_spots.specs.Views.{seen_message}
use Rattle.stache_d_table.specs.Handling.{handle_in}
use Rattle.stache_table.specs.Laws.{IsOwn}
use Rattle.stache_table.proofs.Plays.{played}
use Rattle.stache_table.proofs.Rows.{calm, holding}
use Rattle.stache_table.proofs.Table.{message_seen}
use Rattle.stache_d_table.proofs.Rows as row

at_home_rw : (b me home from : ℕ) (set : List Bool) (owner acks : ℕ) (d : Data) (k : cases.Kind) (came : Option Data) →
    length set ≡ 8 → IsOwn k from me → CarriesIf k came → Row b me home (calm HomeRw set owner acks ReadWrite d) k from came
unfolding states_d payload_of
at_home_rw b me home from set owner acks d cases.GetRo None eight small c =
    row.get_ro_at_home_rw b me home from set owner acks d eight small
at_home_rw b me home from set owner acks d cases.GetRo (Some w) eight small c = absurd c
at_home_rw b me home from set owner acks d cases.GetRw None eight small c =
    row.get_rw_at_home_rw b me home from set owner acks d eight small
at_home_rw b me home from set owner acks d cases.GetRw (Some w) eight small c = absurd c
at_home_rw b me home from set owner acks d _ came eight small c = λ to ch. (refl, refl, refl)

at_get_rw : (b me home from : ℕ) (set : List Bool) (owner acks : ℕ) (d : Data) (t : Bool) →
    nat_lt 0 (count (without set from)) ≡ t → length set ≡ 8 → from < 8 →
    Row b me home (calm HomeRo set owner acks ReadOnly d) cases.GetRw from None
at_get_rw b me home from set owner acks d true h eight small =
    row.get_rw_with_others b me home from set owner acks d h eight small
at_get_rw b me home from set owner acks d false h eight small = row.get_rw_alone b me home from set owner acks d h eight small

at_home_ro : (b me home from : ℕ) (set : List Bool) (owner acks : ℕ) (d : Data) (k : cases.Kind) (came : Option Data) →
    length set ≡ 8 → IsOwn k from me → CarriesIf k came → Row b me home (calm HomeRo set owner acks ReadOnly d) k from came
unfolding states_d payload_of
at_home_ro b me home from set owner acks d cases.RdFault None eight small c =
    subst (λ f. Row b me home (calm HomeRo set owner acks ReadOnly d) cases.RdFault f None) (sym small)
    (row.rd_fault_at_home_ro b me home set owner acks d eight)
at_home_ro b me home from set owner acks d cases.RdFault (Some w) eight small c = absurd c
at_home_ro b me home from set owner acks d cases.WrFault None eight small c =
    subst (λ f. Row b me home (calm HomeRo set owner acks ReadOnly d) cases.WrFault f None) (sym small)
    (row.wr_fault_at_home_ro b me home set owner acks d eight)
at_home_ro b me home from set owner acks d cases.WrFault (Some w) eight small c = absurd c
at_home_ro b me home from set owner acks d cases.GetRo None eight small c =
    row.get_ro_at_home_ro b me home from set owner acks d eight small
at_home_ro b me home from set owner acks d cases.GetRo (Some w) eight small c = absurd c
at_home_ro b me home from set owner acks d cases.GetRw None eight small c =
    at_get_rw b me home from set owner acks d _ refl eight small
at_home_ro b me home from set owner acks d cases.GetRw (Some w) eight small c = absurd c
at_home_ro b me home from set owner acks d _ came eight small c = λ to ch. (refl, refl, refl)

at_home_excl : (b me home from : ℕ) (set : List Bool) (owner acks : ℕ) (d : Data) (k : cases.Kind) (came : Option Data) →
    length set ≡ 8 → IsOwn k from me → CarriesIf k came → Row b me home (calm HomeExcl set owner acks Invalid d) k from came
unfolding states_d payload_of
at_home_excl b me home from set owner acks d cases.RdFault None eight small c =
    subst (λ f. Row b me home (calm HomeExcl set owner acks Invalid d) cases.RdFault f None) (sym small)
    (row.rd_fault_at_home_excl b me home set owner acks d eight)
at_home_excl b me home from set owner acks d cases.RdFault (Some w) eight small c = absurd c
at_home_excl b me home from set owner acks d cases.WrFault None eight small c =
    subst (λ f. Row b me home (calm HomeExcl set owner acks Invalid d) cases.WrFault f None) (sym small)
    (row.wr_fault_at_home_excl b me home set owner acks d eight)
at_home_excl b me home from set owner acks d cases.WrFault (Some w) eight small c = absurd c
at_home_excl b me home from set owner acks d cases.GetRo None eight small c =
    row.get_ro_at_home_excl b me home from set owner acks d eight small
at_home_excl b me home from set owner acks d cases.GetRo (Some w) eight small c = absurd c
at_home_excl b me home from set owner acks d cases.GetRw None eight small c =
    row.get_rw_at_home_excl b me home from set owner acks d eight small
at_home_excl b me home from set owner acks d cases.GetRw (Some w) eight small c = absurd c
at_home_excl b me home from set owner acks d _ came eight small c = λ to ch. (refl, refl, refl)

at_ack_home : (b me home from : ℕ) (set : List Bool) (owner acks : ℕ) (d : Data) (left : ℕ) (fit : left ≡ 1) (t : Bool) →
    nat_lt 1 acks ≡ t → length set ≡ 8 → from < 8 → Row b me home
    (holding HomeAcks OfHome left set owner acks ReadOnly d) cases.Ack from None
at_ack_home b me home from set owner acks d left fit true h eight small =
    row.more_acks_home b me home from set owner acks d left fit h eight small
at_ack_home b me home from set owner acks d left fit false h eight small =
    row.last_ack_home b me home from set owner acks d left h eight small

at_acks_home : (b me home from : ℕ) (set : List Bool) (owner acks : ℕ) (d : Data) (left : ℕ) (fit : left ≡ 1) (k : cases.Kind)
    (came : Option Data) → length set ≡ 8 → IsOwn k from me → CarriesIf k came →
    Row b me home (holding HomeAcks OfHome left set owner acks ReadOnly d) k from came
unfolding states_d payload_of
at_acks_home b me home from set owner acks d left fit cases.Ack None eight small c =
    at_ack_home b me home from set owner acks d left fit _ refl eight small
at_acks_home b me home from set owner acks d left fit cases.Ack (Some w) eight small c = absurd c
at_acks_home b me home from set owner acks d left fit _ came eight small c =
    λ to ch. (
      holding HomeAcks OfHome left set owner acks ReadOnly d,
      record {
        end = refl;
        here = refl;
        seen = refl;
        sends = refl;
        kept = refl;
        freed = refl;
        woke = refl;
        fits = record { rest = tt; left = fit; tag = refl; eight = eight };
      },
    )

at_ack_rw : (b me home from : ℕ) (set : List Bool) (owner acks : ℕ) (d : Data) (left : ℕ) (fit : left ≡ 1) (a : ℕ)
    (few : a < 8) (t : Bool) → nat_lt 1 acks ≡ t → length set ≡ 8 → from < 8 →
    Row b me home (holding HomeAcks (OfRw a) left set owner acks ReadOnly d) cases.Ack from None
at_ack_rw b me home from set owner acks d left fit a few true h eight small =
    row.more_acks_rw b me home from set owner acks d left fit a few h eight small
at_ack_rw b me home from set owner acks d left fit a few false h eight small =
    row.last_ack_rw b me home from set owner acks d left a h eight small

at_acks_rw : (b me home from : ℕ) (set : List Bool) (owner acks : ℕ) (d : Data) (left : ℕ) (fit : left ≡ 1) (a : ℕ)
    (few : a < 8) (k : cases.Kind) (came : Option Data) → length set ≡ 8 → IsOwn k from me → CarriesIf k came →
    Row b me home (holding HomeAcks (OfRw a) left set owner acks ReadOnly d) k from came
unfolding states_d payload_of
at_acks_rw b me home from set owner acks d left fit a few cases.Ack None eight small c =
    at_ack_rw b me home from set owner acks d left fit a few _ refl eight small
at_acks_rw b me home from set owner acks d left fit a few cases.Ack (Some w) eight small c = absurd c
at_acks_rw b me home from set owner acks d left fit a few _ came eight small c =
    λ to ch. (
      holding HomeAcks (OfRw a) left set owner acks ReadOnly d,
      record {
        end = refl;
        here = refl;
        seen = refl;
        sends = refl;
        kept = refl;
        freed = refl;
        woke = refl;
        fits = record { rest = few; left = fit; tag = refl; eight = eight };
      },
    )

at_put_store : (b me home from : ℕ) (set : List Bool) (owner acks : ℕ) (d : Data) (left : ℕ) (fit : left ≡ 2) (k : cases.Kind)
    (came : Option Data) → length set ≡ 8 → IsOwn k from me → CarriesIf k came →
    Row b me home (holding HomePut OfHome left set owner acks Invalid d) k from came
unfolding states_d payload_of
at_put_store b me home from set owner acks d left fit cases.Put (Some w) eight small c =
    row.put_for_store b me home from set owner acks d w left eight small
at_put_store b me home from set owner acks d left fit cases.Put None eight small c = absurd c
at_put_store b me home from set owner acks d left fit cases.PutRo (Some w) eight small c =
    row.put_ro_for_store b me home from set owner acks d w left eight small
at_put_store b me home from set owner acks d left fit cases.PutRo None eight small c = absurd c
at_put_store b me home from set owner acks d left fit _ came eight small c =
    λ to ch. (
      holding HomePut OfHome left set owner acks Invalid d,
      record {
        end = refl;
        here = refl;
        seen = refl;
        sends = refl;
        kept = refl;
        freed = refl;
        woke = refl;
        fits = record { rest = tt; left = fit; tag = refl; eight = eight };
      },
    )

at_put_load : (b me home from : ℕ) (set : List Bool) (owner acks : ℕ) (d : Data) (left : ℕ) (fit : left ≡ 2) (held : owner < 8)
    (k : cases.Kind) (came : Option Data) → length set ≡ 8 → IsOwn k from me → CarriesIf k came →
    Row b me home (holding HomePut OfLoad left set owner acks Invalid d) k from came
unfolding states_d payload_of
at_put_load b me home from set owner acks d left fit held cases.Put (Some w) eight small c =
    row.put_for_load b me home from set owner acks d w left held eight small
at_put_load b me home from set owner acks d left fit held cases.Put None eight small c = absurd c
at_put_load b me home from set owner acks d left fit held cases.PutRo (Some w) eight small c =
    row.put_ro_for_load b me home from set owner acks d w left held eight small
at_put_load b me home from set owner acks d left fit held cases.PutRo None eight small c = absurd c
at_put_load b me home from set owner acks d left fit held _ came eight small c =
    λ to ch. (
      holding HomePut OfLoad left set owner acks Invalid d,
      record {
        end = refl;
        here = refl;
        seen = refl;
        sends = refl;
        kept = refl;
        freed = refl;
        woke = refl;
        fits = record { rest = tt; left = fit; tag = refl; eight = eight };
      },
    )

at_put_ro : (b me home from : ℕ) (set : List Bool) (owner acks : ℕ) (d : Data) (left : ℕ) (fit : left ≡ 2) (a : ℕ)
    (few : a < 8) (held : owner < 8) (k : cases.Kind) (came : Option Data) → length set ≡ 8 → IsOwn k from me →
    CarriesIf k came → Row b me home (holding HomePut (OfRo a) left set owner acks Invalid d) k from came
unfolding states_d payload_of
at_put_ro b me home from set owner acks d left fit a few held cases.Put (Some w) eight small c =
    row.put_for_reader b me home from set owner acks d w left a few held eight small
at_put_ro b me home from set owner acks d left fit a few held cases.Put None eight small c = absurd c
at_put_ro b me home from set owner acks d left fit a few held cases.PutRo (Some w) eight small c =
    row.put_ro_for_reader b me home from set owner acks d w left a few held eight small
at_put_ro b me home from set owner acks d left fit a few held cases.PutRo None eight small c = absurd c
at_put_ro b me home from set owner acks d left fit a few held _ came eight small c =
    λ to ch. (
      holding HomePut (OfRo a) left set owner acks Invalid d,
      record {
        end = refl;
        here = refl;
        seen = refl;
        sends = refl;
        kept = refl;
        freed = refl;
        woke = refl;
        fits = record { rest = few; left = fit; tag = refl; eight = eight };
      },
    )

at_put_rw : (b me home from : ℕ) (set : List Bool) (owner acks : ℕ) (d : Data) (left : ℕ) (fit : left ≡ 2) (a : ℕ)
    (few : a < 8) (k : cases.Kind) (came : Option Data) → length set ≡ 8 → IsOwn k from me → CarriesIf k came →
    Row b me home (holding HomePut (OfRw a) left set owner acks Invalid d) k from came
unfolding states_d payload_of
at_put_rw b me home from set owner acks d left fit a few cases.Put (Some w) eight small c =
    row.put_for_writer b me home from set owner acks d w left a eight small
at_put_rw b me home from set owner acks d left fit a few cases.Put None eight small c = absurd c
at_put_rw b me home from set owner acks d left fit a few cases.PutRo (Some w) eight small c =
    row.put_ro_for_writer b me home from set owner acks d w left a eight small
at_put_rw b me home from set owner acks d left fit a few cases.PutRo None eight small c = absurd c
at_put_rw b me home from set owner acks d left fit a few _ came eight small c =
    λ to ch. (
      holding HomePut (OfRw a) left set owner acks Invalid d,
      record {
        end = refl;
        here = refl;
        seen = refl;
        sends = refl;
        kept = refl;
        freed = refl;
        woke = refl;
        fits = record { rest = few; left = fit; tag = refl; eight = eight };
      },
    )

at_cache_inv : (b me home from : ℕ) (set : List Bool) (owner acks : ℕ) (d : Data) (k : cases.Kind) (came : Option Data) →
    length set ≡ 8 → IsOwn k from me → CarriesIf k came → Row b me home (calm CacheInv set owner acks Invalid d) k from came
unfolding states_d payload_of
at_cache_inv b me home from set owner acks d cases.RdFault None eight small c =
    subst (λ f. Row b me home (calm CacheInv set owner acks Invalid d) cases.RdFault f None) (sym small)
    (row.rd_fault_at_cache_inv b me home set owner acks d eight)
at_cache_inv b me home from set owner acks d cases.RdFault (Some w) eight small c = absurd c
at_cache_inv b me home from set owner acks d cases.WrFault None eight small c =
    subst (λ f. Row b me home (calm CacheInv set owner acks Invalid d) cases.WrFault f None) (sym small)
    (row.wr_fault_at_cache_inv b me home set owner acks d eight)
at_cache_inv b me home from set owner acks d cases.WrFault (Some w) eight small c = absurd c
at_cache_inv b me home from set owner acks d _ came eight small c = λ to ch. (refl, refl, refl)

at_cache_ro : (b me home from : ℕ) (set : List Bool) (owner acks : ℕ) (d : Data) (k : cases.Kind) (came : Option Data) →
    length set ≡ 8 → IsOwn k from me → CarriesIf k came → Row b me home (calm CacheRo set owner acks ReadOnly d) k from came
unfolding states_d payload_of
at_cache_ro b me home from set owner acks d cases.WrFault None eight small c =
    subst (λ f. Row b me home (calm CacheRo set owner acks ReadOnly d) cases.WrFault f None) (sym small)
    (row.wr_fault_at_cache_ro b me home set owner acks d eight)
at_cache_ro b me home from set owner acks d cases.WrFault (Some w) eight small c = absurd c
at_cache_ro b me home from set owner acks d cases.Inv None eight small c =
    row.inv_at_cache_ro b me home from set owner acks d eight small
at_cache_ro b me home from set owner acks d cases.Inv (Some w) eight small c = absurd c
at_cache_ro b me home from set owner acks d _ came eight small c = λ to ch. (refl, refl, refl)

at_cache_rw : (b me home from : ℕ) (set : List Bool) (owner acks : ℕ) (d : Data) (k : cases.Kind) (came : Option Data) →
    length set ≡ 8 → IsOwn k from me → CarriesIf k came → Row b me home (calm CacheRw set owner acks ReadWrite d) k from came
unfolding states_d payload_of
at_cache_rw b me home from set owner acks d cases.Recall None eight small c =
    row.recall_at_cache_rw b me home from set owner acks d eight small
at_cache_rw b me home from set owner acks d cases.Recall (Some w) eight small c = absurd c
at_cache_rw b me home from set owner acks d cases.RecallRo None eight small c =
    row.recall_ro_at_cache_rw b me home from set owner acks d eight small
at_cache_rw b me home from set owner acks d cases.RecallRo (Some w) eight small c = absurd c
at_cache_rw b me home from set owner acks d _ came eight small c = λ to ch. (refl, refl, refl)

at_wait_ro : (b me home from : ℕ) (set : List Bool) (owner acks : ℕ) (d : Data) (left : ℕ) (fit : left ≡ 5) (k : cases.Kind)
    (came : Option Data) → length set ≡ 8 → IsOwn k from me → CarriesIf k came →
    Row b me home (holding CacheWaitRo OfCache left set owner acks Invalid d) k from came
unfolding states_d payload_of
at_wait_ro b me home from set owner acks d left fit cases.DataRo (Some w) eight small c =
    row.data_ro_came b me home from set owner acks d w left eight small
at_wait_ro b me home from set owner acks d left fit cases.DataRo None eight small c = absurd c
at_wait_ro b me home from set owner acks d left fit _ came eight small c = λ to ch. (refl, refl, refl)

at_wait_rw : (b me home from : ℕ) (set : List Bool) (owner acks : ℕ) (d : Data) (left : ℕ) (fit : LeftFits CacheWaitRw left)
    (k : cases.Kind) (came : Option Data) → length set ≡ 8 → IsOwn k from me → CarriesIf k came →
    Row b me home (holding CacheWaitRw OfCache left set owner acks Invalid d) k from came
unfolding states_d payload_of
at_wait_rw b me home from set owner acks d left fit cases.DataRw (Some w) eight small c =
    row.data_rw_came b me home from set owner acks d w left eight small
at_wait_rw b me home from set owner acks d left fit cases.DataRw None eight small c = absurd c
at_wait_rw b me home from set owner acks d left fit cases.Inv None eight small c =
    row.inv_at_cache_wait_rw b me home from set owner acks d left fit eight small
at_wait_rw b me home from set owner acks d left fit cases.Inv (Some w) eight small c = absurd c
at_wait_rw b me home from set owner acks d left fit _ came eight small c = λ to ch. (refl, refl, refl)

-- the table's row, at every block that fits and every kind of message
pub table : (b me home from left : ℕ) (set : List Bool) (owner acks : ℕ) (d : Data) (s : cases.State) (r : cases.Rest)
    (k : cases.Kind) (came : Option Data) → (s ≡ HomePut → owner < 8) → RestFits s r → LeftFits s left → length set ≡ 8 →
    IsOwn k from me → CarriesIf k came → Row b me home (holding s r left set owner acks (tag_at s) d) k from came
table b me home from left set owner acks d HomeRw NoRest k came held fits fit eight small c =
    at_home_rw b me home from set owner acks d k came eight small c
table b me home from left set owner acks d HomeRo NoRest k came held fits fit eight small c =
    at_home_ro b me home from set owner acks d k came eight small c
table b me home from left set owner acks d HomeExcl NoRest k came held fits fit eight small c =
    at_home_excl b me home from set owner acks d k came eight small c
table b me home from left set owner acks d HomeAcks OfHome k came held fits fit eight small c =
    at_acks_home b me home from set owner acks d left fit k came eight small c
table b me home from left set owner acks d HomeAcks (OfRw a) k came held fits fit eight small c =
    at_acks_rw b me home from set owner acks d left fit a fits k came eight small c
table b me home from left set owner acks d HomePut OfHome k came held fits fit eight small c =
    at_put_store b me home from set owner acks d left fit k came eight small c
table b me home from left set owner acks d HomePut OfLoad k came held fits fit eight small c =
    at_put_load b me home from set owner acks d left fit (held refl) k came eight small c
table b me home from left set owner acks d HomePut (OfRo a) k came held fits fit eight small c =
    at_put_ro b me home from set owner acks d left fit a fits (held refl) k came eight small c
table b me home from left set owner acks d HomePut (OfRw a) k came held fits fit eight small c =
    at_put_rw b me home from set owner acks d left fit a fits k came eight small c
table b me home from left set owner acks d CacheInv NoRest k came held fits fit eight small c =
    at_cache_inv b me home from set owner acks d k came eight small c
table b me home from left set owner acks d CacheRo NoRest k came held fits fit eight small c =
    at_cache_ro b me home from set owner acks d k came eight small c
table b me home from left set owner acks d CacheRw NoRest k came held fits fit eight small c =
    at_cache_rw b me home from set owner acks d k came eight small c
table b me home from left set owner acks d CacheWaitRo OfCache k came held fits fit eight small c =
    at_wait_ro b me home from set owner acks d left fit k came eight small c
table b me home from left set owner acks d CacheWaitRw OfCache k came held fits fit eight small c =
    at_wait_rw b me home from set owner acks d left fit k came eight small c
table b me home from left set owner acks d _ _ k came held fits fit eight small c = absurd fits

number-is : (s : cases.State) → slice_get stache_d.states (number_of s) ≡ Some (state_at s)
unfolding states_d
number-is HomeRw = refl
number-is _ = refl

pub state-is : (me home b : ℕ) (x : Block) → state_of stache_d (here_of me home b x) ≡ Some (state_at x.state)
state-is me home b x = rw out-roll-StateVal (number-is x.state)

pub handler-is : (s : cases.State) (k : cases.Kind) → handler_in stache_d (kind_of k) (state_at s)
    ≡ Some (handler_of (door_at s k))
unfolding handler_in
handler-is HomeRw cases.RdFault = refl
handler-is HomeRw _ = refl
handler-is HomeRo cases.RdFault = refl
handler-is HomeRo _ = refl
handler-is HomeExcl cases.RdFault = refl
handler-is HomeExcl _ = refl
handler-is HomeAcks cases.RdFault = refl
handler-is HomeAcks _ = refl
handler-is HomePut cases.RdFault = refl
handler-is HomePut _ = refl
handler-is CacheInv cases.RdFault = refl
handler-is CacheInv _ = refl
handler-is CacheRo cases.RdFault = refl
handler-is CacheRo _ = refl
handler-is CacheRw cases.RdFault = refl
handler-is CacheRw _ = refl
handler-is CacheWaitRo cases.RdFault = refl
handler-is CacheWaitRo _ = refl
handler-is CacheWaitRw cases.RdFault = refl
handler-is CacheWaitRw _ = refl

vars-is : (s : cases.State) (h : Door) (here : Here) (m : Message) → vars_of (state_at s) (handler_of h) here m ≡ src m.from
unfolding vars_of
vars-is HomeRw h here m = refl
vars-is _ h here m = refl

-- What a message does is played.
pub does_play : (me home b : ℕ) (x : Block) (k : cases.Kind) (m : Message) (e : Ended) → m.kind ≡ kind_of k →
    Does stache_d (here_of me home b x) m e → Goes stache_d (stmts_of (door_at x.state k).code)
    (real (start me home b x m.from m.payload)) e
does_play me home b x k m e is_kind does =
    let same_state : does.state ≡ state_at x.state = cc (state-is me home b x, does.is_state) in
    let at_kind : handler_in stache_d (kind_of k) does.state ≡ Some does.handler =
    subst (λ y. handler_in stache_d y does.state ≡ Some does.handler) is_kind does.is_handler in
    let at_state : handler_in stache_d (kind_of k) (state_at x.state) ≡ Some does.handler =
    subst (λ y. handler_in stache_d (kind_of k) y ≡ Some does.handler) same_state at_kind in
    let same_handler : does.handler ≡ handler_of (door_at x.state k) = cc (at_state, handler-is x.state k) in
    let goes : Goes stache_d does.handler.body (started (state_at x.state) does.handler (here_of me home b x) m) e =
    subst (λ y. Goes stache_d does.handler.body (started y does.handler (here_of me home b x) m) e) same_state does.goes in
    let code : Goes stache_d (stmts_of (door_at x.state k).code)
    (started (state_at x.state) (handler_of (door_at x.state k)) (here_of me home b x) m) e =
    subst (λ h. Goes stache_d h.body (started (state_at x.state) h (here_of me home b x) m) e) same_handler goes in
    subst (λ vars. Goes stache_d (stmts_of (door_at x.state k).code)
    (record (real (start me home b x m.from m.payload)) { vars = vars }) e)
    (vars-is x.state (door_at x.state k) (here_of me home b x) m) code

shown : (b me home : ℕ) (e : Ended) (f : Option Effect) (x : Block) (k : cases.Kind) (from : ℕ) (came : Option Data)
    (o : Option (Run × End)) → play 16 stache_d (door_at x.state k).code (start me home b x from came) ≡ o →
    Goes stache_d (stmts_of (door_at x.state k).code) (real (start me home b x from came)) e → ShowsIf b me home x o f →
    Shows b me home x e f
shown b me home e f x k from came (Some o) q goes s =
    subst (λ y. Shows b me home x y f) (same_end stache_d goes (played 16 stache_d _ _ o.0 o.1 q)) s
shown b me home e f x k from came None q goes s = absurd s

-- What a message does to a block that fits is what the table says.
pub as_the_table : (b me home : ℕ) (x : Block) (k : cases.Kind) (m : Message) (e : Ended) → BlockFits x →
    (x.state ≡ HomePut → x.owner < 8) → m.kind ≡ kind_of k → m.block ≡ b → IsOwn k m.from me → CarriesIf k m.payload →
    Does stache_d (here_of me home b x) m e → Shows b me home x e (handle_in 8 home me (seen x) (seen_message m))
as_the_table b me home x k m e fits held is_kind at own carries does =
    let plain : Row b me home (record x { tag = tag_at x.state }) k m.from m.payload =
    table b me home m.from x.left x.set x.owner x.acks x.words x.state x.rest k m.payload held fits.rest fits.left
    fits.eight own carries in
    let at_tag : Row b me home x k m.from m.payload = subst (λ t. Row b me home (record x { tag = t }) k m.from m.payload)
    (sym fits.tag) plain in
    subst (λ y. Shows b me home x e (handle_in 8 home me (seen x) y)) (sym (message_seen b m k is_kind at))
    (shown b me home e _ x k m.from m.payload _ refl (does_play me home b x k m e is_kind does) (at_tag m.to m.chan))
