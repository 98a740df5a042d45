-- The table of Stache_L and the meaning agree at each block and message.
use Rattle.std.proofs.Common.{◌≡◌, ℕ, ◌<◌, List, [], Bool, true, false, Option, Some, None, length, refl, sym, subst}
use Rattle.std.specs.Prelude.{nat_lt, slice_get, ◌==◌}
use Rattle.tw_base.specs.declared.message.Message.{Message}
use Rattle.tw_base.specs.declared.value.Data.{Data}
use Rattle.tw_base.specs.declared.value.Tag.TheVariants.{Invalid, ReadOnly, ReadWrite}
use Rattle.tw_base.specs.declared.entry.End.{End}
use Rattle.teapot_tree.specs.declared.protocol.Handler.{Handler}
use Rattle.teapot_meaning.specs.declared.state.Ended.{Ended}
use Rattle.teapot_meaning.specs.declared.state.Here.{Here}
use Rattle.teapot_meaning.specs.declared.state.StateVal.{out-roll-StateVal}
use Rattle.teapot_meaning.specs.Does.{Does, started, state_of, vars_of}
use Rattle.teapot_meaning.specs.Handlers.{handler_in}
use Rattle.teapot_meaning.specs.Goes.{Goes}
use Rattle.teapot_meaning.specs.Steps.{payload_of}
use Rattle.tw_base.specs.NodeSets.{count, without}
use Rattle.teapot_meaning.proofs.Ends.{same_end}
use Rattle.block_spots.specs.Cases as cases
use Rattle.block_spots.specs.Cases.{Effect, HomeRw, HomeRo, HomeExcl, HomeAcks, HomePut, CacheInv, CacheRo, CacheRw}
use Rattle.block_spots.specs.Cases.{CacheWaitRo, CacheWaitRw, NoRest, OfHome, OfRo, OfRw, OfCache}
use Rattle.block_spots.specs.Views.{seen_message}
use Rattle.stache_table.specs.Blocks.{CarriesIf, LeftFits, kind_of, number_of, seen, tag_at}
use Rattle.stache_table.specs.Laws.{IsOwn}
use Rattle.stache_table.specs.Runs.{Run, play, real}
use Rattle.stache_table.proofs.Plays.{played}
use Rattle.stache_table.proofs.Table.{message_seen}
use Rattle.stache_tree.specs.Code.{stmts_of}
use Rattle.stache_l_table.specs.Blocks.{Block, BlockFits, ChosenFits, RestFits, Row, Shows, ShowsIf, door_at, handler_of}
use Rattle.stache_l_table.specs.Blocks.{here_of, locals_at, start, state_at, vars_at}
use Rattle.stache_l_table.specs.Handling.{handle_in}
use Rattle.stache_l_tree.specs.Tree.{stache_l, states_l}
use Rattle.stache_l_table.proofs.Lasts.{two-some}
use Rattle.stache_l_table.proofs.Rows as row
use Rattle.stache_l_table.proofs.Rows.{calm, holding, waiting}

at_home_rw : (b me home from : ℕ) (set : List Bool) (owner acks : ℕ) (d : Data) (k : cases.Kind) (came : Option Data) →
    length set ≡ 8 → IsOwn k from me → CarriesIf k came → Row b me home (calm HomeRw set owner acks ReadWrite d) k from came
unfolding states_l payload_of
at_home_rw b me home from set owner acks d cases.GetRo None eight small c =
    row.get_ro_at_home_rw b me home from set owner acks d eight small
at_home_rw b me home from set owner acks d cases.GetRo (Some w) eight small c = absurd c
at_home_rw b me home from set owner acks d cases.GetRw None eight small c =
    row.get_rw_at_home_rw b me home from set owner acks d eight small
at_home_rw b me home from set owner acks d cases.GetRw (Some w) eight small c = absurd c
at_home_rw b me home from set owner acks d _ came eight small c = λ to ch. (refl, refl, refl)

at_get_rw : (b me home from : ℕ) (set : List Bool) (owner acks : ℕ) (d : Data) (t : Bool) →
    nat_lt 0 (count (without set from)) ≡ t → length set ≡ 8 → from < 8 →
    Row b me home (calm HomeRo set owner acks ReadOnly d) cases.GetRw from None
at_get_rw b me home from set owner acks d true h eight small =
    row.get_rw_with_others b me home from set owner acks d h eight small
at_get_rw b me home from set owner acks d false h eight small = row.get_rw_alone b me home from set owner acks d h eight small

at_get_ro : (b me home from : ℕ) (set : List Bool) (owner acks : ℕ) (d : Data) (t : Bool) → (count set == 2) ≡ t →
    length set ≡ 8 → from < 8 → Row b me home (calm HomeRo set owner acks ReadOnly d) cases.GetRo from None
at_get_ro b me home from set owner acks d true h eight small =
    let some = two-some set eight h in
    row.get_ro_without_room b me home from set owner acks d some.0 some.1 some.2 h eight small
at_get_ro b me home from set owner acks d false h eight small = row.get_ro_with_room b me home from set owner acks d h eight small

at_home_ro : (b me home from : ℕ) (set : List Bool) (owner acks : ℕ) (d : Data) (k : cases.Kind) (came : Option Data) →
    length set ≡ 8 → IsOwn k from me → CarriesIf k came → Row b me home (calm HomeRo set owner acks ReadOnly d) k from came
unfolding states_l payload_of
at_home_ro b me home from set owner acks d cases.RdFault None eight small c =
    subst (λ f. Row b me home (calm HomeRo set owner acks ReadOnly d) cases.RdFault f None) (sym small)
    (row.rd_fault_at_home_ro b me home set owner acks d eight)
at_home_ro b me home from set owner acks d cases.RdFault (Some w) eight small c = absurd c
at_home_ro b me home from set owner acks d cases.WrFault None eight small c =
    subst (λ f. Row b me home (calm HomeRo set owner acks ReadOnly d) cases.WrFault f None) (sym small)
    (row.wr_fault_at_home_ro b me home set owner acks d eight)
at_home_ro b me home from set owner acks d cases.WrFault (Some w) eight small c = absurd c
at_home_ro b me home from set owner acks d cases.GetRo None eight small c =
    at_get_ro b me home from set owner acks d _ refl eight small
at_home_ro b me home from set owner acks d cases.GetRo (Some w) eight small c = absurd c
at_home_ro b me home from set owner acks d cases.GetRw None eight small c =
    at_get_rw b me home from set owner acks d _ refl eight small
at_home_ro b me home from set owner acks d cases.GetRw (Some w) eight small c = absurd c
at_home_ro b me home from set owner acks d _ came eight small c = λ to ch. (refl, refl, refl)

at_home_excl : (b me home from : ℕ) (set : List Bool) (owner acks : ℕ) (d : Data) (k : cases.Kind) (came : Option Data) →
    length set ≡ 8 → IsOwn k from me → CarriesIf k came → Row b me home (calm HomeExcl set owner acks Invalid d) k from came
unfolding states_l payload_of
at_home_excl b me home from set owner acks d cases.RdFault None eight small c =
    subst (λ f. Row b me home (calm HomeExcl set owner acks Invalid d) cases.RdFault f None) (sym small)
    (row.rd_fault_at_home_excl b me home set owner acks d eight)
at_home_excl b me home from set owner acks d cases.RdFault (Some w) eight small c = absurd c
at_home_excl b me home from set owner acks d cases.WrFault None eight small c =
    subst (λ f. Row b me home (calm HomeExcl set owner acks Invalid d) cases.WrFault f None) (sym small)
    (row.wr_fault_at_home_excl b me home set owner acks d eight)
at_home_excl b me home from set owner acks d cases.WrFault (Some w) eight small c = absurd c
at_home_excl b me home from set owner acks d cases.GetRo None eight small c =
    row.get_ro_at_home_excl b me home from set owner acks d eight small
at_home_excl b me home from set owner acks d cases.GetRo (Some w) eight small c = absurd c
at_home_excl b me home from set owner acks d cases.GetRw None eight small c =
    row.get_rw_at_home_excl b me home from set owner acks d eight small
at_home_excl b me home from set owner acks d cases.GetRw (Some w) eight small c = absurd c
at_home_excl b me home from set owner acks d _ came eight small c = λ to ch. (refl, refl, refl)

at_ack_home : (b me home from : ℕ) (set : List Bool) (owner acks : ℕ) (d : Data) (left : ℕ) (fit : left ≡ 1) (t : Bool) →
    nat_lt 1 acks ≡ t → length set ≡ 8 → from < 8 → Row b me home
    (holding HomeAcks OfHome left set owner acks ReadOnly d) cases.Ack from None
at_ack_home b me home from set owner acks d left fit true h eight small =
    row.more_acks_home b me home from set owner acks d left fit h eight small
at_ack_home b me home from set owner acks d left fit false h eight small =
    row.last_ack_home b me home from set owner acks d left h eight small

at_acks_home : (b me home from : ℕ) (set : List Bool) (owner acks : ℕ) (d : Data) (left : ℕ) (fit : left ≡ 1) (k : cases.Kind)
    (came : Option Data) → length set ≡ 8 → IsOwn k from me → CarriesIf k came →
    Row b me home (holding HomeAcks OfHome left set owner acks ReadOnly d) k from came
unfolding states_l payload_of
at_acks_home b me home from set owner acks d left fit cases.Ack None eight small c =
    at_ack_home b me home from set owner acks d left fit _ refl eight small
at_acks_home b me home from set owner acks d left fit cases.Ack (Some w) eight small c = absurd c
at_acks_home b me home from set owner acks d left fit _ came eight small c =
    λ to ch. (
      holding HomeAcks OfHome left set owner acks ReadOnly d,
      record {
        end = refl;
        here = refl;
        seen = refl;
        sends = refl;
        kept = refl;
        freed = refl;
        woke = refl;
        fits = record { rest = tt; left = fit; tag = refl; eight = eight; chosen = refl };
      },
    )

at_ack_rw : (b me home from : ℕ) (set : List Bool) (owner acks : ℕ) (d : Data) (left : ℕ) (fit : left ≡ 1) (a : ℕ)
    (few : a < 8) (t : Bool) → nat_lt 1 acks ≡ t → length set ≡ 8 → from < 8 →
    Row b me home (holding HomeAcks (OfRw a) left set owner acks ReadOnly d) cases.Ack from None
at_ack_rw b me home from set owner acks d left fit a few true h eight small =
    row.more_acks_rw b me home from set owner acks d left fit a few h eight small
at_ack_rw b me home from set owner acks d left fit a few false h eight small =
    row.last_ack_rw b me home from set owner acks d left a h eight small

at_acks_rw : (b me home from : ℕ) (set : List Bool) (owner acks : ℕ) (d : Data) (left : ℕ) (fit : left ≡ 1) (a : ℕ)
    (few : a < 8) (k : cases.Kind) (came : Option Data) → length set ≡ 8 → IsOwn k from me → CarriesIf k came →
    Row b me home (holding HomeAcks (OfRw a) left set owner acks ReadOnly d) k from came
unfolding states_l payload_of
at_acks_rw b me home from set owner acks d left fit a few cases.Ack None eight small c =
    at_ack_rw b me home from set owner acks d left fit a few _ refl eight small
at_acks_rw b me home from set owner acks d left fit a few cases.Ack (Some w) eight small c = absurd c
at_acks_rw b me home from set owner acks d left fit a few _ came eight small c =
    λ to ch. (
      holding HomeAcks (OfRw a) left set owner acks ReadOnly d,
      record {
        end = refl;
        here = refl;
        seen = refl;
        sends = refl;
        kept = refl;
        freed = refl;
        woke = refl;
        fits = record { rest = few; left = fit; tag = refl; eight = eight; chosen = refl };
      },
    )

at_ack_ro : (b me home from : ℕ) (set : List Bool) (owner acks : ℕ) (d : Data) (left : ℕ) (fit : left ≡ 1) (chosen a : ℕ)
    (few : a < 8) (t : Bool) → nat_lt 1 acks ≡ t → length set ≡ 8 → from < 8 →
    Row b me home (waiting (OfRo a) left chosen set owner acks d) cases.Ack from None
at_ack_ro b me home from set owner acks d left fit chosen a few true h eight small =
    row.more_acks_ro b me home from set owner acks d left fit chosen a few h eight small
at_ack_ro b me home from set owner acks d left fit chosen a few false h eight small =
    row.last_ack_ro b me home from set owner acks d left fit chosen a few h eight small

at_acks_ro : (b me home from : ℕ) (set : List Bool) (owner acks : ℕ) (d : Data) (left : ℕ) (fit : left ≡ 1) (chosen a : ℕ)
    (few : a < 8) (k : cases.Kind) (came : Option Data) → length set ≡ 8 → IsOwn k from me → CarriesIf k came →
    Row b me home (waiting (OfRo a) left chosen set owner acks d) k from came
unfolding states_l payload_of
at_acks_ro b me home from set owner acks d left fit chosen a few cases.Ack None eight small c =
    at_ack_ro b me home from set owner acks d left fit chosen a few _ refl eight small
at_acks_ro b me home from set owner acks d left fit chosen a few cases.Ack (Some w) eight small c = absurd c
at_acks_ro b me home from set owner acks d left fit chosen a few _ came eight small c =
    λ to ch. (
      waiting (OfRo a) left chosen set owner acks d,
      record {
        end = refl;
        here = refl;
        seen = refl;
        sends = refl;
        kept = refl;
        freed = refl;
        woke = refl;
        fits = record { rest = few; left = fit; tag = refl; eight = eight; chosen = tt };
      },
    )

at_put_home : (b me home from : ℕ) (set : List Bool) (owner acks : ℕ) (d : Data) (left : ℕ) (fit : left ≡ 2) (k : cases.Kind)
    (came : Option Data) → length set ≡ 8 → IsOwn k from me → CarriesIf k came →
    Row b me home (holding HomePut OfHome left set owner acks Invalid d) k from came
unfolding states_l payload_of
at_put_home b me home from set owner acks d left fit cases.Put (Some w) eight small c =
    row.put_home b me home from set owner acks d w left eight small
at_put_home b me home from set owner acks d left fit cases.Put None eight small c = absurd c
at_put_home b me home from set owner acks d left fit _ came eight small c =
    λ to ch. (
      holding HomePut OfHome left set owner acks Invalid d,
      record {
        end = refl;
        here = refl;
        seen = refl;
        sends = refl;
        kept = refl;
        freed = refl;
        woke = refl;
        fits = record { rest = tt; left = fit; tag = refl; eight = eight; chosen = refl };
      },
    )

at_put_ro : (b me home from : ℕ) (set : List Bool) (owner acks : ℕ) (d : Data) (left : ℕ) (fit : left ≡ 2) (a : ℕ)
    (few : a < 8) (k : cases.Kind) (came : Option Data) → length set ≡ 8 → IsOwn k from me → CarriesIf k came →
    Row b me home (holding HomePut (OfRo a) left set owner acks Invalid d) k from came
unfolding states_l payload_of
at_put_ro b me home from set owner acks d left fit a few cases.Put (Some w) eight small c =
    row.put_ro b me home from set owner acks d w left a few eight small
at_put_ro b me home from set owner acks d left fit a few cases.Put None eight small c = absurd c
at_put_ro b me home from set owner acks d left fit a few _ came eight small c =
    λ to ch. (
      holding HomePut (OfRo a) left set owner acks Invalid d,
      record {
        end = refl;
        here = refl;
        seen = refl;
        sends = refl;
        kept = refl;
        freed = refl;
        woke = refl;
        fits = record { rest = few; left = fit; tag = refl; eight = eight; chosen = refl };
      },
    )

at_put_rw : (b me home from : ℕ) (set : List Bool) (owner acks : ℕ) (d : Data) (left : ℕ) (fit : left ≡ 2) (a : ℕ)
    (few : a < 8) (k : cases.Kind) (came : Option Data) → length set ≡ 8 → IsOwn k from me → CarriesIf k came →
    Row b me home (holding HomePut (OfRw a) left set owner acks Invalid d) k from came
unfolding states_l payload_of
at_put_rw b me home from set owner acks d left fit a few cases.Put (Some w) eight small c =
    row.put_rw b me home from set owner acks d w left a eight small
at_put_rw b me home from set owner acks d left fit a few cases.Put None eight small c = absurd c
at_put_rw b me home from set owner acks d left fit a few _ came eight small c =
    λ to ch. (
      holding HomePut (OfRw a) left set owner acks Invalid d,
      record {
        end = refl;
        here = refl;
        seen = refl;
        sends = refl;
        kept = refl;
        freed = refl;
        woke = refl;
        fits = record { rest = few; left = fit; tag = refl; eight = eight; chosen = refl };
      },
    )

at_cache_inv : (b me home from : ℕ) (set : List Bool) (owner acks : ℕ) (d : Data) (k : cases.Kind) (came : Option Data) →
    length set ≡ 8 → IsOwn k from me → CarriesIf k came → Row b me home (calm CacheInv set owner acks Invalid d) k from came
unfolding states_l payload_of
at_cache_inv b me home from set owner acks d cases.RdFault None eight small c =
    subst (λ f. Row b me home (calm CacheInv set owner acks Invalid d) cases.RdFault f None) (sym small)
    (row.rd_fault_at_cache_inv b me home set owner acks d eight)
at_cache_inv b me home from set owner acks d cases.RdFault (Some w) eight small c = absurd c
at_cache_inv b me home from set owner acks d cases.WrFault None eight small c =
    subst (λ f. Row b me home (calm CacheInv set owner acks Invalid d) cases.WrFault f None) (sym small)
    (row.wr_fault_at_cache_inv b me home set owner acks d eight)
at_cache_inv b me home from set owner acks d cases.WrFault (Some w) eight small c = absurd c
at_cache_inv b me home from set owner acks d _ came eight small c = λ to ch. (refl, refl, refl)

at_cache_ro : (b me home from : ℕ) (set : List Bool) (owner acks : ℕ) (d : Data) (k : cases.Kind) (came : Option Data) →
    length set ≡ 8 → IsOwn k from me → CarriesIf k came → Row b me home (calm CacheRo set owner acks ReadOnly d) k from came
unfolding states_l payload_of
at_cache_ro b me home from set owner acks d cases.WrFault None eight small c =
    subst (λ f. Row b me home (calm CacheRo set owner acks ReadOnly d) cases.WrFault f None) (sym small)
    (row.wr_fault_at_cache_ro b me home set owner acks d eight)
at_cache_ro b me home from set owner acks d cases.WrFault (Some w) eight small c = absurd c
at_cache_ro b me home from set owner acks d cases.Inv None eight small c =
    row.inv_at_cache_ro b me home from set owner acks d eight small
at_cache_ro b me home from set owner acks d cases.Inv (Some w) eight small c = absurd c
at_cache_ro b me home from set owner acks d _ came eight small c = λ to ch. (refl, refl, refl)

at_cache_rw : (b me home from : ℕ) (set : List Bool) (owner acks : ℕ) (d : Data) (k : cases.Kind) (came : Option Data) →
    length set ≡ 8 → IsOwn k from me → CarriesIf k came → Row b me home (calm CacheRw set owner acks ReadWrite d) k from came
unfolding states_l payload_of
at_cache_rw b me home from set owner acks d cases.Recall None eight small c =
    row.recall_at_cache_rw b me home from set owner acks d eight small
at_cache_rw b me home from set owner acks d cases.Recall (Some w) eight small c = absurd c
at_cache_rw b me home from set owner acks d _ came eight small c = λ to ch. (refl, refl, refl)

at_wait_ro : (b me home from : ℕ) (set : List Bool) (owner acks : ℕ) (d : Data) (left : ℕ) (fit : left ≡ 5) (k : cases.Kind)
    (came : Option Data) → length set ≡ 8 → IsOwn k from me → CarriesIf k came →
    Row b me home (holding CacheWaitRo OfCache left set owner acks Invalid d) k from came
unfolding states_l payload_of
at_wait_ro b me home from set owner acks d left fit cases.DataRo (Some w) eight small c =
    row.data_ro_came b me home from set owner acks d w left eight small
at_wait_ro b me home from set owner acks d left fit cases.DataRo None eight small c = absurd c
at_wait_ro b me home from set owner acks d left fit _ came eight small c = λ to ch. (refl, refl, refl)

at_wait_rw : (b me home from : ℕ) (set : List Bool) (owner acks : ℕ) (d : Data) (left : ℕ) (fit : LeftFits CacheWaitRw left)
    (k : cases.Kind) (came : Option Data) → length set ≡ 8 → IsOwn k from me → CarriesIf k came →
    Row b me home (holding CacheWaitRw OfCache left set owner acks Invalid d) k from came
unfolding states_l payload_of
at_wait_rw b me home from set owner acks d left fit cases.DataRw (Some w) eight small c =
    row.data_rw_came b me home from set owner acks d w left eight small
at_wait_rw b me home from set owner acks d left fit cases.DataRw None eight small c = absurd c
at_wait_rw b me home from set owner acks d left fit cases.Inv None eight small c =
    row.inv_at_cache_wait_rw b me home from set owner acks d left fit eight small
at_wait_rw b me home from set owner acks d left fit cases.Inv (Some w) eight small c = absurd c
at_wait_rw b me home from set owner acks d left fit _ came eight small c = λ to ch. (refl, refl, refl)

-- the table's row, at every block that fits and every kind of message
pub table : (b me home from left : ℕ) (set : List Bool) (owner acks : ℕ) (d : Data) (s : cases.State) (r : cases.Rest)
    (chosen : ℕ) (k : cases.Kind) (came : Option Data) → RestFits s r → LeftFits s left → ChosenFits s r chosen →
    length set ≡ 8 → IsOwn k from me → CarriesIf k came → Row b me home
    (record {
      base = record {
        state = s;
        rest = r;
        left = left;
        set = set;
        owner = owner;
        acks = acks;
        tag = tag_at s;
        words = d;
      };
      chosen = chosen;
    }) k from came
table b me home from left set owner acks d HomeRw NoRest chosen k came fits fit is eight small c =
    subst (λ n. Row b me home
    (record {
      base = record {
        state = HomeRw;
        rest = NoRest;
        left = left;
        set = set;
        owner = owner;
        acks = acks;
        tag = tag_at HomeRw;
        words = d;
      };
      chosen = n;
    }) k from came) (sym is)
    (at_home_rw b me home from set owner acks d k came eight small c)
table b me home from left set owner acks d HomeRo NoRest chosen k came fits fit is eight small c =
    subst (λ n. Row b me home
    (record {
      base = record {
        state = HomeRo;
        rest = NoRest;
        left = left;
        set = set;
        owner = owner;
        acks = acks;
        tag = tag_at HomeRo;
        words = d;
      };
      chosen = n;
    }) k from came) (sym is)
    (at_home_ro b me home from set owner acks d k came eight small c)
table b me home from left set owner acks d HomeExcl NoRest chosen k came fits fit is eight small c =
    subst (λ n. Row b me home
    (record {
      base = record {
        state = HomeExcl;
        rest = NoRest;
        left = left;
        set = set;
        owner = owner;
        acks = acks;
        tag = tag_at HomeExcl;
        words = d;
      };
      chosen = n;
    }) k from came) (sym is)
    (at_home_excl b me home from set owner acks d k came eight small c)
table b me home from left set owner acks d HomeAcks OfHome chosen k came fits fit is eight small c =
    subst (λ n. Row b me home
    (record {
      base = record {
        state = HomeAcks;
        rest = OfHome;
        left = left;
        set = set;
        owner = owner;
        acks = acks;
        tag = tag_at HomeAcks;
        words = d;
      };
      chosen = n;
    }) k from came) (sym is)
    (at_acks_home b me home from set owner acks d left fit k came eight small c)
table b me home from left set owner acks d HomeAcks (OfRo a) chosen k came fits fit is eight small c =
    at_acks_ro b me home from set owner acks d left fit chosen a fits k came eight small c
table b me home from left set owner acks d HomeAcks (OfRw a) chosen k came fits fit is eight small c =
    subst (λ n. Row b me home
    (record {
      base = record {
        state = HomeAcks;
        rest = (OfRw a);
        left = left;
        set = set;
        owner = owner;
        acks = acks;
        tag = tag_at HomeAcks;
        words = d;
      };
      chosen = n;
    }) k from came) (sym is)
    (at_acks_rw b me home from set owner acks d left fit a fits k came eight small c)
table b me home from left set owner acks d HomePut OfHome chosen k came fits fit is eight small c =
    subst (λ n. Row b me home
    (record {
      base = record {
        state = HomePut;
        rest = OfHome;
        left = left;
        set = set;
        owner = owner;
        acks = acks;
        tag = tag_at HomePut;
        words = d;
      };
      chosen = n;
    }) k from came) (sym is)
    (at_put_home b me home from set owner acks d left fit k came eight small c)
table b me home from left set owner acks d HomePut (OfRo a) chosen k came fits fit is eight small c =
    subst (λ n. Row b me home
    (record {
      base = record {
        state = HomePut;
        rest = (OfRo a);
        left = left;
        set = set;
        owner = owner;
        acks = acks;
        tag = tag_at HomePut;
        words = d;
      };
      chosen = n;
    }) k from came) (sym is)
    (at_put_ro b me home from set owner acks d left fit a fits k came eight small c)
table b me home from left set owner acks d HomePut (OfRw a) chosen k came fits fit is eight small c =
    subst (λ n. Row b me home
    (record {
      base = record {
        state = HomePut;
        rest = (OfRw a);
        left = left;
        set = set;
        owner = owner;
        acks = acks;
        tag = tag_at HomePut;
        words = d;
      };
      chosen = n;
    }) k from came) (sym is)
    (at_put_rw b me home from set owner acks d left fit a fits k came eight small c)
table b me home from left set owner acks d CacheInv NoRest chosen k came fits fit is eight small c =
    subst (λ n. Row b me home
    (record {
      base = record {
        state = CacheInv;
        rest = NoRest;
        left = left;
        set = set;
        owner = owner;
        acks = acks;
        tag = tag_at CacheInv;
        words = d;
      };
      chosen = n;
    }) k from came) (sym is)
    (at_cache_inv b me home from set owner acks d k came eight small c)
table b me home from left set owner acks d CacheRo NoRest chosen k came fits fit is eight small c =
    subst (λ n. Row b me home
    (record {
      base = record {
        state = CacheRo;
        rest = NoRest;
        left = left;
        set = set;
        owner = owner;
        acks = acks;
        tag = tag_at CacheRo;
        words = d;
      };
      chosen = n;
    }) k from came) (sym is)
    (at_cache_ro b me home from set owner acks d k came eight small c)
table b me home from left set owner acks d CacheRw NoRest chosen k came fits fit is eight small c =
    subst (λ n. Row b me home
    (record {
      base = record {
        state = CacheRw;
        rest = NoRest;
        left = left;
        set = set;
        owner = owner;
        acks = acks;
        tag = tag_at CacheRw;
        words = d;
      };
      chosen = n;
    }) k from came) (sym is)
    (at_cache_rw b me home from set owner acks d k came eight small c)
table b me home from left set owner acks d CacheWaitRo OfCache chosen k came fits fit is eight small c =
    subst (λ n. Row b me home
    (record {
      base = record {
        state = CacheWaitRo;
        rest = OfCache;
        left = left;
        set = set;
        owner = owner;
        acks = acks;
        tag = tag_at CacheWaitRo;
        words = d;
      };
      chosen = n;
    }) k from came) (sym is)
    (at_wait_ro b me home from set owner acks d left fit k came eight small c)
table b me home from left set owner acks d CacheWaitRw OfCache chosen k came fits fit is eight small c =
    subst (λ n. Row b me home
    (record {
      base = record {
        state = CacheWaitRw;
        rest = OfCache;
        left = left;
        set = set;
        owner = owner;
        acks = acks;
        tag = tag_at CacheWaitRw;
        words = d;
      };
      chosen = n;
    }) k from came) (sym is)
    (at_wait_rw b me home from set owner acks d left fit k came eight small c)
table b me home from left set owner acks d _ _ chosen k came fits fit is eight small c = absurd fits

number-is : (s : cases.State) → slice_get stache_l.states (number_of s) ≡ Some (state_at s)
unfolding states_l
number-is HomeRw = refl
number-is _ = refl

state-is : (me home b : ℕ) (x : Block) → state_of stache_l (here_of me home b x) ≡ Some (state_at x.base.state)
state-is me home b x = rw out-roll-StateVal (number-is x.base.state)

abbrev opened : cases.State → cases.Kind → Handler
opened s k = handler_of (locals_at s k) (door_at s k)

handler-is : (s : cases.State) (k : cases.Kind) → handler_in stache_l (kind_of k) (state_at s) ≡ Some (opened s k)
unfolding handler_in
handler-is HomeRw cases.RdFault = refl
handler-is HomeRw _ = refl
handler-is HomeRo cases.RdFault = refl
handler-is HomeRo _ = refl
handler-is HomeExcl cases.RdFault = refl
handler-is HomeExcl _ = refl
handler-is HomeAcks cases.RdFault = refl
handler-is HomeAcks _ = refl
handler-is HomePut cases.RdFault = refl
handler-is HomePut _ = refl
handler-is CacheInv cases.RdFault = refl
handler-is CacheInv _ = refl
handler-is CacheRo cases.RdFault = refl
handler-is CacheRo _ = refl
handler-is CacheRw cases.RdFault = refl
handler-is CacheRw _ = refl
handler-is CacheWaitRo cases.RdFault = refl
handler-is CacheWaitRo _ = refl
handler-is CacheWaitRw cases.RdFault = refl
handler-is CacheWaitRw _ = refl

vars-is : (s : cases.State) (k : cases.Kind) (here : Here) (m : Message) →
    vars_of (state_at s) (opened s k) here m ≡ vars_at s k m.from
unfolding vars_of
vars-is HomeRw k here m = refl
vars-is HomeRo cases.GetRo here m = refl
vars-is HomeRo _ here m = refl
vars-is _ k here m = refl

-- What a message does is played.
does_play : (me home b : ℕ) (x : Block) (k : cases.Kind) (m : Message) (e : Ended) → m.kind ≡ kind_of k →
    Does stache_l (here_of me home b x) m e → Goes stache_l (stmts_of (door_at x.base.state k).code)
    (real (start me home b x (vars_at x.base.state k m.from) m.payload)) e
does_play me home b x k m e is_kind does =
    let same_state : does.state ≡ state_at x.base.state = cc (state-is me home b x, does.is_state) in
    let at_kind : handler_in stache_l (kind_of k) does.state ≡ Some does.handler =
    subst (λ y. handler_in stache_l y does.state ≡ Some does.handler) is_kind does.is_handler in
    let at_state : handler_in stache_l (kind_of k) (state_at x.base.state) ≡ Some does.handler =
    subst (λ y. handler_in stache_l (kind_of k) y ≡ Some does.handler) same_state at_kind in
    let same_handler : does.handler ≡ opened x.base.state k = cc (at_state, handler-is x.base.state k) in
    let goes : Goes stache_l does.handler.body (started (state_at x.base.state) does.handler (here_of me home b x) m) e =
    subst (λ y. Goes stache_l does.handler.body (started y does.handler (here_of me home b x) m) e) same_state does.goes in
    let code : Goes stache_l (stmts_of (door_at x.base.state k).code)
    (started (state_at x.base.state) (opened x.base.state k) (here_of me home b x) m) e =
    subst (λ h. Goes stache_l h.body (started (state_at x.base.state) h (here_of me home b x) m) e) same_handler goes in
    subst (λ vars. Goes stache_l (stmts_of (door_at x.base.state k).code)
    (record (real (start me home b x [] m.payload)) { vars = vars }) e)
    (vars-is x.base.state k (here_of me home b x) m) code

shown : (b me home : ℕ) (e : Ended) (f : Option Effect) (x : Block) (k : cases.Kind) (from : ℕ) (came : Option Data)
    (o : Option (Run × End)) → play 16 stache_l (door_at x.base.state k).code
    (start me home b x (vars_at x.base.state k from) came) ≡ o →
    Goes stache_l (stmts_of (door_at x.base.state k).code) (real (start me home b x (vars_at x.base.state k from) came)) e →
    ShowsIf b me home x o f → Shows b me home x e f
shown b me home e f x k from came (Some o) q goes s =
    subst (λ y. Shows b me home x y f) (same_end stache_l goes (played 16 stache_l _ _ o.0 o.1 q)) s
shown b me home e f x k from came None q goes s = absurd s

-- What a message does to a block that fits is what the table says.
pub as_the_table : (b me home : ℕ) (x : Block) (k : cases.Kind) (m : Message) (e : Ended) → BlockFits x → m.kind ≡ kind_of k →
    m.block ≡ b → IsOwn k m.from me → CarriesIf k m.payload → Does stache_l (here_of me home b x) m e →
    Shows b me home x e (handle_in 8 home me (seen x.base) (seen_message m))
as_the_table b me home x k m e fits is_kind at own carries does =
    let plain : Row b me home (record x { base = record x.base { tag = tag_at x.base.state } }) k m.from m.payload =
    table b me home m.from x.base.left x.base.set x.base.owner x.base.acks x.base.words x.base.state x.base.rest x.chosen k
    m.payload fits.rest fits.left fits.chosen fits.eight own carries in
    let at_tag : Row b me home x k m.from m.payload =
    subst (λ t. Row b me home (record x { base = record x.base { tag = t } }) k m.from m.payload) (sym fits.tag) plain in
    subst (λ y. Shows b me home x e (handle_in 8 home me (seen x.base) y)) (sym (message_seen b m k is_kind at))
    (shown b me home e _ x k m.from m.payload _ refl (does_play me home b x k m e is_kind does) (at_tag m.to m.chan))
