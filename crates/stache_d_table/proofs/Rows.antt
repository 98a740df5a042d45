-- Each row of the table of Stache_D, played on its tree.
use Rattle.std.proofs.Common.{◌≡◌, ◌∙◌, ℕ, List, ◌-◌, ◌<◌, Bool, true, false, Some, None, length, refl, ap, sym, inl, inr}
use Rattle.std.specs.Prelude.{nat_lt}
use Rattle.tw_base.specs.declared.value.Data.{Data}
use Rattle.tw_base.specs.declared.value.Tag.TheVariants.{Invalid, ReadOnly, ReadWrite}
use Rattle.teapot_meaning.specs.Steps.{payload_of}
use Rattle.tw_base.specs.NodeSets.{count, empty, has, with, without}
use Rattle.block_spots.specs.Cases as cases
use Rattle.block_spots.specs.Cases.{HomeRw, HomeRo, HomeExcl, HomeAcks, HomePut, CacheInv, CacheRo, CacheRw, CacheWaitRo}
use Rattle.block_spots.specs.Cases.{CacheWaitRw, OfHome, OfLoad, OfRo, OfRw, OfCache, without_node}
use Rattle.stache_table.specs.Blocks.{LeftFits}
use Rattle.stache_d_table.specs.Blocks.{Row}
use Rattle.stache_table.proofs.Rows.{calm, holding, last, more, none, not_more}
use Rattle.stache_table.specs.Handling.{inv_all}
use Rattle.stache_d_tree.specs.Tree.{states_d}
use Rattle.stache_table.proofs.Sets.{count-is, empty-eight, empty-is, sent-all, with-eight, with-is, without-eight, without-is}

pub get_ro_at_home_rw : (b me home from : ℕ) (set : List Bool) (owner acks : ℕ) (d : Data) → length set ≡ 8 → from < 8 →
    Row b me home (calm HomeRw set owner acks ReadWrite d) cases.GetRo from None
unfolding states_d payload_of
get_ro_at_home_rw b me home from set owner acks d eight small to c = (
  calm HomeRo (with empty from) owner acks ReadOnly d,
  record {
    end = refl;
    here = refl;
    seen = rw (with-is empty from empty-eight small, empty-is);
    sends = refl;
    kept = refl;
    freed = refl;
    woke = refl;
    fits = record { rest = tt; left = refl; tag = refl; eight = with-eight empty from empty-eight };
  },
)

pub get_rw_at_home_rw : (b me home from : ℕ) (set : List Bool) (owner acks : ℕ) (d : Data) → length set ≡ 8 → from < 8 →
    Row b me home (calm HomeRw set owner acks ReadWrite d) cases.GetRw from None
unfolding states_d payload_of
get_rw_at_home_rw b me home from set owner acks d eight small to c = (
  calm HomeExcl set from acks Invalid d,
  record {
    end = refl;
    here = refl;
    seen = refl;
    sends = refl;
    kept = refl;
    freed = refl;
    woke = refl;
    fits = record { rest = tt; left = refl; tag = refl; eight = eight };
  },
)

pub rd_fault_at_home_ro : (b me home : ℕ) (set : List Bool) (owner acks : ℕ) (d : Data) → length set ≡ 8 →
    Row b me home (calm HomeRo set owner acks ReadOnly d) cases.RdFault me None
unfolding states_d payload_of
rd_fault_at_home_ro b me home set owner acks d eight to c = (
  calm HomeRo set owner acks ReadOnly d,
  record {
    end = refl;
    here = refl;
    seen = refl;
    sends = refl;
    kept = refl;
    freed = refl;
    woke = refl;
    fits = record { rest = tt; left = refl; tag = refl; eight = eight };
  },
)

pub wr_fault_at_home_ro : (b me home : ℕ) (set : List Bool) (owner acks : ℕ) (d : Data) → length set ≡ 8 →
    Row b me home (calm HomeRo set owner acks ReadOnly d) cases.WrFault me None
unfolding states_d payload_of
wr_fault_at_home_ro b me home set owner acks d eight to c = (
  holding HomeAcks OfHome 1 empty owner (count set) ReadOnly d,
  record {
    end = refl;
    here = refl;
    seen = rw (empty-is, count-is);
    sends = sym (sent-all set b me eight);
    kept = refl;
    freed = refl;
    woke = refl;
    fits = record { rest = tt; left = refl; tag = refl; eight = empty-eight };
  },
)

pub get_ro_at_home_ro : (b me home from : ℕ) (set : List Bool) (owner acks : ℕ) (d : Data) → length set ≡ 8 → from < 8 →
    Row b me home (calm HomeRo set owner acks ReadOnly d) cases.GetRo from None
unfolding states_d payload_of
get_ro_at_home_ro b me home from set owner acks d eight small to c = (
  calm HomeRo (with set from) owner acks ReadOnly d,
  record {
    end = refl;
    here = refl;
    seen = rw (with-is set from eight small);
    sends = refl;
    kept = refl;
    freed = refl;
    woke = refl;
    fits = record { rest = tt; left = refl; tag = refl; eight = with-eight set from eight };
  },
)

pub get_rw_with_others : (b me home from : ℕ) (set : List Bool) (owner acks : ℕ) (d : Data) →
    nat_lt 0 (count (without set from)) ≡ true → length set ≡ 8 → from < 8 →
    Row b me home (calm HomeRo set owner acks ReadOnly d) cases.GetRw from None
unfolding states_d payload_of
get_rw_with_others b me home from set owner acks d h eight small to c =
    let same : cases.members 8 (without_node (has set) from) ≡ count (without set from) =
    rw (← without-is set from eight small) (sym (count-is (without set from))) in
    rw (same, h) (
      holding HomeAcks (OfRw from) 1 empty owner (count (without set from)) ReadOnly d,
      record {
        end = refl;
        here = refl;
        seen = rw empty-is;
        sends = ap (λ f. inv_all 8 f b me) (sym (without-is set from eight small))
            ∙ sym (sent-all (without set from) b me (without-eight set from eight));
        kept = refl;
        freed = refl;
        woke = refl;
        fits =
            record { rest = small; left = refl; tag = refl; eight = empty-eight };
      },
    )

pub get_rw_alone : (b me home from : ℕ) (set : List Bool) (owner acks : ℕ) (d : Data) →
    nat_lt 0 (count (without set from)) ≡ false → length set ≡ 8 → from < 8 →
    Row b me home (calm HomeRo set owner acks ReadOnly d) cases.GetRw from None
unfolding states_d payload_of
get_rw_alone b me home from set owner acks d h eight small to c =
    let same : cases.members 8 (without_node (has set) from) ≡ count (without set from) =
    rw (← without-is set from eight small) (sym (count-is (without set from))) in
    rw (same, h) (
      calm HomeExcl (without set from) from (count (without set from)) Invalid d,
      record {
        end = refl;
        here = refl;
        seen = rw (without-is set from eight small, none _ h);
        sends = refl;
        kept = refl;
        freed = refl;
        woke = refl;
        fits = record { rest = tt; left = refl; tag = refl; eight = without-eight set from eight };
      },
    )

pub rd_fault_at_home_excl : (b me home : ℕ) (set : List Bool) (owner acks : ℕ) (d : Data) → length set ≡ 8 →
    Row b me home (calm HomeExcl set owner acks Invalid d) cases.RdFault me None
unfolding states_d payload_of
rd_fault_at_home_excl b me home set owner acks d eight to c = (
  holding HomePut OfLoad 2 set owner acks Invalid d,
  record {
    end = refl;
    here = refl;
    seen = refl;
    sends = refl;
    kept = refl;
    freed = refl;
    woke = refl;
    fits = record { rest = tt; left = refl; tag = refl; eight = eight };
  },
)

pub wr_fault_at_home_excl : (b me home : ℕ) (set : List Bool) (owner acks : ℕ) (d : Data) → length set ≡ 8 →
    Row b me home (calm HomeExcl set owner acks Invalid d) cases.WrFault me None
unfolding states_d payload_of
wr_fault_at_home_excl b me home set owner acks d eight to c = (
  holding HomePut OfHome 2 set owner acks Invalid d,
  record {
    end = refl;
    here = refl;
    seen = refl;
    sends = refl;
    kept = refl;
    freed = refl;
    woke = refl;
    fits = record { rest = tt; left = refl; tag = refl; eight = eight };
  },
)

pub get_ro_at_home_excl : (b me home from : ℕ) (set : List Bool) (owner acks : ℕ) (d : Data) → length set ≡ 8 → from < 8 →
    Row b me home (calm HomeExcl set owner acks Invalid d) cases.GetRo from None
unfolding states_d payload_of
get_ro_at_home_excl b me home from set owner acks d eight small to c = (
  holding HomePut (OfRo from) 2 set owner acks Invalid d,
  record {
    end = refl;
    here = refl;
    seen = refl;
    sends = refl;
    kept = refl;
    freed = refl;
    woke = refl;
    fits = record { rest = small; left = refl; tag = refl; eight = eight };
  },
)

pub get_rw_at_home_excl : (b me home from : ℕ) (set : List Bool) (owner acks : ℕ) (d : Data) → length set ≡ 8 → from < 8 →
    Row b me home (calm HomeExcl set owner acks Invalid d) cases.GetRw from None
unfolding states_d payload_of
get_rw_at_home_excl b me home from set owner acks d eight small to c = (
  holding HomePut (OfRw from) 2 set owner acks Invalid d,
  record {
    end = refl;
    here = refl;
    seen = refl;
    sends = refl;
    kept = refl;
    freed = refl;
    woke = refl;
    fits = record { rest = small; left = refl; tag = refl; eight = eight };
  },
)

pub more_acks_home : (b me home from : ℕ) (set : List Bool) (owner acks : ℕ) (d : Data) → (left : ℕ) → left ≡ 1 →
    nat_lt 1 acks ≡ true → length set ≡ 8 → from < 8 → Row b me home
    (holding HomeAcks OfHome left set owner acks ReadOnly d) cases.Ack from None
unfolding states_d payload_of
more_acks_home b me home from set owner acks d left fit h eight small to c =
    rw (h, more acks h) (
      holding HomeAcks OfHome left set owner (acks - 1) ReadOnly d,
      record {
        end = refl;
        here = refl;
        seen = refl;
        sends = refl;
        kept = refl;
        freed = refl;
        woke = refl;
        fits = record { rest = tt; left = fit; tag = refl; eight = eight };
      },
    )

pub more_acks_rw : (b me home from : ℕ) (set : List Bool) (owner acks : ℕ) (d : Data) → (left : ℕ) → left ≡ 1 → (a : ℕ) →
    a < 8 → nat_lt 1 acks ≡ true → length set ≡ 8 → from < 8 →
    Row b me home (holding HomeAcks (OfRw a) left set owner acks ReadOnly d) cases.Ack from None
unfolding states_d payload_of
more_acks_rw b me home from set owner acks d left fit a few h eight small to c =
    rw (h, more acks h) (
      holding HomeAcks (OfRw a) left set owner (acks - 1) ReadOnly d,
      record {
        end = refl;
        here = refl;
        seen = refl;
        sends = refl;
        kept = refl;
        freed = refl;
        woke = refl;
        fits = record { rest = few; left = fit; tag = refl; eight = eight };
      },
    )

pub last_ack_home : (b me home from : ℕ) (set : List Bool) (owner acks : ℕ) (d : Data) → (left : ℕ) → nat_lt 1 acks ≡ false →
    length set ≡ 8 → from < 8 → Row b me home (holding HomeAcks OfHome left set owner acks ReadOnly d) cases.Ack from None
unfolding states_d payload_of
last_ack_home b me home from set owner acks d left h eight small to c =
    rw (h, last acks h) (
      calm HomeRw set owner (acks - 1) ReadWrite d,
      record {
        end = refl;
        here = refl;
        seen = rw (not_more acks h);
        sends = refl;
        kept = refl;
        freed = refl;
        woke = refl;
        fits = record { rest = tt; left = refl; tag = refl; eight = eight };
      },
    )

pub last_ack_rw : (b me home from : ℕ) (set : List Bool) (owner acks : ℕ) (d : Data) → (left : ℕ) → (a : ℕ) →
    nat_lt 1 acks ≡ false → length set ≡ 8 → from < 8 → Row b me home
    (holding HomeAcks (OfRw a) left set owner acks ReadOnly d) cases.Ack from None
unfolding states_d payload_of
last_ack_rw b me home from set owner acks d left a h eight small to c =
    rw (h, last acks h) (
      calm HomeExcl set a (acks - 1) Invalid d,
      record {
        end = refl;
        here = refl;
        seen = rw (not_more acks h);
        sends = refl;
        kept = refl;
        freed = refl;
        woke = refl;
        fits = record { rest = tt; left = refl; tag = refl; eight = eight };
      },
    )

pub put_for_store : (b me home from : ℕ) (set : List Bool) (owner acks : ℕ) (d : Data) (w : Data) → (left : ℕ) →
    length set ≡ 8 → from < 8 → Row b me home (holding HomePut OfHome left set owner acks Invalid d) cases.Put from (Some w)
unfolding states_d payload_of
put_for_store b me home from set owner acks d w left eight small to c = (
  calm HomeRw set owner acks ReadWrite w,
  record {
    end = refl;
    here = refl;
    seen = refl;
    sends = refl;
    kept = refl;
    freed = refl;
    woke = refl;
    fits = record { rest = tt; left = refl; tag = refl; eight = eight };
  },
)

pub put_for_load : (b me home from : ℕ) (set : List Bool) (owner acks : ℕ) (d : Data) (w : Data) → (left : ℕ) → owner < 8 →
    length set ≡ 8 → from < 8 → Row b me home (holding HomePut OfLoad left set owner acks Invalid d) cases.Put from (Some w)
unfolding states_d payload_of
put_for_load b me home from set owner acks d w left held eight small to c = (
  calm HomeRo (with empty owner) owner acks ReadOnly w,
  record {
    end = refl;
    here = refl;
    seen = rw (with-is empty owner empty-eight held, empty-is);
    sends = refl;
    kept = refl;
    freed = refl;
    woke = refl;
    fits = record { rest = tt; left = refl; tag = refl; eight = with-eight empty owner empty-eight };
  },
)

pub put_for_reader : (b me home from : ℕ) (set : List Bool) (owner acks : ℕ) (d : Data) (w : Data) → (left : ℕ) → (a : ℕ) →
    a < 8 → owner < 8 → length set ≡ 8 → from < 8 → Row b me home
    (holding HomePut (OfRo a) left set owner acks Invalid d) cases.Put from (Some w)
unfolding states_d payload_of
put_for_reader b me home from set owner acks d w left a few held eight small to c = (
  calm HomeRo (with (with empty owner) a) owner acks ReadOnly w,
  record {
    end = refl;
    here = refl;
    seen = rw (
      with-is (with empty owner) a (with-eight empty owner empty-eight) few,
      with-is empty owner empty-eight held,
      empty-is,
    );
    sends = refl;
    kept = refl;
    freed = refl;
    woke = refl;
    fits = record {
      rest = tt;
      left = refl;
      tag = refl;
      eight = with-eight (with empty owner) a
          (with-eight empty owner empty-eight);
    };
  },
)

pub put_for_writer : (b me home from : ℕ) (set : List Bool) (owner acks : ℕ) (d : Data) (w : Data) → (left : ℕ) → (a : ℕ) →
    length set ≡ 8 → from < 8 → Row b me home (holding HomePut (OfRw a) left set owner acks Invalid d) cases.Put from (Some w)
unfolding states_d payload_of
put_for_writer b me home from set owner acks d w left a eight small to c = (
  calm HomeExcl set a acks Invalid w,
  record {
    end = refl;
    here = refl;
    seen = refl;
    sends = refl;
    kept = refl;
    freed = refl;
    woke = refl;
    fits = record { rest = tt; left = refl; tag = refl; eight = eight };
  },
)

pub put_ro_for_store : (b me home from : ℕ) (set : List Bool) (owner acks : ℕ) (d : Data) (w : Data) → (left : ℕ) →
    length set ≡ 8 → from < 8 → Row b me home (holding HomePut OfHome left set owner acks Invalid d) cases.PutRo from (Some w)
unfolding states_d payload_of
put_ro_for_store b me home from set owner acks d w left eight small to c = (
  calm HomeRw set owner acks ReadWrite w,
  record {
    end = refl;
    here = refl;
    seen = refl;
    sends = refl;
    kept = refl;
    freed = refl;
    woke = refl;
    fits = record { rest = tt; left = refl; tag = refl; eight = eight };
  },
)

pub put_ro_for_load : (b me home from : ℕ) (set : List Bool) (owner acks : ℕ) (d : Data) (w : Data) → (left : ℕ) → owner < 8 →
    length set ≡ 8 → from < 8 → Row b me home (holding HomePut OfLoad left set owner acks Invalid d) cases.PutRo from (Some w)
unfolding states_d payload_of
put_ro_for_load b me home from set owner acks d w left held eight small to c = (
  calm HomeRo (with empty owner) owner acks ReadOnly w,
  record {
    end = refl;
    here = refl;
    seen = rw (with-is empty owner empty-eight held, empty-is);
    sends = refl;
    kept = refl;
    freed = refl;
    woke = refl;
    fits = record { rest = tt; left = refl; tag = refl; eight = with-eight empty owner empty-eight };
  },
)

pub put_ro_for_reader : (b me home from : ℕ) (set : List Bool) (owner acks : ℕ) (d : Data) (w : Data) → (left : ℕ) → (a : ℕ) →
    a < 8 → owner < 8 → length set ≡ 8 → from < 8 → Row b me home
    (holding HomePut (OfRo a) left set owner acks Invalid d) cases.PutRo from (Some w)
unfolding states_d payload_of
put_ro_for_reader b me home from set owner acks d w left a few held eight small to c = (
  calm HomeRo (with (with empty owner) a) owner acks ReadOnly w,
  record {
    end = refl;
    here = refl;
    seen = rw (
      with-is (with empty owner) a (with-eight empty owner empty-eight) few,
      with-is empty owner empty-eight held,
      empty-is,
    );
    sends = refl;
    kept = refl;
    freed = refl;
    woke = refl;
    fits = record {
      rest = tt;
      left = refl;
      tag = refl;
      eight = with-eight (with empty owner) a
          (with-eight empty owner empty-eight);
    };
  },
)

pub put_ro_for_writer : (b me home from : ℕ) (set : List Bool) (owner acks : ℕ) (d : Data) (w : Data) → (left : ℕ) → (a : ℕ) →
    length set ≡ 8 → from < 8 → Row b me home (holding HomePut (OfRw a) left set owner acks Invalid d) cases.PutRo from (Some w)
unfolding states_d payload_of
put_ro_for_writer b me home from set owner acks d w left a eight small to c = (
  calm HomeExcl set a acks Invalid w,
  record {
    end = refl;
    here = refl;
    seen = refl;
    sends = refl;
    kept = refl;
    freed = refl;
    woke = refl;
    fits = record { rest = tt; left = refl; tag = refl; eight = eight };
  },
)

pub rd_fault_at_cache_inv : (b me home : ℕ) (set : List Bool) (owner acks : ℕ) (d : Data) → length set ≡ 8 →
    Row b me home (calm CacheInv set owner acks Invalid d) cases.RdFault me None
unfolding states_d payload_of
rd_fault_at_cache_inv b me home set owner acks d eight to c = (
  holding CacheWaitRo OfCache 5 set owner acks Invalid d,
  record {
    end = refl;
    here = refl;
    seen = refl;
    sends = refl;
    kept = refl;
    freed = refl;
    woke = refl;
    fits = record { rest = tt; left = refl; tag = refl; eight = eight };
  },
)

pub wr_fault_at_cache_inv : (b me home : ℕ) (set : List Bool) (owner acks : ℕ) (d : Data) → length set ≡ 8 →
    Row b me home (calm CacheInv set owner acks Invalid d) cases.WrFault me None
unfolding states_d payload_of
wr_fault_at_cache_inv b me home set owner acks d eight to c = (
  holding CacheWaitRw OfCache 5 set owner acks Invalid d,
  record {
    end = refl;
    here = refl;
    seen = refl;
    sends = refl;
    kept = refl;
    freed = refl;
    woke = refl;
    fits = record { rest = tt; left = inl refl; tag = refl; eight = eight };
  },
)

pub wr_fault_at_cache_ro : (b me home : ℕ) (set : List Bool) (owner acks : ℕ) (d : Data) → length set ≡ 8 →
    Row b me home (calm CacheRo set owner acks ReadOnly d) cases.WrFault me None
unfolding states_d payload_of
wr_fault_at_cache_ro b me home set owner acks d eight to c = (
  holding CacheWaitRw OfCache 6 set owner acks Invalid d,
  record {
    end = refl;
    here = refl;
    seen = refl;
    sends = refl;
    kept = refl;
    freed = refl;
    woke = refl;
    fits = record { rest = tt; left = inr refl; tag = refl; eight = eight };
  },
)

pub inv_at_cache_ro : (b me home from : ℕ) (set : List Bool) (owner acks : ℕ) (d : Data) → length set ≡ 8 → from < 8 →
    Row b me home (calm CacheRo set owner acks ReadOnly d) cases.Inv from None
unfolding states_d payload_of
inv_at_cache_ro b me home from set owner acks d eight small to c = (
  calm CacheInv set owner acks Invalid d,
  record {
    end = refl;
    here = refl;
    seen = refl;
    sends = refl;
    kept = refl;
    freed = refl;
    woke = refl;
    fits = record { rest = tt; left = refl; tag = refl; eight = eight };
  },
)

pub recall_at_cache_rw : (b me home from : ℕ) (set : List Bool) (owner acks : ℕ) (d : Data) → length set ≡ 8 → from < 8 →
    Row b me home (calm CacheRw set owner acks ReadWrite d) cases.Recall from None
unfolding states_d payload_of
recall_at_cache_rw b me home from set owner acks d eight small to c = (
  calm CacheInv set owner acks Invalid d,
  record {
    end = refl;
    here = refl;
    seen = refl;
    sends = refl;
    kept = refl;
    freed = refl;
    woke = refl;
    fits = record { rest = tt; left = refl; tag = refl; eight = eight };
  },
)

pub recall_ro_at_cache_rw : (b me home from : ℕ) (set : List Bool) (owner acks : ℕ) (d : Data) → length set ≡ 8 → from < 8 →
    Row b me home (calm CacheRw set owner acks ReadWrite d) cases.RecallRo from None
unfolding states_d payload_of
recall_ro_at_cache_rw b me home from set owner acks d eight small to c = (
  calm CacheRo set owner acks ReadOnly d,
  record {
    end = refl;
    here = refl;
    seen = refl;
    sends = refl;
    kept = refl;
    freed = refl;
    woke = refl;
    fits = record { rest = tt; left = refl; tag = refl; eight = eight };
  },
)

pub data_ro_came : (b me home from : ℕ) (set : List Bool) (owner acks : ℕ) (d : Data) (w : Data) → (left : ℕ) →
    length set ≡ 8 → from < 8 → Row b me home (holding CacheWaitRo OfCache left set owner acks Invalid d) cases.DataRo from
    (Some w)
unfolding states_d payload_of
data_ro_came b me home from set owner acks d w left eight small to c = (
  calm CacheRo set owner acks ReadOnly w,
  record {
    end = refl;
    here = refl;
    seen = refl;
    sends = refl;
    kept = refl;
    freed = refl;
    woke = refl;
    fits = record { rest = tt; left = refl; tag = refl; eight = eight };
  },
)

pub data_rw_came : (b me home from : ℕ) (set : List Bool) (owner acks : ℕ) (d : Data) (w : Data) → (left : ℕ) →
    length set ≡ 8 → from < 8 → Row b me home (holding CacheWaitRw OfCache left set owner acks Invalid d) cases.DataRw from
    (Some w)
unfolding states_d payload_of
data_rw_came b me home from set owner acks d w left eight small to c = (
  calm CacheRw set owner acks ReadWrite w,
  record {
    end = refl;
    here = refl;
    seen = refl;
    sends = refl;
    kept = refl;
    freed = refl;
    woke = refl;
    fits = record { rest = tt; left = refl; tag = refl; eight = eight };
  },
)

pub inv_at_cache_wait_rw : (b me home from : ℕ) (set : List Bool) (owner acks : ℕ) (d : Data) → (left : ℕ) →
    LeftFits CacheWaitRw left → length set ≡ 8 → from < 8 → Row b me home
    (holding CacheWaitRw OfCache left set owner acks Invalid d) cases.Inv from None
unfolding states_d payload_of
inv_at_cache_wait_rw b me home from set owner acks d left fit eight small to c = (
  holding CacheWaitRw OfCache left set owner acks Invalid d,
  record {
    end = refl;
    here = refl;
    seen = refl;
    sends = refl;
    kept = refl;
    freed = refl;
    woke = refl;
    fits = record { rest = tt; left = fit; tag = refl; eight = eight };
  },
)
