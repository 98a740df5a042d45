-- Memory is taken for a record more: the node stands for the courses that it stood for.
use Rattle.std.proofs.Common.{◌≡◌, ◌∙◌, ℕ, zero, suc, Bool, List, Option, Some, None, refl, ap, sym, subst}
use Rattle.std.specs.Prelude.{map}
use Rattle.std.specs.List.{slice_index_or}
use Rattle.tw_base.specs.Lists.{Each}
use Rattle.teapot_tree.specs.declared.protocol.Protocol.{Protocol}
use Rattle.cont_store.specs.declared.record.Record.{Record}
use Rattle.cont_store.specs.declared.record.RecordKey.{RecordKey}
use Rattle.cont_store.specs.Store.{Store, chain_of, chained, places_of, record_at}
use Rattle.handler_vm.specs.Apart.{AreChains}
use Rattle.handler_vm.specs.Chains.{Chained, ends, heads, IsChain, IsOn, newest, older, IsWholeRecord, records_of, saved_from}
use Rattle.handler_vm.specs.Chains.{saved_of}
use Rattle.handler_code.specs.Machine.{Saved}
use Rattle.handler_vm.specs.Leaves.{kept_of}
use Rattle.compiled_meaning.specs.Whole.{CellStands}
use Rattle.dsm_runs.specs.Replays.{begin}
use Rattle.dsm_runs.specs.Beside.{ReplaysBeside}
use Rattle.node_meaning.specs.Nodes.{Shown, cell_at, tally_of}
use Rattle.node_meaning.specs.Stands.{IsTallyWithin, IsWell, StandsAsBefore}
use Rattle.node_meaning.specs.Tallies.{Counts, Tally, first_tally}

abbrev pub sparing : Store → ℕ → Store
sparing s k = record s { spare = k }

places_same : (s : Store) (k c : ℕ) → places_of (sparing s k) c ≡ places_of s c
places_same s k zero = refl
places_same s k (suc zero) = refl
places_same s k (suc (suc zero)) = refl
places_same s k (suc (suc (suc c))) = refl

record_same : (s : Store) (k : ℕ) (key : RecordKey) → record_at (sparing s k) key ≡ record_at s key
record_same s k key = ap (λ (xs : List (Option Record)). slice_index_or xs key.at None) (places_same s k key.class)

chain_same : (s : Store) (k : ℕ) (key : Option RecordKey) (depth : ℕ) → chain_of (sparing s k) key depth ≡ chain_of s key depth
chain_same s k key zero = refl
chain_same s k key (suc depth) = go (λ parent. chain_same s k parent depth) key
  where
    go : ((parent : Option RecordKey) → chain_of (sparing s k) parent depth ≡ chain_of s parent depth)
        → (key : Option RecordKey) → chain_of (sparing s k) key (suc depth) ≡ chain_of s key (suc depth)
    go more None = refl
    go more (Some key) = λ j. chained (record_same s k key j) (λ parent. more parent j)

pub records_same : (s : Store) (k : ℕ) (key : Option RecordKey) → records_of (sparing s k) key ≡ records_of s key
records_same s k key = chain_same s k key 8

pub saved_same : (p : Protocol) (s : Store) (k : ℕ) (key : Option RecordKey)
    → saved_from p (sparing s k) key ≡ saved_from p s key
saved_same p s k key = ap (map (saved_of p)) (records_same s k key)

chained_same : (s : Store) (k : ℕ) {key : Option RecordKey} {rs : List Record} → Chained s key rs → Chained (sparing s k) key rs
chained_same s k ends = ends
chained_same s k (heads {key} at depth more) = heads (record_same s k key ∙ at) depth (chained_same s k more)

pub is_chain_same : (words : ℕ) (s : Store) (k : ℕ) (key : Option RecordKey) → IsChain words s key
    → IsChain words (sparing s k) key
is_chain_same words s k key h = record {
  named = subst (λ (rs : List Record). Chained (sparing s k) key rs) (sym (records_same s k key)) (chained_same s k h.named);
  whole = subst (Each (IsWholeRecord words)) (sym (records_same s k key)) h.whole;
}

on_back : (s : Store) (k : ℕ) {key : Option RecordKey} {other : RecordKey} → IsOn (sparing s k) key other → IsOn s key other
on_back s k newest = newest
on_back s k (older {key} at more) = older (sym (record_same s k key) ∙ at) (on_back s k more)

pub chains_same : (words : ℕ) (s : Store) (k : ℕ) (conts : ℕ → Option RecordKey) → AreChains words s conts
    → AreChains words (sparing s k) conts
chains_same words s k conts h = record {
  whole = λ block. is_chain_same words s k (conts block) (h.whole block);
  apart = λ a b d key on on2. h.apart a b d key (on_back s k on) (on_back s k on2);
}

-- ---- a node

abbrev pub with_room : Shown → Bool → ℕ → Shown
with_room n ready k = record n { ready = ready; conts = sparing n.conts k }

pub tally_same : (n : Shown) (ready : Bool) (k : ℕ) → tally_of n ≡ tally_of (with_room n ready k)
tally_same n ready k = λ j. record {
  cells = λ b. kept_of n.setup.protocol (cell_at n b);
  chains = λ b. sym (saved_same n.setup.protocol n.conts k (cell_at n b).cont) j;
  ops = n.ops;
  records = n.records;
}

pub spares_well : (n : Shown) (ready : Bool) (k : ℕ) → IsWell n → IsWell (with_room n ready k)
spares_well n ready k w = record {
  setup = w.setup;
  code = w.code;
  short = w.short;
  at_node = w.at_node;
  copies = w.copies;
  shape = w.shape;
  cells = w.cells;
  chains = chains_same n.setup.shape.words n.conts k (λ b. (cell_at n b).cont) w.chains;
  within = subst (λ (t : Tally). IsTallyWithin n.setup.shape.nodes t) (tally_same n ready k) w.within;
  all_fronts = w.all_fronts;
  all_accepted = w.all_accepted;
  all_posted = w.all_posted;
  fronts = λ f ch m h. let x = w.fronts f ch m h in record { fit = x.fit; chan = x.chan; number = x.number };
  waiting = w.waiting;
  deferred = w.deferred;
  few_sent = w.few_sent;
  few_posted = w.few_posted;
  few_accepted = w.few_accepted;
}

pub spares_standing : (n : Shown) (ready : Bool) (k : ℕ) → StandsAsBefore n (with_room n ready k)
spares_standing n ready k = λ c s. record {
  replays = subst (λ (t : Tally). ReplaysBeside (Counts n.setup n.code) n.setup n.me (begin n.setup n.me)
      (first_tally n.setup n.me) n.log c t) (tally_same n ready k) s.replays;
  parts = s.parts;
  blocks = λ b lt. let x = s.blocks b lt in record {
    tag = x.tag;
    words = x.words;
    chain = is_chain_same n.copies.shape.words n.conts k (cell_at n b).cont x.chain;
    cell = subst (λ (chain : List Saved). CellStands n.setup.protocol n.code (kept_of n.setup.protocol (cell_at n b)) chain
        (c.local.blocks b)) (sym (saved_same n.setup.protocol n.conts k (cell_at n b).cont)) x.cell;
  };
  sound = s.sound;
  took = s.took;
  sent = s.sent;
  fit = s.fit;
}
