-- The chains of two blocks of a store: whole and apart after a message at one of them, and where the store names the same
-- records.
use Rattle.std.proofs.Common.{◌≡◌, ◌∙◌, ◌<◌, ℕ, zero, suc, List, length, Option, None, refl, sym, ap, subst, arith}
use Rattle.std.specs.Prelude.{◌≢◌, map}
use Rattle.tw_base.specs.Shape.{Sizes}
use Rattle.tw_base.specs.declared.value.Tag.{Tag}
use Rattle.cont_store.specs.declared.record.Record.{Record}
use Rattle.cont_store.specs.declared.record.RecordKey.{RecordKey}
use Rattle.cont_store.specs.Store.{Store, record_at}
use Rattle.teapot_tree.specs.declared.protocol.Protocol.{Protocol}
use Rattle.teapot_meaning.specs.declared.state.Here.{Here}
use Rattle.block_tags.specs.Copies.{Copies, IsWhole, tag_of, block_words, with_block, with_tag}
use Rattle.handler_code.specs.declared.code.Code.{Code}
use Rattle.handler_vm.specs.declared.cell.Cell.{Cell}
use Rattle.handler_vm.specs.Apart.{AreApart, AreChains, ChainsStayApart, StayApart}
use Rattle.handler_vm.specs.Chains.{IsChain, IsOn, KeepsOthers, ends, newest, older, records_of, saved_of}
use Rattle.handler_vm.specs.Leaves.{kept_of}
use Rattle.compiled_meaning.specs.Whole.{CellStands}
use Rattle.compiled_handlers.specs.Standing.{Keeping}
use Rattle.compiled_handlers_tests.specs.Beside.{IsBeside, StaysBeside}
use Rattle.compiled_handlers_tests.proofs.Chaining.{same_chain}
use Rattle.compiled_handlers_tests.proofs.Standing.{stands_again}
use Rattle.compiled_handlers_tests.proofs.Unwritten.{tag_unwritten, words_unwritten}

-- the two chains, and none for all other blocks
abbrev two : Option RecordKey → Option RecordKey → ℕ → Option RecordKey
two a b zero = a
two a b (suc zero) = b
two a b (suc (suc k)) = None

two_whole : (words : ℕ) (store : Store) (a b : Option RecordKey) → IsChain words store a → IsChain words store b → (k : ℕ) →
    IsChain words store (two a b k)
two_whole words store a b h g zero = h
two_whole words store a b h g (suc zero) = g
two_whole words store a b h g (suc (suc k)) = record { named = ends; whole = tt }

two_apart : (store : Store) (a b : Option RecordKey) → AreApart store a b → (i j : ℕ) → i ≢ j →
    AreApart store (two a b i) (two a b j)
two_apart store a b h zero zero d = absurd (d refl)
two_apart store a b h zero (suc zero) d = h
two_apart store a b h zero (suc (suc j)) d = λ k p q. elim q [ ]
two_apart store a b h (suc zero) zero d = λ k p q. h k q p
two_apart store a b h (suc zero) (suc zero) d = absurd (d refl)
two_apart store a b h (suc zero) (suc (suc j)) d = λ k p q. elim q [ ]
two_apart store a b h (suc (suc i)) j d = λ k p q. elim p [ ]

two_same : (a b now : Option RecordKey) (k : ℕ) → k ≢ 0 → two now b k ≡ two a b k
two_same a b now zero d = absurd (d refl)
two_same a b now (suc zero) d = refl
two_same a b now (suc (suc k)) d = refl

-- what a run at the first leaves of the second
record Beside (words : ℕ) (old new : Store) (now b : Option RecordKey) : Type 0 where
  pub chain : IsChain words new b
  pub records : records_of new b ≡ records_of old b
  pub apart : AreApart new now b

one_differs : suc zero ≢ zero
one_differs e = omega arith

zero_differs : zero ≢ suc zero
zero_differs e = omega arith

stays_beside : (words : ℕ) (old new : Store) (was now b : Option RecordKey) → ChainsStayApart → IsChain words old was →
    IsChain words old b → AreApart old was b
    → KeepsOthers old new was now → IsChain words new now → Beside words old new now b
stays_beside words old new was now b law h g apart keeps chain =
    let chains : AreChains words old (two was b) = record {
      whole = two_whole words old was b h g;
      apart = two_apart old was b apart;
    } in
    let stay : StayApart words old new 0 (two was b) (two now b) =
    law words old new 0 (two was b) (two now b) chains keeps chain (two_same was b now) in
    let all = stay.chains in
    record { chain = all.whole 1; records = stay.others 1 one_differs; apart = all.apart 0 1 zero_differs }

-- after a message at one block, which writes its own tag and words alone
pub run_beside :
    (p : Protocol) (code : Code) (old new : Keeping) (block : ℕ) (tag : Tag) (contents : List ℕ) (other : Cell) (there : Here)
    → ChainsStayApart → IsWhole old.blocks → block < old.blocks.shape.blocks → length contents ≡ old.blocks.shape.words
    → new.blocks ≡ with_block (with_tag old.blocks block tag) block contents
    → IsChain old.blocks.shape.words old.conts old.cell.cont → KeepsOthers old.conts new.conts old.cell.cont new.cell.cont →
    IsChain old.blocks.shape.words new.conts new.cell.cont
    → IsBeside p code old block other there → StaysBeside p code old new block other there
run_beside p code old new block tag contents other there law whole within full wrote chain keeps again b =
    let left : Beside old.blocks.shape.words old.conts new.conts new.cell.cont other.cont =
    stays_beside old.blocks.shape.words old.conts new.conts old.cell.cont new.cell.cont other.cont law chain
    b.alike.stands.chain b.apart keeps again in
    let shape : new.blocks.shape ≡ old.blocks.shape = ap (λ m. m.shape) wrote in
    let same_tag : tag_of new.blocks there.block ≡ there.tag =
    ap (λ m. tag_of m there.block) wrote ∙ tag_unwritten old.blocks block there.block tag contents b.differs
    ∙ b.alike.stands.tag in
    let same_words : block_words new.blocks there.block ≡ there.words =
    ap (λ m. block_words m there.block) wrote ∙ words_unwritten old.blocks block there.block tag contents whole within full
    b.differs ∙ b.alike.stands.words in
    record {
      beside = record {
        alike = record {
          fits = b.alike.fits;
          stands = record {
            tag = same_tag;
            words = same_words;
            chain = subst (λ (s : Sizes). IsChain s.words new.conts other.cont) (sym shape) left.chain;
            cell = subst (λ (rs : List Record). CellStands p code (kept_of p other) (map (saved_of p) rs) there)
                (sym left.records) b.alike.stands.cell;
          };
          within = subst (λ (s : Sizes). there.block < s.blocks) (sym shape) b.alike.within;
        };
        differs = b.differs;
        apart = left.apart;
      };
      records = left.records;
    }

-- ---- a store that names the same records

on_old : {old new : Store} → ((key : RecordKey) → record_at new key ≡ record_at old key) →
    {from : Option RecordKey} {k : RecordKey} → IsOn new from k → IsOn old from k
on_old same newest = newest
on_old same (older {key = from} e h) = older (sym (same from) ∙ e) (on_old same h)

room_apart : (old new : Store) (a b : Option RecordKey) → ((key : RecordKey) → record_at new key ≡ record_at old key) →
    AreApart old a b → AreApart new a b
room_apart old new a b same apart = λ k p q. apart k (on_old same p) (on_old same q)

pub room_beside :
    (p : Protocol) (code : Code) (cell other : Cell) (blocks : Copies) (old new : Store) (block : ℕ) (there : Here) →
    ((key : RecordKey) → record_at new key ≡ record_at old key)
    → IsBeside p code (record { cell = cell; blocks = blocks; conts = old }) block other there
    → StaysBeside p code (record { cell = cell; blocks = blocks; conts = old })
    (record { cell = cell; blocks = blocks; conts = new }) block other there
room_beside p code cell other blocks old new block there same b =
    let chain = same_chain blocks.shape.words old new other.cont same b.alike.stands.chain in
    record {
      beside = record {
        alike = record {
          fits = b.alike.fits;
          stands = stands_again p code (record { cell = other; blocks = blocks; conts = old }) there new b.alike.stands chain.0
              chain.1;
          within = b.alike.within;
        };
        differs = b.differs;
        apart = room_apart old new cell.cont other.cont same b.apart;
      };
      records = chain.1;
    }

-- ---- a block that has no records yet

pub none_apart : (store : Store) (a b : Option RecordKey) → b ≡ None → AreApart store a b
none_apart store a b e = subst (AreApart store a) (sym e) (λ k x y. elim y [ ])
