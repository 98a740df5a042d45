-- Messages of a protocol, by their numbers.
use Rattle.std.proofs.Common.{Bool, true, false, ◌≡◌, ℕ, zero, suc, ◌<◌, List, [], ◌∷◌, map, Option, Some, None, refl, sym, ap}
use Rattle.std.proofs.Common.{◌∙◌}
use Rattle.std.specs.Prelude.{is_some, slice_get}
use Rattle.tw_base.specs.declared.message.Kind.{Kind}
use Rattle.tw_base.specs.declared.message.Kind.TheVariants as number
use Rattle.tw_base.specs.declared.message.Message.{Message}
use Rattle.tw_base.specs.declared.value.Data.{Data}
use Rattle.teapot_tree.specs.Bare.{bare_message}
use Rattle.teapot_tree.specs.Rules.{carries}
use Rattle.teapot_tree.specs.declared.protocol.MessageDecl.{MessageDecl}
use Rattle.teapot_tree.specs.declared.protocol.Protocol.{Protocol}
use Rattle.teapot_meaning.specs.Fits.{HasWords, IsMessageOf, is_known}
use Rattle.teapot_meaning.specs.declared.state.Here.{Here as Place}
use Rattle.dsm_runs.specs.Invariants.{is_fault}
use Rattle.dsm_runs.specs.Messages.{chan_of, declared_chan}
use Rattle.block_spots.specs.Cases as cases
use Rattle.block_spots.specs.Cases.{channel_of}
use Rattle.block_spots.specs.Notes.{note, note_of}
use Rattle.block_spots.specs.Views.{seen_kind, seen_message, words_in}
use Rattle.stache_table.specs.Blocks.{kind_of}
use Rattle.stache_table.specs.Laws.{IsOwn}
use Rattle.coherence_frame.specs.Parts.{IsTreeOf}
use Rattle.coherence_frame.proofs.Scheme.{HasLength, IsComing, IsNumbered, Scheme, has_data}

-- ---- kinds

pub bare_some : (ms : List MessageDecl) (n : ℕ) → is_some (slice_get (map bare_message ms) n) ≡ is_some (slice_get ms n)
bare_some [] n = refl
bare_some (m ∷ ms) zero = refl
bare_some (m ∷ ms) (suc n) = bare_some ms n

bare_chan : (ms : List MessageDecl) (n : ℕ) → declared_chan (slice_get (map bare_message ms) n) ≡ declared_chan (slice_get ms n)
bare_chan [] n = refl
bare_chan (m ∷ ms) zero = refl
bare_chan (m ∷ ms) (suc n) = bare_chan ms n

-- ---- messages

pub bare_carries : (ms : List MessageDecl) (n : ℕ) → carries (slice_get (map bare_message ms) n) ≡ carries (slice_get ms n)
bare_carries [] n = refl
bare_carries (m ∷ ms) zero = refl
bare_carries (m ∷ ms) (suc n) = bare_carries ms n

-- a message with a number is no fault
named_own : (n from me : ℕ) → from < 8 → IsOwn (seen_kind (number.Named n)) from me
named_own zero from me l = l
named_own (suc zero) from me l = l
named_own (suc (suc zero)) from me l = l
named_own (suc (suc (suc zero))) from me l = l
named_own (suc (suc (suc (suc zero)))) from me l = l
named_own (suc (suc (suc (suc (suc zero))))) from me l = l
named_own (suc (suc (suc (suc (suc (suc zero)))))) from me l = l
named_own (suc (suc (suc (suc (suc (suc (suc zero))))))) from me l = l
named_own (suc (suc (suc (suc (suc (suc (suc (suc zero)))))))) from me l = l
named_own (suc (suc (suc (suc (suc (suc (suc (suc (suc zero))))))))) from me l = l
named_own (suc (suc (suc (suc (suc (suc (suc (suc (suc (suc n)))))))))) from me l = l

some_words : (w : ℕ) (o : Option Data) → HasWords w o → is_some o ≡ true
some_words w (Some d) h = refl
some_words w None h = absurd h

carried_if : (w : ℕ) (o : Option Data) (b : Bool) → (b ≡ true → HasWords w o) → (b ≡ false → o ≡ None) → is_some o ≡ b
carried_if w o true h k = some_words w o (h refl)
carried_if w o false h k = rw (k refl) refl

long_kind : (k : cases.Kind) (w : ℕ) (o : Option Data) → (has_data k ≡ true → HasWords w o) → HasLength w (note_of k (words_in o))
long_kind cases.DataRo w (Some d) h = h refl
long_kind cases.DataRo w None h = absurd (h refl)
long_kind cases.DataRw w (Some d) h = h refl
long_kind cases.DataRw w None h = absurd (h refl)
long_kind cases.Put w (Some d) h = h refl
long_kind cases.Put w None h = absurd (h refl)
long_kind cases.PutRo w (Some d) h = h refl
long_kind cases.PutRo w None h = absurd (h refl)
long_kind cases.RdFault w o h = tt
long_kind cases.WrFault w o h = tt
long_kind cases.GetRo w o h = tt
long_kind cases.GetRw w o h = tt
long_kind cases.Inv w o h = tt
long_kind cases.Ack w o h = tt
long_kind cases.Recall w o h = tt
long_kind cases.RecallRo w o h = tt

module _ (scheme : Scheme) where
  known_there : (p : Protocol) (n : ℕ) → IsTreeOf scheme.wording p → is_some (slice_get p.messages n) ≡ true →
      is_some (slice_get scheme.wording.tree.messages n) ≡ true
  known_there p n is known = sym (ap (λ q. is_some (slice_get q.messages n)) is) ∙ bare_some p.messages n ∙ known

  numbered_there : (p : Protocol) (n : ℕ) → IsTreeOf scheme.wording p → is_some (slice_get p.messages n) ≡ true →
      IsNumbered scheme.wording.tree n
  numbered_there p n is known = scheme.shows.numbers n (known_there p n is known)

  carried_is : (p : Protocol) (n : ℕ) → IsTreeOf scheme.wording p → is_some (slice_get p.messages n) ≡ true →
      carries (slice_get p.messages n) ≡ has_data (seen_kind (number.Named n))
  carried_is p n is known = sym (bare_carries p.messages n) ∙ ap (λ q. carries (slice_get q.messages n)) is
      ∙ (numbered_there p n is known).2

  kind_back : (p : Protocol) (k : Kind) → IsTreeOf scheme.wording p → is_known p k ≡ true → k ≡ kind_of (seen_kind k)
  kind_back p number.RdFault is known = refl
  kind_back p number.WrFault is known = refl
  kind_back p (number.Named n) is known = sym (numbered_there p n is known).0

  known_here : (p : Protocol) (k : Kind) → IsTreeOf scheme.wording p → is_known p k ≡ true → is_known scheme.wording.tree k ≡ true
  known_here p number.RdFault is known = refl
  known_here p number.WrFault is known = refl
  known_here p (number.Named n) is known = known_there p n is known

  pub channel_declared : (p : Protocol) (k : Kind) → IsTreeOf scheme.wording p → is_known p k ≡ true →
      chan_of p k ≡ channel_of (seen_kind k)
  channel_declared p number.RdFault is known = refl
  channel_declared p number.WrFault is known = refl
  channel_declared p (number.Named n) is known = sym (bare_chan p.messages n)
      ∙ ap (λ q. declared_chan (slice_get q.messages n)) is ∙ (numbered_there p n is known).1

  -- a message of the protocol: a fault is the node's own, another comes from one of eight nodes
  pub message_coming : (p : Protocol) (w : ℕ) (m : Message) (here : Place) → IsTreeOf scheme.wording p → IsMessageOf p w m →
      (is_fault m.kind ≡ true → m.from ≡ here.me) → m.from < 8 → m.block ≡ here.block → IsComing scheme.wording.tree m here
  message_coming p w m here is of own lt block = record {
    known = known_here p m.kind is of.known;
    kind = kind_back p m.kind is of.known;
    block = block;
    from = from m.kind refl;
    carried = carried m.kind refl;
  }
    where
      from : (k : Kind) → m.kind ≡ k → IsOwn (seen_kind m.kind) m.from here.me
      from number.RdFault e = rw e (own (rw e refl))
      from number.WrFault e = rw e (own (rw e refl))
      from (number.Named n) e = rw e (named_own n m.from here.me lt)

      carried : (k : Kind) → m.kind ≡ k → is_some m.payload ≡ has_data (seen_kind m.kind)
      carried number.RdFault e = let none : m.payload ≡ None = (let z = of.plain in rw e at z) refl in rw (e, none) refl
      carried number.WrFault e = let none : m.payload ≡ None = (let z = of.plain in rw e at z) refl in rw (e, none) refl
      carried (number.Named n) e =
          let known : is_some (slice_get p.messages n) ≡ true = (let z = of.known in rw e at z) in
          let words : carries (slice_get p.messages n) ≡ true → HasWords w m.payload = (let z = of.carried in rw e at z) in
          let plain : carries (slice_get p.messages n) ≡ false → m.payload ≡ None = (let z = of.plain in rw e at z) in
          carried_if w m.payload (carries (slice_get p.messages n)) words plain ∙ carried_is p n is known
          ∙ ap (λ k. has_data (seen_kind k)) (sym e)

  pub long_message : (p : Protocol) (w : ℕ) (m : Message) → IsTreeOf scheme.wording p → IsMessageOf p w m →
      HasLength w (note (seen_message m))
  long_message p w m is of = go m.kind refl
    where
      go : (k : Kind) → m.kind ≡ k → HasLength w (note (seen_message m))
      go number.RdFault e = rw e tt
      go number.WrFault e = rw e tt
      go (number.Named n) e =
          let known : is_some (slice_get p.messages n) ≡ true = (let z = of.known in rw e at z) in
          let words : carries (slice_get p.messages n) ≡ true → HasWords w m.payload = (let z = of.carried in rw e at z) in
          rw e (long_kind (seen_kind (number.Named n)) w m.payload (λ x. words (carried_is p n is known ∙ x)))
