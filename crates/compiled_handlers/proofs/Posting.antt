-- Messages that are not on their wires yet, as the model says them; and the data of a message of a protocol.
use Rattle.std.proofs.Common.{◌≡◌, ◌∙◌, ℕ, ◌-◌, ◌≤◌, Bool, true, false, List, [], ◌∷◌, ◌++◌, Option, Some, None, length, drop}
use Rattle.std.proofs.Common.{take, replicate, refl, sym, ap, arith}
use Rattle.std.specs.Prelude.{All, map, slice_get}
use Rattle.std.proofs.lemmas.List.{length-take-le, take-append-drop, take_all}
use Rattle.std.proofs.lemmas.List.Elements.{All-head, All-tail}
use Rattle.tw_base.specs.declared.message.Kind.{Kind}
use Rattle.tw_base.specs.declared.message.Kind.TheVariants as kind
use Rattle.tw_base.specs.declared.message.Message.{Message}
use Rattle.tw_base.specs.declared.value.Data.{Data}
use Rattle.tw_base.specs.declared.value.Value.{Value}
use Rattle.tw_base.specs.declared.value.Value.TheVariants.{Int}
use Rattle.teapot_tree.specs.Rules.{carries}
use Rattle.teapot_tree.specs.declared.protocol.MessageDecl.{MessageDecl}
use Rattle.teapot_tree.specs.declared.protocol.Protocol.{Protocol}
use Rattle.teapot_meaning.specs.Fits.{HasWords, IsMessageOf, declared_as}
use Rattle.dsm_runs.specs.Args.{padded_args, used_args}
use Rattle.dsm_runs.specs.Messages.{chan_of, declared_chan, message_of}
use Rattle.handler_vm.specs.Chains.{IsFull}
use Rattle.handler_vm.specs.Sending.{IsUnsent, chan_in, out_of}
use Rattle.dsm_runs.proofs.SameMessage.{same_message}

-- ---- messages as they are sent

module _ (count : ℕ) (args : List Value) (four : length args ≡ 4) (few : count ≤ 4)
    (unused : drop count args ≡ replicate (4 - count) (Int 0)) where
  long : length (take count args) ≡ count
  long = length-take-le count args (omega (arith, four, few))

  used : used_args (take count args) ≡ take count args
  used = take_all 4 (take count args) (omega (arith, long, few))

  pub counts : count ≡ length (used_args (take count args))
  counts = sym (ap length used ∙ long)

  pub pads : args ≡ padded_args (take count args)
  pads =
      sym (take-append-drop count args) ∙ ap (λ xs. take count args ++ xs) unused
      ∙ ap (λ n. take count args ++ replicate (4 - n) (Int 0)) counts
      ∙ ap (λ xs. xs ++ replicate (4 - length (used_args (take count args))) (Int 0)) (sym used)

same_declared : (m : Option MessageDecl) → chan_in m ≡ declared_chan m
same_declared (Some m) = refl
same_declared None = refl

same_chan : (p : Protocol) (k : Kind) → chan_in (declared_as p k) ≡ chan_of p k
same_chan p kind.RdFault = refl
same_chan p kind.WrFault = refl
same_chan p (kind.Named n) = same_declared (slice_get p.messages n)

is_message : (p : Protocol) (me block : ℕ) (m : Message) → IsUnsent p me block m → m ≡ message_of p me block 0 (out_of m)
is_message p me block m u =
    same_message m (message_of p me block 0 (out_of m)) refl u.for_block u.from refl
    (u.chan ∙ same_chan p m.kind) u.number u.stamp refl
    (pads m.arg_count m.args u.places m.few m.unused) (counts m.arg_count m.args u.places m.few m.unused)

pub are_messages : (p : Protocol) (me block : ℕ) (sent : List Message) → All (IsUnsent p me block) sent →
    sent ≡ map (message_of p me block 0) (map out_of sent)
are_messages p me block [] all = refl
are_messages p me block (m ∷ sent) all =
    ap (λ (x : Message). x ∷ sent) (is_message p me block m (All-head (IsUnsent p me block) m sent all))
    ∙ ap (λ ms. message_of p me block 0 (out_of m) ∷ ms) (are_messages p me block sent
    (All-tail (IsUnsent p me block) m sent all))

-- ---- data of a message of the protocol are a whole block

full_by : (words : ℕ) (o : Option Data) (b : Bool) → (b ≡ true → HasWords words o) → (b ≡ false → o ≡ None) → IsFull words o
full_by words None b there plain = tt
full_by words (Some d) true there plain = there refl
full_by words (Some d) false there plain = absurd (let e : Some d ≡ None = plain refl in cc)

pub full_of : (p : Protocol) (words : ℕ) (m : Message) → IsMessageOf p words m → IsFull words m.payload
full_of p words m is = full_by words m.payload (carries (declared_as p m.kind)) is.carried is.plain
