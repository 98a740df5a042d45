-- What the calls at one node of them give.
use Rattle.std.proofs.Common.{◌≡◌, ◌∙◌, ℕ, ◌<◌, ◌≤◌, ◌⊎◌, List, [], ◌∷◌, ◌++◌, Option, Some, None, length, get_or, set, refl}
use Rattle.std.proofs.Common.{ap, sym, subst, inl, inr}
use Rattle.std.specs.Prelude.{IfSome, IsSome, option_to_list, slice_get}
use Rattle.std.proofs.lemmas.Option.{slice_get-get_or, slice_get_cases}
use Rattle.tw_base.specs.declared.message.Message.{Message}
use Rattle.node_meaning.specs.Nodes.{Shown}
use Rattle.node_meaning.specs.Stands.{IsFit, StandsAsBefore}
use Rattle.still_nodes.specs.Handing.{Pops, waiting_of}

-- the node that an index reads
pub node_read : (ns : List Shown) (j k : ℕ) (n : Shown) → j ≡ k → k < length ns → slice_get ns k ≡ Some (get_or ns j n)
node_read ns j k n at within = slice_get-get_or ns k n within ∙ ap (λ i. Some (get_or ns i n)) (sym at)

-- the same, where it is named
pub node_seen : (ns : List Shown) (j k : ℕ) (n : Shown) → j ≡ k → k < length ns → n ≡ get_or ns j n → slice_get ns k ≡ Some n
node_seen ns j k n at within is = node_read ns j k n at within ∙ ap (λ (x : Shown). Some x) (sym is)

pub waits_within : (ns : List Shown) (k : ℕ) → (waiting_of (slice_get ns k) ≡ [] → ⊥) → k < length ns
waits_within ns k some = go (slice_get_cases ns k).1
  where
    go : ((x : Shown) × (k < length ns) × (slice_get ns k ≡ Some x) × (get_or ns k x ≡ x)) ⊎ ((length ns ≤ k) × (slice_get ns
        k ≡ None)) → k < length ns
    go (inl here) = here.1
    go (inr past) = absurd (some (ap waiting_of past.1))

pub some_first : (ms : List Message) (o : Option Message) → o ≡ slice_get ms 0 → (ms ≡ [] → ⊥) → IsSome o
some_first [] o is some = absurd (some refl)
some_first (m ∷ ms) o is some = subst (λ (x : Option Message). IsSome x) (sym is) refl

pub still_waits : (ns : List Shown) (k : ℕ) (n : Shown) → slice_get ns k ≡ Some n → (waiting_of (slice_get ns k) ≡ [] → ⊥) →
    n.waiting ≡ [] → ⊥
still_waits ns k n there some none = some (ap waiting_of there ∙ none)

pub pops : (ns : List Shown) (j k : ℕ) (old new : Shown) (r : Option Message) (m : Message) → slice_get ns k ≡ Some old →
    j ≡ k → r ≡ Some m → old.waiting ≡ option_to_list r ++ new.waiting → new ≡ record old { waiting = new.waiting }
    → IfSome r (λ x. IsFit old.setup old.me x.to x) → StandsAsBefore old new → Pops ns (set ns j new) k m
pops ns j k old new r m there at is waits same fit stands = record {
  old = old;
  new = new;
  there = there;
  now = ap (λ i. set ns i new) at;
  waits = waits ∙ ap (λ (o : Option Message). option_to_list o ++ new.waiting) is;
  same = same;
  fit = let Fits : Option Message → Type 0 = λ o. IfSome o (λ x. IsFit old.setup old.me x.to x) in subst Fits is fit;
  stands = stands;
}
