-- Messages with the same parts are one message.
use Rattle.std.proofs.Common.{◌≡◌, ℕ, ◌-◌, ◌≤◌, drop, List, replicate, ◌∙◌, subst}
use Rattle.std.specs.Coded.{codes, le_prop}
use Rattle.tw_base.specs.contracts.value.Value as value
use Rattle.tw_base.specs.declared.message.Message.{Message}
use Rattle.tw_base.specs.declared.value.Value.{Value}
use Rattle.tw_base.specs.declared.value.Value.TheVariants.{Int}

abbrev Unused : ℕ → List Value → Type 0
Unused count args = drop count args ≡ replicate (4 - count) (Int 0)

abbrev made : Message → (args : List Value) (count : ℕ) → count ≤ 4 → Unused count args → Message
made m args count few unused = record {
  kind = m.kind;
  block = m.block;
  from = m.from;
  to = m.to;
  chan = m.chan;
  number = m.number;
  stamp = m.stamp;
  args = args;
  arg_count = count;
  payload = m.payload;
  few = few;
  unused = unused;
}

one_proof : (count : ℕ) (args : List Value) (u v : Unused count args) → u ≡ v
one_proof count args u v =
    let p : IsProp (Unused count args) = hlevel (codes, value.the_row.coded) in
    p u v

same_proofs : (m : Message) (args : List Value) (count : ℕ) (few few2 : count ≤ 4) (unused unused2 : Unused count args) →
    made m args count few unused ≡ made m args count few2 unused2
same_proofs m args count few few2 unused unused2 = λ j. made m args count (le_prop few few2 j)
    (one_proof count args unused unused2 j)

same_args : (m : Message) (args args2 : List Value) (count count2 : ℕ) (few : count ≤ 4) (few2 : count2 ≤ 4)
    (unused : Unused count args) (unused2 : Unused count2 args2) → args ≡ args2 → count ≡ count2
    → made m args count few unused ≡ made m args2 count2 few2 unused2
same_args m args args2 count count2 few few2 unused unused2 a n =
    subst (λ (k : ℕ). (f : k ≤ 4) (u : Unused k args2) → made m args count few unused ≡ made m args2 k f u) n
    (subst (λ (xs : List Value). (f : count ≤ 4) (u : Unused count xs) → made m args count few unused ≡ made m xs count f u) a
    (λ f u. same_proofs m args count few f unused u))
    few2 unused2

pub same_message : (x y : Message) → x.kind ≡ y.kind → x.block ≡ y.block → x.from ≡ y.from → x.to ≡ y.to → x.chan ≡ y.chan →
    x.number ≡ y.number → x.stamp ≡ y.stamp → x.payload ≡ y.payload → x.args ≡ y.args → x.arg_count ≡ y.arg_count → x ≡ y
same_message x y kind block from to chan number stamp payload args count =
    let moved : x ≡ made y x.args x.arg_count x.few x.unused =
    λ j. record x {
      kind = kind j;
      block = block j;
      from = from j;
      to = to j;
      chan = chan j;
      number = number j;
      stamp = stamp j;
      payload = payload j;
    } in
    moved ∙ same_args y x.args y.args x.arg_count y.arg_count x.few y.few x.unused y.unused args count
