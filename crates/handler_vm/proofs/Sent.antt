-- A message sent to one node after another.
use Rattle.std.proofs.Common.{◌≡◌, ℕ, ◌+◌, Bool, true, false, List, [], ◌∷◌, ◌++◌, Option, take, refl, rules, ap, sym, ◌∙◌}
use Rattle.std.proofs.Common.{append_assoc}
use Rattle.std.specs.Prelude.{All, map}
use Rattle.std.proofs.lemmas.List.{map-append, map_push}
use Rattle.std.proofs.lemmas.List.Elements.{All-append, All-nil}
use Rattle.tw_base.specs.NodeSets.{has, members_from}
use Rattle.tw_base.specs.declared.message.Message.{Message}
use Rattle.tw_base.specs.declared.value.Data.{Data}
use Rattle.tw_base.specs.declared.value.Value.{Value}
use Rattle.teapot_meaning.specs.declared.state.Out.{Out}
use Rattle.teapot_meaning.specs.Steps.{out_to}
use Rattle.teapot_tree.specs.declared.protocol.Protocol.{Protocol}
use Rattle.handler_vm.specs.Sending.{IsUnsent, addressed, out_of}
use Rattle.teapot_meaning.proofs.Members.{members_in, members_out}

-- to one node more
pub sent_more : (before sent : List Message) (m : Message) (k : ℕ) (s : List Bool) → has s k ≡ true →
    sent ≡ before ++ map (addressed m) (members_from 0 (take k s))
    → sent ++ addressed m k ∷ [] ≡ before ++ map (addressed m) (members_from 0 (take (k + 1) s))
sent_more before sent m k s here all =
    ap (λ ms. ms ++ addressed m k ∷ []) all ∙ append_assoc before (map (addressed m) (members_from 0 (take k s)))
    (addressed m k ∷ [])
    ∙ sym (ap (λ ns. before ++ map (addressed m) ns) (members_in k s here)
    ∙ ap (λ ms. before ++ ms) (map_push (addressed m) (members_from 0 (take k s)) k))

pub sent_same : (before sent : List Message) (m : Message) (k : ℕ) (s : List Bool) → has s k ≡ false →
    sent ≡ before ++ map (addressed m) (members_from 0 (take k s))
    → sent ≡ before ++ map (addressed m) (members_from 0 (take (k + 1) s))
sent_same before sent m k s none all = all ∙ sym (ap (λ ns. before ++ map (addressed m) ns) (members_out k s none))

-- ---- what the messages say

said : (number to : ℕ) (args : List Value) (payload : Option Data) (m : Message) (ns : List ℕ) →
    out_of m ≡ out_to number args payload to → map out_of (map (addressed m) ns) ≡ map (out_to number args payload) ns
said number to args payload m [] e = refl
said number to args payload m (n ∷ ns) e =
    let first : out_of (addressed m n) ≡ out_to number args payload n = ap (λ (o : Out). record o { to = n }) e in
    ap (λ o. o ∷ map out_of (map (addressed m) ns)) first ∙ ap (λ os. out_to number args payload n ∷ os)
    (said number to args payload m ns e)

pub outs_more : (number to : ℕ) (args : List Value) (payload : Option Data) (before : List Message) (m : Message)
    (ns : List ℕ) → out_of m ≡ out_to number args payload to
    → map out_of (before ++ map (addressed m) ns) ≡ map out_of before ++ map (out_to number args payload) ns
outs_more number to args payload before m ns e =
    map-append out_of before (map (addressed m) ns) ∙ ap (λ os. map out_of before ++ os) (said number to args payload m ns e)

-- ---- none is on its wire yet

each_unsent : (p : Protocol) (me block : ℕ) (m : Message) (ns : List ℕ) → IsUnsent p me block m →
    All (IsUnsent p me block) (map (addressed m) ns)
each_unsent p me block m [] u = All-nil (IsUnsent p me block)
each_unsent p me block m (n ∷ ns) u =
    let first : IsUnsent p me block (addressed m n) = record
    { from = u.from; for_block = u.for_block; chan = u.chan; number = u.number; stamp = u.stamp; places = u.places } in
    All-append (IsUnsent p me block) (addressed m n ∷ []) (map (addressed m) ns) (search rules) (each_unsent p me block m ns u)

pub unsent_more : (p : Protocol) (me block : ℕ) (before : List Message) (m : Message) (ns : List ℕ) → IsUnsent p me block m →
    All (IsUnsent p me block) before → All (IsUnsent p me block) (before ++ map (addressed m) ns)
unsent_more p me block before m ns u all = All-append (IsUnsent p me block) before (map (addressed m) ns) all
    (each_unsent p me block m ns u)
