-- The machine of ops.
use Rattle.std.specs.Prelude.{ℕ, ◌≡◌, ◌+◌, ◌==◌, Bool, true, if◌then◌else◌, nat_le, List, [], ◌∷◌, ◌++◌, length, map, take}
use Rattle.std.specs.Prelude.{drop, reverse, Option, Some, None, slice_get, slice_set, unwrap_or}
use Rattle.std.specs.Int.{bit_at}
use Rattle.tw_base.specs.NodeSets.{without}
use Rattle.tw_base.specs.declared.entry.End.{End}
use Rattle.tw_base.specs.declared.entry.End.TheVariants.{Fine, Failed, TooDeep}
use Rattle.tw_base.specs.declared.value.Data.{Data}
use Rattle.tw_base.specs.declared.value.Tag.{Tag}
use Rattle.tw_base.specs.declared.value.Value.{Value}
use Rattle.tw_base.specs.declared.value.Value.TheVariants as v
use Rattle.teapot_tree.specs.declared.protocol.MessageDecl.{MessageDecl}
use Rattle.teapot_tree.specs.declared.protocol.Protocol.{Protocol}
use Rattle.teapot_tree.specs.declared.protocol.State.{State}
use Rattle.teapot_meaning.specs.declared.state.Kept.{Kept}
use Rattle.teapot_meaning.specs.declared.state.Kept.TheVariants.{Stale}
use Rattle.teapot_meaning.specs.declared.state.Out.{Out}
use Rattle.teapot_meaning.specs.Depth.{nodes_in}
use Rattle.teapot_meaning.specs.Steps.{freed_kept, least_of, node_of, out_to, payload_of, set_of}
use Rattle.teapot_meaning.specs.Values.{count_of, not_of, one_of, two_of}
use Rattle.handler_code.specs.declared.code.Code.{Code}
use Rattle.handler_code.specs.declared.code.OpCode.{OpCode}
use Rattle.handler_code.specs.declared.code.OpCode.TheVariants as op
use Rattle.handler_code.specs.declared.code.Rest.{Rest}

-- the node and its block, but for the state, and what was done so far
pub record Around : Type 0 where
  pub me : ℕ
  pub home : ℕ
  pub block : ℕ
  pub infos : List Value
  pub tag : Tag
  pub words : Data
  pub sends : List Out
  pub kept : Kept
  pub freed : Bool
  pub woke : Bool

-- a record of a suspension: the number of its rest, the slots, the data of the handler's message, and the state that was left
pub record Saved : Type 0 where
  pub rest : ℕ
  pub values : List Value
  pub came : Option Data
  pub state : ℕ
  pub args : List Value

-- The stack's top is its first value. The chain's newest record is its first.
pub record Machine : Type 0 where
  pub at : ℕ
  pub slots : List Value
  pub stack : List Value
  pub came : Option Data
  pub around : Around
  pub state : ℕ
  pub args : List Value
  pub chain : List Saved
  pub ops : ℕ
  pub records : ℕ

pub record Stopped : Type 0 where
  pub around : Around
  pub state : ℕ
  pub args : List Value
  pub chain : List Saved
  pub end : End
  pub ops : ℕ
  pub records : ℕ

pub data Move : Type 0 where
  Next : Machine → Move
  Stop : Stopped → Move

-- a missing operand, slot or info is the number 0
abbrev pub top : List Value → Value
top [] = v.Int 0
top (x ∷ xs) = x

abbrev pub below : List Value → List Value
below [] = []
below (x ∷ xs) = xs

abbrev pub value_at : List Value → ℕ → Value
value_at xs k = unwrap_or (slice_get xs k) (v.Int 0)

abbrev pub message_arity : Option MessageDecl → ℕ
message_arity (Some m) = length m.args
message_arity None = 0

abbrev pub state_arity : Option State → ℕ
state_arity (Some s) = length s.params
state_arity None = 0

-- the op is counted, and the next one follows it
abbrev pub counted : Machine → Machine
counted m = record m { at = m.at + 1; ops = m.ops + 1 }

-- a value on what is left of the stack
abbrev pub pushed : Machine → List Value → Value → Machine
pushed m stack x = record (counted m) { stack = x ∷ stack }

abbrev pub stopped : Machine → End → Stopped
stopped m end = record {
  around = m.around;
  state = m.state;
  args = m.args;
  chain = m.chain;
  end = end;
  ops = m.ops;
  records = m.records;
}

abbrev pub landing : Value → ℕ → ℕ → ℕ
landing (v.Bool true) after to = after
landing _ after to = to

abbrev pub with_send : Protocol → Around → Value → ℕ → List Value → Around
with_send p a to number args =
    record a { sends = a.sends ++ out_to number args (payload_of (slice_get p.messages number) a.words) (node_of to) ∷ [] }

-- to each node of the set in rising order
abbrev pub with_sends : Protocol → Around → Value → ℕ → List Value → Around
with_sends p a to number args =
    record a {
      sends = a.sends ++ map (out_to number args (payload_of (slice_get p.messages number) a.words))
          (nodes_in (set_of to));
    }

-- the block's deferred messages are eligible
abbrev pub freeing : Around → Around
freeing a = record a { freed = true; kept = freed_kept a.kept }

abbrev pub is_live : Rest → ℕ → Bool
is_live rest k = bit_at rest.live k == 1

-- the values of the live slots, and 0 in the others
abbrev pub live_values : (ℕ → Bool) → ℕ → List Value → List Value
live_values live k [] = []
live_values live k (x ∷ xs) = (if live k then x else v.Int 0) ∷ live_values live (k + 1) xs

abbrev pub saved_values : Option Rest → List Value → List Value
saved_values (Some rest) slots = live_values (is_live rest) 0 slots
saved_values None slots = slots

abbrev pub suspended : Code → Machine → ℕ → List Value → ℕ → Machine
suspended code m state args rest =
    let saved : Saved = record {
      rest = rest;
      values = saved_values (slice_get code.rests rest) m.slots;
      came = m.came;
      state = m.state;
      args = m.args;
    } in
    record m { state = state; args = args; chain = saved ∷ m.chain; records = m.records + 1 }

abbrev pub place_of_rest : Option Rest → ℕ
place_of_rest (Some rest) = rest.at
place_of_rest None = 0

abbrev pub resumed : Code → Machine → List Saved → Move
resumed code m [] = Stop (stopped m Fine)
resumed code m (first ∷ chain) = Next (record m {
  at = place_of_rest (slice_get code.rests first.rest);
  slots = first.values;
  came = first.came;
  stack = [];
  state = first.state;
  args = first.args;
  chain = chain;
  around = freeing m.around;
})

-- the variable is the least node of the set, which is taken out; or the place after the loop
abbrev pub turn : Machine → ℕ → ℕ → ℕ → List Bool → Option ℕ → Machine
turn m k h to set None = record (counted m) { at = to }
turn m k h to set (Some n) =
    record (counted m) { slots = slice_set (slice_set m.slots k (v.Node n)) h (v.Set (without set n)) }

-- what an op does
abbrev pub act : Protocol → Code → OpCode → Machine → Move
act p code (op.Const x) m = Next (pushed m m.stack x)
act p code (op.Get k) m = Next (pushed m m.stack (value_at m.slots k))
act p code (op.GetInfo k) m = Next (pushed m m.stack (value_at m.around.infos k))
act p code op.Me m = Next (pushed m m.stack (v.Node m.around.me))
act p code op.Home m = Next (pushed m m.stack (v.Node m.around.home))
act p code op.One m = Next (pushed m (below m.stack) (one_of (top m.stack)))
act p code op.Not m = Next (pushed m (below m.stack) (not_of (top m.stack)))
act p code op.Count m = Next (pushed m (below m.stack) (count_of (top m.stack)))
act p code (op.Two o) m =
    Next (pushed m (below (below m.stack)) (two_of o (top (below m.stack)) (top m.stack)))
act p code (op.Put k) m =
    Next (record (counted m) { slots = slice_set m.slots k (top m.stack); stack = below m.stack })
act p code (op.PutInfo k) m =
    Next (record (counted m) {
      around = record m.around { infos = slice_set m.around.infos k (top m.stack) };
      stack = below m.stack;
    })
act p code (op.JumpIfNot to) m =
    Next (record (counted m) { at = landing (top m.stack) (m.at + 1) to; stack = below m.stack })
act p code (op.Jump to) m = Next (record (counted m) { at = to })
act p code (op.Tag tag) m = Next (record (counted m) { around = record m.around { tag = tag } })
act p code op.Install m =
    Next (record (counted m) { around = record m.around { words = unwrap_or m.came m.around.words } })
act p code op.Enqueue m = Next (record (counted m) { around = record m.around { kept = Stale } })
act p code op.Wake m = Next (record (counted m) { around = record m.around { woke = true } })
act p code (op.Send number) m =
    let count = message_arity (slice_get p.messages number) in
    Next (record (counted m) {
      around = with_send p m.around (top (drop count m.stack)) number (reverse (take count m.stack));
      stack = below (drop count m.stack);
    })
act p code (op.SendAll number) m =
    let count = message_arity (slice_get p.messages number) in
    Next (record (counted m) {
      around = with_sends p m.around (top (drop count m.stack)) number (reverse (take count m.stack));
      stack = below (drop count m.stack);
    })
act p code (op.Goto state) m =
    let count = state_arity (slice_get p.states state) in
    Next (record (counted m) {
      around = freeing m.around;
      state = state;
      args = reverse (take count m.stack);
      stack = drop count m.stack;
    })
act p code (op.Suspend state rest) m =
    let args = reverse (take (state_arity (slice_get p.states state)) m.stack) in
    if nat_le 8 (length m.chain) then Stop (stopped (counted m) TooDeep)
    else Stop (stopped (suspended code (counted m) state args rest) Fine)
act p code op.Resume m = resumed code (counted m) m.chain
act p code (op.Fail n) m = Stop (stopped (counted m) (Failed n))
act p code op.Done m = Stop (stopped (counted m) Fine)
act p code (op.EachNext k h to) m =
    let set = set_of (value_at m.slots h) in Next (turn m k h to set (least_of set))
act p code (op.JumpBack to) m = Next (record (counted m) { at = to })

abbrev pub act_at : Protocol → Code → Option OpCode → Machine → Move
act_at p code (Some o) m = act p code o m
act_at p code None m = Stop (stopped m Fine)

-- one op
abbrev pub move_of : Protocol → Code → Machine → Move
move_of p code m = act_at p code (slice_get code.ops m.at) m

-- From this machine the code comes to this end.
pub data Runs (p : Protocol) (code : Code) : Machine → Stopped → Type 0 where
  stops : {m : Machine} {e : Stopped} → move_of p code m ≡ Stop e → Runs p code m e
  moves : {m next : Machine} {e : Stopped} → move_of p code m ≡ Next next → Runs p code next e → Runs p code m e

-- a machine comes to one end at most
abbrev pub StopsOnce : Protocol → Code → Type 0
StopsOnce p code = (m : Machine) (a b : Stopped) → Runs p code m a → Runs p code m b → a ≡ b
