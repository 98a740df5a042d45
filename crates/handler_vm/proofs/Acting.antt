-- What each op leaves as it was, or makes more of.
use Rattle.std.proofs.Common.{◌≡◌, ℕ, ◌+◌, ◌-◌, ◌<◌, ◌≤◌, Bool, true, false, List, [], ◌∷◌, Option, Some, None, length, take}
use Rattle.std.proofs.Common.{drop, refl, ap, subst, ◌∙◌, inl, inr, arith, length-append, length-drop}
use Rattle.std.specs.Prelude.{◌⊎◌, if◌then◌else◌, nat_le, reverse, slice_get, slice_set, unwrap_or}
use Rattle.std.proofs.lemmas.List.{length-reverse, length-set, length-take}
use Rattle.tw_base.specs.Lists.{Each}
use Rattle.tw_base.specs.NodeSets.{without}
use Rattle.tw_base.specs.declared.value.Data.{Data}
use Rattle.tw_base.specs.declared.value.Value.{Value}
use Rattle.tw_base.specs.declared.value.Value.TheVariants as v
use Rattle.teapot_tree.specs.declared.protocol.Protocol.{Protocol}
use Rattle.tw_base.specs.declared.entry.End.TheVariants.{Fine, TooDeep}
use Rattle.teapot_meaning.specs.declared.state.Out.{Out}
use Rattle.teapot_meaning.specs.Steps.{least_of, set_of}
use Rattle.handler_code.specs.declared.code.Code.{Code}
use Rattle.handler_code.specs.declared.code.OpCode.{OpCode}
use Rattle.handler_code.specs.declared.code.OpCode.TheVariants as op
use Rattle.handler_code.specs.declared.code.Rest.{Rest}
use Rattle.handler_code.specs.Live.{HasOp, LeadsTo}
use Rattle.handler_code.specs.Machine.{Machine, Move, Next, Stop, Stopped, Saved, Runs, stops, moves, act, act_at, below}
use Rattle.handler_code.specs.Machine.{counted, landing, move_of, place_of_rest, message_arity, resumed, state_arity, stopped}
use Rattle.handler_code.specs.Machine.{suspended, top, turn, value_at}
use Rattle.handler_code.specs.Stacks.{HasDepth, taken_by}
use Rattle.handler_vm.specs.Chains.{IsFull}
use Rattle.handler_vm.specs.Inside.{IsInner, OnNext}
use Rattle.handler_vm.specs.Room.{HasPlaces, IsThere}

-- ---- ops are counted, sends are never fewer

pub record Grown (m n : Machine) : Type 0 where
  pub ops : n.ops ≡ m.ops + 1
  pub sends : length m.around.sends ≤ length n.around.sends

abbrev Forward : Machine → Move → Type 0
Forward m (Next n) = Grown m n
Forward m (Stop e) = (m.ops ≤ e.ops) × (length m.around.sends ≤ length e.around.sends)

same : (m n : Machine) → n.ops ≡ m.ops + 1 → n.around.sends ≡ m.around.sends → Grown m n
same m n o s = record { ops = o; sends = omega (arith, ap length s) }

ended : (m : Machine) (e : Stopped) → e.ops ≡ m.ops + 1 → e.around.sends ≡ m.around.sends → Forward m (Stop e)
ended m e o s = (omega (arith, o), omega (arith, ap length s))

either : (m : Machine) (b : Bool) (x y : Stopped) → Forward m (Stop x) → Forward m (Stop y) →
    Forward m (if b then Stop x else Stop y)
either m true x y h k = h
either m false x y h k = k

resumes_forward : (code : Code) (m n : Machine) (chain : List Saved) → n.ops ≡ m.ops + 1 → n.around.sends ≡ m.around.sends →
    Forward m (resumed code n chain)
resumes_forward code m n [] o s = ended m (stopped n Fine) o s
resumes_forward code m n (first ∷ chain) o s = record { ops = o; sends = omega (arith, ap length s) }

turns_forward : (m : Machine) (k h to : ℕ) (set : List Bool) (least : Option ℕ) → Grown m (turn m k h to set least)
turns_forward m k h to set None = same m _ refl refl
turns_forward m k h to set (Some n) = same m _ refl refl

forward : (p : Protocol) (code : Code) (o : OpCode) (m : Machine) → Forward m (act p code o m)
forward p code (op.Const x) m = same m _ refl refl
forward p code (op.Get k) m = same m _ refl refl
forward p code (op.GetInfo k) m = same m _ refl refl
forward p code op.Me m = same m _ refl refl
forward p code op.Home m = same m _ refl refl
forward p code op.One m = same m _ refl refl
forward p code op.Not m = same m _ refl refl
forward p code op.Count m = same m _ refl refl
forward p code (op.Two o) m = same m _ refl refl
forward p code (op.Put k) m = same m _ refl refl
forward p code (op.PutInfo k) m = same m _ refl refl
forward p code (op.JumpIfNot to) m = same m _ refl refl
forward p code (op.Jump to) m = same m _ refl refl
forward p code (op.Tag tag) m = same m _ refl refl
forward p code op.Install m = same m _ refl refl
forward p code op.Enqueue m = same m _ refl refl
forward p code op.Wake m = same m _ refl refl
forward p code (op.Send number) m = record { ops = refl; sends = omega (arith, length-append {A = Out}) }
forward p code (op.SendAll number) m = record { ops = refl; sends = omega (arith, length-append {A = Out}) }
forward p code (op.Goto state) m = same m _ refl refl
forward p code (op.Suspend state rest) m =
    either m (nat_le 8 (length m.chain)) (stopped (counted m) TooDeep)
    (stopped (suspended code (counted m) state (reverse (take (state_arity (slice_get p.states state)) m.stack)) rest)
    Fine) (omega arith, omega arith) (omega arith, omega arith)
forward p code op.Resume m = resumes_forward code m (counted m) m.chain refl refl
forward p code (op.Fail n) m = (omega arith, omega arith)
forward p code op.Done m = (omega arith, omega arith)
forward p code (op.EachNext k h to) m = turns_forward m k h to (set_of (value_at m.slots h))
    (least_of (set_of (value_at m.slots h)))
forward p code (op.JumpBack to) m = same m _ refl refl

forward_at : (p : Protocol) (code : Code) (o : Option OpCode) (m : Machine) → Forward m (act_at p code o m)
forward_at p code (Some o) m = forward p code o m
forward_at p code None m = (omega arith, omega arith)

pub grown : (p : Protocol) (code : Code) (m n : Machine) → move_of p code m ≡ Next n → Grown m n
grown p code m n h = let f : Forward m (Next n) = subst (Forward m) h (forward_at p code (slice_get code.ops m.at) m) in f

stop_forward : (p : Protocol) (code : Code) (m : Machine) (e : Stopped) → move_of p code m ≡ Stop e →
    (m.ops ≤ e.ops) × (length m.around.sends ≤ length e.around.sends)
stop_forward p code m e h = let f : Forward m (Stop e) = subst (Forward m) h (forward_at p code (slice_get code.ops m.at) m) in f

-- the end has no fewer ops and no fewer sends
pub run_grows : (p : Protocol) (code : Code) {m : Machine} {e : Stopped} → Runs p code m e →
    (m.ops ≤ e.ops) × (length m.around.sends ≤ length e.around.sends)
run_grows p code {m} {e} (stops h) = stop_forward p code m e h
run_grows p code {m} (moves {next = n} h rest) =
    let g = grown p code m n h in
    let more = run_grows p code rest in
    (omega (arith, g.ops, more.0), omega (arith, g.sends, more.1))

-- ---- the stack's length

length-below : (xs : List Value) → length (below xs) ≡ length xs - 1
length-below [] = omega arith
length-below (x ∷ xs) = omega arith

landing_either : (x : Value) (after to : ℕ) → (landing x after to ≡ to) ⊎ (landing x after to ≡ after)
landing_either (v.Bool true) after to = inr refl
landing_either (v.Bool false) after to = inl refl
landing_either (v.Int n) after to = inl refl
landing_either (v.Node n) after to = inl refl
landing_either (v.Set s) after to = inl refl

module _ (p : Protocol) (code : Code) (depth : ℕ → ℕ) (h : HasDepth p code depth) where
  resumed_deep : (rest : Option Rest) (k : ℕ) → slice_get code.rests k ≡ rest → depth (place_of_rest rest) ≡ 0
  resumed_deep (Some rest) k e = h.rests k rest e
  resumed_deep None k e = h.first

  resumes_deep : (m : Machine) (chain : List Saved) → OnNext (λ n. depth n.at ≡ length n.stack) (resumed code m chain)
  resumes_deep m [] = tt
  resumes_deep m (first ∷ chain) = resumed_deep (slice_get code.rests first.rest) first.rest refl

  turns_deep : (m : Machine) (k s to : ℕ) (set : List Bool) (least : Option ℕ) → HasOp code.ops m.at (op.EachNext k s to) →
      depth m.at ≡ length m.stack → depth (turn m k s to set least).at ≡ length m.stack
  turns_deep m k s to set None has deep = omega (arith, h.leads m.at to (op.EachNext k s to) None has (inl (refl, refl)), deep)
  turns_deep m k s to set (Some n) has deep =
      omega (arith, h.leads m.at (m.at + 1) (op.EachNext k s to) (Some k) has (inr (refl, refl)), deep)

  either_stops : (b : Bool) (x y : Stopped) → OnNext (λ n. depth n.at ≡ length n.stack) (if b then Stop x else Stop y)
  either_stops true x y = tt
  either_stops false x y = tt

  turns_stack : (m : Machine) (k s to : ℕ) (set : List Bool) (least : Option ℕ) →
      depth (turn m k s to set least).at ≡ length m.stack → depth (turn m k s to set least).at
      ≡ length (turn m k s to set least).stack
  turns_stack m k s to set None e = e
  turns_stack m k s to set (Some n) e = e

  -- the stack has its length at the next place too
  pub deeper : (o : OpCode) (m : Machine) → HasOp code.ops m.at o → depth m.at ≡ length m.stack →
      OnNext (λ n. depth n.at ≡ length n.stack) (act p code o m)
  deeper (op.Const x) m has deep = omega (
    arith,
    h.leads m.at (m.at + 1) (op.Const x) None has (refl, refl),
    h.enough m.at (op.Const x) has,
    deep,
  )
  deeper (op.Get k) m has deep = omega (
    arith,
    h.leads m.at (m.at + 1) (op.Get k) None has (refl, refl),
    h.enough m.at (op.Get k) has,
    deep,
  )
  deeper (op.GetInfo k) m has deep = omega (
    arith,
    h.leads m.at (m.at + 1) (op.GetInfo k) None has (refl, refl),
    h.enough m.at (op.GetInfo k) has,
    deep,
  )
  deeper op.Me m has deep = omega (arith, h.leads m.at (m.at + 1) op.Me None has (refl, refl), h.enough m.at op.Me has, deep)
  deeper op.Home m has deep = omega (
    arith,
    h.leads m.at (m.at + 1) op.Home None has (refl, refl),
    h.enough m.at op.Home has,
    deep,
  )
  deeper op.One m has deep = omega (
    arith,
    h.leads m.at (m.at + 1) op.One None has (refl, refl),
    h.enough m.at op.One has,
    deep,
    length-below m.stack,
  )
  deeper op.Not m has deep = omega (
    arith,
    h.leads m.at (m.at + 1) op.Not None has (refl, refl),
    h.enough m.at op.Not has,
    deep,
    length-below m.stack,
  )
  deeper op.Count m has deep = omega (
    arith,
    h.leads m.at (m.at + 1) op.Count None has (refl, refl),
    h.enough m.at op.Count has,
    deep,
    length-below m.stack,
  )
  deeper (op.Two o) m has deep = omega (
    arith,
    h.leads m.at (m.at + 1) (op.Two o) None has (refl, refl),
    h.enough m.at (op.Two o) has,
    deep,
    length-below m.stack,
    length-below (below m.stack),
  )
  deeper (op.Put k) m has deep = omega (
    arith,
    h.leads m.at (m.at + 1) (op.Put k) (Some k) has (refl, refl),
    h.enough m.at (op.Put k) has,
    deep,
    length-below m.stack,
  )
  deeper (op.PutInfo k) m has deep = omega (
    arith,
    h.leads m.at (m.at + 1) (op.PutInfo k) None has (refl, refl),
    h.enough m.at (op.PutInfo k) has,
    deep,
    length-below m.stack,
  )
  deeper (op.JumpIfNot to) m has deep =
      let next = landing (top m.stack) (m.at + 1) to in
      omega (
        arith,
        h.leads m.at next (op.JumpIfNot to) None has (landing_either (top m.stack) (m.at + 1) to, refl),
        h.enough m.at (op.JumpIfNot to) has,
        deep,
        length-below m.stack,
      )
  deeper (op.Jump to) m has deep = omega (
    arith,
    h.leads m.at (to) (op.Jump to) None has (refl, refl),
    h.enough m.at (op.Jump to) has,
    deep,
  )
  deeper (op.Tag tag) m has deep = omega (
    arith,
    h.leads m.at (m.at + 1) (op.Tag tag) None has (refl, refl),
    h.enough m.at (op.Tag tag) has,
    deep,
  )
  deeper op.Install m has deep = omega (
    arith,
    h.leads m.at (m.at + 1) op.Install None has (refl, refl),
    h.enough m.at op.Install has,
    deep,
  )
  deeper op.Enqueue m has deep = omega (
    arith,
    h.leads m.at (m.at + 1) op.Enqueue None has (refl, refl),
    h.enough m.at op.Enqueue has,
    deep,
  )
  deeper op.Wake m has deep = omega (
    arith,
    h.leads m.at (m.at + 1) op.Wake None has (refl, refl),
    h.enough m.at op.Wake has,
    deep,
  )
  deeper (op.Send number) m has deep = omega (
    arith,
    h.leads m.at (m.at + 1) (op.Send number) None has (refl, refl),
    h.enough m.at (op.Send number) has,
    deep,
    length-below (drop (message_arity (slice_get p.messages number)) m.stack),
    length-drop (message_arity (slice_get p.messages number)) m.stack,
  )
  deeper (op.SendAll number) m has deep = omega (
    arith,
    h.leads m.at (m.at + 1) (op.SendAll number) None has (refl, refl),
    h.enough m.at (op.SendAll number) has,
    deep,
    length-below (drop (message_arity (slice_get p.messages number)) m.stack),
    length-drop (message_arity (slice_get p.messages number)) m.stack,
  )
  deeper (op.Goto state) m has deep = omega (
    arith,
    h.leads m.at (m.at + 1) (op.Goto state) None has (refl, refl),
    h.enough m.at (op.Goto state) has,
    deep,
    length-drop (state_arity (slice_get p.states state)) m.stack,
  )
  deeper (op.Suspend state rest) m has deep = either_stops (nat_le 8 (length m.chain)) _ _
  deeper op.Resume m has deep = resumes_deep (counted m) m.chain
  deeper (op.Fail n) m has deep = tt
  deeper op.Done m has deep = tt
  deeper (op.EachNext k s to) m has deep = turns_stack m k s to (set_of (value_at m.slots s))
      (least_of (set_of (value_at m.slots s))) (turns_deep m k s to (set_of (value_at m.slots s))
      (least_of (set_of (value_at m.slots s))) has deep)
  deeper (op.JumpBack to) m has deep = omega (
    arith,
    h.leads m.at (to) (op.JumpBack to) None has (refl, refl),
    h.enough m.at (op.JumpBack to) has,
    deep,
  )

-- ---- an op at the place, and enough slots

-- the place is that of an op, and no slot of the handler is missing
pub record Placed (code : Code) (width : ℕ → ℕ) (m : Machine) : Type 0 where
  pub there : m.at < length code.ops
  pub wide : width m.at ≤ length m.slots

module _ (p : Protocol) (code : Code) (width : ℕ → ℕ) (h : HasPlaces p code width) where
  onward : (m n : Machine) (o : OpCode) (written : Option ℕ) → HasOp code.ops m.at o → LeadsTo o m.at n.at written →
      length n.slots ≡ length m.slots → Placed code width m → Placed code width n
  onward m n o written has leads same placed =
      let next = h.leads m.at n.at o written has leads in
      record { there = next.0; wide = omega (arith, next.1, same, placed.wide) }

  resumed_there : (rest : Option Rest) (k : ℕ) → slice_get code.rests k ≡ rest → 0 < length code.ops →
      place_of_rest rest < length code.ops
  resumed_there (Some rest) k e some = h.rests k rest e
  resumed_there None k e some = some

  resumes_placed : (m : Machine) (chain : List Saved) → 0 < length code.ops →
      Each (λ (s : Saved). length s.values ≡ 21) chain → OnNext (Placed code width) (resumed code m chain)
  resumes_placed m [] some full = tt
  resumes_placed m (first ∷ chain) some full = record {
    there = resumed_there (slice_get code.rests first.rest) first.rest refl some;
    wide = omega (arith, full.0, h.most (place_of_rest (slice_get code.rests first.rest)));
  }

  turns_placed : (m : Machine) (k s to : ℕ) (set : List Bool) (least : Option ℕ) → HasOp code.ops m.at (op.EachNext k s to) →
      Placed code width m → Placed code width (turn m k s to set least)
  turns_placed m k s to set None has placed = onward m _ (op.EachNext k s to) None has (inl (refl, refl)) refl placed
  turns_placed m k s to set (Some n) has placed =
      onward m _ (op.EachNext k s to) (Some k) has (inr (refl, refl))
      (length-set (slice_set m.slots k (v.Node n)) s (v.Set (without set n)) ∙ length-set m.slots k (v.Node n)) placed

  either_placed : (b : Bool) (x y : Stopped) → OnNext (Placed code width) (if b then Stop x else Stop y)
  either_placed true x y = tt
  either_placed false x y = tt

  -- so it is at the next place too
  pub placed_next : (o : OpCode) (m : Machine) → HasOp code.ops m.at o → Placed code width m →
      Each (λ (s : Saved). length s.values ≡ 21) m.chain → OnNext (Placed code width) (act p code o m)
  placed_next (op.Const x) m has placed full = onward m _ (op.Const x) None has (refl, refl) refl placed
  placed_next (op.Get k) m has placed full = onward m _ (op.Get k) None has (refl, refl) refl placed
  placed_next (op.GetInfo k) m has placed full = onward m _ (op.GetInfo k) None has (refl, refl) refl placed
  placed_next op.Me m has placed full = onward m _ op.Me None has (refl, refl) refl placed
  placed_next op.Home m has placed full = onward m _ op.Home None has (refl, refl) refl placed
  placed_next op.One m has placed full = onward m _ op.One None has (refl, refl) refl placed
  placed_next op.Not m has placed full = onward m _ op.Not None has (refl, refl) refl placed
  placed_next op.Count m has placed full = onward m _ op.Count None has (refl, refl) refl placed
  placed_next (op.Two o) m has placed full = onward m _ (op.Two o) None has (refl, refl) refl placed
  placed_next (op.Put k) m has placed full = onward m _ (op.Put k) (Some k) has (refl, refl)
      (length-set m.slots k (top m.stack)) placed
  placed_next (op.PutInfo k) m has placed full = onward m _ (op.PutInfo k) None has (refl, refl) refl placed
  placed_next (op.JumpIfNot to) m has placed full = onward m _ (op.JumpIfNot to) None has
      (landing_either (top m.stack) (m.at + 1) to, refl) refl placed
  placed_next (op.Jump to) m has placed full = onward m _ (op.Jump to) None has (refl, refl) refl placed
  placed_next (op.Tag tag) m has placed full = onward m _ (op.Tag tag) None has (refl, refl) refl placed
  placed_next op.Install m has placed full = onward m _ op.Install None has (refl, refl) refl placed
  placed_next op.Enqueue m has placed full = onward m _ op.Enqueue None has (refl, refl) refl placed
  placed_next op.Wake m has placed full = onward m _ op.Wake None has (refl, refl) refl placed
  placed_next (op.Send number) m has placed full = onward m _ (op.Send number) None has (refl, refl) refl placed
  placed_next (op.SendAll number) m has placed full = onward m _ (op.SendAll number) None has (refl, refl) refl placed
  placed_next (op.Goto state) m has placed full = onward m _ (op.Goto state) None has (refl, refl) refl placed
  placed_next (op.Suspend state rest) m has placed full = either_placed (nat_le 8 (length m.chain)) _ _
  placed_next op.Resume m has placed full = resumes_placed (counted m) m.chain (omega (arith, placed.there)) full
  placed_next (op.Fail n) m has placed full = tt
  placed_next op.Done m has placed full = tt
  placed_next (op.EachNext k s to) m has placed full = turns_placed m k s to (set_of (value_at m.slots s))
      (least_of (set_of (value_at m.slots s))) has placed
  placed_next (op.JumpBack to) m has placed full = onward m _ (op.JumpBack to) None has (refl, refl) refl placed

-- what an op names is there with more slots too
pub there_more : (p : Protocol) (code : Code) (width slots : ℕ) (o : OpCode) → width ≤ slots → IsThere p code width o →
    IsThere p code slots o
there_more p code width slots (op.Get k) low there = omega (arith, low, there)
there_more p code width slots (op.Put k) low there = omega (arith, low, there)
there_more p code width slots (op.EachNext k h to) low there = (omega (arith, low, there.0), omega (arith, low, there.1))
there_more p code width slots (op.GetInfo k) low there = there
there_more p code width slots (op.PutInfo k) low there = there
there_more p code width slots (op.Send number) low there = there
there_more p code width slots (op.SendAll number) low there = there
there_more p code width slots (op.Goto state) low there = there
there_more p code width slots (op.Suspend state rest) low there = there
there_more p code width slots _ low there = tt

-- ---- the arguments of the state, and the data

-- the state has its arguments, the data are what they were, and so is the number of words
pub record Kept (p : Protocol) (m n : Machine) : Type 0 where
  pub arity : length n.args ≡ state_arity (slice_get p.states n.state)
  pub came : n.came ≡ m.came
  pub words : length n.around.words ≡ length m.around.words

installed_words : (came : Option Data) (words : Data) → IsFull (length words) came → length (unwrap_or came words) ≡ length words
installed_words None words full = refl
installed_words (Some d) words full = full

turns_keep : (p : Protocol) (m : Machine) (k h to : ℕ) (set : List Bool) (least : Option ℕ) →
    length m.args ≡ state_arity (slice_get p.states m.state) → Kept p m (turn m k h to set least)
turns_keep p m k h to set None a = record { arity = a; came = refl; words = refl }
turns_keep p m k h to set (Some n) a = record { arity = a; came = refl; words = refl }

pub inner_keeps : (p : Protocol) (code : Code) (o : OpCode) (m : Machine) → IsInner o → taken_by p o ≤ length m.stack →
    length m.args ≡ state_arity (slice_get p.states m.state) → IsFull (length m.around.words) m.came →
    OnNext (Kept p m) (act p code o m)
inner_keeps p code (op.Const x) m inner few a full = record { arity = a; came = refl; words = refl }
inner_keeps p code (op.Get k) m inner few a full = record { arity = a; came = refl; words = refl }
inner_keeps p code (op.GetInfo k) m inner few a full = record { arity = a; came = refl; words = refl }
inner_keeps p code op.Me m inner few a full = record { arity = a; came = refl; words = refl }
inner_keeps p code op.Home m inner few a full = record { arity = a; came = refl; words = refl }
inner_keeps p code op.One m inner few a full = record { arity = a; came = refl; words = refl }
inner_keeps p code op.Not m inner few a full = record { arity = a; came = refl; words = refl }
inner_keeps p code op.Count m inner few a full = record { arity = a; came = refl; words = refl }
inner_keeps p code (op.Two o) m inner few a full = record { arity = a; came = refl; words = refl }
inner_keeps p code (op.Put k) m inner few a full = record { arity = a; came = refl; words = refl }
inner_keeps p code (op.PutInfo k) m inner few a full = record { arity = a; came = refl; words = refl }
inner_keeps p code (op.JumpIfNot to) m inner few a full = record { arity = a; came = refl; words = refl }
inner_keeps p code (op.Jump to) m inner few a full = record { arity = a; came = refl; words = refl }
inner_keeps p code (op.Tag tag) m inner few a full = record { arity = a; came = refl; words = refl }
inner_keeps p code op.Install m inner few a full = record {
  arity = a;
  came = refl;
  words = installed_words m.came m.around.words full;
}
inner_keeps p code op.Enqueue m inner few a full = record { arity = a; came = refl; words = refl }
inner_keeps p code op.Wake m inner few a full = record { arity = a; came = refl; words = refl }
inner_keeps p code (op.Send number) m inner few a full = absurd inner
inner_keeps p code (op.SendAll number) m inner few a full = absurd inner
inner_keeps p code (op.Goto state) m inner few a full =
    let count = state_arity (slice_get p.states state) in
    record {
      arity = omega (arith, length-reverse (take count m.stack), length-take count m.stack, few);
      came = refl;
      words = refl;
    }
inner_keeps p code (op.Suspend state rest) m inner few a full = absurd inner
inner_keeps p code op.Resume m inner few a full = absurd inner
inner_keeps p code (op.Fail n) m inner few a full = absurd inner
inner_keeps p code op.Done m inner few a full = absurd inner
inner_keeps p code (op.EachNext k h to) m inner few a full =
    turns_keep p m k h to (set_of (value_at m.slots h)) (least_of (set_of (value_at m.slots h))) a
inner_keeps p code (op.JumpBack to) m inner few a full = record { arity = a; came = refl; words = refl }
