-- A machine within a bound stops within it.
use Rattle.std.proofs.Common.{◌≡◌, ℕ, ◌+◌, ◌<◌, Bool, true, false, List, [], ◌∷◌, Option, Some, None, refl, subst, take, drop}
use Rattle.std.proofs.Common.{reverse}
use Rattle.std.specs.Prelude.{if◌then◌else◌, length, nat_le, slice_get}
use Rattle.tw_base.specs.Lists.{Each}
use Rattle.tw_base.specs.NodeSets.{without}
use Rattle.tw_base.specs.declared.entry.End.{End}
use Rattle.tw_base.specs.declared.entry.End.TheVariants.{Fine, TooDeep}
use Rattle.tw_base.specs.declared.value.Value.{Value}
use Rattle.tw_base.specs.declared.value.Value.TheVariants as v
use Rattle.teapot_tree.specs.declared.protocol.Protocol.{Protocol}
use Rattle.teapot_meaning.specs.Depth.{nodes_in}
use Rattle.teapot_meaning.specs.Steps.{least_of, set_of}
use Rattle.handler_code.specs.declared.code.Code.{Code}
use Rattle.handler_code.specs.declared.code.OpCode.{OpCode}
use Rattle.handler_code.specs.declared.code.OpCode.TheVariants as op
use Rattle.handler_code.specs.declared.code.Rest.{Rest}
use Rattle.handler_code.specs.Machine.{Machine, Move, Next, Runs, Saved, Stop, Stopped, act, act_at, below, is_live}
use Rattle.handler_code.specs.Machine.{message_arity, move_of, moves, resumed, saved_values, state_arity, stopped, stops}
use Rattle.handler_code.specs.Machine.{suspended, top, turn, value_at}
use Rattle.value_nodes.specs.Within.{AreWithin, HasNoNodes, IsMachineWithin, IsSavedWithin, IsSendWithin, IsStoppedWithin}
use Rattle.value_nodes.specs.Within.{IsValueWithin, RunsStayWithin}
use Rattle.value_nodes.proofs.Within.{at_within, below_within, count_within, each_append, each_drop, each_reverse, each_set}
use Rattle.value_nodes.proofs.Within.{each_take, least_within, live_within, node_within, nodes_within, none_within, not_within}
use Rattle.value_nodes.proofs.Within.{one_within, outs_within, set_within, top_within, two_within, without_within}

module _ (n : ℕ) (some : 0 < n) (p : Protocol) (code : Code) where
  abbrev W : Machine → Type 0
  W m = IsMachineWithin n m

  abbrev MovesWithin : Move → Type 0
  MovesWithin (Next m) = W m
  MovesWithin (Stop e) = IsStoppedWithin n e

  stop_within : (m : Machine) (end : End) → W m → IsStoppedWithin n (stopped m end)
  stop_within m end w = record { infos = w.infos; args = w.args; chain = w.chain; sends = w.sends }

  -- a value on what is left of the stack
  push_within : (m : Machine) (stack : List Value) (x : Value) (at ops : ℕ) → IsValueWithin n x → AreWithin n stack → W m →
      W (record m { at = at; ops = ops; stack = x ∷ stack })
  push_within m stack x at ops h s w =
      record {
        slots = w.slots;
        stack = (h, s);
        infos = w.infos;
        args = w.args;
        chain = w.chain;
        me = w.me;
        home = w.home;
        sends = w.sends;
      }

  -- the same values elsewhere
  same_within : (m : Machine) (at ops : ℕ) → W m → W (record m { at = at; ops = ops })
  same_within m at ops w =
      record {
        slots = w.slots;
        stack = w.stack;
        infos = w.infos;
        args = w.args;
        chain = w.chain;
        me = w.me;
        home = w.home;
        sends = w.sends;
      }

  args_within : (m : Machine) (count : ℕ) → W m → AreWithin n (reverse (take count m.stack))
  args_within m count w = each_reverse (IsValueWithin n) (take count m.stack) (each_take (IsValueWithin n) count m.stack w.stack)

  left_within : (m : Machine) (count : ℕ) → W m → AreWithin n (drop count m.stack)
  left_within m count w = each_drop (IsValueWithin n) count m.stack w.stack

  rest_within : (o : Option Rest) (slots : List Value) → AreWithin n slots → AreWithin n (saved_values o slots)
  rest_within (Some rest) slots h = live_within n (is_live rest) 0 slots h
  rest_within None slots h = h

  suspend_within : (m : Machine) (state rest : ℕ) (args : List Value) (b : Bool) → AreWithin n args → W m →
      MovesWithin (if b then Stop (stopped m TooDeep) else Stop (stopped (suspended code m state args rest) Fine))
  suspend_within m state rest args true h w = stop_within m TooDeep w
  suspend_within m state rest args false h w = record {
    infos = w.infos;
    args = h;
    chain = ((rest_within (slice_get code.rests rest) m.slots w.slots, w.args), w.chain);
    sends = w.sends;
  }

  resume_within : (m : Machine) (chain : List Saved) → Each (IsSavedWithin n) chain → W m → MovesWithin (resumed code m chain)
  resume_within m [] h w = stop_within m Fine w
  resume_within m (first ∷ chain) h w =
      record { slots = h.0.0; stack = tt; infos = w.infos; args = h.0.1; chain = h.1; me = w.me; home = w.home; sends = w.sends }

  turn_within : (m : Machine) (k h to : ℕ) (set : List Bool) (o : Option ℕ) → least_of set ≡ o → IsValueWithin n (v.Set set) →
      W m → W (turn m k h to set o)
  turn_within m k h to set None e s w = same_within m to _ w
  turn_within m k h to set (Some j) e s w = record {
    slots = each_set (IsValueWithin n) _ h (v.Set (without set j)) (without_within n j set s)
        (each_set (IsValueWithin n) m.slots k (v.Node j) (least_within n j set s e) w.slots);
    stack = w.stack;
    infos = w.infos;
    args = w.args;
    chain = w.chain;
    me = w.me;
    home = w.home;
    sends = w.sends;
  }

  -- what an op does, whose constant has no node
  act_within : (o : OpCode) (m : Machine) → ((x : Value) → o ≡ op.Const x → IsValueWithin 0 x) → W m →
      MovesWithin (act p code o m)
  act_within (op.Const x) m free w = push_within m m.stack x _ _ (none_within n x (free x refl)) w.stack w
  act_within (op.Get k) m free w = push_within m m.stack _ _ _ (at_within n m.slots k w.slots) w.stack w
  act_within (op.GetInfo k) m free w = push_within m m.stack _ _ _ (at_within n m.around.infos k w.infos) w.stack w
  act_within op.Me m free w = push_within m m.stack (v.Node m.around.me) _ _ w.me w.stack w
  act_within op.Home m free w = push_within m m.stack (v.Node m.around.home) _ _ w.home w.stack w
  act_within op.One m free w =
      push_within m (below m.stack) _ _ _ (one_within n (top m.stack) (top_within n m.stack w.stack))
      (below_within n m.stack w.stack) w
  act_within op.Not m free w =
      push_within m (below m.stack) _ _ _ (not_within n (top m.stack)) (below_within n m.stack w.stack) w
  act_within op.Count m free w =
      push_within m (below m.stack) _ _ _ (count_within n (top m.stack)) (below_within n m.stack w.stack) w
  act_within (op.Two o) m free w =
      let rest = below_within n m.stack w.stack in
      push_within m (below (below m.stack)) _ _ _ (two_within n o (top (below m.stack)) (top m.stack)
      (top_within n (below m.stack) rest) (top_within n m.stack w.stack)) (below_within n (below m.stack) rest) w
  act_within (op.Put k) m free w = record {
    slots = each_set (IsValueWithin n) m.slots k (top m.stack) (top_within n m.stack w.stack) w.slots;
    stack = below_within n m.stack w.stack;
    infos = w.infos;
    args = w.args;
    chain = w.chain;
    me = w.me;
    home = w.home;
    sends = w.sends;
  }
  act_within (op.PutInfo k) m free w = record {
    slots = w.slots;
    stack = below_within n m.stack w.stack;
    infos = each_set (IsValueWithin n) m.around.infos k (top m.stack) (top_within n m.stack w.stack) w.infos;
    args = w.args;
    chain = w.chain;
    me = w.me;
    home = w.home;
    sends = w.sends;
  }
  act_within (op.JumpIfNot to) m free w =
      record {
        slots = w.slots;
        stack = below_within n m.stack w.stack;
        infos = w.infos;
        args = w.args;
        chain = w.chain;
        me = w.me;
        home = w.home;
        sends = w.sends;
      }
  act_within (op.Jump to) m free w = same_within m to _ w
  act_within (op.Tag tag) m free w =
      record {
        slots = w.slots;
        stack = w.stack;
        infos = w.infos;
        args = w.args;
        chain = w.chain;
        me = w.me;
        home = w.home;
        sends = w.sends;
      }
  act_within op.Install m free w =
      record {
        slots = w.slots;
        stack = w.stack;
        infos = w.infos;
        args = w.args;
        chain = w.chain;
        me = w.me;
        home = w.home;
        sends = w.sends;
      }
  act_within op.Enqueue m free w =
      record {
        slots = w.slots;
        stack = w.stack;
        infos = w.infos;
        args = w.args;
        chain = w.chain;
        me = w.me;
        home = w.home;
        sends = w.sends;
      }
  act_within op.Wake m free w =
      record {
        slots = w.slots;
        stack = w.stack;
        infos = w.infos;
        args = w.args;
        chain = w.chain;
        me = w.me;
        home = w.home;
        sends = w.sends;
      }
  act_within (op.Send number) m free w =
      let count = message_arity (slice_get p.messages number) in
      let left = left_within m count w in
      record {
        slots = w.slots;
        stack = below_within n (drop count m.stack) left;
        infos = w.infos;
        args = w.args;
        chain = w.chain;
        me = w.me;
        home = w.home;
        sends = each_append (IsSendWithin n) m.around.sends _ w.sends (
          (node_within n (top (drop count m.stack)) some (top_within n (drop count m.stack) left), args_within m count w),
          tt,
        );
      }
  act_within (op.SendAll number) m free w =
      let count = message_arity (slice_get p.messages number) in
      let left = left_within m count w in
      let to = top (drop count m.stack) in
      record {
        slots = w.slots;
        stack = below_within n (drop count m.stack) left;
        infos = w.infos;
        args = w.args;
        chain = w.chain;
        me = w.me;
        home = w.home;
        sends = each_append (IsSendWithin n) m.around.sends _ w.sends
            (outs_within n number _ _ (nodes_in (set_of to)) (args_within m count w)
            (nodes_within n (set_of to) (set_within n to (top_within n (drop count m.stack) left))));
      }
  act_within (op.Goto state) m free w =
      let count = state_arity (slice_get p.states state) in
      record {
        slots = w.slots;
        stack = left_within m count w;
        infos = w.infos;
        args = args_within m count w;
        chain = w.chain;
        me = w.me;
        home = w.home;
        sends = w.sends;
      }
  act_within (op.Suspend state rest) m free w =
      suspend_within _ state rest _ (nat_le 8 (length m.chain)) (args_within m (state_arity (slice_get p.states state)) w)
      (same_within m (m.at + 1) (m.ops + 1) w)
  act_within op.Resume m free w = resume_within _ m.chain w.chain (same_within m (m.at + 1) (m.ops + 1) w)
  act_within (op.Fail k) m free w = stop_within _ _ (same_within m (m.at + 1) (m.ops + 1) w)
  act_within op.Done m free w = stop_within _ _ (same_within m (m.at + 1) (m.ops + 1) w)
  act_within (op.EachNext k h to) m free w =
      let set = set_of (value_at m.slots h) in
      turn_within m k h to set (least_of set) refl (set_within n (value_at m.slots h) (at_within n m.slots h w.slots)) w
  act_within (op.JumpBack to) m free w = same_within m to _ w

  at_place : (o : Option OpCode) (m : Machine) → ((x : Value) → o ≡ Some (op.Const x) → IsValueWithin 0 x) → W m →
      MovesWithin (act_at p code o m)
  at_place (Some o) m free w = act_within o m (λ x e. free x (some_is o x e)) w
    where
      some_is : (a : OpCode) (x : Value) → a ≡ op.Const x → Some a ≡ Some (op.Const x)
      some_is a x e = cc
  at_place None m free w = stop_within m Fine w

  move_within : HasNoNodes code → (m : Machine) → W m → MovesWithin (move_of p code m)
  move_within free m w = at_place (slice_get code.ops m.at) m (λ x e. free m.at x e) w

  run_within : HasNoNodes code → {m : Machine} {e : Stopped} → W m → Runs p code m e → IsStoppedWithin n e
  run_within free {m = m} w (stops {e = e} is) = subst MovesWithin is (move_within free m w)
  run_within free {m = m} w (moves is more) = run_within free (subst MovesWithin is (move_within free m w)) more

pub runs_stay_within : RunsStayWithin
runs_stay_within n p code m e some free w r = run_within n some p code free w r
