-- What the end says of an op on the way, and what the table of depths says.
use Rattle.std.proofs.Common.{◌≡◌, ℕ, ◌+◌, ◌≤◌, Option, Some, None, length, refl, sym, ap, subst, ◌∙◌, inl, arith}
use Rattle.std.specs.Prelude.{All, List, [], ◌∷◌, map, slice_get}
use Rattle.teapot_tree.specs.declared.protocol.Protocol.{Protocol}
use Rattle.handler_code.specs.declared.code.Code.{Code}
use Rattle.handler_code.specs.declared.code.OpCode.{OpCode}
use Rattle.handler_code.specs.declared.code.OpCode.TheVariants as op
use Rattle.handler_code.specs.Live.{HasOp}
use Rattle.handler_code.specs.Machine.{Machine, Move, Next, Saved, Stopped, Runs, stops, moves, act, act_at, move_of}
use Rattle.handler_code.specs.Stacks.{HasDepth, put_by, taken_by}
use Rattle.tw_base.specs.Lists.{Each}
use Rattle.tw_base.specs.declared.message.Message.{Message}
use Rattle.cont_store.specs.declared.record.Record.{Record}
use Rattle.cont_store.specs.Store.{Store}
use Rattle.handler_vm.specs.declared.running.Running.{Running}
use Rattle.handler_vm.specs.Chains.{IsWholeRecord, Spares, records_of, saved_from, saved_of}
use Rattle.handler_vm.specs.Inside.{IsAtOp, IsSound, OnNext, SameBlock, WillStop, machine_of}
use Rattle.handler_vm.specs.Sending.{IsUnsent}
use Rattle.handler_vm.specs.Room.{HasPlaces}
use Rattle.handler_vm.proofs.Acting.{Placed, deeper, placed_next, run_grows}
use Rattle.handler_vm.proofs.Chaining.{spares_all, spares_more}

carried : (p : Protocol) (code : Code) (x : Move) (a b : Machine) (e : Stopped) → x ≡ Next a → x ≡ Next b → Runs p code a e →
    Runs p code b e
carried p code x a b e h k r = let same : a ≡ b = cc in subst (λ m. Runs p code m e) same r

-- the end of the machine is that of the next one
pub rest_of : (p : Protocol) (code : Code) {m : Machine} {e : Stopped} (n : Machine) → Runs p code m e →
    move_of p code m ≡ Next n → Runs p code n e
rest_of p code n (stops h) k = cc
rest_of p code n (moves {next = a} {e = e} h rest) k = carried p code _ a n e h k rest

pub room_next : (p : Protocol) (code : Code) (room : ℕ) {m : Machine} {e : Stopped} → Runs p code m e →
    length e.around.sends ≤ room → OnNext (λ n. length n.around.sends ≤ room) (move_of p code m)
room_next p code room (stops h) few = subst (OnNext (λ n. length n.around.sends ≤ room)) (sym h) tt
room_next p code room (moves h rest) few = subst (OnNext (λ n. length n.around.sends ≤ room)) (sym h)
    (omega (arith, (run_grows p code rest).1, few))

pub move_is : (p : Protocol) (code : Code) (m : Machine) (o : OpCode) → slice_get code.ops m.at ≡ Some o →
    move_of p code m ≡ act p code o m
move_is p code m o e = ap (λ x. act_at p code x m) e

module _ (p : Protocol) (code : Code) (depth : ℕ → ℕ) (h : HasDepth p code depth) where
  -- the values that an op leaves have room
  pub fits_at : (at : ℕ) (o : OpCode) → HasOp code.ops at o → depth at + put_by o ≤ 24 + taken_by p o
  fits_at at (op.Const x) has = omega (arith, h.leads at (at + 1) (op.Const x) None has (refl, refl), h.most (at + 1))
  fits_at at (op.Get k) has = omega (arith, h.leads at (at + 1) (op.Get k) None has (refl, refl), h.most (at + 1))
  fits_at at (op.GetInfo k) has = omega (arith, h.leads at (at + 1) (op.GetInfo k) None has (refl, refl), h.most (at + 1))
  fits_at at op.Me has = omega (arith, h.leads at (at + 1) op.Me None has (refl, refl), h.most (at + 1))
  fits_at at op.Home has = omega (arith, h.leads at (at + 1) op.Home None has (refl, refl), h.most (at + 1))
  fits_at at op.One has = omega (arith, h.leads at (at + 1) op.One None has (refl, refl), h.most (at + 1))
  fits_at at op.Not has = omega (arith, h.leads at (at + 1) op.Not None has (refl, refl), h.most (at + 1))
  fits_at at op.Count has = omega (arith, h.leads at (at + 1) op.Count None has (refl, refl), h.most (at + 1))
  fits_at at (op.Two o) has = omega (arith, h.leads at (at + 1) (op.Two o) None has (refl, refl), h.most (at + 1))
  fits_at at (op.Put k) has = omega (arith, h.leads at (at + 1) (op.Put k) (Some k) has (refl, refl), h.most (at + 1))
  fits_at at (op.PutInfo k) has = omega (arith, h.leads at (at + 1) (op.PutInfo k) None has (refl, refl), h.most (at + 1))
  fits_at at (op.JumpIfNot to) has = omega (arith, h.leads at (to) (op.JumpIfNot to) None has (inl refl, refl), h.most (to))
  fits_at at (op.Jump to) has = omega (arith, h.leads at (to) (op.Jump to) None has (refl, refl), h.most (to))
  fits_at at (op.Tag tag) has = omega (arith, h.leads at (at + 1) (op.Tag tag) None has (refl, refl), h.most (at + 1))
  fits_at at op.Install has = omega (arith, h.leads at (at + 1) op.Install None has (refl, refl), h.most (at + 1))
  fits_at at op.Enqueue has = omega (arith, h.leads at (at + 1) op.Enqueue None has (refl, refl), h.most (at + 1))
  fits_at at op.Wake has = omega (arith, h.leads at (at + 1) op.Wake None has (refl, refl), h.most (at + 1))
  fits_at at (op.Send number) has = omega (arith, h.leads at (at + 1) (op.Send number) None has (refl, refl), h.most (at + 1))
  fits_at at (op.SendAll number) has = omega (
    arith,
    h.leads at (at + 1) (op.SendAll number) None has (refl, refl),
    h.most (at + 1),
  )
  fits_at at (op.Goto state) has = omega (arith, h.leads at (at + 1) (op.Goto state) None has (refl, refl), h.most (at + 1))
  fits_at at (op.Suspend state rest) has = omega (
    arith,
    h.leads at (at + 1) (op.Suspend state rest) None has (refl, refl),
    h.most (at + 1),
  )
  fits_at at op.Resume has = omega (arith, h.most at)
  fits_at at (op.Fail n) has = omega (arith, h.leads at (at + 1) (op.Fail n) None has (refl, refl), h.most (at + 1))
  fits_at at op.Done has = omega (arith, h.most at)
  fits_at at (op.EachNext k s to) has = omega (
    arith,
    h.leads at (to) (op.EachNext k s to) None has (inl (refl, refl)),
    h.most (to),
  )
  fits_at at (op.JumpBack to) has = omega (arith, h.leads at (to) (op.JumpBack to) None has (refl, refl), h.most (to))

  deep_by : (m : Machine) → depth m.at ≡ length m.stack → (o : Option OpCode) → slice_get code.ops m.at ≡ o →
      OnNext (λ n. depth n.at ≡ length n.stack) (act_at p code o m)
  deep_by m deep (Some o) e = deeper p code depth h o m e deep
  deep_by m deep None e = tt

  deep_next : (m n : Machine) → depth m.at ≡ length m.stack → move_of p code m ≡ Next n → depth n.at ≡ length n.stack
  deep_next m n deep e = let d : OnNext (λ n. depth n.at ≡ length n.stack) (Next n) =
      subst (OnNext (λ n. depth n.at ≡ length n.stack)) e (deep_by m deep (slice_get code.ops m.at) refl) in d

module _ (p : Protocol) (code : Code) (width : ℕ → ℕ) (h : HasPlaces p code width) where
  placed_at : (m : Machine) → Placed code width m → Each (λ (s : Saved). length s.values ≡ 21) m.chain → (o : Option OpCode) →
      slice_get code.ops m.at ≡ o → OnNext (Placed code width) (act_at p code o m)
  placed_at m placed full (Some o) e = placed_next p code width h o m e placed full
  placed_at m placed full None e = tt

  placed_by : (m n : Machine) → Placed code width m → Each (λ (s : Saved). length s.values ≡ 21) m.chain →
      move_of p code m ≡ Next n → Placed code width n
  placed_by m n placed full e =
      let after : OnNext (Placed code width) (Next n) = subst (OnNext (Placed code width)) e
      (placed_at m placed full (slice_get code.ops m.at) refl) in after

-- ---- the run's place

all_full : (p : Protocol) (words : ℕ) (rs : List Record) → Each (IsWholeRecord words) rs →
    Each (λ (s : Saved). length s.values ≡ 21) (map (saved_of p) rs)
all_full p words [] whole = tt
all_full p words (r ∷ rs) whole = (whole.0.values, all_full p words rs whole.1)

at_op_next :
    (p : Protocol) (code : Code) (now next : Running) (sent more : List Message) (store other : Store) → IsSound p now store →
    IsAtOp p code now
    → move_of p code (machine_of p now sent (saved_from p store now.cont))
    ≡ Next (machine_of p next more (saved_from p other next.cont)) → IsAtOp p code next
at_op_next p code now next sent more store other sound at on =
    let m = machine_of p now sent (saved_from p store now.cont) in
    let n = machine_of p next more (saved_from p other next.cont) in
    let full = all_full p (length now.words) (records_of store now.cont) sound.chain.whole in
    let placed : Placed code at.room.width m = record { there = at.there; wide = at.wide } in
    let after : Placed code at.room.width n = placed_by p code at.room.width at.room.places m n placed full on in
    record {
      room = at.room;
      deep = deep_next p code at.room.depth at.room.stack m n at.deep on;
      there = after.there;
      wide = after.wide;
    }

-- ---- a run under way

-- What was so at the start of a run, and what is so at each op. Whatever the run comes to now, it came to from the start.
pub record Underway (p : Protocol) (code : Code) (was : Running) (first : List Message) (old : Store) (now : Running)
    (sent : List Message) (store : Store) (room : ℕ) : Type 0 where
  pub back : (e : Stopped) → Runs p code (machine_of p now sent (saved_from p store now.cont)) e →
      Runs p code (machine_of p was first (saved_from p old was.cont)) e
  pub sound : IsSound p now store
  pub placed : IsAtOp p code now
  pub stops : WillStop p code room (machine_of p now sent (saved_from p store now.cont))
  pub spares : Spares old store was.cont now.cont
  pub unsent : All (IsUnsent p was.me was.block) first → All (IsUnsent p was.me was.block) sent
  pub block : SameBlock p was now
  pub words : length now.words ≡ length was.words

pub underway_first : (p : Protocol) (code : Code) (was : Running) (first : List Message) (old : Store) (room : ℕ) →
    IsSound p was old → IsAtOp p code was
    → WillStop p code room (machine_of p was first (saved_from p old was.cont)) → Underway p code was first old was first old room
underway_first p code was first old room sound placed will = record {
  back = λ e r. r;
  sound = sound;
  placed = placed;
  stops = will;
  spares = spares_all old was.cont;
  unsent = λ all. all;
  block = record { me = refl; for_block = refl; others = refl };
  words = refl;
}

same_unsent : (p : Protocol) (me you block other : ℕ) (sent : List Message) → me ≡ you → block ≡ other →
    All (IsUnsent p me block) sent → All (IsUnsent p you other) sent
same_unsent p me you block other sent e f all = subst (λ (x : ℕ). All (IsUnsent p you x) sent) f
    (subst (λ (x : ℕ). All (IsUnsent p x block) sent) e all)

will_stop : (p : Protocol) (code : Code) (room : ℕ) (m n : Machine) → WillStop p code room m → move_of p code m ≡ Next n →
    WillStop p code room n
will_stop p code room m n s on = record { stop = s.stop; runs = rest_of p code n s.runs on; ops = s.ops; sends = s.sends }

module _ (p : Protocol) (code : Code) (was : Running) (first : List Message) (old : Store) (now next : Running)
    (sent more : List Message) (store other : Store) (room : ℕ) where
  pub underway_next :
      Underway p code was first old now sent store room
      → move_of p code (machine_of p now sent (saved_from p store now.cont))
      ≡ Next (machine_of p next more (saved_from p other next.cont))
      → IsSound p next other → Spares store other now.cont next.cont
      → (All (IsUnsent p now.me now.block) sent → All (IsUnsent p now.me now.block) more)
      → SameBlock p now next → length next.words ≡ length now.words
      → Underway p code was first old next more other room
  underway_next u on sound spares unsent block words = record {
    back = λ e r. u.back e (moves on r);
    sound = sound;
    placed = at_op_next p code now next sent more store other u.sound u.placed on;
    stops = will_stop p code room (machine_of p now sent (saved_from p store now.cont))
        (machine_of p next more (saved_from p other next.cont)) u.stops on;
    spares = spares_more u.spares spares;
    unsent = λ all. same_unsent p now.me was.me now.block was.block more u.block.me u.block.for_block
        (unsent (same_unsent p was.me now.me was.block now.block sent (sym u.block.me) (sym u.block.for_block) (u.unsent all)));
    block = record {
      me = block.me ∙ u.block.me;
      for_block = block.for_block ∙ u.block.for_block;
      others = block.others
          ∙ u.block.others;
    };
    words = words ∙ u.words;
  }
