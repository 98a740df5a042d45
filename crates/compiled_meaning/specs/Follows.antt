-- Which code does what statements say.
use Rattle.std.specs.Prelude.{ℕ, ◌≡◌, ◌+◌, ◌<◌, ◌≤◌, Bool, true, false, List, [], ◌∷◌, ◌++◌, length, Option, Some, None}
use Rattle.std.specs.Prelude.{slice_get, position, unwrap_or, codes}
use Rattle.std.specs.Str.{bytes_eq}
use Rattle.tw_base.specs.NodeSets.{empty, without}
use Rattle.tw_base.specs.declared.name.Name.{Name}
use Rattle.tw_base.specs.declared.value.Value.TheVariants as v
use Rattle.teapot_tree.specs.declared.expr.Expr.{Expr, out-Expr}
use Rattle.teapot_tree.specs.declared.expr.Expr.TheOpen.{Expr-F}
use Rattle.teapot_tree.specs.declared.expr.Op.{Op}
use Rattle.teapot_tree.specs.declared.protocol.Protocol.{Protocol}
use Rattle.teapot_tree.specs.declared.stmt.Do.TheOpen.{Do-F}
use Rattle.teapot_tree.specs.declared.stmt.Stmt.{Stmt}
use Rattle.teapot_meaning.specs.Layers.{Layer, what_of}
use Rattle.teapot_meaning.specs.Names.{declared, error_number, info_number}
use Rattle.teapot_tree.specs.Scopes.{message_number, state_number}
use Rattle.teapot_meaning.specs.Steps.{each, least_of}
use Rattle.handler_code.specs.declared.code.Code.{Code}
use Rattle.handler_code.specs.declared.code.OpCode.{OpCode}
use Rattle.handler_code.specs.declared.code.OpCode.TheVariants as op
use Rattle.handler_code.specs.declared.code.Rest.{Rest}
use Rattle.handler_code.specs.Live.{HasOp}
use Rattle.handler_code.specs.Machine.{message_arity, state_arity}

-- the slot of a variable of the handler
abbrev pub slot_of : List Name → Name → Option ℕ
slot_of names name = position (λ n. bytes_eq n name) names

-- a variable of the handler, else an info
abbrev pub get_op : Option ℕ → Option ℕ → OpCode
get_op (Some k) info = op.Get k
get_op None (Some i) = op.GetInfo i
get_op None None = op.Const (v.Int 0)

abbrev pub put_op : Option ℕ → Option ℕ → Option OpCode
put_op (Some k) info = Some (op.Put k)
put_op None (Some i) = Some (op.PutInfo i)
put_op None None = None

-- the op of an expression that has no parts
abbrev pub atom_op : Protocol → List Name → Expr-F Expr → Option OpCode
atom_op p names (Expr-F.Number n) = Some (op.Const (v.Int n))
atom_op p names Expr-F.True = Some (op.Const (v.Bool true))
atom_op p names Expr-F.False = Some (op.Const (v.Bool false))
atom_op p names Expr-F.Empty = Some (op.Const (v.Set empty))
atom_op p names Expr-F.Src = Some (get_op (slot_of names (codes "src")) (info_number p (codes "src")))
atom_op p names Expr-F.SelfNode = Some op.Me
atom_op p names Expr-F.Home = Some op.Home
atom_op p names (Expr-F.Var name) = Some (get_op (slot_of names name) (info_number p name))
atom_op p names _ = None

-- The ops from the first place up to the second leave the expression's value on the stack.
pub data Evaluates (p : Protocol) (names : List Name) (ops : List OpCode) : ℕ → Expr → ℕ → Type 0 where
  atom : {at : ℕ} {e : Expr} {o : OpCode} → atom_op p names (out-Expr e) ≡ Some o → HasOp ops at o →
      Evaluates p names ops at e (at + 1)
  single :
      {at after : ℕ} {e a : Expr} →
      out-Expr e ≡ Expr-F.One a →
      Evaluates p names ops at a after →
      HasOp ops after op.One →
      Evaluates p names ops at e (after + 1)
  negation :
      {at after : ℕ} {e a : Expr} →
      out-Expr e ≡ Expr-F.Not a →
      Evaluates p names ops at a after →
      HasOp ops after op.Not →
      Evaluates p names ops at e (after + 1)
  counting :
      {at after : ℕ} {e a : Expr} →
      out-Expr e ≡ Expr-F.Count a →
      Evaluates p names ops at a after →
      HasOp ops after op.Count →
      Evaluates p names ops at e (after + 1)
  pair :
      {at middle after : ℕ} {e a b : Expr} {o : Op} →
      out-Expr e ≡ Expr-F.Two o a b →
      Evaluates p names ops at a middle →
      Evaluates p names ops middle b after →
      HasOp ops after (op.Two o) →
      Evaluates p names ops at e (after + 1)

pub data EvaluatesAll (p : Protocol) (names : List Name) (ops : List OpCode) : ℕ → List Expr → ℕ → Type 0 where
  none : {at : ℕ} → EvaluatesAll p names ops at [] at
  more :
      {at middle after : ℕ} {e : Expr} {es : List Expr} →
      Evaluates p names ops at e middle →
      EvaluatesAll p names ops middle es after →
      EvaluatesAll p names ops at (e ∷ es) after

-- the op of a statement that has no operands
abbrev pub plain_op : Layer → Option OpCode
plain_op (Do-F.SetTag tag) = Some (op.Tag tag)
plain_op Do-F.Install = Some op.Install
plain_op Do-F.Enqueue = Some op.Enqueue
plain_op Do-F.WakeUp = Some op.Wake
plain_op _ = None

-- a loop on its way: the slot of its set, and the members that are left
pub record Loop : Type 0 where
  pub slot : ℕ
  pub set : List Bool

-- The slots of the loops on their way, the innermost first, lie between the variables and this slot.
abbrev pub Nested : List Name → ℕ → List Loop → Type 0
Nested names bound [] = length names ≤ bound
Nested names bound (l ∷ loops) = (l.slot < bound) × Nested names l.slot loops

-- The code from this place on is that of the statements, where these loops are on their way. The handler has `width` slots.
pub data Follows (p : Protocol) (names : List Name) (width : ℕ) (code : Code) : ℕ → List Stmt → List Loop → Type 0 where
  ends : {at : ℕ} → HasOp code.ops at op.Done → Follows p names width code at [] []
  jumps :
      {at to : ℕ} {stmts : List Stmt} {loops : List Loop} →
      HasOp code.ops at (op.Jump to) →
      at < to →
      Follows p names width code to stmts loops →
      Follows p names width code at stmts loops
  plain :
      {at : ℕ} {s : Stmt} {rest : List Stmt} {loops : List Loop} {o : OpCode} →
      plain_op (what_of s) ≡ Some o →
      HasOp code.ops at o →
      Follows p names width code (at + 1) rest loops →
      Follows p names width code at (s ∷ rest) loops
  assigns :
      {at after : ℕ} {s : Stmt} {rest : List Stmt} {loops : List Loop} {name : Name} {e : Expr} {o : OpCode} →
      what_of s ≡ Do-F.Assign name e →
      Evaluates p names code.ops at e after →
      put_op (slot_of names name) (info_number p name) ≡ Some o →
      HasOp code.ops after o →
      Follows p names width code (after + 1) rest loops →
      Follows p names width code at (s ∷ rest) loops
  branches :
      {at after to : ℕ} {s : Stmt} {rest first : List Stmt} {loops : List Loop} {second : Option (List Stmt)} {e : Expr} →
      what_of s ≡ Do-F.If e first second →
      Evaluates p names code.ops at e after →
      HasOp code.ops after (op.JumpIfNot to) →
      Follows p names width code (after + 1) (first ++ rest) loops →
      Follows p names width code to (unwrap_or second [] ++ rest) loops →
      Follows p names width code at (s ∷ rest) loops
  sends :
      {at middle after : ℕ} {s : Stmt} {rest : List Stmt} {loops : List Loop} {to : Expr} {name : Name} {args : List Expr} →
      what_of s ≡ Do-F.Send to name args →
      Evaluates p names code.ops at to middle →
      EvaluatesAll p names code.ops middle args after →
      HasOp code.ops after (op.Send (declared (message_number p name))) →
      message_arity (slice_get p.messages (declared (message_number p name))) ≡ length args →
      Follows p names width code (after + 1) rest loops →
      Follows p names width code at (s ∷ rest) loops
  sends_all :
      {at middle after : ℕ} {s : Stmt} {rest : List Stmt} {loops : List Loop} {to : Expr} {name : Name} {args : List Expr} →
      what_of s ≡ Do-F.SendAll to name args →
      Evaluates p names code.ops at to middle →
      EvaluatesAll p names code.ops middle args after →
      HasOp code.ops after (op.SendAll (declared (message_number p name))) →
      message_arity (slice_get p.messages (declared (message_number p name))) ≡ length args →
      Follows p names width code (after + 1) rest loops →
      Follows p names width code at (s ∷ rest) loops
  moves :
      {at after : ℕ} {s : Stmt} {rest : List Stmt} {loops : List Loop} {name : Name} {args : List Expr} →
      what_of s ≡ Do-F.SetState name args →
      EvaluatesAll p names code.ops at args after →
      HasOp code.ops after (op.Goto (declared (state_number p name))) →
      state_arity (slice_get p.states (declared (state_number p name))) ≡ length args →
      Follows p names width code (after + 1) rest loops →
      Follows p names width code at (s ∷ rest) loops
  suspends :
      {at after r : ℕ} {s : Stmt} {rest : List Stmt} {loops : List Loop} {label name passed : Name} {args : List Expr}
      {saved : Rest} →
      what_of s ≡ Do-F.Suspend label name args passed →
      EvaluatesAll p names code.ops at args after →
      HasOp code.ops after (op.Suspend (declared (state_number p name)) r) →
      state_arity (slice_get p.states (declared (state_number p name))) ≡ length args →
      slice_get code.rests r ≡ Some saved →
      saved.at ≡ after + 1 →
      Follows p names width code (after + 1) rest loops →
      Follows p names width code at (s ∷ rest) loops
  resumes :
      {at : ℕ} {s : Stmt} {rest : List Stmt} {loops : List Loop} {name : Name} →
      what_of s ≡ Do-F.Resume name →
      HasOp code.ops at op.Resume →
      Follows p names width code at (s ∷ rest) loops
  fails :
      {at : ℕ} {s : Stmt} {rest : List Stmt} {loops : List Loop} {name : Name} →
      what_of s ≡ Do-F.Error name →
      HasOp code.ops at (op.Fail (error_number p name)) →
      Follows p names width code at (s ∷ rest) loops
  begins :
      {at after slot : ℕ} {s : Stmt} {rest body : List Stmt} {loops : List Loop} {x : Name} {e : Expr} →
      what_of s ≡ Do-F.ForEach x e body →
      Evaluates p names code.ops at e after →
      HasOp code.ops after (op.Put slot) →
      slot < width →
      Nested names slot loops →
      ((set : List Bool) → Follows p names width code (after + 1) (each x set body ∷ rest)
      (record { slot = slot; set = set } ∷ loops)) →
      Follows p names width code at (s ∷ rest) loops
  ends_loop :
      {at k slot to : ℕ} {set : List Bool} {s : Stmt} {rest body : List Stmt} {loops : List Loop} {x : Name} →
      what_of s ≡ Do-F.Each x set body →
      least_of set ≡ None →
      HasOp code.ops at (op.EachNext k slot to) →
      Follows p names width code to rest loops →
      Follows p names width code at (s ∷ rest) (record { slot = slot; set = set } ∷ loops)
  turns :
      {at k slot to n : ℕ} {set : List Bool} {s : Stmt} {rest body : List Stmt} {loops : List Loop} {x : Name} →
      what_of s ≡ Do-F.Each x set body →
      least_of set ≡ Some n →
      slot_of names x ≡ Some k →
      HasOp code.ops at (op.EachNext k slot to) →
      Follows p names width code (at + 1) (body ++ each x (without set n) body ∷ rest)
      (record { slot = slot; set = without set n } ∷ loops) →
      Follows p names width code at (s ∷ rest) (record { slot = slot; set = set } ∷ loops)
  jumps_back :
      {at to k slot out : ℕ} {stmts : List Stmt} {loops : List Loop} →
      HasOp code.ops at (op.JumpBack to) →
      HasOp code.ops to (op.EachNext k slot out) →
      Follows p names width code to stmts loops →
      Follows p names width code at stmts loops
