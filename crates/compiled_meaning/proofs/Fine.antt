-- Statements whose names are declared and whose arguments are counted.
use Rattle.std.proofs.Common.{◌≡◌, ℕ, List, [], ◌∷◌, length, Some, None}
use Rattle.std.specs.Prelude.{slice_get}
use Rattle.tw_base.specs.declared.name.Name.{Name}
use Rattle.teapot_tree.specs.declared.expr.Expr.{Expr}
use Rattle.teapot_tree.specs.declared.protocol.Protocol.{Protocol}
use Rattle.teapot_tree.specs.declared.stmt.Do.TheOpen.{Do-F}
use Rattle.teapot_tree.specs.declared.stmt.Stmt.{Stmt}
use Rattle.teapot_tree.specs.Scopes.{message_number, state_number}
use Rattle.teapot_meaning.specs.Layers.{what_of}
use Rattle.teapot_meaning.specs.Names.{declared, info_number}
use Rattle.handler_code.specs.declared.code.OpCode.{OpCode}
use Rattle.handler_code.specs.Machine.{message_arity, state_arity}
use Rattle.compiled_meaning.specs.Follows.{plain_op, put_op, slot_of}

pub data Fine (p : Protocol) (names : List Name) : List Stmt → Type 0 where
  none : Fine p names []
  assigns :
      {s : Stmt} {rest : List Stmt} {name : Name} {e : Expr} {o : OpCode} →
      what_of s ≡ Do-F.Assign name e →
      put_op (slot_of names name) (info_number p name) ≡ Some o →
      Fine p names rest →
      Fine p names (s ∷ rest)
  tests :
      {s : Stmt} {rest first : List Stmt} {e : Expr} →
      what_of s ≡ Do-F.If e first None →
      Fine p names first →
      Fine p names rest →
      Fine p names (s ∷ rest)
  branches :
      {s : Stmt} {rest first second : List Stmt} {e : Expr} →
      what_of s ≡ Do-F.If e first (Some second) →
      Fine p names first →
      Fine p names second →
      Fine p names rest →
      Fine p names (s ∷ rest)
  sends :
      {s : Stmt} {rest : List Stmt} {to : Expr} {name : Name} {args : List Expr} →
      what_of s ≡ Do-F.Send to name args →
      message_arity (slice_get p.messages (declared (message_number p name))) ≡ length args →
      Fine p names rest →
      Fine p names (s ∷ rest)
  sends_all :
      {s : Stmt} {rest : List Stmt} {to : Expr} {name : Name} {args : List Expr} →
      what_of s ≡ Do-F.SendAll to name args →
      message_arity (slice_get p.messages (declared (message_number p name))) ≡ length args →
      Fine p names rest →
      Fine p names (s ∷ rest)
  moves :
      {s : Stmt} {rest : List Stmt} {name : Name} {args : List Expr} →
      what_of s ≡ Do-F.SetState name args →
      state_arity (slice_get p.states (declared (state_number p name))) ≡ length args →
      Fine p names rest →
      Fine p names (s ∷ rest)
  suspends :
      {s : Stmt} {rest : List Stmt} {label name passed : Name} {args : List Expr} →
      what_of s ≡ Do-F.Suspend label name args passed →
      state_arity (slice_get p.states (declared (state_number p name))) ≡ length args →
      Fine p names rest →
      Fine p names (s ∷ rest)
  loops :
      {s : Stmt} {rest body : List Stmt} {x : Name} {e : Expr} {k : ℕ} →
      what_of s ≡ Do-F.ForEach x e body →
      slot_of names x ≡ Some k →
      Fine p names body →
      Fine p names rest →
      Fine p names (s ∷ rest)
  plain : {s : Stmt} {rest : List Stmt} {o : OpCode} → plain_op (what_of s) ≡ Some o → Fine p names rest → Fine p names (s ∷ rest)
  resumes : {s : Stmt} {rest : List Stmt} {name : Name} → what_of s ≡ Do-F.Resume name → Fine p names rest →
      Fine p names (s ∷ rest)
  fails : {s : Stmt} {rest : List Stmt} {name : Name} → what_of s ≡ Do-F.Error name → Fine p names rest → Fine p names (s ∷ rest)
