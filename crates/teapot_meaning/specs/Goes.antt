-- The meaning of a list of statements.
use Rattle.std.specs.Prelude.{◌≡◌, List}
use Rattle.teapot_tree.specs.declared.protocol.Protocol.{Protocol}
use Rattle.teapot_tree.specs.declared.stmt.Stmt.{Stmt}
use Rattle.teapot_meaning.specs.declared.state.Ended.{Ended}
use Rattle.teapot_meaning.specs.declared.state.Next.TheVariants.{On, Over}
use Rattle.teapot_meaning.specs.declared.state.Running.{Running}
use Rattle.teapot_meaning.specs.Steps.{next_of}

-- From this state the statements come to this end.
pub data Goes (p : Protocol) : List Stmt → Running → Ended → Type 0 where
  ends : {stmts : List Stmt} {r : Running} {e : Ended} → next_of p stmts r ≡ Over e → Goes p stmts r e
  goes_on :
      {stmts rest : List Stmt} {r after : Running} {e : Ended} →
      next_of p stmts r ≡ On rest after →
      Goes p rest after e →
      Goes p stmts r e

-- exactly one end
pub record HasOneEnd (p : Protocol) (stmts : List Stmt) (r : Running) : Type 0 where
  pub end : Ended
  pub goes : Goes p stmts r end
  pub only : (e : Ended) → Goes p stmts r e → e ≡ end
