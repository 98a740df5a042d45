-- A source or a sink over another reader or writer, as its callers see it.
use Rattle.std.specs.Prelude.{ℕ, List, Option}

-- What the inner one tells of its bytes, those to come or those written, and how often it failed.
pub record Told : Type 0 where
  pub bytes : Option (List ℕ)
  pub faults : ℕ
