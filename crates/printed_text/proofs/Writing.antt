-- Text that a format writes.
use Rattle.std.proofs.Common.{◌≡◌, ℕ, List, ◌++◌, Option, Some, None}
use Rattle.std.specs.Prelude.{IfSome}
use Rattle.std.specs.Fmt.{AppendsText, WritesInCalls}
use Rattle.std.proofs.lemmas.Fmt.{contents_after_writes}

pub written : (before after : List ℕ) (o : Option (List ℕ)) →
    IfSome o (λ piece. WritesInCalls (λ b p a. a ≡ b ++ p) before piece after) → AppendsText before after o
written before after None h = h
written before after (Some piece) h = contents_after_writes (λ b p a. a ≡ b ++ p) (λ text. text)
    (λ b p a is. is) before piece after h
