-- The exact answer of the checker.
use Rattle.std.specs.Prelude.{◌≡◌, Result, Ok, Err}
use Rattle.teapot_tree.specs.declared.protocol.Protocol.{Protocol}
use Rattle.teapot_tree.specs.Rules.{IsAccepted, IsFirstBreak}
use Rattle.teapot_check.specs.declared.checker.CheckError.{CheckError}
use Rattle.teapot_check.specs.declared.checker.CheckError.TheVariants.{Broken, Memory}

abbrev pub IsCause : Protocol → CheckError → Type 0
IsCause p (Broken line rule) = IsFirstBreak p line rule
IsCause p Memory = Unit {0}

-- an accepted protocol unchanged, or its first break
abbrev pub IsAnswer : Protocol → Result Protocol CheckError → Type 0
IsAnswer p (Ok c) = (c ≡ p) × IsAccepted p
IsAnswer p (Err e) = IsCause p e
