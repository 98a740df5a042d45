use Rattle.std.proofs.Common.{◌≡◌, take}
use Rattle.compiled_meaning.specs.Compiled.{code_of}
use Rattle.suspend_split.proofs.stmts.+stmts.Given as goal

abbrev pub invariant-list_ops-stmts : goal.invariant-list_ops-stmts
invariant-list_ops-stmts l = l.ops ≡ code_of l.w.protocol.now l.names
    (take l.s-index l.stmts) l.start.at l.start.rest l.start.slot
