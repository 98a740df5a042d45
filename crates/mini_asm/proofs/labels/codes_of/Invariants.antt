use Rattle.std.proofs.Common.{◌≡◌, drop}
use Rattle.std.specs.BTreeMap.{get_by}
use Rattle.std.specs.Cmp.Lexicographic.{slice_cmp}
use Rattle.std.specs.Ordering.{nat_cmp}
use Rattle.mini_asm.specs.Assembled.{codes_of}
use Rattle.mini_asm.proofs.Fronts.{with_front}
use Rattle.mini_asm.proofs.labels.codes_of.Given as goal

abbrev pub invariant-loop-w : goal.invariant-loop-w
invariant-loop-w l =
    with_front l.instrs.items (codes_of (λ name. get_by (λ k. slice_cmp nat_cmp name k.now) l.places)
    (drop l.w-index l.written))
    ≡ codes_of (λ name. get_by (λ k. slice_cmp nat_cmp name k.now) l.places) l.written
