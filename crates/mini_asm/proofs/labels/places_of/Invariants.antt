use Rattle.std.proofs.Common.{◌≡◌, List, ℕ, [], drop, take}
use Rattle.std.specs.BTreeMap.{get_by}
use Rattle.std.specs.Cmp.Lexicographic.{slice_cmp}
use Rattle.std.specs.Ordering.{nat_cmp}
use Rattle.mini_asm.specs.Assembled.{code_count, place_of, twice}
use Rattle.mini_asm.proofs.labels.places_of.Given as goal

abbrev pub invariant-loop-w : goal.invariant-loop-w
invariant-loop-w l = record {
  places : (name : List ℕ) → get_by (λ k. slice_cmp nat_cmp name k.now) l.places ≡ place_of (take l.w-index l.written) name;
  place : l.place ≡ code_count (take l.w-index l.written);
  once : twice (take l.w-index l.written) (drop l.w-index l.written) ≡ twice [] l.written;
}
