use Rattle.std.proofs.Common.{◌≡◌, ℕ, List, take, drop, is_some}
use Rattle.std.specs.BTreeMap.{get_by}
use Rattle.std.specs.Cmp.Lexicographic.{slice_cmp}
use Rattle.std.specs.List.{list_any}
use Rattle.std.specs.Ordering.{nat_cmp}
use Rattle.std.specs.Str.{bytes_eq}
use Rattle.tw_base.specs.declared.name.Name.{Name}
use Rattle.teapot_rules.specs.Faults.{again_names}
use Rattle.teapot_rules.specs.Lists.{lesser, least, again}
use Rattle.teapot_check.proofs.again.again_named.Given as goal

abbrev pub invariant-loop-named : goal.invariant-loop-named
invariant-loop-named l = record {
  seen : (q : List ℕ) → is_some (get_by (λ k. slice_cmp nat_cmp q k.now) l.seen)
      ≡ list_any (λ (y : Name × ℕ). bytes_eq y.0 q) (take l.named-index l.names);
  found : least (again_names l.names)
      ≡ lesser l.least
      (least (again (λ (x : Name × ℕ) (y : Name × ℕ). bytes_eq y.0 x.0) (λ (x : Name × ℕ). x.1) (take l.named-index l.names)
      (drop l.named-index l.names)));
}
