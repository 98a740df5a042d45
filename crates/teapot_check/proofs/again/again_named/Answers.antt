use Rattle.std.proofs.Common.{ℕ, ◌+◌, cond, Some, take, drop, ap, sym, ◌∙◌}
use Rattle.std.specs.BTreeMap.{get_by}
use Rattle.std.specs.Cmp.Lexicographic.{slice_cmp}
use Rattle.std.specs.Ordering.{nat_cmp}
use Rattle.std.specs.Str.{bytes_eq}
use Rattle.std.proofs.lemmas.Map.Text.{btree_map_updates_str}
use Rattle.tw_base.specs.declared.name.Name.{Name}
use Rattle.teapot_rules.specs.Faults.{again_names}
use Rattle.teapot_rules.specs.Lists.{lesser, least, line_if, again}
use Rattle.teapot_rules.proofs.Looping.{again_more}
use Rattle.teapot_check.proofs.Naming.{seen_more}
use Rattle.teapot_check.proofs.again.again_named.Goals as goal

pub loop-named-preserved : goal.loop-named-preserved
loop-named-preserved c =
    let names = c.args.names.now in
    let i = c.loop-named.named-index in
    let x = c.named-item.result in
    let same = λ (x : Name × ℕ) (y : Name × ℕ). bytes_eq y.0 x.0 in
    let line = λ (x : Name × ℕ). x.1 in
    let here = c.lesser-least.ensures ∙ ap (lesser c.loop-named.least)
    (c.line_if.ensures ∙ ap (λ z. least (line_if z x.1)) (c.is_in-later.ensures ∙ c.loop-named.invariant.seen x.0)) in
    record {
      seen = λ q. seen_more names i x q (get_by (λ k. slice_cmp nat_cmp q k.now) c.loop-named.seen)
          (get_by (λ k. slice_cmp nat_cmp q k.now) c.insert.new.self) c.loop-named-test.true c.named-item.is
          (c.loop-named.invariant.seen q)
          (btree_map_updates_str c.bytes.result.now c.loop-named.seen c.insert.new.self _ c.in_ok-insert.ensures.updates q
          ∙ ap (λ z. cond (bytes_eq z q) (Some x.1) (get_by (λ k. slice_cmp nat_cmp q k.now) c.loop-named.seen))
          c.bytes.ensures.value);
      found = again_more same line names i x (least (again_names names)) c.loop-named.least c.loop-named-test.true
          c.named-item.is c.loop-named.invariant.found
          ∙ ap (λ z. lesser z (least (again same line (take (i + 1) names) (drop (i + 1) names)))) (sym here);
    }
